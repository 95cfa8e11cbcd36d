-- What a keep means. To trust a keep, read which record its type has here.
use Rattle.std.specs.Prelude.{◌≡◌, Bool, false, List}
use Rattle.toll_keep.specs.Common.{Bytes}
use Rattle.toll_keep.specs.Content.{Content}

pub record Meaning (K : Type 0) : Type 1 where
  -- It has the rows of this content.
  pub holds : K → Content → Type 0
  -- No wrong answer of its store has been taken as true.
  pub is_honest : K → Type 0
  -- whether it answered Disk or Damaged, after which it answers Closed
  pub is_closed : K → Bool
  -- Its store has not shut itself.
  pub is_store_open : K → Type 0
  -- whether there was no memory to ask if its store is still live
  pub is_unsure : K → Bool
  -- Its store met a cause of Disk between the first and the second.
  pub has_cause : K → K → Type 0
  -- A stop at this moment leaves one of these contents.
  pub leaves : K → List Content → Type 0

-- What a keep holds for some owners, whatever it has of others.
pub record Part (K : Type 0) : Type 1 where
  -- It has the owners and the units of this content, and its rows of these owners.
  pub holds : K → Content → Type 0
  -- A stop at this moment leaves these of one of these contents.
  pub leaves : K → List Content → Type 0

-- the meaning of a keep for these owners: in all but what it holds and leaves it means the same
abbrev pub meaning_for : {K : Type 0} → Meaning K → (List Bytes → Part K) → List Bytes → Meaning K
meaning_for meaning part os = record meaning { holds = λ k c. (part os).holds k c; leaves = λ k cs. (part os).leaves k cs }

-- the meaning of a keep around another one, if it means the same as the one inside
abbrev pub meaning_of : {K L : Type 0} → (L → K) → Meaning K → Meaning L
meaning_of inside meaning = record {
  holds = λ k c. meaning.holds (inside k) c;
  is_honest = λ k. meaning.is_honest (inside k);
  is_closed = λ k. meaning.is_closed (inside k);
  is_store_open = λ k. meaning.is_store_open (inside k);
  is_unsure = λ k. meaning.is_unsure (inside k);
  has_cause = λ old new. meaning.has_cause (inside old) (inside new);
  leaves = λ k cs. meaning.leaves (inside k) cs;
}

-- If the keep is honest after the call, P holds of any content that it held before.
abbrev pub OverContent : {K : Type 0} → Meaning K → (old new : K) → (Content → Type 0) → Type 0
OverContent meaning old new P = meaning.is_honest new → (c : Content) → meaning.holds old c → P c

-- The same, if its store was live before.
abbrev pub OverLive : {K : Type 0} → Meaning K → (old new : K) → (Content → Type 0) → Type 0
OverLive meaning old new P = meaning.is_honest new → meaning.is_store_open old → (c : Content) → meaning.holds old c → P c

-- No keep of the type is ever closed.
abbrev pub NeverCloses : {K : Type 0} → Meaning K → Type 0
NeverCloses {K} meaning = (k : K) → meaning.is_closed k ≡ false
