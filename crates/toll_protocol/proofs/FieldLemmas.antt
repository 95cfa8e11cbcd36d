-- A search among fields, one more field at a time.
use Rattle.std.proofs.Common.{◌≡◌, ◌≢◌, ℕ, ◌+◌, ◌<◌, true, false, List, [], ◌∷◌, length, get_or, drop, map, refl, sym, ap, ◌∙◌, add-one}
use Rattle.toll_protocol.proofs.Common.{Pair, Seen, absent, once, several, found_among, values_of, is_named}
use Rattle.std.proofs.Math.Seq.{drop-cons}
use Rattle.toll_protocol.specs.Found.{seen_match}
use Rattle.toll_protocol.specs.declared.http_messages.field.FieldMatch.{FieldMatch}
use Rattle.toll_protocol.specs.declared.http_messages.field.FieldMatch.TheVariants.{Absent, Once, Several}

-- the result so far, together with the values that are left
abbrev pub seen_with : Seen → List (List ℕ) → Seen
seen_with absent vs = found_among vs
seen_with (once v) [] = once v
seen_with (once v) (w ∷ rest) = several
seen_with several vs = several

pub joined_once : (v : List ℕ) (rest : List (List ℕ)) → seen_with absent (v ∷ rest) ≡ seen_with (once v) rest
joined_once v [] = refl
joined_once v (w ∷ rest) = refl

pub joined_several : (s : Seen) (v : List ℕ) (rest : List (List ℕ)) → s ≢ absent → seen_with s (v ∷ rest) ≡ several
joined_several absent v rest ne = absurd (ne refl)
joined_several (once w) v rest ne = refl
joined_several several v rest ne = refl

-- the values from place i on, at a field with this name, and at a field with another
pub values_yes : {A : Type 0} (h : A → Pair) (name : List ℕ) (xs : List A) (i : ℕ) (d : A) → i < length xs → is_named name (h (get_or xs i d)) ≡ true
    → values_of name (map h (drop i xs)) ≡ (h (get_or xs i d)).1 ∷ values_of name (map h (drop (i + 1) xs))
values_yes h name xs i d lt test = rw (drop-cons xs i d lt, test, add-one) refl

pub values_no : {A : Type 0} (h : A → Pair) (name : List ℕ) (xs : List A) (i : ℕ) (d : A) → i < length xs → is_named name (h (get_or xs i d)) ≡ false
    → values_of name (map h (drop i xs)) ≡ values_of name (map h (drop (i + 1) xs))
values_no h name xs i d lt test = rw (drop-cons xs i d lt, test, add-one) refl

-- one turn of the loop, from the result so far and the values that are left
module _ {A : Type 0} (h : A → Pair) (name : List ℕ) (xs : List A) (i : ℕ) (d : A) (s all : Seen) where
  pub step_several : i < length xs → is_named name (h (get_or xs i d)) ≡ true → s ≢ absent
      → seen_with s (values_of name (map h (drop i xs))) ≡ all → all ≡ several
  step_several lt test ne inv = sym inv ∙ (ap (seen_with s) (values_yes h name xs i d lt test) ∙ joined_several s _ _ ne)

  pub step_once : i < length xs → is_named name (h (get_or xs i d)) ≡ true → s ≡ absent
      → seen_with s (values_of name (map h (drop i xs))) ≡ all
      → seen_with (once ((h (get_or xs i d)).1)) (values_of name (map h (drop (i + 1) xs))) ≡ all
  step_once lt test e inv = sym (joined_once _ _) ∙ (sym (ap (seen_with absent) (values_yes h name xs i d lt test)) ∙ (ap (λ t. seen_with t (values_of name (map h (drop i xs)))) (sym e) ∙ inv))

  pub step_no : i < length xs → is_named name (h (get_or xs i d)) ≡ false
      → seen_with s (values_of name (map h (drop i xs))) ≡ all → seen_with s (values_of name (map h (drop (i + 1) xs))) ≡ all
  step_no lt test inv = sym (ap (seen_with s) (values_no h name xs i d lt test)) ∙ inv

pub seen_present : (f : FieldMatch) → (f ≡ Absent → ⊥) → seen_match f ≢ absent
seen_present Absent no_such = absurd (no_such refl)
seen_present (Once v) no_such = λ e. cc e
seen_present Several no_such = λ e. cc e
