-- The pieces of a text, split at the first byte of this kind.
use Rattle.std.proofs.Common.{◌≡◌, ◌∙◌, ℕ, ◌+◌, ◌-◌, ◌<◌, ◌≤◌, Bool, true, false, cond, List, [], ◌∷◌, length, take, drop, sym, ap, refl, arith, None, Some}
use Rattle.std.specs.Prelude.{◌==◌, nat_lt, position}
use Rattle.std.specs.List.{position_or_len}
use Rattle.std.proofs.lemmas.Bool.Decides.{nat_tests}
use Rattle.std.proofs.lemmas.List.{take_rest}
use Rattle.std.proofs.lemmas.List.Elements.{All-from_get_or}
use Rattle.std.proofs.lemmas.List.Splits.{slice_split_first, slice_split_none}
use Rattle.std.proofs.lemmas.List.Sums.{fails_before_first}
use Rattle.toll_programs.specs.Pieces.{pieces_at}

place_within : (n len i : ℕ) → cond (nat_lt n len) (Some n) None ≡ Some i → (n < len) × (n ≡ i)
place_within n len i e = go (nat_lt n len) refl e
  where
    go : (b : Bool) → nat_lt n len ≡ b → cond b (Some n) None ≡ Some i → (n < len) × (n ≡ i)
    go true is e = (grind (arith, nat_tests), cc)
    go false is e = absurd (cc e)

place_past : (n len : ℕ) → cond (nat_lt n len) (Some n) None ≡ None → len ≤ n
place_past n len e = go (nat_lt n len) refl e
  where
    go : (b : Bool) → nat_lt n len ≡ b → cond b (Some n) None ≡ None → len ≤ n
    go true is e = absurd (cc e)
    go false is e = grind (arith, nat_tests)

pub pieces_at_place : (byte : ℕ) (text : List ℕ) (i : ℕ) → position (λ b. b == byte) text ≡ Some i
    → pieces_at byte text ≡ take i text ∷ pieces_at byte (take (length text - (i + 1)) (drop (i + 1) text))
pieces_at_place byte text i e =
    let p : ℕ → Bool = λ b. b == byte in
    let found = place_within (position_or_len p text) (length text) i e in
    slice_split_first p text 0 found.0
    ∙ (ap (λ n. take n text ∷ pieces_at byte (drop (n + 1) text)) found.1
    ∙ ap (λ rest. take i text ∷ pieces_at byte rest) (sym (take_rest text (i + 1))))

pub one_piece : (byte : ℕ) (text : List ℕ) → position (λ b. b == byte) text ≡ None → pieces_at byte text ≡ text ∷ []
one_piece byte text e =
    let p : ℕ → Bool = λ b. b == byte in
    let past = place_past (position_or_len p text) (length text) e in
    slice_split_none p text (All-from_get_or (λ x. p x ≡ false) text 0 (λ i within. fails_before_first p text i 0 (omega arith)))
