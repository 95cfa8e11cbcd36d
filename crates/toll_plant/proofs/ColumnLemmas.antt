-- A number at the right of a column, as a format writes it.
use Rattle.std.proofs.Common.{◌≡◌, ◌-◌, ℕ, zero, suc, cond, [], ◌∷◌, ◌++◌, length, refl, ap, ◌∙◌, arith}
use Rattle.std.specs.Prelude.{decimal, replicate, Result, Ok, Err, OnOk}
use Rattle.toll_plant.proofs.Common.{is_ok, repeat, format_spec, styled_decimal, padded_integral, char_count, append-nil, Bytes}
use Rattle.std.proofs.lemmas.Str.{encode_ascii}
use Rattle.toll_answers.specs.Columns.{right_aligned}

blanks_are : (n : ℕ) → repeat {A = ℕ} n (32 ∷ []) ≡ replicate n 32
blanks_are zero = refl
blanks_are (suc n) = ap (λ bs. 32 ∷ bs) (blanks_are n)

laid_out : (before behind width : ℕ) (fill digits : Bytes) → fill ≡ 32 ∷ [] → before ≡ width → behind ≡ 0 → (((repeat before fill ++ []) ++ []) ++ []) ++ (digits ++ repeat behind fill) ≡ replicate width 32 ++ digits
laid_out before behind width fill digits blank in_front none = rw (blank, in_front, none) (simp append-nil (ap (λ bs. bs ++ digits) (blanks_are width)))

-- a number at the right of six places
pub column_6 : (n : ℕ) → styled_decimal (format_spec 32 3 0 6 18446744073709551615) n ≡ right_aligned 6 (decimal n)
unfolding padded_integral char_count right_aligned
column_6 n =
    let blank = encode_ascii 32 (omega arith) in
    let size = length (decimal n) in
    laid_out (6 - size - 0 - 0) (6 - size - 0 - 0 - (6 - size - 0 - 0)) (6 - size) _ (decimal n) blank (omega arith) (omega arith)

-- If there was memory, the text grew as wanted.
pub ok_added : {T E : Type 0} (r : Result T E) (grown more wanted old : Bytes) → grown ≡ cond (is_ok r) more old → more ≡ wanted → OnOk r (grown ≡ wanted)
ok_added (Ok x) grown more wanted old is same = is ∙ same
ok_added (Err e) grown more wanted old is same = tt
