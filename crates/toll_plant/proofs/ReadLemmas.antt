-- Values, read one by one.
use Rattle.std.proofs.Common.{◌≡◌, ◌∙◌, List, [], ◌∷◌, ◌++◌, map, refl, sym, ap, append_assoc, inl, inr}
use Rattle.std.specs.Prelude.{◌⊎◌, Result, Ok, Err}
use Rattle.toll_plant.proofs.Common.{append-nil, Bytes, Refusal}
use Rattle.toll_plant.specs.Lines.{Argument}
use Rattle.toll_plant.specs.Readings.{read_as}
use Rattle.toll_plant.specs.Words.{in_front, values_read}
use Rattle.toll_plant.specs.declared.argument.ArgumentValue.{ArgumentValue}

-- values that were read, in front of those that are left
abbrev pub with_front : List ArgumentValue → Result (List ArgumentValue) Refusal → Result (List ArgumentValue) Refusal
with_front front (Err why) = Err why
with_front front (Ok values) = Ok (front ++ values)

in_front_of : (front : List ArgumentValue) (value : ArgumentValue) (left : Result (List ArgumentValue) Refusal)
    → with_front front (in_front (Ok value) left) ≡ with_front (front ++ value ∷ []) left
in_front_of front value (Err why) = refl
in_front_of front value (Ok values) = ap (λ vs. Ok vs) (sym (append_assoc front (value ∷ []) values))

no_front : (left : Result (List ArgumentValue) Refusal) → left ≡ with_front [] left
no_front (Err why) = refl
no_front (Ok values) = refl

module _ {A S : Type 0} (h : A → Argument) (items : S → Bytes) where
  -- the values of these words
  abbrev pub read_over : List A → List S → Result (List ArgumentValue) Refusal
  read_over arguments words = values_read (map h arguments) (map items words)

  pub none_read : (arguments : List A) (words : List S) → read_over arguments words ≡ with_front [] (read_over arguments words)
  none_read arguments words = no_front (read_over arguments words)

  pub one_read : (all : Result (List ArgumentValue) Refusal) (front new : List ArgumentValue) (xs bs : List A) (a : A) (ws vs : List S) (w : S) (value : ArgumentValue)
      → all ≡ with_front front (read_over xs ws) → xs ≡ a ∷ bs → ws ≡ w ∷ vs → read_as (h a).reading (items w) ≡ Ok value
      → new ≡ front ++ value ∷ [] → all ≡ with_front new (read_over bs vs)
  one_read all front new xs bs a ws vs w value before first second reads grown =
      before
      ∙ (ap (λ ys. with_front front (read_over ys ws)) first
      ∙ (ap (λ ys. with_front front (read_over (a ∷ bs) ys)) second
      ∙ (ap (λ r. with_front front (in_front r (read_over bs vs))) reads
      ∙ (in_front_of front value (read_over bs vs) ∙ ap (λ vs'. with_front vs' (read_over bs vs)) (sym grown)))))

  pub refused_value : (all : Result (List ArgumentValue) Refusal) (front : List ArgumentValue) (xs bs : List A) (a : A) (ws vs : List S) (w : S) (why : Refusal)
      → all ≡ with_front front (read_over xs ws) → xs ≡ a ∷ bs → ws ≡ w ∷ vs → read_as (h a).reading (items w) ≡ Err why → all ≡ Err why
  refused_value all front xs bs a ws vs w why before first second reads =
      before
      ∙ (ap (λ ys. with_front front (read_over ys ws)) first
      ∙ (ap (λ ys. with_front front (read_over (a ∷ bs) ys)) second
      ∙ ap (λ r. with_front front (in_front r (read_over bs vs))) reads))

  no_words : (arguments : List A) → read_over arguments [] ≡ Ok []
  no_words [] = refl
  no_words (a ∷ rest) = refl

  pub all_read : (all : Result (List ArgumentValue) Refusal) (front : List ArgumentValue) (xs : List A) (ws : List S)
      → all ≡ with_front front (read_over xs ws) → (xs ≡ []) ⊎ (ws ≡ []) → all ≡ Ok front
  all_read all front xs ws before (inl none) =
      before ∙ (ap (λ ys. with_front front (read_over ys ws)) none ∙ ap (λ vs. Ok vs) (append-nil front))
  all_read all front xs ws before (inr none) =
      before ∙ (ap (λ ys. with_front front (read_over xs ys)) none ∙ (ap (with_front front) (no_words xs) ∙ ap (λ vs. Ok vs) (append-nil front)))
