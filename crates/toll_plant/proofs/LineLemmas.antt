-- The lines of a report, one by one.
use Rattle.std.proofs.Common.{◌≡◌, ◌+◌, ◌<◌, ℕ, suc, List, [], ◌∷◌, ◌++◌, length, drop, get_or, sym, ap, ◌∙◌, append_assoc, add-one, arith}
use Rattle.toll_plant.proofs.Common.{drop-cons, map-append, take_more}
use Rattle.toll_plant.specs.declared.outcome.Outcome.{Outcome}
use Rattle.std.specs.Prelude.{take}
use Rattle.toll_plant.specs.Imports.{AreNumberedFrom, outcomes_in}
use Rattle.toll_plant.specs.declared.report.ImportLine.{ImportLine}

-- One more line has the next number.
pub numbered_more : (n : ℕ) (lines : List ImportLine) (l : ImportLine) → AreNumberedFrom n lines → l.number ≡ length lines + n → AreNumberedFrom n (lines ++ l ∷ [])
numbered_more n [] l numbered next = (omega (arith, next), tt)
numbered_more n (k ∷ lines) l numbered next = (numbered.0, numbered_more (n + 1) lines l numbered.1 (omega (arith, next)))

-- The outcome of one more line follows those from before.
pub outcomes_more : (first before grown : List ImportLine) (reported : List Outcome) (i number : ℕ) (d : Outcome) → i < length reported → grown ≡ before ++ record { number = number; outcome = get_or reported i d } ∷ [] → outcomes_in before ≡ outcomes_in first ++ take i reported
    → outcomes_in grown ≡ outcomes_in first ++ take (i + 1) reported
outcomes_more first before grown reported i number d there is so_far =
    ap outcomes_in is ∙ map-append (λ (k : ImportLine). k.outcome) before (record { number = number; outcome = get_or reported i d } ∷ [])
    ∙ ap (λ os. os ++ get_or reported i d ∷ []) so_far ∙ append_assoc (outcomes_in first) (take i reported) (get_or reported i d ∷ []) ∙ ap (λ os. outcomes_in first ++ os) (sym (take_more reported i d there))

-- The item at a place comes first of those from this place on.
pub item_there : {X : Type 0} (items : List X) (i : ℕ) (x : X) → i < length items → x ≡ get_or items i x → drop i items ≡ x ∷ drop (i + 1) items
item_there items i x there is = drop-cons items i x there ∙ (ap (λ y. y ∷ drop (suc i) items) (sym is) ∙ ap (λ k. x ∷ drop k items) (sym (add-one i)))
