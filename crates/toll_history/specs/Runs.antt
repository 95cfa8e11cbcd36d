-- Runs: steps one after another.
use Rattle.std.specs.Prelude.{◌≡◌, List, [], ◌∷◌}

-- The events get the answers one by one, each in one step, and lead from the old state to the new one.
module _ {S E A : Type 0} (Step : S → E → A → S → Type 0) where
  abbrev pub IsRun : S → List E → List A → S → Type 0
  IsRun old [] [] new = new ≡ old
  IsRun old (e ∷ events) (a ∷ answers) new = (middle : S) × Step old e a middle × IsRun middle events answers new
  IsRun old _ _ new = ⊥
