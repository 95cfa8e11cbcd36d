-- Runs in parts, what stays through a run, and runs of other steps that follow it.
use Rattle.std.proofs.Common.{List, [], ◌∷◌, ◌++◌, refl, sym, subst}
use Rattle.toll_history.specs.Runs.{IsRun}

module _ {S E A : Type 0} (Step : S → E → A → S → Type 0) where
  -- ---- runs in parts

  pub run_one : (old new : S) (e : E) (a : A) → Step old e a new → IsRun Step old (e ∷ []) (a ∷ []) new
  run_one old new e a step = (new, step, refl)

  pub run_then : (old middle new : S) (events more : List E) (answers others : List A) → IsRun Step old events answers middle → IsRun Step middle more others new
      → IsRun Step old (events ++ more) (answers ++ others) new
  run_then old middle new [] more [] others first then = subst (λ s. IsRun Step s more others new) first then
  run_then old middle new (e ∷ events) more (a ∷ answers) others first then = (first.0, first.1, run_then first.0 middle new events more answers others first.2 then)
  run_then old middle new [] more (a ∷ answers) others first then = absurd first
  run_then old middle new (e ∷ events) more [] others first then = absurd first

  pub run_more : (old middle new : S) (events : List E) (answers : List A) (e : E) (a : A) → IsRun Step old events answers middle → Step middle e a new
      → IsRun Step old (events ++ e ∷ []) (answers ++ a ∷ []) new
  run_more old middle new events answers e a before last = run_then old middle new events (e ∷ []) answers (a ∷ []) before (run_one middle new e a last)

  -- ---- what was so before, if each step says so of what is so after it

  module _ (IsSo : S → Type 0) (back : (old new : S) (e : E) (a : A) → Step old e a new → IsSo new → IsSo old) where
    pub run_back : (old new : S) (events : List E) (answers : List A) → IsRun Step old events answers new → IsSo new → IsSo old
    run_back old new [] [] run now = subst IsSo run now
    run_back old new (e ∷ events) (a ∷ answers) run now = back old run.0 e a run.1 (run_back run.0 new events answers run.2 now)
    run_back old new [] (a ∷ answers) run now = absurd run
    run_back old new (e ∷ events) [] run now = absurd run

    -- so it was after each step
    pub run_while : (old new : S) (events : List E) (answers : List A) → IsRun Step old events answers new → IsSo new → IsRun (λ was e a is. Step was e a is × IsSo is) old events answers new
    run_while old new [] [] run now = run
    run_while old new (e ∷ events) (a ∷ answers) run now =
        (run.0, (run.1, run_back run.0 new events answers run.2 now), run_while run.0 new events answers run.2 now)
    run_while old new [] (a ∷ answers) run now = absurd run
    run_while old new (e ∷ events) [] run now = absurd run

-- ---- other steps that follow

-- If each step is followed, from each state that stands for the old one, by another with the same event and answer to a state that stands for the new one, so is each run.
module _ {S T E A : Type 0} (Step : S → E → A → S → Type 0) (Other : T → E → A → T → Type 0) (StandsFor : S → T → Type 0)
    (each : (old new : S) (e : E) (a : A) (from : T) → Step old e a new → StandsFor old from → (to : T) × Other from e a to × StandsFor new to) where
  pub run_follows : (old new : S) (events : List E) (answers : List A) (from : T) → IsRun Step old events answers new → StandsFor old from
      → (to : T) × IsRun Other from events answers to × StandsFor new to
  run_follows old new [] [] from run stands = (from, refl, subst (λ s. StandsFor s from) (sym run) stands)
  run_follows old new (e ∷ events) (a ∷ answers) from run stands =
      let (middle, step, there) = each old run.0 e a from run.1 stands in
      let (to, rest, last) = run_follows run.0 new events answers middle run.2 there in
      (to, (middle, step, rest), last)
  run_follows old new [] (a ∷ answers) from run stands = absurd run
  run_follows old new (e ∷ events) [] from run stands = absurd run
