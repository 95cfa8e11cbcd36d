-- Records up to a fault.
use Rattle.std.proofs.Common.{◌≡◌, Bool, true, false, List, [], ◌∷◌, ◌++◌, refl, sym, subst, ap, ◌∙◌, append_assoc}
use Rattle.std.proofs.lemmas.Bool.{or_parts}
use Rattle.toll_history.specs.Runs.{IsRun}
use Rattle.toll_plant.proofs.Common.{list_any, append-nil, list_any-append, false≢true}
use Rattle.toll_plant.specs.Imports.{Commands, EndsAt, UpToFault}
use Rattle.toll_plant.specs.Outcomes.{is_fault_outcome}
use Rattle.toll_plant.specs.declared.outcome.Outcome.{Outcome}

-- ---- what follows no item that passes the test

module _ {X : Type 0} (test : X → Bool) where
  pub none_in : (xs ys : List X) → list_any test (xs ++ ys) ≡ false → (list_any test xs ≡ false) × (list_any test ys ≡ false)
  none_in xs ys none = or_parts (list_any test xs) (list_any test ys) (sym (list_any-append test xs ys) ∙ none)

  pub ends_then : (xs ys : List X) → list_any test xs ≡ false → EndsAt test ys → EndsAt test (xs ++ ys)
  ends_then [] ys none ends = ends
  ends_then (x ∷ xs) ys none ends =
      let parts = or_parts (test x) (list_any test xs) none in
      (λ some. absurd (false≢true (sym parts.0 ∙ some)), ends_then xs ys parts.1 ends)

  pub ends_nowhere : (xs : List X) → list_any test xs ≡ false → EndsAt test xs
  ends_nowhere xs none = subst (EndsAt test) (append-nil xs) (ends_then xs [] none tt)

-- A run without answers ends where it began.
pub run_ends : {S E A : Type 0} (Step : S → E → A → S → Type 0) (old new : S) (events : List E) → IsRun Step old events [] new → new ≡ old
run_ends Step old new [] run = run
run_ends Step old new (e ∷ events) run = absurd run

-- ---- records up to a fault

module _ (P : Commands → Type 0) where
  -- All records acted.
  pub all_acted : (commands : Commands) (outcomes : List Outcome) → P commands → list_any is_fault_outcome outcomes ≡ false → UpToFault P commands outcomes
  all_acted commands outcomes so calm =
      record { acted = commands; rest = []; all = append-nil commands; so = so; stops = ends_nowhere is_fault_outcome outcomes calm; whole = λ none. refl }

  -- The records after a fault may be any.
  pub up_to_longer : (commands more : Commands) (outcomes : List Outcome) → list_any is_fault_outcome outcomes ≡ true → UpToFault P commands outcomes
      → UpToFault P (commands ++ more) outcomes
  up_to_longer commands more outcomes some first = record {
    acted = first.acted;
    rest = first.rest ++ more;
    all = sym (append_assoc first.acted first.rest more) ∙ ap (λ all. all ++ more) first.all;
    so = first.so;
    stops = first.stops;
    whole = λ none. absurd (false≢true (sym none ∙ some));
  }

  -- Without a fault all records acted.
  pub acted_all : (commands : Commands) (outcomes : List Outcome) (first : UpToFault P commands outcomes) → list_any is_fault_outcome outcomes ≡ false → first.acted ≡ commands
  acted_all commands outcomes first calm = sym (append-nil first.acted) ∙ ap (λ rest. first.acted ++ rest) (sym (first.whole calm)) ∙ first.all

-- Records that follow others without a fault.
pub up_to_then : (P Q R : Commands → Type 0) (commands more : Commands) (outcomes behind : List Outcome) → list_any is_fault_outcome outcomes ≡ false
    → ((acted later : Commands) → P acted → Q later → R (acted ++ later)) → UpToFault P commands outcomes → UpToFault Q more behind → UpToFault R (commands ++ more) (outcomes ++ behind)
up_to_then P Q R commands more outcomes behind calm joined first second = record {
  acted = first.acted ++ second.acted;
  rest = second.rest;
  all = append_assoc first.acted second.acted second.rest ∙ ap (λ later. first.acted ++ later) second.all ∙ ap (λ acted. acted ++ more) (acted_all P commands outcomes first calm);
  so = joined first.acted second.acted first.so second.so;
  stops = ends_then is_fault_outcome outcomes behind calm second.stops;
  whole = λ none. second.whole (none_in is_fault_outcome outcomes behind none).1;
}
