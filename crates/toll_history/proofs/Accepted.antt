-- What an accepted command says: none of its checks applies.
use Rattle.std.proofs.Common.{◌≡◌, ℕ, zero, suc, Bool, true, false, Option, Some, None, [], ◌∷◌, ◌++◌, cond, refl, sym, ap, ◌∙◌}
use Rattle.toll_history.proofs.Common.{Verdict, Accepted, Repeated, Refused, Checks, verdict_of_checks, verdict_of_check}
use Rattle.toll_base.specs.declared.refusal.Refusal.{Refusal}

-- whether the check at this place of the list applies
abbrev pub applies : Checks → ℕ → Bool
applies [] n = false
applies (check ∷ more) zero = check.0
applies (check ∷ more) (suc n) = applies more n

stopped_not : (why : Option Refusal) → verdict_of_check why ≡ Accepted → ⊥
stopped_not None h = (cc)
stopped_not (Some why) h = (cc)

first_check_passes : (b : Bool) (said rest : Verdict) → (said ≡ Accepted → ⊥) → cond b said rest ≡ Accepted → (b ≡ false) × (rest ≡ Accepted)
first_check_passes true said rest not_said h = absurd (not_said h)
first_check_passes false said rest not_said h = (refl, h)

-- If a list of checks accepts, the check at each place doesn't apply.
pub none_applies : (checks : Checks) → verdict_of_checks checks ≡ Accepted → (n : ℕ) → applies checks n ≡ false
none_applies [] h n = refl
none_applies (check ∷ more) h zero = (first_check_passes check.0 (verdict_of_check check.1) (verdict_of_checks more) (stopped_not check.1) h).0
none_applies (check ∷ more) h (suc n) = none_applies more (first_check_passes check.0 (verdict_of_check check.1) (verdict_of_checks more) (stopped_not check.1) h).1 n

-- If a list of checks accepts, so does the rest of it.
pub rest_accepts : (b : Bool) (why : Option Refusal) (more : Checks) → verdict_of_checks ((b, why) ∷ more) ≡ Accepted → verdict_of_checks more ≡ Accepted
rest_accepts b why more h = (first_check_passes b (verdict_of_check why) (verdict_of_checks more) (stopped_not why) h).1

-- If two lists of checks accept together, so does the second.
pub rest_accept : (checks more : Checks) → verdict_of_checks (checks ++ more) ≡ Accepted → verdict_of_checks more ≡ Accepted
rest_accept [] more h = h
rest_accept (check ∷ checks) more h = rest_accept checks more (first_check_passes check.0 (verdict_of_check check.1) (verdict_of_checks (checks ++ more)) (stopped_not check.1) h).1

-- ---- one list of checks after another

-- the verdict of two lists: that of the first, or if the first accepts, that of the second
abbrev pub and_then : Verdict → Verdict → Verdict
and_then Accepted said = said
and_then Repeated said = Repeated
and_then (Refused why) said = Refused why

stops : (why : Option Refusal) (said : Verdict) → and_then (verdict_of_check why) said ≡ verdict_of_check why
stops None said = refl
stops (Some why) said = refl

pub first_then : (checks more : Checks) → verdict_of_checks (checks ++ more) ≡ and_then (verdict_of_checks checks) (verdict_of_checks more)
first_then [] more = refl
first_then (check ∷ checks) more =
    elim check.0 as (λ b. cond b (verdict_of_check check.1) (verdict_of_checks (checks ++ more)) ≡ and_then (cond b (verdict_of_check check.1) (verdict_of_checks checks)) (verdict_of_checks more)) [
      | true ↦ sym (stops check.1 (verdict_of_checks more))
      | false ↦ first_then checks more
    ]

-- If the first list refuses, both together refuse.
pub refused_first : (checks more : Checks) (why : Refusal) → Refused why ≡ verdict_of_checks checks → Refused why ≡ verdict_of_checks (checks ++ more)
refused_first checks more why is = ap (λ v. and_then v (verdict_of_checks more)) is ∙ sym (first_then checks more)

-- If the first list accepts, both together give the verdict of the second.
pub accepted_first : (checks more : Checks) → Accepted ≡ verdict_of_checks checks → verdict_of_checks more ≡ verdict_of_checks (checks ++ more)
accepted_first checks more is = ap (λ v. and_then v (verdict_of_checks more)) is ∙ sym (first_then checks more)
