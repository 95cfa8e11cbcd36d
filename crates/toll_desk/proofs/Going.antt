-- How a recall goes: reading calls that succeed, and then one more, or damage that it reports.
use Rattle.std.proofs.Common.{◌≡◌, Result, Ok, Err, inl, inr}
use Rattle.toll_desk.proofs.Common.{Meaning, IsReading, KeepFault, reads_then, read_ok, read_fault}
use Rattle.toll_keep.specs.declared.keep_fault.KeepFault.TheVariants.{Damaged}
use Rattle.toll_desk.specs.Questions.{IsRecallEffect}

module _ {K : Type 0} (meaning : Meaning K) (old new : K) where
  abbrev PlanReads : {X : Type 0} → K → K → Result X KeepFault → Type 0
  PlanReads a b r = IsReading meaning a b r

  abbrev HasItsEffect : {X : Type 0} → K → K → Result X KeepFault → Type 0
  HasItsEffect a b r = IsRecallEffect meaning a b r

  abbrev answered_ok : {X : Type 0} → X → Result X KeepFault
  answered_ok x = Ok x

  abbrev plan_fails : {X : Type 0} → KeepFault → Result X KeepFault
  plan_fails fault = Err fault

  -- The result of a call may be put into other words, and so may a fault.
  pub reads_as : {X Y : Type 0} (x : X) (y : Y) → PlanReads old new (answered_ok x) → PlanReads old new (answered_ok y)
  reads_as x y reads = read_ok meaning old new x y reads.goes reads.keeps

  pub fault_as : {X Y : Type 0} (fault : KeepFault) → PlanReads {X = X} old new (plan_fails fault) → PlanReads {X = Y} old new (plan_fails fault)
  fault_as fault reads = read_fault meaning old new fault reads.goes reads.keeps reads.whole

  pub going_fault_as : {X Y : Type 0} (fault : KeepFault) → HasItsEffect {X = X} old new (plan_fails fault) → HasItsEffect {X = Y} old new (plan_fails fault)
  going_fault_as fault (inl reads) = inl (fault_as fault reads)
  going_fault_as fault (inr damaged) = let e : fault ≡ Damaged = (cc) in inr (ap_err e, damaged.1)
    where
      ap_err : {Y : Type 0} → fault ≡ Damaged → plan_fails {X = Y} fault ≡ plan_fails Damaged
      ap_err e i = plan_fails (e i)

  pub going_ok_as : {X Y : Type 0} (x : X) (y : Y) → HasItsEffect old new (answered_ok x) → PlanReads old new (answered_ok y)
  going_ok_as x y (inl reads) = reads_as x y reads
  going_ok_as x y (inr damaged) = let e = damaged.0 in (cc)

  pub going_then : {X Y : Type 0} (first : K) (x : X) (r : Result Y KeepFault) → PlanReads first old (answered_ok x) → HasItsEffect old new r → HasItsEffect first new r
  going_then first x r before (inl reads) = inl (reads_then meaning first old new x r before reads)
  going_then first x r before (inr damaged) = inr (damaged.0, reads_then meaning first old new x _ before damaged.1)

  pub going_honest : {X : Type 0} (r : Result X KeepFault) → HasItsEffect old new r → meaning.is_honest new → meaning.is_honest old
  going_honest r (inl reads) = reads.goes.honest
  going_honest r (inr damaged) = damaged.1.goes.honest
