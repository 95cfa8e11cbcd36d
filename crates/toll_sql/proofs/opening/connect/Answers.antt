use Rattle.std.proofs.Common.{Option, None, Some, Err, IfSome, ap, ◌∙◌}
use Rattle.toll_sql.proofs.Common.{OpenFault, fault_of_files}
use Rattle.toll_sql.proofs.opening.connect.Goals as goal

weaker : {X : Type 0} (P Q : X → Type 0) → ((x : X) → P x → Q x) → (o : Option X) → IfSome o P → IfSome o Q
weaker P Q so None h = tt
weaker P Q so (Some x) h = so x h

pub returns-in-Ok : goal.returns-in-Ok
returns-in-Ok g c =
    let opening = c.in-Ok.ensures in
    record {
      opened = record { fresh = opening.fresh; found = λ clean. (opening.opened clean, opening.found clean); sums = opening.sums; guarded = opening.guarded };
      unopened = tt;
      memory = λ is. absurd (opening.memory is);
    }

pub returns-clause-memory : goal.returns-clause-memory
returns-clause-memory g c is = ap (λ (fault : OpenFault). Err fault) (c.file_fault_of.ensures ∙ ap fault_of_files (c.in-Err.ensures.memory is))

pub returns-clause-unopened : goal.returns-clause-unopened
returns-clause-unopened g c =
    let e = c.in-Err.ensures in
    (c.in-Err.error, c.in-Err.field-0-1, record { named = e.named; reported = c.file_fault_of.ensures; none = e.unopened; some = weaker _ _ (λ rest h. (h.0, h.3)) c.in-Err.field-0-1 e.cause })
