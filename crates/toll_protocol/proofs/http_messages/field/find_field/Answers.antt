use Rattle.std.proofs.Common.{◌∙◌, sym, ap}
use Rattle.toll_protocol.proofs.Common.{header_bytes}
use Rattle.toll_protocol.specs.Found.{seen_match}
use Rattle.toll_protocol.proofs.FieldLemmas.{step_once, step_no, step_several, seen_present}
use Rattle.toll_protocol.proofs.http_messages.field.find_field.Goals as goal
use Rattle.toll_protocol.proofs.http_messages.field.find_field.Goals.{then-has_name+in-Absent, else-has_name}

pub returns-in_default : goal.returns-in_default
returns-in_default c =
    sym (step_several (header_bytes c.args.text.now) c.args.name.now c.args.fields.now c.loop-field.field-index _ (seen_match c.loop-field.found) _
    c.loop-field-test.true (sym c.has_name.ensures ∙ c.if-has_name.true) (seen_present _ c.in_default.not-Absent) c.loop-field.invariant)

pub loop-field-preserved : goal.loop-field-preserved
loop-field-preserved c =
    elim c.if-has_name.branch [
      | then-has_name+in-Absent w ↦
          rw (w.found-is, w.of.ensures) (step_once (header_bytes c.args.text.now) c.args.name.now c.args.fields.now c.loop-field.field-index _ _ _
          c.loop-field-test.true (sym c.has_name.ensures ∙ w.if-has_name.true) (ap seen_match w.in-Absent.is) c.loop-field.invariant)
      | else-has_name w ↦
          rw w.found-is (step_no (header_bytes c.args.text.now) c.args.name.now c.args.fields.now c.loop-field.field-index _ _ _
          c.loop-field-test.true (sym c.has_name.ensures ∙ w.if-has_name.false) c.loop-field.invariant)
    ]
