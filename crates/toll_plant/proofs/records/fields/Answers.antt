use Rattle.std.proofs.Common.{◌≡◌, rules, true, ap, sym, subst, ◌∙◌, Some, None}
use Rattle.std.specs.Result.{is_ok}
use Rattle.csv.specs.Records.{Row, fields_of, field_at}
use Rattle.toll_plant.proofs.FieldLemmas.{field_one_more, all_there}
use Rattle.toll_plant.proofs.records.fields.Goals as goal

pub loop-field-preserved : goal.loop-field-preserved
loop-field-preserved c =
    let step = rw c.in-Some.is at c.next.ensures.steps in
    let good : is_ok c.push.result ≡ true = search rules in
    let at = c.loop-field.field-iterator.at in
    let here = subst (λ (r : Row). field_at (fields_of r) at ≡ Some c.in-Some.field.now) c.loop-field.invariant.same (sym step.1) in
    record {
      same = ap (λ r. r.now) step.0 ∙ c.loop-field.invariant.same;
      whole = field_one_more (λ f. f.now) (fields_of c.args.row.now) c.loop-field.fields.items c.push.new.self.items at c.next.new.self.at c.in-Some.field c.loop-field.invariant.whole (rw good at c.push.ensures.items) here step.2;
    }

pub returns : goal.returns
returns c =
    let step = rw c.in-None.is at c.next.ensures.steps in
    let at = c.loop-field.field-iterator.at in
    let none = subst (λ (r : Row). field_at (fields_of r) at ≡ None) c.loop-field.invariant.same (sym step.1) in
    all_there (λ f. f.now) (fields_of c.args.row.now) c.loop-field.fields.items at c.loop-field.invariant.whole none
