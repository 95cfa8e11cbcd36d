use Rattle.std.proofs.Common.{◌++◌, drop, ap, sym, ◌∙◌, arith}
use Rattle.toll_plant.specs.Imports.{outcomes_in}
use Rattle.toll_plant.specs.declared.grouping.TheConstants.{GROUP_RECORDS}
use Rattle.toll_plant.proofs.ImportDone.{behind_is, group_acted, left_behind, over_from, rest_is}
use Rattle.toll_plant.proofs.import.Import.resume.Goals as goal

pub returns-in-Ok : goal.returns-in-Ok
returns-in-Ok g c =
    let fields = c.self.inside in
    let commands = fields.commands.items in
    let rest = rest_is fields.next c.deref.result.now commands c.deref.ensures.value in
    let reported = c.import_group-end.new.outcomes.items in
    group_acted g.K.Keep.meaning c.args.keep.now c.import_group-end.new.keep c.args.self.now _ commands _ c.split_at.result.0.now fields.next c.min.result c.is_empty.result reported c.import_group-end.result
    rest (ap (λ i. i.left) c.self.view_is) c.self.invariant.valid c.is_empty.ensures c.if-is_empty.false c.min.ensures c.split_at.ensures.front c.import_group-end.ensures.step c.import_group-end.ensures.ends
    (c.push_lines.ensures.reported ∙ ap (λ now. outcomes_in fields.lines.items ++ now) c.deref-2.ensures.value ∙ ap (λ i. outcomes_in i.lines ++ reported) c.self.view_is)
    (behind_is GROUP_RECORDS c.min.result _ fields.next commands _ c.self.invariant.within rest c.min.ensures (omega (arith, c.split_at.ensures.front_len))
    ∙ ap (λ end. left_behind end (drop GROUP_RECORDS (drop fields.next commands))) (sym c.in-Ok.is))

pub returns-in-Err : goal.returns-in-Err
returns-in-Err g c =
    let fields = c.self.inside in
    let commands = fields.commands.items in
    let reported = c.import_group-end.new.outcomes.items in
    group_acted g.K.Keep.meaning c.args.keep.now c.import_group-end.new.keep c.args.self.now _ commands _ c.split_at.result.0.now fields.next c.min.result c.is_empty.result reported c.import_group-end.result
    (rest_is fields.next c.deref.result.now commands c.deref.ensures.value) (ap (λ i. i.left) c.self.view_is) c.self.invariant.valid c.is_empty.ensures c.if-is_empty.false c.min.ensures c.split_at.ensures.front c.import_group-end.ensures.step c.import_group-end.ensures.ends
    (c.push_lines.ensures.reported ∙ ap (λ now. outcomes_in fields.lines.items ++ now) c.deref-2.ensures.value ∙ ap (λ i. outcomes_in i.lines ++ reported) c.self.view_is)
    (over_from c.len-self-inside.result commands (c.len-self-inside.ensures ∙ fields.commands.ok.0) ∙ ap (λ end. left_behind end (drop GROUP_RECORDS (drop fields.next commands))) (sym c.in-Err.is))
