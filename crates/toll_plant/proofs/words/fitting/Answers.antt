use Rattle.std.proofs.Common.{◌∙◌, sym, None, Some}
use Rattle.toll_plant.proofs.WordLemmas.{line_at, takes_it, line_not_taken}
use Rattle.toll_plant.proofs.words.fitting.Goals as goal

pub returns-in-None-named : goal.returns-in-None-named
returns-in-None-named c =
    sym (line_at c.args.lines.now c.args.words.now c.in-Some.name.now c.in-Some.values.now None c.in-Some.ensures.cases.0 c.in-None-named.ensures)

pub returns-in-Some-named : goal.returns-in-Some-named
returns-in-Some-named c =
    takes_it c.in-Some-named.line.now _ c.if-takes.ensures
    ∙ sym (line_at c.args.lines.now c.args.words.now c.in-Some.name.now c.in-Some.values.now (Some c.in-Some-named.line.now) c.in-Some.ensures.cases.0 c.in-Some-named.ensures)

pub returns-in-Some-2 : goal.returns-in-Some-2
returns-in-Some-2 c =
    line_not_taken c.in-Some-named.line.now _ c.if-takes.ensures
    ∙ sym (line_at c.args.lines.now c.args.words.now c.in-Some.name.now c.in-Some.values.now (Some c.in-Some-named.line.now) c.in-Some.ensures.cases.0 c.in-Some-named.ensures)
