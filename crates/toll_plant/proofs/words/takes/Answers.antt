use Rattle.std.proofs.Common.{◌∙◌}
use Rattle.toll_plant.proofs.WordLemmas.{takes_as_many}
use Rattle.toll_plant.proofs.words.takes.Goals as goal

pub returns-then-words-line : goal.returns-then-words-line
returns-then-words-line c = c.are_plain.ensures ∙ takes_as_many c.args.line.now c.args.words.now c.if-words-line.true
