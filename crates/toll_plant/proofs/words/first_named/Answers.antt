use Rattle.toll_plant.proofs.WordLemmas.{line_named_at}
use Rattle.toll_plant.proofs.words.first_named.Goals as goal

pub returns-in-Some : goal.returns-in-Some
returns-in-Some c = line_named_at c.args.lines.now c.args.words.now c.in-Some.name.now _ c.named.result c.in-Some.ensures.cases.0 c.named.ensures
