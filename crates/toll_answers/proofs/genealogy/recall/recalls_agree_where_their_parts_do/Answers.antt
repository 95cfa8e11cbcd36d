use Rattle.toll_answers.proofs.Agreeing.{lines_agree}
use Rattle.toll_answers.proofs.genealogy.recall.recalls_agree_where_their_parts_do.Goals as goal

pub returns : goal.returns
returns c = λ G H o lot lawful lawful' not_house same houses at_house xs ys x y line at there. lines_agree G H lawful lawful' o not_house same houses lot at_house xs ys x y line at there
