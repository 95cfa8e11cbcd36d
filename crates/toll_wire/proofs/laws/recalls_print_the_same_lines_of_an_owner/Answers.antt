use Rattle.toll_answers.proofs.Agreeing.{lines_agree}
use Rattle.toll_wire.proofs.PrintedLemmas.{recall_printed, line_printed}
use Rattle.toll_wire.proofs.laws.recalls_print_the_same_lines_of_an_owner.Goals as goal

pub returns : goal.returns
returns c = λ G H o lot lawful lawful' not_house same houses at_house text other line requested printed.
    let shown = recall_printed H lot other requested in
    line_printed G H lot o text other line printed shown
    (λ s own there. lines_agree G H lawful lawful' o not_house same houses lot at_house printed.lines shown.lines printed.recalled shown.recalled s own there)
