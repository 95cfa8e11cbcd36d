use Rattle.toll_answers.specs.Texts.{trace_text}
use Rattle.toll_wire.proofs.PrintedLemmas.{trace_shown, shown_text_same}
use Rattle.toll_wire.proofs.laws.the_plants_traces_are_printed.Goals as goal

pub returns : goal.returns
returns c = λ H lot way text shown.
    let is = trace_shown H lot way text shown in
    (is.trace, is.traced, shown_text_same text (trace_text is.trace) is.shown)
