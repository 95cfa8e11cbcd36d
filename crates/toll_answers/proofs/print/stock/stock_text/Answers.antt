use Rattle.std.proofs.lemmas.Result.{IfOk-weaker}
use Rattle.toll_answers.proofs.ShownOver.{stock_text_over}
use Rattle.toll_answers.proofs.print.stock.stock_text.Goals as goal

pub returns-clause-over_histories : goal.returns-clause-over_histories
returns-clause-over_histories c =
    λ H lawful there. IfOk-weaker c.text_in_slice.result _ _ (λ text is. stock_text_over c.args.slice.now H text.items c.text_in_slice.ensures.order lawful there is) c.text_in_slice.ensures.text
