use Rattle.std.proofs.Common.{◌≡◌, true, cond, ◌++◌, ◌∷◌, [], ap, ◌∙◌, sym, arith}
use Rattle.toll_trace.proofs.Common.{is_eq, common_steps, lot_cmp, step_at, is_found}
use Rattle.toll_trace.proofs.Levels.{is_found-push}
use Rattle.toll_trace.proofs.found.Found.add.Goals as goal

pub loop-lot-preserved : goal.loop-lot-preserved
loop-lot-preserved c =
    let pushed : c.push_reserved.new.self.items ≡ c.loop-lot.self-inside.steps.items ++ step_at c.args.steps c.lot-item.result ∷ [] = c.push_reserved.ensures.items ∙ ap (λ items. items ++ step_at c.args.steps c.lot-item.result ∷ []) c.reserve.ensures.items in
    record {
      steps = grind (arith, common_steps, pushed, c.loop-lot.invariant.steps);
      lots = λ lot. c.in_ok-insert.ensures.updates.0 lot ∙ ap (λ t. cond (is_eq (lot_cmp c.lot-item.result lot)) true t) (c.loop-lot.invariant.lots lot) ∙ sym (ap (λ steps. is_found steps lot) pushed ∙ is_found-push c.loop-lot.self-inside.steps.items (step_at c.args.steps c.lot-item.result) lot);
    }
