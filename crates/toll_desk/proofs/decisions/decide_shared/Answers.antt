use Rattle.toll_desk.proofs.Common.{IfOk-weaker, changes_of}
use Rattle.toll_desk.proofs.SliceToContent.{own_keep_others, shared_by_own, shared_by_named}
use Rattle.toll_desk.proofs.decisions.decide_shared.Goals as goal

pub returns-in-Require-clause-house_rules : goal.returns-in-Require-clause-house_rules
unfolding Rattle.toll_history.specs.Decision.DecisionKeepsRules
returns-in-Require-clause-house_rules c other =
    IfOk-weaker c.require.result _ _ (λ d own. own_keep_others c.args.own.now.owner (changes_of d) c.args.house.now own other c.owner-house.ensures.kept) c.require.ensures.own

pub returns-in-Require-clause-own : goal.returns-in-Require-clause-own
returns-in-Require-clause-own c = IfOk-weaker c.require.result _ _ (λ d own. shared_by_own c.args.own.now.owner (changes_of d) own) c.require.ensures.own

pub returns-in-Actual-clause-own : goal.returns-in-Actual-clause-own
returns-in-Actual-clause-own c = IfOk-weaker c.record_actual.result _ _ (λ d own. shared_by_named c.args.own.now.owner _ (changes_of d) own) c.record_actual.ensures.own

pub returns-in-Void-clause-own : goal.returns-in-Void-clause-own
returns-in-Void-clause-own c = IfOk-weaker c.void_actual.result _ _ (λ d own. shared_by_named c.args.own.now.owner _ (changes_of d) own) c.void_actual.ensures.own
