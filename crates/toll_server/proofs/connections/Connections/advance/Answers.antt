use Rattle.std.proofs.Common.{◌∙◌, None, inl, inr, refl, subst, sym}
use Rattle.toll_server.proofs.Common.{StaysOrGoes, stays_after}
use Rattle.toll_server.proofs.ConnectionLemmas.{heard_tasks, joined_at, replaced}
use Rattle.toll_server.proofs.StandLemmas.{heard_at}
use Rattle.toll_server.proofs.connections.Connections.advance.Goals as goal

pub returns-clause-joins : goal.returns-clause-joins
returns-clause-joins g c =
    let back = replaced _ _ _ _ _ _ _ c.in-Some.ensures.updates c.in-Some.ensures.key_is_next c.keep.ensures.kept in
    joined_at g.O.Service.is_by _ _ _ _ _ _ _ _ (sym c.in-Some.ensures.value) back (c.keep.ensures.event_count ∙ c.count-self.ensures) c.advance-step.ensures.joins

pub returns-clause-tasks : goal.returns-clause-tasks
returns-clause-tasks g c =
    let back = replaced _ _ _ _ _ _ _ c.in-Some.ensures.updates c.in-Some.ensures.key_is_next c.keep.ensures.kept in
    heard_tasks g.O.Service.is_by _ _ _ _ _ _ _ (sym c.in-Some.ensures.value) back c.advance-step.ensures.same c.advance-step.ensures.joins

pub returns-clause-hears : goal.returns-clause-hears
returns-clause-hears g c =
    let same = g.P.PartialEq.eq in
    let most = c.args.self.now.most_open in
    let step = c.advance-step.result in
    let later = c.advance-step.new.self in
    let back = replaced _ _ _ _ _ _ _ c.in-Some.ensures.updates c.in-Some.ensures.key_is_next c.keep.ensures.kept in
    heard_at g.S.Source g.S.Sink same most _ _ _ _ _ step (stays_after step later) (sym c.in-Some.ensures.value) back
    (subst (λ slots. StaysOrGoes same most slots later step (stays_after step later)) c.in-Some.ensures.slots
    (inl ((λ shed. let yes = c.is_shed.ensures.1 shed in let no = c.if-is_shed.false in absurd cc), refl))) c.advance-step.ensures.steps

pub returns-then-is_shed-clause-hears : goal.returns-then-is_shed-clause-hears
returns-then-is_shed-clause-hears g c =
    let same = g.P.PartialEq.eq in
    let most = c.args.self.now.most_open in
    let step = c.advance-step.result in
    let later = c.advance-step.new.self in
    heard_at g.S.Source g.S.Sink same most _ _ _ _ _ step None (sym c.in-Some.ensures.value) c.in-Some.ensures.updates
    (subst (λ slots. StaysOrGoes same most slots later step None) c.in-Some.ensures.slots (inr (c.is_shed.ensures.0 c.if-is_shed.true, refl))) c.advance-step.ensures.steps
