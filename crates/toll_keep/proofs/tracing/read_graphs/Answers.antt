use Rattle.std.proofs.Common.{◌≡◌, Err, rules, ◌++◌, ◌∷◌, [], take, sym, ap, subst, ◌∙◌, inl, inr, Contains}
use Rattle.toll_keep.proofs.Common.{Contains-push_cases, HasGraph, IsReading, KeepsHeld, meaning_for, take_all, take_more}
use Rattle.toll_keep.proofs.tracing.read_graphs.Goals as goal

pub loop-owner-preserved : goal.loop-owner-preserved
loop-owner-preserved g c =
    let before = c.loop-owner.invariant in
    let done = take c.loop-owner.owner-index c.args.owners.now in
    record {
      read = λ first have. c.in_ok-read_graph.ensures.reads first (before.read first have);
      kept = λ honest. let now = c.read_graph.ensures.kept honest in let earlier = before.kept now.0 in (earlier.0, λ content held. now.1 content (earlier.1 content held));
      own = λ honest content held all only are. let now = c.read_graph.ensures.kept honest in let earlier = before.kept now.0 in c.read_graph.ensures.own honest content (earlier.1 content held) all only (before.own now.0 content held all only are);
      alone = λ os among first have. c.in_ok-read_graph.ensures.alone os (among c.owner-item.result (c.loop-owner.owner-index, c.loop-owner-test.true, sym c.owner-item.is)) first (before.alone os among first have);
      others = λ os first kept. c.in_ok-read_graph.ensures.others os first (before.others os first kept);
      stays = λ os honest. let now = c.read_graph.ensures.stays os honest in let earlier = before.stays os now.0 in (earlier.0, λ content held. now.1 content (earlier.1 content held));
      apart = λ os honest content held all only are. let now = c.read_graph.ensures.stays os honest in let earlier = before.stays os now.0 in c.read_graph.ensures.apart os honest content (earlier.1 content held) all only (before.apart os now.0 content held all only are);
      there = λ o i. elim (Contains-push_cases done c.owner-item.result o (subst (λ os. Contains os o) (take_more c.args.owners.now c.loop-owner.owner-index c.owner-item.result c.loop-owner-test.true ∙ ap (λ p. done ++ p ∷ []) (sym c.owner-item.is)) i)) [
        | inl was ↦ c.in_ok-read_graph.ensures.stay o (before.there o was)
        | inr same ↦ subst (HasGraph c.read_graph.new.graphs.items) same c.in_ok-read_graph.ensures.there
      ];
    }

pub returns-in_err-read_graph-clause-own : goal.returns-in_err-read_graph-clause-own
returns-in_err-read_graph-clause-own g c = λ honest content held all only are.
    let before = c.loop-owner.invariant in let now = c.read_graph.ensures.kept honest in let earlier = before.kept now.0 in
    c.read_graph.ensures.own honest content (earlier.1 content held) all only (before.own now.0 content held all only are)

pub returns-clause-there : goal.returns-clause-there
returns-clause-there g c = λ o i. c.loop-owner.invariant.there o (subst (λ os. Contains os o) (sym (take_all c.loop-owner.owner-index c.args.owners.now c.loop-owner-test.false)) i)

pub returns-in_err-read_graph-clause-apart : goal.returns-in_err-read_graph-clause-apart
returns-in_err-read_graph-clause-apart g c = λ os honest content held all only are.
    let before = c.loop-owner.invariant in let now = c.read_graph.ensures.stays os honest in let earlier = before.stays os now.0 in
    c.read_graph.ensures.apart os honest content (earlier.1 content held) all only (before.apart os now.0 content held all only are)

pub returns-in_err-read_graph-clause-alone : goal.returns-in_err-read_graph-clause-alone
returns-in_err-read_graph-clause-alone g c = λ os among first have.
    let m = meaning_for g.K.Keep.meaning g.K.Keep.part os in
    let own = among c.owner-item.result (c.loop-owner.owner-index, c.loop-owner-test.true, sym c.owner-item.is) in
    let is : c.from_residual.result ≡ Err c.in_err-read_graph.field-0.0 = search rules in
    subst (λ reported. IsReading m first c.read_graph.new.keep reported) (sym is) (c.in_err-read_graph.ensures.alone os own first (c.loop-owner.invariant.alone os among first have))

pub returns-in_err-read_graph-clause-others : goal.returns-in_err-read_graph-clause-others
returns-in_err-read_graph-clause-others g c = λ os first kept.
    let m = meaning_for g.K.Keep.meaning g.K.Keep.part os in
    let is : c.from_residual.result ≡ Err c.in_err-read_graph.field-0.0 = search rules in
    subst (λ reported. KeepsHeld m first c.read_graph.new.keep reported) (sym is) (c.in_err-read_graph.ensures.others os first (c.loop-owner.invariant.others os first kept))

pub returns-in_err-read_graph-clause-stays : goal.returns-in_err-read_graph-clause-stays
returns-in_err-read_graph-clause-stays g c = λ os honest.
    let now = c.read_graph.ensures.stays os honest in let earlier = c.loop-owner.invariant.stays os now.0 in (earlier.0, λ content held. now.1 content (earlier.1 content held))
