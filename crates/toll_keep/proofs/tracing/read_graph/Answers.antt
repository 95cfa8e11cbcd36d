use Rattle.std.proofs.Common.{◌≡◌, Contains, Err, rules, sym, ap, subst, ◌∙◌}
use Rattle.toll_keep.proofs.Calls.{kept_as, kept_fault, kept_memory, read_fault, read_memory, read_ok}
use Rattle.toll_keep.proofs.Common.{AreGraphsFor, AreGraphsOf, HasGraph, IsReading, KeepsHeld, list_any, meaning_for}
use Rattle.toll_keep.specs.declared.keep_fault.KeepFault.TheVariants.{Memory}
use Rattle.toll_base.specs.Bytes.{same_bytes}
use Rattle.toll_keep.proofs.Learning.{known_there, still_has_graph, has_pushed, graphs_pushed, graphs_pushed_for}
use Rattle.toll_keep.proofs.tracing.read_graph.Goals as goal

pub returns-then-is_known-clause-there : goal.returns-then-is_known-clause-there
returns-then-is_known-clause-there g c =
    known_there c.args.graphs.now.items c.args.owner.now (ap (λ graphs. list_any (λ known. same_bytes known.owner c.args.owner.now) graphs) (sym c.deref.ensures.value) ∙ sym c.is_known.ensures ∙ c.if-is_known.true)

pub returns-in_err-add-clause-own : goal.returns-in_err-add-clause-own
returns-in_err-add-clause-own g c = λ honest content held all only are. subst (AreGraphsOf content) (sym c.in_err-add.ensures.none) are

pub returns-clause-own : goal.returns-clause-own
returns-clause-own g c = λ honest content held all only are.
    subst (AreGraphsOf content) (sym c.in_ok-add.ensures.added) (graphs_pushed content c.args.graphs.now.items c.in_ok-known.known are (c.in_ok-known.ensures.reported honest content held all only))

pub returns-clause-stay : goal.returns-clause-stay
returns-clause-stay g c = λ o has. subst (λ graphs. HasGraph graphs o) (sym c.in_ok-add.ensures.added) (still_has_graph c.args.graphs.now.items _ o has)

pub returns-clause-there : goal.returns-clause-there
returns-clause-there g c =
    subst (λ graphs. HasGraph graphs c.args.owner.now) (sym c.in_ok-add.ensures.added) (has_pushed c.args.graphs.now.items c.in_ok-known.known c.args.owner.now c.in_ok-known.ensures.owner)

pub returns-in_err-add-clause-apart : goal.returns-in_err-add-clause-apart
returns-in_err-add-clause-apart g c = λ os honest content held all only are. subst (AreGraphsFor os content) (sym c.in_err-add.ensures.none) are

pub returns-clause-apart : goal.returns-clause-apart
returns-clause-apart g c = λ os honest content held all only are.
    let known = c.in_ok-known.known in
    subst (AreGraphsFor os content) (sym c.in_ok-add.ensures.added)
    (graphs_pushed_for os content c.args.graphs.now.items known are (λ own. c.in_ok-known.ensures.found os (subst (Contains os) c.in_ok-known.ensures.owner own) honest content held all only))

pub returns-in_err-known-clause-alone : goal.returns-in_err-known-clause-alone
returns-in_err-known-clause-alone g c = λ os own first have.
    let m = meaning_for g.K.Keep.meaning g.K.Keep.part os in
    let e = c.in_err-known.field-0.0 in
    let r = c.in_err-known.ensures.alone os own first have in
    let is : c.from_residual.result ≡ Err e = search rules in
    subst (λ reported. IsReading m first c.own_graph.new.keep reported) (sym is) (read_fault m first c.own_graph.new.keep e r.goes r.keeps r.whole)

pub returns-in_err-known-clause-others : goal.returns-in_err-known-clause-others
returns-in_err-known-clause-others g c = λ os first kept.
    let m = meaning_for g.K.Keep.meaning g.K.Keep.part os in
    let e = c.in_err-known.field-0.0 in
    let is : c.from_residual.result ≡ Err e = search rules in
    subst (λ reported. KeepsHeld m first c.own_graph.new.keep reported) (sym is) (kept_fault m first c.own_graph.new.keep e (c.in_err-known.ensures.others os first kept))

pub returns-in_err-add-clause-alone : goal.returns-in_err-add-clause-alone
returns-in_err-add-clause-alone g c = λ os own first have.
    let m = meaning_for g.K.Keep.meaning g.K.Keep.part os in
    let r = c.in_ok-known.ensures.alone os own first have in
    let is : c.from_residual-in_err-add.result ≡ Err Memory = search rules in
    subst (λ reported. IsReading m first c.own_graph.new.keep reported) (sym is) (read_memory m first c.own_graph.new.keep c.in_ok-known.known r.goes r.keeps)

pub returns-in_err-add-clause-others : goal.returns-in_err-add-clause-others
returns-in_err-add-clause-others g c = λ os first kept.
    let m = meaning_for g.K.Keep.meaning g.K.Keep.part os in
    let is : c.from_residual-in_err-add.result ≡ Err Memory = search rules in
    subst (λ reported. KeepsHeld m first c.own_graph.new.keep reported) (sym is) (kept_memory m first c.own_graph.new.keep c.in_ok-known.known (c.in_ok-known.ensures.others os first kept))

pub returns-clause-alone : goal.returns-clause-alone
returns-clause-alone g c = λ os own first have.
    let r = c.in_ok-known.ensures.alone os own first have in
    read_ok (meaning_for g.K.Keep.meaning g.K.Keep.part os) first c.own_graph.new.keep c.in_ok-known.known _ r.goes r.keeps

pub returns-clause-others : goal.returns-clause-others
returns-clause-others g c = λ os first kept. kept_as (meaning_for g.K.Keep.meaning g.K.Keep.part os) first c.own_graph.new.keep c.in_ok-known.known _ (c.in_ok-known.ensures.others os first kept)
