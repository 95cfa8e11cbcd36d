use Rattle.std.proofs.Common.{◌≡◌, Err, rules, sym, subst}
use Rattle.toll_keep.proofs.Calls.{kept_fault, read_fault}
use Rattle.toll_keep.proofs.Common.{AreGraphsFor, AreGraphsOf, HasGraph, IsReading, KeepsHeld, meaning_for}
use Rattle.toll_keep.proofs.Learning.{graphs_taken, graphs_taken_for}
use Rattle.toll_keep.proofs.tracing.trace_read.Goals as goal

pub returns-in_err-reported-clause-own : goal.returns-in_err-reported-clause-own
returns-in_err-reported-clause-own g c = λ honest content held all only are.
    subst (AreGraphsOf content) (sym c.truncate.ensures.items) (graphs_taken content c.read_graphs.new.graphs.items 64 (c.read_graphs.ensures.own honest content held all only are))

pub returns-clause-own : goal.returns-clause-own
returns-clause-own g c = λ honest content held all only are.
    subst (AreGraphsOf content) (sym c.truncate.ensures.items) (graphs_taken content c.read_graphs.new.graphs.items 64 (c.read_graphs.ensures.own honest content held all only are))

pub returns-clause-reported : goal.returns-clause-reported
returns-clause-reported g c = λ honest content held all only are.
    let learnt = c.read_graphs.ensures.own honest content held all only are in
    c.in_ok-reported.ensures.all content (subst (AreGraphsOf content) (sym c.deref.ensures.value) learnt) (λ o named. subst (λ graphs. HasGraph graphs o) (sym c.deref.ensures.value) (c.in_ok-read_graphs.ensures.there o named))

pub returns-in_err-reported-clause-apart : goal.returns-in_err-reported-clause-apart
returns-in_err-reported-clause-apart g c = λ os honest content held all only are.
    subst (AreGraphsFor os content) (sym c.truncate.ensures.items) (graphs_taken_for os content c.read_graphs.new.graphs.items 64 (c.read_graphs.ensures.apart os honest content held all only are))

pub returns-clause-apart : goal.returns-clause-apart
returns-clause-apart g c = λ os honest content held all only are.
    subst (AreGraphsFor os content) (sym c.truncate.ensures.items) (graphs_taken_for os content c.read_graphs.new.graphs.items 64 (c.read_graphs.ensures.apart os honest content held all only are))

pub returns-clause-found : goal.returns-clause-found
returns-clause-found g c = λ os among honest content held all only are.
    let learnt = c.read_graphs.ensures.apart os honest content held all only are in
    c.in_ok-reported.ensures.alone content (subst (AreGraphsFor c.args.owners.now content) (sym c.deref.ensures.value) (λ known there own. learnt known there (among known.owner own))) (λ o named. subst (λ graphs. HasGraph graphs o) (sym c.deref.ensures.value) (c.in_ok-read_graphs.ensures.there o named))

pub returns-in_err-read_graphs-clause-reads : goal.returns-in_err-read_graphs-clause-reads
returns-in_err-read_graphs-clause-reads g c = λ first have.
    let m = g.K.Keep.meaning in
    let e = c.in_err-read_graphs.field-0.0 in
    let r = c.in_err-read_graphs.ensures.reads first have in
    let is : c.from_residual.result ≡ Err e = search rules in
    subst (λ reported. IsReading m first c.read_graphs.new.keep reported) (sym is) (read_fault m first c.read_graphs.new.keep e r.goes r.keeps r.whole)

pub returns-in_err-read_graphs-clause-alone : goal.returns-in_err-read_graphs-clause-alone
returns-in_err-read_graphs-clause-alone g c = λ os among first have.
    let m = meaning_for g.K.Keep.meaning g.K.Keep.part os in
    let e = c.in_err-read_graphs.field-0.0 in
    let r = c.in_err-read_graphs.ensures.alone os among first have in
    let is : c.from_residual.result ≡ Err e = search rules in
    subst (λ reported. IsReading m first c.read_graphs.new.keep reported) (sym is) (read_fault m first c.read_graphs.new.keep e r.goes r.keeps r.whole)

pub returns-in_err-read_graphs-clause-others : goal.returns-in_err-read_graphs-clause-others
returns-in_err-read_graphs-clause-others g c = λ os first kept.
    let m = meaning_for g.K.Keep.meaning g.K.Keep.part os in
    let e = c.in_err-read_graphs.field-0.0 in
    let is : c.from_residual.result ≡ Err e = search rules in
    subst (λ reported. KeepsHeld m first c.read_graphs.new.keep reported) (sym is) (kept_fault m first c.read_graphs.new.keep e (c.in_err-read_graphs.ensures.others os first kept))
