use Rattle.std.proofs.Common.{◌≡◌, Err, rules, sym, subst, ◌∙◌}
use Rattle.toll_keep.proofs.Calls.{kept_fault, read_fault}
use Rattle.toll_keep.proofs.Common.{IsReading, KeepsHeld, meaning_for}
use Rattle.toll_keep.proofs.Learning.{rows_there, no_rows_there}
use Rattle.toll_keep.proofs.tracing.graph_once.Goals as goal

pub returns-in_ok-graph_in-in-Some-clause-reads : goal.returns-in_ok-graph_in-in-Some-clause-reads
returns-in_ok-graph_in-in-Some-clause-reads g c = λ honest content held only.
    c.in_ok-graph_in-in-Some.ensures.reported content (rows_there content c.args.owner.now c.in-Some.slice (sym (c.in_ok-slice.ensures.reads honest content held) ∙ c.in-Some.is))

pub returns-in_ok-graph_in-in-None-clause-reads : goal.returns-in_ok-graph_in-in-None-clause-reads
returns-in_ok-graph_in-in-None-clause-reads g c = λ honest content held only.
    c.in_ok-graph_in-in-None.ensures.reported content (no_rows_there content c.args.owner.now (only c.args.owner.now) (sym (c.in_ok-slice.ensures.reads honest content held) ∙ c.in-None.is) ∙ sym c.new.ensures)

pub returns-in_ok-graph_in-in-Some-clause-found : goal.returns-in_ok-graph_in-in-Some-clause-found
returns-in_ok-graph_in-in-Some-clause-found g c = λ os own honest content held only.
    c.in_ok-graph_in-in-Some.ensures.reported content (rows_there content c.args.owner.now c.in-Some.slice (sym ((c.in_ok-slice.ensures.alone os own).reads honest content held) ∙ c.in-Some.is))

pub returns-in_ok-graph_in-in-None-clause-found : goal.returns-in_ok-graph_in-in-None-clause-found
returns-in_ok-graph_in-in-None-clause-found g c = λ os own honest content held only.
    c.in_ok-graph_in-in-None.ensures.reported content (no_rows_there content c.args.owner.now (only c.args.owner.now own) (sym ((c.in_ok-slice.ensures.alone os own).reads honest content held) ∙ c.in-None.is) ∙ sym c.new.ensures)

pub returns-in_err-slice-clause-alone : goal.returns-in_err-slice-clause-alone
returns-in_err-slice-clause-alone g c = λ os own.
    let m = meaning_for g.K.Keep.meaning g.K.Keep.part os in
    let e = c.in_err-slice.field-0.0 in
    let r = (c.in_err-slice.ensures.alone os own).reading in
    let is : c.from_residual.result ≡ Err e = search rules in
    subst (λ reported. IsReading m c.args.keep.now c.slice.new.self reported) (sym is) (read_fault m c.args.keep.now c.slice.new.self e r.goes r.keeps r.whole)

pub returns-in_err-slice-clause-others : goal.returns-in_err-slice-clause-others
returns-in_err-slice-clause-others g c = λ os.
    let m = meaning_for g.K.Keep.meaning g.K.Keep.part os in
    let e = c.in_err-slice.field-0.0 in
    let is : c.from_residual.result ≡ Err e = search rules in
    subst (λ reported. KeepsHeld m c.args.keep.now c.slice.new.self reported) (sym is) (kept_fault m c.args.keep.now c.slice.new.self e (c.in_err-slice.ensures.others os))
