use Rattle.std.proofs.Common.{◌≡◌, Err, Some, IfSome, rules, sym, ap, subst, ◌∙◌}
use Rattle.toll_keep.proofs.Calls.{kept_fault, read_fault}
use Rattle.toll_keep.proofs.Common.{AreFor, AreOf, IsReading, KeepsHeld, content_after, meaning_for}
use Rattle.toll_keep.proofs.RememberedLemmas.{owner_after}
use Rattle.toll_keep.proofs.StagedLemmas.{none_after, some_after}
use Rattle.toll_keep.proofs.cached_reading.read_slice.Goals as goal

pub returns-in-Some-clause-reads : goal.returns-in-Some-clause-reads
returns-in-Some-clause-reads g c = λ honest content held puts all.
    let now = content_after c.args.changes.now content in
    ap (λ s. Some s) c.in_ok-copy.ensures ∙ sym (c.in-Some.ensures.own now (subst (AreOf now) (sym c.deref.ensures.value) all))

pub returns-in_err-remember-in-Some-2-clause-own : goal.returns-in_err-remember-in-Some-2-clause-own
returns-in_err-remember-in-Some-2-clause-own g c = λ honest content held puts.
    c.in_err-remember-in-Some-2.ensures.own (content_after c.args.changes.now content)
    (some_after c.args.changes.now content c.args.owner.now c.in-Some-2.read puts (sym (c.in_ok-read.ensures.reads honest content held) ∙ c.in-Some-2.is))

pub returns-in_ok-remember-in-Some-2-clause-own : goal.returns-in_ok-remember-in-Some-2-clause-own
returns-in_ok-remember-in-Some-2-clause-own g c = λ honest content held puts.
    c.in_ok-remember-in-Some-2.ensures.own (content_after c.args.changes.now content)
    (some_after c.args.changes.now content c.args.owner.now c.in-Some-2.read puts (sym (c.in_ok-read.ensures.reads honest content held) ∙ c.in-Some-2.is))

pub returns-in_ok-remember-in-Some-2-clause-reads : goal.returns-in_ok-remember-in-Some-2-clause-reads
returns-in_ok-remember-in-Some-2-clause-reads g c = λ honest content held puts all.
    ap (λ s. Some s) c.in_ok-remember-in-Some-2.ensures.put
    ∙ sym (some_after c.args.changes.now content c.args.owner.now c.in-Some-2.read puts (sym (c.in_ok-read.ensures.reads honest content held) ∙ c.in-Some-2.is))

pub returns-in-None-clause-reads : goal.returns-in-None-clause-reads
returns-in-None-clause-reads g c = λ honest content held puts all.
    sym (none_after c.args.changes.now content c.args.owner.now puts (sym (c.in_ok-read.ensures.reads honest content held) ∙ c.in-None.is))

pub returns-in-Some-clause-found : goal.returns-in-Some-clause-found
returns-in-Some-clause-found g c = λ os own honest content held puts all.
    let now = content_after c.args.changes.now content in
    ap (λ s. Some s) c.in_ok-copy.ensures ∙ sym (c.in-Some.ensures.alone os now own (subst (AreFor os now) (sym c.deref.ensures.value) all))

pub returns-in-Some-clause-named : goal.returns-in-Some-clause-named
returns-in-Some-clause-named g c = ap (λ s. s.owner) c.in_ok-copy.ensures ∙ c.in-Some.ensures.named

pub returns-in_err-remember-in-Some-2-clause-apart : goal.returns-in_err-remember-in-Some-2-clause-apart
returns-in_err-remember-in-Some-2-clause-apart g c = λ os honest content held puts.
    c.in_err-remember-in-Some-2.ensures.apart os (content_after c.args.changes.now content)
    (λ own. some_after c.args.changes.now content c.args.owner.now c.in-Some-2.read puts (sym ((c.in_ok-read.ensures.alone os own).reads honest content held) ∙ c.in-Some-2.is))

pub returns-in_ok-remember-in-Some-2-clause-apart : goal.returns-in_ok-remember-in-Some-2-clause-apart
returns-in_ok-remember-in-Some-2-clause-apart g c = λ os honest content held puts.
    c.in_ok-remember-in-Some-2.ensures.apart os (content_after c.args.changes.now content)
    (λ own. some_after c.args.changes.now content c.args.owner.now c.in-Some-2.read puts (sym ((c.in_ok-read.ensures.alone os own).reads honest content held) ∙ c.in-Some-2.is))

pub returns-in_ok-remember-in-Some-2-clause-found : goal.returns-in_ok-remember-in-Some-2-clause-found
returns-in_ok-remember-in-Some-2-clause-found g c = λ os own honest content held puts all.
    ap (λ s. Some s) c.in_ok-remember-in-Some-2.ensures.put
    ∙ sym (some_after c.args.changes.now content c.args.owner.now c.in-Some-2.read puts (sym ((c.in_ok-read.ensures.alone os own).reads honest content held) ∙ c.in-Some-2.is))

pub returns-in_ok-remember-in-Some-2-clause-named : goal.returns-in_ok-remember-in-Some-2-clause-named
returns-in_ok-remember-in-Some-2-clause-named g c =
    let named : c.in-Some-2.read.owner ≡ c.args.owner.now = subst (λ slice. IfSome slice (λ s. s.owner ≡ c.args.owner.now)) c.in-Some-2.is c.in_ok-read.ensures.named in
    ap (λ s. s.owner) c.in_ok-remember-in-Some-2.ensures.put ∙ owner_after c.args.changes.now c.in-Some-2.read ∙ named

pub returns-in-None-clause-found : goal.returns-in-None-clause-found
returns-in-None-clause-found g c = λ os own honest content held puts all.
    sym (none_after c.args.changes.now content c.args.owner.now puts (sym ((c.in_ok-read.ensures.alone os own).reads honest content held) ∙ c.in-None.is))

pub returns-in_err-read-clause-alone : goal.returns-in_err-read-clause-alone
returns-in_err-read-clause-alone g c = λ os own rested.
    let m = meaning_for g.K.Keep.meaning g.K.Keep.part os in
    let e = c.in_err-read.field-0.0 in
    let r = (c.in_err-read.ensures.alone os own).reading in
    let is : c.from_residual-in_err-read.result ≡ Err e = search rules in
    subst (λ reported. IsReading m c.args.keep.now c.slice.new.self reported) (sym is) (read_fault m c.args.keep.now c.slice.new.self e r.goes r.keeps r.whole)

pub returns-in_err-read-clause-others : goal.returns-in_err-read-clause-others
returns-in_err-read-clause-others g c = λ os rested.
    let m = meaning_for g.K.Keep.meaning g.K.Keep.part os in
    let e = c.in_err-read.field-0.0 in
    let is : c.from_residual-in_err-read.result ≡ Err e = search rules in
    subst (λ reported. KeepsHeld m c.args.keep.now c.slice.new.self reported) (sym is) (kept_fault m c.args.keep.now c.slice.new.self e (c.in_err-read.ensures.others os))
