use Rattle.std.proofs.Common.{sym, subst}
use Rattle.toll_keep.proofs.Common.{AreFor, AreOf, meaning_for}
use Rattle.toll_keep.proofs.Around.{some_owners}
use Rattle.toll_keep.proofs.Calls.{kept_as, kept_fault, kept_of, read_fault, read_ok}
use Rattle.toll_keep.proofs.tracing.read_trace.Goals as goal

pub returns-in-Ok-clause-reading : goal.returns-in-Ok-clause-reading
returns-in-Ok-clause-reading g c = λ rested.
    let read = c.in-Ok.ensures.reading (λ some. rested (some_owners c.args.cache.now some)) in
    c.trace_read.ensures.reads c.args.keep.now (read_ok g.K.Keep.meaning c.args.keep.now c.read_rows.new.keep c.in-Ok._owners tt read.goes read.keeps)

pub returns-in-Ok-clause-reads : goal.returns-in-Ok-clause-reads
returns-in-Ok-clause-reads g c = λ honest content held of only.
    let before = c.trace_read.ensures.kept honest in
    c.trace_read.ensures.reported honest content ((c.read_rows.ensures.kept before.0).1 content held) (subst (AreOf content) (sym c.deref.ensures.value) of.slices) only of.graphs

pub returns-in-Ok-clause-own : goal.returns-in-Ok-clause-own
returns-in-Ok-clause-own g c = λ honest content held of only.
    let before = c.trace_read.ensures.kept honest in
    record {
      slices = of.slices;
      owners = c.in-Ok.ensures.own before.0 content held of.owners;
      units = of.units;
      graphs = c.trace_read.ensures.own honest content ((c.read_rows.ensures.kept before.0).1 content held) (subst (AreOf content) (sym c.deref.ensures.value) of.slices) only of.graphs;
    }

pub returns-in-Err-clause-reading : goal.returns-in-Err-clause-reading
returns-in-Err-clause-reading g c = λ rested.
    let read = c.in-Err.ensures.reading (λ some. rested (some_owners c.args.cache.now some)) in
    read_fault g.K.Keep.meaning c.args.keep.now c.read_rows.new.keep c.in-Err.fault read.goes read.keeps read.whole

pub returns-in-Err-clause-own : goal.returns-in-Err-clause-own
returns-in-Err-clause-own g c = λ honest content held of only. record {
  slices = of.slices;
  owners = c.in-Err.ensures.own honest content held of.owners;
  units = of.units;
  graphs = of.graphs;
}

pub returns-in-Ok-clause-alone : goal.returns-in-Ok-clause-alone
returns-in-Ok-clause-alone g c = λ os among rested.
    let read = c.in-Ok.ensures.alone os (λ some. rested (some_owners c.args.cache.now some)) in
    c.trace_read.ensures.alone os among c.args.keep.now (read_ok (meaning_for g.K.Keep.meaning g.K.Keep.part os) c.args.keep.now c.read_rows.new.keep c.in-Ok._owners tt read.goes read.keeps)

pub returns-in-Ok-clause-others : goal.returns-in-Ok-clause-others
returns-in-Ok-clause-others g c = λ os rested.
    let m = meaning_for g.K.Keep.meaning g.K.Keep.part os in
    let read = c.in-Ok.ensures.alone os (λ some. rested (some_owners c.args.cache.now some)) in
    c.trace_read.ensures.others os c.args.keep.now (kept_as m c.args.keep.now c.read_rows.new.keep c.in-Ok._owners tt (kept_of m read))

pub returns-in-Ok-clause-found : goal.returns-in-Ok-clause-found
returns-in-Ok-clause-found g c = λ os among honest content held of only.
    let before = c.trace_read.ensures.stays os honest in
    c.trace_read.ensures.found os among honest content ((c.read_rows.ensures.stays os before.0).1 content held) (subst (AreFor os content) (sym c.deref.ensures.value) of.slices) only of.graphs

pub returns-in-Ok-clause-apart : goal.returns-in-Ok-clause-apart
returns-in-Ok-clause-apart g c = λ os honest content held of only.
    let before = c.trace_read.ensures.stays os honest in
    record {
      slices = of.slices;
      owners = c.in-Ok.ensures.apart os before.0 content held of.owners;
      units = of.units;
      graphs = c.trace_read.ensures.apart os honest content ((c.read_rows.ensures.stays os before.0).1 content held) (subst (AreFor os content) (sym c.deref.ensures.value) of.slices) only of.graphs;
    }

pub returns-in-Err-clause-alone : goal.returns-in-Err-clause-alone
returns-in-Err-clause-alone g c = λ os among rested.
    let read = c.in-Err.ensures.alone os (λ some. rested (some_owners c.args.cache.now some)) in
    read_fault (meaning_for g.K.Keep.meaning g.K.Keep.part os) c.args.keep.now c.read_rows.new.keep c.in-Err.fault read.goes read.keeps read.whole

pub returns-in-Err-clause-others : goal.returns-in-Err-clause-others
returns-in-Err-clause-others g c = λ os rested.
    let m = meaning_for g.K.Keep.meaning g.K.Keep.part os in
    let read = c.in-Err.ensures.alone os (λ some. rested (some_owners c.args.cache.now some)) in
    kept_fault m c.args.keep.now c.read_rows.new.keep c.in-Err.fault (kept_of m read)

pub returns-in-Err-clause-apart : goal.returns-in-Err-clause-apart
returns-in-Err-clause-apart g c = λ os honest content held of only. record {
  slices = of.slices;
  owners = c.in-Err.ensures.apart os honest content held of.owners;
  units = of.units;
  graphs = of.graphs;
}
