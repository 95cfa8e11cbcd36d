use Rattle.std.proofs.Common.{[], ◌∷◌, refl, sym, subst, ◌∙◌}
use Rattle.toll_trace.specs.Chain.{edge_of}
use Rattle.toll_desk.proofs.Common.{Bytes, IsTrace, ReplyTrace, ReplyRefused, UnknownLot, read_ok, read_fault, reads_then}
use Rattle.toll_keep.proofs.Calls.{kept_as, kept_fault, kept_then}
use Rattle.toll_keep.specs.Holding.{IsEdgeOfOne}
use Rattle.toll_keep.specs.Meaning.{meaning_for}
use Rattle.toll_desk.proofs.OwnTraces.{one_among}
use Rattle.toll_desk.proofs.PlantTraces.{own_trace}
use Rattle.toll_desk.proofs.tracing.trace_own.Goals as goal

pub returns-then-not-may_trace-clause-reads : goal.returns-then-not-may_trace-clause-reads
returns-then-not-may_trace-clause-reads g c first read = read_ok g.K.Keep.meaning first c.args.keep.now tt (ReplyRefused UnknownLot) read.goes read.keeps

pub returns-in-Ok-clause-reads : goal.returns-in-Ok-clause-reads
returns-in-Ok-clause-reads g c first read =
    let K = g.K.Keep in
    let new = c.trace.new.self in
    let steps = c.in-Ok.steps in
    let both = reads_then K.meaning first c.args.keep.now new tt _ read c.in-Ok.ensures.reading in
    read_ok K.meaning first new steps (ReplyTrace steps.items) both.goes both.keeps

pub returns-in-Err-clause-reads : goal.returns-in-Err-clause-reads
returns-in-Err-clause-reads g c first read =
    let K = g.K.Keep in
    let new = c.trace.new.self in
    let both = reads_then K.meaning first c.args.keep.now new tt _ read c.in-Err.ensures.reading in
    read_fault K.meaning first new c.in-Err.fault both.goes both.keeps both.whole

pub returns-then-not-may_trace-clause-over : goal.returns-then-not-may_trace-clause-over
returns-then-not-may_trace-clause-over g c honest content H held stands lawful rows =
    rw (sym (c.may_trace.ensures H lawful rows) ∙ c.if-not-may_trace.true) refl

pub returns-in-Ok-clause-over : goal.returns-in-Ok-clause-over
returns-in-Ok-clause-over g c honest content H held stands lawful rows =
    let s = c.args.slice.now in
    let lot = c.args.lot.now in
    let w = c.args.way in
    let steps = c.in-Ok.steps.items in
    let is = c.in-Ok.ensures.reads honest content held in
    rw (sym (c.may_trace.ensures H lawful rows) ∙ c.if-not-may_trace.false) (record {
      trace = steps;
      traced = own_trace H content lawful stands s.owner w lot steps (subst (λ (o : Bytes). IsTrace (λ a b. IsEdgeOfOne content (o ∷ []) (edge_of w a b)) lot steps) c.owner.ensures.owner is);
      reported = refl;
    })

pub returns-then-not-may_trace-clause-alone : goal.returns-then-not-may_trace-clause-alone
returns-then-not-may_trace-clause-alone g c os own first read = read_ok (meaning_for g.K.Keep.meaning g.K.Keep.part os) first c.args.keep.now tt (ReplyRefused UnknownLot) read.goes read.keeps

pub returns-in-Ok-clause-alone : goal.returns-in-Ok-clause-alone
returns-in-Ok-clause-alone g c os own first read =
    let m = meaning_for g.K.Keep.meaning g.K.Keep.part os in
    let new = c.trace.new.self in
    let steps = c.in-Ok.steps in
    let among = one_among os c.owner.result.now c.args.slice.now.owner c.owner.ensures.owner own in
    let both = reads_then m first c.args.keep.now new tt _ read (c.in-Ok.ensures.alone os among).reading in
    read_ok m first new steps (ReplyTrace steps.items) both.goes both.keeps

pub returns-in-Err-clause-alone : goal.returns-in-Err-clause-alone
returns-in-Err-clause-alone g c os own first read =
    let m = meaning_for g.K.Keep.meaning g.K.Keep.part os in
    let new = c.trace.new.self in
    let among = one_among os c.owner.result.now c.args.slice.now.owner c.owner.ensures.owner own in
    let both = reads_then m first c.args.keep.now new tt _ read (c.in-Err.ensures.alone os among).reading in
    read_fault m first new c.in-Err.fault both.goes both.keeps both.whole

pub returns-in-Ok-clause-stays : goal.returns-in-Ok-clause-stays
returns-in-Ok-clause-stays g c = λ os honest. let r = c.trace.ensures.others os in (r.goes.honest honest, λ content held. (r.keeps honest).content content held)

pub returns-in-Err-clause-stays : goal.returns-in-Err-clause-stays
returns-in-Err-clause-stays g c = λ os honest. let r = c.trace.ensures.others os in (r.goes.honest honest, λ content held. (r.keeps honest).content content held)

pub returns-then-not-may_trace-clause-own : goal.returns-then-not-may_trace-clause-own
returns-then-not-may_trace-clause-own g c os own honest content H held stands lawful rows =
    rw (sym (c.may_trace.ensures H lawful rows) ∙ c.if-not-may_trace.true) refl

pub returns-in-Ok-clause-own : goal.returns-in-Ok-clause-own
returns-in-Ok-clause-own g c os own honest content H held stands lawful rows =
    let s = c.args.slice.now in
    let lot = c.args.lot.now in
    let w = c.args.way in
    let steps = c.in-Ok.steps.items in
    let among = one_among os c.owner.result.now s.owner c.owner.ensures.owner own in
    let is = (c.in-Ok.ensures.alone os among).reads honest content held in
    rw (sym (c.may_trace.ensures H lawful rows) ∙ c.if-not-may_trace.false) (record {
      trace = steps;
      traced = own_trace H content lawful stands s.owner w lot steps (subst (λ (o : Bytes). IsTrace (λ a b. IsEdgeOfOne content (o ∷ []) (edge_of w a b)) lot steps) c.owner.ensures.owner is);
      reported = refl;
    })

pub returns-in-Ok-clause-others : goal.returns-in-Ok-clause-others
returns-in-Ok-clause-others g c os first kept =
    let m = meaning_for g.K.Keep.meaning g.K.Keep.part os in
    let new = c.trace.new.self in
    let steps = c.in-Ok.steps in
    kept_as m first new steps (ReplyTrace steps.items) (kept_then m first c.args.keep.now new tt _ kept (c.in-Ok.ensures.others os))

pub returns-in-Err-clause-others : goal.returns-in-Err-clause-others
returns-in-Err-clause-others g c os first kept =
    let m = meaning_for g.K.Keep.meaning g.K.Keep.part os in
    let new = c.trace.new.self in
    kept_fault m first new c.in-Err.fault (kept_then m first c.args.keep.now new tt _ kept (c.in-Err.ensures.others os))
