use Rattle.std.proofs.Common.{None, Some, Ok, Err, inl, inr, refl, subst, sym}
use Rattle.toll_protocol.specs.Parsed.{parse_outcome}
use Rattle.toll_protocol.specs.Parsing.{IsParsedAs}
use Rattle.toll_keep.specs.HeldFor.{PutsOutside}
use Rattle.toll_keep.specs.Meaning.{meaning_for}
use Rattle.toll_desk.proofs.CommitLemmas.{puts_outside}
use Rattle.toll_wire.proofs.Common.{Forbidden, text_of_failure, By, Nobody}
use Rattle.toll_wire.specs.Sayings.{Asks, Fails, Says}
use Rattle.toll_wire.proofs.HeldReplies.{held_alone, held_keyless, held_nobody, kept_alone, read_alone, text_there}
use Rattle.toll_wire.proofs.Readings.{are_of_one_of}
use Rattle.toll_wire.proofs.holding.hold_with_router.Goals as goal
use Rattle.toll_wire.proofs.holding.hold_with_router.Goals.{in_default-via-in-Some+in_default, in_default-via-in_default}

pub returns-in-Err-clause-held : goal.returns-in-Err-clause-held
returns-in-Err-clause-held g c = λ bytes is.
    let m = g.K.Keep.meaning in
    let keep = c.args.keep.now in
    let text = c.into_text in
    let reported = text_of_failure c.in-Err.failure in
    let there = text_there c.fail.result reported text.result text.ensures.text c.fail.ensures in
    inl (
      _,
      (_, rw c.in-Err.is at is, refl),
      held_alone m keep keep (Nobody reported) text.result c.unchanging.result c.unchanging.ensures.text c.unchanging.ensures.none (held_nobody m keep text.result text.ensures.memory reported there),
    )

pub returns-in_default-clause-held : goal.returns-in_default-clause-held
returns-in_default-clause-held g c = λ bytes is.
    let m = g.K.Keep.meaning in
    let keep = c.args.keep.now in
    let text = c.into_text-in_default in
    let back = c.unchanging-in_default in
    let reported = text_of_failure Forbidden in
    let there = text_there c.fail-in_default.result reported text.result text.ensures.text c.fail-in_default.ensures in
    let read : IsParsedAs bytes (parse_outcome (Ok c.in-Ok.http)) = rw c.in-Ok.is at is in
    elim c.in_default.branch [
      | in_default-via-in-Some+in_default w ↦ inl (_, (_, rw (w.in_default.is-0, w.in_default.is-1) at read, (_, c.in-Ok-route_request.ensures, refl)), held_alone m keep keep (By _ None _) text.result back.result back.ensures.text back.ensures.none (held_keyless m keep text.result text.ensures.memory _ _ there))
      | in_default-via-in_default w ↦ inl (_, (_, rw w.in_default.is-0 at read, (_, c.in-Ok-route_request.ensures, refl)), held_alone m keep keep (Nobody reported) text.result back.result back.ensures.text back.ensures.none (held_nobody m keep text.result text.ensures.memory reported there))
    ]

pub returns-in-Err-clause-alone : goal.returns-in-Err-clause-alone
returns-in-Err-clause-alone g c = λ os bytes is its.
    let m = meaning_for g.K.Keep.meaning g.K.Keep.part os in
    let keep = c.args.keep.now in
    let text = c.into_text in
    let reported = text_of_failure c.in-Err.failure in
    let there = text_there c.fail.result reported text.result text.ensures.text c.fail.ensures in
    inl (
      _,
      (_, rw c.in-Err.is at is, refl),
      held_alone m keep keep (Nobody reported) text.result c.unchanging.result c.unchanging.ensures.text c.unchanging.ensures.none (held_nobody m keep text.result text.ensures.memory reported there),
    )

pub returns-in_default-clause-alone : goal.returns-in_default-clause-alone
returns-in_default-clause-alone g c = λ os bytes is its.
    let m = meaning_for g.K.Keep.meaning g.K.Keep.part os in
    let keep = c.args.keep.now in
    let text = c.into_text-in_default in
    let back = c.unchanging-in_default in
    let reported = text_of_failure Forbidden in
    let there = text_there c.fail-in_default.result reported text.result text.ensures.text c.fail-in_default.ensures in
    let read : IsParsedAs bytes (parse_outcome (Ok c.in-Ok.http)) = rw c.in-Ok.is at is in
    elim c.in_default.branch [
      | in_default-via-in-Some+in_default w ↦ inl (_, (_, rw (w.in_default.is-0, w.in_default.is-1) at read, (_, c.in-Ok-route_request.ensures, refl)), held_alone m keep keep (By _ None _) text.result back.result back.ensures.text back.ensures.none (held_keyless m keep text.result text.ensures.memory _ _ there))
      | in_default-via-in_default w ↦ inl (_, (_, rw w.in_default.is-0 at read, (_, c.in-Ok-route_request.ensures, refl)), held_alone m keep keep (Nobody reported) text.result back.result back.ensures.text back.ensures.none (held_nobody m keep text.result text.ensures.memory reported there))
    ]

pub returns-in-Ok-asks-clause-alone : goal.returns-in-Ok-asks-clause-alone
returns-in-Ok-asks-clause-alone g c = λ os bytes is its.
    let read : IsParsedAs bytes (parse_outcome (Ok c.in-Ok.http)) = rw c.in-Ok.is at is in
    let says : Says bytes (By c.in-Some-Some.owner.now (Some c.in-Some-Some.key.now) (Asks c.in-Ok-asks.request)) = (_, rw (c.in-Some-Some.is-0, c.in-Some-Some.is-1) at read, (Ok c.in-Ok-asks.request, rw c.in-Ok-asks.is at c.in-Ok-route_request.ensures, refl)) in
    inl (_, says, c.hold.ensures.alone os (its _ says))

pub returns-in-Err-asks-clause-alone : goal.returns-in-Err-asks-clause-alone
returns-in-Err-asks-clause-alone g c = λ os bytes is its.
    let read : IsParsedAs bytes (parse_outcome (Ok c.in-Ok.http)) = rw c.in-Ok.is at is in
    let says : Says bytes (By c.in-Some-Some.owner.now (Some c.in-Some-Some.key.now) (Fails (text_of_failure c.in-Err-asks.failure))) = (_, rw (c.in-Some-Some.is-0, c.in-Some-Some.is-1) at read, (Err c.in-Err-asks.failure, rw c.in-Err-asks.is at c.in-Ok-route_request.ensures, refl)) in
    let back = c.unchanging-in-Err-asks in
    inl (_, says, held_alone (meaning_for g.K.Keep.meaning g.K.Keep.part os) c.args.keep.now c.refuse.new.keep _ c.refuse.result back.result back.ensures.text back.ensures.none (c.refuse.ensures.alone os))

pub returns-in-Err-clause-others : goal.returns-in-Err-clause-others
returns-in-Err-clause-others g c = λ os bytes is other.
    let says : Says bytes (Nobody (text_of_failure c.in-Err.failure)) = (_, rw c.in-Err.is at is, refl) in
    absurd (other (are_of_one_of os bytes _ says tt))

pub returns-in_default-clause-others : goal.returns-in_default-clause-others
returns-in_default-clause-others g c = λ os bytes is other.
    let read : IsParsedAs bytes (parse_outcome (Ok c.in-Ok.http)) = rw c.in-Ok.is at is in
    absurd (elim c.in_default.branch [
      | in_default-via-in-Some+in_default w ↦
          let says : Says bytes (By _ None _) = (_, rw (w.in_default.is-0, w.in_default.is-1) at read, (_, c.in-Ok-route_request.ensures, refl)) in
          other (are_of_one_of os bytes _ says tt)
      | in_default-via-in_default w ↦
          let says : Says bytes (Nobody (text_of_failure Forbidden)) = (_, rw w.in_default.is-0 at read, (_, c.in-Ok-route_request.ensures, refl)) in
          other (are_of_one_of os bytes _ says tt)
    ])

pub returns-in-Ok-asks-clause-others : goal.returns-in-Ok-asks-clause-others
returns-in-Ok-asks-clause-others g c = λ os bytes is other.
    let read : IsParsedAs bytes (parse_outcome (Ok c.in-Ok.http)) = rw c.in-Ok.is at is in
    let says : Says bytes (By c.in-Some-Some.owner.now (Some c.in-Some-Some.key.now) (Asks c.in-Ok-asks.request)) = (_, rw (c.in-Some-Some.is-0, c.in-Some-Some.is-1) at read, (Ok c.in-Ok-asks.request, rw c.in-Ok-asks.is at c.in-Ok-route_request.ensures, refl)) in
    inl (c.hold.ensures.others os, puts_outside os c.in-Some-Some.owner.now _ (λ mine. other (are_of_one_of os bytes _ says mine)) c.hold.ensures.puts)

pub returns-in-Err-asks-clause-others : goal.returns-in-Err-asks-clause-others
returns-in-Err-asks-clause-others g c = λ os bytes is other.
    let back = c.unchanging-in-Err-asks in
    inl (
      kept_alone (meaning_for g.K.Keep.meaning g.K.Keep.part os) c.args.keep.now c.refuse.new.keep c.refuse.result back.result back.ensures.text (c.refuse.ensures.others os),
      subst (PutsOutside os) (sym back.ensures.none) tt,
    )

pub returns-in-Err-clause-reads : goal.returns-in-Err-clause-reads
returns-in-Err-clause-reads g c =
    let keep = c.args.keep.now in
    read_alone g.K.Keep.meaning keep keep c.into_text.result c.unchanging.result c.unchanging.ensures.text (inl (refl, c.into_text.ensures.memory))

pub returns-in_default-clause-reads : goal.returns-in_default-clause-reads
returns-in_default-clause-reads g c =
    let keep = c.args.keep.now in
    let text = c.into_text-in_default in
    let back = c.unchanging-in_default in
    read_alone g.K.Keep.meaning keep keep text.result back.result back.ensures.text (inl (refl, text.ensures.memory))

pub returns-in-Ok-asks-clause-reads : goal.returns-in-Ok-asks-clause-reads
returns-in-Ok-asks-clause-reads g c = read_alone g.K.Keep.meaning c.args.keep.now c.hold.new.keep _ c.hold.result refl (inr c.hold.ensures.holds.calls)

pub returns-in-Err-asks-clause-reads : goal.returns-in-Err-asks-clause-reads
returns-in-Err-asks-clause-reads g c =
    let back = c.unchanging-in-Err-asks in
    read_alone g.K.Keep.meaning c.args.keep.now c.refuse.new.keep c.refuse.result back.result back.ensures.text (inr c.refuse.ensures.holds.calls)
