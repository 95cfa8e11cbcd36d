use Rattle.std.proofs.Common.{◌≡◌, ◌∙◌, ◌<◌, ◌≤◌, ◌+◌, ◌++◌, ℕ, List, [], Result, Ok, Err, ap, cond, is_ok, length, refl, subst, sym, arith}
use Rattle.std.specs.Prelude.{OnErr, vec_capacity, vec_len}
use Rattle.toll_wire.proofs.Common.{digits, serde_json_on_literals, reply_text}
use Rattle.toll_wire.specs.ReplyTexts.{unavailable_text}
use Rattle.toll_server.specs.RequestBuffers.{listener_of}
use Rattle.toll_service.specs.Sessions.{IsRefusal}
use Rattle.toll_service.proofs.reserved_refusal.ReservedRefusal.write.Goals as goal

unavailable_length : length unavailable_text ≡ 130
unfolding serde_json_on_literals digits reply_text
unavailable_length = refl

-- What fits into the room that was reserved is written.
room_filled : {X E : Type 0} (r : Result X E) (before text behind : List ℕ) (room filled : ℕ) → before ≡ [] → filled ≡ 0 → 160 ≤ room → length text ≤ 160
    → OnErr r (room < filled + length text) → behind ≡ cond (is_ok r) (before ++ text) before → behind ≡ text
room_filled (Ok x) before text behind room filled none zero has fits full is = is ∙ ap (λ b. b ++ text) none
room_filled (Err e) before text behind room filled none zero has fits full is = absurd (omega arith)

pub returns-in-Owner : goal.returns-in-Owner
returns-in-Owner c =
    let bytes = c.args.self.bytes in
    let fits : length c.bytes.result.now ≤ 160 = subst (λ t. length t ≤ 160) (sym c.bytes.ensures) (omega (arith, unavailable_length)) in
    subst (λ r. IsRefusal c.args.fault (listener_of r) c.extend_from_slice.new.self.items) (sym c.in-Owner.is)
    (room_filled c.extend_from_slice.result bytes.items c.bytes.result.now c.extend_from_slice.new.self.items (vec_capacity bytes) (vec_len bytes)
    c.args.self.is_empty.0 c.args.self.is_empty.1 c.args.self.has_room fits c.extend_from_slice.ensures.full c.extend_from_slice.ensures.items ∙ c.bytes.ensures)
