use Rattle.std.proofs.lemmas.Result.{on_ok_weaker}
use Rattle.toll_wire.proofs.Sending.{sent_at_end, sends, sends_object}
use Rattle.toll_wire.proofs.bodies.batches.BatchViewJsonValue.send.Goals as goal

pub returns : goal.returns
returns g c =
    on_ok_weaker c.end_map.result (λ ended. sends_object _ (sends c.in_ok-send_member.ensures (sends c.in_ok-send_member-2.ensures (sends c.in_ok-send_member-3.ensures
    (sends c.in_ok-send_member-4.ensures (sends c.in_ok-send_member-5.ensures (sends c.in_ok-send_member-6.ensures (sent_at_end _ _ ended))))))) c.in_ok-begin_map.ensures) c.end_map.ensures
