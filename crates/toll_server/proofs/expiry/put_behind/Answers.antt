use Rattle.toll_server.proofs.ExpiryLemmas.{put_more}
use Rattle.toll_server.proofs.expiry.put_behind.Goals as goal

pub loop-key-preserved : goal.loop-key-preserved
loop-key-preserved g c = let e = c.put_one_behind.ensures in
    put_more g.P.PartialEq.eq c.args.party.now c.args.event_count c.args.connections.now c.loop-key.key c.loop-key.connections c.put_one_behind.new.connections c.loop-key.invariant
    e.behind e.others e.vacant e.capacity e.len
