-- The party's places below the loop's key were counted.
use Rattle.std.proofs.Common.{◌≡◌, ◌≤◌, take, count_by}
use Rattle.toll_server.proofs.Common.{is_place_of}
use Rattle.toll_server.proofs.expiry.places_of.Given as goal

abbrev pub invariant-loop-key : goal.invariant-loop-key
invariant-loop-key g l = record {
  counted : l.number ≡ count_by (is_place_of g.P.PartialEq.eq l.party) (take l.key l.connections.slots);
  bound : l.number ≤ l.key;
}
