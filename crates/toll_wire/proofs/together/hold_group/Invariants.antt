-- The requests so far are held back, and there is room for the others.
use Rattle.std.proofs.Common.{◌≡◌, ◌≤◌, List, length, map, take, vec_len, vec_capacity, Ok}
use Rattle.std.specs.Option.{option_map}
use Rattle.toll_keep.specs.Meaning.{meaning_for}
use Rattle.toll_wire.proofs.Common.{AllByRecursion, Bytes}
use Rattle.toll_wire.proofs.GroupHeld.{IsSoFar}
use Rattle.toll_wire.specs.Groups.{AreHeldKeeping}
use Rattle.toll_wire.specs.Sayings.{AreOfOneOf}
use Rattle.toll_wire.proofs.together.hold_group.Given as goal

abbrev pub invariant-loop-request : goal.invariant-loop-request
invariant-loop-request g l =
    let K = g.K.Keep in
    let requests = map (λ request. request.now) (take l.request-index l.requests) in
    let owners = map (λ owner. option_map (λ o. o.now) owner) l.owners.items in
    record {
      count : vec_len l.replies ≡ l.request-index;
      room : length l.requests ≤ vec_capacity l.replies;
      claims : vec_len l.owners ≡ l.request-index;
      space : length l.requests ≤ vec_capacity l.owners;
      so_far : IsSoFar K.meaning l.fn.keep l.keep requests owners l.replies.items l.changes.items;
      alone : (os : List Bytes) → AllByRecursion (AreOfOneOf os) (map (λ request. request.now) l.requests)
          → IsSoFar (meaning_for K.meaning K.part os) l.fn.keep l.keep requests owners l.replies.items l.changes.items;
      others : (os : List Bytes) → AllByRecursion (λ bytes. ¬ (AreOfOneOf os bytes)) (map (λ request. request.now) l.requests)
          → AreHeldKeeping {X = Unit {0}} (meaning_for K.meaning K.part os) l.fn.keep l.keep (Ok tt) os l.changes.items;
    }
