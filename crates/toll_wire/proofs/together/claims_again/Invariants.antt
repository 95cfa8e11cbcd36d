-- One of all is the owner if one of those that are left is.
use Rattle.std.proofs.Common.{◌≡◌, drop, map}
use Rattle.std.specs.List.{list_any}
use Rattle.std.specs.Option.{option_map}
use Rattle.toll_wire.proofs.Common.{same_bytes}
use Rattle.toll_base.specs.Words.{is_some_where}
use Rattle.toll_wire.proofs.together.claims_again.Given as goal

abbrev pub invariant-loop-claimed : goal.invariant-loop-claimed
invariant-loop-claimed l =
    list_any (λ claimed. is_some_where (λ p. same_bytes p l.name) claimed) (map (λ claimed. option_map (λ p. p.now) claimed) (drop l.claimed-index l.owners))
    ≡ list_any (λ claimed. is_some_where (λ p. same_bytes p l.name) claimed) (map (λ claimed. option_map (λ p. p.now) claimed) l.owners)
