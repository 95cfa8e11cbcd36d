use Rattle.std.proofs.Common.{IfSome, subst, sym, ap, ◌∙◌}
use Rattle.toll_wire.proofs.Common.{option_copied, IsOffice}
use Rattle.toll_wire.proofs.routes.office_router.OfficeRouter.built.Goals as goal
use Rattle.toll_wire.proofs.routes.office_router.OfficeRouter.built.Goals.{then-is_none+in_ok-build+in-Some-1, then-is_none+in_ok-build+in-None-1, else-is_none}

pub returns : goal.returns
returns c =
    let office : IfSome c.if-is_none.self-inside.built IsOffice = elim c.if-is_none.branch [
      | then-is_none+in_ok-build+in-Some-1 w ↦ rw w.self-inside-is w.in_ok-build.ensures
      | then-is_none+in_ok-build+in-None-1 w ↦ rw w.self-inside-is w.in_ok-build.ensures
      | else-is_none w ↦ rw w.self-inside-is c.self.invariant
    ] in
    subst (λ built. IfSome built IsOffice) (sym c.as_ref.ensures.value ∙ ap option_copied c.unwrap.ensures) office
