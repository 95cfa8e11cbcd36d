use Rattle.std.proofs.Common.{refl}
use Rattle.matchit.proofs.OnLiterals.{matchit_on_literals}
use Rattle.toll_wire.proofs.Routers.{router_complete, entered, insert_refused}
use Rattle.toll_wire.proofs.routes.office_router.build.Goals as goal
use Rattle.toll_wire.proofs.routes.office_router.build.Goals.{in-OutOfMemory, in_default-matches}

pub loop-route-init : goal.loop-route-init
unfolding matchit_on_literals
loop-route-init c = rw c.new-router.ensures (record { rows = refl; fit = refl })

pub prove-unreachable-requires : goal.prove-unreachable-requires
prove-unreachable-requires c =
    let memory = insert_refused _ c.loop-route.route-index _ c.loop-route.router c.insert.new.self c.loop-route-test.true c.loop-route.invariant c.in-Err.error c.in-Err.ensures in
    elim c.match-matches.branch [ in-OutOfMemory w ↦ absurd (cc (c.if-prove.true, w.matches-is)) | in_default-matches w ↦ absurd (w.in_default-matches.not-OutOfMemory memory) ]

pub loop-route-preserved : goal.loop-route-preserved
loop-route-preserved c =
    entered _ c.loop-route.route-index _ c.loop-route.router c.insert.new.self c.loop-route-test.true c.loop-route.invariant c.in_default.field-0 c.in_default.ensures

pub returns : goal.returns
unfolding matchit_on_literals
returns c = router_complete _ c.loop-route.route-index c.loop-route.router c.loop-route-test.false c.loop-route.invariant refl
