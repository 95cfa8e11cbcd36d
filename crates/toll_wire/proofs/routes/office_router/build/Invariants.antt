use Rattle.toll_wire.proofs.Routers.{IsUpTo}
use Rattle.toll_wire.proofs.routes.office_router.build.Given as goal

-- the router holds the routes so far
abbrev pub invariant-loop-route : goal.invariant-loop-route
invariant-loop-route l = IsUpTo l.route-index l.route-items l.router
