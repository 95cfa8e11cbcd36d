use Rattle.std.proofs.Common.{subst}
use Rattle.toll_sql.proofs.Common.{state, Adopts}
use Rattle.toll_sql.proofs.AdoptLemmas.{adopted}
use Rattle.toll_sql.proofs.adopting.adopt_tables.Goals as goal

pub returns-in-Ok-Ours : goal.returns-in-Ok-Ours
returns-in-Ok-Ours g c =
    let new = state g.S.Store c.adopt_ours.new.conn in
    record { adopts = adopted (state g.S.Store c.args.conn.now) new c.adopt_ours.result (subst (λ h. Adopts (state g.S.Store h) new c.adopt_ours.result) c.set_step_limit.ensures c.adopt_ours.ensures.adopts) }

pub returns-in-Ok-First : goal.returns-in-Ok-First
returns-in-Ok-First g c =
    let new = state g.S.Store c.adopt_first.new.conn in
    record { adopts = adopted (state g.S.Store c.args.conn.now) new c.adopt_first.result (subst (λ h. Adopts (state g.S.Store h) new c.adopt_first.result) c.set_step_limit.ensures c.adopt_first.ensures.adopts) }

pub returns-in-Ok-Other : goal.returns-in-Ok-Other
returns-in-Ok-Other g c =
    let new = state g.S.Store c.adopt_other.new.conn in
    record { adopts = adopted (state g.S.Store c.args.conn.now) new c.adopt_other.result (subst (λ h. Adopts (state g.S.Store h) new c.adopt_other.result) c.set_step_limit.ensures c.adopt_other.ensures.adopts) }
