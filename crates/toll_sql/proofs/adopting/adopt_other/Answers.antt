use Rattle.sqlite.specs.Held.{state}
use Rattle.toll_sql.proofs.RaiseLemmas.{others_told, others_unread}
use Rattle.toll_sql.proofs.adopting.adopt_other.Goals as goal

pub returns-in-Ok : goal.returns-in-Ok
returns-in-Ok g c =
    let old = state g.S.Store c.args.conn.now in
    let new = state g.S.Store c.find_version.new.conn in
    let v = c.find_version.ensures in
    let f = c.fault_of_others.ensures in
    record { adopts = others_told old new c.requires.unlimited c.requires.other.0 c.requires.other.1 c.in-Ok.stored_version c.find_version.result c.in-Ok.is v.left v.found c.fault_of_others.result f.damaged f.foreign f.known }

pub returns-in-Err : goal.returns-in-Err
returns-in-Err g c =
    let old = state g.S.Store c.args.conn.now in
    let new = state g.S.Store c.find_version.new.conn in
    let v = c.in-Err.ensures in
    let f = c.read_fault_of.ensures in
    record { adopts = others_unread old new c.requires.unlimited c.requires.other.0 c.requires.other.1 c.in-Err.error v.left v.unread c.read_fault_of.result f.disk f.foreign f.undamaged }
