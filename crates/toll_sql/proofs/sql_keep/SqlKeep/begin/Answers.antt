use Rattle.std.proofs.Common.{◌≡◌, IsTrue, rules}
use Rattle.toll_sql.proofs.Common.{Holds, HoldsFor, closes_keep}
use Rattle.toll_sql.proofs.KeepLemmas.{found}
use Rattle.toll_sql.proofs.sql_keep.SqlKeep.begin.Goals.{in-Err, in-Ok, in-Ok-2}
use Rattle.toll_sql.proofs.sql_keep.SqlKeep.begin.Goals as goal

pub returns-clause-reading : goal.returns-clause-reading
returns-clause-reading g c =
    let unsure : IsTrue c.args.self.now.unsure = let no = c.if-not-self.false in search rules in
    let closes : c.match-found.self ≡ closes_keep c.find_open-found.result = elim c.match-found.branch [ in-Err w ↦ search rules | in-Ok w ↦ search rules | in-Ok-2 w ↦ search rules ] in
    found g.S.Store Holds c.args.self.now _ c.find_open-found.result (λ live db may. g.met.S.Store.settled c.args.self.now.conn.store db live.is_open may) c.if-self.false unsure c.find_open-found.ensures.finds closes

pub returns-clause-apart : goal.returns-clause-apart
returns-clause-apart g c = λ os.
    let unsure : IsTrue c.args.self.now.unsure = let no = c.if-not-self.false in search rules in
    let closes : c.match-found.self ≡ closes_keep c.find_open-found.result = elim c.match-found.branch [ in-Err w ↦ search rules | in-Ok w ↦ search rules | in-Ok-2 w ↦ search rules ] in
    found g.S.Store (HoldsFor os) c.args.self.now _ c.find_open-found.result (λ live db may. g.met.S.Store.settled c.args.self.now.conn.store db live.is_open may) c.if-self.false unsure c.find_open-found.ensures.finds closes

pub returns-clause-undamaged : goal.returns-clause-undamaged
returns-clause-undamaged g c = c.find_open-found.ensures.finds.undamaged
