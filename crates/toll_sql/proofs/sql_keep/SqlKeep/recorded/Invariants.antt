use Rattle.std.proofs.Common.{◌↔◌, List, Ok, take}
use Rattle.toll_sql.proofs.Common.{sql_meaning, sql_part, Bytes, Draws, Edge}
use Rattle.toll_keep.specs.Holding.{IsEdgeOfOne}
use Rattle.toll_keep.specs.Meaning.{OverContent}
use Rattle.toll_keep.specs.Reads.{HaveRead, IsContentKept}
use Rattle.toll_keep.specs.HeldFor.{AreAmong, KeepsHeld}
use Rattle.toll_sql.proofs.Keeping.{LearntSoFar}
use Rattle.toll_sql.proofs.sql_keep.SqlKeep.recorded.Given as goal

-- The calls so far were answered, and the records are those of the owners so far.
abbrev pub invariant-loop-owner : goal.invariant-loop-owner
invariant-loop-owner g l =
    let meaning = sql_meaning g.S.Store in record {
      read : (first : _) → HaveRead meaning first l.fn.self → HaveRead meaning first l.self;
      kept : IsContentKept meaning l.fn.self l.self;
      reported : OverContent meaning l.fn.self l.self (λ c. (e : Edge) → Draws l.recorded e ↔ IsEdgeOfOne c (take l.owner-index l.owners) e);
      alone : (os : List Bytes) → AreAmong l.owners os → LearntSoFar (sql_part g.S.Store os) (take l.owner-index l.owners) (Draws l.recorded) l.fn.self l.self;
      others : (os : List Bytes) (first : _) → KeepsHeld {X = Unit {0}} (sql_part g.S.Store os) first l.fn.self (Ok tt) → KeepsHeld {X = Unit {0}} (sql_part g.S.Store os) first l.self (Ok tt);
    }
