use Rattle.std.proofs.Common.{List, Ok, take, Contains}
use Rattle.toll_keep.proofs.Common.{AreAmong, AreFor, AreGraphsFor, AreGraphsOf, AreOf, Bytes, Content, HasGraph, HaveRead, IsContentKept, KeepsHeld, OnlyKnownFor, OnlyKnownHaveRows, meaning_for}
use Rattle.toll_keep.proofs.tracing.read_graphs.Given as goal

-- The calls so far were answered, and the graphs of the owners so far are there.
abbrev pub invariant-loop-owner : goal.invariant-loop-owner
invariant-loop-owner g l =
    let k = g.K.Keep in record {
      read : (first : g.row.K.Denot) → HaveRead k.meaning first l.fn.keep → HaveRead k.meaning first l.keep;
      kept : IsContentKept k.meaning l.fn.keep l.keep;
      own : k.meaning.is_honest l.keep → (c : Content) → k.meaning.holds l.fn.keep c → AreOf c l.slices → OnlyKnownHaveRows c → AreGraphsOf c l.fn.graphs.items → AreGraphsOf c l.graphs.items;
      alone : (os : List Bytes) → AreAmong l.owners os → (first : g.row.K.Denot) → HaveRead (meaning_for k.meaning k.part os) first l.fn.keep → HaveRead (meaning_for k.meaning k.part os) first l.keep;
      others : (os : List Bytes) (first : g.row.K.Denot) → KeepsHeld {X = Unit {0}} (meaning_for k.meaning k.part os) first l.fn.keep (Ok tt) → KeepsHeld {X = Unit {0}} (meaning_for k.meaning k.part os) first l.keep (Ok tt);
      stays : (os : List Bytes) → IsContentKept (meaning_for k.meaning k.part os) l.fn.keep l.keep;
      apart : (os : List Bytes) → k.meaning.is_honest l.keep → (c : Content) → (k.part os).holds l.fn.keep c → AreFor os c l.slices → OnlyKnownFor os c → AreGraphsFor os c l.fn.graphs.items → AreGraphsFor os c l.graphs.items;
      there : (o : Bytes) → Contains (take l.owner-index l.owners) o → HasGraph l.graphs.items o;
    }
