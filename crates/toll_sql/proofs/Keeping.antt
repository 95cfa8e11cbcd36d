-- Calls of a keep one after another, by one of its meanings.
use Rattle.std.proofs.Common.{◌≡◌, ◌↔◌, ◌⊎◌, ◌<◌, ◌+◌, ℕ, List, [], length, get_or, take, subst}
use Rattle.toll_sql.proofs.Common.{reads_then, read_ok, Bytes, Draws, Edge, IsEdge, Slice}
use Rattle.toll_keep.specs.Holding.{DrawsFor, IsEdgeOfOne}
use Rattle.toll_keep.specs.Meaning.{Meaning, OverContent}
use Rattle.toll_keep.specs.Reads.{HaveRead, IsContentKept}
use Rattle.toll_keep.proofs.Calls.{answered}
pub use Rattle.toll_keep.proofs.Calls.{kept_as, kept_fault, kept_memory, kept_of, kept_then}
use Rattle.toll_keep.proofs.Learning.{drawn_more, drawn_none}
use Rattle.toll_keep.specs.HeldFor.{ReadsHeld}
use Rattle.toll_sql.specs.HeldFor.{LearnsOneMore}
use Rattle.toll_trace.specs.declared.recorded.Recorded.{Recorded}

module _ {K : Type 0} (m : Meaning K) where
  -- ---- what the rows of owners draw, one after another

  -- The calls so far were answered, and the records are those of these owners.
  pub record LearntSoFar (owners : List Bytes) (drawn : Edge → Type 0) (a b : K) : Type 0 where
    pub read : (first : K) → HaveRead m first a → HaveRead m first b
    pub kept : IsContentKept m a b
    pub reported : OverContent m a b (λ c. (e : Edge) → drawn e ↔ IsEdgeOfOne c owners e)

  pub learnt_none : (drawn : Edge → Type 0) → ((e : Edge) → drawn e → ⊥) → (a : K) → LearntSoFar [] drawn a a
  learnt_none drawn none a = record { read = λ first have. have; kept = λ honest. (honest, λ content held. held); reported = λ honest content held. drawn_none content drawn none }

  pub learnt_more : (owners : List Bytes) (i : ℕ) (o : Bytes) (drawn more : Edge → Type 0) (a b c : K) (slice : Slice) → i < length owners → o ≡ get_or owners i o → LearntSoFar (take i owners) drawn a b → ReadsHeld m b c (answered slice) (λ content. slice ≡ content.rows o)
      → ((e : Edge) → more e ↔ (drawn e ⊎ IsEdge slice e)) → LearntSoFar (take (i + 1) owners) more a c
  learnt_more owners i o drawn more a b c slice lt is so_far reads draws = record {
    read = λ first have. let now = reads_then m first b c tt (answered slice) (so_far.read first have) reads.reading in read_ok m first c slice tt now.goes now.keeps;
    kept = λ honest. let earlier = so_far.kept (reads.reading.goes.honest honest) in (earlier.0, λ content held. (reads.reading.keeps honest).content content (earlier.1 content held));
    reported = λ honest content held.
        let was = reads.reading.goes.honest honest in
        let rows = reads.reads honest content ((so_far.kept was).1 content held) in
        drawn_more content owners i o drawn more lt is (so_far.reported was content held) (λ e. subst (λ s. more e ↔ (drawn e ⊎ IsEdge s e)) rows (draws e));
  }

  pub learnt_all : (owners : List Bytes) (recorded : Recorded) (a b : K) → LearntSoFar owners (Draws recorded) a b → LearnsOneMore m a b (answered recorded) (λ c. DrawsFor c owners recorded)
  learnt_all owners recorded a b so_far = record {
    reads = λ first have. let now = so_far.read first have in read_ok m first b tt recorded now.goes now.keeps;
    kept = so_far.kept;
    reported = so_far.reported;
  }
