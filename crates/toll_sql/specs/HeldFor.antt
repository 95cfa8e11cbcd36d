-- Tables with the same rows of some owners, and calls that learn of what is held for them.
use Rattle.std.specs.Prelude.{◌≡◌, true, false, List, Contains, Result}
use Rattle.toll_sql.specs.Common.{Trees, Bytes, Content, KeepFault}
use Rattle.toll_keep.specs.Meaning.{Meaning, OverContent}
use Rattle.toll_keep.specs.Reads.{IsContentKept, ReadsOneMore}
use Rattle.toll_sql.specs.Bag.{owned_by}
use Rattle.toll_sql.specs.Schema.{is_owned, tree_of}
use Rattle.toll_sql.specs.declared.table_kind.TableKind.{TableKind}

-- The two sets of tables have the same rows of these owners, and the same tables that aren't divided by owner.
pub record HaveSameRows (os : List Bytes) (db other : Trees) : Type 0 where
  pub plant : (k : TableKind) → is_owned k ≡ false → db (tree_of k) ≡ other (tree_of k)
  pub owned : (k : TableKind) → is_owned k ≡ true → (o : Bytes) → Contains os o → owned_by o (db (tree_of k)) ≡ owned_by o (other (tree_of k))

-- After calls that read and were answered, this was one more, and P holds of each content that was held.
pub record LearnsOneMore {K X : Type 0} (meaning : Meaning K) (old new : K) (result : Result X KeepFault) (P : Content → Type 0) : Type 0 where
  pub reads : ReadsOneMore meaning old new result
  pub kept : IsContentKept meaning old new
  pub reported : OverContent meaning old new P
