-- What is read of a store whose tables hold a content.
use Rattle.std.proofs.Common.{◌≡◌, ◌≢◌, Bool, true, false, List, [], ◌∷◌, Contains, map, Ok, Err, Result, OnOk, IsTrue, refl, sym, subst, ◌∙◌}
use Rattle.toll_sql.proofs.Common.{AllByRecursion, Database, Row, State, HasCleanDisk, Trees, Bytes, Slice, Content, KeepFault, Disk, Closed, LeavesStore, IsLooking, owned_by, fill, rows_for, IsStoredAs, HoldsAll, HoldsFor, HoldsPart, HasOurs, AreAll, AreOfOwner, AreStoredOfPlant, PlantKind, HoldsBy, HoldsIn, HoldsPartIn, tree_of, is_owned, TableKind, Meta, Owners, Units}
use Rattle.toll_sql.specs.Laws.{narrowed}
use Rattle.toll_sql.proofs.ReadLemmas.{read_rows}

-- ---- the rows of a slice fill the columns of their tables

pub cells_fill : {X : Type 0} (k : TableKind) (cells : X → Row) → ((x : X) → fill k (cells x) ≡ true) → (l : List X) → AllByRecursion (λ c. fill k c ≡ true) (map cells l)
cells_fill k cells fits [] = tt
cells_fill k cells fits (x ∷ l) = (fits x, cells_fill k cells fits l)

all_fill : (k : TableKind) (s : Slice) → AllByRecursion (λ c. fill k c ≡ true) (rows_for k s)
all_fill Meta s = tt
all_fill Owners s = tt
all_fill Units s = tt
all_fill k s = cells_fill k _ (λ x. refl) _

-- ---- the answer

pub stored_as : (s : State) (o : Bytes) (slice : Slice) → HoldsPartIn is_owned s o slice → (k : TableKind) → is_owned k ≡ true → (rows : List Row) → AreOfOwner k o s.now.trees rows → IsStoredAs k slice rows
stored_as s o slice held k owned rows read =
    let has = held.rows.stored k owned in
    record { are = read_rows k (owned_by o (s.now.trees (tree_of k))) rows (rows_for k slice) read has (all_fill k slice); rising = has.rising; valid = held.rows.valid k owned }

-- The plant's rows that were read are those that the table held.
pub plant_rows : {X : Type 0} (kind : PlantKind X) → AreStoredOfPlant kind → (t : TableKind) → t ≡ kind.table → (db : Trees) (rows : List Row) → (is_owned t ≡ false → AreAll t db rows) → (l : List X) → HoldsAll kind db l → rows ≡ map kind.cells l
plant_rows kind alone t is db rows all l held =
    let k = kind.table in
    let read = subst (λ k. AreAll k db rows) is (all (subst (λ k. is_owned k ≡ false) (sym is) alone.unowned)) in
    read_rows k (db (tree_of k)) rows (map kind.cells l) read held.stored (cells_fill k kind.cells alone.fills l)

-- Rows that were read are checked without the store.
pub looking : {X Y E : Type 0} (old new : State) (x : X) (r : Result Y KeepFault) → LeavesStore {X = X} {E = E} old new (Ok x) → r ≢ Err Disk → r ≢ Err Closed → IsLooking old new r
looking {X} {Y} {E} old new x r asks disk closed = record {
  asks = record { live = asks.live; shown = λ clean. shown r (asks.shown clean); same = asks.same; mode = asks.mode; survives = asks.survives };
  cause = λ clean e. absurd (disk e);
  unclosed = closed;
  damaged = λ clean e. asks.shown clean;
}
  where
    shown : (r : Result Y KeepFault) → IsTrue new.is_open → OnOk r (IsTrue new.is_open)
    shown (Ok y) live = live
    shown (Err e) live = tt

-- What was held of an owner is still held after reading that succeeded.
pub held_on : {X E : Type 0} (is_such : TableKind → Bool) (old new : State) (x : X) (o : Bytes) (slice : Slice) → LeavesStore {X = X} {E = E} old new (Ok x) → HasCleanDisk new → HoldsPartIn is_such old o slice → HoldsPartIn is_such new o slice
held_on is_such old new x o slice asks clean held =
    let same = asks.same clean held.ours (asks.shown clean) held.idle in
    record {
      ours = subst (λ (db : Database). HasOurs db.schema) (sym same.0) held.ours;
      idle = same.0 ∙ held.idle ∙ sym same.1;
      rows = subst (λ (db : Database). HoldsPart is_such db.trees o slice) (sym same.0) held.rows;
    }

-- Fewer tables hold their part of what more tables hold.
pub part_within : (is_such is_more : TableKind → Bool) → ((k : TableKind) → is_such k ≡ true → is_more k ≡ true) → (db : Trees) (o : Bytes) (s : Slice) → HoldsPart is_more db o s → HoldsPart is_such db o s
part_within is_such is_more less db o s has = record { named = has.named; stored = λ k such. has.stored k (less k such); valid = λ k such. has.valid k (less k such) }

-- A store that holds a content holds each owner's part.
pub holds_part : (is_such : TableKind → Bool) → ((k : TableKind) → is_such k ≡ true → is_owned k ≡ true) → (s : State) (c : Content) → HoldsIn s c → (o : Bytes) → HoldsPartIn is_such s o (c.rows o)
holds_part is_such less s c held o = record { ours = held.ours.schema; idle = held.idle; rows = part_within is_such is_owned less s.now.trees o (c.rows o) (held.rows.each.slices o) }

pub slice_part : (s : State) (c : Content) → HoldsIn s c → (o : Bytes) → HoldsPartIn is_owned s o (c.rows o)
slice_part = holds_part is_owned (λ k owned. owned)

-- A store that holds rows of some owners holds each of their parts.
pub part_for : (os : List Bytes) (s : State) (c : Content) → HoldsBy (HoldsFor os) s c → (o : Bytes) → Contains os o → HoldsPartIn is_owned s o (c.rows o)
part_for os s c held o own = record { ours = held.ours.schema; idle = held.idle; rows = held.rows.slices o own }

pub narrowed_in : (os : List Bytes) (s : State) (c : Content) → HoldsIn s c → HoldsBy (HoldsFor os) s c
narrowed_in os s c held = record { ours = held.ours; idle = held.idle; rows = narrowed os s.now.trees c held.rows }
