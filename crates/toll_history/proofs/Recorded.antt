-- The tables of a history after one more movement.
use Rattle.std.proofs.Common.{◌≡◌, ℕ, ◌+◌, ◌-◌, Bool, true, false, not, ◌&&◌, ◌||◌, cond, Option, Some, None, is_none, ◌∷◌, refl, sym, ap, ◌∙◌, arith}
use Rattle.toll_history.proofs.Common.{lot_row_of, sublot_row_of, false≢true, option_map, and_right, Bytes, same_bytes, or_else, where_so, is_some_where, lot_id, Quarantined, Origin, LotRow, MoveRow, SublotRow, both, same_bytes-exact, same_bytes-refl, same_bytes-symm, Record, by, History, acts, Made, made_by, first_made, lot_made, lot_brought, movements, movement_of, sublot_known, sublot_in, stock, brings_into, takes_from, makes_lot, makes_sublot, count_lots, count_sublots, material_used, facts_given, lot_row, sublot_row, lot_row_made, Accepted, IsLawful, IsValidAction, verdict, amount_in}
use Rattle.toll_history.proofs.Options.{or_else_none, true_where}
use Rattle.toll_history.proofs.Own.{acts-own}
use Rattle.toll_history.proofs.OwnFacts.{tables_but_amounts-other}
use Rattle.toll_history.proofs.Moving.{held_is, lot_row_none}
use Rattle.toll_history.proofs.Lots.{lot_made-cons}
use Rattle.toll_history.proofs.CameIn.{came_in as lot_came_in, came_in_use, sublot_row-recorded, material_used-recorded}
use Rattle.toll_history.proofs.OtherSublots.{sublot_row_kept}
use Rattle.toll_history.proofs.Grown.{more, tables_from, after_is, put_first}
use Rattle.toll_history.proofs.PutMoves.{with_move, with_lot, with_sublot, is_sublot_key}

counts_no_more : (b made : Bool) (n : ℕ) → made ≡ false → cond (b && made) 1 0 + n ≡ n
counts_no_more true true n h = absurd (false≢true (sym h))
counts_no_more true false n h = omega arith
counts_no_more false made n h = omega arith

counts_one_more : (b made : Bool) (n : ℕ) → b ≡ true → cond (b && made) 1 0 + n ≡ more made n
counts_one_more true true n h = omega arith
counts_one_more true false n h = omega arith
counts_one_more false made n h = absurd (false≢true h)

none_where_not : {X : Type 0} (b : Bool) (x : X) → is_none (where_so b x) ≡ not b
none_where_not true x = refl
none_where_not false x = refl

-- A known sublot stays known after another is put.
still_known : (b : Bool) (x : Option SublotRow) (new : SublotRow) (n : ℕ) → is_none x ≡ false → more (is_none (cond b (Some new) x)) n ≡ n
still_known true x new n there = refl
still_known false x new n there = ap (λ b. more b n) there

module _ (H : History) (o : Bytes) (row : MoveRow) (lawful : IsLawful H) (valid : IsValidAction (Record row)) (accepted : verdict H (by o (Record row)) ≡ Accepted) where
  -- ---- the tables of others

  -- The tables of others differ in sublots alone.
  recorded_others_but_sublots : (p : Bytes) → same_bytes o p ≡ false → facts_given (by o (Record row) ∷ H) p ≡ record (facts_given H p) { sublot = sublot_row (by o (Record row) ∷ H) p }
  recorded_others_but_sublots p other i = record (tables_but_amounts-other p H (by o (Record row)) (lawful, valid, accepted) other i) { sublot = sublot_row (by o (Record row) ∷ H) p }

  -- They don't differ at all if nothing is taken from them.
  pub tables-untaken : (p : Bytes) → same_bytes o p ≡ false → ((k : Bytes × Bytes) → takes_from (lot_id p k.0) k.1 o row.what ≡ false) → facts_given (by o (Record row) ∷ H) p ≡ facts_given H p
  tables-untaken p other none =
      recorded_others_but_sublots p other
      ∙ (λ i. record (facts_given H p) { sublot = λ k. sublot_row_kept H o p (same_bytes-symm p o ∙ other) (Record row) lawful accepted k (none k) i })

  -- ---- the tables of the owner

  -- The owner's tables, except for lots and sublots, which follow below.
  pub recorded_but_lots : facts_given (by o (Record row) ∷ H) o ≡ record (with_move row (facts_given H o)) {
    lot = lot_row (by o (Record row) ∷ H) o;
    lots = count_lots (by o (Record row) ∷ H) o;
    sublot = sublot_row (by o (Record row) ∷ H) o;
    sublots = count_sublots (by o (Record row) ∷ H) o;
    material_used = material_used (by o (Record row) ∷ H) o;
  }
  recorded_but_lots =
      let back = sym (acts-own o (by o (Record row)) H (same_bytes-refl o)) in
      ap (λ own. tables_from own o (by o (Record row) ∷ H)) (acts-own o (by o (Record row)) H (same_bytes-refl o))
      ∙ after_is (Record row) (acts o H) o (by o (Record row) ∷ H)
      ∙ (λ i. record (with_move row (facts_given H o)) {
        lot = λ l. option_map (lot_row_made (back i) l) (lot_made (by o (Record row) ∷ H) (lot_id o l));
        lots = count_lots (by o (Record row) ∷ H) o;
        sublot = sublot_row (by o (Record row) ∷ H) o;
        sublots = count_sublots (by o (Record row) ∷ H) o;
        material_used = material_used (by o (Record row) ∷ H) o;
        movement = λ k. put_first (same_bytes k row.key) row (movement_of (acts o H) k) i;
      })

  -- ---- lots

  -- A movement that makes no lot leaves the lots.
  pub no_lot_more : ((l : Bytes) → made_by (lot_id o l) o row.what ≡ None) → makes_lot o row.what (movements H) ≡ false → lot_brought o (o, row) ≡ None →
      facts_given (by o (Record row) ∷ H) o ≡ record (with_move row (facts_given H o)) { sublot = sublot_row (by o (Record row) ∷ H) o; sublots = count_sublots (by o (Record row) ∷ H) o }
  unfolding count_lots
  no_lot_more none made brought =
      recorded_but_lots
      ∙ (λ i. record (with_move row (facts_given H o)) {
        sublot = sublot_row (by o (Record row) ∷ H) o;
        sublots = count_sublots (by o (Record row) ∷ H) o;
        lot = λ l. option_map (lot_row_made (acts-own o (by o (Record row)) H (same_bytes-refl o) i) l)
            ((lot_made-cons H o (Record row) (lot_id o l) ∙ ap (λ x. or_else (lot_made H (lot_id o l)) x) (none l) ∙ or_else_none (lot_made H (lot_id o l))) i);
        lots = counts_no_more (same_bytes o o) (makes_lot o row.what (movements H)) (count_lots H o) made i;
        material_used = λ m. (material_used-recorded H o o row m lawful ∙ ap (λ x. is_some_where (λ l. is_some_where (λ (made : Made). same_bytes made.material m) (lot_made (by o (Record row) ∷ H) (lot_id o l))) x || material_used H o m) brought) i;
      })

  abbrev quarantined : (lot material : Bytes) (origin : Origin) → LotRow
  quarantined lot material origin = lot_row_of lot material origin Quarantined

  -- A movement that makes a lot, new or known, leaves it with the movement's material and origin, and quarantined.
  pub lot_more : (lot material : Bytes) (origin : Origin) →
      ((l : Bytes) → made_by (lot_id o l) o row.what ≡ where_so (same_bytes l lot) (record { material = material; origin = origin })) →
      makes_lot o row.what (movements H) ≡ is_none (first_made (lot_id o lot) (movements H)) →
      facts_given (by o (Record row) ∷ H) o ≡ record (with_lot (quarantined lot material origin) (with_move row (facts_given H o))) { sublot = sublot_row (by o (Record row) ∷ H) o; sublots = count_sublots (by o (Record row) ∷ H) o }
  unfolding count_lots lot_made
  lot_more lot material origin makes new =
      recorded_but_lots
      ∙ (λ i. record (with_lot (quarantined lot material origin) (with_move row (facts_given H o))) {
        sublot = sublot_row (by o (Record row) ∷ H) o;
        sublots = count_sublots (by o (Record row) ∷ H) o;
        lot = λ l. lot_at l i;
        lots = (counts_one_more (same_bytes o o) (makes_lot o row.what (movements H)) (count_lots H o) (same_bytes-refl o) ∙ ap (λ b. more b (count_lots H o)) (new ∙ sym (lot_row_none H o lot))) i;
        material_used = λ m. came_in_use H o row lot (record { material = material; origin = origin }) m lawful accepted (makes lot ∙ ap (λ b. where_so b (record { material = material; origin = origin })) (same_bytes-refl lot)) i;
      })
    where
      lot_at : (l : Bytes) → lot_row (by o (Record row) ∷ H) o l ≡ cond (same_bytes l lot) (Some (quarantined lot material origin)) (lot_row H o l)
      lot_at l =
          elim (same_bytes l lot) as (λ b. same_bytes l lot ≡ b → lot_row (by o (Record row) ∷ H) o l ≡ cond b (Some (quarantined lot material origin)) (lot_row H o l)) [
            | true ↦ λ same.
                lot_came_in H o row l (record { material = material; origin = origin }) lawful accepted (makes l ∙ ap (λ b. where_so b (record { material = material; origin = origin })) same)
                ∙ ap (λ x. Some (quarantined x material origin)) (same_bytes-exact l lot same)
            | false ↦ λ other i.
                option_map (lot_row_made (acts-own o (by o (Record row)) H (same_bytes-refl o) i) l)
                ((lot_made-cons H o (Record row) (lot_id o l)
                ∙ ap (λ x. or_else (lot_made H (lot_id o l)) x) (makes l ∙ ap (λ b. where_so b (record { material = material; origin = origin })) other)
                ∙ or_else_none (lot_made H (lot_id o l))) i)
          ] refl

  -- ---- how many sublots there are

  -- the number of sublots, if the movement makes this one unless it is known
  sublots_more : (lot sub : Bytes) → makes_sublot o row.what (movements H) ≡ not (sublot_in (lot_id o lot) sub (movements H)) → count_sublots (by o (Record row) ∷ H) o ≡ more (is_none (sublot_row H o (lot, sub))) (count_sublots H o)
  unfolding count_sublots sublot_known
  sublots_more lot sub makes =
      counts_one_more (same_bytes o o) (makes_sublot o row.what (movements H)) (count_sublots H o) (same_bytes-refl o)
      ∙ ap (λ b. more b (count_sublots H o)) (makes ∙ sym (none_where_not (sublot_in (lot_id o lot) sub (movements H)) _))

  sublots_same : makes_sublot o row.what (movements H) ≡ false → count_sublots (by o (Record row) ∷ H) o ≡ count_sublots H o
  unfolding count_sublots
  sublots_same none = counts_no_more (same_bytes o o) (makes_sublot o row.what (movements H)) (count_sublots H o) none

  -- ---- sublots

  -- the sublots of this owner, after anybody's movement
  module _ (p : Bytes) where
    abbrev stock_held : (lot sub : Bytes) → ℕ
    stock_held lot sub = amount_in (facts_given H p) lot sub

    -- the sublots after bringing and taking, at the sublots concerned
    recorded_moved_at : (k : Bytes × Bytes) (comes goes : Bool) → brings_into (lot_id p k.0) k.1 o row.what ≡ comes → takes_from (lot_id p k.0) k.1 o row.what ≡ goes →
        sublot_row (by o (Record row) ∷ H) p k ≡ where_so (comes || sublot_known H (lot_id p k.0) k.1) (sublot_row_of k.0 k.1 (stock H (lot_id p k.0) k.1 + cond comes row.amount 0 - cond goes row.amount 0))
    recorded_moved_at k comes goes brings takes =
        sublot_row-recorded H o p row k lawful
        ∙ (λ i. where_so (brings i || sublot_known H (lot_id p k.0) k.1) (sublot_row_of k.0 k.1 (stock H (lot_id p k.0) k.1 + cond (brings i) row.amount 0 - cond (takes i) row.amount 0)))

    recorded_held_at : (lot sub : Bytes) (k : Bytes × Bytes) → is_sublot_key lot sub k ≡ true → stock H (lot_id p k.0) k.1 ≡ stock_held lot sub
    recorded_held_at lot sub k same =
        let parts = both (same_bytes k.0 lot) (same_bytes k.1 sub) same in
        (λ i. stock H (lot_id p (same_bytes-exact k.0 lot parts.0 i)) (same_bytes-exact k.1 sub parts.1 i)) ∙ sym (held_is H p lot sub)

    named_at : (lot sub : Bytes) (k : Bytes × Bytes) (n : ℕ) → is_sublot_key lot sub k ≡ true → sublot_row_of k.0 k.1 n ≡ sublot_row_of lot sub n
    named_at lot sub k n same =
        let parts = both (same_bytes k.0 lot) (same_bytes k.1 sub) same in
        λ i. sublot_row_of (same_bytes-exact k.0 lot parts.0 i) (same_bytes-exact k.1 sub parts.1 i) n

    recorded_known_at : (lot sub : Bytes) (k : Bytes × Bytes) → is_none (sublot_row H p (lot, sub)) ≡ false → is_sublot_key lot sub k ≡ true → sublot_known H (lot_id p k.0) k.1 ≡ true
    recorded_known_at lot sub k there same =
        let parts = both (same_bytes k.0 lot) (same_bytes k.1 sub) same in
        (λ i. sublot_known H (lot_id p (same_bytes-exact k.0 lot parts.0 i)) (same_bytes-exact k.1 sub parts.1 i)) ∙ true_where (sublot_known H (lot_id p lot) sub) _ there

    recorded_plain : (n : ℕ) → n + 0 - 0 ≡ n
    recorded_plain n = omega arith

    recorded_more_at : (n m amount : ℕ) → n ≡ m → n + amount - 0 ≡ m + amount
    recorded_more_at n m amount is = omega arith

    recorded_less_at : (n m amount : ℕ) → n ≡ m → n + 0 - amount ≡ m - amount
    recorded_less_at n m amount is = omega arith

    came_at : (lot sub : Bytes) (k : Bytes × Bytes) → is_sublot_key lot sub k ≡ true → brings_into (lot_id p k.0) k.1 o row.what ≡ true → takes_from (lot_id p k.0) k.1 o row.what ≡ false →
        sublot_row (by o (Record row) ∷ H) p k ≡ Some (sublot_row_of lot sub (stock_held lot sub + row.amount))
    came_at lot sub k same brings takes =
        recorded_moved_at k true false brings takes
        ∙ ap (λ n. Some (sublot_row_of k.0 k.1 n)) (recorded_more_at (stock H (lot_id p k.0) k.1) (stock_held lot sub) row.amount (recorded_held_at lot sub k same))
        ∙ ap Some (named_at lot sub k _ same)

    went_at : (lot sub : Bytes) (k : Bytes × Bytes) → is_none (sublot_row H p (lot, sub)) ≡ false → is_sublot_key lot sub k ≡ true → brings_into (lot_id p k.0) k.1 o row.what ≡ false → takes_from (lot_id p k.0) k.1 o row.what ≡ true →
        sublot_row (by o (Record row) ∷ H) p k ≡ Some (sublot_row_of lot sub (stock_held lot sub - row.amount))
    went_at lot sub k there same brings takes =
        recorded_moved_at k false true brings takes
        ∙ ap (λ b. where_so b (sublot_row_of k.0 k.1 (stock H (lot_id p k.0) k.1 + 0 - row.amount))) (recorded_known_at lot sub k there same)
        ∙ ap (λ n. Some (sublot_row_of k.0 k.1 n)) (recorded_less_at (stock H (lot_id p k.0) k.1) (stock_held lot sub) row.amount (recorded_held_at lot sub k same))
        ∙ ap Some (named_at lot sub k _ same)

    recorded_stayed_at : (k : Bytes × Bytes) → brings_into (lot_id p k.0) k.1 o row.what ≡ false → takes_from (lot_id p k.0) k.1 o row.what ≡ false → sublot_row (by o (Record row) ∷ H) p k ≡ sublot_row H p k
    recorded_stayed_at k brings takes =
        recorded_moved_at k false false brings takes
        ∙ ap (λ n. where_so (sublot_known H (lot_id p k.0) k.1) (sublot_row_of k.0 k.1 n)) (recorded_plain (stock H (lot_id p k.0) k.1))

    abbrev BringsAt : (lot sub : Bytes) → Type 0
    BringsAt lot sub = (k : Bytes × Bytes) → brings_into (lot_id p k.0) k.1 o row.what ≡ is_sublot_key lot sub k

    abbrev TakesAt : (lot sub : Bytes) → Type 0
    TakesAt lot sub = (k : Bytes × Bytes) → takes_from (lot_id p k.0) k.1 o row.what ≡ is_sublot_key lot sub k

    abbrev BringsNone : Type 0
    BringsNone = (k : Bytes × Bytes) → brings_into (lot_id p k.0) k.1 o row.what ≡ false

    abbrev TakesNone : Type 0
    TakesNone = (k : Bytes × Bytes) → takes_from (lot_id p k.0) k.1 o row.what ≡ false

    -- the sublots after material was brought into one
    pub sublots_with_brought : (lot sub : Bytes) → BringsAt lot sub → TakesNone → (k : Bytes × Bytes) → sublot_row (by o (Record row) ∷ H) p k ≡ cond (is_sublot_key lot sub k) (Some (sublot_row_of lot sub (stock_held lot sub + row.amount))) (sublot_row H p k)
    sublots_with_brought lot sub brings takes k =
        elim (is_sublot_key lot sub k) as (λ b. is_sublot_key lot sub k ≡ b → sublot_row (by o (Record row) ∷ H) p k ≡ cond b (Some (sublot_row_of lot sub (stock_held lot sub + row.amount))) (sublot_row H p k)) [
          | true ↦ λ same. came_at lot sub k same (brings k ∙ same) (takes k)
          | false ↦ λ other. recorded_stayed_at k (brings k ∙ other) (takes k)
        ] refl

    -- the sublots after material was taken from a known one
    pub sublots_from : (lot sub : Bytes) → is_none (sublot_row H p (lot, sub)) ≡ false → BringsNone → TakesAt lot sub → (k : Bytes × Bytes) → sublot_row (by o (Record row) ∷ H) p k ≡ cond (is_sublot_key lot sub k) (Some (sublot_row_of lot sub (stock_held lot sub - row.amount))) (sublot_row H p k)
    sublots_from lot sub there brings takes k =
        elim (is_sublot_key lot sub k) as (λ b. is_sublot_key lot sub k ≡ b → sublot_row (by o (Record row) ∷ H) p k ≡ cond b (Some (sublot_row_of lot sub (stock_held lot sub - row.amount))) (sublot_row H p k)) [
          | true ↦ λ same. went_at lot sub k there same (brings k) (takes k ∙ same)
          | false ↦ λ other. recorded_stayed_at k (brings k) (takes k ∙ other)
        ] refl

    -- the sublots after material went from a known one to another of its lot
    pub sublots_between : (lot sub target : Bytes) → same_bytes sub target ≡ false → is_none (sublot_row H p (lot, sub)) ≡ false → BringsAt lot target → TakesAt lot sub → (k : Bytes × Bytes) →
        sublot_row (by o (Record row) ∷ H) p k ≡ cond (is_sublot_key lot sub k) (Some (sublot_row_of lot sub (stock_held lot sub - row.amount))) (cond (is_sublot_key lot target k) (Some (sublot_row_of lot target (stock_held lot target + row.amount))) (sublot_row H p k))
    sublots_between lot sub target apart there brings takes k =
        elim (is_sublot_key lot sub k) as (λ b. is_sublot_key lot sub k ≡ b → sublot_row (by o (Record row) ∷ H) p k ≡ cond b (Some (sublot_row_of lot sub (stock_held lot sub - row.amount))) (cond (is_sublot_key lot target k) (Some (sublot_row_of lot target (stock_held lot target + row.amount))) (sublot_row H p k))) [
          | true ↦ λ same. went_at lot sub k there same (brings k ∙ not_target lot sub target k apart same) (takes k ∙ same)
          | false ↦ λ other. elim (is_sublot_key lot target k) as (λ b. is_sublot_key lot target k ≡ b → sublot_row (by o (Record row) ∷ H) p k ≡ cond b (Some (sublot_row_of lot target (stock_held lot target + row.amount))) (sublot_row H p k)) [
            | true ↦ λ same. came_at lot target k same (brings k ∙ same) (takes k ∙ other)
            | false ↦ λ neither. recorded_stayed_at k (brings k ∙ neither) (takes k ∙ other)
          ] refl
        ] refl
      where
        not_target : (lot sub target : Bytes) (k : Bytes × Bytes) → same_bytes sub target ≡ false → is_sublot_key lot sub k ≡ true → is_sublot_key lot target k ≡ false
        not_target lot sub target k apart same = ap (λ x. same_bytes k.0 lot && same_bytes x target) (same_bytes-exact k.1 sub (both (same_bytes k.0 lot) (same_bytes k.1 sub) same).1) ∙ ap (λ b. same_bytes k.0 lot && b) apart ∙ and_right (same_bytes k.0 lot) false refl

  -- ---- the owner's tables after each kind of movement

  pub recorded_came_in : (lot material : Bytes) (origin : Origin) (sub : Bytes) →
      ((l : Bytes) → made_by (lot_id o l) o row.what ≡ where_so (same_bytes l lot) (record { material = material; origin = origin })) →
      makes_lot o row.what (movements H) ≡ is_none (first_made (lot_id o lot) (movements H)) →
      makes_sublot o row.what (movements H) ≡ not (sublot_in (lot_id o lot) sub (movements H)) →
      BringsAt o lot sub → TakesNone o →
      facts_given (by o (Record row) ∷ H) o ≡ with_sublot (sublot_row_of lot sub (stock_held o lot sub + row.amount)) (with_lot (quarantined lot material origin) (with_move row (facts_given H o)))
  recorded_came_in lot material origin sub makes new new_sub brings takes =
      lot_more lot material origin makes new
      ∙ (λ i. record (with_lot (quarantined lot material origin) (with_move row (facts_given H o))) {
        sublot = λ k. sublots_with_brought o lot sub brings takes k i;
        sublots = sublots_more lot sub new_sub i;
      })

  abbrev MakesNoLot : Type 0
  MakesNoLot = ((l : Bytes) → made_by (lot_id o l) o row.what ≡ None) × (makes_lot o row.what (movements H) ≡ false) × (lot_brought o (o, row) ≡ None)

  pub went_out : (lot sub : Bytes) → MakesNoLot → makes_sublot o row.what (movements H) ≡ false → is_none (sublot_row H o (lot, sub)) ≡ false → BringsNone o → TakesAt o lot sub →
      facts_given (by o (Record row) ∷ H) o ≡ with_sublot (sublot_row_of lot sub (stock_held o lot sub - row.amount)) (with_move row (facts_given H o))
  went_out lot sub makes none there brings takes =
      no_lot_more makes.0 makes.1 makes.2
      ∙ (λ i. record (with_move row (facts_given H o)) {
        sublot = λ k. sublots_from o lot sub there brings takes k i;
        sublots = (sublots_same none ∙ sym (ap (λ b. more b (count_sublots H o)) there)) i;
      })

  pub went_over : (lot sub target : Bytes) → MakesNoLot → makes_sublot o row.what (movements H) ≡ not (sublot_in (lot_id o lot) target (movements H)) → same_bytes sub target ≡ false → is_none (sublot_row H o (lot, sub)) ≡ false → BringsAt o lot target → TakesAt o lot sub →
      facts_given (by o (Record row) ∷ H) o ≡ with_sublot (sublot_row_of lot sub (stock_held o lot sub - row.amount)) (with_sublot (sublot_row_of lot target (stock_held o lot target + row.amount)) (with_move row (facts_given H o)))
  went_over lot sub target makes new apart there brings takes =
      no_lot_more makes.0 makes.1 makes.2
      ∙ (λ i. record (with_move row (facts_given H o)) {
        sublot = λ k. sublots_between o lot sub target apart there brings takes k i;
        sublots = (sublots_more lot target new ∙ sym (still_known (is_sublot_key lot target (lot, sub)) (sublot_row H o (lot, sub)) (sublot_row_of lot target (stock_held o lot target + row.amount)) (more (is_none (sublot_row H o (lot, target))) (count_sublots H o)) there)) i;
      })

  -- A movement that neither brings into the owner's lots nor takes from them.
  pub moved_elsewhere : MakesNoLot → makes_sublot o row.what (movements H) ≡ false → BringsNone o → TakesNone o → facts_given (by o (Record row) ∷ H) o ≡ with_move row (facts_given H o)
  moved_elsewhere makes none brings takes =
      no_lot_more makes.0 makes.1 makes.2
      ∙ (λ i. record (with_move row (facts_given H o)) { sublot = λ k. recorded_stayed_at o k (brings k) (takes k) i; sublots = sublots_same none i })

  -- the tables of another owner whose sublot the movement takes from
  pub taken_from_other : (p lot sub : Bytes) → same_bytes o p ≡ false → is_none (sublot_row H p (lot, sub)) ≡ false → BringsNone p → TakesAt p lot sub →
      facts_given (by o (Record row) ∷ H) p ≡ with_sublot (sublot_row_of lot sub (stock_held p lot sub - row.amount)) (facts_given H p)
  taken_from_other p lot sub other there brings takes =
      recorded_others_but_sublots p other
      ∙ (λ i. record (facts_given H p) {
        sublot = λ k. sublots_from p lot sub there brings takes k i;
        sublots = sym (ap (λ b. more b (count_sublots H p)) there) i;
      })
