-- What a void owes.
use Rattle.std.proofs.Common.{◌≡◌, ℕ, ◌+◌, ◌-◌, ◌≤◌, Bool, true, false, not, ◌&&◌, ◌||◌, cond, nat_le, nat_lt, Option, Some, None, is_some, is_none, List, [], ◌∷◌, ◌++◌, length, refl, sym, ap, subst, ◌∙◌, arith}
use Rattle.toll_work.proofs.Common.{sublot_row_of, false≢true, or_left, nat_tests, Bytes, same_bytes, bytes_cmp, pair_cmp, house_name, History, acts, owner_known, lot_id, same_lot, movement_of, voided_in, brings_into, takes_from, sublot_known, stock, Slice, with_row, lot_at, sublot_at, move_at, KeepsRules, row_fits, OwnerFacts, facts_of, facts_given, sublot_row, IsRowsOf, where_so, is_some_where, none_or, after_changes, changes_of, IsDecided, DecidesWith, DecisionKeepsRules, PutsOnlyWith, Accepted, Refused, Checks, verdict_of_checks, is_actual, is_of_closed, takes_too_much, tables_for, amount_in, verdict, IsLawful, IsValidAction, BringsOwn, TakesKnown, Change, Put, Decision, LotId, UnknownKey, Voided, BatchClosed, NotEnough, LimitReached, Role, Consumed, Produced, MoveRow, Actual, SublotRow, Sublot, Void as VoidPut, both, tables_for_are, held_is, none_applies, unbounded, sublot_room_in, less_fit, verdict_is, right_over, rules_by, keeps_put, accepted_passes, each_decided, with_sublot, with_void, is_sublot_key, put_sublot, put_void, same_bytes-exact, same_bytes-refl, same_bytes-symm, is_eq-then, more, MOST_STOCK, MOST_SUBLOTS, gained, less_in_sublot, void_batch_checks, giving_bounds, actual_sublot}
use Rattle.toll_history.specs.Command.{Void, by}
use Rattle.toll_base.specs.declared.decision.Decision.TheVariants.{Refuse}
use Rattle.toll_history.proofs.EachMove.{of_found}
use Rattle.toll_history.proofs.Owned.{all_bring_own, all_take_known}
use Rattle.toll_history.proofs.Stock.{stock_bounded}
use Rattle.toll_history.proofs.StockChanges.{stock-voided}
use Rattle.toll_work.proofs.FoundRow.{row_at-key, known_not_none}
use Rattle.toll_work.proofs.MadeChanges.{each_accepted, puts_with, puts_consumed, others_keep}
use Rattle.toll_work.proofs.OwedWith.{Owes}
use Rattle.toll_work.proofs.TwoPuts.{after_both, both_keep, second_keeps}
use Rattle.toll_work.proofs.Voided.{own_but_sublots, others_but_sublots, given_back, taken_out, stayed_at}

-- ---- everybody's rows, if the void changes one sublot of this owner

module _ (H : History) (o key : Bytes) (row : MoveRow) (lawful : IsLawful H) (valid : IsValidAction (Void key)) (accepted : verdict H (by o (Void key)) ≡ Accepted) (found : movement_of (acts o H) key ≡ Some row) (stays : voided_in (acts o H) key ≡ false) (q : SublotRow) (w : Bytes)
    (there : is_none (sublot_row H w (q.lot, q.sublot)) ≡ false)
    (its : (p : Bytes) → same_bytes w p ≡ true → (k : Bytes × Bytes) → sublot_row (by o (Void key) ∷ H) p k ≡ cond (is_sublot_key q.lot q.sublot k) (Some q) (sublot_row H p k))
    (others : (p : Bytes) → same_bytes w p ≡ false → (k : Bytes × Bytes) → sublot_row (by o (Void key) ∷ H) p k ≡ sublot_row H p k) where
  abbrev void_changes : List Change
  void_changes = Put o (VoidPut (record { key = key })) ∷ Put w (Sublot q) ∷ []

  there_of : (p : Bytes) → same_bytes w p ≡ true → is_none (sublot_row H p (q.lot, q.sublot)) ≡ false
  there_of p same = ap (λ x. is_none (sublot_row H x (q.lot, q.sublot))) (sym (same_bytes-exact w p same)) ∙ there

  -- Tables that differ in the sublot alone have it.
  with_sublot_in : (p : Bytes) (t : OwnerFacts) → t.sublot ≡ sublot_row H p → same_bytes w p ≡ true → record t { sublot = sublot_row (by o (Void key) ∷ H) p } ≡ with_sublot q t
  with_sublot_in p t is same i = record t {
    sublot = λ k. (its p same k ∙ ap (λ (f : Bytes × Bytes → Option SublotRow). cond (is_sublot_key q.lot q.sublot k) (Some q) (f k)) (sym is)) i;
    sublots = sym (ap (λ (f : Bytes × Bytes → Option SublotRow). more (is_none (f (q.lot, q.sublot))) t.sublots) is ∙ ap (λ b. more b t.sublots) (there_of p same)) i;
  }

  module _ (s : Slice) (rows : IsRowsOf H s) where
    abbrev IsVoidDone : Slice → Type 0
    IsVoidDone = IsRowsOf (by o (Void key) ∷ H)

    void_own_and_its : same_bytes o s.owner ≡ true → same_bytes w s.owner ≡ true → IsVoidDone (with_row (with_row s (VoidPut (record { key = key }))) (Sublot q))
    void_own_and_its own mine =
        let e = same_bytes-exact o s.owner own in
        put_sublot (with_row s (VoidPut (record { key = key }))) q
        ∙ ap (with_sublot q) (put_void s (record { key = key }) ∙ ap (with_void key) (rows ∙ ap (facts_given H) (sym e)))
        ∙ sym (own_but_sublots H o key row lawful valid accepted found stays ∙ with_sublot_in o (with_void key (facts_given H o)) refl (ap (same_bytes w) e ∙ mine))
        ∙ ap (facts_given (by o (Void key) ∷ H)) e

    void_own_alone : same_bytes o s.owner ≡ true → same_bytes w s.owner ≡ false → IsVoidDone (with_row s (VoidPut (record { key = key })))
    void_own_alone own other =
        let e = same_bytes-exact o s.owner own in
        put_void s (record { key = key })
        ∙ ap (with_void key) (rows ∙ ap (facts_given H) (sym e))
        ∙ sym (own_but_sublots H o key row lawful valid accepted found stays ∙ (λ i. record (with_void key (facts_given H o)) { sublot = λ k. others o (ap (same_bytes w) e ∙ other) k i }))
        ∙ ap (facts_given (by o (Void key) ∷ H)) e

    void_its_alone : same_bytes o s.owner ≡ false → same_bytes w s.owner ≡ true → IsVoidDone (with_row s (Sublot q))
    void_its_alone other mine =
        put_sublot s q ∙ ap (with_sublot q) rows
        ∙ sym (others_but_sublots H o key row lawful valid accepted found stays s.owner other ∙ with_sublot_in s.owner (facts_given H s.owner) refl mine)

    void_neither : same_bytes o s.owner ≡ false → same_bytes w s.owner ≡ false → IsVoidDone s
    void_neither other apart =
        rows ∙ sym (others_but_sublots H o key row lawful valid accepted found stays s.owner other ∙ (λ i. record (facts_given H s.owner) { sublot = λ k. others s.owner apart k i }))

    pub void_rows_after : IsVoidDone (after_changes void_changes s)
    void_rows_after = after_both o w (VoidPut (record { key = key })) (Sublot q) IsVoidDone s void_own_and_its void_own_alone void_its_alone void_neither

-- ---- the verdict on a void

-- over tables that have this movement at the key, or none
abbrev checks_at : OwnerFacts → (key : Bytes) → Option MoveRow → Checks
checks_at t key known =
    (not (is_some_where (λ (r : MoveRow). is_actual r.what) known), Some UnknownKey)
    ∷ (t.voided key, Some Voided)
    ∷ (is_some_where (λ (r : MoveRow). is_of_closed t r.what) known, Some BatchClosed)
    ∷ (is_some_where (λ (r : MoveRow). takes_too_much t r.amount r.what) known, Some NotEnough)
    ∷ []

-- A key without an actual is refused.
module _ (own house : Slice) (key : Bytes) (none : is_some_where (λ (r : MoveRow). is_actual r.what) (move_at own key) ≡ false) where
  unknown_decided : DecidesWith (by own.owner (Void key)) own house (Refuse UnknownKey)
  unfolding DecidesWith
  unknown_decided H lawful valid known there house_there is_house =
      let is : Refused UnknownKey ≡ verdict H (by own.owner (Void key)) =
      ap (λ b. cond (not b) (Refused UnknownKey) (verdict_of_checks (((facts_of own).voided key, Some Voided) ∷ (is_some_where (λ (r : MoveRow). is_of_closed (facts_of own) r.what) (move_at own key), Some BatchClosed) ∷ (is_some_where (λ (r : MoveRow). takes_too_much (facts_of own) r.amount r.what) (move_at own key), Some NotEnough) ∷ []))) (sym none)
      ∙ verdict_is H own.owner (Void key) (facts_of own) (facts_of house) known there (house_there ∙ ap (facts_given H) is_house) in
      right_over H (by own.owner (Void key)) (Refuse UnknownKey) (Refused UnknownKey) [] refl refl is (λ accepted s rows. absurd (not_accepted (is ∙ accepted)))
    where
      not_accepted : Refused UnknownKey ≡ Accepted → ⊥
      not_accepted h = (cc)

refused_keeps : (s : Slice) → DecisionKeepsRules s (Refuse UnknownKey)
unfolding DecisionKeepsRules
refused_keeps s = tt

pub record RefusesUnknownKey (own house : Slice) (key : Bytes) : Type 0 where
  pub decides : DecidesWith (by own.owner (Void key)) own house (Refuse UnknownKey)
  pub rules : DecisionKeepsRules own (Refuse UnknownKey)
  pub house_rules : DecisionKeepsRules house (Refuse UnknownKey)

pub unknown_owes : (own house : Slice) (key : Bytes) → is_some_where (λ (r : MoveRow). is_actual r.what) (move_at own key) ≡ false → RefusesUnknownKey own house key
unknown_owes own house key none = record { decides = unknown_decided own house key none; rules = refused_keeps own; house_rules = refused_keeps house }

-- A known sublot is of a lot that is there.
lot_of_known : (s : Slice) → KeepsRules s → (lot sub : Bytes) → is_none (sublot_at s (lot, sub)) ≡ false → is_some (lot_at s lot) ≡ true
lot_of_known s keeps lot sub known =
    elim (sublot_at s (lot, sub)) as (λ x. sublot_at s (lot, sub) ≡ x → is_none x ≡ false → is_some (lot_at s lot) ≡ true) [
      | None ↦ λ none known. absurd (false≢true (sym known))
      | Some row ↦ λ is known.
          let same = row_at-key pair_cmp (λ (r : SublotRow). (r.lot, r.sublot)) s.sublots (lot, sub) row is in
          let e : lot ≡ row.lot = same_bytes-exact lot row.lot (both (same_bytes lot row.lot) (same_bytes sub row.sublot) (sym (is_eq-then (bytes_cmp lot row.lot) (bytes_cmp sub row.sublot)) ∙ same)).0 in
          ap (λ k. is_some (lot_at s k)) e ∙ ap (none_or (λ (r : SublotRow). is_some (lot_at s r.lot))) (sym is) ∙ keeps.sublot_lots (lot, sub)
    ] refl known

-- A known sublot with an allowed amount fits.
known_fits : (s : Slice) → KeepsRules s → (q : SublotRow) → is_none (sublot_at s (q.lot, q.sublot)) ≡ false → nat_lt MOST_STOCK q.amount ≡ false → row_fits s (Sublot q) ≡ true
known_fits s keeps q known amount =
    sublot_room_in s q (ap (λ b. b && nat_le MOST_SUBLOTS (length s.sublots)) known) amount (lot_of_known s keeps q.lot q.sublot known)

-- ---- the void of a known actual

module _ (own house : Slice) (key : Bytes) (row : MoveRow) (found_in : move_at own key ≡ Some row) (order : Bytes) (number segment : ℕ) (role : Role) (material : Bytes) (lot : LotId) (sublot : Bytes) (is : row.what ≡ Actual order number segment role material lot sublot) where
  -- the movement, with its fields
  abbrev said_so : MoveRow
  said_so = record { key = row.key; what = Actual order number segment role material lot sublot; amount = row.amount; day = row.day }

  as_said : row ≡ said_so
  as_said i = record { key = row.key; what = is i; amount = row.amount; day = row.day }

  void_at_key : move_at own key ≡ Some said_so
  void_at_key = found_in ∙ ap Some as_said

  -- The movement is an actual with this role.
  its_what : {r : Role} → role ≡ r → said_so.what ≡ Actual order number segment r material lot sublot
  its_what is = ap (λ r. Actual order number segment r material lot sublot) is

  module _ (H : History) (there : IsRowsOf H own) where
    void_is_found : movement_of (acts own.owner H) key ≡ Some said_so
    void_is_found = ap (λ (t : OwnerFacts). t.movement key) (sym there) ∙ void_at_key

    key_stays_unvoided : verdict H (by own.owner (Void key)) ≡ Accepted → voided_in (acts own.owner H) key ≡ false
    key_stays_unvoided accepted = accepted_passes H own.owner (Void key) accepted 1

    -- the verdict, over the movement with its role
    verdict_at : {r : Role} → role ≡ r → owner_known H own.owner ≡ true → facts_of house ≡ facts_given H house_name →
        verdict_of_checks (checks_at (facts_of own) key (Some (record { key = row.key; what = Actual order number segment r material lot sublot; amount = row.amount; day = row.day }))) ≡ verdict H (by own.owner (Void key))
    verdict_at is known houses =
        ap (λ w. verdict_of_checks (checks_at (facts_of own) key (Some (record { key = row.key; what = w; amount = row.amount; day = row.day })))) (sym (its_what is))
        ∙ ap (λ m. verdict_of_checks (checks_at (facts_of own) key m)) (sym void_at_key)
        ∙ verdict_is H own.owner (Void key) (facts_of own) (facts_of house) known there houses

    its_place : (same_lot lot lot && same_bytes sublot sublot) ≡ true
    its_place i = (same_bytes-refl lot.owner i && same_bytes-refl lot.lot i) && same_bytes-refl sublot i

    void_sublot_there : sublot_known H lot sublot ≡ true → is_none (sublot_row H lot.owner (lot.lot, sublot)) ≡ false
    void_sublot_there is_known = ap (λ b. is_none (where_so b (sublot_row_of lot.lot sublot (stock H lot sublot)))) is_known

  -- The facts of the lot's tables: the sublot is there, and holds no more than it may.
  small : (n amount after m : ℕ) → after ≡ m + amount - 0 → n ≡ m → after ≤ MOST_STOCK → nat_lt MOST_STOCK (n + amount) ≡ false
  small n amount after m is same le = let h : n + amount ≤ MOST_STOCK = omega arith in grind (arith, nat_tests)

  -- The movement takes and brings the same as an actual with this role.
  abbrev Touches : Role → Bytes → Bytes × Bytes → Type 0
  Touches r p k = (takes_from (lot_id p k.0) k.1 own.owner said_so.what ≡ takes_from (lot_id p k.0) k.1 own.owner (Actual order number segment r material lot sublot))
      × (brings_into (lot_id p k.0) k.1 own.owner said_so.what ≡ brings_into (lot_id p k.0) k.1 own.owner (Actual order number segment r material lot sublot))

  touches : {r : Role} → role ≡ r → (p : Bytes) (k : Bytes × Bytes) → Touches r p k
  touches is p k = (ap (takes_from (lot_id p k.0) k.1 own.owner) (its_what is), ap (brings_into (lot_id p k.0) k.1 own.owner) (its_what is))

  -- ---- of a consumption

  module _ (consumes : role ≡ Consumed) where
    abbrev void_source_tables : OwnerFacts
    void_source_tables = tables_for own.owner (facts_of own) (facts_of house) lot.owner

    abbrev more_in : OwnerFacts → SublotRow
    more_in = gained lot.lot sublot row.amount

    module _ (H : History) (lawful : IsLawful H) (there : IsRowsOf H own) where
      -- The sublot is known, and of a lot of the owner or HOUSE.
      taken_known : (sublot_known H lot sublot ≡ true) × ((same_bytes lot.owner own.owner || same_bytes lot.owner house_name) ≡ true)
      taken_known = of_found (TakesKnown H) own.owner key said_so H (all_take_known H lawful) (void_is_found H there) lot sublot (ap (takes_from lot sublot own.owner) (its_what consumes) ∙ its_place H there)

      void_its_tables : facts_of house ≡ facts_given H house_name → void_source_tables ≡ facts_given H lot.owner
      void_its_tables houses = (λ i. tables_for own.owner (there i) (houses i) lot.owner) ∙ tables_for_are H own.owner lot.owner (ap not taken_known.1)

      there_at : is_none (sublot_row H lot.owner (lot.lot, sublot)) ≡ false
      there_at = void_sublot_there H there taken_known.0

      -- There is room for what is given back.
      void_room : facts_of house ≡ facts_given H house_name → verdict H (by own.owner (Void key)) ≡ Accepted → verdict_of_checks (giving_bounds own.owner void_source_tables lot sublot row.amount) ≡ Accepted
      void_room houses accepted =
          let u = void_its_tables houses in
          let after : stock (by own.owner (Void key) ∷ H) lot sublot ≡ stock H lot sublot + row.amount - 0 =
          stock-voided H own.owner key said_so lot sublot lawful (void_is_found H there) (key_stays_unvoided H there accepted)
          ∙ (λ i. stock H lot sublot + cond ((ap (takes_from lot sublot own.owner) (its_what consumes) ∙ its_place H there) i) row.amount 0 - cond (ap (brings_into lot sublot own.owner) (its_what consumes) i) row.amount 0) in
          ap (λ t. verdict_of_checks (giving_bounds own.owner t lot sublot row.amount)) u
          ∙ four_pass _ _ _ _ there_at (ap (λ b. b && nat_le MOST_SUBLOTS (facts_given H lot.owner).sublots) there_at)
          (small (amount_in (facts_given H lot.owner) lot.lot sublot) row.amount (stock (by own.owner (Void key) ∷ H) lot sublot) (stock H lot sublot) after (held_is H lot.owner lot.lot sublot)
          (stock_bounded (by own.owner (Void key) ∷ H) lot sublot (lawful, tt, accepted)))
          (ap not taken_known.1)
        where
          four_pass : (a b c d : Bool) → a ≡ false → b ≡ false → c ≡ false → d ≡ false → verdict_of_checks ((a, Some LimitReached) ∷ (b, Some LimitReached) ∷ (c, Some LimitReached) ∷ (d, Some LimitReached) ∷ []) ≡ Accepted
          four_pass a b c d ha hb hc hd = λ i. cond (ha i) (Refused LimitReached) (cond (hb i) (Refused LimitReached) (cond (hc i) (Refused LimitReached) (cond (hd i) (Refused LimitReached) Accepted)))

      -- Everybody's rows are those after the void.
      void_all_rows : facts_of house ≡ facts_given H house_name → verdict H (by own.owner (Void key)) ≡ Accepted → (s : Slice) → IsRowsOf H s → IsRowsOf (by own.owner (Void key) ∷ H) (after_changes (Put own.owner (VoidPut (record { key = key })) ∷ Put lot.owner (Sublot (more_in void_source_tables)) ∷ []) s)
      void_all_rows houses accepted =
          void_rows_after H own.owner key said_so lawful tt accepted (void_is_found H there) (key_stays_unvoided H there accepted) (more_in void_source_tables) lot.owner there_at
          (λ p same k.
          let e = same_bytes-exact lot.owner p same in
          given_back H own.owner key said_so lawful tt accepted (void_is_found H there) (key_stays_unvoided H there accepted) p lot.lot sublot
          (ap (λ w. is_none (sublot_row H w (lot.lot, sublot))) (sym e) ∙ there_at)
          (λ k. (touches consumes p k).1)
          (λ k. (touches consumes p k).0 ∙ ap (λ b. (b && same_bytes k.0 lot.lot) && same_bytes k.1 sublot) (same_bytes-symm p lot.owner ∙ same)) k
          ∙ ap (λ u. cond (is_sublot_key lot.lot sublot k) (Some (more_in u)) (sublot_row H p k)) (sym (void_its_tables houses ∙ ap (facts_given H) e)))
          (λ p apart k.
          stayed_at H own.owner key said_so lawful tt accepted (void_is_found H there) (key_stays_unvoided H there accepted) p k ((touches consumes p k).1)
          ((touches consumes p k).0 ∙ ap (λ b. (b && same_bytes k.0 lot.lot) && same_bytes k.1 sublot) (same_bytes-symm p lot.owner ∙ apart)))

    module _ (d : Decision) (decided : IsDecided (void_batch_checks (facts_of own) key order number ++ giving_bounds own.owner void_source_tables lot sublot row.amount) (Put own.owner (VoidPut (record { key = key })) ∷ Put lot.owner (Sublot (more_in void_source_tables)) ∷ []) d) where
      giving_decided : DecidesWith (by own.owner (Void key)) own house d
      unfolding DecidesWith
      giving_decided H lawful valid known there house_there is_house =
          let houses = house_there ∙ ap (facts_given H) is_house in
          let is : verdict_of_checks (void_batch_checks (facts_of own) key order number) ≡ verdict H (by own.owner (Void key)) = verdict_at H there consumes known houses in
          right_over H (by own.owner (Void key)) d _ _ decided.says decided.makes
          (unbounded (void_batch_checks (facts_of own) key order number) (giving_bounds own.owner void_source_tables lot sublot row.amount) (λ passed. void_room H lawful there houses (sym is ∙ passed)) ∙ is)
          (λ accepted. void_all_rows H lawful there houses accepted)

      more_fits : verdict_of_checks (void_batch_checks (facts_of own) key order number ++ giving_bounds own.owner void_source_tables lot sublot row.amount) ≡ Accepted → (s : Slice) → KeepsRules s → void_source_tables ≡ facts_of s → row_fits s (Sublot (more_in void_source_tables)) ≡ true
      more_fits accepted s keeps e =
          let pass = none_applies (void_batch_checks (facts_of own) key order number ++ giving_bounds own.owner void_source_tables lot sublot row.amount) accepted in
          known_fits s keeps (more_in void_source_tables) (ap (λ (t : OwnerFacts). is_none (t.sublot (lot.lot, sublot))) (sym e) ∙ pass 2) (pass 4)

      giving_keeps : KeepsRules own → DecisionKeepsRules own d
      giving_keeps = both_keep own house lot.owner (VoidPut (record { key = key })) (Sublot (more_in void_source_tables)) _ d decided (λ accepted. refl) (λ accepted. more_fits accepted own)

      -- Its changes put rows of the owner, or the sublot of HOUSE that the actual names.
      giving_puts : PutsOnlyWith own.owner (actual_sublot (move_at own key)) (changes_of d)
      giving_puts =
          subst (λ m. PutsOnlyWith own.owner (actual_sublot m) (changes_of d)) (sym void_at_key)
          (each_accepted _ (void_batch_checks (facts_of own) key order number ++ giving_bounds own.owner void_source_tables lot sublot row.amount) (Put own.owner (VoidPut (record { key = key })) ∷ Put lot.owner (Sublot (more_in void_source_tables)) ∷ []) d
          (λ accepted.
          (or_left _ _ (same_bytes-refl own.owner), puts_consumed own.owner lot sublot (more_in void_source_tables).amount (none_applies (void_batch_checks (facts_of own) key order number ++ giving_bounds own.owner void_source_tables lot sublot row.amount) accepted 5)))
          decided)

      giving_keeps_house : same_bytes own.owner house.owner ≡ false → KeepsRules house → DecisionKeepsRules house d
      giving_keeps_house = second_keeps own house lot.owner (VoidPut (record { key = key })) (Sublot (more_in void_source_tables)) _ d decided (λ accepted. more_fits accepted house)

      pub giving_owes : Owes (Void key) (actual_sublot (move_at own key)) own house d
      giving_owes = record { decides = giving_decided; rules = giving_keeps; house_rules = giving_keeps_house; puts = giving_puts }

  -- ---- of a production

  module _ (produces : role ≡ Produced) where
    abbrev void_less_in : OwnerFacts → SublotRow
    void_less_in = less_in_sublot lot.lot sublot row.amount

    abbrev own_checks : Checks
    own_checks = void_batch_checks (facts_of own) key order number ++ (nat_lt (amount_in (facts_of own) lot.lot sublot) row.amount, Some NotEnough) ∷ []

    abbrev own_bounds : Checks
    own_bounds = (is_none ((facts_of own).sublot (lot.lot, sublot)), Some LimitReached) ∷ []

    module _ (H : History) (lawful : IsLawful H) (there : IsRowsOf H own) where
      -- The sublot is known, and of a lot of the owner.
      brought_known : (lot.owner ≡ own.owner) × (sublot_known H lot sublot ≡ true)
      brought_known = of_found (BringsOwn H) own.owner key said_so H (all_bring_own H lawful) (void_is_found H there) lot sublot (ap (brings_into lot sublot own.owner) (its_what produces) ∙ its_place H there)

      there_own : is_none (sublot_row H own.owner (lot.lot, sublot)) ≡ false
      there_own = ap (λ w. is_none (sublot_row H w (lot.lot, sublot))) (sym brought_known.0) ∙ void_sublot_there H there brought_known.1

      its_owner : (p : Bytes) → same_bytes p lot.owner ≡ same_bytes p own.owner
      its_owner p = ap (same_bytes p) brought_known.0

      rows_of_all : verdict H (by own.owner (Void key)) ≡ Accepted → (s : Slice) → IsRowsOf H s → IsRowsOf (by own.owner (Void key) ∷ H) (after_changes (Put own.owner (VoidPut (record { key = key })) ∷ Put own.owner (Sublot (void_less_in (facts_of own))) ∷ []) s)
      rows_of_all accepted =
          void_rows_after H own.owner key said_so lawful tt accepted (void_is_found H there) (key_stays_unvoided H there accepted) (void_less_in (facts_of own)) own.owner there_own
          (λ p same k.
          let e = same_bytes-exact own.owner p same in
          taken_out H own.owner key said_so lawful tt accepted (void_is_found H there) (key_stays_unvoided H there accepted) p lot.lot sublot
          (ap (λ w. is_none (sublot_row H w (lot.lot, sublot))) (sym e) ∙ there_own)
          (λ k. (touches produces p k).1 ∙ ap (λ b. (b && same_bytes k.0 lot.lot) && same_bytes k.1 sublot) (its_owner p ∙ same_bytes-symm p own.owner ∙ same))
          (λ k. (touches produces p k).0) k
          ∙ ap (λ u. cond (is_sublot_key lot.lot sublot k) (Some (void_less_in u)) (sublot_row H p k)) (sym (there ∙ ap (facts_given H) e)))
          (λ p apart k.
          stayed_at H own.owner key said_so lawful tt accepted (void_is_found H there) (key_stays_unvoided H there accepted) p k
          ((touches produces p k).1 ∙ ap (λ b. (b && same_bytes k.0 lot.lot) && same_bytes k.1 sublot) (its_owner p ∙ same_bytes-symm p own.owner ∙ apart))
          ((touches produces p k).0))

      own_room : verdict_of_checks own_bounds ≡ Accepted
      own_room = ap (λ b. cond b (Refused LimitReached) Accepted) (ap (λ (t : OwnerFacts). is_none (t.sublot (lot.lot, sublot))) there ∙ there_own)

    module _ (d : Decision) (decided : IsDecided (own_checks ++ own_bounds) (Put own.owner (VoidPut (record { key = key })) ∷ Put own.owner (Sublot (void_less_in (facts_of own))) ∷ []) d) where
      taking_decided : DecidesWith (by own.owner (Void key)) own house d
      unfolding DecidesWith
      taking_decided H lawful valid known there house_there is_house =
          right_over H (by own.owner (Void key)) d _ _ decided.says decided.makes
          (unbounded own_checks own_bounds (λ passed. own_room H lawful there) ∙ verdict_at H there produces known (house_there ∙ ap (facts_given H) is_house))
          (λ accepted. rows_of_all H lawful there accepted)

      taking_keeps : KeepsRules own → DecisionKeepsRules own d
      taking_keeps keeps =
          rules_by own (Put own.owner (VoidPut (record { key = key })) ∷ Put own.owner (Sublot (void_less_in (facts_of own))) ∷ []) d _ decided keeps
          (λ accepted.
          let sub_there = none_applies (own_checks ++ own_bounds) accepted 3 in
          keeps_put own.owner (VoidPut (record { key = key })) (Put own.owner (Sublot (void_less_in (facts_of own))) ∷ []) own (same_bytes-refl own.owner) keeps refl
          (λ kept.
          keeps_put own.owner (Sublot (void_less_in (facts_of own))) [] (with_row own (VoidPut (record { key = key }))) (same_bytes-refl own.owner) kept
          (less_fit own lot.lot sublot row.amount keeps (known_not_none (lot_at own lot.lot) (lot_of_known own keeps lot.lot sublot sub_there)) sub_there)
          (λ kept. tt)))

      taking_puts : PutsOnlyWith own.owner (actual_sublot (move_at own key)) (changes_of d)
      taking_puts =
          let mine = same_bytes-refl own.owner in
          puts_with own.owner _ (changes_of d) (each_decided _ _ (Put own.owner (VoidPut (record { key = key })) ∷ Put own.owner (Sublot (void_less_in (facts_of own))) ∷ []) d (mine, (mine, tt)) decided)

      taking_keeps_house : same_bytes own.owner house.owner ≡ false → KeepsRules house → DecisionKeepsRules house d
      taking_keeps_house = others_keep own.owner (VoidPut (record { key = key }) ∷ Sublot (void_less_in (facts_of own)) ∷ []) house d _ decided

      pub taking_owes : Owes (Void key) (actual_sublot (move_at own key)) own house d
      taking_owes = record { decides = taking_decided; rules = taking_keeps; house_rules = taking_keeps_house; puts = taking_puts }
