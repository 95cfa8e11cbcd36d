-- The amount in the sublots of a lot is what its standing movements received and produced, less what they used up.
use Rattle.std.proofs.Common.{◌≡◌, ℕ, ◌+◌, ◌-◌, ◌≤◌, Bool, true, false, not, ◌&&◌, cond, Option, Some, None, is_some, List, [], ◌∷◌, ◌++◌, refl, sym, ap, ◌∙◌, arith}
use Rattle.toll_stock.proofs.Common.{false≢true, AllByRecursion, option_map_or, is_eq, Bytes, same_bytes, bytes_cmp, pair_cmp, IsInKeyOrder, row_at, total, is_some_where, Action, Record, Void, History, lot_id, same_lot, Movement, has_move_key, moved_by, movements, standing_after, standing, brings_into, takes_from, brought, taken, stock, sublot_known, Slice, sublot_at, OwnerFacts, IsRowsOf, sublot_row, IsLawful, Receive, Split, Ship, Scrap, Actual, SublotRow, both, and_is, some_where, same_bytes-exact, same_bytes-refl, same_bytes-symm, is_eq-then, pair_cmp_total, adds_to, uses_up, amounts, on_hand, total-alike, on_hand_in, all_weaker}
use Rattle.std.proofs.lemmas.Option.{cond_some}
use Rattle.toll_history.specs.Laws.{BringsOwn, TakesKnown}
use Rattle.toll_base.specs.declared.lot.LotId.{LotId}
use Rattle.toll_base.specs.declared.role.Role.TheVariants.{Consumed, Produced}
use Rattle.toll_base.specs.declared.movement.Move.{Move}
use Rattle.toll_history.proofs.Crossing.{all_filtered}
use Rattle.toll_history.proofs.Owned.{all_bring_own, all_take_known}
use Rattle.toll_history.proofs.Stock.{covered}
use Rattle.toll_stock.proofs.Sums.{total-along, total-plus, total-zero, total-swapped, cond-total, cond_zero, each_found, total_at}

-- ---- the sublots that a movement brings into and takes from

abbrev SublotPlace : Type 0
SublotPlace = LotId × Bytes

-- the sublot that a movement of this owner brings into
abbrev goes_to : Bytes → Move → Option SublotPlace
goes_to o (Receive material lot sublot) = Some (lot_id o lot, sublot)
goes_to o (Split lot sublot target) = Some (lot_id o lot, target)
goes_to o (Actual order number segment Produced material lot sublot) = Some (lot, sublot)
goes_to o _ = None

-- the sublot that a movement of this owner takes from
abbrev comes_from : Bytes → Move → Option SublotPlace
comes_from o (Split lot sublot target) = Some (lot_id o lot, sublot)
comes_from o (Ship lot sublot) = Some (lot_id o lot, sublot)
comes_from o (Scrap lot sublot) = Some (lot_id o lot, sublot)
comes_from o (Actual order number segment Consumed material lot sublot) = Some (lot, sublot)
comes_from o _ = None

abbrev is_sublot_place : LotId → Bytes → Option SublotPlace → Bool
is_sublot_place id sub place = is_some_where (λ p. same_lot id p.0 && same_bytes sub p.1) place

abbrev is_in : LotId → Option SublotPlace → Bool
is_in id place = is_some_where (λ p. same_lot id p.0) place

at_places : (id : LotId) (sub o : Bytes) (what : Move) → (brings_into id sub o what ≡ is_sublot_place id sub (goes_to o what)) × (takes_from id sub o what ≡ is_sublot_place id sub (comes_from o what))
at_places id sub o (Receive material lot sublot) = (refl, refl)
at_places id sub o (Split lot sublot target) = (refl, refl)
at_places id sub o (Ship lot sublot) = (refl, refl)
at_places id sub o (Scrap lot sublot) = (refl, refl)
at_places id sub o (Actual order number segment Consumed material lot sublot) = (refl, refl)
at_places id sub o (Actual order number segment Produced material lot sublot) = (refl, refl)

-- ---- a fact of each movement holds of the standing ones

standing_step : (P : Movement → Type 0) (o : Bytes) (a : Action) (ms older : List Movement) → AllByRecursion P (moved_by o a ++ ms) → (AllByRecursion P ms → AllByRecursion P older) → AllByRecursion P (standing_after o a older)
standing_step P o (Record row) ms older each before = (each.0, before each.1)
standing_step P o (Void key) ms older each before = all_filtered P (λ m. not (has_move_key o key m)) older (before each)
standing_step P o a ms older each before = before each

pub each_standing : (P : Movement → Type 0) (H : History) → AllByRecursion P (movements H) → AllByRecursion P (standing H)
each_standing P [] each = tt
each_standing P (c ∷ H) each = standing_step P c.owner c.action (movements H) (standing H) each (each_standing P H)

-- ---- the sums over the sublots of a lot

module _ (rows : List SublotRow) (ordered : IsInKeyOrder pair_cmp (λ row. (row.lot, row.sublot)) rows) (o lot : Bytes) where
  -- A sublot of the lot is there.
  abbrev HasSublot : Bytes → Type 0
  HasSublot sub = is_some (row_at pair_cmp (λ (row : SublotRow). (row.lot, row.sublot)) rows (lot, sub)) ≡ true

  -- The sublot is there, if it is the lot's.
  abbrev HasPlace : Option SublotPlace → Type 0
  HasPlace None = Unit {0}
  HasPlace (Some p) = same_lot (lot_id o lot) p.0 ≡ true → HasSublot p.1

  all_of_it : {X : Type 0} (x : Option X) (n : ℕ) → is_some x ≡ true → option_map_or (λ _. n) x 0 ≡ n
  all_of_it None n h = absurd (false≢true h)
  all_of_it (Some x) n h = refl

  on_hand_chosen : (a b : Bool) (n : ℕ) → cond a (cond (a && b) n 0) 0 ≡ cond (a && b) n 0
  on_hand_chosen true b n = refl
  on_hand_chosen false b n = refl

  -- The place occurs exactly once among the lot's sublots.
  once_in : (place : Option SublotPlace) (n : ℕ) → HasPlace place → total (λ row. cond (same_bytes row.lot lot) (cond (is_sublot_place (lot_id o row.lot) row.sublot place) n 0) 0) rows ≡ cond (is_in (lot_id o lot) place) n 0
  once_in None n there = total-alike _ (λ row. 0) rows (λ row. cond_zero (same_bytes row.lot lot)) ∙ total-zero rows
  once_in (Some p) n there =
      elim (same_lot (lot_id o lot) p.0) as (λ b. same_lot (lot_id o lot) p.0 ≡ b → total (λ row. cond (same_bytes row.lot lot) (cond (same_lot (lot_id o row.lot) p.0 && same_bytes row.sublot p.1) n 0) 0) rows ≡ cond b n 0) [
        | true ↦ λ here.
            let parts = both (same_bytes o p.0.owner) (same_bytes lot p.0.lot) here in
            let e = same_bytes-exact lot p.0.lot parts.1 in
            total-alike _ (λ row. cond (is_eq (pair_cmp (lot, p.1) (row.lot, row.sublot))) n 0) rows (λ row.
            (λ i. cond (same_bytes row.lot lot) (cond ((parts.0 i && same_bytes row.lot (sym e i)) && same_bytes row.sublot p.1) n 0) 0)
            ∙ on_hand_chosen (same_bytes row.lot lot) (same_bytes row.sublot p.1) n
            ∙ (λ i. cond (same_bytes-symm row.lot lot i && same_bytes-symm row.sublot p.1 i) n 0)
            ∙ ap (λ b. cond b n 0) (sym (is_eq-then (bytes_cmp lot row.lot) (bytes_cmp p.1 row.sublot))))
            ∙ total_at pair_cmp pair_cmp_total (λ row. (row.lot, row.sublot)) (λ _. n) rows (lot, p.1) ordered
            ∙ all_of_it _ n (there here)
        | false ↦ λ elsewhere.
            total-alike _ (λ row. 0) rows (λ row.
            elim (same_bytes row.lot lot) as (λ b. same_bytes row.lot lot ≡ b → cond b (cond (same_lot (lot_id o row.lot) p.0 && same_bytes row.sublot p.1) n 0) 0 ≡ 0) [
              | true ↦ λ same. ap (λ l. cond (same_lot (lot_id o l) p.0 && same_bytes row.sublot p.1) n 0) (same_bytes-exact row.lot lot same) ∙ ap (λ b. cond (b && same_bytes row.sublot p.1) n 0) elsewhere
              | false ↦ λ other. refl
            ] refl)
            ∙ total-zero rows
      ] refl

  -- The sum over the sublots of what movements move in each is the sum of what they move in the lot.
  moved_in : (place : Movement → Option SublotPlace) (ms : List Movement) → AllByRecursion (λ m. HasPlace (place m)) ms →
      total (λ row. cond (same_bytes row.lot lot) (total (λ m. cond (is_sublot_place (lot_id o row.lot) row.sublot (place m)) m.1.amount 0) ms) 0) rows ≡ total (λ m. cond (is_in (lot_id o lot) (place m)) m.1.amount 0) ms
  moved_in place ms there =
      total-alike _ (λ row. total (λ m. cond (same_bytes row.lot lot) (cond (is_sublot_place (lot_id o row.lot) row.sublot (place m)) m.1.amount 0) 0) ms) rows (λ row. cond-total (same_bytes row.lot lot) (λ m. cond (is_sublot_place (lot_id o row.lot) row.sublot (place m)) m.1.amount 0) ms)
      ∙ total-swapped (λ row m. cond (same_bytes row.lot lot) (cond (is_sublot_place (lot_id o row.lot) row.sublot (place m)) m.1.amount 0) 0) rows ms
      ∙ total-along _ (λ m. cond (is_in (lot_id o lot) (place m)) m.1.amount 0) ms (all_weaker _ _ (λ m has. once_in (place m) m.1.amount has) ms there)

-- ---- a split is in both sums

abbrev splits : LotId → Bytes → Move → Bool
splits id o (Split lot sublot target) = same_lot id (lot_id o lot)
splits id o _ = false

into_lot : (id : LotId) (o : Bytes) (what : Move) (n : ℕ) → cond (is_in id (goes_to o what)) n 0 ≡ cond (adds_to id o what) n 0 + cond (splits id o what) n 0
into_lot id o (Receive material lot sublot) n = omega arith
into_lot id o (Split lot sublot target) n = omega arith
into_lot id o (Ship lot sublot) n = refl
into_lot id o (Scrap lot sublot) n = refl
into_lot id o (Actual order number segment Consumed material lot sublot) n = refl
into_lot id o (Actual order number segment Produced material lot sublot) n = omega arith

out_of_lot : (id : LotId) (o : Bytes) (what : Move) (n : ℕ) → cond (is_in id (comes_from o what)) n 0 ≡ cond (uses_up id o what) n 0 + cond (splits id o what) n 0
out_of_lot id o (Receive material lot sublot) n = refl
out_of_lot id o (Split lot sublot target) n = omega arith
out_of_lot id o (Ship lot sublot) n = omega arith
out_of_lot id o (Scrap lot sublot) n = omega arith
out_of_lot id o (Actual order number segment Consumed material lot sublot) n = omega arith
out_of_lot id o (Actual order number segment Produced material lot sublot) n = refl

-- ---- a slice that has a history's rows

module _ (H : History) (lawful : IsLawful H) (s : Slice) (there : IsRowsOf H s) (ordered : IsInKeyOrder pair_cmp (λ row. (row.lot, row.sublot)) s.sublots) (lot : Bytes) where
  abbrev id : LotId
  id = lot_id s.owner lot

  on_hand_has_known : (sub : Bytes) → sublot_known H id sub ≡ true → is_some (sublot_at s (lot, sub)) ≡ true
  on_hand_has_known sub known = ap (λ (t : OwnerFacts). is_some (t.sublot (lot, sub))) there ∙ some_where (sublot_known H id sub) _ known

  at_itself : (p : SublotPlace) → same_lot id p.0 ≡ true → is_sublot_place id p.1 (Some p) ≡ true
  at_itself p here = and_is _ _ here (same_bytes-refl p.1)

  has_goes_to : (m : Movement) → BringsOwn H m → (place : Option SublotPlace) → goes_to m.0 m.1.what ≡ place → HasPlace s.sublots ordered s.owner lot place
  has_goes_to m brings None is = tt
  has_goes_to m brings (Some p) is = λ here. on_hand_has_known p.1 (brings id p.1 ((at_places id p.1 m.0 m.1.what).0 ∙ ap (is_sublot_place id p.1) is ∙ at_itself p here)).1

  has_comes_from : (m : Movement) → TakesKnown H m → (place : Option SublotPlace) → comes_from m.0 m.1.what ≡ place → HasPlace s.sublots ordered s.owner lot place
  has_comes_from m takes None is = tt
  has_comes_from m takes (Some p) is = λ here. on_hand_has_known p.1 (takes id p.1 ((at_places id p.1 m.0 m.1.what).1 ∙ ap (is_sublot_place id p.1) is ∙ at_itself p here)).0

  -- what was brought into the lot's sublots, and what was taken from them
  abbrev on_hand_all_brought : ℕ
  on_hand_all_brought = total (λ row. cond (same_bytes row.lot lot) (brought H (lot_id s.owner row.lot) row.sublot) 0) s.sublots

  abbrev on_hand_all_taken : ℕ
  on_hand_all_taken = total (λ row. cond (same_bytes row.lot lot) (taken H (lot_id s.owner row.lot) row.sublot) 0) s.sublots

  -- what movements with such sublots move in the sublots of the lot
  moved_is : (touches : LotId → Bytes → Bytes → Move → Bool) (place : Bytes → Move → Option SublotPlace) → ((of : LotId) (sub o : Bytes) (what : Move) → touches of sub o what ≡ is_sublot_place of sub (place o what)) →
      AllByRecursion (λ m. HasPlace s.sublots ordered s.owner lot (place m.0 m.1.what)) (standing H) →
      total (λ row. cond (same_bytes row.lot lot) (total (λ m. cond (touches (lot_id s.owner row.lot) row.sublot m.0 m.1.what) m.1.amount 0) (standing H)) 0) s.sublots ≡ total (λ m. cond (is_in id (place m.0 m.1.what)) m.1.amount 0) (standing H)
  moved_is touches place at there_all =
      total-alike _ (λ row. cond (same_bytes row.lot lot) (total (λ m. cond (is_sublot_place (lot_id s.owner row.lot) row.sublot (place m.0 m.1.what)) m.1.amount 0) (standing H)) 0) s.sublots
      (λ row. ap (λ n. cond (same_bytes row.lot lot) n 0) (total-alike _ _ (standing H) (λ m. ap (λ b. cond b m.1.amount 0) (at (lot_id s.owner row.lot) row.sublot m.0 m.1.what))))
      ∙ moved_in s.sublots ordered s.owner lot (λ m. place m.0 m.1.what) (standing H) there_all

  brought_is : on_hand_all_brought ≡ total (λ m. cond (is_in id (goes_to m.0 m.1.what)) m.1.amount 0) (standing H)
  brought_is = moved_is brings_into goes_to (λ of sub o what. (at_places of sub o what).0) (all_weaker _ _ (λ m brings. has_goes_to m brings (goes_to m.0 m.1.what) refl) (standing H) (each_standing (BringsOwn H) H (all_bring_own H lawful)))

  taken_is : on_hand_all_taken ≡ total (λ m. cond (is_in id (comes_from m.0 m.1.what)) m.1.amount 0) (standing H)
  taken_is = moved_is takes_from comes_from (λ of sub o what. (at_places of sub o what).1) (all_weaker _ _ (λ m takes. has_comes_from m takes (comes_from m.0 m.1.what) refl) (standing H) (each_standing (TakesKnown H) H (all_take_known H lawful)))

  -- The amount in a sublot, with what was taken from it, is what was brought into it.
  on_hand_left : (b : Bool) (held came went : ℕ) → held ≡ came - went → went ≤ came → cond b held 0 + cond b went 0 ≡ cond b came 0
  on_hand_left true held came went is le = omega arith
  on_hand_left false held came went is le = refl

  on_hand_held_is : (row : SublotRow) → sublot_at s (row.lot, row.sublot) ≡ Some row → row.amount ≡ brought H (lot_id s.owner row.lot) row.sublot - taken H (lot_id s.owner row.lot) row.sublot
  unfolding stock
  on_hand_held_is row found =
      let given : sublot_row H s.owner (row.lot, row.sublot) ≡ Some row = sym (ap (λ (t : OwnerFacts). t.sublot (row.lot, row.sublot)) there) ∙ found in
      sym (ap (λ (r : SublotRow). r.amount) (cond_some (sublot_known H (lot_id s.owner row.lot) row.sublot) _ row given).1)

  held_and_taken : on_hand_in s lot + on_hand_all_taken ≡ on_hand_all_brought
  held_and_taken =
      sym (total-plus (λ row. cond (same_bytes row.lot lot) row.amount 0) (λ row. cond (same_bytes row.lot lot) (taken H (lot_id s.owner row.lot) row.sublot) 0) s.sublots)
      ∙ total-along _ (λ row. cond (same_bytes row.lot lot) (brought H (lot_id s.owner row.lot) row.sublot) 0) s.sublots
      (all_weaker _ _ (λ row found. on_hand_left (same_bytes row.lot lot) row.amount _ _ (on_hand_held_is row found) (covered H (lot_id s.owner row.lot) row.sublot lawful)) s.sublots
      (each_found pair_cmp pair_cmp_total (λ row. (row.lot, row.sublot)) s.sublots ordered))

  pub on_hand_is : on_hand_in s lot ≡ on_hand H id
  unfolding on_hand
  on_hand_is =
      let split = total (λ (m : Movement). cond (splits id m.0 m.1.what) m.1.amount 0) (standing H) in
      let came : total (λ m. cond (is_in id (goes_to m.0 m.1.what)) m.1.amount 0) (standing H) ≡ amounts (adds_to id) H + split =
      total-alike _ (λ m. cond (adds_to id m.0 m.1.what) m.1.amount 0 + cond (splits id m.0 m.1.what) m.1.amount 0) (standing H) (λ m. into_lot id m.0 m.1.what m.1.amount)
      ∙ total-plus (λ m. cond (adds_to id m.0 m.1.what) m.1.amount 0) (λ m. cond (splits id m.0 m.1.what) m.1.amount 0) (standing H) in
      let went : total (λ m. cond (is_in id (comes_from m.0 m.1.what)) m.1.amount 0) (standing H) ≡ amounts (uses_up id) H + split =
      total-alike _ (λ m. cond (uses_up id m.0 m.1.what) m.1.amount 0 + cond (splits id m.0 m.1.what) m.1.amount 0) (standing H) (λ m. out_of_lot id m.0 m.1.what m.1.amount)
      ∙ total-plus (λ m. cond (uses_up id m.0 m.1.what) m.1.amount 0) (λ m. cond (splits id m.0 m.1.what) m.1.amount 0) (standing H) in
      less (on_hand_in s lot) on_hand_all_taken on_hand_all_brought (amounts (adds_to id) H) (amounts (uses_up id) H) split held_and_taken (brought_is ∙ came) (taken_is ∙ went)
    where
      less : (held went came adds uses split : ℕ) → held + went ≡ came → came ≡ adds + split → went ≡ uses + split → held ≡ adds - uses
      less held went came adds uses split a b c = omega arith
