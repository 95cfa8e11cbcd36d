-- What a decision on the disposition of a lot owes.
use Rattle.std.proofs.Common.{◌≡◌, Bool, true, false, ◌||◌, cond, Option, Some, None, is_some, is_none, List, [], ◌∷◌, map, refl, sym, ap, ◌∙◌}
use Rattle.toll_stock.proofs.Common.{false≢true, nat_list_cmp_total, list_any, option_map, is_eq, Ordering, or_left, Bytes, same_bytes, bytes_cmp, Action, Release, Reject, by, History, acts, Slice, lot_at, material_at, with_row, KeepsRules, row_at, none_or, lot_id, Made, lot_made, is_out_of_limits, rejects, stays_released, disposition_of, OwnerFacts, facts_of, facts_given, lot_row, IsRowsOf, IsDecided, Decides, DecisionKeepsRules, Checks, is_quarantined, release_checks, reject_checks, Put, Decision, Disposition, Quarantined, Released, Rejected, LotRow, Lot, and_is, accepted_passes, verdict_is, Grows, put_rows, RowsFit, decides, keeps_rules, tables-own, tables-others, row_at-put_row, length-known, any-known, same_bytes-exact, same_bytes-refl, same_bytes-symm, given_disposition, lot_row_made}
use Rattle.toll_history.proofs.Moving.{lot_row_none}
use Rattle.toll_history.proofs.OneOrigin.{at_made}
use Rattle.toll_stock.proofs.Mapped.{mapped_alike}

-- tables with this row of a lot
abbrev pub with_lot_changed : LotRow → OwnerFacts → OwnerFacts
with_lot_changed row t = record t { lot = λ k. cond (same_bytes k row.lot) (Some row) (t.lot k) }

-- a lot's row with another disposition
abbrev pub disposed : LotRow → Disposition → LotRow
disposed row d = record row { disposition = d }

-- ---- in the slice

pub lot_in_slice : (s : Slice) (row : LotRow) (d : Disposition) → lot_at s row.lot ≡ Some row → facts_of (with_row s (Lot (disposed row d))) ≡ with_lot_changed (disposed row d) (facts_of s)
lot_in_slice s row d there i = record (facts_of s) {
  lot = λ k. row_at-put_row bytes_cmp nat_list_cmp_total (λ x. x.lot) s.lots (disposed row d) k i;
  lots = length-known bytes_cmp nat_list_cmp_total (λ x. x.lot) s.lots (disposed row d) (ap is_some there) i;
  material_used = λ material. any-known bytes_cmp (λ x. x.lot) (λ x. same_bytes x.material material) s.lots (disposed row d) row there refl i;
}

-- A row that is found has the key.
pub found_key : {K R : Type 0} (cmp : K → K → Ordering) (key : R → K) (rows : List R) (k : K) (row : R) → row_at cmp key rows k ≡ Some row → is_eq (cmp k (key row)) ≡ true
unfolding row_at
found_key cmp key [] k row is = (cc)
found_key cmp key (x ∷ xs) k row is =
    elim (is_eq (cmp k (key x))) as (λ b. is_eq (cmp k (key x)) ≡ b → cond b (Some x) (row_at cmp key xs k) ≡ Some row → is_eq (cmp k (key row)) ≡ true) [
      | true ↦ λ hit is. let r : x ≡ row = (cc) in ap (λ y. is_eq (cmp k (key y))) (sym r) ∙ hit
      | false ↦ λ miss is. found_key cmp key xs k row is
    ] refl is

-- Another disposition of a lot fits.
pub rows_fit : (s : Slice) (lot : Bytes) (f : LotRow → Disposition) (x : Option LotRow) → KeepsRules s → lot_at s lot ≡ x → RowsFit (given_disposition f x) s
rows_fit s lot f None keeps is = tt
rows_fit s lot f (Some row) keeps is =
    let e = same_bytes-exact lot row.lot (found_key bytes_cmp (λ x. x.lot) s.lots lot row is) in (
      and_is _ (is_some (material_at s row.material))
          (or_left _ _ (ap (λ l. is_some (lot_at s l)) (sym e) ∙ ap is_some is))
          (ap (none_or (λ (r : LotRow). is_some (material_at s r.material))) (sym is) ∙ keeps.lot_materials lot),
      tt,
    )

-- ---- in the history

-- A lot that the tables have was made.
pub record IsLotMade (H : History) (o l : Bytes) : Type 0 where
  pub made : Made
  pub is : lot_made H (lot_id o l) ≡ Some made

made_by_some : (H : History) (o l : Bytes) (x : Option Made) → lot_made H (lot_id o l) ≡ x → is_none (lot_row H o l) ≡ false → IsLotMade H o l
made_by_some H o l None is there = absurd (false≢true (sym there ∙ lot_row_none H o l ∙ ap is_none is))
made_by_some H o l (Some made) is there = record { made = made; is = is }

pub known_made : (H : History) (o l : Bytes) → is_none (lot_row H o l) ≡ false → IsLotMade H o l
known_made H o l there = made_by_some H o l (lot_made H (lot_id o l)) refl there

-- the row of each lot after an action that changes this lot's disposition and no other's
module _ (H : History) (o lot : Bytes) (made : Made) (is : lot_made H (lot_id o lot) ≡ Some made) (own : List Action) (d : Disposition) where
  pub lots_after : disposition_of own made.material lot ≡ d → ((l material : Bytes) → same_bytes lot l ≡ false → disposition_of own material l ≡ disposition_of (acts o H) material l) →
      (k : Bytes) → option_map (lot_row_made own k) (lot_made H (lot_id o k)) ≡ cond (same_bytes k lot) (Some (disposed (lot_row_made (acts o H) lot made) d)) (lot_row H o k)
  lots_after this others k =
      elim (same_bytes k lot) as (λ b. same_bytes k lot ≡ b → option_map (lot_row_made own k) (lot_made H (lot_id o k)) ≡ cond b (Some (disposed (lot_row_made (acts o H) lot made) d)) (lot_row H o k)) [
        | true ↦ λ same.
            ap (λ l. option_map (lot_row_made own l) (lot_made H (lot_id o l))) (same_bytes-exact k lot same)
            ∙ ap (option_map (lot_row_made own lot)) is
            ∙ ap (λ e. Some (disposed (lot_row_made (acts o H) lot made) e)) this
        | false ↦ λ other. mapped_alike (lot_row_made own k) (lot_row_made (acts o H) k) (lot_made H (lot_id o k)) (λ m there. ap (disposed (lot_row_made (acts o H) k m)) (others k m.material (same_bytes-symm lot k ∙ other)))
      ] refl

-- ---- a release and a rejection

-- A lot that is quarantined was not rejected.
not_rejected : (gone stays : Bool) → is_quarantined (cond gone Rejected (cond stays Released Quarantined)) ≡ true → gone ≡ false
not_rejected true stays h = absurd (false≢true h)
not_rejected false stays h = refl

pub released_now : (own : List Action) (material lot : Bytes) → is_quarantined (disposition_of own material lot) ≡ true → disposition_of (Release lot ∷ own) material lot ≡ Released
released_now own material lot was =
    (λ i. cond (not_rejected (list_any (rejects lot) own) _ was i) Rejected (cond (same_bytes-refl lot i || stays_released (is_out_of_limits own material) lot own) Released Quarantined))

released_other : (own : List Action) (material lot l : Bytes) → same_bytes lot l ≡ false → disposition_of (Release lot ∷ own) material l ≡ disposition_of own material l
released_other own material lot l other = ap (λ b. cond (list_any (rejects l) own) Rejected (cond (b || stays_released (is_out_of_limits own material) l own) Released Quarantined)) other

pub rejected_now : (own : List Action) (material lot : Bytes) → disposition_of (Reject lot ∷ own) material lot ≡ Rejected
rejected_now own material lot = ap (λ b. cond (b || list_any (rejects lot) own) Rejected (cond (stays_released (is_out_of_limits own material) lot own) Released Quarantined)) (same_bytes-refl lot)

rejected_other : (own : List Action) (material lot l : Bytes) → same_bytes lot l ≡ false → disposition_of (Reject lot ∷ own) material l ≡ disposition_of own material l
rejected_other own material lot l other = ap (λ b. cond (b || list_any (rejects l) own) Rejected (cond (stays_released (is_out_of_limits own material) l own) Released Quarantined)) other

-- If the history's tables differ by the lot alone, so do the slice's.
module _ (H : History) (s : Slice) (there : IsRowsOf H s) (lot : Bytes) (m : IsLotMade H s.owner lot) where
  pub found_lot : lot_at s lot ≡ Some (lot_row_made (acts s.owner H) lot m.made)
  found_lot = ap (λ (t : OwnerFacts). t.lot lot) there ∙ ap (option_map (lot_row_made (acts s.owner H) lot)) m.is

  lot_grows : (d : Disposition) (after : OwnerFacts) → after ≡ with_lot_changed (disposed (lot_row_made (acts s.owner H) lot m.made) d) (facts_given H s.owner) → facts_of (put_rows (given_disposition (λ row. d) (lot_at s lot)) s) ≡ after
  lot_grows d after is =
      ap (λ x. facts_of (put_rows (given_disposition (λ row. d) x) s)) found_lot
      ∙ lot_in_slice s (lot_row_made (acts s.owner H) lot m.made) d found_lot
      ∙ ap (with_lot_changed (disposed (lot_row_made (acts s.owner H) lot m.made) d)) there
      ∙ sym is

release_in_history : (H : History) (o lot : Bytes) (m : IsLotMade H o lot) → is_quarantined (disposition_of (acts o H) m.made.material lot) ≡ true → facts_given (by o (Release lot) ∷ H) o ≡ with_lot_changed (disposed (lot_row_made (acts o H) lot m.made) Released) (facts_given H o)
release_in_history H o lot m was = tables-own H o (Release lot) refl ∙ (λ i. record (facts_given H o) {
  lot = λ k. lots_after H o lot m.made m.is (Release lot ∷ acts o H) Released (released_now (acts o H) m.made.material lot was) (λ l material. released_other (acts o H) material lot l) k i;
})

reject_in_history : (H : History) (o lot : Bytes) (m : IsLotMade H o lot) → facts_given (by o (Reject lot) ∷ H) o ≡ with_lot_changed (disposed (lot_row_made (acts o H) lot m.made) Rejected) (facts_given H o)
reject_in_history H o lot m = tables-own H o (Reject lot) refl ∙ (λ i. record (facts_given H o) {
  lot = λ k. lots_after H o lot m.made m.is (Reject lot ∷ acts o H) Rejected (rejected_now (acts o H) m.made.material lot) (λ l material. rejected_other (acts o H) material lot l) k i;
})

release_grows : (lot : Bytes) → Grows (Release lot) (λ t. given_disposition (λ row. Released) (t.lot lot))
release_grows lot H s lawful valid accepted there =
    let m = known_made H s.owner lot (accepted_passes H s.owner (Release lot) accepted 0) in
    lot_grows H s there lot m Released _ (release_in_history H s.owner lot m (at_made H s.owner lot m.made m.is (λ row. is_quarantined row.disposition) (accepted_passes H s.owner (Release lot) accepted 1)))

reject_grows : (lot : Bytes) → Grows (Reject lot) (λ t. given_disposition (λ row. Rejected) (t.lot lot))
reject_grows lot H s lawful valid accepted there =
    let m = known_made H s.owner lot (accepted_passes H s.owner (Reject lot) accepted 0) in
    lot_grows H s there lot m Rejected _ (reject_in_history H s.owner lot m)

module _ (own : Slice) (lot : Bytes) (d : Decision) where
  pub release_decided : IsDecided (release_checks (facts_of own) lot) (map (Put own.owner) (given_disposition (λ row. Released) (lot_at own lot))) d → Decides (by own.owner (Release lot)) own d
  release_decided decided =
      decides (Release lot) (λ t. given_disposition (λ row. Released) (t.lot lot)) (release_grows lot) (λ H o p lawful valid accepted other. tables-others H o (Release lot) refl p other)
      own d _ decided (λ H lawful valid known there. verdict_is H own.owner (Release lot) (facts_of own) _ known there refl)

  pub reject_decided : IsDecided (reject_checks (facts_of own) lot) (map (Put own.owner) (given_disposition (λ row. Rejected) (lot_at own lot))) d → Decides (by own.owner (Reject lot)) own d
  reject_decided decided =
      decides (Reject lot) (λ t. given_disposition (λ row. Rejected) (t.lot lot)) (reject_grows lot) (λ H o p lawful valid accepted other. tables-others H o (Reject lot) refl p other)
      own d _ decided (λ H lawful valid known there. verdict_is H own.owner (Reject lot) (facts_of own) _ known there refl)

  -- The rules are kept, whatever the checks are.
  pub lot_keeps : (f : LotRow → Disposition) (checks : Checks) → IsDecided checks (map (Put own.owner) (given_disposition f (lot_at own lot))) d → KeepsRules own → DecisionKeepsRules own d
  lot_keeps f checks decided keeps = keeps_rules own (given_disposition f (lot_at own lot)) d checks decided keeps (λ accepted. rows_fit own lot f (lot_at own lot) keeps refl)
