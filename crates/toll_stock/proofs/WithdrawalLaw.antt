-- What the decision owes on a movement that takes from one of the owner's sublots: a shipment, or scrapping.
use Rattle.std.proofs.Common.{◌≡◌, ℕ, true, false, nat_le, is_none, [], ◌∷◌, ◌++◌, refl, sym, ap, ◌∙◌}
use Rattle.toll_stock.proofs.Common.{Bytes, Record, by, History, Slice, KeepsRules, batch_has_room, OwnerFacts, facts_of, facts_given, IsDecided, Decides, DecisionKeepsRules, Accepted, Checks, verdict_of_checks, key_checks, movement_checks, ship_checks, scrap_checks, verdict, Put, Decision, MoveRow, Ship, Scrap, Sublot, Move, none_applies, rest_accept, verdict_is, decides, keeps_rules, checks_accept, went_fit, less_in_sublot, MOST_MOVEMENTS}
use Rattle.toll_base.specs.Values.{house_name}
use Rattle.toll_stock.proofs.Withdrawn.{Withdraws, sublot_left, withdrawal_rows, leaves, withdrawal_grows}

module _ (row : MoveRow) (lot sublot : Bytes) (withdraws : Withdraws row lot sublot) (no_actual : (s : Slice) → batch_has_room s row.key row.what ≡ true) where
  -- These checks are the movement's own.
  module _ (checks : OwnerFacts → Checks) (are : (o : Bytes) (t house : OwnerFacts) → movement_checks o t house row.what row.amount ≡ checks t)
      (lot_there : (t : OwnerFacts) → verdict_of_checks (checks t) ≡ Accepted → is_none (t.lot lot) ≡ false)
      (sublot_there : (t : OwnerFacts) → verdict_of_checks (checks t) ≡ Accepted → is_none (t.sublot (lot, sublot)) ≡ false)
      (has_room : (t : OwnerFacts) → verdict_of_checks (checks t) ≡ Accepted → nat_le MOST_MOVEMENTS t.movements ≡ false) where
    own_accept : (H : History) (o : Bytes) → verdict H (by o (Record row)) ≡ Accepted → verdict_of_checks (checks (facts_given H o)) ≡ Accepted
    own_accept H o accepted = ap verdict_of_checks (sym (are o (facts_given H o) (facts_given H house_name))) ∙ checks_accept H o row accepted

    module _ (own : Slice) (d : Decision) (decided : IsDecided (key_checks (facts_of own) row ++ checks (facts_of own)) (Put own.owner (Move row) ∷ Put own.owner (Sublot (sublot_left row lot sublot withdraws (facts_of own))) ∷ []) d) where
      withdrawal_owes : Decides (by own.owner (Record row)) own d × (KeepsRules own → DecisionKeepsRules own d)
      withdrawal_owes = (
        decides (Record row) (withdrawal_rows row lot sublot withdraws) (withdrawal_grows row lot sublot withdraws (λ H o accepted. sublot_there (facts_given H o) (own_accept H o accepted))) (leaves row lot sublot withdraws) own d _ decided
            (λ H lawful valid known there.
            ap (λ cs. verdict_of_checks (key_checks (facts_of own) row ++ cs)) (sym (are own.owner (facts_of own) (facts_given H house_name)))
            ∙ verdict_is H own.owner (Record row) (facts_of own) _ known there refl),
        λ keeps.
            keeps_rules own (withdrawal_rows row lot sublot withdraws (facts_of own)) d _ decided keeps
            (λ accepted.
            let own_accepted = rest_accept (key_checks (facts_of own) row) (checks (facts_of own)) accepted in
            went_fit own row lot sublot row.amount keeps (has_room (facts_of own) own_accepted) (no_actual own) (lot_there (facts_of own) own_accepted) (sublot_there (facts_of own) own_accepted)),
      )

-- ---- shipments, and scrapping

module _ (key lot sublot : Bytes) (amount day : ℕ) where
  abbrev shipment : MoveRow
  shipment = record { key = key; what = Ship lot sublot; amount = amount; day = day }

  abbrev scrapping : MoveRow
  scrapping = record { key = key; what = Scrap lot sublot; amount = amount; day = day }

  ships : Withdraws shipment lot sublot
  ships = record { takes = λ p o k. refl; brings = λ o k. refl; makes = λ o l. refl; no_lot = λ o ms. refl; no_sublot = λ o ms. refl; into_none = λ o. refl }

  scraps : Withdraws scrapping lot sublot
  scraps = record { takes = λ p o k. refl; brings = λ o k. refl; makes = λ o l. refl; no_lot = λ o ms. refl; no_sublot = λ o ms. refl; into_none = λ o. refl }

  module _ (own : Slice) (d : Decision) where
    -- The movement is put, and the sublot with this amount less.
    abbrev IsPlanned : MoveRow → Checks → Type 0
    IsPlanned row checks = IsDecided (key_checks (facts_of own) row ++ checks) (Put own.owner (Move row) ∷ Put own.owner (Sublot (less_in_sublot lot sublot amount (facts_of own))) ∷ []) d

    pub shipment_owes : IsPlanned shipment (ship_checks (facts_of own) lot sublot amount) → Decides (by own.owner (Record shipment)) own d × (KeepsRules own → DecisionKeepsRules own d)
    shipment_owes = withdrawal_owes shipment lot sublot ships (λ s. refl) (λ t. ship_checks t lot sublot amount) (λ o t house. refl) (λ t h. none_applies (ship_checks t lot sublot amount) h 0) (λ t h. none_applies (ship_checks t lot sublot amount) h 1) (λ t h. none_applies (ship_checks t lot sublot amount) h 4) own d

    pub scrapping_owes : IsPlanned scrapping (scrap_checks (facts_of own) lot sublot amount) → Decides (by own.owner (Record scrapping)) own d × (KeepsRules own → DecisionKeepsRules own d)
    scrapping_owes = withdrawal_owes scrapping lot sublot scraps (λ s. refl) (λ t. scrap_checks t lot sublot amount) (λ o t house. refl) (λ t h. none_applies (scrap_checks t lot sublot amount) h 0) (λ t h. none_applies (scrap_checks t lot sublot amount) h 1) (λ t h. none_applies (scrap_checks t lot sublot amount) h 3) own d
