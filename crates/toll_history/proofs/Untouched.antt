-- A lot that is not known has no results, and was neither released nor rejected.
use Rattle.std.proofs.Common.{◌≡◌, ℤ, Bool, true, false, None, is_none, List, [], ◌∷◌, refl, sym, ap, ◌∙◌, arith}
use Rattle.toll_history.proofs.Common.{false≢true, list_any, or_parts, or_from, and_right, false_from_ne_true, Bytes, same_bytes, count, lot_id, Quarantined, both, same_bytes-exact, Action, RecordResult, Release, Reject, by, History, acts, lot_made, lot_row, releases, rejects, is_result_of, is_out_of_limits, stays_released, disposition_of, IsLotUndisposed, Accepted, IsLawful, verdict}
use Rattle.toll_history.proofs.Options.{first_none}
use Rattle.toll_history.proofs.Passed.{accepted_passes}
use Rattle.toll_history.proofs.Acts.{any_acts}
use Rattle.toll_history.proofs.Moving.{lot_row_none}
use Rattle.toll_history.proofs.Lots.{lot_made-cons}

-- whether the action is a result, a release or a rejection of the lot
abbrev pub is_about : Bytes → Action → Bool
is_about l (RecordResult lot test value day) = same_bytes lot l
is_about l (Release lot) = same_bytes lot l
is_about l (Reject lot) = same_bytes lot l
is_about l _ = false

lot_not_made : (H : History) (o lot l : Bytes) → lot_made H (lot_id o l) ≡ None → same_bytes lot l ≡ true → is_none (lot_row H o lot) ≡ false → ⊥
lot_not_made H o lot l none same there = false≢true (
    sym there ∙ lot_row_none H o lot ∙ ap (λ x. is_none (lot_made H (lot_id o x))) (same_bytes-exact lot l same) ∙ ap is_none none)

-- An accepted action is about no unknown lot.
about_known : (H : History) (o : Bytes) (a : Action) → verdict H (by o a) ≡ Accepted → (l : Bytes) → lot_made H (lot_id o l) ≡ None → is_about l a ≡ true → ⊥
about_known H o (RecordResult lot test value day) accepted l none about = lot_not_made H o lot l none about (accepted_passes H o (RecordResult lot test value day) accepted 0)
about_known H o (Release lot) accepted l none about = lot_not_made H o lot l none about (accepted_passes H o (Release lot) accepted 0)
about_known H o (Reject lot) accepted l none about = lot_not_made H o lot l none about (accepted_passes H o (Reject lot) accepted 0)
about_known H o _ accepted l none about = false≢true about

-- One more action doesn't make any of the owner's actions be about the lot.
about_none : (H : History) (w : Bytes) (a : Action) → verdict H (by w a) ≡ Accepted → (o l : Bytes) → list_any (is_about l) (acts o H) ≡ false → lot_made H (lot_id o l) ≡ None → list_any (is_about l) (acts o (by w a ∷ H)) ≡ false
about_none H w a accepted o l before none =
    any_acts (is_about l) o (by w a) H
    ∙ or_from _ _ (false_from_ne_true _ (λ h. let parts = both (same_bytes w o) (is_about l a) h in about_known H w a accepted l (ap (λ x. lot_made H (lot_id x l)) (same_bytes-exact w o parts.0) ∙ none) parts.1)) before

none_about : (H : History) (o l : Bytes) → IsLawful H → lot_made H (lot_id o l) ≡ None → list_any (is_about l) (acts o H) ≡ false
unfolding acts
none_about [] o l lawful none = refl
none_about (c ∷ H) o l lawful none =
    let before : lot_made H (lot_id o l) ≡ None = first_none _ _ (sym (lot_made-cons H c.owner c.action (lot_id o l)) ∙ none) in
    about_none H c.owner c.action lawful.2 o l (none_about H o l lawful.0 before) before

-- ---- what follows from it

none_such : (p q : Action → Bool) → ((a : Action) → q a ≡ true → p a ≡ true) → (own : List Action) → list_any p own ≡ false → list_any q own ≡ false
none_such p q implied [] h = refl
none_such p q implied (a ∷ own) h = let parts = or_parts (p a) (list_any p own) h in
    or_from (q a) _ (false_from_ne_true (q a) (λ is. false≢true (sym parts.0 ∙ implied a is))) (none_such p q implied own parts.1)

pub count_none : (p : Action → Bool) (own : List Action) → list_any p own ≡ false → count p own ≡ 0
count_none p [] h = refl
count_none p (a ∷ own) h = let parts = or_parts (p a) (list_any p own) h in rw parts.0 (omega (arith, count_none p own parts.1))

release_about : (l : Bytes) (a : Action) → releases l a ≡ true → is_about l a ≡ true
release_about l (Release lot) is = is
release_about l _ is = absurd (false≢true is)

reject_about : (l : Bytes) (a : Action) → rejects l a ≡ true → is_about l a ≡ true
reject_about l (Reject lot) is = is
reject_about l _ is = absurd (false≢true is)

result_about : (l test : Bytes) (a : Action) → is_result_of l test a ≡ true → is_about l a ≡ true
result_about l test (RecordResult lot t value day) is = (both (same_bytes lot l) (same_bytes t test) is).0
result_about l test _ is = absurd (false≢true is)

untouched_by : (own : List Action) (l : Bytes) → list_any (is_about l) own ≡ false → IsLotUndisposed own l
untouched_by own l about = record {
  released = none_such (is_about l) (releases l) (release_about l) own about;
  rejected = none_such (is_about l) (rejects l) (reject_about l) own about;
  results = λ test. count_none (is_result_of l test) own (none_such (is_about l) (is_result_of l test) (result_about l test) own about);
}

pub lot_undisposed : (H : History) (o l : Bytes) → IsLawful H → lot_made H (lot_id o l) ≡ None → IsLotUndisposed (acts o H) l
lot_undisposed H o l lawful none = untouched_by (acts o H) l (none_about H o l lawful none)

-- The action that makes the lot isn't about it either.
pub untouched_after : (H : History) (w : Bytes) (a : Action) (o l : Bytes) → IsLawful H → verdict H (by w a) ≡ Accepted → lot_made H (lot_id o l) ≡ None → IsLotUndisposed (acts o (by w a ∷ H)) l
untouched_after H w a o l lawful accepted none = untouched_by (acts o (by w a ∷ H)) l (about_none H w a accepted o l (none_about H o l lawful none) none)

-- A lot that was never released doesn't stay released.
pub never_released : (bad : Bytes → ℤ → Bool) (l : Bytes) (own : List Action) → list_any (releases l) own ≡ false → stays_released bad l own ≡ false
never_released bad l [] h = refl
never_released bad l (a ∷ own) h = let parts = or_parts (releases l a) (list_any (releases l) own) h in
    or_from (releases l a) _ parts.0 (and_right _ _ (never_released bad l own parts.1))

pub still_quarantined : (own : List Action) (material l : Bytes) → IsLotUndisposed own l → disposition_of own material l ≡ Quarantined
still_quarantined own material l none = rw (none.rejected, never_released (is_out_of_limits own material) l own none.released) refl
