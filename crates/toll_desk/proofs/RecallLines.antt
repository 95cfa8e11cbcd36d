-- The lines of a recall, over the rows of the owners of its lots.
use Rattle.std.specs.Prelude.{position, nat_lt}
use Rattle.toll_desk.proofs.Common.{position_or_len, option_map, false≢true, take_more, map-append, Contains-push_cases, Contains-get_or, Bytes, Slice, LotId, LotRow, Disposition, lot_id, where_so, Made, lot_made, totals_given, same_bytes-exact, History, acts, owner_known, IsRowsOf, lot_row, IsLawful, IsChain, IsTrace, Step, Forward, Contains-none, IsPlantJoined, recall_line_of, IsRecall, RecallLine, is_slice_of, has_slice, has_found, has_more, has_new}
use Rattle.std.proofs.Common.{Result, Ok, Err, IsErrAnd, ◌≡◌, ℕ, zero, suc, ◌<◌, ◌≤◌, ◌&&◌, Bool, true, false, cond, Option, Some, None, is_some, List, [], ◌∷◌, ◌++◌, length, map, get_or, take, ◌+◌, Contains, refl, sym, ap, subst, inl, inr, arith, ◌∙◌}
use Rattle.std.proofs.lemmas.Bool.Decides.{nat_tests}
use Rattle.std.proofs.lemmas.List.Quantifiers.{position-Some}
use Rattle.std.proofs.lemmas.List.Sums.{fails_before_first}
use Rattle.toll_base.proofs.Bools.{both}
use Rattle.toll_history.specs.OwnerFacts.{lot_row_made}
use Rattle.toll_history.specs.Amounts.{on_hand, shipped}
use Rattle.toll_stock.specs.declared.stock.Totals.{Totals}
use Rattle.toll_desk.specs.Questions.{AreSlicesFor, IsLineOf, is_known_lot}
use Rattle.toll_desk.proofs.OwnTraces.{any_member, joined_known}
use Rattle.toll_desk.proofs.PlantShown.{end_owner}

-- ---- slices for the owners of steps

pub one_slice : (H : History) (own : Slice) → IsRowsOf H own → AreSlicesFor H [] (own ∷ [])
one_slice H own rows = record {
  rows = λ s there. elim (Contains-push_cases [] own s there) [ inl none ↦ absurd (Contains-none s none) | inr is ↦ subst (IsRowsOf H) is rows ];
  every = λ step there known. absurd (Contains-none step there);
}

pub step_there : (H : History) (before : List Step) (step : Step) (slices : List Slice) → AreSlicesFor H before slices → (owner_known H step.lot.owner ≡ true → has_slice slices step.lot.owner ≡ true) → AreSlicesFor H (before ++ step ∷ []) slices
step_there H before step slices are has = record {
  rows = are.rows;
  every = λ s there known. elim (Contains-push_cases before step s there) [
    | inl earlier ↦ are.every s earlier known
    | inr is ↦ subst (λ (t : Step). has_slice slices t.lot.owner ≡ true) is (has (ap (λ (t : Step). owner_known H t.lot.owner) is ∙ known))
  ];
}

pub step_found : (H : History) (before : List Step) (step : Step) (slices : List Slice) (at : Option ℕ) → AreSlicesFor H before slices → at ≡ position (is_slice_of step.lot.owner) slices → is_some at ≡ true → AreSlicesFor H (before ++ step ∷ []) slices
step_found H before step slices at are is there = step_there H before step slices are (λ known. has_found slices step.lot.owner at is there)

pub step_unknown : (H : History) (before : List Step) (step : Step) (slices : List Slice) → AreSlicesFor H before slices → owner_known H step.lot.owner ≡ false → AreSlicesFor H (before ++ step ∷ []) slices
step_unknown H before step slices are unknown = step_there H before step slices are (λ known. absurd (false≢true (sym unknown ∙ known)))

pub step_added : (H : History) (before : List Step) (step : Step) (slices : List Slice) (s : Slice) → AreSlicesFor H before slices → IsRowsOf H s → s.owner ≡ step.lot.owner → AreSlicesFor H (before ++ step ∷ []) (slices ++ s ∷ [])
step_added H before step slices s are rows own = step_there H before step (slices ++ s ∷ [])
    (record {
      rows = λ t there. elim (Contains-push_cases slices s t there) [ inl earlier ↦ are.rows t earlier | inr is ↦ subst (IsRowsOf H) is rows ];
      every = λ t there known. has_more slices s t.lot.owner (are.every t there known);
    })
    (λ known. has_new slices s step.lot.owner own)

-- ---- the slice of an owner

pub slice_at : (slices : List Slice) (o : Bytes) (at : ℕ) (s : Slice) → Some at ≡ position (is_slice_of o) slices → s ≡ get_or slices at s → Contains slices s × (s.owner ≡ o)
slice_at slices o at s found is =
    let place = position-Some (is_slice_of o) slices at s (sym found) in
    (subst (Contains slices) (sym is) (Contains-get_or slices at s place.0), same_bytes-exact s.owner o (ap (is_slice_of o) is ∙ place.1))

not_within : (a b : ℕ) → cond (nat_lt a b) (Some a) None ≡ None → b ≤ a
not_within a b none = elim (nat_lt a b) as (λ t. nat_lt a b ≡ t → cond t (Some a) None ≡ None → b ≤ a) [
  | true ↦ λ e none. (cc)
  | false ↦ λ e none. grind (arith, nat_tests)
] refl none

pub slice_is_there : (slices : List Slice) (o : Bytes) → None ≡ position (is_slice_of o) slices → has_slice slices o ≡ true → ⊥
slice_is_there slices o none has =
    let found = any_member (is_slice_of o) slices has in
    let s = found.0 in
    let k = found.1.0 in
    let past = not_within (position_or_len (is_slice_of o) slices) (length slices) (sym none) in
    let inside = found.1.1 in
    false≢true (sym (fails_before_first (is_slice_of o) slices k s (omega arith)) ∙ ap (is_slice_of o) found.1.2 ∙ found.2)

-- ---- lines

line_step : (step : Step) (f : LotRow → RecallLine) (row : Option LotRow) (line : RecallLine) → ((r : LotRow) → (f r).step ≡ step) → option_map f row ≡ Some line → line.step ≡ step
line_step step f None line same is = (cc)
line_step step f (Some row) line same is = let e : f row ≡ line = (cc) in sym (ap (λ (l : RecallLine). l.step) e) ∙ same row

lines_steps : (H : History) (lines : List RecallLine) (steps : List Step) → map (λ line. Some line) lines ≡ map (recall_line_of H) steps → map (λ (line : RecallLine). line.step) lines ≡ steps
lines_steps H [] [] are = refl
lines_steps H [] (step ∷ steps) are = (cc)
lines_steps H (line ∷ lines) [] are = (cc)
lines_steps H (line ∷ lines) (step ∷ steps) are =
    let head : recall_line_of H step ≡ Some line = (cc) in
    let tail : map (λ line. Some line) lines ≡ map (recall_line_of H) steps = (cc) in
    let first : line.step ≡ step = line_step step _ (lot_row H step.lot.owner step.lot.lot) line (λ r. refl) head in
    let more = lines_steps H lines steps tail in
    (λ i. first i ∷ more i)

each_line : (f : Step → Option RecallLine) (lines : List RecallLine) → map f (map (λ (line : RecallLine). line.step) lines) ≡ map (λ (line : RecallLine). f line.step) lines
each_line f [] = refl
each_line f (line ∷ lines) = ap (λ more. f line.step ∷ more) (each_line f lines)

pub lines_recall : (H : History) (lot : LotId) (steps : List Step) (lines : List RecallLine) → map (λ line. Some line) lines ≡ map (recall_line_of H) steps → IsTrace (IsPlantJoined H Forward) lot steps → IsRecall H lot lines
lines_recall H lot steps lines are traced =
    let is = lines_steps H lines steps are in
    record {
      traced = subst (IsTrace (IsPlantJoined H Forward) lot) (sym is) traced;
      each = are ∙ ap (map (recall_line_of H)) (sym is) ∙ each_line (recall_line_of H) lines;
    }

-- ---- lots of a trace are known

chain_known : (H : History) (lot : LotId) (n : ℕ) (b : LotId) → IsLawful H → is_known_lot H lot ≡ true → IsChain (IsPlantJoined H Forward) lot n b → (owner_known H b.owner ≡ true) × (is_some (lot_row H b.owner b.lot) ≡ true)
chain_known H lot zero b lawful known is = both _ _ (ap (is_known_lot H) (sym is) ∙ known)
chain_known H lot (suc n) b lawful known is =
    let o = is.2.0 in
    (end_owner H o b _ lawful is.2.1 (inr refl), joined_known H o b _ lawful is.2.1 (inr refl))

some_not_none : {X Y : Type 0} (f : X → Y) (x : Option X) → is_some x ≡ true → option_map f x ≡ None → ⊥
some_not_none f None some none = false≢true some
some_not_none f (Some x) some none = (cc)

-- each lot of a forward trace from a known lot has a line
pub traced_has_line : (H : History) (lot : LotId) (steps : List Step) (step : Step) → IsLawful H → is_known_lot H lot ≡ true → IsTrace (IsPlantJoined H Forward) lot steps → Contains steps step → (owner_known H step.lot.owner ≡ true → recall_line_of H step ≡ None) → ⊥
traced_has_line H lot steps step lawful known traced there none =
    let is = chain_known H lot step.steps step.lot lawful known (traced.only step there) in
    some_not_none _ (lot_row H step.lot.owner step.lot.lot) is.1 (none is.0)

-- ---- the line of a step

pub line_given : (H : History) (step : Step) (line : Option RecallLine) → line ≡ recall_line_of H step → IsLineOf H step line
line_given H step None is = λ known. sym is
line_given H step (Some line) is = sym is

pub line_is : (H : History) (step : Step) (disposition : Disposition) (totals : Totals) → Some disposition ≡ option_map (λ (r : LotRow). r.disposition) (lot_row H step.lot.owner step.lot.lot) → Some totals ≡ totals_given H step.lot → Some (record { step = step; disposition = disposition; totals = totals }) ≡ recall_line_of H step
line_is H step disposition totals first second = of_made (lot_made H (lot_id step.lot.owner step.lot.lot)) first second
  where
    row_of : Made → LotRow
    row_of made = lot_row_made (acts step.lot.owner H) step.lot.lot made

    given : Totals
    given = record { on_hand = on_hand H step.lot; shipped = shipped H step.lot }

    of_made : (made : Option Made) → Some disposition ≡ option_map (λ (r : LotRow). r.disposition) (option_map row_of made) → Some totals ≡ where_so (is_some made) given → Some (record { step = step; disposition = disposition; totals = totals }) ≡ option_map {T = LotRow} {U = RecallLine} (λ row. record { step = step; disposition = row.disposition; totals = given }) (option_map row_of made)
    of_made None first second = (cc)
    of_made (Some made) first second =
        let d : disposition ≡ (row_of made).disposition = (cc) in
        let t : totals ≡ given = (cc) in
        (λ i. Some (record { step = step; disposition = d i; totals = t i }))

pub line_none : (H : History) (step : Step) → None ≡ option_map (λ (r : LotRow). r.disposition) (lot_row H step.lot.owner step.lot.lot) → None ≡ recall_line_of H step
line_none H step none = of_row (lot_row H step.lot.owner step.lot.lot) none
  where
    of_row : (row : Option LotRow) → None ≡ option_map (λ (r : LotRow). r.disposition) row → None ≡ option_map {T = LotRow} {U = RecallLine} (λ row. record { step = step; disposition = row.disposition; totals = record { on_hand = on_hand H step.lot; shipped = shipped H step.lot } }) row
    of_row None none = refl
    of_row (Some row) none = (cc)

-- a fault that is passed on is that fault
pub passed_on : {X E : Type 0} (r : Result X E) (e : E) → IsErrAnd r (λ f. f ≡ e) → r ≡ Err e
passed_on (Ok x) e is = absurd is
passed_on (Err f) e is = ap Err is

-- ---- one line more

pub lines_more : (f : Step → Option RecallLine) (steps : List Step) (i : ℕ) (step : Step) (lines : List RecallLine) (line : RecallLine) → i < length steps → step ≡ get_or steps i step → map (λ line. Some line) lines ≡ map f (take i steps) → f step ≡ Some line → map (λ line. Some line) (lines ++ line ∷ []) ≡ map f (take (i + 1) steps)
lines_more f steps i step lines line inside is so_far last =
    map-append (λ l. Some l) lines (line ∷ [])
    ∙ (λ k. so_far k ++ sym last k ∷ [])
    ∙ sym (map-append f (take i steps) (step ∷ []))
    ∙ sym (ap (map f) (take_more steps i step inside ∙ ap (λ t. take i steps ++ t ∷ []) (sym is)))

-- ---- whether the lot is known

pub lot_there : (H : History) (lot : LotId) → owner_known H lot.owner ≡ true → is_some (lot_row H lot.owner lot.lot) ≡ true → is_known_lot H lot ≡ true
lot_there H lot known there = rw (known, there) refl

pub lot_missing : (H : History) (lot : LotId) → is_some (lot_row H lot.owner lot.lot) ≡ false → is_known_lot H lot ≡ false
lot_missing H lot none = ap (λ b. owner_known H lot.owner && b) none ∙ never (owner_known H lot.owner)
  where
    never : (b : Bool) → (b && false) ≡ false
    never true = refl
    never false = refl
