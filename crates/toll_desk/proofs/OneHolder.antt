-- Over a lawful history one batch at most holds a unit.
use Rattle.std.proofs.Common.{◌≡◌, ◌+◌, Bool, true, not, ◌&&◌, Some, None, is_some, [], ◌∷◌, refl, sym, ap, subst, ◌∙◌, inl, inr}
use Rattle.toll_desk.proofs.Common.{false≢true, or_parts, not-true, Bytes, same_bytes, both, and_is, same_bytes-exact, same_bytes-refl, Action, OpenBatch, by, History, acts, OpenedBatch, opened, holder, Accepted, verdict, IsLawful, closes, count_opened, is_closed, any_acts, Contains-none, Contains-cases}
use Rattle.std.specs.Prelude.{find, Contains}
use Rattle.toll_history.proofs.Passed.{accepted_passes}
use Rattle.toll_desk.specs.Occupied.{HoldsUnit}
use Rattle.toll_keep.proofs.Finding.{find_member, found_one}

-- the test of a batch by which the history finds the holder
abbrev is_held : History → Bytes → OpenedBatch → Bool
is_held H unit b = same_bytes b.unit unit && not (is_closed (acts b.owner H) b.order b.number)

held_passes : (H : History) (unit : Bytes) (b : OpenedBatch) → HoldsUnit H unit b → is_held H unit b ≡ true
held_passes H unit b holds = and_is _ _ (ap (λ u. same_bytes u unit) holds.on ∙ same_bytes-refl unit) (ap not holds.not_closed)

passes_held : (H : History) (unit : Bytes) (b : OpenedBatch) → Contains (opened H) b → is_held H unit b ≡ true → HoldsUnit H unit b
passes_held H unit b there passes =
    let parts = both (same_bytes b.unit unit) (not (is_closed (acts b.owner H) b.order b.number)) passes in
    record { was_opened = there; on = same_bytes-exact b.unit unit parts.0; not_closed = not-true _ parts.1 }

-- where a batch holds the unit, the history names one
holder_there : (H : History) (unit : Bytes) (b : OpenedBatch) → HoldsUnit H unit b → is_some (holder H unit) ≡ true
unfolding holder
holder_there H unit b holds = found_one (is_held H unit) (opened H) b holds.was_opened (held_passes H unit b holds)

-- a batch that is there already, and holds the unit, held it before
held_before : (H : History) (o : Bytes) (a : Action) (unit : Bytes) (b : OpenedBatch) → HoldsUnit (by o a ∷ H) unit b → Contains (opened H) b → HoldsUnit H unit b
held_before H o a unit b holds there = record {
  was_opened = there;
  on = holds.on;
  not_closed = (or_parts _ (is_closed (acts b.owner H) b.order b.number) (sym (any_acts (closes b.order b.number) b.owner (by o a) H) ∙ holds.not_closed)).1;
}

-- a unit on which a batch is opened was free
was_free : (H : History) (o order unit : Bytes) (b : OpenedBatch) → verdict H (by o (OpenBatch order unit)) ≡ Accepted → HoldsUnit H unit b → ⊥
was_free H o order unit b accepted holds = false≢true (sym (accepted_passes H o (OpenBatch order unit) accepted 4) ∙ holder_there H unit b holds)

one_holder_step : (H : History) (o : Bytes) (a : Action) (unit : Bytes) → verdict H (by o a) ≡ Accepted → ((a b : OpenedBatch) → HoldsUnit H unit a → HoldsUnit H unit b → a ≡ b) →
    (x y : OpenedBatch) → HoldsUnit (by o a ∷ H) unit x → HoldsUnit (by o a ∷ H) unit y → x ≡ y
one_holder_step H o (OpenBatch order u) unit accepted ih x y hx hy = elim (Contains-cases _ (opened H) x hx.was_opened) [
  | inl is_x ↦ elim (Contains-cases _ (opened H) y hy.was_opened) [
    | inl is_y ↦ sym is_x ∙ is_y
    | inr before ↦ absurd (was_free H o order u y accepted (on_it x is_x hx y (held_before H o (OpenBatch order u) unit y hy before)))
  ]
  | inr before ↦ elim (Contains-cases _ (opened H) y hy.was_opened) [
    | inl is_y ↦ absurd (was_free H o order u x accepted (on_it y is_y hy x (held_before H o (OpenBatch order u) unit x hx before)))
    | inr too ↦ ih x y (held_before H o (OpenBatch order u) unit x hx before) (held_before H o (OpenBatch order u) unit y hy too)
  ]
]
  where
    -- what holds the unit holds the one of the batch that is opened now
    on_it : (now : OpenedBatch) → record { owner = o; order = order; number = count_opened (acts o H) order + 1; unit = u } ≡ now → HoldsUnit (by o (OpenBatch order u) ∷ H) unit now → (old : OpenedBatch) → HoldsUnit H unit old → HoldsUnit H u old
    on_it now is holds old held = subst (λ w. HoldsUnit H w old) (sym (ap (λ (b : OpenedBatch). b.unit) is ∙ holds.on)) held
one_holder_step H o a unit accepted ih x y hx hy = ih x y (held_before H o a unit x hx hx.was_opened) (held_before H o a unit y hy hy.was_opened)

pub one_holds : (H : History) → IsLawful H → (unit : Bytes) (a b : OpenedBatch) → HoldsUnit H unit a → HoldsUnit H unit b → a ≡ b
one_holds [] lawful unit a b ha hb = absurd (Contains-none a ha.was_opened)
one_holds (c ∷ H) lawful unit a b ha hb = one_holder_step H c.owner c.action unit lawful.2 (one_holds H lawful.0 unit) a b ha hb

-- the batch that holds the unit is the one that the history names
pub holder_is : (H : History) → IsLawful H → (unit : Bytes) (b : OpenedBatch) → HoldsUnit H unit b → holder H unit ≡ Some b
unfolding holder
holder_is H lawful unit b holds =
    elim (find (is_held H unit) (opened H)) as (λ x. find (is_held H unit) (opened H) ≡ x → is_some x ≡ true → x ≡ Some b) [
      | Some named ↦ λ found some. let there = find_member (is_held H unit) (opened H) named found in
          ap (λ x. Some x) (one_holds H lawful unit named b (passes_held H unit named there.0 there.1) holds)
      | None ↦ λ none some. absurd (false≢true some)
    ] refl (holder_there H unit b holds)

-- where none holds it, it names none
pub no_holder_is : (H : History) (unit : Bytes) → ((b : OpenedBatch) → HoldsUnit H unit b → ⊥) → holder H unit ≡ None
unfolding holder
no_holder_is H unit none =
    elim (find (is_held H unit) (opened H)) as (λ x. find (is_held H unit) (opened H) ≡ x → x ≡ None) [
      | Some named ↦ λ found. let there = find_member (is_held H unit) (opened H) named found in absurd (none named (passes_held H unit named there.0 there.1))
      | None ↦ λ is. refl
    ] refl
