-- The batch that holds a unit, in a content and in the history that it stands for.
use Rattle.std.proofs.Common.{◌≡◌, ◌⊎◌, ℕ, ◌+◌, ◌≤◌, Bool, true, false, not, ◌&&◌, ◌==◌, cond, Option, Some, None, is_some, List, [], ◌∷◌, ◌++◌, refl, sym, ap, subst, ◌∙◌, inl, inr, arith}
use Rattle.toll_desk.proofs.Common.{false≢true, option_map, not-true, nat_tests, Bytes, same_bytes, is_some_where, none_or, or_else, row_at, batch_at, Action, OpenBatch, Command, History, acts, owner_known, opens, count_opened, unit_opened, unit_of, is_closed, batch_of, OpenedBatch, opened_by, opened, holder, OwnerFacts, facts_of, facts_given, IsLawful, acts-own, acts-other, both, and_is, same_bytes-exact, same_bytes-refl, nat_eq-exact, Contains-none, Contains-here, Contains-cases, Content, is_on, IsHolder}
use Rattle.std.specs.Prelude.{Contains, if◌then◌else◌}
use Rattle.std.proofs.lemmas.List.Elements.{Contains-append_left, Contains-append_right, Contains-append_cases}
use Rattle.toll_keep.specs.declared.holder.Holder.{Holder}
use Rattle.toll_desk.specs.Occupied.{HoldsUnit, on_unit}
use Rattle.toll_desk.specs.Representing.{Represents}
use Rattle.toll_desk.proofs.OneHolder.{holder_is, no_holder_is}
use Rattle.toll_desk.proofs.Unknown.{acts_of_unknown}

-- a batch with its unit
abbrev batch_on_unit : (owner order : Bytes) (number : ℕ) (unit : Bytes) → OpenedBatch
batch_on_unit owner order number unit = record { owner = owner; order = order; number = number; unit = unit }

-- ---- a batch with a unit was opened

opened_now : (H : History) (o order : Bytes) (number : ℕ) (unit : Bytes) (a : Action) → or_else (if opens order a && count_opened (acts o H) order + 1 == number then unit_opened a else None) (unit_of (acts o H) order number) ≡ Some unit → Contains (opened_by H o a) (batch_on_unit o order number unit) ⊎ (unit_of (acts o H) order number ≡ Some unit)
opened_now H o order number unit (OpenBatch p u) h =
    elim (same_bytes p order && count_opened (acts o H) order + 1 == number) as (λ b. (same_bytes p order && count_opened (acts o H) order + 1 == number) ≡ b → or_else (cond b (Some u) None) (unit_of (acts o H) order number) ≡ Some unit → Contains (opened_by H o (OpenBatch p u)) (batch_on_unit o order number unit) ⊎ (unit_of (acts o H) order number ≡ Some unit)) [
      | true ↦ λ is some.
          let parts = both (same_bytes p order) (count_opened (acts o H) order + 1 == number) is in
          let orders : p ≡ order = same_bytes-exact p order parts.0 in
          let numbers : count_opened (acts o H) p + 1 ≡ number = ap (λ q. count_opened (acts o H) q + 1) orders ∙ nat_eq-exact _ _ parts.1 in
          let units : u ≡ unit = cc in
          let same : batch_on_unit o p (count_opened (acts o H) p + 1) u ≡ batch_on_unit o order number unit = λ i. batch_on_unit o (orders i) (numbers i) (units i) in
          inl (subst (Contains (opened_by H o (OpenBatch p u))) same (Contains-here _ []))
      | false ↦ λ is some. inr some
    ] refl h
opened_now H o order number unit _ h = inr h

was_opened : (H : History) (o order : Bytes) (number : ℕ) (unit : Bytes) → unit_of (acts o H) order number ≡ Some unit → Contains (opened H) (batch_on_unit o order number unit)
unfolding acts
was_opened [] o order number unit h = absurd (false≢true (ap is_some h))
was_opened (c ∷ H) o order number unit h =
    elim (same_bytes c.owner o) as (λ b. same_bytes c.owner o ≡ b → Contains (opened_by H c.owner c.action ++ opened H) (batch_on_unit o order number unit)) [
      | true ↦ λ own.
          let h' = subst (λ acts. unit_of acts order number ≡ Some unit) (acts-own o c H own) h in
          elim (opened_now H o order number unit c.action h') [
            | inl now ↦ Contains-append_left (opened_by H c.owner c.action) (opened H) _ (subst (λ p. Contains (opened_by H p c.action) (batch_on_unit o order number unit)) (sym (same_bytes-exact c.owner o own)) now)
            | inr before ↦ Contains-append_right (opened_by H c.owner c.action) (opened H) _ (was_opened H o order number unit before)
          ]
      | false ↦ λ other. Contains-append_right (opened_by H c.owner c.action) (opened H) _ (was_opened H o order number unit (subst (λ acts. unit_of acts order number ≡ Some unit) (acts-other o c H other) h))
    ] refl

-- ---- a batch that was opened has its unit

-- it has its unit, and its number is not above how many were opened
record HasUnit (own : List Action) (b : OpenedBatch) : Type 0 where
  unit : unit_of own b.order b.number ≡ Some b.unit
  number : b.number ≤ count_opened own b.order

opens_it : (own : List Action) (order unit : Bytes) (o : Bytes) → HasUnit (OpenBatch order unit ∷ own) (batch_on_unit o order (count_opened own order + 1) unit)
opens_it own order unit o =
    let same : same_bytes order order ≡ true = same_bytes-refl order in
    let next : (count_opened own order + 1 == count_opened own order + 1) ≡ true = grind (arith, nat_tests) in
    record {
      unit = rw same (rw next refl);
      number = rw same (omega arith);
    }

numbered_before : (first : Bool) (n number : ℕ) → number ≤ n → (first && n + 1 == number) ≡ false
numbered_before true n number le = grind (arith, nat_tests)
numbered_before false n number le = refl

still_has_unit : (a : Action) (own : List Action) (b : OpenedBatch) → HasUnit own b → HasUnit (a ∷ own) b
still_has_unit a own b has =
    let over : (opens b.order a && count_opened own b.order + 1 == b.number) ≡ false = numbered_before (opens b.order a) (count_opened own b.order) b.number has.number in
    record {
      unit = rw over has.unit;
      number = (let le = has.number in omega arith);
    }

has_now : (H : History) (c : Command) (a : Action) (b : OpenedBatch) → c.action ≡ a → Contains (opened_by H c.owner a) b → HasUnit (acts b.owner (c ∷ H)) b
has_now H c (OpenBatch order unit) b is there = elim (Contains-cases _ [] b there) [
  | inl same ↦
      subst (λ (it : OpenedBatch). HasUnit (acts it.owner (c ∷ H)) it) same
      (subst (λ own. HasUnit own (batch_on_unit c.owner order (count_opened (acts c.owner H) order + 1) unit)) (sym (acts-own c.owner c H (same_bytes-refl c.owner) ∙ ap (λ a. a ∷ acts c.owner H) is))
      (opens_it (acts c.owner H) order unit c.owner))
  | inr none ↦ absurd (Contains-none b none)
]
has_now H c _ b is there = absurd (Contains-none b there)

opened_has : (H : History) (b : OpenedBatch) → Contains (opened H) b → HasUnit (acts b.owner H) b
opened_has [] b there = absurd (Contains-none b there)
opened_has (c ∷ H) b there = elim (Contains-append_cases (opened_by H c.owner c.action) (opened H) b there) [
  | inl now ↦ has_now H c c.action b refl now
  | inr before ↦
      let has = opened_has H b before in
      elim (same_bytes c.owner b.owner) as (λ own. same_bytes c.owner b.owner ≡ own → HasUnit (acts b.owner (c ∷ H)) b) [
        | true ↦ λ own. subst (λ acts. HasUnit acts b) (sym (acts-own b.owner c H own)) (still_has_unit c.action (acts b.owner H) b has)
        | false ↦ λ other. subst (λ acts. HasUnit acts b) (sym (acts-other b.owner c H other)) has
      ] refl
]

-- ---- in a content and in its history

-- a known owner's batch, and an unknown owner's
batch_given : (H : History) (c : Content) → Represents c H → (o : Bytes) (k : Bytes × ℕ) → owner_known H o ≡ true → batch_at (c.rows o) k ≡ batch_of (acts o H) k
batch_given H c stands o k known =
    let rows : facts_of (c.rows o) ≡ facts_given H o = stands.known o known ∙ ap (facts_given H) (stands.own o) in
    ap (λ (t : OwnerFacts). t.batch k) rows

no_batch_of_unknown : (H : History) (c : Content) → Represents c H → (o : Bytes) (k : Bytes × ℕ) → owner_known H o ≡ false → batch_at (c.rows o) k ≡ None
unfolding row_at
no_batch_of_unknown H c stands o k unknown = ap (λ s. batch_at s k) (stands.unknown o unknown)

mapped_where : {X Y : Type 0} (p : Y → Bool) (f : X → Y) (x : Option X) → is_some_where p (option_map f x) ≡ true → (v : X) × (x ≡ Some v) × (p (f v) ≡ true)
mapped_where p f None h = absurd (false≢true h)
mapped_where p f (Some v) h = (v, refl, h)

-- a batch that holds the unit in the content holds it in the history
holds_given : (H : History) (c : Content) (unit : Bytes) (h : Holder) → Represents c H → IsHolder c unit (Some h) → HoldsUnit H unit (on_unit unit h)
holds_given H c unit h stands is =
    elim (owner_known H h.owner) as (λ b. owner_known H h.owner ≡ b → HoldsUnit H unit (on_unit unit h)) [
      | true ↦ λ known.
          let found = mapped_where (is_on unit) _ (unit_of (acts h.owner H) h.order h.number) (ap (is_some_where (is_on unit)) (sym (batch_given H c stands h.owner (h.order, h.number) known)) ∙ is) in
          let parts = both (same_bytes found.0 unit) (not (is_closed (acts h.owner H) h.order h.number)) found.2 in
          record {
            was_opened = was_opened H h.owner h.order h.number unit (found.1 ∙ ap (λ u. Some u) (same_bytes-exact found.0 unit parts.0));
            on = refl;
            not_closed = not-true _ parts.1;
          }
      | false ↦ λ unknown. absurd (false≢true (ap (is_some_where (is_on unit)) (sym (no_batch_of_unknown H c stands h.owner (h.order, h.number) unknown)) ∙ is))
    ] refl

-- the owner of a batch that was opened is known
opener_known : (H : History) → IsLawful H → (b : OpenedBatch) → HasUnit (acts b.owner H) b → owner_known H b.owner ≡ true
opener_known H lawful b has =
    elim (owner_known H b.owner) as (λ k. owner_known H b.owner ≡ k → k ≡ true) [
      | true ↦ λ known. refl
      | false ↦ λ unknown. absurd (false≢true (ap is_some (subst (λ own. HasUnit own b) (acts_of_unknown b.owner H lawful unknown) has).unit))
    ] refl

-- and one that holds it in the history holds it in the content
none_holds : (H : History) (c : Content) (unit : Bytes) → IsLawful H → Represents c H → IsHolder c unit None → (b : OpenedBatch) → HoldsUnit H unit b → ⊥
none_holds H c unit lawful stands none b holds =
    let has = opened_has H b holds.was_opened in
    let at = batch_given H c stands b.owner (b.order, b.number) (opener_known H lawful b has) ∙ ap (option_map _) has.unit in
    let on : (same_bytes b.unit unit && not (is_closed (acts b.owner H) b.order b.number)) ≡ true = and_is _ _ (ap (λ u. same_bytes u unit) holds.on ∙ same_bytes-refl unit) (ap not holds.not_closed) in
    false≢true (ap not (sym on) ∙ ap (none_or (λ row. not (is_on unit row))) (sym at) ∙ none b.owner (b.order, b.number))

pub same_holder : (H : History) (c : Content) (unit : Bytes) (answer : Option Holder) → IsLawful H → Represents c H → IsHolder c unit answer → holder H unit ≡ option_map (on_unit unit) answer
same_holder H c unit (Some h) lawful stands is = holder_is H lawful unit (on_unit unit h) (holds_given H c unit h stands is)
same_holder H c unit None lawful stands none = no_holder_is H unit (none_holds H c unit lawful stands none)
