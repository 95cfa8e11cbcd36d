-- Several graphs, walked one after another at each level.
use Rattle.std.proofs.Common.{◌≡◌, ◌≢◌, ◌⊎◌, ℕ, zero, suc, ◌+◌, ◌<◌, ◌≤◌, Bool, true, false, List, [], ◌∷◌, ◌++◌, map, length, get_or, set, replicate, refl, sym, ap, ap₂, ◌∙◌, subst, inl, inr, arith, Contains}
use Rattle.std.proofs.Math.Seq.{map-set_same}
use Rattle.toll_trace.proofs.Common.{flat_map, cases_eq, Contains-append_left, Contains-append_right, Contains-append_cases, IsStrictlySortedBy, LotId, lot_cmp, get_or-set_same, get_or-set_other, get_or_default, length-set, length-replicate, Contains-get_or, EdgeIndex, Part, Step, IsInOrder, AreAllNumbers, AreBelow, IsNumber, step_at, is_found, lots_of, AreFaced, AreLedTo, IsFaced, IsLedOn, IsStepped, IsWalked, LeadThrough, all_steps, is_marked}
use Rattle.toll_trace.specs.Leads.{IsIndexedStep}
use Rattle.toll_trace.proofs.Levels.{lot_is_found, level_found_lot, lots_more}
use Rattle.toll_trace.proofs.Members.{Contains-none, Contains-map, Contains-from_map, Contains-flat_map, kept_in_order}
use Rattle.toll_trace.proofs.Numbering.{listed_number, one_lot_numbered, one_number, some_lot}
use Rattle.toll_trace.proofs.Orders.{lots_exact}
use Rattle.toll_trace.proofs.Walks.{walked_nothing}

-- ==== the known lots once the front is added

pub record IsGrown (known grown : LotId → Bool) (front : List LotId) : Type 0 where
  pub kept : (b : LotId) → known b ≡ true → grown b ≡ true
  pub added : (b : LotId) → Contains front b → grown b ≡ true
  pub only : (b : LotId) → grown b ≡ true → (known b ≡ true) ⊎ Contains front b

pub grown_found : (found : List Step) (k : ℕ) (front : List LotId) → IsGrown (is_found found) (is_found (found ++ map (step_at k) front)) front
grown_found found k front = record {
  kept = λ b h. lot_is_found more b (subst (λ l. Contains l b) (sym all) (Contains-append_left (lots_of found) front b (level_found_lot found b h)));
  added = λ b i. lot_is_found more b (subst (λ l. Contains l b) (sym all) (Contains-append_right (lots_of found) front b i));
  only = λ b h. elim (Contains-append_cases (lots_of found) front b (subst (λ l. Contains l b) all (level_found_lot more b h))) [ inl i ↦ inl (lot_is_found found b i) | inr i ↦ inr i ];
}
  where
    more : List Step
    more = found ++ map (step_at k) front

    all : lots_of more ≡ lots_of found ++ front
    all = lots_more found k front

-- ==== one part

pub same_test : (s t : Bool) → (s ≡ true → t ≡ true) → (t ≡ true → s ≡ true) → s ≡ t
same_test true t f g = sym (f refl)
same_test false true f g = g refl
same_test false false f g = refl

unmarked : (n k : ℕ) → is_marked (replicate n false) k ≡ false
unmarked zero k = refl
unmarked (suc n) zero = refl
unmarked (suc n) (suc k) = unmarked n k

-- A part in which nothing is found yet.
pub new_part : (part : Part) (from : LotId) → IsStrictlySortedBy lot_cmp part.lots.now → AreBelow (length part.lots.now) part.joints.now.targets.items → part.marks.items ≡ replicate (length part.lots.now) false → length part.lows.items ≡ length part.joints.now.targets.items + 1 → ((end : ℕ) → end < length part.joints.now.targets.items + 1 → get_or part.lows.items end 0 ≡ end) → AreAllNumbers part.lots.now (from ∷ []) part.front.items → IsWalked (is_found []) (from ∷ []) part
new_part part from sorted targets marks sized at faces = record {
  stepped = record {
    sound = record {
      sorted = sorted;
      targets = targets;
      front = λ n i. (faces.only n i).1.0;
      marks = ap length marks ∙ length-replicate (length part.lots.now) false;
      lows = sized;
    };
    marked = λ n lot number. ap (λ ms. is_marked ms n) marks ∙ unmarked (length part.lots.now) n;
    walked = walked_nothing part.joints.now.targets.items (is_marked part.marks.items) part.lows.items part.front.items sized at;
  };
  faces = faces;
}

module _ (known grown : LotId → Bool) (front : List LotId) (grow : IsGrown known grown front) (old new : Part) (before lots : List LotId) (was : IsWalked known front old) (led : IsLedOn old new before lots) where
  old_number : (n : ℕ) (lot : LotId) → IsNumber new.lots.now n lot → IsNumber old.lots.now n lot
  old_number n lot at = subst (λ ls. IsNumber ls n lot) led.same_lots at

  marked : (n : ℕ) (lot : LotId) → IsNumber new.lots.now n lot → is_marked new.marks.items n ≡ grown lot
  marked n lot at = same_test (is_marked new.marks.items n) (grown lot)
      (λ h. elim (led.marked.only n h) [
        | inl h ↦ grow.kept lot (sym (was.stepped.marked n lot (old_number n lot at)) ∙ h)
        | inr i ↦ let r = was.faces.only n i in grow.added lot (subst (λ l. Contains front l) (one_lot_numbered old.lots.now n r.0 lot r.1 (old_number n lot at)) r.2)
      ])
      (λ h. elim (grow.only lot h) [
        | inl k ↦ led.marked.kept n (was.stepped.marked n lot (old_number n lot at) ∙ k)
        | inr i ↦ led.marked.added n (was.faces.every lot n i (old_number n lot at))
      ])

  pub part_stepped : IsStepped grown new
  part_stepped = record { sound = led.sound; marked = marked; walked = led.led.walked }

  pub part_only : (b : LotId) → Contains lots b → Contains before b ⊎ ((grown b ≡ false) × ((a : LotId) × Contains front a × IsIndexedStep new.lots.now new.joints.now a b))
  part_only b i = elim (led.added.only b i) [
    | inl j ↦ inl j
    | inr r ↦
        let on = led.led.only r.0 r.1 in
        let a = was.faces.only on.1.0 on.1.1 in
        inr (sym (marked r.0 b r.2) ∙ on.0, (a.0, a.2, (on.1.0, r.0, subst (λ ls. IsNumber ls on.1.0 a.0) (sym led.same_lots) a.1, r.2, on.1.2)))
  ]

  pub part_every : (a b : LotId) → Contains front a → IsIndexedStep new.lots.now new.joints.now a b → (grown b ≡ true) ⊎ Contains lots b
  part_every a b i (m, n, at_m, at_n, through) = elim (led.led.every m n (was.faces.every a m i (old_number m a at_m)) through) [
    | inl h ↦ inl (sym (marked n b at_n) ∙ h)
    | inr j ↦ inr (led.added.every n b j at_n)
  ]

-- ==== the first parts

-- The first i parts have led to these lots, and the others are unchanged.
pub record AreLedSoFar (known grown : LotId → Bool) (front : List LotId) (old now : List Part) (i : ℕ) (lots : List LotId) : Type 0 where
  pub all : all_steps now ≡ all_steps old
  pub waiting : (k : ℕ) (d : Part) → i ≤ k → k < length now → IsWalked known front (get_or now k d)
  pub stepped : (k : ℕ) (d : Part) → k < i → k < length now → IsStepped grown (get_or now k d)
  pub listed : (k : ℕ) (d : Part) → k < i → k < length now → (n : ℕ) (b : LotId) → Contains (get_or now k d).front.items n → IsNumber (get_or now k d).lots.now n b → Contains lots b
  pub only : (b : LotId) → Contains lots b → (grown b ≡ false) × ((a : LotId) × Contains front a × LeadThrough (all_steps old) a b)
  pub every : (k : ℕ) (d : Part) → k < i → k < length now → (a b : LotId) → Contains front a → IsIndexedStep (get_or now k d).lots.now (get_or now k d).joints.now a b → (grown b ≡ true) ⊎ Contains lots b
  pub placed : (b : LotId) → Contains lots b → (k : ℕ) × (n : ℕ) × (k < i) × (k < length now) × ((d : Part) → Contains (get_or now k d).front.items n × IsNumber (get_or now k d).lots.now n b)

pub parts_none : (known grown : LotId → Bool) (front : List LotId) (parts : List Part) → ((part : Part) → Contains parts part → IsWalked known front part) → AreLedSoFar known grown front parts parts 0 []
parts_none known grown front parts walked = record {
  all = refl;
  waiting = λ k d le lt. walked (get_or parts k d) (Contains-get_or parts k d lt);
  stepped = λ k d none lt. absurd (omega arith);
  listed = λ k d none lt. absurd (omega arith);
  only = λ b i. absurd (Contains-none b i);
  every = λ k d none lt. absurd (omega arith);
  placed = λ b i. absurd (Contains-none b i);
}

module _ (known grown : LotId → Bool) (front : List LotId) (grow : IsGrown known grown front) (old now : List Part) (i : ℕ) (before lots : List LotId) (part : Part) (sofar : AreLedSoFar known grown front old now i before) (lt : i < length now) (led : IsLedOn (get_or now i part) part before lots) where
  was : IsWalked known front (get_or now i part)
  was = sofar.waiting i part (omega arith) lt

  part_at : (k : ℕ) (d : Part) → k ≡ i → get_or (set now i part) k d ≡ part
  part_at k d e = ap (λ n. get_or (set now i part) n d) e ∙ get_or-set_same now i part d lt

  part_other : (k : ℕ) (d : Part) → k ≢ i → get_or (set now i part) k d ≡ get_or now k d
  part_other k d ne = get_or-set_other now i k part d ne

  part_room : (k : ℕ) → k < length (set now i part) → k < length now
  part_room k below = let l = length-set now i part in omega arith

  part_same : ◌≡◌ {A = List LotId × EdgeIndex} (part.lots.now, part.joints.now) ((get_or now i part).lots.now, (get_or now i part).joints.now)
  part_same = ap₂ {C = List LotId × EdgeIndex} (λ l j. (l, j)) led.same_lots led.same_joints

  all : all_steps (set now i part) ≡ all_steps old
  all = map-set_same (λ (p : Part). (p.lots.now, p.joints.now)) now i part part part_same ∙ sofar.all

  its_own : Contains (all_steps old) (part.lots.now, part.joints.now)
  its_own = subst (λ s. Contains s (part.lots.now, part.joints.now)) sofar.all (subst (λ o. Contains (all_steps now) o) (sym part_same) (Contains-map (λ (p : Part). (p.lots.now, p.joints.now)) now (get_or now i part) (Contains-get_or now i part lt)))

  pub parts_more : AreLedSoFar known grown front old (set now i part) (i + 1) lots
  parts_more = record {
    all = all;
    waiting = λ k d le below. subst (λ p. IsWalked known front p) (sym (part_other k d (λ e. omega arith))) (sofar.waiting k d (omega arith) (part_room k below));
    stepped = λ k d le below. elim (cases_eq k i) [
      | inl e ↦ subst (λ p. IsStepped grown p) (sym (part_at k d e)) (part_stepped known grown front grow (get_or now i part) part before lots was led)
      | inr ne ↦ let less : k < i = omega arith in subst (λ p. IsStepped grown p) (sym (part_other k d ne)) (sofar.stepped k d less (part_room k below))
    ];
    listed = λ k d le below n b j number. elim (cases_eq k i) [
      | inl e ↦ led.added.every n b (subst (λ (p : Part). Contains p.front.items n) (part_at k d e) j) (subst (λ (p : Part). IsNumber p.lots.now n b) (part_at k d e) number)
      | inr ne ↦ let less : k < i = omega arith in led.added.kept b (sofar.listed k d less (part_room k below) n b (subst (λ (p : Part). Contains p.front.items n) (part_other k d ne) j) (subst (λ (p : Part). IsNumber p.lots.now n b) (part_other k d ne) number))
    ];
    only = λ b j. elim (part_only known grown front grow (get_or now i part) part before lots was led b j) [
      | inl earlier ↦ sofar.only b earlier
      | inr r ↦ (r.0, (r.1.0, r.1.1, ((part.lots.now, part.joints.now), its_own, r.1.2)))
    ];
    every = λ k d le below a b j leads. elim (cases_eq k i) [
      | inl e ↦ part_every known grown front grow (get_or now i part) part before lots was led a b j (subst (λ (p : Part). IsIndexedStep p.lots.now p.joints.now a b) (part_at k d e) leads)
      | inr ne ↦ let less : k < i = omega arith in elim (sofar.every k d less (part_room k below) a b j (subst (λ (p : Part). IsIndexedStep p.lots.now p.joints.now a b) (part_other k d ne) leads)) [ inl h ↦ inl h | inr h ↦ inr (led.added.kept b h) ]
    ];
    placed = λ b j. elim (led.added.only b j) [
      | inl earlier ↦
          let r = sofar.placed b earlier in
          let below = r.2 in
          (r.0, r.1, omega arith, (let l = length-set now i part in let in_now = r.3 in omega arith), λ d. subst (λ (p : Part). Contains p.front.items r.1 × IsNumber p.lots.now r.1 b) (sym (part_other r.0 d (λ e. omega arith))) (r.4 d))
      | inr r ↦ (i, r.0, omega arith, (let l = length-set now i part in omega arith), λ d. subst (λ (p : Part). Contains p.front.items r.0 × IsNumber p.lots.now r.0 b) (sym (part_at i d refl)) (r.1, r.2))
    ];
  }

-- ==== once all parts have led on

module _ (known grown : LotId → Bool) (front : List LotId) (old now : List Part) (i : ℕ) (lots sorted : List LotId) (past : length now ≤ i) (sofar : AreLedSoFar known grown front old now i lots) (order : IsInOrder lot_cmp lots sorted) where
  its_stepped : (part : Part) → Contains now part → IsStepped grown part
  its_stepped part c = subst (λ p. IsStepped grown p) c.2 (sofar.stepped c.0 part (let lt = c.1 in omega arith) c.1)

  its_lots : (part : Part) → Contains now part → (n : ℕ) (b : LotId) → Contains part.front.items n → IsNumber part.lots.now n b → Contains sorted b
  its_lots part c n b j number = kept_in_order lot_cmp lots_exact lots sorted order b (sofar.listed c.0 part (let lt = c.1 in omega arith) c.1 n b (subst (λ (p : Part). Contains p.front.items n) (sym c.2) j) (subst (λ (p : Part). IsNumber p.lots.now n b) (sym c.2) number))

  -- If there is only one part, all of these lots are at its front.
  pub alone_faces : length now ≡ 1 → (part : Part) → Contains now part → AreAllNumbers part.lots.now sorted part.front.items
  alone_faces one part c = record {
    only = λ n j. let r = some_lot part.lots.now n ((its_stepped part c).sound.front n j) in (r.0, r.1, its_lots part c n r.0 j r.1);
    every = λ b n j number. here b n number (sofar.placed b (order.none_new b j));
  }
    where
      here : (b : LotId) (n : ℕ) → IsNumber part.lots.now n b → (k : ℕ) × (m : ℕ) × (k < i) × (k < length now) × ((d : Part) → Contains (get_or now k d).front.items m × IsNumber (get_or now k d).lots.now m b) → Contains part.front.items n
      here b n number (k, m, below, in_now, placed) =
          let lt = c.1 in
          let zero_k : k ≡ c.0 = omega arith in
          let is : get_or now k part ≡ part = ap (λ j. get_or now j part) zero_k ∙ c.2 in
          let there = subst (λ (p : Part). Contains p.front.items m × IsNumber p.lots.now m b) is (placed part) in
          subst (λ j. Contains part.front.items j) (one_number part.lots.now (its_stepped part c).sound.sorted m n b there.1 number) there.0

  module _ (new : List Part) (part_same : all_steps new ≡ all_steps now) (faced : AreFaced sorted now new) where
    part_walked : (part : Part) → Contains new part → IsWalked grown sorted part
    part_walked part c = faced_walked (faced part c).0 (its_stepped (faced part c).0 (faced part c).1) (its_lots (faced part c).0 (faced part c).1) (faced part c).2
      where
        faced_walked : (before : Part) → IsStepped grown before → ((n : ℕ) (b : LotId) → Contains before.front.items n → IsNumber before.lots.now n b → Contains sorted b) → IsFaced sorted before part → IsWalked grown sorted part
        faced_walked before stepped listed faces = record {
          stepped = record {
            sound = record {
              sorted = rw faces.same_lots stepped.sound.sorted;
              targets = rw (faces.same_lots, faces.same_joints) stepped.sound.targets;
              front = λ n j. (faces.faces.only n j).1.0;
              marks = rw (faces.same_lots, faces.same_marks) stepped.sound.marks;
              lows = rw (faces.same_lows, faces.same_joints) stepped.sound.lows;
            };
            marked = λ n lot number. rw faces.same_marks (stepped.marked n lot (subst (λ ls. IsNumber ls n lot) faces.same_lots number));
            walked = record {
              low = rw faces.same_lows stepped.walked.low;
              known = λ end x le j. elim (stepped.walked.known end x (rw faces.same_joints at le) (rw (faces.same_joints, faces.same_lows) at j)) [
                | inl h ↦ inl (rw faces.same_marks h)
                | inr k ↦ inr (let r = some_lot before.lots.now x (stepped.sound.front x k) in faces.faces.every r.0 x (listed x r.0 k r.1) (subst (λ ls. IsNumber ls x r.0) (sym faces.same_lots) r.1))
              ];
            };
          };
          faces = faces.faces;
        }

    pub parts_all : AreLedTo grown front new sorted
    parts_all = record {
      walked = part_walked;
      only = λ b j. let r = sofar.only b (order.none_new b j) in (r.0, (r.1.0, r.1.1, subst (λ all. LeadThrough all r.1.0 b) (sym (part_same ∙ sofar.all)) r.1.2));
      every = λ a b j leads.
          let from = Contains-from_map (λ (p : Part). (p.lots.now, p.joints.now)) now leads.0 (subst (λ all. Contains all leads.0) part_same leads.1) in
          let c = from.1 in
          let through : IsIndexedStep (get_or now c.0 from.0).lots.now (get_or now c.0 from.0).joints.now a b = subst (λ (p : Part). IsIndexedStep p.lots.now p.joints.now a b) (sym c.2) (subst (λ (one : List LotId × EdgeIndex). IsIndexedStep one.0 one.1 a b) (sym from.2) leads.2) in
          elim (sofar.every c.0 from.0 (let lt = c.1 in omega arith) c.1 a b j through) [ inl h ↦ inl h | inr h ↦ inr (kept_in_order lot_cmp lots_exact lots sorted order b h) ];
      ordered = order.ordered;
    }

-- The lot that a step leads to is a lot of one of the parts.
pub out_of_all : (all : List (List LotId × EdgeIndex)) (a b : LotId) → LeadThrough all a b → Contains (flat_map (λ one. one.0) all) b
out_of_all all a b leads = let (m, n, at_m, at_n, through) = leads.2 in Contains-flat_map (λ (one : List LotId × EdgeIndex). one.0) all leads.0 b leads.1 (listed_number leads.0.0 n b at_n)

-- ==== fronts of parts

-- The first i parts have these lots at their fronts.
pub record AreFacedSoFar (lots : List LotId) (old now : List Part) (i : ℕ) : Type 0 where
  pub all : all_steps now ≡ all_steps old
  pub sized : length now ≡ length old
  pub faced : (k : ℕ) (d : Part) → k < i → k < length now → IsFaced lots (get_or old k d) (get_or now k d)
  pub waiting : (k : ℕ) (d : Part) → i ≤ k → k < length now → get_or now k d ≡ get_or old k d

pub faced_none : (lots : List LotId) (parts : List Part) → AreFacedSoFar lots parts parts 0
faced_none lots parts = record { all = refl; sized = refl; faced = λ k d none lt. absurd (omega arith); waiting = λ k d le lt. refl }

pub faced_more : (lots : List LotId) (old now : List Part) (i : ℕ) (part : Part) → i < length now → AreFacedSoFar lots old now i → IsFaced lots (get_or now i part) part → AreFacedSoFar lots old (set now i part) (i + 1)
faced_more lots old now i part lt sofar faced = record {
  all = map-set_same (λ (p : Part). (p.lots.now, p.joints.now)) now i part part part_same ∙ sofar.all;
  sized = length-set now i part ∙ sofar.sized;
  faced = λ k d le below. elim (cases_eq k i) [
    | inl e ↦ subst (λ p. IsFaced lots (get_or old k d) p) (sym (part_at k d e)) (subst (λ p. IsFaced lots p part) (before k d e) faced)
    | inr ne ↦ let less : k < i = omega arith in subst (λ p. IsFaced lots (get_or old k d) p) (sym (get_or-set_other now i k part d ne)) (sofar.faced k d less (let l = length-set now i part in omega arith))
  ];
  waiting = λ k d le below. get_or-set_other now i k part d (λ e. omega arith) ∙ sofar.waiting k d (omega arith) (let l = length-set now i part in omega arith);
}
  where
    part_same : ◌≡◌ {A = List LotId × EdgeIndex} (part.lots.now, part.joints.now) ((get_or now i part).lots.now, (get_or now i part).joints.now)
    part_same = ap₂ {C = List LotId × EdgeIndex} (λ l j. (l, j)) faced.same_lots faced.same_joints

    part_at : (k : ℕ) (d : Part) → k ≡ i → get_or (set now i part) k d ≡ part
    part_at k d e = ap (λ n. get_or (set now i part) n d) e ∙ get_or-set_same now i part d lt

    before : (k : ℕ) (d : Part) → k ≡ i → get_or now i part ≡ get_or old k d
    before k d e = get_or_default now i part d lt ∙ sofar.waiting i d (omega arith) lt ∙ ap (λ n. get_or old n d) (sym e)

pub faced_all : (lots : List LotId) (old now : List Part) (i : ℕ) → length now ≤ i → AreFacedSoFar lots old now i → AreFaced lots old now
faced_all lots old now i past sofar part (k, lt, e) = (get_or old k part, Contains-get_or old k part (let s = sofar.sized in omega arith), subst (λ p. IsFaced lots (get_or old k part) p) e (sofar.faced k part (omega arith) lt))

pub faced_alone : (lots : List LotId) (parts : List Part) → ((part : Part) → Contains parts part → AreAllNumbers part.lots.now lots part.front.items) → AreFaced lots parts parts
faced_alone lots parts faces part c = (part, c, record { same_lots = refl; same_joints = refl; same_marks = refl; same_lows = refl; faces = faces part c })
