-- The known lots while joints are walked.
use Rattle.std.proofs.Common.{◌≡◌, ◌≢◌, ◌⊎◌, ℕ, ◌+◌, ◌-◌, ◌<◌, ◌≤◌, Bool, true, false, not, List, [], ◌∷◌, ◌++◌, map, length, get_or, take, drop, set, refl, sym, ap, ◌∙◌, subst, inl, inr, arith, Contains, filter, slice_range}
use Rattle.toll_trace.proofs.Common.{flat_map, flat_map_more, is_eq, take_more, cases_eq, cases_lt, not-true, not_from_false, tied_itself, tells_apart, nat_cmp, nat_cmp_total, exact_unsigned, Contains-append_left, Contains-append_right, Contains-append_cases, LotId, length-take, length-drop, get_or-take, get_or-drop, get_or-set_same, get_or-set_other, get_or_past, Span, Step, leaving, LeadsThrough, step_at, is_found, IsLevel, lots_of, Part, IsInOrder, AreBelow, AreWalked, AreEntered, AreLedOn, AreLedTo, LeadThrough, all_steps}
use Rattle.toll_trace.proofs.Levels.{level_found_lot, not_found_lot, lots_more}
use Rattle.toll_trace.proofs.Members.{Contains-none, Contains-here, Contains-cases, Contains-filter, Contains-from_filter, Contains-flat_map, Contains-from_flat_map, kept_in_order}

-- ==== the items between two places

pub at_from_range : {X : Type 0} (xs : List X) (i j : ℕ) (x : X) → Contains (slice_range xs i j) x → (k : ℕ) × (i ≤ k) × (k < j) × (k < length xs) × (get_or xs k x ≡ x)
at_from_range xs i j x (k, lt, e) =
    let n = length-take (j - i) (drop i xs) in
    let m = length-drop i xs in
    let lt' : k < j - i = omega arith in
    (i + k, omega arith, omega arith, omega arith, sym (get_or-drop i xs k x) ∙ sym (get_or-take (j - i) (drop i xs) k x lt') ∙ e)

pub range_from_at : {X : Type 0} (xs : List X) (i j k : ℕ) (x : X) → i ≤ k → k < j → k < length xs → get_or xs k x ≡ x → Contains (slice_range xs i j) x
range_from_at xs i j k x le lt in_xs e =
    let n = length-take (j - i) (drop i xs) in
    let m = length-drop i xs in
    let lt' : k - i < j - i = omega arith in
    let same : i + (k - i) ≡ k = omega arith in
    (k - i, omega arith, get_or-take (j - i) (drop i xs) (k - i) x lt' ∙ get_or-drop i xs (k - i) x ∙ ap (λ p. get_or xs p x) same ∙ e)

-- ==== spans entered

known_more : {X : Type 0} (is_old : X → Bool) (lots more : List X) (x : X) → (is_old x ≡ true) ⊎ Contains lots x → (is_old x ≡ true) ⊎ Contains (lots ++ more) x
known_more is_old lots more x (inl h) = inl h
known_more is_old lots more x (inr i) = inr (Contains-append_left lots more x i)

pub item_of : {X : Type 0} (xs : List X) (i : ℕ) (x : X) → i < length xs → x ≡ get_or xs i x → Contains xs x
item_of xs i x lt is = (i, lt, sym is)

pub with_item : {X : Type 0} (xs : List X) (i : ℕ) (x : X) → i < length xs → x ≡ get_or xs i x → take (i + 1) xs ≡ take i xs ++ x ∷ []
with_item xs i x lt is = take_more xs i x lt ∙ ap (λ y. take i xs ++ y ∷ []) (sym is)

pub range_below : (count : ℕ) (targets : List ℕ) (i j : ℕ) → AreBelow count targets → AreBelow count (slice_range targets i j)
range_below count targets i j below n c = let (k, ge, lt, in_exits, e) = at_from_range targets i j n c in below n (k, in_exits, e)

module _ {K X : Type 0} (targets : List X) (is_old : X → Bool) where
  -- a span of which all joints were walked
  pub entered_again : (done : List (K × Span)) (entry : K × Span) (lows : List ℕ) (before lots : List X) → entry.1.end ≤ length targets → get_or lows entry.1.end 0 ≤ entry.1.start → AreEntered targets is_old done lows before lots → AreEntered targets is_old (done ++ entry ∷ []) lows before lots
  entered_again done entry lows before lots within walked_to old = record {
    walked = old.walked;
    kept = old.kept;
    only = λ x i. elim (old.only x i) [ inl j ↦ inl j | inr j ↦ inr (j.0, (j.1.0, Contains-append_left done (entry ∷ []) j.1.0 j.1.1, j.1.2)) ];
    every = λ e x i j. elim (Contains-append_cases done (entry ∷ []) e i) [
      | inl i ↦ old.every e x i j
      | inr i ↦ elim (Contains-cases entry [] e i) [
        | inl same ↦ this x (subst (λ (z : K × Span). Contains (leaving targets z.1) x) (sym same) j)
        | inr none ↦ absurd (Contains-none e none)
      ]
    ];
  }
    where
      this : (x : X) → Contains (leaving targets entry.1) x → (is_old x ≡ true) ⊎ Contains lots x
      this x j = let (k, ge, lt, in_exits, e) = at_from_range targets entry.1.start entry.1.end x j in old.walked.known entry.1.end x within (range_from_at targets (get_or lows entry.1.end 0) entry.1.end k x (omega arith) lt in_exits e)

  -- a span of which the joints before the low are walked now
  pub entered_more : (done : List (K × Span)) (entry : K × Span) (lows : List ℕ) (before lots : List X) → entry.1.end ≤ length targets → length lows ≡ length targets + 1 → entry.1.start < get_or lows entry.1.end 0 → AreEntered targets is_old done lows before lots → AreEntered targets is_old (done ++ entry ∷ []) (set lows entry.1.end entry.1.start) before (lots ++ filter (λ x. not (is_old x)) (slice_range targets entry.1.start (get_or lows entry.1.end 0)))
  entered_more done entry lows before lots within sized below old = record {
    walked = record { low = low; known = known };
    kept = λ x i. Contains-append_left lots fresh x (old.kept x i);
    only = only;
    every = every;
  }
    where
      start : ℕ
      start = entry.1.start

      end : ℕ
      end = entry.1.end

      fresh : List X
      fresh = filter (λ x. not (is_old x)) (slice_range targets start (get_or lows end 0))

      lows' : List ℕ
      lows' = set lows end start

      new : (x : X) (b : Bool) → is_old x ≡ b → Contains (slice_range targets start (get_or lows end 0)) x → (is_old x ≡ true) ⊎ Contains (lots ++ fresh) x
      new x true e i = inl e
      new x false e i = inr (Contains-append_right lots fresh x (Contains-filter (λ x. not (is_old x)) (slice_range targets start (get_or lows end 0)) x i (not_from_false _ e)))

      this : (x : X) → Contains (slice_range targets start end) x → (is_old x ≡ true) ⊎ Contains (lots ++ fresh) x
      this x j =
          let (k, ge, lt, in_exits, e) = at_from_range targets start end x j in
          elim (cases_lt k (get_or lows end 0)) [
            | inl now ↦ new x (is_old x) refl (range_from_at targets start (get_or lows end 0) k x ge now in_exits e)
            | inr earlier ↦ known_more is_old lots fresh x (old.walked.known end x within (range_from_at targets (get_or lows end 0) end k x earlier lt in_exits e))
          ]

      at_end : (n : ℕ) → n ≡ end → get_or lows' n 0 ≡ start
      at_end n e = let lt : end < length lows = omega arith in ap (λ p. get_or lows' p 0) e ∙ get_or-set_same lows end start 0 lt

      at_other : (n : ℕ) → n ≢ end → get_or lows' n 0 ≡ get_or lows n 0
      at_other n ne = get_or-set_other lows end n start 0 ne

      low : (n : ℕ) → get_or lows' n 0 ≤ n
      low n = elim (cases_eq n end) [
        | inl e ↦ let at = at_end n e in let le = old.walked.low end in omega arith
        | inr ne ↦ let at = at_other n ne in let le = old.walked.low n in omega arith
      ]

      known : (n : ℕ) (x : X) → n ≤ length targets → Contains (slice_range targets (get_or lows' n 0) n) x → (is_old x ≡ true) ⊎ Contains (lots ++ fresh) x
      known n x le i = elim (cases_eq n end) [
        | inl e ↦ this x (subst (λ (p : ℕ). Contains (slice_range targets start p) x) e (subst (λ (p : ℕ). Contains (slice_range targets p n) x) (at_end n e) i))
        | inr ne ↦ known_more is_old lots fresh x (old.walked.known n x le (subst (λ (p : ℕ). Contains (slice_range targets p n) x) (at_other n ne) i))
      ]

      only : (x : X) → Contains (lots ++ fresh) x → Contains before x ⊎ ((is_old x ≡ false) × ((e : K × Span) × Contains (done ++ entry ∷ []) e × Contains (leaving targets e.1) x))
      only x i = elim (Contains-append_cases lots fresh x i) [
        | inl i ↦ elim (old.only x i) [ inl j ↦ inl j | inr j ↦ inr (j.0, (j.1.0, Contains-append_left done (entry ∷ []) j.1.0 j.1.1, j.1.2)) ]
        | inr i ↦
            let r = Contains-from_filter (λ x. not (is_old x)) (slice_range targets start (get_or lows end 0)) x i in
            let (k, ge, lt, in_exits, e) = at_from_range targets start (get_or lows end 0) x r.0 in
            let le = old.walked.low end in
            inr (not-true _ r.1, (entry, Contains-append_right done (entry ∷ []) entry (Contains-here entry []), range_from_at targets start end k x ge (omega arith) in_exits e))
      ]

      every : (e : K × Span) (x : X) → Contains (done ++ entry ∷ []) e → Contains (leaving targets e.1) x → (is_old x ≡ true) ⊎ Contains (lots ++ fresh) x
      every e x i j = elim (Contains-append_cases done (entry ∷ []) e i) [
        | inl i ↦ known_more is_old lots fresh x (old.every e x i j)
        | inr i ↦ elim (Contains-cases entry [] e i) [
          | inl same ↦ this x (subst (λ (z : K × Span). Contains (leaving targets z.1) x) (sym same) j)
          | inr none ↦ absurd (Contains-none e none)
        ]
      ]

  -- the spans of two lists, one after the other
  pub entered_both : (one two : List (K × Span)) (middle lows : List ℕ) (before between lots : List X) → AreEntered targets is_old one middle before between → AreEntered targets is_old two lows between lots → AreEntered targets is_old (one ++ two) lows before lots
  entered_both one two middle lows before between lots a b = record {
    walked = b.walked;
    kept = λ x i. b.kept x (a.kept x i);
    only = λ x i. elim (b.only x i) [
      | inl i ↦ elim (a.only x i) [ inl j ↦ inl j | inr j ↦ inr (j.0, (j.1.0, Contains-append_left one two j.1.0 j.1.1, j.1.2)) ]
      | inr j ↦ inr (j.0, (j.1.0, Contains-append_right one two j.1.0 j.1.1, j.1.2))
    ];
    every = λ e x i j. elim (Contains-append_cases one two e i) [
      | inl i ↦ elim (a.every e x i j) [ inl h ↦ inl h | inr k ↦ inr (b.kept x k) ]
      | inr i ↦ b.every e x i j
    ];
  }

-- ==== the entries of lots, by their numbers

-- the entries of these numbers
abbrev pub entries_of : List (ℕ × Span) → List ℕ → List (ℕ × Span)
entries_of sources numbers = flat_map (λ n. filter (λ entry. is_eq (nat_cmp entry.0 n)) sources) numbers

-- the entries of one more number
pub entries_more : (sources run : List (ℕ × Span)) (numbers : List ℕ) (i n : ℕ) → i < length numbers → n ≡ get_or numbers i n → run ≡ filter (λ entry. is_eq (nat_cmp entry.0 n)) sources → entries_of sources (take (i + 1) numbers) ≡ entries_of sources (take i numbers) ++ run
entries_more sources run numbers i n lt is of_number =
    let at = λ (n : ℕ). filter (λ entry. is_eq (nat_cmp entry.0 n)) sources in
    ap (flat_map at) (with_item numbers i n lt is) ∙ sym (flat_map_more at [] (take i numbers) n) ∙ ap (λ r. flat_map at (take i numbers) ++ r) (sym of_number)

entry_of : (sources : List (ℕ × Span)) (numbers : List ℕ) (entry : ℕ × Span) → Contains (entries_of sources numbers) entry → Contains sources entry × Contains numbers entry.0
entry_of sources numbers entry i =
    let a = Contains-from_flat_map (λ n. filter (λ entry. is_eq (nat_cmp entry.0 n)) sources) numbers entry i in
    let e = Contains-from_filter (λ (entry : ℕ × Span). is_eq (nat_cmp entry.0 a.0)) sources entry a.2 in
    (e.0, subst (λ n. Contains numbers n) (sym (tells_apart exact_unsigned entry.0 a.0 e.1)) a.1)

listed_entry : (sources : List (ℕ × Span)) (numbers : List ℕ) (n : ℕ) (span : Span) → Contains numbers n → Contains sources (n, span) → Contains (entries_of sources numbers) (n, span)
listed_entry sources numbers n span i j = Contains-flat_map (λ n. filter (λ entry. is_eq (nat_cmp entry.0 n)) sources) numbers n (n, span) i (Contains-filter (λ (entry : ℕ × Span). is_eq (nat_cmp entry.0 n)) sources (n, span) j (ap is_eq (tied_itself nat_cmp_total n)))

-- What leaves the spans of the front's entries is what a step through the joints leads to.
pub led_in_order : (is_old : ℕ → Bool) (front : List ℕ) (sources : List (ℕ × Span)) (targets lows numbers sorted : List ℕ) → AreEntered targets is_old (entries_of sources front) lows [] numbers → IsInOrder nat_cmp numbers sorted → AreLedOn is_old front sources targets lows sorted
led_in_order is_old front sources targets lows numbers sorted entered order = record {
  walked = record {
    low = entered.walked.low;
    known = λ end x le i. elim (entered.walked.known end x le i) [ inl h ↦ inl h | inr j ↦ inr (kept_in_order nat_cmp exact_unsigned numbers sorted order x j) ];
  };
  only = λ n i. elim (entered.only n (order.none_new n i)) [
    | inl none ↦ absurd (Contains-none n none)
    | inr r ↦ let e = entry_of sources front r.1.0 r.1.1 in (r.0, (r.1.0.0, e.1, (r.1.0.1, e.0, r.1.2)))
  ];
  every = λ m n i leads. elim (entered.every (m, leads.0) n (listed_entry sources front m leads.0 i leads.1) leads.2) [ inl h ↦ inl h | inr j ↦ inr (kept_in_order nat_cmp exact_unsigned numbers sorted order n j) ];
}

-- ==== levels

found_or : (found : List Step) (lots : List LotId) (b : LotId) → (is_found found b ≡ true) ⊎ Contains lots b → Contains lots b ⊎ Contains (lots_of found) b
found_or found lots b (inl h) = inr (level_found_lot found b h)
found_or found lots b (inr i) = inl i

more_lots : (found : List Step) (front : List LotId) (k : ℕ) (b : LotId) → Contains (lots_of found) b ⊎ Contains front b → Contains (lots_of (found ++ map (step_at k) front)) b
more_lots found front k b h = subst (λ l. Contains l b) (sym (lots_more found k front)) (elim h [ inl h ↦ Contains-append_left (lots_of found) front b h | inr h ↦ Contains-append_right (lots_of found) front b h ])

-- the lots that the first front leads to, and those that a later one leads to
pub level_first : (parts : List Part) (from : LotId) (lots : List LotId) → AreLedTo (is_found (step_at 0 from ∷ [])) (from ∷ []) parts lots → IsLevel (LeadThrough (all_steps parts)) (step_at 0 from ∷ []) lots
level_first parts from lots led = record {
  led_to = λ b i. (led.only b i).1;
  not_found = λ b i. not_found_lot (step_at 0 from ∷ []) b (led.only b i).0;
  every = λ a b i leads. found_or (step_at 0 from ∷ []) lots b (led.every a b i leads);
  ordered = led.ordered;
}

pub level_next : (parts : List Part) (found : List Step) (front : List LotId) (k : ℕ) (lots : List LotId) → IsLevel (LeadThrough (all_steps parts)) found front → AreLedTo (is_found (found ++ map (step_at k) front)) front parts lots → IsLevel (LeadThrough (all_steps parts)) (found ++ map (step_at k) front) lots
level_next parts found front k lots level led = record {
  led_to = λ b i. let r = (led.only b i).1 in (r.0, more_lots found front k r.0 (inr r.1), r.2);
  not_found = λ b i. not_found_lot (found ++ map (step_at k) front) b (led.only b i).0;
  every = λ a b i leads. elim (Contains-append_cases (lots_of found) front a (subst (λ l. Contains l a) (lots_more found k front) i)) [
    | inl old ↦ inr (more_lots found front k b (elim (level.every a b old leads) [ inl h ↦ inr h | inr h ↦ inl h ]))
    | inr new ↦ found_or (found ++ map (step_at k) front) lots b (led.every a b new leads)
  ];
  ordered = led.ordered;
}

-- Nothing was walked.
pub walked_nothing : {X : Type 0} (targets : List X) (is_old : X → Bool) (lows : List ℕ) (new : List X) → length lows ≡ length targets + 1 → ((end : ℕ) → end < length targets + 1 → get_or lows end 0 ≡ end) → AreWalked targets is_old lows new
walked_nothing targets is_old lows new sized at = record { low = low; known = λ end x le i. absurd (none end x le i) }
  where
    low : (end : ℕ) → get_or lows end 0 ≤ end
    low end = elim (cases_lt end (length targets + 1)) [
      | inl lt ↦ let e = at end lt in omega arith
      | inr ge ↦ let e = get_or_past lows end 0 (omega arith) in omega arith
    ]

    none : (end : ℕ) (x : _) → end ≤ length targets → Contains (slice_range targets (get_or lows end 0) end) x → ⊥
    none end x le i = let (k, ge, lt, in_exits, e) = at_from_range targets (get_or lows end 0) end x i in let same = at end (omega arith) in omega arith

-- A number that a step leads to leaves at a joint.
pub leads_out : {K X : Type 0} (sources : List (K × Span)) (targets : List X) (a : K) (b : X) → LeadsThrough sources targets a b → Contains targets b
leads_out sources targets a b leads = let (k, ge, lt, in_exits, e) = at_from_range targets leads.0.start leads.0.end b leads.2 in (k, in_exits, e)

-- A number that a step leads to is below what all exits are below.
pub led_below : (is_old : ℕ → Bool) (front : List ℕ) (sources : List (ℕ × Span)) (targets lows numbers : List ℕ) (count : ℕ) → AreBelow count targets → AreLedOn is_old front sources targets lows numbers → AreBelow count numbers
led_below is_old front sources targets lows numbers count below led n i = let r = (led.only n i).1 in below n (leads_out sources targets r.0 n r.2)
