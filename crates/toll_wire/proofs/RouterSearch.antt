-- A router of plain patterns finds a row that a path is of, if there is one.
use Rattle.std.proofs.Common.{◌≡◌, ◌⊎◌, ◌↔◌, ◌∙◌, ℕ, ◌-◌, ◌<◌, ◌≤◌, zero, suc, Bool, true, false, cond, List, [], ◌∷◌, ◌++◌, length, take, drop, refl, sym, ap, subst, arith, inl, inr, Option, Some, None, length-append, append-nil, ◌==◌, ltb}
use Rattle.toll_wire.proofs.Common.{AllByRecursion, and_parts, nat_tests, Decides-eqb, ends_is, RowsOf, cuts, first, has_slash, longest_from, or_else, own, param_step, seek, segment, step, with_suffix, In}
use Rattle.toll_wire.proofs.Patterns.{EndsPart, MatchesPattern, IsPathPart, NoSlash, pattern_ends_part, ends_part, filled_nil, is_plain_pattern, pattern_plain, part_ends, split}

-- ---- the segment at the start of a path

segment_all : (part : List ℕ) → NoSlash part → segment part ≡ part
segment_all [] all = refl
segment_all (b ∷ part) all = rw (all.0, segment_all part all.1) refl

pub segment_to : (part rest : List ℕ) → NoSlash part → segment (part ++ 47 ∷ rest) ≡ part ++ 47 ∷ []
segment_to [] rest all = refl
segment_to (b ∷ part) rest all = rw (all.0, segment_to part rest all.1) refl

slash_none : (part : List ℕ) → NoSlash part → has_slash part ≡ false
slash_none [] all = refl
slash_none (b ∷ part) all = rw all.0 (slash_none part all.1)

slash_some : (part rest : List ℕ) → NoSlash part → has_slash (part ++ 47 ∷ rest) ≡ true
slash_some [] rest all = refl
slash_some (b ∷ part) rest all = rw all.0 (slash_some part rest all.1)

-- a part ends with no slash, and with one behind it it does
ends_not : (front part : List ℕ) → NoSlash part → part ≡ front ++ 47 ∷ [] → ⊥
ends_not [] [] all e = cc e
ends_not [] (b ∷ part) all e = let slash : b ≡ 47 = cc e in let other = all.0 in grind (arith, nat_tests)
ends_not (c ∷ front) [] all e = cc e
ends_not (c ∷ front) (b ∷ part) all e = ends_not front part all.1 (cc e)

no_cut : (part : List ℕ) → NoSlash part → cuts part (47 ∷ []) ≡ false
no_cut part all = on (cuts part (47 ∷ [])) refl
  where
    on : (t : Bool) → cuts part (47 ∷ []) ≡ t → t ≡ false
    on false e = refl
    on true e = absurd (ends_not (take (length part - 1) part) part all ((ends_is Decides-eqb part (47 ∷ []) _ refl).0 (and_parts _ _ e).1))

yes_cut : (part : List ℕ) → 0 < length part → cuts (part ++ 47 ∷ []) (47 ∷ []) ≡ true
yes_cut part some =
    let long = length-append part (47 ∷ []) in
    let one : ltb 1 (length (part ++ 47 ∷ [])) ≡ true = grind (arith, nat_tests) in
    rw (one, (ends_is Decides-eqb (part ++ 47 ∷ []) (47 ∷ []) _ refl).1 part refl) refl

abbrev pub AreBytes : List ℕ → Type 0
AreBytes path = AllByRecursion (λ b. b < 256) path

bytes_behind : (part rest : List ℕ) → AreBytes (part ++ rest) → AreBytes rest
bytes_behind [] rest bytes = bytes
bytes_behind (b ∷ part) rest bytes = bytes_behind part rest bytes.1

less_one : (n : ℕ) → suc n - 1 ≡ n
less_one n = omega arith

-- ---- rows

module _ {K : Type 0} where
  -- each row has a plain pattern
  abbrev pub ArePlain : RowsOf K → Type 0
  ArePlain rows = AllByRecursion (λ (row : List ℕ × K). is_plain_pattern row.0 ≡ true) rows

  -- each row goes on behind a part
  abbrev Follow : RowsOf K → Type 0
  Follow [] = Unit {0}
  Follow (([], k) ∷ rows) = Follow rows
  Follow ((x ∷ t, k) ∷ rows) = (x ≡ 47) × Follow rows

  seek_or_none : (x : Option K) → or_else x None ≡ x
  seek_or_none None = refl
  seek_or_none (Some k) = refl

  -- nothing is found among no rows
  none_step : (path : List ℕ) → (param_step {K = K} [] path).1 ≡ []
  unfolding param_step
  none_step path = on (has_slash path)
    where
      on : (t : Bool) → (cond {A = ℕ × RowsOf K} t (0, []) (length path, [])).1 ≡ []
      on true = refl
      on false = refl

  seek_none_found : (skip : ℕ) (path : List ℕ) → seek {K = K} skip [] path ≡ None
  unfolding seek
  seek_none_found skip [] = refl
  seek_none_found (suc skip) (b ∷ path) = seek_none_found skip path
  seek_none_found zero (b ∷ path) =
      rw (seek_none_found 0 path, none_step (b ∷ path), seek_none_found ((param_step {K = K} [] (b ∷ path)).0 - 1) path) refl

  seek_skipped : (rows : RowsOf K) (part rest : List ℕ) → seek (length part) rows (part ++ rest) ≡ seek 0 rows rest
  unfolding seek
  seek_skipped rows [] rest = refl
  seek_skipped rows (x ∷ part) rest = seek_skipped rows part rest

  -- ---- rows that go on behind a part

  -- some row goes on with a slash
  abbrev slashed : RowsOf K → Bool
  slashed [] = false
  slashed (([], k) ∷ rows) = slashed rows
  slashed ((x ∷ t, k) ∷ rows) = true

  no_longest : (seg : List ℕ) (rows : RowsOf K) → Follow rows → cuts seg (47 ∷ []) ≡ false → longest_from seg [] rows ≡ []
  no_longest seg [] follow cut = refl
  no_longest seg (([], k) ∷ rows) follow cut = no_longest seg rows follow cut
  no_longest seg ((x ∷ t, k) ∷ rows) follow cut = rw (follow.0, cut) (no_longest seg rows follow.1 cut)

  slash_stays : (seg : List ℕ) (rows : RowsOf K) → Follow rows → longest_from seg (47 ∷ []) rows ≡ 47 ∷ []
  slash_stays seg [] follow = refl
  slash_stays seg (([], k) ∷ rows) follow = slash_stays seg rows follow
  slash_stays seg ((x ∷ t, k) ∷ rows) follow = rw follow.0 (slash_stays seg rows follow.1)

  yes_longest : (seg : List ℕ) (rows : RowsOf K) → Follow rows → cuts seg (47 ∷ []) ≡ true → longest_from seg [] rows ≡ cond (slashed rows) (47 ∷ []) []
  yes_longest seg [] follow cut = refl
  yes_longest seg (([], k) ∷ rows) follow cut = yes_longest seg rows follow cut
  yes_longest seg ((x ∷ t, k) ∷ rows) follow cut = rw (follow.0, cut) (slash_stays seg rows follow.1)

  -- they go on with a slash alone
  no_other : (b : ℕ) (rows : RowsOf K) → Follow rows → (47 == b) ≡ false → step b rows ≡ []
  no_other b [] follow e = refl
  no_other b (([], k) ∷ rows) follow e = no_other b rows follow e
  no_other b ((x ∷ t, k) ∷ rows) follow e = rw (follow.0, e) (no_other b rows follow.1 e)

  no_slashed : (rows : RowsOf K) → Follow rows → slashed rows ≡ false → step 47 rows ≡ []
  no_slashed [] follow e = refl
  no_slashed (([], k) ∷ rows) follow e = no_slashed rows follow e
  no_slashed ((x ∷ t, k) ∷ rows) follow e = absurd (cc e)

  follow_suffix : (rows : RowsOf K) → Follow rows → Follow (with_suffix (47 ∷ []) rows) × (step 47 (with_suffix (47 ∷ []) rows) ≡ step 47 rows)
  follow_suffix [] follow = (tt, refl)
  follow_suffix (([], k) ∷ rows) follow = follow_suffix rows follow
  follow_suffix ((x ∷ t, k) ∷ rows) follow =
      let later = follow_suffix rows follow.1 in rw follow.0 ((refl, later.0), ap (λ r. (t, k) ∷ r) later.1)

  by_slash : (rows : RowsOf K) (path : List ℕ) → Follow rows → seek 0 rows (47 ∷ path) ≡ seek 0 (step 47 rows) path
  unfolding seek
  by_slash rows path follow =
      rw (no_other 256 rows follow refl, no_other 257 rows follow refl, none_step (47 ∷ path), seek_none_found ((param_step {K = K} [] (47 ∷ path)).0 - 1) path) (seek_or_none _)

  -- what is found behind a part at the start of a path
  abbrev after : RowsOf K → List ℕ → Option K
  after rows path = seek ((param_step rows path).0 - 1) (param_step rows path).1 (drop 1 path)

  end_step : (rows : RowsOf K) (part : List ℕ) → Follow rows → NoSlash part → param_step rows part ≡ (length part, rows)
  unfolding param_step
  end_step rows part follow all = rw (segment_all part all, no_longest part rows follow (no_cut part all), slash_none part all) refl

  slash_step : (rows : RowsOf K) (part rest : List ℕ) → Follow rows → IsPathPart part
      → param_step rows (part ++ 47 ∷ rest) ≡ cond (slashed rows) (length part, with_suffix (47 ∷ []) rows) (0, [])
  unfolding param_step
  slash_step rows part rest follow is =
      rw (segment_to part rest is.1, yes_longest (part ++ 47 ∷ []) rows follow (yes_cut part is.0), slash_some part rest is.1) (on (slashed rows))
    where
      on : (t : Bool)
          → cond {A = ℕ × RowsOf K} (ltb 0 (length {A = ℕ} (cond t (47 ∷ []) []))) (length {A = ℕ} (part ++ 47 ∷ []) - length {A = ℕ} (cond t (47 ∷ []) []), with_suffix (cond t (47 ∷ []) []) rows) (0, [])
          ≡ cond t (length part, with_suffix (47 ∷ []) rows) (0, [])
      on true = ap (λ n. (n, with_suffix (47 ∷ []) rows)) (simp length-append (omega arith))
      on false = refl

  after_part : (rows : RowsOf K) (part rest : List ℕ) → Follow rows → IsPathPart part → EndsPart rest → after rows (part ++ rest) ≡ seek 0 rows rest
  after_part rows [] rest follow is ends = absurd (omega (arith, is.0))
  after_part rows (b ∷ part) rest follow is (inl none) =
      ap (λ r. after rows (b ∷ (part ++ r))) none
      ∙ (ap (λ p. after rows (b ∷ p)) (append-nil part)
      ∙ (ap (λ (p : ℕ × RowsOf K). seek (p.0 - 1) p.1 part) (end_step rows (b ∷ part) follow is.1)
      ∙ (ap (λ n. seek n rows part) (less_one (length part)) ∙ (ap (seek (length part) rows) (sym (append-nil part)) ∙ (seek_skipped rows part [] ∙ ap (seek 0 rows) (sym none))))))
  after_part rows (b ∷ part) rest follow is (inr (more, some)) =
      ap (λ r. after rows (b ∷ (part ++ r))) some
      ∙ (ap (λ (p : ℕ × RowsOf K). seek (p.0 - 1) p.1 (part ++ 47 ∷ more)) (slash_step rows (b ∷ part) more follow is)
      ∙ (on (slashed rows) refl ∙ (sym (by_slash rows more follow) ∙ ap (seek 0 rows) (sym some))))
    where
      on : (t : Bool) → slashed rows ≡ t
          → seek ((cond {A = ℕ × RowsOf K} t (suc (length part), with_suffix (47 ∷ []) rows) (0, [])).0 - 1) (cond {A = ℕ × RowsOf K} t (suc (length part), with_suffix (47 ∷ []) rows) (0, [])).1 (part ++ 47 ∷ more)
          ≡ seek 0 (step 47 rows) more
      on true e =
          let kept = follow_suffix rows follow in
          ap (λ n. seek n (with_suffix (47 ∷ []) rows) (part ++ 47 ∷ more)) (less_one (length part))
          ∙ (seek_skipped (with_suffix (47 ∷ []) rows) part (47 ∷ more) ∙ (by_slash (with_suffix (47 ∷ []) rows) more kept.0 ∙ ap (λ r. seek 0 r more) kept.1))
      on false e = seek_none_found (0 - 1) (part ++ 47 ∷ more) ∙ sym (ap (λ r. seek 0 r more) (no_slashed rows follow e) ∙ seek_none_found 0 more)

  at_slash : (rows : RowsOf K) (path : List ℕ) → Follow rows → after rows (47 ∷ path) ≡ None
  unfolding param_step
  at_slash rows path follow = rw (no_longest (47 ∷ []) rows follow refl) (seek_none_found (0 - 1) path)

  -- ---- rows behind a byte, and behind a part

  step_in : (b : ℕ) (rows : RowsOf K) (t : List ℕ) (k : K) → In (step b rows) (t, k) ↔ In rows (b ∷ t, k)
  step_in b [] t k = (λ i. i, λ i. i)
  step_in b (([], j) ∷ rows) t k = let later = step_in b rows t k in ((λ i. inr (later.0 i)), back later.1)
    where
      back : (In rows (b ∷ t, k) → In (step b rows) (t, k)) → In (([], j) ∷ rows) (b ∷ t, k) → In (step b rows) (t, k)
      back later (inl e) = absurd (cc (ap (λ (r : List ℕ × K). r.0) e))
      back later (inr i) = later i
  step_in b ((x ∷ u, j) ∷ rows) t k = on (x == b) refl (step_in b rows t k)
    where
      on : (s : Bool) → (x == b) ≡ s → In (step b rows) (t, k) ↔ In rows (b ∷ t, k) → In (cond s ((u, j) ∷ step b rows) (step b rows)) (t, k) ↔ In ((x ∷ u, j) ∷ rows) (b ∷ t, k)
      on true e later = (there, back)
        where
          same : x ≡ b
          same = grind (arith, nat_tests)

          there : In ((u, j) ∷ step b rows) (t, k) → In ((x ∷ u, j) ∷ rows) (b ∷ t, k)
          there (inl p) = inl (ap (λ y. (y ∷ u, j)) same ∙ ap (λ (r : List ℕ × K). (b ∷ r.0, r.1)) p)
          there (inr i) = inr (later.0 i)

          back : In ((x ∷ u, j) ∷ rows) (b ∷ t, k) → In ((u, j) ∷ step b rows) (t, k)
          back (inl p) = inl (ap (λ (r : List ℕ × K). (drop 1 r.0, r.1)) p)
          back (inr i) = inr (later.1 i)
      on false e later = ((λ i. inr (later.0 i)), back)
        where
          back : In ((x ∷ u, j) ∷ rows) (b ∷ t, k) → In (step b rows) (t, k)
          back (inl p) = let first = ap (λ (r : List ℕ × K). r.0) p in let same : x ≡ b = cc first in absurd (grind (arith, nat_tests))
          back (inr i) = later.1 i

  plain_step : (b : ℕ) (rows : RowsOf K) → ArePlain rows → ArePlain (step b rows)
  plain_step b [] are = tt
  plain_step b (([], j) ∷ rows) are = plain_step b rows are.1
  plain_step b ((x ∷ u, j) ∷ rows) are = on (x == b) (plain_step b rows are.1)
    where
      on : (s : Bool) → ArePlain (step b rows) → ArePlain (cond s ((u, j) ∷ step b rows) (step b rows))
      on true later = ((pattern_plain x u are.0).later, later)
      on false later = later

  follows : (rows : RowsOf K) → ArePlain rows → Follow (step 256 rows) × (step 257 rows ≡ [])
  follows [] are = (tt, refl)
  follows (([], j) ∷ rows) are = follows rows are.1
  follows ((x ∷ u, j) ∷ rows) are = on (x == 256) refl (pattern_plain x u are.0).token (follows rows are.1)
    where
      behind : (v : List ℕ) → ends_part v ≡ true → Follow (step 256 rows) → Follow ((v, j) ∷ step 256 rows)
      behind [] e later = later
      behind (y ∷ v) e later = (grind (arith, nat_tests), later)

      not_last : x < 257 → (x == 257) ≡ false
      not_last small = grind (arith, nat_tests)

      on : (s : Bool) → (x == 256) ≡ s → (x < 128) ⊎ ((x ≡ 256) × (ends_part u ≡ true)) → Follow (step 256 rows) × (step 257 rows ≡ [])
          → Follow (cond s ((u, j) ∷ step 256 rows) (step 256 rows)) × (cond (x == 257) ((u, j) ∷ step 257 rows) (step 257 rows) ≡ [])
      on true e (inl small) later = absurd (grind (arith, nat_tests))
      on true e (inr part) later = let wild = part.0 in (behind u part.1 later.0, rw (not_last (omega arith)) later.1)
      on false e token later = let small : x < 257 = grind (arith, token) in (later.0, rw (not_last small) later.1)

  in_plain : (rows : RowsOf K) (t : List ℕ) (k : K) → ArePlain rows → In rows (t, k) → is_plain_pattern t ≡ true
  in_plain [] t k are i = absurd i
  in_plain ((u, j) ∷ rows) t k are (inl e) = subst (λ (r : List ℕ × K). is_plain_pattern r.0 ≡ true) e are.0
  in_plain ((u, j) ∷ rows) t k are (inr i) = in_plain rows t k are.1 i

  -- ---- which row is found

  -- the path is of a row with this key, or of none
  abbrev pub Finds : RowsOf K → List ℕ → Option K → Type 0
  Finds rows path None = (t : List ℕ) (k : K) (texts : List (List ℕ)) → In rows (t, k) → MatchesPattern t texts path → ⊥
  Finds rows path (Some k) = (t : List ℕ) × (texts : List (List ℕ)) × In rows (t, k) × MatchesPattern t texts path

  finds_own : (rows : RowsOf K) → Finds rows [] (own rows)
  finds_own [] = λ t k texts i is. i
  finds_own (([], j) ∷ rows) = ([], [], inl refl, (refl, refl))
  finds_own ((x ∷ u, j) ∷ rows) = on (own rows) (finds_own rows)
    where
      not_here : (t : List ℕ) (k : K) (texts : List (List ℕ)) → Finds rows [] None → In ((x ∷ u, j) ∷ rows) (t, k) → MatchesPattern t texts [] → ⊥
      not_here t k texts none (inl e) is = filled_nil x u texts (subst (λ (r : List ℕ × K). MatchesPattern r.0 texts []) (sym e) is)
      not_here t k texts none (inr i) is = none t k texts i is

      on : (o : Option K) → Finds rows [] o → Finds ((x ∷ u, j) ∷ rows) [] o
      on None none = λ t k texts i is. not_here t k texts none i is
      on (Some k) (t, texts, i, is) = (t, texts, inr i, is)

  -- nothing is found if neither a byte leads on nor a part
  seek_nothing : (rows : RowsOf K) (b : ℕ) (path : List ℕ) → ArePlain rows → Finds (step b rows) path None
      → ((part rest : List ℕ) → b ∷ path ≡ part ++ rest → IsPathPart part → EndsPart rest → Finds (step 256 rows) rest None)
      → (t : List ℕ) (k : K) (texts : List (List ℕ)) → In rows (t, k) → MatchesPattern t texts (b ∷ path) → ⊥
  seek_nothing rows b path are by_byte by_part [] k texts i is = cc is.1
  seek_nothing rows b path are by_byte by_part (x ∷ t) k texts i (inl (rest, small, e, is)) =
      let same : x ≡ b = cc e in
      let later : rest ≡ path = cc e in
      by_byte t k texts ((step_in b rows t k).1 (subst (λ y. In rows (y ∷ t, k)) same i)) (subst (MatchesPattern t texts) later is)
  seek_nothing rows b path are by_byte by_part (x ∷ t) k texts i (inr (part, more, rest, e, is, f, whole, filled)) =
      by_part part rest whole is (pattern_ends_part t more rest (part_ends x t e (pattern_plain x t (in_plain rows (x ∷ t) k are i))) filled) t k more
      ((step_in 256 rows t k).1 (subst (λ y. In rows (y ∷ t, k)) e i)) filled

  -- what a byte leads to comes first
  either : (rows : RowsOf K) (b : ℕ) (path : List ℕ) (by_byte by_part : Option K) → b < 256 → ArePlain rows → Finds (step b rows) path by_byte
      → (by_part ≡ None → (part rest : List ℕ) → b ∷ path ≡ part ++ rest → IsPathPart part → EndsPart rest → Finds (step 256 rows) rest None)
      → ((k : K) → by_part ≡ Some k → (part rest : List ℕ) × (b ∷ path ≡ part ++ rest) × IsPathPart part × Finds (step 256 rows) rest (Some k))
      → Finds rows (b ∷ path) (or_else by_byte by_part)
  either rows b path (Some k) by_part small are (t, texts, i, is) none some = (b ∷ t, texts, (step_in b rows t k).0 i, inl (path, small, refl, is))
  either rows b path None None small are one none some = seek_nothing rows b path are one (none refl)
  either rows b path None (Some k) small are one none some =
      let (part, rest, whole, is, (t, texts, i, filled)) = some k refl in
      (256 ∷ t, part ∷ texts, (step_in 256 rows t k).0 i, inr (part, texts, rest, refl, is, refl, whole, filled))

  seek_next : (rows : RowsOf K) (b : ℕ) (path : List ℕ) → ArePlain rows → seek 0 rows (b ∷ path) ≡ or_else (seek 0 (step b rows) path) (after (step 256 rows) (b ∷ path))
  unfolding seek
  seek_next rows b path are = rw (follows rows are).1 (ap (or_else (seek 0 (step b rows) path)) (seek_or_none _))

  find : (n : ℕ) (rows : RowsOf K) (path : List ℕ) → length path ≤ n → AreBytes path → ArePlain rows → Finds rows path (seek 0 rows path)
  unfolding seek
  find n rows [] le bytes are = finds_own rows
  find zero rows (b ∷ path) le bytes are = absurd (omega arith)
  find (suc n) rows (b ∷ path) le bytes are =
      subst (Finds rows (b ∷ path)) (sym (seek_next rows b path are))
      (either rows b path (seek 0 (step b rows) path) (after tails (b ∷ path)) bytes.0 are (find n (step b rows) path (omega arith) bytes.1 (plain_step b rows are))
      (none (λ rest le also. find n (step 256 rows) rest le also (plain_step 256 rows are)))
      (some (λ rest le also. find n (step 256 rows) rest le also (plain_step 256 rows are))))
    where
      tails : RowsOf K
      tails = step 256 rows

      Later : Type 0
      Later = (rest : List ℕ) → length rest ≤ n → AreBytes rest → Finds (step 256 rows) rest (seek 0 (step 256 rows) rest)

      none : Later → after (step 256 rows) (b ∷ path) ≡ None → (part rest : List ℕ) → b ∷ path ≡ part ++ rest → IsPathPart part → EndsPart rest → Finds (step 256 rows) rest None
      none later e part rest whole is pattern_ends_part =
          let long = length-append part rest in
          let short = ap length whole in
          let found = sym (after_part (step 256 rows) part rest (follows rows are).0 is pattern_ends_part) ∙ (ap (after (step 256 rows)) (sym whole) ∙ e) in
          subst (Finds (step 256 rows) rest) found (later rest (omega (arith, is.0)) (bytes_behind part rest (subst AreBytes whole bytes)))

      some : Later → (k : K) → after (step 256 rows) (b ∷ path) ≡ Some k → (part rest : List ℕ) × (b ∷ path ≡ part ++ rest) × IsPathPart part × Finds (step 256 rows) rest (Some k)
      some later k e = on (b == 47) refl (split path)
        where
          on : (s : Bool) → (b == 47) ≡ s → (part rest : List ℕ) × (path ≡ part ++ rest) × NoSlash part × EndsPart rest → (part rest : List ℕ) × (b ∷ path ≡ part ++ rest) × IsPathPart part × Finds (step 256 rows) rest (Some k)
          on true slash parts =
              let same : b ≡ 47 = grind (arith, nat_tests) in
              let none = ap (λ x. after (step 256 rows) (x ∷ path)) same ∙ at_slash (step 256 rows) path (follows rows are).0 in absurd (cc (e, none))
          on false slash (part, rest, whole, all, pattern_ends_part) =
              let is : IsPathPart (b ∷ part) = (omega arith, (slash, all)) in
              let long = length-append part rest in
              let short = ap length whole in
              let found = sym (after_part (step 256 rows) (b ∷ part) rest (follows rows are).0 is pattern_ends_part) ∙ (ap (λ p. after (step 256 rows) (b ∷ p)) (sym whole) ∙ e) in
              (b ∷ part, rest, ap (λ p. b ∷ p) whole, is, subst (Finds (step 256 rows) rest) found (later rest (omega arith) (bytes_behind part rest (subst AreBytes whole bytes.1))))

  pub finds : (rows : RowsOf K) (path : List ℕ) → AreBytes path → ArePlain rows → Finds rows path (first rows path)
  finds rows path bytes are = find (length path) rows path (omega arith) bytes are
