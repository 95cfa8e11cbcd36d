-- Which parts of a path a router gives.
use Rattle.std.proofs.Common.{◌≡◌, ◌∙◌, ℕ, ◌+◌, ◌-◌, ◌<◌, true, false, List, [], ◌∷◌, ◌++◌, length, take, drop, get_or, map, refl, sym, ap, subst, arith, inl, inr, length-append, ltb, leb}
use Rattle.toll_wire.proofs.Common.{AllByRecursion, IsCharBoundary, IsUtf8, take-append_seam, drop-append_seam, and_right, nat_tests, drop-drop, get_or-append-add, get_or-drop, IsCharBoundary-before_ascii, IsUtf8-drop, IsUtf8-past_char, IsUtf8-take, encode_ascii, after_token, part_of, walk, wild_from, wild_stop, segment}
use Rattle.toll_wire.proofs.Patterns.{EndsPart, GoOn, MatchesPattern, IsPathPart, pattern_ends_part, go_on, is_plain_pattern, part_ends, pattern_plain}
use Rattle.toll_wire.proofs.RouterSearch.{segment_to}

-- what is left of a pattern and a path from these places on
record IsRestAt (P Q : List ℕ) (token at : ℕ) (t path : List ℕ) : Type 0 where
  pattern : drop token P ≡ t
  path_is : drop at Q ≡ path
  tokens : token + length t ≡ length P
  bytes : at + length path ≡ length Q
  small : length P < 1000

rest_past : (P Q : List ℕ) (token at x : ℕ) (t front rest : List ℕ) → IsRestAt P Q token at (x ∷ t) (front ++ rest) → IsRestAt P Q (token + 1) (at + length front) t rest
rest_past P Q token at x t front rest is =
    let long = length-append front rest in
    record {
      pattern = sym (drop-drop 1 token P) ∙ ap (drop 1) is.pattern;
      path_is = sym (drop-drop (length front) at Q) ∙ (ap (drop (length front)) is.path_is ∙ drop-append_seam front rest);
      tokens = omega (arith, is.tokens);
      bytes = omega (arith, is.bytes);
      small = is.small;
    }

-- a part ends where the path does, or before the slash that the pattern goes on with
stop_at : (P Q : List ℕ) (token at : ℕ) (t part rest : List ℕ) → IsPathPart part → IsRestAt P Q token at (256 ∷ t) (part ++ rest) → GoOn t rest → wild_stop P token Q at ≡ at + length part
stop_at P Q token at [] part rest part_is is none =
    let long = length-append part rest in
    let nothing = ap length none in
    let last : ltb (token + 1) (length P) ≡ false = grind (arith, nat_tests, is.tokens) in
    let end : length Q ≡ at + length part = omega (arith, is.bytes) in
    rw (last, and_right _ false refl) end
stop_at P Q token at (x ∷ t) part rest part_is is (slash, (more, f)) =
    let some : ltb token (length P) ≡ true = grind (arith, nat_tests, is.tokens) in
    let one : ltb (token + 1) (length P) ≡ true = grind (arith, nat_tests, is.tokens) in
    let tail : drop (token + 1) P ≡ x ∷ t = sym (drop-drop 1 token P) ∙ ap (drop 1) is.pattern in
    let wild : get_or P token 0 ≡ 256 = ap (λ n. get_or P n 0) (omega arith) ∙ (sym (get_or-drop token P 0 0) ∙ ap (λ l. get_or l 0 0) is.pattern) in
    let seg : segment (drop at Q) ≡ part ++ 47 ∷ [] = ap segment is.path_is ∙ (ap (λ r. segment (part ++ r)) f ∙ segment_to part more part_is.1) in
    let suffix : segment (drop (token + 1) P) ≡ 47 ∷ [] = ap segment tail ∙ ap (λ y. segment (y ∷ t)) slash in
    let plus = length-append part (47 ∷ []) in
    rw (some, wild, one, seg, suffix) (omega arith)

-- the texts that a router gives from the next part on
abbrev part_texts : List ℕ → List ℕ → List ℕ → List (ℕ × ℕ) → ℕ × ℕ → List (List ℕ)
part_texts P Q text names w = part_of Q w.1 (wild_stop P w.0 Q w.1) ∷ map (λ p. p.1) (walk P text Q names (after_token w.0) (wild_stop P w.0 Q w.1))

over_byte : (P Q : List ℕ) (token at x : ℕ) (t rest : List ℕ) → x < 256 → IsRestAt P Q token at (x ∷ t) (x ∷ rest)
    → wild_from (drop token P) (length Q) token at ≡ wild_from (drop (token + 1) P) (length Q) (token + 1) (at + 1)
over_byte P Q token at x t rest small is =
    let one : ltb x 256 ≡ true = grind (arith, nat_tests) in
    let two : ltb at (length Q) ≡ true = grind (arith, nat_tests, is.bytes) in
    ap (λ l. wild_from l (length Q) token at) is.pattern
    ∙ (rw (one, two) refl ∙ ap (λ l. wild_from l (length Q) (token + 1) (at + 1)) (sym (rest_past P Q token at x t (x ∷ []) rest is).pattern))

to_part : (P Q text : List ℕ) (names : List (ℕ × ℕ)) (token at : ℕ) (t part rest : List ℕ) → IsPathPart part → IsRestAt P Q token at (256 ∷ t) (part ++ rest) → GoOn t rest
    → part_texts P Q text names (wild_from (drop token P) (length Q) token at) ≡ part ∷ map (λ p. p.1) (walk P text Q names (token + 1) (at + length part))
to_part P Q text names token at t part rest part_is is go =
    let long = length-append part rest in
    let low : leb at (at + length part) ≡ true = grind (arith, nat_tests) in
    let high : leb (at + length part) (length Q) ≡ true = grind (arith, nat_tests, is.bytes) in
    let more : after_token token ≡ token + 1 = omega (arith, is.tokens, is.small) in
    let taken : take (at + length part - at) (drop at Q) ≡ part = ap (λ n. take n (drop at Q)) (omega arith) ∙ (ap (take (length part)) is.path_is ∙ take-append_seam part rest) in
    ap (part_texts P Q text names) (ap (λ l. wild_from l (length Q) token at) is.pattern) ∙ rw (stop_at P Q token at t part rest part_is is go, low, high, taken, more) refl

no_texts : (texts : List (List ℕ)) → 0 ≡ length texts → [] ≡ texts
no_texts [] e = refl
no_texts (text ∷ texts) e = absurd (omega arith)

path_walked : (P Q text : List ℕ) (t : List ℕ) (texts : List (List ℕ)) (path : List ℕ) (names : List (ℕ × ℕ)) (token at : ℕ) → IsRestAt P Q token at t path → is_plain_pattern t ≡ true
    → MatchesPattern t texts path → length names ≡ length texts → map (λ p. p.1) (walk P text Q names token at) ≡ texts
path_walked P Q text t texts path [] token at is flat filled e = no_texts texts e
path_walked P Q text [] texts path (name ∷ names) token at is flat filled e = absurd (omega (arith, ap length filled.0))
path_walked P Q text (x ∷ t) texts path (name ∷ names) token at is flat (inl (rest, small, f, filled)) e =
    let here : IsRestAt P Q token at (x ∷ t) (x ∷ rest) = subst (IsRestAt P Q token at (x ∷ t)) f is in
    ap (part_texts P Q text names) (over_byte P Q token at x t rest small here)
    ∙ path_walked P Q text t texts rest (name ∷ names) (token + 1) (at + 1) (rest_past P Q token at x t (x ∷ []) rest here) (pattern_plain x t flat).later filled e
path_walked P Q text (x ∷ t) texts path (name ∷ names) token at is flat (inr (part, more, rest, wild, part_is, f, whole, filled)) e =
    let here : IsRestAt P Q token at (256 ∷ t) (part ++ rest) = subst (λ y. IsRestAt P Q token at (y ∷ t) (part ++ rest)) wild (subst (IsRestAt P Q token at (x ∷ t)) whole is) in
    let go = go_on t more rest (part_ends x t wild (pattern_plain x t flat)) filled in
    to_part P Q text names token at t part rest part_is here go
    ∙ (ap (λ l. part ∷ l) (path_walked P Q text t more rest names (token + 1) (at + length part) (rest_past P Q token at 256 t part rest here) (pattern_plain x t flat).later filled (omega (arith, ap length f))) ∙ sym f)

-- the parts that a router gives are those that the path has
pub parts_taken : (pattern text path : List ℕ) (names : List (ℕ × ℕ)) (texts : List (List ℕ)) → length pattern < 1000 → is_plain_pattern pattern ≡ true → MatchesPattern pattern texts path
    → length names ≡ length texts → map (λ p. p.1) (walk pattern text path names 0 0) ≡ texts
parts_taken pattern text path names texts small flat is e =
    path_walked pattern path text pattern texts path names 0 0 (record { pattern = refl; path_is = refl; tokens = omega arith; bytes = omega arith; small = small }) flat is e

-- ---- the parts of a text are texts

boundary : (path part rest : List ℕ) → path ≡ part ++ rest → EndsPart rest → IsCharBoundary path (length part)
boundary path part rest e ends =
    let at : get_or path (length part) 0 ≡ get_or rest 0 0 = ap (λ l. get_or l (length part) 0) e ∙ (ap (λ n. get_or (part ++ rest) n 0) (omega arith) ∙ get_or-append-add part rest 0 0) in
    on ends at (ap length e ∙ length-append part rest)
  where
    on : EndsPart rest → get_or path (length part) 0 ≡ get_or rest 0 0 → length path ≡ length part + length rest → IsCharBoundary path (length part)
    on (inl none) at long = (omega arith, λ within. absurd (omega (arith, ap length none)))
    on (inr some) at long = IsCharBoundary-before_ascii path (length part) (omega (arith, ap length some.1)) (omega (arith, ap (λ l. get_or l 0 0) some.1))

pub are_texts : (pattern : List ℕ) (texts : List (List ℕ)) (path : List ℕ) → is_plain_pattern pattern ≡ true → MatchesPattern pattern texts path → IsUtf8 path → AllByRecursion IsUtf8 texts
are_texts [] texts path flat is utf8 = subst (AllByRecursion IsUtf8) (sym is.0) tt
are_texts (x ∷ pattern) texts path flat (inl (rest, small, e, is)) utf8 =
    let token = (pattern_plain x pattern flat).token in
    let ascii : x < 128 = grind (arith, token) in
    are_texts pattern texts rest (pattern_plain x pattern flat).later is (IsUtf8-past_char path rest x utf8 (e ∙ ap (λ c. c ++ rest) (sym (encode_ascii x ascii))))
are_texts (x ∷ pattern) texts path flat (inr (part, more, rest, wild, is, f, whole, filled)) utf8 =
    let cut = boundary path part rest whole (pattern_ends_part pattern more rest (part_ends x pattern wild (pattern_plain x pattern flat)) filled) in
    let one : IsUtf8 part = subst IsUtf8 (ap (take (length part)) whole ∙ take-append_seam part rest) (IsUtf8-take path (length part) utf8 cut) in
    let two : IsUtf8 rest = subst IsUtf8 (ap (drop (length part)) whole ∙ drop-append_seam part rest) (IsUtf8-drop path (length part) utf8 cut) in
    subst (AllByRecursion IsUtf8) (sym f) (one, are_texts pattern more rest (pattern_plain x pattern flat).later filled two)
