-- Patterns of paths, where 256 stands for a part: which paths are of a pattern, and with which texts in its parts.
use Rattle.std.proofs.Common.{◌≡◌, ◌⊎◌, ◌∙◌, ℕ, ◌+◌, ◌<◌, Bool, true, false, cond, List, [], ◌∷◌, ◌++◌, length, refl, sym, ap, subst, arith, inl, inr, ◌==◌, ◌&&◌, ◌||◌, nat_le}
use Rattle.toll_wire.proofs.Common.{AllByRecursion, and_parts, nat_tests}

-- ---- up to the first slash

abbrev pub NoSlash : List ℕ → Type 0
NoSlash part = AllByRecursion (λ b. (b == 47) ≡ false) part

-- one byte or more, none of them a slash
abbrev pub IsPathPart : List ℕ → Type 0
IsPathPart part = (0 < length part) × NoSlash part

-- nothing, or a slash with more behind it
abbrev pub EndsPart : List ℕ → Type 0
EndsPart rest = (rest ≡ []) ⊎ ((more : List ℕ) × (rest ≡ 47 ∷ more))

pub split : (path : List ℕ) → (part rest : List ℕ) × (path ≡ part ++ rest) × NoSlash part × EndsPart rest
split [] = ([], [], refl, tt, inl refl)
split (b ∷ path) = on (b == 47) refl (split path)
  where
    on : (t : Bool) → (b == 47) ≡ t → (part rest : List ℕ) × (path ≡ part ++ rest) × NoSlash part × EndsPart rest
        → (part rest : List ℕ) × (b ∷ path ≡ part ++ rest) × NoSlash part × EndsPart rest
    on true e later = let slash : b ≡ 47 = grind (arith, nat_tests) in ([], b ∷ path, refl, tt, inr (path, ap (λ x. x ∷ path) slash))
    on false e (part, rest, whole, bytes, ends) = (b ∷ part, rest, ap (λ p. b ∷ p) whole, (e, bytes), ends)

no_end : (b : ℕ) (rest : List ℕ) → (b == 47) ≡ false → EndsPart (b ∷ rest) → ⊥
no_end b rest e (inl none) = cc none
no_end b rest e (inr some) = let slash : b ≡ 47 = cc some.1 in grind (arith, nat_tests)

pub split_once : (p q rest more : List ℕ) → NoSlash p → NoSlash q → EndsPart rest → EndsPart more → p ++ rest ≡ q ++ more → (p ≡ q) × (rest ≡ more)
split_once [] [] rest more one two ends also e = (refl, e)
split_once [] (c ∷ q) rest more one two ends also e = absurd (no_end c (q ++ more) two.0 (subst EndsPart e ends))
split_once (b ∷ p) [] rest more one two ends also e = absurd (no_end b (p ++ rest) one.0 (subst EndsPart (sym e) also))
split_once (b ∷ p) (c ∷ q) rest more one two ends also e =
    let later = split_once p q rest more one.1 two.1 ends also (cc e) in
    let first : b ≡ c = cc e in
    (ap (λ x. x ∷ p) first ∙ ap (λ l. c ∷ l) later.0, later.1)

-- ---- the paths of a pattern

-- the path is of the pattern, with these texts in its parts
abbrev pub MatchesPattern : List ℕ → List (List ℕ) → List ℕ → Type 0
MatchesPattern [] texts path = (texts ≡ []) × (path ≡ [])
MatchesPattern (x ∷ pattern) texts path =
    ((rest : List ℕ) × (x < 256) × (path ≡ x ∷ rest) × MatchesPattern pattern texts rest)
    ⊎ ((part : List ℕ) × (more : List (List ℕ)) × (rest : List ℕ) × (x ≡ 256) × IsPathPart part × (texts ≡ part ∷ more) × (path ≡ part ++ rest) × MatchesPattern pattern more rest)

-- each part ends with the pattern or before a slash, and all else are ASCII bytes
abbrev pub ends_part : List ℕ → Bool
ends_part [] = true
ends_part (x ∷ pattern) = x == 47

abbrev pub is_plain_pattern : List ℕ → Bool
is_plain_pattern [] = true
is_plain_pattern (x ∷ pattern) = (nat_le x 127 || (x == 256 && ends_part pattern)) && is_plain_pattern pattern

-- what the first token of a plain pattern is, and what follows it
pub record IsPlain (x : ℕ) (pattern : List ℕ) : Type 0 where
  pub token : (x < 128) ⊎ ((x ≡ 256) × (ends_part pattern ≡ true))
  pub later : is_plain_pattern pattern ≡ true

pub pattern_plain : (x : ℕ) (pattern : List ℕ) → is_plain_pattern (x ∷ pattern) ≡ true → IsPlain x pattern
pattern_plain x pattern e = let parts = and_parts _ (is_plain_pattern pattern) e in record { token = on (nat_le x 127) refl parts.0; later = parts.1 }
  where
    on : (t : Bool) → nat_le x 127 ≡ t → (t || (x == 256 && ends_part pattern)) ≡ true → (x < 128) ⊎ ((x ≡ 256) × (ends_part pattern ≡ true))
    on true e s = inl (grind (arith, nat_tests))
    on false e s = let both = and_parts (x == 256) (ends_part pattern) s in inr (grind (arith, nat_tests, both.0), both.1)

pub part_ends : (x : ℕ) (pattern : List ℕ) → x ≡ 256 → IsPlain x pattern → ends_part pattern ≡ true
part_ends x pattern wild is = on is.token
  where
    on : (x < 128) ⊎ ((x ≡ 256) × (ends_part pattern ≡ true)) → ends_part pattern ≡ true
    on (inl small) = absurd (omega arith)
    on (inr part) = part.1

-- behind a part a path ends with its pattern, or both go on with a slash
abbrev pub GoOn : List ℕ → List ℕ → Type 0
GoOn [] rest = rest ≡ []
GoOn (x ∷ pattern) rest = (x ≡ 47) × ((more : List ℕ) × (rest ≡ 47 ∷ more))

pub go_on : (pattern : List ℕ) (texts : List (List ℕ)) (rest : List ℕ) → ends_part pattern ≡ true → MatchesPattern pattern texts rest → GoOn pattern rest
go_on [] texts rest ends is = is.1
go_on (x ∷ pattern) texts rest ends (inl (more, small, e, is)) =
    let slash : x ≡ 47 = grind (arith, nat_tests) in (slash, (more, e ∙ ap (λ b. b ∷ more) slash))
go_on (x ∷ pattern) texts rest ends (inr part) = let wild = part.3 in absurd (grind (arith, nat_tests))

pub pattern_ends_part : (pattern : List ℕ) (texts : List (List ℕ)) (rest : List ℕ) → ends_part pattern ≡ true → MatchesPattern pattern texts rest → EndsPart rest
pattern_ends_part pattern texts rest e is = on pattern (go_on pattern texts rest e is)
  where
    on : (p : List ℕ) → GoOn p rest → EndsPart rest
    on [] go = inl go
    on (x ∷ p) go = inr go.1

pub filled_nil : (x : ℕ) (pattern : List ℕ) (texts : List (List ℕ)) → MatchesPattern (x ∷ pattern) texts [] → ⊥
filled_nil x pattern texts (inl byte) = cc byte.2
filled_nil x pattern texts (inr ([], more, rest, wild, is, e, whole, later)) = omega (arith, is.0)
filled_nil x pattern texts (inr (b ∷ part, more, rest, wild, is, e, whole, later)) = cc whole

-- how many parts there are
abbrev pub wilds : List ℕ → ℕ
wilds [] = 0
wilds (x ∷ pattern) = cond (x == 256) (1 + wilds pattern) (wilds pattern)

pub filled_length : (pattern : List ℕ) (texts : List (List ℕ)) (path : List ℕ) → MatchesPattern pattern texts path → length texts ≡ wilds pattern
filled_length [] texts path is = ap length is.0
filled_length (x ∷ pattern) texts path (inl (rest, small, e, is)) =
    let byte : (x == 256) ≡ false = grind (arith, nat_tests) in rw byte (filled_length pattern texts rest is)
filled_length (x ∷ pattern) texts path (inr (part, more, rest, wild, is, e, whole, later)) =
    let one : (x == 256) ≡ true = grind (arith, nat_tests) in rw one (omega (arith, ap length e, filled_length pattern more rest later))

-- ---- a path of a pattern has one text in each part, and is of no other pattern

pub pattern_path_once : (pattern : List ℕ) (texts : List (List ℕ)) (path other : List ℕ) → MatchesPattern pattern texts path → MatchesPattern pattern texts other → path ≡ other
pattern_path_once [] texts path other one two = one.1 ∙ sym two.1
pattern_path_once (x ∷ t) texts path other (inl (rest, small, e, is)) (inl (more, also, f, two)) = e ∙ (ap (λ p. x ∷ p) (pattern_path_once t texts rest more is two) ∙ sym f)
pattern_path_once (x ∷ t) texts path other (inl byte) (inr part) = let small = byte.1 in let wild = part.3 in absurd (omega arith)
pattern_path_once (x ∷ t) texts path other (inr part) (inl byte) = let small = byte.1 in let wild = part.3 in absurd (omega arith)
pattern_path_once (x ∷ t) texts path other (inr (p, ps, rest, wild, is_p, e, whole, one)) (inr (q, qs, more, also, is_q, f, other_whole, two)) =
    let part : p ≡ q = cc (e, f) in
    let later : ps ≡ qs = cc (e, f) in
    whole ∙ (ap (λ l. l ++ rest) part ∙ (ap (λ r. q ++ r) (pattern_path_once t ps rest more one (subst (λ l. MatchesPattern t l more) (sym later) two)) ∙ sym other_whole))

-- two patterns differ first in two bytes, or one goes on where the other ends
abbrev pub are_apart : List ℕ → List ℕ → Bool
are_apart [] [] = false
are_apart [] (y ∷ u) = true
are_apart (x ∷ t) [] = true
are_apart (x ∷ t) (y ∷ u) = cond (x == y) (are_apart t u) (nat_le x 127 && nat_le y 127)

pub filled_once : (t : List ℕ) (texts others : List (List ℕ)) (path : List ℕ) → is_plain_pattern t ≡ true → MatchesPattern t texts path → MatchesPattern t others path → texts ≡ others
filled_once [] texts others path flat one two = one.0 ∙ sym two.0
filled_once (x ∷ t) texts others path flat (inl (rest, small, e, is)) (inl (more, also, f, other)) =
    let same : more ≡ rest = cc (e, f) in
    filled_once t texts others rest (pattern_plain x t flat).later is (subst (MatchesPattern t others) same other)
filled_once (x ∷ t) texts others path flat (inl (rest, small, e, is)) (inr part) = absurd (omega (arith, part.3))
filled_once (x ∷ t) texts others path flat (inr part) (inl (rest, small, e, is)) = absurd (omega (arith, part.3))
filled_once (x ∷ t) texts others path flat (inr (p, ps, rest, wild, is_p, e, whole, one)) (inr (q, qs, more, other, is_q, f, also, two)) =
    let stop = part_ends x t wild (pattern_plain x t flat) in
    let same = split_once p q rest more is_p.1 is_q.1 (pattern_ends_part t ps rest stop one) (pattern_ends_part t qs more stop two) (sym whole ∙ also) in
    let later = filled_once t ps qs rest (pattern_plain x t flat).later one (subst (MatchesPattern t qs) (sym same.1) two) in
    e ∙ (ap (λ l. l ∷ ps) same.0 ∙ (ap (λ l. q ∷ l) later ∙ sym f))

pub filled_apart : (t u : List ℕ) (texts others : List (List ℕ)) (path : List ℕ) → is_plain_pattern t ≡ true → is_plain_pattern u ≡ true → are_apart t u ≡ true
    → MatchesPattern t texts path → MatchesPattern u others path → ⊥
filled_apart [] [] texts others path one two apart is other = cc apart
filled_apart [] (y ∷ u) texts others path one two apart is other = filled_nil y u others (subst (MatchesPattern (y ∷ u) others) is.1 other)
filled_apart (x ∷ t) [] texts others path one two apart is other = filled_nil x t texts (subst (MatchesPattern (x ∷ t) texts) other.1 is)
filled_apart (x ∷ t) (y ∷ u) texts others path one two apart is other =
    on (x == y) refl apart is other (λ rest texts others. filled_apart t u texts others rest (pattern_plain x t one).later (pattern_plain y u two).later)
  where
    on : (s : Bool) → (x == y) ≡ s → cond s (are_apart t u) (nat_le x 127 && nat_le y 127) ≡ true → MatchesPattern (x ∷ t) texts path → MatchesPattern (y ∷ u) others path
        → ((rest : List ℕ) (texts others : List (List ℕ)) → are_apart t u ≡ true → MatchesPattern t texts rest → MatchesPattern u others rest → ⊥) → ⊥
    on true e apart (inl (rest, small, p, is)) (inl (more, also, q, other)) later =
        let same : more ≡ rest = cc (p, q) in later rest texts others apart is (subst (MatchesPattern u others) same other)
    on true e apart (inr (p, ps, rest, wild, is_p, f, whole, is)) (inr (q, qs, more, other_wild, is_q, g, also, other)) later =
        let one_end = pattern_ends_part t ps rest (part_ends x t wild (pattern_plain x t one)) is in
        let same = split_once p q rest more is_p.1 is_q.1 one_end (pattern_ends_part u qs more (part_ends y u other_wild (pattern_plain y u two)) other) (sym whole ∙ also) in
        later rest ps qs apart is (subst (MatchesPattern u qs) (sym same.1) other)
    on false e apart (inl (rest, small, p, is)) (inl (more, also, q, other)) later = let same : x ≡ y = cc (p, q) in grind (arith, nat_tests)
    on s e apart (inl (rest, small, p, is)) (inr part) later = let wild = part.3 in grind (arith, nat_tests)
    on s e apart (inr part) (inl (rest, small, p, is)) later = let wild = part.3 in grind (arith, nat_tests)
    on false e apart (inr part) (inr other) later = let wild = part.3 in let both = other.3 in grind (arith, nat_tests)
