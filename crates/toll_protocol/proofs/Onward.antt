-- Reading and writing after what was read and written before.
use Rattle.std.proofs.Common.{◌≡◌, ◌≢◌, ◌∙◌, ℕ, ◌+◌, ◌-◌, ◌<◌, ◌≤◌, List, [], ◌++◌, length, take, drop, sym, ap, subst, arith, Option, take-add}
use Rattle.toll_protocol.proofs.Common.{Appends, Consumes, drop-append-le, drop-drop, take-take, take-append-drop, take_rest, length-drop, length-take-le, OneMoreRead, ReadsWhile}
use Rattle.std.proofs.KnownBytes.{Appends-trans, Consumes-trans}
use Rattle.toll_protocol.proofs.ReadLemmas.{GaveWhile, gave_more}

-- what was read after the first bytes, and then more
pub read_onward : (a b c : Option (List ℕ)) (old new : List ℕ) (begun m n : ℕ) → begun ≤ m → m ≤ length old → take m new ≡ take m old
    → Consumes a b (drop begun (take m old)) → Consumes b c (take n (drop m new)) → Consumes a c (drop begun (take (m + n) new))
read_onward a b c old new begun m n le within same p q =
    let front = take m old in
    let more = take n (drop m new) in
    let whole : take (m + n) new ≡ front ++ more = take-add m n new ∙ ap (λ t. t ++ more) same in
    let size : length front ≡ m = length-take-le m old within in
    let fits : begun ≤ length front = omega arith in
    let parts : drop begun (take (m + n) new) ≡ drop begun front ++ more = ap (drop begun) whole ∙ drop-append-le begun front more fits in
    subst (Consumes a c) (sym parts) (Consumes-trans a b c _ _ p q)

-- The first bytes stay unchanged.
pub front_onward : (start old new : List ℕ) (begun m : ℕ) → begun ≤ m → take begun old ≡ take begun start → take m new ≡ take m old → take begun new ≡ take begun start
front_onward start old new begun m le first same =
    sym (take-take begun m new le) ∙ ap (take begun) same ∙ take-take begun m old le ∙ first

-- what was written after the first bytes, and then more
pub wrote_onward : (a b c : Option (List ℕ)) (text : List ℕ) (begun m n : ℕ) → begun ≤ m
    → Appends a b (take (m - begun) (drop begun text)) → Appends b c (take n (take (length text - m) (drop m text)))
    → Appends a c (take (m + n - begun) (drop begun text))
wrote_onward a b c text begun m n le p q =
    let rest = drop begun text in
    let k = m - begun in
    let count : m + n - begun ≡ k + n = omega arith in
    let there : drop k rest ≡ drop m text = drop-drop k begun text ∙ ap (λ i. drop i text) {x = begun + (m - begun)} {y = m} (omega arith) in
    let parts : take (m + n - begun) rest ≡ take k rest ++ take n (drop m text) =
    ap (λ i. take i rest) count ∙ take-add k n rest ∙ ap (λ t. take k rest ++ take n t) there in
    subst (Appends a c) (sym parts) (Appends-trans a b c _ _ p (subst (λ (t : List ℕ). Appends b c (take n t)) (take_rest text m) q))

-- the first bytes, and what was read after them
pub whole_onward : (start old : List ℕ) (begun m : ℕ) → begun ≤ m → take begun old ≡ take begun start → take begun start ++ drop begun (take m old) ≡ take m old
whole_onward start old begun m le same =
    ap (λ t. t ++ drop begun (take m old)) (sym (take-take begun m old le ∙ same)) ∙ take-append-drop begun (take m old)

-- reads that each gave something after the first bytes, and one more read
pub gave_onward : (P : List ℕ → Type 0) (a b c : Option (List (List ℕ))) (old new : List ℕ) (begun m n : ℕ) → 0 < n → m + n ≤ length new → begun ≤ m → m ≤ length old
    → take m new ≡ take m old → GaveWhile P a b (drop begun (take m old)) → P (drop begun (take m old)) → OneMoreRead b c (take n (drop m new))
    → GaveWhile P a c (drop begun (take (m + n) new))
gave_onward P a b c old new begun m n some fits le within same p so one =
    let front = take m old in
    let bytes = take n (drop m new) in
    let whole : take (m + n) new ≡ front ++ bytes = take-add m n new ∙ ap (λ t. t ++ bytes) same in
    let size : length front ≡ m = length-take-le m old within in
    let reach : begun ≤ length front = omega arith in
    let parts : drop begun (take (m + n) new) ≡ drop begun front ++ bytes = ap (drop begun) whole ∙ drop-append-le begun front bytes reach in
    let count : length bytes ≡ n = length-take-le n (drop m new) (omega (arith, length-drop m new)) in
    let there : bytes ≢ [] = λ none. let nothing : length bytes ≡ 0 = ap length none in omega arith in
    subst (GaveWhile P a c) (sym parts) (gave_more P a b c _ _ there p so one)

-- what was read after no bytes
pub reads_from_start : (P : List ℕ → Type 0) (a b : Option (List (List ℕ))) (start : List ℕ) → start ≡ []
    → ReadsWhile (λ given. P (start ++ given)) a b → ReadsWhile P a b
reads_from_start P a b start none p = subst (λ (t : List ℕ). ReadsWhile (λ given. P (t ++ given)) a b) none p
