-- A prefix of a stream that settles it.
use Rattle.std.proofs.Common.{◌≡◌, ◌∙◌, ℕ, ◌+◌, ◌≤◌, Bool, true, false, cond, List, [], ◌++◌, length, take, drop, map, refl, sym, ap, subst, arith, inl, inr, Option, Some, None, length-append, take-add, ◌↔◌, codes, nat_lt}
use Rattle.toll_protocol.proofs.Common.{take-append-le, drop-append-le, name_and_value, Pair, fields_named, is_present, length_claimed, IsHeadLen, IsHeadOf, IsRequestAt, IsRequestWithin, ParseResult, refused, IsParsedAs, IsSettled, HasBody, checked, by_length, host_fails}
use Rattle.std.proofs.lemmas.Bool.Decides.{nat_tests}
use Rattle.std.proofs.lemmas.Bool.{cases_lt}
use Rattle.httparse.specs.Grammar.{RequestHead}
use Rattle.httparse.proofs.GrammarLemmas.{request_unique}
use Rattle.toll_protocol.specs.declared.http_messages.failure.Failure.TheVariants.{BadRequest, NotImplemented}
use Rattle.toll_protocol.specs.declared.http_messages.settled.HeadSearch.{HeadSearch}
use Rattle.toll_protocol.specs.declared.http_messages.settled.HeadSearch.TheVariants.{Searched, Read}
use Rattle.toll_protocol.specs.Filled.{IsSearch}
use Rattle.toll_protocol.specs.Limits.{body_limit}

take_front : (text more : List ℕ) (n : ℕ) → n ≤ length text → take n (text ++ more) ≡ take n text
take_front text more n le = take-append-le n text more le

len_more : (text more : List ℕ) (n : ℕ) → IsHeadLen text n → IsHeadLen (text ++ more) n
len_more text more n is = record {
  within = omega (arith, is.within, length-append text more);
  ends = rw (take_front text more n is.within) is.ends;
  first = λ k lt e. is.first k lt (rw (take_front text more k (omega (arith, is.within, lt))) at e);
}

pub one_len : (text : List ℕ) (m n : ℕ) → IsHeadLen text m → IsHeadLen text n → m ≡ n
one_len text m n a b =
    elim (cases_lt m n) [
      | inl lt ↦ absurd (b.first m lt a.ends)
      | inr le ↦ elim (cases_lt n m) [ inl lt ↦ absurd (a.first n lt b.ends) | inr ge ↦ omega arith ]
    ]

head_more : (text more : List ℕ) (n : ℕ) (h : RequestHead) → IsHeadOf text n h → IsHeadOf (text ++ more) n h
head_more text more n h is = record {
  shortest = len_more text more n is.shortest;
  short = is.short;
  reads = rw (take_front text more n is.shortest.within) is.reads;
  room = is.room;
}

head_less : (text more : List ℕ) (n : ℕ) (h : RequestHead) → IsHeadLen text n → IsHeadOf (text ++ more) n h → IsHeadOf text n h
head_less text more n h len is = record {
  shortest = len;
  short = is.short;
  reads = rw (take_front text more n len.within) at is.reads;
  room = is.room;
}

-- A text has only one head.
pub one_head : (text : List ℕ) (n : ℕ) (h k : RequestHead) → IsHeadOf text n h → IsHeadOf text n k → h ≡ k
one_head text n h k a b = (request_unique (take n text) h k [] [] a.reads b.reads).0

-- If the body is there, the checks don't use the bytes after it.
length_more : (c : Option ℕ) (h : RequestHead) (fields : List Pair) (rest more : List ℕ)
    → ((len : ℕ) → c ≡ Some len → len ≤ body_limit → len ≤ length rest) → by_length c h fields (rest ++ more) ≡ by_length c h fields rest
length_more None h fields rest more enough = refl
length_more (Some n) h fields rest more enough = by_size (nat_lt body_limit n) refl
  where
    by_size : (b : Bool) → nat_lt body_limit n ≡ b → by_length (Some n) h fields (rest ++ more) ≡ by_length (Some n) h fields rest
    by_size true e = rw e refl
    by_size false e =
        let small : n ≤ body_limit = grind (arith, nat_tests) in
        let there = enough n refl small in
        let one : nat_lt (length rest) n ≡ false = grind (arith, nat_tests) in
        let long : n ≤ length (rest ++ more) = omega (arith, there, length-append rest more) in
        let two : nat_lt (length (rest ++ more)) n ≡ false = grind (arith, nat_tests) in
        rw (two, one, take-append-le n rest more there) refl

checked_more : (h : RequestHead) (rest more : List ℕ) → HasBody h rest
    → checked h (map name_and_value h.fields) (rest ++ more) ≡ checked h (map name_and_value h.fields) rest
checked_more h rest more enough =
    let fields = map name_and_value h.fields in
    ap (λ (t : ParseResult). cond (host_fails h.minor (fields_named (codes "host") fields)) (refused BadRequest)
    (cond (is_present (fields_named (codes "transfer-encoding") fields)) (refused NotImplemented) t))
    (length_more (length_claimed (fields_named (codes "content-length") fields)) h fields rest more enough)

-- A settled text keeps its result with more bytes after it.
settled_then : (text more : List ℕ) (outcome : ParseResult) → IsSettled text → IsParsedAs text outcome → IsParsedAs (text ++ more) outcome
settled_then text more outcome (inl far) (inl head) = let (n, h, is, e) = head in absurd (far.0 n is.shortest.within is.short is.shortest.ends)
settled_then text more outcome (inl far) (inr none) =
    inr (
      λ n h is.
          let le : n ≤ length text = omega (arith, is.short, far.1) in
          far.0 n le is.short (rw (take_front text more n le) at is.shortest.ends),
      none.1,
    )
settled_then text more outcome (inr near) (inl head) =
    let (n, len, short, enough) = near in
    let (m, h, is, e) = head in
    let same : m ≡ n = one_len text m n is.shortest len in
    let P : ℕ → Type 0 = λ k. IsHeadOf text k h in
    let there : IsHeadOf text n h = subst P same is in
    inl (
      m,
      h,
      head_more text more m h is,
      e ∙ sym (rw (same, drop-append-le n text more len.within) (checked_more h (drop n text) more (enough h there))),
    )
settled_then text more outcome (inr near) (inr none) =
    let (n, len, short, enough) = near in
    inr (
      λ m h is.
          let same : m ≡ n = one_len (text ++ more) m n is.shortest (len_more text more n len) in
          let P : ℕ → Type 0 = λ k. IsHeadOf (text ++ more) k h in
          none.0 n h (head_less text more n h len (subst P same is)),
      none.1,
    )

-- A settled text with more bytes after it has the result that it has without them.
settled_back : (text more : List ℕ) (outcome : ParseResult) → IsSettled text → IsParsedAs (text ++ more) outcome → IsParsedAs text outcome
settled_back text more outcome (inl far) (inl head) =
    let (n, h, is, e) = head in
    let le : n ≤ length text = omega (arith, is.short, far.1) in
    absurd (far.0 n le is.short (rw (take_front text more n le) at is.shortest.ends))
settled_back text more outcome (inl far) (inr none) =
    inr (λ n h is. far.0 n is.shortest.within is.short is.shortest.ends, none.1)
settled_back text more outcome (inr near) (inl head) =
    let (n, len, short, enough) = near in
    let (m, h, is, e) = head in
    let same : m ≡ n = one_len (text ++ more) m n is.shortest (len_more text more n len) in
    let P : ℕ → Type 0 = λ k. IsHeadOf (text ++ more) k h in
    let there : IsHeadOf text n h = head_less text more n h len (subst P same is) in
    inl (n, h, there, e ∙ rw (same, drop-append-le n text more len.within) (checked_more h (drop n text) more (enough h there)))
settled_back text more outcome (inr near) (inr none) = inr (λ n h is. none.0 n h (head_more text more n h is), none.1)

pub settled : (text more : List ℕ) (outcome : ParseResult) → IsSettled text → IsParsedAs text outcome ↔ IsParsedAs (text ++ more) outcome
settled text more outcome is = (settled_then text more outcome is, settled_back text more outcome is)

-- A text with a head is settled if and only if the body is there.
pub settled_by_body : (text front rest : List ℕ) (n : ℕ) (h : RequestHead) (There : Type 0) → IsHeadOf text n h → rest ≡ drop n text
    → There ↔ HasBody h rest → There ↔ IsSettled text
settled_by_body text front rest n h There is back body = (
  λ there. inr (
    n,
    is.shortest,
    is.short,
    λ k other.
        let here : HasBody h (drop n text) = subst (HasBody h) back (body.0 there) in
        subst (λ (x : RequestHead). HasBody x (drop n text)) (one_head text n h k is other) here,
  ),
  λ settled. by_case settled,
)
  where
    by_case : IsSettled text → There
    by_case (inl far) = absurd (far.0 n is.shortest.within is.short is.shortest.ends)
    by_case (inr near) =
        let (m, len, short, enough) = near in
        let same : n ≡ m = one_len text n m is.shortest len in
        let P : ℕ → Type 0 = λ k. IsHeadOf text k h in
        body.1 (subst (HasBody h) (sym (back ∙ ap (λ k. drop k text) same)) (enough h (subst P same is)))

-- The search of a prefix has come as far when the prefix grows.
pub search_more : (old new : List ℕ) (m n : ℕ) (search : HeadSearch) → take m new ≡ take m old → IsSearch (take m old) search → IsSearch (take (m + n) new) search
search_more old new m n search same is =
    let whole : take (m + n) new ≡ take m old ++ take n (drop m new) = take-add m n new ∙ ap (λ t. t ++ take n (drop m new)) same in
    subst (λ (t : List ℕ). IsSearch t search) (sym whole) (behind (take m old) (take n (drop m new)) search is)
  where
    behind : (text more : List ℕ) (search : HeadSearch) → IsSearch text search → IsSearch (text ++ more) search
    behind text more (Searched place) is = (
      λ k lt ends. is.0 k lt (rw (take_front text more k (omega (arith, is.1, lt))) at ends),
      omega (arith, is.1, length-append text more),
    )
    behind text more (Read head) is =
        let front = take_front text more head.line.len is.is.shortest.within in
        record {
          parts = is.parts;
          is = head_more text more head.line.len is.parts is.is;
          places = subst (λ (t : List ℕ). IsRequestAt t head.fields head.line is.parts) (sym front) is.places;
          within = subst (λ (t : List ℕ). IsRequestWithin t head.fields head.line) (sym front) is.within;
        }
