-- The paths of the routes: each is of one route, with one list of values.
use Rattle.std.proofs.Common.{◌≡◌, ◌⊎◌, ◌∙◌, ℕ, ◌<◌, Bool, true, false, List, [], ◌∷◌, ◌++◌, length, refl, sym, ap, subst, arith, inl, inr, Some, None, append-nil, append_assoc, decimal, ◌==◌, ◌&&◌, not, nat_eq, nat_le, nat_lt, IsTrue}
use Rattle.toll_wire.proofs.Common.{list_all, and_from, and_parts, nat_tests, decimal_injective, decimal_nonempty, digits_decimal, Bytes, IsBatchNo, is_digit, is_name, is_name_byte, is_text_of, AreValues, IsPath, PathLeadsTo, count_parts, parts_of, texts_of, In, holes, tokens, Route, routes, spelled, path_text_of, Values}
use Rattle.std.proofs.lemmas.List.Folds.{list_all-append}
use Rattle.toll_wire.specs.declared.routes.values.Values.TheVariants.{Nothing, Name, NameAndNumber}
use Rattle.toll_wire.proofs.Numbers.{digits_model}
use Rattle.toll_wire.proofs.Patterns.{MatchesPattern, IsPathPart, NoSlash, are_apart, filled_apart, is_plain_pattern, wilds}

-- ---- values are parts

no_slash : (is_one : ℕ → Bool) → ((b : ℕ) → is_one b ≡ true → (b == 47) ≡ false) → (bytes : Bytes) → list_all is_one bytes ≡ true → NoSlash bytes
no_slash is_one none [] all = tt
no_slash is_one none (b ∷ bytes) all = let parts = and_parts (is_one b) (list_all is_one bytes) all in (none b parts.0, no_slash is_one none bytes parts.1)

record IsNameText (name : Bytes) : Type 0 where
  some : 0 < length name
  bytes : list_all is_name_byte name ≡ true

name_is_path_text : (name : Bytes) → IsTrue (is_name name) → IsNameText name
name_is_path_text name is =
    let text = and_parts (nat_le 1 (length name) && nat_le (length name) 16) (list_all is_name_byte name) (and_parts (is_text_of is_name_byte 1 16 name) _ is).0 in
    let size = and_parts (nat_le 1 (length name)) (nat_le (length name) 16) text.0 in
    record { some = grind (arith, nat_tests, size.0); bytes = text.1 }

number_text : (n : ℕ) → IsBatchNo n → list_all is_digit (decimal n) ≡ true
number_text n is = digits_decimal digits_model n (omega arith)

name_part : (name : Bytes) → IsTrue (is_name name) → IsPathPart name
name_part name is = let text = name_is_path_text name is in (text.some, no_slash is_name_byte (λ b e. grind (arith, nat_tests)) name text.bytes)

number_part : (n : ℕ) → IsBatchNo n → IsPathPart (decimal n)
number_part n is = (decimal_nonempty n (omega arith), no_slash is_digit (λ b e. grind (arith, nat_tests)) (decimal n) (number_text n is))

-- ---- paths are of their route's pattern

-- an ASCII byte, and no question mark
abbrev pub is_path_byte : ℕ → Bool
is_path_byte b = nat_le b 127 && not (b == 63)

literal : (front t : Bytes) (texts : List Bytes) (path : Bytes) → list_all is_path_byte front ≡ true → MatchesPattern t texts path → MatchesPattern (front ++ t) texts (front ++ path)
literal [] t texts path all is = is
literal (b ∷ front) t texts path all is =
    let parts = and_parts (is_path_byte b) (list_all is_path_byte front) all in
    inl (front ++ path, grind (arith, nat_tests, parts.0), refl, literal front t texts path parts.1 is)

pub with_values : (v : Values) (back : Bytes) → AreValues v → MatchesPattern back [] back → MatchesPattern (holes (parts_of v) ++ back) (texts_of v) (path_text_of v ++ back)
with_values Nothing back valid is = is
with_values (Name name) back valid is = inr (name, [], back, refl, name_part name valid, refl, refl, is)
with_values (NameAndNumber order n) back valid is =
    inr (
      order,
      decimal n ∷ [],
      47 ∷ (decimal n ++ back),
      refl,
      name_part order valid.0,
      refl,
      append_assoc order (47 ∷ decimal n) back,
      inl (decimal n ++ back, omega arith, refl, inr (decimal n, [], back, refl, number_part n valid.1, refl, refl, is)),
    )

-- what stands in front of and behind the parts is bytes of paths, and the pattern is plain, short, and has as many parts
abbrev pub is_good : Route → Bool
is_good r =
    (list_all is_path_byte r.front && list_all is_path_byte r.back)
    && ((is_plain_pattern (tokens r) && nat_lt (length (tokens r)) 1000) && nat_eq (wilds (tokens r)) (count_parts r.endpoint.parts))

-- no two routes have a path in common
abbrev pub all_apart : List Route → Bool
all_apart [] = true
all_apart (r ∷ rs) = list_all (λ q. are_apart (tokens r) (tokens q)) rs && all_apart rs

pub record IsGood (r : Route) : Type 0 where
  pub front : list_all is_path_byte r.front ≡ true
  pub back : list_all is_path_byte r.back ≡ true
  pub flat : is_plain_pattern (tokens r) ≡ true
  pub short : length (tokens r) < 1000
  pub parts : wilds (tokens r) ≡ count_parts r.endpoint.parts

pub good_is : (r : Route) → is_good r ≡ true → IsGood r
good_is r e =
    let both = and_parts (list_all is_path_byte r.front && list_all is_path_byte r.back) _ e in
    let texts = and_parts (list_all is_path_byte r.front) _ both.0 in
    let pattern = and_parts (is_plain_pattern (tokens r) && nat_lt (length (tokens r)) 1000) _ both.1 in
    let size = and_parts (is_plain_pattern (tokens r)) _ pattern.0 in
    record { front = texts.0; back = texts.1; flat = size.0; short = grind (arith, nat_tests, size.1); parts = grind (arith, nat_tests, pattern.1) }

pub list_all_in : {A : Type 0} (p : A → Bool) (xs : List A) (x : A) → list_all p xs ≡ true → In xs x → p x ≡ true
list_all_in p [] x all i = absurd i
list_all_in p (y ∷ xs) x all (inl e) = let parts = and_parts (p y) (list_all p xs) all in ap p (sym e) ∙ parts.0
list_all_in p (y ∷ xs) x all (inr i) = let parts = and_parts (p y) (list_all p xs) all in list_all_in p xs x parts.1 i

pub good : (r : Route) → In routes r → IsGood r
good r i = good_is r (list_all_in is_good routes r refl i)

pub spelled_is : (r : Route) (v : Values) → IsGood r → AreValues v → parts_of v ≡ r.endpoint.parts → MatchesPattern (tokens r) (texts_of v) (spelled r v)
spelled_is r v is valid fill =
    let back = subst (λ t. MatchesPattern t [] t) (append-nil r.back) (literal r.back [] [] [] is.back (refl, refl)) in
    literal r.front (holes r.endpoint.parts ++ r.back) (texts_of v) (path_text_of v ++ r.back) is.front
    (subst (λ p. MatchesPattern (holes p ++ r.back) (texts_of v) (path_text_of v ++ r.back)) fill (with_values v r.back valid back))

pub path_is : (r : Route) (v : Values) (path : Bytes) → IsGood r → IsPath r v path → MatchesPattern (tokens r) (texts_of v) path
path_is r v path good is = subst (MatchesPattern (tokens r) (texts_of v)) (sym is.text) (spelled_is r v good is.valid is.parts)

-- ---- and of no other

pub values_once : (v w : Values) → AreValues v → AreValues w → texts_of v ≡ texts_of w → v ≡ w
values_once Nothing Nothing one two e = refl
values_once (Name a) (Name b) one two e = let name : a ≡ b = cc e in ap Name name
values_once (NameAndNumber a m) (NameAndNumber b n) one two e =
    let name : a ≡ b = cc e in
    let text : decimal m ≡ decimal n = cc e in
    let number : m ≡ n = decimal_injective m n (omega (arith, one.1)) (omega (arith, two.1)) text in cc (name, number)
values_once Nothing (Name b) one two e = absurd (cc e)
values_once Nothing (NameAndNumber b n) one two e = absurd (cc e)
values_once (Name a) Nothing one two e = absurd (cc e)
values_once (Name a) (NameAndNumber b n) one two e = absurd (cc e)
values_once (NameAndNumber a m) Nothing one two e = absurd (cc e)
values_once (NameAndNumber a m) (Name b) one two e = absurd (cc e)

-- the path is of the first route with the same pattern
pub leads_to : (rs : List Route) (r : Route) (v : Values) (path : Bytes) → list_all is_good rs ≡ true → all_apart rs ≡ true → In rs r → IsPath r v path → PathLeadsTo rs path (Some (r.endpoint, v))
leads_to [] r v path all apart i is = absurd i
leads_to (q ∷ rs) r v path all apart (inl e) is = inl (v, subst (λ x. IsPath x v path) (sym e) is, ap (λ (x : Route). Some (x.endpoint, v)) (sym e))
leads_to (q ∷ rs) r v path all apart (inr i) is =
    let good = and_parts (is_good q) (list_all is_good rs) all in
    let parts = and_parts (list_all (λ x. are_apart (tokens q) (tokens x)) rs) (all_apart rs) apart in
    let here = good_is q good.0 in
    let there = good_is r (list_all_in is_good rs r good.1 i) in
    inr (
      λ w other. filled_apart (tokens q) (tokens r) (texts_of w) (texts_of v) path here.flat there.flat (list_all_in (λ x. are_apart (tokens q) (tokens x)) rs r parts.0 i) (path_is q w path here other) (path_is r v path there is),
      leads_to rs r v path good.1 parts.1 i is,
    )

pub place_leads_nowhere : (rs : List Route) (path : Bytes) → ((r : Route) (v : Values) → In rs r → IsPath r v path → ⊥) → PathLeadsTo rs path None
place_leads_nowhere [] path none = refl
place_leads_nowhere (r ∷ rs) path none = inr (λ v is. none r v (inl refl) is, place_leads_nowhere rs path (λ q v i. none q v (inr i)))

-- two routes with a path in common are one
pub same_route : (rs : List Route) (r q : Route) (texts others : List Bytes) (path : Bytes) → list_all is_good rs ≡ true → all_apart rs ≡ true → In rs r → In rs q
    → MatchesPattern (tokens r) texts path → MatchesPattern (tokens q) others path → r ≡ q
same_route [] r q texts others path all apart i j one two = absurd i
same_route (x ∷ rs) r q texts others path all apart i j one two =
    let goods = and_parts (is_good x) (list_all is_good rs) all in
    let parts = and_parts (list_all (λ y. are_apart (tokens x) (tokens y)) rs) (all_apart rs) apart in
    on goods parts i j (λ k l. same_route rs r q texts others path goods.1 parts.1 k l one two)
  where
    on : (is_good x ≡ true) × (list_all is_good rs ≡ true) → (list_all (λ y. are_apart (tokens x) (tokens y)) rs ≡ true) × (all_apart rs ≡ true) → (x ≡ r) ⊎ In rs r → (x ≡ q) ⊎ In rs q
        → (In rs r → In rs q → r ≡ q) → r ≡ q
    on goods parts (inl e) (inl f) later = sym e ∙ f
    on goods parts (inl e) (inr j) later =
        absurd (filled_apart (tokens x) (tokens q) texts others path (good_is x goods.0).flat (good_is q (list_all_in is_good rs q goods.1 j)).flat
        (list_all_in (λ z. are_apart (tokens x) (tokens z)) rs q parts.0 j) (subst (λ y. MatchesPattern (tokens y) texts path) (sym e) one) two)
    on goods parts (inr i) (inl f) later =
        absurd (filled_apart (tokens x) (tokens r) others texts path (good_is x goods.0).flat (good_is r (list_all_in is_good rs r goods.1 i)).flat
        (list_all_in (λ z. are_apart (tokens x) (tokens z)) rs r parts.0 i) (subst (λ y. MatchesPattern (tokens y) others path) (sym f) two) one)
    on goods parts (inr i) (inr j) later = later i j

-- ---- the bytes of paths

name_path : (b : ℕ) → is_name_byte b ≡ true → is_path_byte b ≡ true
name_path b e = grind (arith, nat_tests)

digit_path : (b : ℕ) → is_digit b ≡ true → is_path_byte b ≡ true
digit_path b e = grind (arith, nat_tests)

list_all_weaker : (p q : ℕ → Bool) → ((b : ℕ) → p b ≡ true → q b ≡ true) → (bytes : Bytes) → list_all p bytes ≡ true → list_all q bytes ≡ true
list_all_weaker p q more [] all = refl
list_all_weaker p q more (b ∷ bytes) all = let parts = and_parts (p b) (list_all p bytes) all in and_from (q b) (list_all q bytes) (more b parts.0) (list_all_weaker p q more bytes parts.1)

value_bytes : (v : Values) → AreValues v → list_all is_path_byte (path_text_of v) ≡ true
value_bytes Nothing valid = refl
value_bytes (Name name) valid = list_all_weaker is_name_byte is_path_byte name_path name (name_is_path_text name valid).bytes
value_bytes (NameAndNumber name n) valid =
    list_all-append is_path_byte name (47 ∷ decimal n)
    ∙ and_from _ _ (list_all_weaker is_name_byte is_path_byte name_path name (name_is_path_text name valid.0).bytes) (list_all_weaker is_digit is_path_byte digit_path (decimal n) (number_text n valid.1))

pub path_bytes : (r : Route) (v : Values) (path : Bytes) → IsGood r → IsPath r v path → list_all is_path_byte path ≡ true
path_bytes r v path good is =
    ap (list_all is_path_byte) is.text
    ∙ (list_all-append is_path_byte r.front (path_text_of v ++ r.back)
    ∙ and_from _ _ good.front (list_all-append is_path_byte (path_text_of v) r.back ∙ and_from _ _ (value_bytes v is.valid) good.back))
