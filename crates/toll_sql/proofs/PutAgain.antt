-- The puts of sublots that later ones overwrite may be left out.
use Rattle.std.proofs.Common.{◌≡◌, inl, inr, ◌&&◌, ◌||◌, not, Bool, true, false, List, [], ◌∷◌, ◌++◌, reverse, length, drop, ◌+◌, ◌-◌, ◌≤◌, ℕ, get_or, Some, None, cond, Result, IsTrue, nat_lt, ◌<◌, ◌^◌, refl, sym, ap, subst, ◌∙◌, arith, if◌then◌else◌}
use Rattle.toll_sql.proofs.Common.{false≢true, and_parts, cases_Bool, is_eq, is_eq-then, nat_tests, on_total, tied_itself, nat_list_cmp_total, IsTotalOrder, equal, first_key, plain, same_bytes-exact, same_bytes-refl, AllByRecursion, Bytes, Change, Error, Put, Row, State, SublotRow, Text, Trees, Value, column, is_name, reverse-append, cells_of, sublot_cells, IsSublotValid, are_putting, is_put_again, is_same, key_for, last_puts, sublot_cmp, sublot_put, IsReady, IsTransactionStep, MakesPuts, PutsAll, PutsChange, cells_of_change, has_row_key, table_of_change, made_all, tree_of, IsStorable, IsSublot, Sublots, then_total}
use Rattle.toll_keep.proofs.Changed.{next_left}
use Rattle.toll_base.specs.declared.rows.Row.TheVariants as of
use Rattle.toll_sql.specs.declared.last_puts.SublotKey.{SublotKey}
use Rattle.toll_sql.proofs.HoldsAfter.{trees_apart, other_tree}
use Rattle.toll_sql.proofs.PutCommon.{key_equals, equal_text_only, texts_equal}
use Rattle.toll_sql.proofs.PutTexts.{table_number}
use Rattle.toll_sql.proofs.StepLemmas.{makes_more}
use Rattle.toll_sql.proofs.TreePuts.{put_aside, put_before, tree_put_first}

-- ---- the name of a sublot

sublot_cmp_total : IsTotalOrder sublot_cmp
sublot_cmp_total = then_total (on_total (λ (k : SublotKey). k.owner) nat_list_cmp_total) (then_total (on_total (λ (k : SublotKey). k.lot) nat_list_cmp_total) (on_total (λ (k : SublotKey). k.sublot) nat_list_cmp_total))

one_key : (a b : SublotKey) → a.owner ≡ b.owner → a.lot ≡ b.lot → a.sublot ≡ b.sublot → a ≡ b
one_key a b o l s =
    ap (λ x. record { owner = x; lot = a.lot; sublot = a.sublot }) o
    ∙ ap (λ x. record { owner = b.owner; lot = x; sublot = a.sublot }) l
    ∙ ap (λ x. record { owner = b.owner; lot = b.lot; sublot = x }) s

same_is : (a b : SublotKey) → a ≡ b → is_same a (Some b) ≡ true
same_is a b e = ap (λ k. is_same k (Some b)) e ∙ ap is_eq (tied_itself sublot_cmp_total b)

same_exact : (a b : SublotKey) → is_same a (Some b) ≡ true → b ≡ a
same_exact a b h =
    let owners = and_parts _ _ (sym (is_eq-then _ _) ∙ h) in
    let lots = and_parts _ _ (sym (is_eq-then _ _) ∙ owners.1) in
    one_key b a (same_bytes-exact b.owner a.owner owners.0) (same_bytes-exact b.lot a.lot lots.0) (same_bytes-exact b.sublot a.sublot lots.1)

storable : (o : Bytes) (row : SublotRow) → IsStorable row.amount → sublot_put (Put o (of.Sublot row)) ≡ Some (key_for o row)
storable o row lt = let fits : nat_lt row.amount (2 ^ 63) ≡ true = grind (arith, nat_tests, lt) in ap (λ (b : Bool). if b then Some (key_for o row) else None) fits

-- ---- the row of the sublot

abbrev is_equal_text : Value → Bytes → Bool
is_equal_text v t = equal (first_key plain).collation v (Text t)

abbrev names : SublotKey → Row → Bool
names key cells = is_equal_text (column cells 0) key.owner && (is_equal_text (column cells 1) key.lot && (is_equal_text (column cells 2) key.sublot && true))

has_key_reads : (o : Bytes) (row : SublotRow) (r : Row) → has_row_key Sublots (sublot_cells o row) r ≡ names (key_for o row) (cells_of r)
has_key_reads o row [] = refl
has_key_reads o row (v ∷ r) = refl

again_itself : (t : Bytes) → is_equal_text (Text t) t ≡ true
again_itself t = key_equals (Text t) t ∙ texts_equal t t ∙ same_bytes-refl t

row_is_named : (o : Bytes) (row : SublotRow) → names (key_for o row) (sublot_cells o row) ≡ true
row_is_named o row = rw (again_itself o, again_itself row.lot, again_itself row.sublot) refl

texts_one : (v : Value) (s t : Bytes) → is_equal_text v s ≡ true → is_equal_text v t ≡ true → s ≡ t
texts_one v s t a b = let same : Text s ≡ Text t = sym (equal_text_only v s a) ∙ equal_text_only v t b in cc

one_named : (a b : SublotKey) (cells : Row) → names a cells ≡ true → names b cells ≡ true → a ≡ b
one_named a b cells h g =
    let h0 = and_parts _ _ h in
    let g0 = and_parts _ _ g in
    let h1 = and_parts _ _ h0.1 in
    let g1 = and_parts _ _ g0.1 in
    one_key a b (texts_one (column cells 0) a.owner b.owner h0.0 g0.0) (texts_one (column cells 1) a.lot b.lot h1.0 g1.0) (texts_one (column cells 2) a.sublot b.sublot (and_parts _ _ h1.1).0 (and_parts _ _ g1.1).0)

-- ---- a put of the sublot before other changes

module _ (o : Bytes) (row : SublotRow) (valid : IsTrue (is_name o) × IsSublot row) where
  abbrev first_put : Change
  first_put = Put o (of.Sublot row)

  abbrev first_key_put : SublotKey
  first_key_put = key_for o row

  abbrev Between : Change → Trees → Trees → Type 0
  Between e old new = (mid : Trees) × PutsChange first_put old mid × PutsChange e mid new

  -- a change that puts the sublot again
  puts_again : (e : Change) (old new : Trees) → is_same first_key_put (sublot_put e) ≡ true → PutsChange e old new → Between e old new
  puts_again (Put p (of.Sublot y)) old new same one =
      let its : key_for p y ≡ first_key_put = same_exact first_key_put (key_for p y) (ap (is_same first_key_put) (sym (storable p y one.valid.1.amount)) ∙ same) in
      let it = put_before made_all (tree_of Sublots) (has_row_key Sublots (sublot_cells o row)) (has_row_key Sublots (sublot_cells p y)) (names first_key_put) (has_key_reads o row) (λ r. has_key_reads p y r ∙ ap (λ k. names k (cells_of r)) its) (sublot_cells o row) (sublot_cells p y) (row_is_named o row) old new one.put in
      (it.0, record { valid = valid; put = it.1 }, record { valid = one.valid; put = it.2 })
  puts_again (Put p (of.Material y)) old new same one = absurd (false≢true same)
  puts_again _ old new same one = absurd (false≢true same)

  -- a change of another table
  elsewhere : (e : Change) → (table_number (table_of_change e) ≡ table_number Sublots → ⊥) → (old mid new : Trees) → PutsChange e old mid → PutsChange first_put mid new → Between e old new
  elsewhere e differ old mid new one two =
      let k = table_of_change e in
      let kept = other_tree Sublots k (cells_of_change e) old mid (λ same. differ (sym same)) one.put in
      let stays = other_tree k Sublots (sublot_cells o row) mid new differ two.put in
      let it = put_aside made_all (tree_of Sublots) (tree_of k) (trees_apart k Sublots differ) (has_row_key k (cells_of_change e)) (has_row_key Sublots (sublot_cells o row)) (cells_of_change e) (sublot_cells o row) old mid new kept stays one.put two.put in
      (it.0, record { valid = valid; put = it.1 }, record { valid = one.valid; put = it.2 })

  -- a change that puts another sublot
  beside : (e : Change) (old mid new : Trees) → is_same first_key_put (sublot_put e) ≡ false → PutsChange e old mid → PutsChange first_put mid new → Between e old new
  beside (Put p (of.Sublot y)) old mid new other one two =
      let differ : is_same first_key_put (Some (key_for p y)) ≡ false = ap (is_same first_key_put) (sym (storable p y one.valid.1.amount)) ∙ other in
      let parted = λ (cells : Row) (a : names (key_for p y) cells ≡ true) (b : names first_key_put cells ≡ true). false≢true (sym differ ∙ same_is first_key_put (key_for p y) (one_named first_key_put (key_for p y) cells b a)) in
      let it =
      tree_put_first made_all (tree_of Sublots) (has_row_key Sublots (sublot_cells p y)) (has_row_key Sublots (sublot_cells o row)) (names (key_for p y)) (names first_key_put) (has_key_reads p y) (has_key_reads o row) parted (sublot_cells p y) (sublot_cells o row) (row_is_named p y) (row_is_named o row) old mid new one.put two.put in
      (it.0, record { valid = valid; put = it.1 }, record { valid = one.valid; put = it.2 })
  beside (Put p (of.Material y)) old mid new other one two = elsewhere (Put p (of.Material y)) (λ same. absurd (omega (arith, same))) old mid new one two
  beside e old mid new other one two = elsewhere e (λ same. absurd (omega (arith, same))) old mid new one two

  pub may_come_before : (later : List Change) (old new : Trees) → are_putting later first_key_put ≡ true → PutsAll later old new → PutsAll (first_put ∷ later) old new
  may_come_before [] old new some puts = absurd (false≢true some)
  may_come_before (e ∷ later) old new some puts = elim (cases_Bool (is_same first_key_put (sublot_put e))) [
    | inl same ↦ (let it = puts_again e old puts.0 same puts.1 in (it.0, it.1, (puts.0, it.2, puts.2)))
    | inr other ↦ (
        let rest = may_come_before later puts.0 new (ap (λ b. b || are_putting later first_key_put) (sym other) ∙ some) puts.2 in
        let it = beside e old puts.0 rest.0 other puts.1 rest.1 in
        (it.0, it.1, (rest.0, it.2, rest.2))
        )
  ]

-- ---- all changes

put_left_out : (change : Change) (later : List Change) (old new : Trees) → IsSublotValid change → is_put_again later (sublot_put change) ≡ true → PutsAll later old new → PutsAll (change ∷ later) old new
put_left_out (Put o (of.Sublot row)) later old new valid some puts = elim (cases_Bool (nat_lt row.amount (2 ^ 63))) [
  | inl fits ↦ (let is = rw fits at valid in may_come_before o row is later old new (rw fits at some) puts)
  | inr long ↦ absurd (false≢true (rw long at some))
]
put_left_out (Put o (of.Material row)) later old new valid some puts = absurd (false≢true some)
put_left_out _ later old new valid some puts = absurd (false≢true some)

pub last_puts_suffice : (changes : List Change) (old new : Trees) → AllByRecursion IsSublotValid changes → PutsAll (last_puts changes) old new → PutsAll changes old new
last_puts_suffice [] old new valid puts = puts
last_puts_suffice (change ∷ later) old new valid puts = elim (cases_Bool (is_put_again later (sublot_put change))) [
  | inl some ↦ put_left_out change later old new valid.0 some (last_puts_suffice later old new valid.1 (rw some at puts))
  | inr last ↦ (let it = rw last at puts in (it.0, it.1, last_puts_suffice later it.0 new valid.1 it.2))
]

-- ---- the last puts

pub cond_or : (a b : Bool) → cond a true b ≡ (a || b)
cond_or true b = refl
cond_or false b = refl

pub one_before : (changes : List Change) (n : ℕ) (change : Change) → 0 < n → n ≤ length changes → change ≡ get_or changes (n - 1) change → drop (n - 1) changes ≡ change ∷ drop n changes
one_before changes n change some within is =
    let low : n - 1 < length changes = omega (arith, some, within) in
    let same : n - 1 + 1 ≡ n = omega (arith, some) in
    next_left changes (n - 1) change low is ∙ ap (λ m. change ∷ drop m changes) same

module _ (change : Change) (later : List Change) (b : Bool) (is : b ≡ not (is_put_again later (sublot_put change))) (last : List Change) (so_far : last ≡ reverse (last_puts later)) where
  pub one_kept : b ≡ true → last ++ change ∷ [] ≡ reverse (last_puts (change ∷ later))
  one_kept new = elim (cases_Bool (is_put_again later (sublot_put change))) [
    | inl some ↦ absurd (false≢true (ap not (sym some) ∙ sym is ∙ new))
    | inr none ↦ ap (λ l. l ++ change ∷ []) so_far ∙ sym (reverse-append (change ∷ []) (last_puts later)) ∙ ap (λ (p : Bool). reverse (if p then last_puts later else change ∷ last_puts later)) (sym none)
  ]

  pub last_left : b ≡ false → last ≡ reverse (last_puts (change ∷ later))
  last_left old = elim (cases_Bool (is_put_again later (sublot_put change))) [
    | inl some ↦ so_far ∙ ap (λ (p : Bool). reverse (if p then last_puts later else change ∷ last_puts later)) (sym some)
    | inr none ↦ absurd (false≢true (sym old ∙ is ∙ ap not none))
  ]

-- ---- the last puts alone may be made

pub made_all_of : {X : Type 0} (changes last : List Change) → last ≡ last_puts changes → AllByRecursion IsSublotValid changes → (old new : State) (r : Result X Error) → IsTransactionStep IsReady (MakesPuts (PutsAll last)) old new r
    → IsTransactionStep IsReady (MakesPuts (PutsAll changes)) old new r
made_all_of changes last is valid old new r = makes_more IsReady (MakesPuts (PutsAll last)) (MakesPuts (PutsAll changes)) old new r (λ _ h. record {
  put = last_puts_suffice changes old.now.trees new.now.trees valid (subst (λ l. PutsAll l old.now.trees new.now.trees) is h.put);
  ready = h.ready;
  schema = h.schema;
  committed = h.committed;
})
