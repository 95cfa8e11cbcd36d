-- The tests on two movements as the table has them.
use Rattle.std.proofs.Common.{◌≡◌, ◌≤◌, ℕ, ℤ, pos, Bool, true, false, ◌&&◌, List, [], ◌∷◌, refl, sym, ap, subst, ◌∙◌, arith}
use Rattle.toll_sql.proofs.Common.{false≢true, list_all, is_eq, is_le, int_cmp, nat_tests, tied_itself, exact_signed, Binary, binary, is_true, Row, column, value_cmp, holds, Value, Null, Int, Text, Compare, Is, Eq, Le, value_cmp_total, value_cmp-Int, Bytes, Move, Actual, MoveRow, Role, Consumed, Produced, IsActual, and_from, actual_kind, kind_number, move_lot, move_order, move_number, move_segment, move_cells, equal_of}
use Rattle.toll_sql.proofs.JoinQuery.{owners_tests, all_tests}
use Rattle.toll_sql.proofs.PutCommon.{equals_text, compares_text_only as text_of, truth_of_bool}
use Rattle.toll_sql.proofs.UpsertLemmas.{equals_int}

-- ---- tests of values

abbrev pub equals : Value → Value → Bool
equals a b = is_true (binary (Compare Eq Binary) a b)

abbrev pub is_at_most : Value → Value → Bool
is_at_most a b = is_true (binary (Compare Le Binary) a b)

abbrev pub is_no_value : Value → Bool
is_no_value a = is_true (binary (Is Binary) a Null)

pub equals_text_only : (v : Value) (t : List ℕ) → equals v (Text t) ≡ true → v ≡ Text t
equals_text_only v t h = text_of v t (sym (equals_text v t) ∙ h)

pub text_itself : (t : List ℕ) → equals (Text t) (Text t) ≡ true
text_itself t = equals_text (Text t) t ∙ ap is_eq (tied_itself value_cmp_total (Text t))

pub texts_same : (s t : List ℕ) → equals (Text s) (Text t) ≡ true → s ≡ t
texts_same s t h = let e = equals_text_only (Text s) t h in cc

pub numbers_same : (m n : ℕ) → equals (Int (pos m)) (Int (pos n)) ≡ true → m ≡ n
numbers_same m n h = let e = exact_signed (pos m) (pos n) (sym (value_cmp-Int (pos m) (pos n)) ∙ equal_of _ (sym (equals_int (Int (pos m)) (pos n)) ∙ h)) in cc

pub number_itself : (n : ℕ) → equals (Int (pos n)) (Int (pos n)) ≡ true
number_itself n = equals_int (Int (pos n)) (pos n) ∙ ap is_eq (tied_itself value_cmp_total (Int (pos n)))

at_most_int : (m n : ℤ) → is_at_most (Int m) (Int n) ≡ is_le (int_cmp m n)
unfolding binary
at_most_int m n = truth_of_bool _ ∙ ap is_le (value_cmp-Int m n)

ints_at_most : (m n : ℕ) → is_at_most (Int (pos m)) (Int (pos n)) ≡ true → m ≤ n
ints_at_most m n h = let e : is_le (int_cmp (pos m) (pos n)) ≡ true = sym (at_most_int (pos m) (pos n)) ∙ h in grind (arith, nat_tests)

at_most_from : (m n : ℕ) → m ≤ n → is_at_most (Int (pos m)) (Int (pos n)) ≡ true
at_most_from m n h = at_most_int (pos m) (pos n) ∙ grind (arith, nat_tests)

pub text_is_value : (t : List ℕ) → is_no_value (Text t) ≡ false
unfolding binary value_cmp
text_is_value t = refl

pub null_is_none : is_no_value Null ≡ true
unfolding binary value_cmp lib.Ieee.is_nan lib.Ieee.lt
null_is_none = refl

-- ---- nine tests, one after the other

pub record AreTrue (a b c d e f g h i : Bool) : Type 0 where
  pub at0 : a ≡ true
  pub at1 : b ≡ true
  pub at2 : c ≡ true
  pub at3 : d ≡ true
  pub at4 : e ≡ true
  pub at5 : f ≡ true
  pub at6 : g ≡ true
  pub at7 : h ≡ true
  pub at8 : i ≡ true

all_true : (a b c d e f g h i : Bool) → (a && (b && (c && (d && (e && (f && (g && (h && (i && true))))))))) ≡ true → AreTrue a b c d e f g h i
all_true true true true true true true true true true k = record { at0 = refl; at1 = refl; at2 = refl; at3 = refl; at4 = refl; at5 = refl; at6 = refl; at7 = refl; at8 = refl }
all_true _ _ _ _ _ _ _ _ _ k = absurd (false≢true k)

true_all : (a b c d e f g h i : Bool) → AreTrue a b c d e f g h i → (a && (b && (c && (d && (e && (f && (g && (h && (i && true))))))))) ≡ true
true_all a b c d e f g h i t = and_from a _ t.at0 (and_from b _ t.at1 (and_from c _ t.at2 (and_from d _ t.at3 (and_from e _ t.at4 (and_from f _ t.at5 (and_from g _ t.at6 (and_from h _ t.at7 (and_from i true t.at8 refl))))))))

module _ (params c p v w : Row) where
  -- These rows pass the tests.
  abbrev pub PassesTests : Type 0
  PassesTests = AreTrue (equals (column p 1) (column c 1)) (equals (column p 9) (column c 9)) (equals (column p 10) (column c 10)) (equals (column c 1) (column params 0)) (equals (column c 3) (Int (pos 4))) (equals (column p 3) (Int (pos 5))) (is_at_most (column c 11) (column p 11)) (is_no_value (column v 2)) (is_no_value (column w 2))

  pub owners_pass : list_all (holds (params ∷ c ∷ p ∷ v ∷ w ∷ [])) owners_tests ≡ true → PassesTests
  owners_pass h = all_true _ _ _ _ _ _ _ _ _ h

  pub pass_owners : PassesTests → list_all (holds (params ∷ c ∷ p ∷ v ∷ w ∷ [])) owners_tests ≡ true
  pass_owners t = true_all _ _ _ _ _ _ _ _ _ t

-- the same tests for all owners, without the owner
module _ (c p v w : Row) (o : Bytes) where
  pub all_pass : column c 1 ≡ Text o → list_all (holds ([] ∷ c ∷ p ∷ v ∷ w ∷ [])) all_tests ≡ true → PassesTests (Text o ∷ []) c p v w
  all_pass owned h =
      let t = all_true (equals (column p 1) (column c 1)) (equals (column p 9) (column c 9)) (equals (column p 10) (column c 10)) true (equals (column c 3) (Int (pos 4))) (equals (column p 3) (Int (pos 5))) (is_at_most (column c 11) (column p 11)) (is_no_value (column v 2)) (is_no_value (column w 2)) h in
      record { at0 = t.at0; at1 = t.at1; at2 = t.at2; at3 = subst (λ x. equals x (Text o) ≡ true) (sym owned) (text_itself o); at4 = t.at4; at5 = t.at5; at6 = t.at6; at7 = t.at7; at8 = t.at8 }

  pub pass_all : PassesTests (Text o ∷ []) c p v w → list_all (holds ([] ∷ c ∷ p ∷ v ∷ w ∷ [])) all_tests ≡ true
  pass_all t = true_all (equals (column p 1) (column c 1)) (equals (column p 9) (column c 9)) (equals (column p 10) (column c 10)) true (equals (column c 3) (Int (pos 4))) (equals (column p 3) (Int (pos 5))) (is_at_most (column c 11) (column p 11)) (is_no_value (column v 2)) (is_no_value (column w 2))
      (record { at0 = t.at0; at1 = t.at1; at2 = t.at2; at3 = refl; at4 = t.at4; at5 = t.at5; at6 = t.at6; at7 = t.at7; at8 = t.at8 })

-- ---- of movements

-- One movement consumes for the batch for which the other produces, and the production is in no lower segment.
pub record IsPairOf (x y : MoveRow) : Type 0 where
  pub order : move_order y.what ≡ move_order x.what
  pub number : move_number y.what ≡ move_number x.what
  pub consumes : kind_number x.what ≡ 4
  pub produces : kind_number y.what ≡ 5
  pub not_above : move_segment x.what ≤ move_segment y.what

module _ (o : Bytes) (id id' : Value) (x y : MoveRow) (v w : Row) where
  pub pair_of : PassesTests (Text o ∷ []) (id ∷ move_cells o x) (id' ∷ move_cells o y) v w → IsPairOf x y
  pair_of t = record {
    order = texts_same _ _ t.at1;
    number = numbers_same _ _ t.at2;
    consumes = numbers_same _ _ t.at4;
    produces = numbers_same _ _ t.at5;
    not_above = ints_at_most _ _ t.at6;
  }

  pub pair_passes : IsPairOf x y → is_no_value (column v 2) ≡ true → is_no_value (column w 2) ≡ true → PassesTests (Text o ∷ []) (id ∷ move_cells o x) (id' ∷ move_cells o y) v w
  pair_passes pair unvoided_x unvoided_y = record {
    at0 = text_itself o;
    at1 = subst (λ t. equals (Text (move_order y.what)) (Text t) ≡ true) pair.order (text_itself (move_order y.what));
    at2 = subst (λ n. equals (Int (pos (move_number y.what))) (Int (pos n)) ≡ true) pair.number (number_itself (move_number y.what));
    at3 = text_itself o;
    at4 = subst (λ n. equals (Int (pos n)) (Int (pos 4)) ≡ true) (sym pair.consumes) (number_itself 4);
    at5 = subst (λ n. equals (Int (pos n)) (Int (pos 5)) ≡ true) (sym pair.produces) (number_itself 5);
    at6 = at_most_from _ _ pair.not_above;
    at7 = unvoided_x;
    at8 = unvoided_y;
  }

-- ---- actuals by their kind

abbrev IsUse : Bytes → Role → MoveRow → Type 0
IsUse o role row = IsActual (move_order row.what) (move_number row.what) (move_segment row.what) role (move_lot o row.what) row

as_actual : (o : Bytes) (role : Role) (what : Move) → kind_number what ≡ actual_kind role → (material : Bytes) × (sublot : Bytes) × (what ≡ Actual (move_order what) (move_number what) (move_segment what) role material (move_lot o what) sublot)
as_actual o Consumed (Actual order number segment Consumed material lot sublot) k = (material, sublot, refl)
as_actual o Produced (Actual order number segment Produced material lot sublot) k = (material, sublot, refl)
as_actual o _ _ k = absurd (omega (arith, k))

pub actual_of_kind : (o : Bytes) (role : Role) (row : MoveRow) → kind_number row.what ≡ actual_kind role → IsUse o role row
actual_of_kind o role row k =
    let a = as_actual o role row.what k in
    record { material = a.0; sublot = a.1; is = a.2 }
