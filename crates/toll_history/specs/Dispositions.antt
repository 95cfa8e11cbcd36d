-- Results of tests, and dispositions of lots (IEC 62264-2, test results and the status of material lots).
use Rattle.std.specs.Prelude.{ℕ, ◌+◌, ℤ, Bool, false, not, ◌&&◌, ◌||◌, ◌==◌, int_lt, if◌then◌else◌, Option, Some, None, List, [], ◌∷◌}
use Rattle.toll_history.specs.Common.{list_any, Bytes, same_bytes, count, first_some, or_else, is_some_where, ResultRow, TestRow, Disposition, Quarantined, Released, Rejected}
use Rattle.toll_history.specs.Command.{Action, RecordResult, Release, Reject}
use Rattle.toll_history.specs.Work.{test_of, test_added, count_added}
use Rattle.toll_base.specs.declared.limits.Limits.{Limits}

-- ---- results

abbrev pub is_result_of : Bytes → Bytes → Action → Bool
is_result_of lot test (RecordResult l t value day) = same_bytes l lot && same_bytes t test
is_result_of lot test _ = false

abbrev pub value_recorded : Action → Option ℤ
value_recorded (RecordResult lot test value day) = Some value
value_recorded _ = None

-- the latest value of the lot's test
abbrev pub latest_value : List Action → Bytes → Bytes → Option ℤ
latest_value own lot test = first_some (λ a. if is_result_of lot test a then value_recorded a else None) own

abbrev pub count_results_of : List Action → Bytes → Bytes → ℕ
count_results_of own lot test = count (is_result_of lot test) own

abbrev pub count_results : List Action → ℕ
count_results own = count_added value_recorded own

abbrev pub result_row : Bytes → Bytes → ℕ → Action → Option ResultRow
result_row lot test number (RecordResult l t v d) = Some (record { lot = lot; test = test; number = number; value = v; day = d })
result_row lot test number _ = None

-- the result of the lot's test with this number, counted from the oldest, which has 1
abbrev pub result_of : List Action → Bytes × Bytes × ℕ → Option ResultRow
result_of [] k = None
result_of (a ∷ own) k = or_else (if is_result_of k.0 k.1 a && count_results_of own k.0 k.1 + 1 == k.2 then result_row k.0 k.1 k.2 a else None) (result_of own k)

-- ---- limits

abbrev pub is_outside : Limits → ℤ → Bool
is_outside limits value = int_lt value limits.low || int_lt limits.high value

-- whether the value is out of the limits of the material's test
abbrev pub is_out_of_limits : List Action → Bytes → Bytes → ℤ → Bool
is_out_of_limits own material test value = is_some_where (λ row. is_outside row.limits value) (test_of own (material, test))

-- whether the test's latest value is there and within its limits
abbrev pub passes_test : List Action → Bytes → TestRow → Bool
passes_test own lot row = is_some_where (λ value. not (is_outside row.limits value)) (latest_value own lot row.test)

-- whether some test of the material has no latest value of the lot within its limits
abbrev pub has_open_test : List Action → Bytes → Bytes → Bool
has_open_test own material lot = list_any (λ a. is_some_where (λ row. same_bytes row.material material && not (passes_test own lot row)) (test_added a)) own

-- ---- dispositions

abbrev pub rejects : Bytes → Action → Bool
rejects lot (Reject l) = same_bytes l lot
rejects lot _ = false

abbrev pub releases : Bytes → Action → Bool
releases lot (Release l) = same_bytes l lot
releases lot _ = false

-- whether the action is a result of the lot out of the limits of its test
abbrev pub is_bad_result : (Bytes → ℤ → Bool) → Bytes → Action → Bool
is_bad_result bad lot (RecordResult l test value day) = same_bytes l lot && bad test value
is_bad_result bad lot _ = false

-- whether there is a release after which no bad result comes
abbrev pub stays_released : (Bytes → ℤ → Bool) → Bytes → List Action → Bool
stays_released bad lot [] = false
stays_released bad lot (a ∷ own) = releases lot a || not (is_bad_result bad lot a) && stays_released bad lot own

-- for a lot of this material: rejected if it was, otherwise released if it stays so, otherwise quarantined
abbrev pub disposition_of : List Action → (material lot : Bytes) → Disposition
disposition_of own material lot = if list_any (rejects lot) own then Rejected else if stays_released (is_out_of_limits own material) lot own then Released else Quarantined
