-- The text of an import.
use Rattle.std.specs.Prelude.{Bool, true, false, List, [], ◌∷◌, ◌++◌, codes, decimal, flat_map, count_by}
use Rattle.toll_base.specs.Bytes.{Bytes}
use Rattle.toll_base.specs.Refusal.{refusal_code, title_of}
use Rattle.toll_keep.specs.Fault.{fault_word}
use Rattle.toll_answers.specs.Columns.{right_aligned, column_line}
use Rattle.toll_plant.specs.Outcomes.{is_outcome_accepted, is_fault_outcome}
use Rattle.toll_plant.specs.declared.outcome.Outcome.{Outcome}
use Rattle.toll_plant.specs.declared.outcome.Outcome.TheVariants.{Accepted, Repeated, Refused, BadRecord, Fault}
use Rattle.toll_plant.specs.declared.report.ImportLine.{ImportLine}
use Rattle.toll_plant.specs.declared.sums.Sums.{Sums}

-- the text of an outcome
abbrev pub outcome_text : Outcome → Bytes
outcome_text Accepted = codes "accepted"
outcome_text Repeated = codes "repeated"
outcome_text (Refused why) = codes "refused " ++ (decimal (refusal_code why) ++ (codes " " ++ title_of why))
outcome_text BadRecord = codes "bad-record"
outcome_text (Fault fault) = codes "fault " ++ fault_word fault

-- the line of a record: its number and its outcome
abbrev pub record_line : ImportLine → Bytes
record_line l = column_line (right_aligned 6 (decimal l.number) ∷ outcome_text l.outcome ∷ [])

abbrev pub is_repeated : Outcome → Bool
is_repeated Repeated = true
is_repeated _ = false

abbrev pub is_refused : Outcome → Bool
is_refused (Refused why) = true
is_refused _ = false

abbrev pub is_bad_record : Outcome → Bool
is_bad_record BadRecord = true
is_bad_record _ = false

-- the line with how many records had each outcome
abbrev pub sums_line : List ImportLine → Bytes
sums_line lines =
    column_line (codes "accepted" ∷ decimal (count_by (λ l. is_outcome_accepted l.outcome) lines)
    ∷ codes "repeated" ∷ decimal (count_by (λ l. is_repeated l.outcome) lines)
    ∷ codes "refused" ∷ decimal (count_by (λ l. is_refused l.outcome) lines)
    ∷ codes "bad" ∷ decimal (count_by (λ l. is_bad_record l.outcome) lines)
    ∷ codes "fault" ∷ decimal (count_by (λ l. is_fault_outcome l.outcome) lines) ∷ [])

-- the text of sums
abbrev pub sums_text : Sums → Bytes
sums_text s =
    codes "accepted " ++ (decimal s.accepted ++ (codes " repeated " ++ (decimal s.repeated ++ (codes " refused " ++ (decimal s.refused
    ++ (codes " bad " ++ (decimal s.bad ++ (codes " fault " ++ decimal s.faults))))))))

-- the text of an import: a line for each record, and the sums
abbrev pub import_text : List ImportLine → Bytes
import_text lines = flat_map record_line lines ++ sums_line lines
