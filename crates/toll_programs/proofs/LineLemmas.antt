-- The lines of a script, one by one.
use Rattle.std.proofs.Common.{◌≡◌, ◌∙◌, ℕ, ◌+◌, Bool, true, false, List, [], ◌∷◌, ◌++◌, length, length-append, drop, refl, sym, ap, subst, arith, append_assoc, append-nil, Option, None, Some}
use Rattle.std.specs.Prelude.{option_map, option_and_then}
use Rattle.std.specs.Borrow.{Bor}
use Rattle.std.specs.Str.{IsUtf8, is_utf8}
use Rattle.std.proofs.lemmas.Str.{IsUtf8-from_is_utf8, is_utf8-from_IsUtf8}
use Rattle.toll_base.specs.Bytes.{Bytes}
use Rattle.toll_desk.specs.Common.{PlantCmd}
use Rattle.toll_plant.specs.Lines.{Line, fitting_line}
use Rattle.toll_plant.specs.Table.{command_lines}
use Rattle.toll_plant.specs.Words.{command_of_words, command_with}
use Rattle.toll_wire.specs.declared.event.Event.{Event}
use Rattle.toll_programs.specs.ScriptEvents.{AddsEvent, script_lines_left, script_events_of}
use Rattle.toll_programs.specs.Script.{IsScriptOf, IsFirstBad, LineMeaning, NoneBad, meaning_of_line, asks, asks_if, bad, command, command_in_line, events_in_line, events_of_lines, is_bad_line, nothing, script_lines, words_in}

-- ---- the words of a command

pub bad_if_no_text : (line : Bytes) → (IsUtf8 line → ⊥) → command_in_line line ≡ bad
bad_if_no_text line h = on (is_utf8 line) refl
  where
    on : (b : Bool) → is_utf8 line ≡ b → command_in_line line ≡ bad
    on true is = absurd (h (IsUtf8-from_is_utf8 line is))
    on false is = rw is refl

words_in_line_mean : (line : Bytes) (words : List Bytes) (o : Option PlantCmd) → IsUtf8 line → words ≡ words_in line → command_of_words words ≡ o
    → command_in_line line ≡ asks_if (option_map (λ c. command c) o)
words_in_line_mean line words o text same requested =
    rw (is_utf8-from_IsUtf8 line text)
    (ap (λ ws. asks_if (option_map (λ c. command c) (command_of_words ws))) (sym same) ∙ ap (λ x. asks_if (option_map (λ c. command c) x)) requested)

pub command_given : (line : Bytes) (words : List Bytes) (c : PlantCmd) → IsUtf8 line → words ≡ words_in line → command_of_words words ≡ Some c
    → command_in_line line ≡ asks (command c)
command_given line words c text same requested = words_in_line_mean line words (Some c) text same requested

pub no_command : (line : Bytes) (words : List Bytes) → IsUtf8 line → words ≡ words_in line → fitting_line command_lines words ≡ None → command_in_line line ≡ bad
no_command line words text same none =
    words_in_line_mean line words None text same (ap (option_and_then (λ (l : Line). command_with l (drop 1 words))) none)

-- ---- the lines so far

-- the lines that are left
abbrev pub lines_left : Option (Bor Bytes) → List Bytes
lines_left rest = script_lines_left (option_map (λ t. t.now) rest)

-- This many lines were read and none of them was bad. These are their events, and these lines are left.
pub record ReadSoFar (text : Bytes) (number : ℕ) (events : List Event) (others : List Bytes) : Type 0 where
  pub before : List Bytes
  pub whole : script_lines text ≡ before ++ others
  pub counted : number ≡ length before
  pub sound : NoneBad before
  pub requested : script_events_of events ≡ events_of_lines before

pub no_lines_read : (text : Bytes) (events : List Event) → events ≡ [] → ReadSoFar text 0 events (script_lines text)
no_lines_read text events none = record { before = []; whole = refl; counted = refl; sound = tt; requested = ap script_events_of none }

none_bad_more : (before : List Bytes) (line : Bytes) → NoneBad before → is_bad_line (meaning_of_line line) ≡ false → NoneBad (before ++ line ∷ [])
none_bad_more [] line sound here = (here, tt)
none_bad_more (l ∷ before) line sound here = (sound.0, none_bad_more before line sound.1 here)

deeds_more : (before : List Bytes) (line : Bytes) → events_of_lines (before ++ line ∷ []) ≡ events_of_lines before ++ events_in_line (meaning_of_line line)
deeds_more [] line = append-nil (events_in_line (meaning_of_line line))
deeds_more (l ∷ before) line =
    ap (λ ds. events_in_line (meaning_of_line l) ++ ds) (deeds_more before line)
    ∙ sym (append_assoc (events_in_line (meaning_of_line l)) (events_of_lines before) (events_in_line (meaning_of_line line)))

line_added : (asking : LineMeaning) (old new : List Event) → AddsEvent asking old new → script_events_of new ≡ script_events_of old ++ events_in_line asking
line_added nothing old new same = ap script_events_of same ∙ sym (append-nil (script_events_of old))
line_added (asks deed) old new more = more
line_added bad old new never = absurd never

added_well : (asking : LineMeaning) (old new : List Event) → AddsEvent asking old new → is_bad_line asking ≡ false
added_well nothing old new same = refl
added_well (asks deed) old new more = refl
added_well bad old new never = absurd never

pub line_done : (text : Bytes) (number : ℕ) (old new : List Event) (lines line : Bytes) (others : Option (Bor Bytes))
    → ReadSoFar text number old (script_lines lines) → script_lines lines ≡ line ∷ lines_left others → AddsEvent (meaning_of_line line) old new
    → ReadSoFar text (number + 1) new (lines_left others)
line_done text number old new lines line others r pieces adds = record {
  before = r.before ++ line ∷ [];
  whole = r.whole ∙ (ap (λ ls. r.before ++ ls) pieces ∙ sym (append_assoc r.before (line ∷ []) (lines_left others)));
  counted = omega (arith, r.counted, length-append r.before (line ∷ []));
  sound = none_bad_more r.before line r.sound (added_well (meaning_of_line line) old new adds);
  requested = line_added (meaning_of_line line) old new adds ∙ (ap (λ ds. ds ++ events_in_line (meaning_of_line line)) r.requested ∙ sym (deeds_more r.before line));
}

pub line_bad : (text : Bytes) (number : ℕ) (events : List Event) (lines line : Bytes) (others : Option (Bor Bytes))
    → ReadSoFar text number events (script_lines lines) → script_lines lines ≡ line ∷ lines_left others → meaning_of_line line ≡ bad → IsFirstBad text (number + 1)
line_bad text number events lines line others r pieces is = record {
  before = r.before;
  line = line;
  behind = lines_left others;
  whole = r.whole ∙ ap (λ ls. r.before ++ ls) pieces;
  counted = omega (arith, r.counted);
  bad_line = is;
  sound = r.sound;
}

pub lines_done : (text : Bytes) (number : ℕ) (events : List Event) (rest : Option (Bor Bytes))
    → ReadSoFar text number events (lines_left rest) → ((lines : Bor Bytes) → rest ≡ Some lines → ⊥) → IsScriptOf text (script_events_of events)
lines_done text number events None r none =
    let all = sym (r.whole ∙ append-nil r.before) in
    record { sound = subst NoneBad all r.sound; requested = r.requested ∙ ap events_of_lines all }
lines_done text number events (Some lines) r none = absurd (none lines refl)
