-- `clap` reads plain words unchanged.
use Rattle.std.proofs.Common.{◌≡◌, ◌∙◌, ℕ, ◌+◌, ◌<◌, Bool, true, false, List, [], ◌∷◌, ◌++◌, length, drop, refl, sym, ap, subst, arith, append_assoc, codes, Option, Some, None}
use Rattle.std.specs.Prelude.{IfOk, Result, Ok, Err, ◌==◌, not, fold, nat_le, nat_lt, option_map}
use Rattle.toll_plant.proofs.Common.{list_all, append-nil, nat_tests, App, HasMatchesOf, Row, Rule, Shape, Text, Walk, built, filled, is_simple, nothing_held, settle_passes, takes, walk, walk_from, walk_passes, walked, with_index}
use Rattle.clap.proofs.WalkLemmas.{raw_values-rows}
use Rattle.clap.specs.Matches.{found_of, matched_of, raw_values}
use Rattle.clap.specs.Simple.{matches_of}
use Rattle.clap.specs.Takes.{value_passes}
use Rattle.clap.specs.Walk.{Held, all_of, is_multiple, positional, takes_several}
use Rattle.clap.specs.declared.builder.value_parser.Reading.TheVariants.{AsWritten}
use Rattle.clap.specs.declared.parser.matches.ArgMatches.{ArgMatches}
use Rattle.clap.specs.declared.parser.matches.ValueSource.TheVariants.{CommandLine}
use mathlib.Core.Bool.{or-true}
use Rattle.toll_base.proofs.Bools.{both}
use Rattle.toll_base.proofs.Texts.{nat_eq-exact}
use Rattle.toll_plant.specs.ClapWords.{values_app, values_rule}
use Rattle.toll_plant.specs.Lines.{Line, is_plain_word, takes_values}
use Rattle.toll_desk.proofs.CommitLemmas.{and_false}

-- the rule as `clap` builds it
abbrev the_rule : ℕ → Rule
the_rule n = with_index 1 (filled (values_rule n))

abbrev top : Text → ℕ → Shape
top name n = (built (values_app name n)).top

-- ---- tests

is_false : (b : Bool) → not b ≡ true → b ≡ false
is_false true e = absurd (cc e)
is_false false e = refl

more_than_one : (n : ℕ) → 1 < n → nat_lt 1 n ≡ true
more_than_one n many = grind (arith, nat_tests)

le_itself : (n : ℕ) → nat_le n n ≡ true
le_itself n = grind (arith, nat_tests)

takes_several_words : (n : ℕ) → 1 < n → takes_several (the_rule n) ≡ true
takes_several_words n many = rw (more_than_one n many) (or-true (not (n == n)))

-- ---- the words

-- No word begins with a dash or is empty.
abbrev pub AreUndashed : List Text → Type 0
AreUndashed [] = Unit {0}
AreUndashed ([] ∷ words) = ⊥
AreUndashed ((b ∷ word) ∷ words) = ((b == 45) ≡ false) × AreUndashed words

-- the state in which these words wait
abbrev waiting_words : List Text → Held
waiting_words words = record { rows = []; pending = Some (codes "VALUES", words); skip = 0 }

-- the state in which more words may follow
abbrev amid : List Text → Walk
amid words = record (walk_from (waiting_words words)) { waiting = positional; position = 1 }

abbrev rules : ℕ → List Rule
rules n = the_rule n ∷ []

next_word : (n : ℕ) (before : List Text) (b : ℕ) (word : Text) → 1 < n → (b == 45) ≡ false
    → walked (rules n) [] (amid before) (b ∷ word) ≡ amid (before ++ (b ∷ word) ∷ [])
unfolding walked
next_word n before b word many plain = rw (plain, plain, takes_several_words n many) refl

more_words : (n : ℕ) (before words : List Text) → 1 < n → AreUndashed words
    → fold (walked (rules n) []) (amid before) words ≡ amid (before ++ words)
more_words n before [] many plain = ap amid (sym (append-nil before))
more_words n before ([] ∷ words) many plain = absurd plain
more_words n before ((b ∷ word) ∷ words) many plain =
    ap (λ w. fold (walked (rules n) []) w words) (next_word n before b word many plain.0)
    ∙ (more_words n (before ++ (b ∷ word) ∷ []) words many plain.1 ∙ ap amid (append_assoc before ((b ∷ word) ∷ []) words))

first_of_many : (n b : ℕ) (word : Text) → 1 < n → (b == 45) ≡ false
    → walked (rules n) [] (walk_from nothing_held) (b ∷ word) ≡ amid ((b ∷ word) ∷ [])
unfolding walked
first_of_many n b word many plain = rw (plain, plain, takes_several_words n many) refl

only_stopped : (b : ℕ) (word : Text) → (b == 45) ≡ false → (walked (rules 1) [] (walk_from nothing_held) (b ∷ word)).stopped ≡ None
unfolding walked
only_stopped b word plain = rw (plain, plain) refl

holds_only_word : (b : ℕ) (word : Text) → (b == 45) ≡ false
    → (walked (rules 1) [] (walk_from nothing_held) (b ∷ word)).held ≡ waiting_words ((b ∷ word) ∷ [])
unfolding walked
holds_only_word b word plain = rw (plain, plain) refl

-- All words wait in the end, and no subcommand was met.
record WordsWait (n : ℕ) (words : List Text) : Type 0 where
  held : (walk (rules n) [] nothing_held words).held ≡ waiting_words words
  stopped : (walk (rules n) [] nothing_held words).stopped ≡ None

waits : (n b : ℕ) (word : Text) (words : List Text) → n ≡ 1 + length words → (b == 45) ≡ false → AreUndashed words → WordsWait n ((b ∷ word) ∷ words)
waits n b word [] few first plain = subst (λ k. WordsWait k ((b ∷ word) ∷ [])) (sym few) (record { held = holds_only_word b word first; stopped = only_stopped b word first })
waits n b word (next ∷ words) few first plain =
    let end = ap (λ w. fold (walked (rules n) []) w (next ∷ words)) (first_of_many n b word (omega (arith, few)) first)
    ∙ more_words n ((b ∷ word) ∷ []) (next ∷ words) (omega (arith, few)) plain in
    record { held = ap (λ (w : Walk). w.held) end; stopped = ap (λ (w : Walk). w.stopped) end }

-- ---- they pass

next_passes : (name : Text) (n : ℕ) (before : List Text) (b : ℕ) (word : Text) (words : List Text) → 1 < n → (b == 45) ≡ false
    → walk_passes (top name n) [] (amid before) ((b ∷ word) ∷ words) ≡ walk_passes (top name n) [] (amid (before ++ (b ∷ word) ∷ [])) words
unfolding walk_passes
next_passes name n before b word words many plain =
    rw (plain, plain, takes_several_words n many, next_word n before b word many plain) refl

more_pass : (name : Text) (n : ℕ) (before words : List Text) → 1 < n → AreUndashed words → walk_passes (top name n) [] (amid before) words ≡ true
unfolding walk_passes
more_pass name n before [] many plain = refl
more_pass name n before ([] ∷ words) many plain = absurd plain
more_pass name n before ((b ∷ word) ∷ words) many plain =
    next_passes name n before b word words many plain.0 ∙ more_pass name n (before ++ (b ∷ word) ∷ []) words many plain.1

first_word_passes : (name : Text) (n b : ℕ) (word : Text) (words : List Text) → (b == 45) ≡ false
    → walk_passes (top name n) [] (walk_from nothing_held) ((b ∷ word) ∷ words) ≡ walk_passes (top name n) [] (walked (rules n) [] (walk_from nothing_held) (b ∷ word)) words
unfolding walk_passes
first_word_passes name n b word words plain = rw (plain, plain) refl

none_passes : (name : Text) (n : ℕ) (w : Walk) → walk_passes (top name n) [] w [] ≡ true
unfolding walk_passes
none_passes name n w = refl

words_pass : (name : Text) (n b : ℕ) (word : Text) (words : List Text) → n ≡ 1 + length words → (b == 45) ≡ false → AreUndashed words
    → walk_passes (top name n) [] (walk_from nothing_held) ((b ∷ word) ∷ words) ≡ true
words_pass name n b word [] few first plain = first_word_passes name n b word [] first ∙ none_passes name n _
words_pass name n b word (next ∷ words) few first plain =
    first_word_passes name n b word (next ∷ words) first
    ∙ (ap (λ w. walk_passes (top name n) [] w (next ∷ words)) (first_of_many n b word (omega (arith, few)) first)
    ∙ more_pass name n ((b ∷ word) ∷ []) (next ∷ words) (omega (arith, few)) plain)

texts_pass : (n : ℕ) (words : List Text) → list_all (value_passes (the_rule n)) words ≡ true
texts_pass n [] = refl
texts_pass n (w ∷ words) = texts_pass n words

all_settle : (n : ℕ) (again : Bool) (word : Text) (words : List Text) → n ≡ 1 + length words → settle_passes (rules n) again (waiting_words (word ∷ words)) ≡ true
all_settle n again word words few =
    let same : length (word ∷ words) ≡ n = omega (arith, few) in
    rw (same, le_itself n, texts_pass n words) refl

simple : (name : Text) (n : ℕ) → is_simple (values_app name n) ≡ true
simple name n = rw (and_false (is_multiple (the_rule n))) refl

-- ---- the whole

-- the one row of the result
abbrev all_values : List Text → Row
all_values words = record { id = codes "VALUES"; values = words; count = None; source = Some CommandLine; reading = AsWritten }

-- The command takes these words and has these values under its id.
record ReadsWords (a : App) (words values : List Text) : Type 0 where
  pub simple : is_simple a ≡ true
  pub taken : takes a words ≡ true
  pub rows : matches_of a words ≡ all_values values ∷ []

undashed : (words : List Text) → list_all is_plain_word words ≡ true → AreUndashed words
undashed [] plain = tt
undashed ([] ∷ words) plain = absurd (cc plain)
undashed ((b ∷ word) ∷ words) plain =
    let parts = both (is_plain_word (b ∷ word)) (list_all is_plain_word words) plain in
    (is_false (b == 45) (both (not (b == 45)) _ parts.0).0, undashed words parts.1)

values_app_reads : (name : Text) (n : ℕ) (words values : List Text) → drop 1 words ≡ values → n ≡ length values → 0 < n → AreUndashed values → ReadsWords (values_app name n) words values
values_app_reads name n words [] are few some plain = absurd (omega (arith, some, few))
values_app_reads name n words ([] ∷ values) are few some plain = absurd plain
values_app_reads name n words ((b ∷ word) ∷ values) are few some plain =
    let long : n ≡ 1 + length values = omega (arith, few) in
    let end = waits n b word values long plain.0 plain.1 in
    record {
      simple = simple name n;
      taken = rw (simple name n, are, end.held, end.stopped, words_pass name n b word values long plain.0 plain.1, all_settle n false (b ∷ word) values long) refl;
      rows = rw (are, end.held) refl;
    }

-- The words of a line are read like this.
fitting : (a : App) (l : Line) (words : List Text) → a ≡ values_app l.name (length l.values) → 0 < length l.values → takes_values l (drop 1 words) ≡ true → ReadsWords a words (drop 1 words)
fitting a l words is some fits =
    let parts = both (length (drop 1 words) == length l.values) (list_all is_plain_word (drop 1 words)) fits in
    let long = sym (nat_eq-exact (length (drop 1 words)) (length l.values) parts.0) in
    subst (λ b. ReadsWords b words (drop 1 words)) (sym is) (values_app_reads l.name (length l.values) words (drop 1 words) refl long some (undashed (drop 1 words) parts.1))

pub line_is_taken : (a : App) (l : Line) (words : List Text) → a ≡ values_app l.name (length l.values) → 0 < length l.values → takes_values l (drop 1 words) ≡ true → takes a words ≡ true
line_is_taken a l words is some fits = (fitting a l words is some fits).taken

-- the values under the id
pub values_matched : (a : App) (l : Line) (words : List Text) (m : ArgMatches) → a ≡ values_app l.name (length l.values) → 0 < length l.values → takes_values l (drop 1 words) ≡ true
    → HasMatchesOf a words m → option_map raw_values (matched_of (found_of m) (codes "VALUES")) ≡ Some (drop 1 words)
values_matched a l words m is some fits has =
    let it = fitting a l words is some fits in
    raw_values-rows (found_of m) (codes "VALUES") ∙ ap (all_of (codes "VALUES")) ((has it.simple).0 ∙ it.rows)

pub word_none_found : (words : List Text) (x : Option (List Text)) → x ≡ Some words → None ≡ x → ⊥
word_none_found words x is none = let never : ◌≡◌ {A = Option (List Text)} None (Some words) = none ∙ is in cc never

pub some_found : (words values : List Text) (x : Option (List Text)) → x ≡ Some words → Some values ≡ x → values ≡ words
some_found words values x is some = let same : Some values ≡ Some words = some ∙ is in cc same

pub in_ok : {T E : Type 0} (r : Result T E) (P Q : T → Type 0) → ((x : T) → P x → Q x) → IfOk r P → IfOk r Q
in_ok (Ok x) P Q f p = f x p
in_ok (Err e) P Q f p = tt
