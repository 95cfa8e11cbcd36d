-- The line that words fit, as the code finds it.
use Rattle.std.proofs.Common.{◌≡◌, ◌∙◌, ℕ, Bool, true, false, List, [], ◌∷◌, length, map, refl, sym, ap, arith, Option, Some, None}
use Rattle.std.specs.Prelude.{◌&&◌, ◌==◌, find, option_map, option_and_then, if◌then◌else◌}
use Rattle.std.specs.Borrow.{Bor}
use Rattle.toll_plant.proofs.Common.{list_all, bytes_eq, length-map, nat_tests, find-map, Bytes}
use Rattle.toll_plant.specs.Lines.{Line, is_plain_word, fitting_line, takes_values}
use Rattle.toll_plant.specs.Shown.{shown_line}
use Rattle.toll_plant.specs.Usages.{named_by}
use Rattle.toll_plant.specs.declared.line.Line.{Line as CodeLine}

-- the line, if it takes the words as values
abbrev line_if_taken : Option Line → List Bytes → Option Line
line_if_taken line values = option_and_then (λ l. if takes_values l values then Some l else None) line

pub line_at : (xs : List CodeLine) (words : List (Bor Bytes)) (name : Bor Bytes) (values : List (Bor Bytes)) (o : Option CodeLine)
    → words ≡ name ∷ values → o ≡ find (λ l. bytes_eq l.name.now name.now) xs
    → fitting_line (map shown_line xs) (map (λ w. w.now) words) ≡ line_if_taken (option_map shown_line o) (map (λ w. w.now) values)
line_at xs words name values o whole found =
    ap (λ ws. fitting_line (map shown_line xs) (map (λ w. w.now) ws)) whole
    ∙ ap (λ l. line_if_taken l (map (λ w. w.now) values)) (sym (ap (option_map shown_line) found ∙ find-map (λ (l : Line). bytes_eq l.name name.now) shown_line xs))

shown_at : (o : Option (Bor CodeLine)) → option_map (λ l. shown_line l.now) o ≡ option_map shown_line (option_map (λ l. l.now) o)
shown_at None = refl
shown_at (Some l) = refl

pub line_named_at : (xs : List CodeLine) (words : List (Bor Bytes)) (name : Bor Bytes) (values : List (Bor Bytes)) (o : Option (Bor CodeLine))
    → words ≡ name ∷ values → option_map (λ l. l.now) o ≡ find (λ l. bytes_eq l.name.now name.now) xs
    → option_map (λ l. shown_line l.now) o ≡ named_by (map shown_line xs) (map (λ w. w.now) words)
line_named_at xs words name values o whole found =
    shown_at o ∙ ap (option_map shown_line) found ∙ find-map (λ (l : Line). bytes_eq l.name name.now) shown_line xs
    ∙ sym (ap (λ ws. named_by (map shown_line xs) (map (λ w. w.now) ws)) whole)

pub takes_it : (line : CodeLine) (values : List Bytes) → true ≡ takes_values (shown_line line) values → Some (shown_line line) ≡ line_if_taken (Some (shown_line line)) values
takes_it line values takes = rw (← takes) refl

pub line_not_taken : (line : CodeLine) (values : List Bytes) → false ≡ takes_values (shown_line line) values → None ≡ line_if_taken (Some (shown_line line)) values
line_not_taken line values takes = rw (← takes) refl

list_all_map : {A B : Type 0} (p : B → Bool) (f : A → B) (xs : List A) → list_all (λ x. p (f x)) xs ≡ list_all p (map f xs)
list_all_map p f [] = refl
list_all_map p f (x ∷ xs) = ap (λ b. p (f x) && b) (list_all_map p f xs)

same_number : (m n : ℕ) → m ≡ n → (m == n) ≡ true
same_number m n e = grind (arith, nat_tests)

pub takes_as_many : (line : CodeLine) (words : List (Bor Bytes)) → length words ≡ length line.values.now
    → list_all (λ (w : Bor Bytes). is_plain_word w.now) words ≡ takes_values (shown_line line) (map (λ w. w.now) words)
takes_as_many line words same =
    rw (length-map, length-map, same_number (length words) (length line.values.now) same) (list_all_map is_plain_word (λ (w : Bor Bytes). w.now) words)
