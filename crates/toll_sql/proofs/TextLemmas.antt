-- The meaning of a text that compiles to one whole statement.
use Rattle.std.proofs.Common.{◌≡◌, ◌-◌, ℕ, false, List, [], length, take_all, le-leb, None, Ok, if◌then◌else◌, refl, sym, ap, subst, ◌∙◌, arith}
use Rattle.toll_sql.proofs.Common.{IsPlain, command_of, statement_of, Command, understood, reads_listing, misses_table, if_select, listing_schema, Schema, compiled, Compiled, IsGiven}

-- one statement, with parameters of these names, no RETURNING and no time
abbrev pub one_statement : Command → List (List ℕ) → List ℕ → Compiled
one_statement command names sql = record { command = command; returning = None; names = names; formats = []; start = 0; end = length sql; tail = length sql }

-- The meaning of a text follows from what it compiles to, so the prover compiles it only once.
module _ (schema : Schema) (sql : List ℕ) {command : Command} {names : List (List ℕ)} (is : compiled schema sql ≡ Ok (one_statement command names sql)) where
  understood_is : understood schema sql ≡ Ok (one_statement command names sql)
  unfolding understood
  understood_is = ap (λ r. if misses_table r then if_select (compiled listing_schema sql) else r) is

  pub command_is : command_of (understood schema sql) ≡ command
  command_is = ap command_of understood_is

  pub unlisted : reads_listing schema sql ≡ false
  unlisted = ap misses_table is

  pub statement_is : statement_of sql (understood schema sql) ≡ sql
  statement_is = ap (statement_of sql) understood_is ∙ take_all (length sql - 0) sql (omega arith)

  pub statement_plain : IsPlain (understood schema sql)
  statement_plain = subst IsPlain (sym understood_is) (refl, refl)

  pub statement_given : {n : ℕ} → length names ≡ n → IsGiven sql n (understood schema sql)
  statement_given {n} so = subst (IsGiven sql n) (sym understood_is) (le-leb (length sql) (length sql) (omega arith), so, refl, refl)
