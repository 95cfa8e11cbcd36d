use Rattle.std.proofs.Common.{[], rules, Option, Ok, Err, sym, subst, ◌∙◌}
use Rattle.toll_sql.proofs.Common.{false≢true, state, Slice, IsLooking, owner_kind, AreReported, tables_of_owners}
use Rattle.toll_sql.proofs.Alone.{all_rows, no_rows_read, told_reads, told_whole}
use Rattle.toll_sql.proofs.ReadOn.{looks_then, looks_as, shows_then}
use Rattle.toll_sql.proofs.slice_reading.read_slice.Goals as goal

pub returns-in_err-slice-clause-looks : goal.returns-in_err-slice-clause-looks
returns-in_err-slice-clause-looks g c =
    let old = state g.S.Store c.args.conn.now in
    let one = state g.S.Store c.read_owners.new.conn in
    let two = state g.S.Store c.read_rows_of.new.conn in
    let e = c.in_err-slice.field-0.0 in
    let q : IsLooking {X = Slice} old two (Err e) = looks_then old one two _ _ c.in_ok-owners.ensures.looks c.in_err-slice.ensures.looks in
    let r : IsLooking {X = Option Slice} old two (Err e) = looks_as old two (Err e) (Err e) q (λ live. tt) (λ is. cc) (λ is. cc) (λ is. cc) in
    let f = c.from_residual-in_err-slice.ensures in
    search rules

pub returns-then-not-is_known-clause-known : goal.returns-then-not-is_known-clause-known
returns-then-not-is_known-clause-known g c clean none =
    let old = state g.S.Store c.args.conn.now in
    (c.deref.result.now, subst (λ owners. AreReported owner_kind old.now owners) (sym c.deref.ensures.value) (c.in_ok-owners.ensures.shown clean), sym c.is_known.ensures ∙ c.if-not-is_known.true)

pub returns : goal.returns
returns g c =
    let o = c.args.owner.now in
    let old = state g.S.Store c.args.conn.now in
    let one = state g.S.Store c.read_owners.new.conn in
    let two = state g.S.Store c.read_rows_of.new.conn in
    let owners = c.in_ok-owners.ensures in
    let slice = c.in_ok-slice.ensures in
    let alone = all_rows o old one two _ owners.looks c.deref.result.now c.in_ok-slice.slice slice.looks (λ clean has rows held. c.deref.ensures.value ∙ owners.reads clean has rows held) slice.reads
    (λ unknown. false≢true (sym unknown ∙ sym c.is_known.ensures ∙ c.if-not-is_known.false)) in
    record {
      looks = looks_as old two (Ok _) (Ok _) (looks_then old one two _ _ owners.looks slice.looks) (λ live. live) (λ is. absurd (cc)) (λ is. absurd (cc)) (λ is. absurd (cc));
      reads = told_reads o old two _ alone;
      shown = shows_then {Y = Slice} [] tables_of_owners o old one two _ (Ok _) owners.looks (λ clean has idle. tt) slice.looks slice.shown;
      known = λ clean none. absurd (cc none);
      whole = told_whole o old two _ alone;
      alone = alone;
      named = slice.named;
      lack = λ is. absurd (cc);
    }

pub returns-in_err-slice-clause-whole : goal.returns-in_err-slice-clause-whole
returns-in_err-slice-clause-whole g c clean content held keeps =
    let o = c.args.owner.now in
    let old = state g.S.Store c.args.conn.now in
    let one = state g.S.Store c.read_owners.new.conn in
    let two = state g.S.Store c.read_rows_of.new.conn in
    let e = c.in_err-slice.field-0.0 in
    let alone = no_rows_read o old one two _ c.in_ok-owners.ensures.looks e c.in_err-slice.ensures.looks c.in_err-slice.ensures.whole in
    let whole = told_whole o old two (Err e) alone clean content held keeps in
    let f = c.from_residual-in_err-slice.ensures in
    search rules
