use Rattle.std.proofs.Common.{◌≡◌, ◌<◌, ◌+◌, List, take, drop, length, Err, rules, ap, subst, arith, ◌∙◌}
use Rattle.toll_sql.proofs.Common.{state, front_slice, ReadsOn, tables_of_owners, every_table, TableKind, Materials}
use Rattle.toll_sql.proofs.ReadOn.{HasRead, kind_at, one_more_read, read_well, reads_not, owners_table_step}
use Rattle.toll_sql.proofs.slice_reading.read_tables.Goals as goal

listed : (every : List TableKind) → every ≡ every_table → take 11 (drop 3 every) ≡ tables_of_owners
listed every is = ap (λ tables. take 11 (drop 3 tables)) is

pub loop-table-preserved : goal.loop-table-preserved
loop-table-preserved g c = record { reads = one_more_read _ (listed _ c.every_table-every.ensures) _ c.loop-table-test.true _ _ _ _ _ _ _ read_well c.loop-table.invariant.reads c.in_ok-read_kind.ensures.reads; named = c.in_ok-read_kind.ensures.named ∙ c.loop-table.invariant.named }

pub returns-in_err-read_kind-clause-reads : goal.returns-in_err-read_kind-clause-reads
returns-in_err-read_kind-clause-reads g c =
    let o = c.args.owner.now in
    let first = state g.S.Store c.args.conn.now in
    let now = state g.S.Store c.loop-table.conn in
    let next = state g.S.Store c.read_kind.new.conn in
    let n = c.loop-table.table-index in
    let below : n < 11 = subst (λ all. n < length all) (listed _ c.every_table-every.ensures) c.loop-table-test.true in
    let p = one_more_read _ (listed _ c.every_table-every.ensures) n c.loop-table-test.true o first now next c.args.slice.now c.loop-table.slice c.read_kind.new.slice (Err c.in_err-read_kind.field-0.0) c.loop-table.invariant.reads c.in_err-read_kind.ensures.reads in
    let q : ReadsOn (front_slice Materials 0) (λ s. s) tables_of_owners o {X = Unit {0}} first next c.args.slice.now c.read_kind.new.slice (Err c.in_err-read_kind.field-0.0) =
    reads_not (front_slice Materials 0) (front_slice (kind_at (n + 1)) 0) (λ s. s) o (drop (n + 1) tables_of_owners) (owners_table_step n below).3 first next c.args.slice.now c.read_kind.new.slice c.in_err-read_kind.field-0.0 p in
    let f = c.from_residual.ensures in
    search rules

pub returns-clause-reads : goal.returns-clause-reads
returns-clause-reads g c =
    let many : length (take 11 (drop 3 c.every_table-every.result)) ≡ 11 = ap length (listed _ c.every_table-every.ensures) in
    let all : c.loop-table.table-index ≡ 11 = omega (arith, many, c.loop-table-test.false, c.loop-table.auto.table-index-end) in
    subst (λ n. HasRead n c.args.owner.now (state g.S.Store c.args.conn.now) (state g.S.Store c.loop-table.conn) c.args.slice.now c.loop-table.slice) all c.loop-table.invariant.reads
