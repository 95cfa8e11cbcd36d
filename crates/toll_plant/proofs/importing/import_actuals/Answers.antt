use Rattle.std.proofs.Common.{◌≡◌, Bool, true, false, sym, subst, ap, ◌∙◌}
use Rattle.toll_plant.proofs.Common.{false≢true}
use Rattle.toll_plant.specs.Imports.{AreRecordsServed, commands_in, outcomes_in}
use Rattle.toll_plant.proofs.GroupChains.{all_open, all_whole, groups_honest, run_of, steps_of}
use Rattle.toll_plant.proofs.ImportDone.{fewer_left, so_begun, so_on, so_over}
use Rattle.toll_plant.proofs.importing.import_actuals.Goals as goal

-- If the import isn't over, not all is done.
not_over : {X : Type 0} (over : Bool) → (X → over ≡ true) → over ≡ false → X → ⊥
not_over over is not done = false≢true (sym not ∙ is done)

pub loop-alloc-init : goal.loop-alloc-init
loop-alloc-init g c =
    let begun = c.in_ok-import.ensures.begun in
    (begun.records, begun.read, so_begun g.K.Keep.meaning c.args.keep.now (commands_in begun.records) c.in_ok-import.import begun.left begun.none)

pub loop-alloc-smaller : goal.loop-alloc-smaller
loop-alloc-smaller g c =
    fewer_left g.K.Keep.meaning c.loop-alloc.keep c.resume.new.keep c.loop-alloc.import c.resume.new.self (not_over c.is_over.result c.is_over.ensures.1 c.loop-alloc-test.true) c.resume.ensures

pub loop-alloc-preserved : goal.loop-alloc-preserved
loop-alloc-preserved g c =
    let (records, read, so) = c.loop-alloc.invariant in (
      records,
      read,
      so_on g.K.Keep.meaning c.args.keep.now (commands_in records) c.loop-alloc.keep c.resume.new.keep c.loop-alloc.import c.resume.new.self
          (not_over c.is_over.result c.is_over.ensures.1 c.loop-alloc-test.true) so c.resume.ensures,
    )

-- All records of the file were served, or those up to a fault, and the report has their outcomes.
served : goal.returns-clause-served
served g c =
    let K = g.K.Keep in
    let (records, read, so) = c.loop-alloc.invariant in
    let reported = ap outcomes_in (sym c.into_report.ensures.lines) in (
      records,
      read,
      subst (λ outcomes. AreRecordsServed K.meaning c.args.keep.now (commands_in records) outcomes c.loop-alloc.keep) reported
          (so_over K.meaning c.args.keep.now (commands_in records) c.loop-alloc.keep c.loop-alloc.import (c.is_over.ensures.0 c.loop-alloc-test.false) so),
    )

pub returns-clause-honest : goal.returns-clause-honest
returns-clause-honest g c =
    let (records, read, all) = served g c in
    groups_honest g.K.Keep.meaning c.args.keep.now c.loop-alloc.keep all.groups all.reports all.are

pub returns-clause-served : goal.returns-clause-served
returns-clause-served = served

pub returns-clause-run : goal.returns-clause-run
returns-clause-run g c now content H held stands lawful =
    let (records, read, all) = served g c in
    let run = run_of g.K.Keep.meaning c.args.keep.now c.loop-alloc.keep (commands_in records) (outcomes_in c.into_report.result.lines.items) all in
    (records, read, run now content H held stands lawful)

pub returns-clause-steps : goal.returns-clause-steps
returns-clause-steps g c now content H held stands lawful =
    let (records, read, all) = served g c in
    let steps = steps_of g.K.Keep.meaning c.args.keep.now c.loop-alloc.keep (commands_in records) (outcomes_in c.into_report.result.lines.items) all in
    (records, read, steps now content H held stands lawful)

pub returns-clause-whole : goal.returns-clause-whole
returns-clause-whole g c =
    let (records, read, all) = served g c in
    all_whole g.K.Keep.meaning c.args.keep.now c.loop-alloc.keep (commands_in records) (outcomes_in c.into_report.result.lines.items) all

pub returns-clause-open : goal.returns-clause-open
returns-clause-open g c never_closes =
    let (records, read, all) = served g c in
    all_open g.K.Keep.meaning never_closes c.args.keep.now c.loop-alloc.keep (commands_in records) (outcomes_in c.into_report.result.lines.items) all
