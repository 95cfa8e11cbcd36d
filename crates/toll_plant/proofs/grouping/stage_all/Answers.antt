use Rattle.std.proofs.Common.{◌≡◌, ◌+◌, ◌++◌, true, false, [], ◌∷◌, drop, take-append-drop, rules, refl, sym, subst, ap, ◌∙◌}
use Rattle.std.specs.Prelude.{take}
use Rattle.std.proofs.lemmas.Bool.{or_parts}
use Rattle.toll_plant.proofs.Common.{list_any, list_any-append, append-nil, drop_all, false≢true}
use Rattle.toll_plant.specs.Imports.{EndsAt}
use Rattle.toll_plant.specs.Outcomes.{is_fault_outcome}
use Rattle.toll_plant.specs.StagedRecords.{AreRecordsStaged}
use Rattle.toll_plant.proofs.FaultEnds.{ends_nowhere, ends_then, none_in}
use Rattle.toll_plant.proofs.Holding.{record_memory, records_next}
use Rattle.toll_plant.proofs.LineLemmas.{item_there}
use Rattle.toll_plant.proofs.grouping.stage_all.Goals as goal

pub loop-command-init : goal.loop-command-init
loop-command-init g c = record {
  count = search rules;
  capacity = refl;
  calm = ap (list_any is_fault_outcome) c.requires.none;
  staged = subst (λ reported. AreRecordsStaged g.K.Keep.meaning c.args.keep.now [] reported (c.args.keep.now, c.new-pending.result)) (sym c.requires.none)
      (record { first = c.new-pending.result; no_changes = c.new-pending.ensures.changes; no_slices = c.new-pending.ensures.slices; run = refl });
}

pub returns-in-Err-clause-held : goal.returns-in-Err-clause-held
returns-in-Err-clause-held g c =
    let l = c.loop-command in
    let so = l.invariant in
    let i = l.command-index in
    let commands = c.args.commands.now in
    let command = c.command-item.result in
    record {
      acted = take i commands;
      command = command;
      rest = drop (i + 1) commands;
      all = ap (λ left. take i commands ++ left) (sym (item_there commands i command c.loop-command-test.true c.command-item.is)) ∙ take-append-drop i commands;
      middle = (l.keep, l.pending);
      records = so.staged;
      calm = so.calm;
      staged = c.act.new.pending;
      unread = c.in-Err.ensures;
    }

pub returns-then-is_fault-clause-held : goal.returns-then-is_fault-clause-held
returns-then-is_fault-clause-held g c =
    let K = g.K.Keep in
    let l = c.loop-command in
    let so = l.invariant in
    let o = c.in-Ok.outcome in
    let i = l.command-index in
    let commands = c.args.commands.now in
    let command = c.command-item.result in
    let reported = l.outcomes.items in
    let pushed = c.push_reserved.ensures.items in
    let faulty : is_fault_outcome o ≡ true = sym c.is_fault.ensures ∙ c.if-is_fault.true in
    record {
      staged = c.act.new.pending;
      changes = c.into_changes.ensures;
      records = record {
        acted = take (i + 1) commands;
        rest = drop (i + 1) commands;
        all = take-append-drop (i + 1) commands;
        so = records_next K.meaning c.args.keep.now (l.keep, l.pending)
            (c.act.new.keep, c.act.new.pending) commands i command c.loop-command-test.true c.command-item.is
            reported c.push_reserved.new.self.items o pushed so.staged c.in-Ok.ensures;
        stops = subst (EndsAt is_fault_outcome) (sym pushed) (ends_then is_fault_outcome reported (o ∷ []) so.calm (λ is. refl, tt));
        whole = λ none. absurd (false≢true (sym (or_parts (is_fault_outcome o) false
            (none_in is_fault_outcome reported (o ∷ []) (ap (list_any is_fault_outcome) (sym pushed) ∙ none)).1).0 ∙ faulty));
      };
      ends = record {
        calm = reported;
        calmly = so.calm;
        said = pushed
            ∙ ap (λ x. reported ++ x ∷ []) (record_memory K.meaning (l.keep, l.pending) (c.act.new.keep, c.act.new.pending) command o c.in-Ok.ensures faulty);
      };
      memory = refl;
    }

pub loop-command-preserved : goal.loop-command-preserved
loop-command-preserved g c =
    let K = g.K.Keep in
    let l = c.loop-command in
    let so = l.invariant in
    let o = c.in-Ok.outcome in
    let reported = l.outcomes.items in
    let pushed = c.push_reserved.ensures.items in
    let calm : is_fault_outcome o ≡ false = sym c.is_fault.ensures ∙ c.if-is_fault.false in
    record {
      count = c.push_reserved.ensures.len ∙ ap (λ n. n + 1) so.count;
      capacity = c.push_reserved.ensures.capacity ∙ so.capacity;
      calm = ap (list_any is_fault_outcome) pushed ∙ list_any-append is_fault_outcome reported (o ∷ []) ∙ (rw (so.calm, calm) refl);
      staged = records_next K.meaning c.args.keep.now (l.keep, l.pending)
          (c.act.new.keep, c.act.new.pending) c.args.commands.now l.command-index c.command-item.result
          c.loop-command-test.true c.command-item.is reported c.push_reserved.new.self.items o pushed so.staged c.in-Ok.ensures;
    }

pub returns-clause-held : goal.returns-clause-held
returns-clause-held g c =
    let l = c.loop-command in
    let so = l.invariant in
    let i = l.command-index in
    let commands = c.args.commands.now in
    let reported = l.outcomes.items in
    record {
      staged = l.pending;
      changes = c.into_changes-2.ensures;
      records = record {
        acted = take i commands;
        rest = drop i commands;
        all = take-append-drop i commands;
        so = so.staged;
        stops = ends_nowhere is_fault_outcome reported so.calm;
        whole = λ none. drop_all i commands c.loop-command-test.false;
      };
      ends = record { calm = reported; calmly = so.calm; said = sym (append-nil reported) };
      memory = tt;
    }
