use Rattle.std.proofs.Common.{◌≡◌, ◌<◌, ◌+◌, ℕ, List, true, length, get_or, subst, sym, ◌∙◌, arith}
use Rattle.toll_base.proofs.MovePlaces.{less_exact}
use Rattle.toll_trace.proofs.Common.{Less, LotId, lot_cmp, get_or_default}
use Rattle.toll_trace.proofs.Numbering.{behind_it, behind_none, not_in_gap}
use Rattle.toll_trace.proofs.numbers.is_in_gap.Goals as goal
use Rattle.toll_trace.proofs.numbers.is_in_gap.Goals.{in-Some+then-last-lots, in-Some+else-last-lots, in-None, in-Some-get, in-None-get}

pub returns-then-is_behind : goal.returns-then-is_behind
returns-then-is_behind c = λ e. not_in_gap lots c.requires place lot behind (ahead e)
  where
    lots : List LotId
    lots = c.args.lots.now

    place : ℕ
    place = c.args.place

    lot : LotId
    lot = c.args.lot.now

    behind : (k : ℕ) → k + 1 ≡ place → (k < length lots) × (lot_cmp (get_or lots k lot) lot ≡ Less)
    behind = elim c.match-checked_sub.branch [
      | in-Some+then-last-lots w ↦
          let less : lot_cmp w.index-lots-last.result lot ≡ Less = sym w.cmp.ensures ∙ less_exact w.cmp.result (sym w.is_lt.ensures ∙ sym w.is_behind-is ∙ c.if-is_behind.true) in
          behind_it lots place w.in-Some.last lot w.index-lots-last.result w.in-Some.ensures.0 w.in-Some.ensures.1 w.if-last-lots.true
          (subst (λ (l : LotId). lot_cmp l lot ≡ Less) w.index-lots-last.is less)
      | in-Some+else-last-lots w ↦ absurd (grind (arith, sym w.is_behind-is ∙ c.if-is_behind.true))
      | in-None w ↦ behind_none lots place lot w.in-None.ensures
    ]

    ahead : c.match-get.is_ahead ≡ true → place < length lots → lot_cmp lot (get_or lots place lot) ≡ Less
    ahead e lt = elim c.match-get.branch [
      | in-Some-get w ↦
          let less : lot_cmp lot w.in-Some-get.next.now ≡ Less = sym w.cmp-in-Some-get.ensures ∙ less_exact w.cmp-in-Some-get.result (sym w.is_lt-is_ahead.ensures ∙ sym w.is_ahead-is ∙ e) in
          subst (λ (l : LotId). lot_cmp lot l ≡ Less) (w.in-Some-get.ensures.lookup.1 ∙ get_or_default lots place w.in-Some-get.next.now lot lt) less
      | in-None-get w ↦ (let le = w.in-None-get.ensures.lookup.3 in absurd (omega arith))
    ]
