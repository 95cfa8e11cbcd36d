-- What is printed of a recall and a trace is that of the definitions.
use Rattle.std.proofs.Common.{◌≡◌, true, is_some, Some, List, ap, subst, ◌∙◌, Contains, MatchBool}
use Rattle.toll_wire.proofs.Common.{Bytes, UnknownLot, History, acts, Verdict, Accepted, Repeated, Refused, verdict_of_checks, Shows, IsCheckedOr, IsPlantAnswer, IsRecallShown, IsTraceShown, lot_checks, has_owner_key, IsOwnerAnswer, IsReply, IsTraceReply, Request, OwnerReply, ReplyForbidden, ReplyRefused, ReplyTrace, recall_text, text_of_reply_meaning, Asks, By, IsTold}
use Rattle.toll_answers.specs.declared.plant_cmd.PlantCmd.TheVariants.{Recall, Trace}
use Rattle.toll_base.specs.Lots.{lot_id}
use Rattle.toll_base.specs.declared.lot.LotId.{LotId}
use Rattle.toll_history.specs.OwnerFacts.{lot_row}
use Rattle.toll_answers.specs.Edges.{IsOwnJoined}
use Rattle.toll_answers.specs.declared.genealogy.recall.RecallLine.{RecallLine}
use Rattle.toll_trace.specs.Trace.{IsTrace}
use Rattle.toll_trace.specs.declared.step.Step.{Step}
use Rattle.toll_trace.specs.declared.way.Way.{Way}
use Rattle.toll_trace.specs.declared.way.Way.TheVariants.{Back, Forward}
use Rattle.toll_wire.specs.Printed.{PrintsLine, asks_trace}

-- if a text is shown, the checks were passed
shown_past : (v : Verdict) (S : Type 0) (text : Bytes) → IsCheckedOr v S (Shows text) → S
shown_past Accepted S text shown = shown
shown_past Repeated S text shown = shown
shown_past (Refused why) S text shown = absurd (cc shown)

pub recall_printed : (H : History) (lot : LotId) (text : Bytes) → IsPlantAnswer H (Recall lot) (Shows text) → IsRecallShown H lot (Shows text)
recall_printed H lot text shown = shown_past (verdict_of_checks (lot_checks H lot)) (IsRecallShown H lot (Shows text)) text shown

pub trace_shown : (H : History) (lot : LotId) (way : Way) (text : Bytes) → IsPlantAnswer H (Trace lot way) (Shows text) → IsTraceShown H lot way (Shows text)
trace_shown H lot way text shown = shown_past (verdict_of_checks (lot_checks H lot)) (IsTraceShown H lot way (Shows text)) text shown

pub shown_text_same : (text other : Bytes) → Shows text ≡ Shows other → text ≡ other
shown_text_same text other e = (cc e)

-- a line of the one recall is one of the other, if its shown line is
pub line_printed : (G H : History) (lot : LotId) (o text other line : Bytes) → (p : PrintsLine G lot o text line) → (shown : IsRecallShown H lot (Shows other)) → ((s : RecallLine) → s.step.lot.owner ≡ o → Contains p.lines s → Contains shown.lines s) → PrintsLine H lot o other line
line_printed G H lot o text other line p shown agree = record {
  lines = shown.lines;
  recalled = shown.recalled;
  printed = shown_text_same other (recall_text shown.lines) shown.shown;
  shown = p.shown;
  among = agree p.shown p.own p.among;
  own = p.own;
  is = p.is;
}

module _ (H : History) (o key lot : Bytes) (has : has_owner_key o key H ≡ true) (known : is_some (lot_row H o lot) ≡ true) where
  abbrev TracedTo : Way → OwnerReply → Type 0
  TracedTo way r = IsTraceReply (IsOwnJoined (acts o H) way) (lot_id o lot) r

  printed_answered : (q : Request) (r : OwnerReply) → IsReply o key H q r → IsOwnerAnswer o H q r
  unfolding IsReply
  printed_answered q r reply = subst (λ b. MatchBool b (IsOwnerAnswer o H q r) (r ≡ ReplyForbidden)) has reply

  printed_traced : (way : Way) (r : OwnerReply) → IsOwnerAnswer o H (asks_trace way lot) r → TracedTo way r
  printed_traced Back r answer = subst (λ b. MatchBool b (TracedTo Back r) (r ≡ ReplyRefused UnknownLot)) known answer
  printed_traced Forward r answer = subst (λ b. MatchBool b (TracedTo Forward r) (r ≡ ReplyRefused UnknownLot)) known answer

  -- the reply to an owner that has the lot is its trace
  pub own_trace_told : (way : Way) (reply : Bytes) → IsTold H (By o (Some key) (Asks (asks_trace way lot))) reply →
      (trace : List Step) × IsTrace (IsOwnJoined (acts o H) way) (lot_id o lot) trace × (reply ≡ text_of_reply_meaning (ReplyTrace trace))
  own_trace_told way reply reported =
      let is = printed_traced way reported.0 (printed_answered (asks_trace way lot) reported.0 reported.1) in
      (is.trace, is.traced, reported.2 ∙ ap text_of_reply_meaning is.reported)
