-- What the laws of runs say of a run, and of two.
use Rattle.std.specs.Prelude.{◌≡◌, false, Some, List, map}
use Rattle.toll_wire.specs.Common.{Bytes, same_bytes, house_name, LotId, History, IsLawful, part, Way, trace_text, IsPlantAnswer, Shows, ReplyTrace, Content}
use Rattle.toll_answers.specs.declared.plant_cmd.PlantCmd.TheVariants.{Recall}
use Rattle.toll_base.specs.Lots.{lot_id}
use Rattle.toll_trace.specs.declared.step.Step.{Step}
use Rattle.toll_answers.specs.Agreement.{IsOwnTrace, IsPlantTrace}
use Rattle.toll_history.specs.Runs.{IsRun}
use Rattle.toll_wire.specs.OfficeRuns.{IsRunOf, IsStep, NoFaults, meaning_of_answer}
use Rattle.toll_wire.specs.Parts.{IsPart, IsPrivate, OwnEvent}
use Rattle.toll_wire.specs.Printed.{PrintsLine, asks_trace}
use Rattle.toll_wire.specs.ReplyTexts.{text_of_reply_meaning}
use Rattle.toll_wire.specs.Sayings.{Asks, By, IsTold}
use Rattle.toll_wire.specs.declared.event.Answer.{Answer}
use Rattle.toll_wire.specs.declared.event.Event.{Event}

-- the history that a run begins with, its events, and their answers
pub record Course : Type 0 where
  pub start : History
  pub events : List Event
  pub answers : List Answer

-- it is a run that ends with a content such as this
abbrev pub IsRunTo : (Content → Type 0) → Course → Type 0
IsRunTo holds run = IsRunOf holds run.start run.events run.answers

-- if both begin with the same part of the owner's and its part of both is the same, so are its replies
abbrev pub AreRepliesAlike : (o : Bytes) → (one other : Course) → Type 0
AreRepliesAlike o one other =
    part o one.start ≡ part o other.start → (own : List OwnEvent) (replies others : List Bytes) →
    IsPart o one.events one.answers own replies → IsPart o other.events other.answers own others → replies ≡ others

-- the same of each owner besides HOUSE
abbrev pub AreRunsAlike : (one other : Course) → Type 0
AreRunsAlike one other = (o : Bytes) → same_bytes o house_name ≡ false → AreRepliesAlike o one other

-- if no answer is a fault, two runs of these events have the same answers
abbrev pub AnswerAlike : (Content → Type 0) → (Content → Type 0) → History → List Event → Type 0
AnswerAlike holds keeps H events =
    (answers others : List Answer) → IsRunOf holds H events answers → IsRunOf keeps H events others →
    NoFaults answers → NoFaults others → map meaning_of_answer answers ≡ map meaning_of_answer others

-- every run of these events to a lawful history is private
abbrev pub RunPrivately : History → List Event → Type 0
RunPrivately start events = (answers : List Answer) (end : History) → IsRun IsStep start events answers end → IsLawful end → IsPrivate start events answers

-- if no answer is a fault, these events have one list of answers, and leave one history
abbrev pub AreDetermined : History → List Event → Type 0
AreDetermined start events =
    (answers others : List Answer) (end other : History) → NoFaults answers → NoFaults others →
    IsRun IsStep start events answers end → IsRun IsStep start events others other →
    (map meaning_of_answer answers ≡ map meaning_of_answer others) × (end ≡ other)

-- if the lot is HOUSE's, its recalls are printed with the same lines of the owner's lots
abbrev pub PrintTheSame : (G H : History) → (o : Bytes) → LotId → Type 0
PrintTheSame G H o lot =
    lot.owner ≡ house_name → (text other line : Bytes) → IsPlantAnswer H (Recall lot) (Shows other) →
    PrintsLine G lot o text line → PrintsLine H lot o other line

-- the text is that of the plant's trace
abbrev pub PrintsTrace : History → Way → LotId → (text : Bytes) → Type 0
PrintsTrace H way lot text = (trace : List Step) × IsPlantTrace H way lot trace × (text ≡ trace_text trace)

-- the reply to the owner with this key that asks for the trace of its lot is the owner's trace
abbrev pub RepliesWithTrace : History → (o key : Bytes) → Way → (lot : Bytes) → Type 0
RepliesWithTrace H o key way lot =
    (reply : Bytes) → IsTold H (By o (Some key) (Asks (asks_trace way lot))) reply →
    (trace : List Step) × IsOwnTrace H o way (lot_id o lot) trace × (reply ≡ text_of_reply_meaning (ReplyTrace trace))
