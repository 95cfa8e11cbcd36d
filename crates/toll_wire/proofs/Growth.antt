-- A step leaves a history or grows it by one command.
use Rattle.std.proofs.Common.{◌≡◌, ◌⊎◌, true, false, cond, Option, Some, None, List, Result, Ok, Err, refl, sym, ap, subst, ◌∙◌, inl, inr}
use Rattle.toll_wire.proofs.Common.{Bytes, same_bytes, PlaceOrder, CancelOrder, Release, Reject, Command, by, History, part, Verdict, Accepted, Repeated, Refused, verdict, grow, grown, IsLawful, IsValidAction, KeepFault, Request, IsValidOwnerRequest, has_owner_key, after_answer, after_reply, PlantCmd, PlantAnswer, meaning_of_plant_reply, recorded_command, option_map_or, Event, Answer, Text, Unavailable, IsPlantStep, IsStep, Saying, By, Asks, Fails, Nobody, Says, after_saying, claimed_in, claims, IsRun, run_back}
use Rattle.toll_base.specs.Words.{is_some_where}
use Rattle.toll_base.specs.declared.request.Request.TheVariants as request
use Rattle.toll_history.proofs.Own.{part-other}
use Rattle.toll_wire.specs.declared.event.Event.TheVariants.{Owner, Plant as CommandOf}
use Rattle.toll_wire.specs.declared.event.Answer.TheVariants.{Bytes as Reply, Plant as CommandReply}
use Rattle.toll_wire.proofs.Valid.{IsValidSaying, says_valid}

-- the one is the other, or that grown by such a command
abbrev Grows : (Command → Type 0) → History → History → Type 0
Grows IsSuch old new = (new ≡ old) ⊎ ((c : Command) × IsSuch c × (new ≡ grow old c))

-- a valid command of the owner that is claimed
abbrev IsOf : Option Bytes → Command → Type 0
IsOf claimed c = (claimed ≡ Some c.owner) × IsValidAction c.action

grows_by_answer : (o : Bytes) (H : History) (q : Request) → IsValidOwnerRequest q → Grows (IsOf (Some o)) H (after_answer o H q)
grows_by_answer o H (request.Place placing) valid = inr (by o (PlaceOrder placing), (refl, valid), refl)
grows_by_answer o H (request.Cancel order) valid = inr (by o (CancelOrder order), (refl, tt), refl)
grows_by_answer o H (request.Release lot) valid = inr (by o (Release lot), (refl, tt), refl)
grows_by_answer o H (request.Reject lot) valid = inr (by o (Reject lot), (refl, tt), refl)
grows_by_answer o H _ valid = inl refl

grows_by_reply : (o key : Bytes) (H : History) (q : Request) → IsValidOwnerRequest q → Grows (IsOf (Some o)) H (after_reply o key H q)
unfolding after_reply
grows_by_reply o key H q valid =
    elim (has_owner_key o key H) as (λ b. Grows (IsOf (Some o)) H (cond b (after_answer o H q) H)) [
      | true ↦ grows_by_answer o H q valid
      | false ↦ inl refl
    ]

grows_by_saying : (H : History) (s : Saying) → IsValidSaying s → Grows (IsOf (claimed_in s)) H (after_saying H s)
grows_by_saying H (By o (Some key) (Asks q)) valid = grows_by_reply o key H q valid
grows_by_saying H (By o (Some key) (Fails text)) valid = inl refl
grows_by_saying H (By o None asking) valid = inl refl
grows_by_saying H (Nobody text) valid = inl refl

-- ---- other owners' parts stay

part-grow : (o : Bytes) (c : Command) (H : History) → same_bytes c.owner o ≡ false → part o (grow H c) ≡ part o H
part-grow o c H other = by_verdict (verdict H c)
  where
    by_verdict : (v : Verdict) → part o (grown v H c) ≡ part o H
    by_verdict Accepted = part-other o c H other
    by_verdict Repeated = refl
    by_verdict (Refused why) = refl

pub part-after_saying : (o bytes : Bytes) (H : History) (s : Saying) → Says bytes s → claims o s ≡ false → part o (after_saying H s) ≡ part o H
part-after_saying o bytes H s says other =
    elim (grows_by_saying H s (says_valid bytes s says)) [
      | inl same ↦ ap (part o) same
      | inr grows ↦ ap (part o) grows.2 ∙ part-grow o grows.0 H (ap (is_some_where (λ p. same_bytes p o)) (sym grows.1.0) ∙ other)
    ]

-- ---- lawful histories

lawful_before : (H : History) (c : Command) → IsLawful (grow H c) → IsLawful H
lawful_before H c = by_verdict (verdict H c)
  where
    by_verdict : (v : Verdict) → IsLawful (grown v H c) → IsLawful H
    by_verdict Accepted lawful = lawful.0
    by_verdict Repeated lawful = lawful
    by_verdict (Refused why) lawful = lawful

lawful_before_plant : (old new : History) (command : PlantCmd) (outcome : Result PlantAnswer KeepFault) → IsPlantStep old command outcome new
    → IsLawful new → IsLawful old
lawful_before_plant old new command (Err fault) step lawful = subst IsLawful step lawful
lawful_before_plant old new command (Ok answer) step lawful = by_done (recorded_command command) (subst IsLawful step.1 lawful)
  where
    by_done : (done : Option Command) → IsLawful (option_map_or (grow old) done old) → IsLawful old
    by_done (Some c) lawful = lawful_before old c lawful
    by_done None lawful = lawful

lawful_before_step : (old new : History) (e : Event) (a : Answer) → IsStep old e a new → IsLawful new → IsLawful old
lawful_before_step old new (Owner bytes) (Reply (Text text)) (s, says, reported, made) lawful =
    elim (grows_by_saying old s (says_valid bytes.items s says)) [
      | inl same ↦ subst IsLawful (made ∙ same) lawful
      | inr grows ↦ lawful_before old grows.0 (subst IsLawful (made ∙ grows.2) lawful)
    ]
lawful_before_step old new (Owner bytes) (Reply Unavailable) step lawful = subst IsLawful step lawful
lawful_before_step old new (CommandOf command) (CommandReply reply) step lawful = lawful_before_plant old new command (meaning_of_plant_reply reply) step lawful
lawful_before_step old new (Owner bytes) (CommandReply reply) step lawful = absurd step
lawful_before_step old new (CommandOf command) (Reply out) step lawful = absurd step

-- a run to a lawful history begins with one
pub lawful_before_run : (old new : History) (events : List Event) (answers : List Answer) → IsRun IsStep old events answers new → IsLawful new → IsLawful old
lawful_before_run old new events answers run lawful = run_back IsStep IsLawful lawful_before_step old new events answers run lawful
