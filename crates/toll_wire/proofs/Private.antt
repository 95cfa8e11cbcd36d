-- In a run each owner has its part, and its replies are those that its part gives alone.
use Rattle.std.proofs.Common.{◌≡◌, Bool, true, false, cond, Option, Some, None, List, [], ◌∷◌, Result, Ok, Err, refl, sym, ap, subst, subst₂, ◌∙◌, inl, inr, ◌⊎◌}
use Rattle.toll_wire.proofs.Common.{false≢true, Bytes, same_bytes, Command, Content, History, part, Verdict, Accepted, Repeated, Refused, verdict, grow, grown, IsLawful, KeepFault, has_owner_key, IsReply, after_reply, PlantCmd, PlantAnswer, Judged, IsQuestionAnswer, IsVerdictOr, meaning_of_plant_reply, recorded_command, option_map_or, Event, Answer, Text, Unavailable, IsPlantStep, IsStep, IsRunOf, Saying, By, Asks, Fails, Nobody, Says, IsTold, after_saying, claims, house_name, IsRun, OwnEvent, Sent, Did, IsClaimed, done_for, WithDone, IsPart, AreAlone, HasPart, RepliesAsAlone, IsPrivate}
use Rattle.toll_desk.specs.Outcome.{HoldsFor}
use Rattle.toll_history.proofs.Own.{part-own, part-other}
use Rattle.toll_base.proofs.Texts.{same_bytes-exact}
use Rattle.toll_answers.proofs.OwnReplies.{has_owner_key-part, reply-both_ways, after_reply-part}
use Rattle.toll_wire.specs.declared.event.Event.TheVariants.{Owner, Plant as CommandOf}
use Rattle.toll_wire.specs.declared.event.Answer.TheVariants.{Bytes as Reply, Plant as CommandReply}
use Rattle.toll_wire.proofs.Growth.{lawful_before_run, part-after_saying}
use Rattle.toll_wire.proofs.Readings.{says_once}

module _ (o : Bytes) where
  -- ---- claims

  -- a claim is one of what the bytes say
  claim_is : (bytes : Bytes) (s : Saying) → Says bytes s → IsClaimed o bytes → claims o s ≡ true
  claim_is bytes s says claimed = subst (λ s. claims o s ≡ true) (says_once bytes claimed.0 s claimed.1 says) claimed.2

  is_claimed_or : (bytes : Bytes) (s : Saying) → Says bytes s → (b : Bool) → claims o s ≡ b
      → IsClaimed o bytes ⊎ ((¬ (IsClaimed o bytes)) × (claims o s ≡ false))
  is_claimed_or bytes s says true own = inl (s, says, own)
  is_claimed_or bytes s says false other = inr ((λ claimed. false≢true (sym other ∙ claim_is bytes s says claimed)), other)

  -- ---- every run has a part

  part_with : (done : Option Command) (Rest : List OwnEvent → Type 0) (own : List OwnEvent) → Rest own → (more : List OwnEvent) × WithDone done Rest more
  part_with None Rest own rest = (own, rest)
  part_with (Some c) Rest own rest = (Did c ∷ own, (own, refl, rest))

  has_more : (old new : History) (events : List Event) (answers : List Answer) (e : Event) (a : Answer) → IsStep old e a new
      → HasPart o events answers → HasPart o (e ∷ events) (a ∷ answers)
  has_more old new events answers (Owner bytes) (Reply (Text text)) (s, says, reported, made) (own, replies, is) =
      elim (is_claimed_or bytes.items s says (claims o s) refl) [
        | inl claimed ↦ (Sent bytes.items ∷ own, text.items ∷ replies, inl (claimed, own, replies, refl, refl, is))
        | inr not ↦ (own, replies, inr (not.0, is))
      ]
  has_more old new events answers (Owner bytes) (Reply Unavailable) step has = has
  has_more old new events answers (CommandOf command) (CommandReply reply) step (own, replies, is) =
      let more = part_with (done_for o (recorded_command command) (meaning_of_plant_reply reply)) (λ own. IsPart o events answers own replies) own is in
      (more.0, replies, more.1)
  has_more old new events answers (Owner bytes) (CommandReply reply) step has = absurd step
  has_more old new events answers (CommandOf command) (Reply out) step has = absurd step

  has_part : (old new : History) (events : List Event) (answers : List Answer) → IsRun IsStep old events answers new → HasPart o events answers
  has_part old new [] [] run = ([], [], (refl, refl))
  has_part old new (e ∷ events) (a ∷ answers) run = has_more old run.0 events answers e a run.1 (has_part run.0 new events answers run.2)
  has_part old new [] (a ∷ answers) run = absurd run
  has_part old new (e ∷ events) [] run = absurd run

  -- ---- a request of the owner over its part

  module _ (not_house : same_bytes o house_name ≡ false) where
    told_over_part : (H : History) → IsLawful H → (s : Saying) (out : Bytes) → claims o s ≡ true → IsTold H s out → IsTold (part o H) s out
    told_over_part H lawful (By p None asking) out own reported = reported
    told_over_part H lawful (By p (Some key) (Asks q)) out own (r, reply, is) =
        let same = same_bytes-exact p o own in
        (r, subst (λ w. IsReply w key (part o H) q r) (sym same) ((reply-both_ways o not_house H lawful key q r).1 (subst (λ w. IsReply w key H q r) same reply)), is)
    told_over_part H lawful (By p (Some key) (Fails text)) out own (b, admits, is) =
        let same = same_bytes-exact p o own in
        (b, admits ∙ ap (λ w. has_owner_key w key H) same ∙ sym (has_owner_key-part o not_house key H) ∙ ap (λ w. has_owner_key w key (part o H)) (sym same), is)
    told_over_part H lawful (Nobody text) out own reported = absurd (false≢true own)

    after_over_part : (H : History) → IsLawful H → (s : Saying) → claims o s ≡ true → after_saying (part o H) s ≡ part o (after_saying H s)
    after_over_part H lawful (By p None asking) own = refl
    after_over_part H lawful (By p (Some key) (Asks q)) own =
        let same = same_bytes-exact p o own in
        ap (λ w. after_reply w key (part o H) q) same ∙ after_reply-part o not_house H lawful key q ∙ ap (λ w. part o (after_reply w key H q)) (sym same)
    after_over_part H lawful (By p (Some key) (Fails text)) own = refl
    after_over_part H lawful (Nobody text) own = absurd (false≢true own)

    -- ---- one step

    module _ (old new : History) (lawful : IsLawful old) (replies : List Bytes) (Rest : List OwnEvent → List Bytes → Type 0)
        (alone : (own : List OwnEvent) (replies : List Bytes) → Rest own replies → AreAlone (part o new) own replies) where
      stays_alone : new ≡ old → (own : List OwnEvent) → Rest own replies → AreAlone (part o old) own replies
      stays_alone same own rest = subst (λ F. AreAlone (part o F) own replies) same (alone own replies rest)

      -- a request: one of the owner's own, or another's
      request_alone : (bytes text : Bytes) (own : List OwnEvent) → (s : Saying) × Says bytes s × IsTold old s text × (new ≡ after_saying old s)
          → (IsClaimed o bytes × (others : List OwnEvent) × (rest : List Bytes) × (own ≡ Sent bytes ∷ others) × (replies ≡ text ∷ rest) × Rest others rest) ⊎ ((¬ (IsClaimed o bytes)) × Rest own replies)
          → AreAlone (part o old) own replies
      request_alone bytes text own (s, says, reported, made) (inl (claimed, others, rest, own_are, replies_are, later)) =
          let claim = claim_is bytes s says claimed in
          let after = ap (part o) made ∙ sym (after_over_part old lawful s claim) in
          subst₂ (AreAlone (part o old)) (sym own_are) (sym replies_are)
          (s, says, told_over_part old lawful s text claim reported, subst (λ F. AreAlone F others rest) after (alone others rest later))
      request_alone bytes text own (s, says, reported, made) (inr (not, rest)) =
          elim (is_claimed_or bytes s says (claims o s) refl) [
            | inl claimed ↦ absurd (not claimed)
            | inr other ↦ subst (λ F. AreAlone F own replies) (ap (part o) made ∙ part-after_saying o bytes old s says other.1) (alone own replies rest)
          ]

      -- a command of the plant: accepted on the owner's rows, or on another's, or not accepted
      abbrev Adds : Option Command → List OwnEvent → Type 0
      Adds done own = WithDone done (λ own. Rest own replies) own

      accepted_alone : (c : Command) (own : List OwnEvent) → new ≡ c ∷ old → (b : Bool) → same_bytes c.owner o ≡ b → Adds (cond b (Some c) None) own
          → AreAlone (part o old) own replies
      accepted_alone c own made true is (others, own_are, rest) =
          subst (λ own. AreAlone (part o old) own replies) (sym own_are) (subst (λ F. AreAlone F others replies) (ap (part o) made ∙ part-own o c old is) (alone others replies rest))
      accepted_alone c own made false other rest = subst (λ F. AreAlone F own replies) (ap (part o) made ∙ part-other o c old other) (alone own replies rest)

      judged_alone : (c : Command) (own : List OwnEvent) (v : Verdict) → new ≡ grown v old c → Adds (done_for o (Some c) (Ok (Judged v))) own
          → AreAlone (part o old) own replies
      judged_alone c own Accepted made rest = accepted_alone c own made (same_bytes c.owner o) refl rest
      judged_alone c own Repeated made rest = stays_alone made own rest
      judged_alone c own (Refused why) made rest = stays_alone made own rest

      answer_alone : (done : Option Command) (otherwise : Type 0) (answer : PlantAnswer) (own : List OwnEvent)
          → IsVerdictOr old done otherwise answer → new ≡ option_map_or (grow old) done old
          → Adds (done_for o done (Ok answer)) own → AreAlone (part o old) own replies
      answer_alone (Some c) otherwise answer own is made rest =
          judged_alone c own (verdict old c) made (subst (λ a. Adds (done_for o (Some c) (Ok a)) own) is rest)
      answer_alone None otherwise answer own is made rest = stays_alone made own rest

      fault_alone : (done : Option Command) (fault : KeepFault) (own : List OwnEvent) → new ≡ old → Adds (done_for o done (Err fault)) own
          → AreAlone (part o old) own replies
      fault_alone (Some c) fault own same rest = stays_alone same own rest
      fault_alone None fault own same rest = stays_alone same own rest

      command_alone : (command : PlantCmd) (outcome : Result PlantAnswer KeepFault) (own : List OwnEvent) → IsPlantStep old command outcome new
          → Adds (done_for o (recorded_command command) outcome) own
          → AreAlone (part o old) own replies
      command_alone command (Ok answer) own step rest =
          answer_alone (recorded_command command) (IsQuestionAnswer old command answer) answer own step.0 step.1 rest
      command_alone command (Err fault) own step rest = fault_alone (recorded_command command) fault own step rest

    step_alone : (old new : History) (events : List Event) (answers : List Answer) (e : Event) (a : Answer) → IsLawful old → IsStep old e a new
        → RepliesAsAlone o new events answers
        → RepliesAsAlone o old (e ∷ events) (a ∷ answers)
    step_alone old new events answers (Owner bytes) (Reply (Text text)) lawful step alone own replies is =
        request_alone old new lawful replies (IsPart o events answers) alone bytes.items text.items own step is
    step_alone old new events answers (Owner bytes) (Reply Unavailable) lawful step alone own replies is = stays_alone old new lawful replies (IsPart o events answers) alone step own is
    step_alone old new events answers (CommandOf command) (CommandReply reply) lawful step alone own replies is =
        command_alone old new lawful replies (IsPart o events answers) alone command (meaning_of_plant_reply reply) own step is
    step_alone old new events answers (Owner bytes) (CommandReply reply) lawful step alone own replies is = absurd step
    step_alone old new events answers (CommandOf command) (Reply out) lawful step alone own replies is = absurd step

    -- ---- a run

    replies_alone : (old new : History) (events : List Event) (answers : List Answer) → IsRun IsStep old events answers new → IsLawful new
        → RepliesAsAlone o old events answers
    replies_alone old new [] [] run lawful own replies is = subst₂ (AreAlone (part o old)) (sym is.0) (sym is.1) tt
    replies_alone old new (e ∷ events) (a ∷ answers) run lawful own replies is =
        step_alone old run.0 events answers e a (lawful_before_run old new (e ∷ events) (a ∷ answers) run lawful) run.1 (replies_alone run.0 new events answers run.2 lawful) own replies is
    replies_alone old new [] (a ∷ answers) run lawful own replies is = absurd run
    replies_alone old new (e ∷ events) [] run lawful own replies is = absurd run

-- a run to a lawful history is private
pub run_private : (old new : History) (events : List Event) (answers : List Answer) → IsRun IsStep old events answers new → IsLawful new
    → IsPrivate old events answers
run_private old new events answers run lawful o =
    (has_part o old new events answers run, λ not_house. replies_alone o not_house old new events answers run lawful)

-- and one of the office, if what it leaves is held
pub run_of : (holds : Content → Type 0) (old new : History) (events : List Event) (answers : List Answer) → IsRun IsStep old events answers new
    → IsLawful new → HoldsFor holds new → IsRunOf holds old events answers
run_of holds old new events answers run lawful left =
    record { last = new; run = run; private = run_private old new events answers run lawful; lawful = lawful; left = left }
