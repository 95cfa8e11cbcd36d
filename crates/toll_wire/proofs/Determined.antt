-- Events have one list of answers, if none is a fault, and an owner's part alone has one list of replies.
use Rattle.std.proofs.Common.{◌≡◌, true, cond, Some, None, is_some, List, [], ◌∷◌, map, Result, Ok, Err, refl, sym, ap, subst, ◌∙◌}
use Rattle.std.specs.Option.{option_map}
use Rattle.toll_wire.proofs.Common.{false≢true, result_ok, Bytes, History, KeepFault, PlantCmd, PlantAnswer, meaning_of_plant_reply, Event, Answer, Text, Unavailable, IsPlantStep, IsStep, ReplyText, PlantMeaning, NoFaults, meaning_of_answer, text_of_failure, text_of_reply_meaning, Asks, Fails, Saying, By, Nobody, IsTold, after_saying, IsRun, OwnEvent, Sent, Did, AreAlone, Forbidden}
use Rattle.toll_answers.proofs.OneReply.{one_reply}
use Rattle.toll_answers.proofs.OneAnswer.{one_plant_answer}
use Rattle.toll_wire.specs.declared.event.Event.TheVariants.{Owner, Plant as CommandOf}
use Rattle.toll_wire.specs.declared.event.Answer.TheVariants.{Bytes as Reply, Plant as CommandReply}
use Rattle.toll_wire.proofs.Readings.{says_once}

-- the reply to a saying has one text
one_told : (H : History) (s : Saying) (out other : Bytes) → IsTold H s out → IsTold H s other → out ≡ other
one_told H (Nobody text) out other is is' = is ∙ sym is'
one_told H (By o None asking) out other is is' = is ∙ sym is'
one_told H (By o (Some key) (Fails text)) out other is is' = is.2 ∙ ap (λ b. cond b text (text_of_failure Forbidden)) (is.1 ∙ sym is'.1) ∙ sym is'.2
one_told H (By o (Some key) (Asks q)) out other is is' = is.2 ∙ ap text_of_reply_meaning (one_reply o H key q is.0 is'.0 is.1 is'.1) ∙ sym is'.2

-- ---- a part alone

pub one_alone : (F : History) (own : List OwnEvent) (replies others : List Bytes) → AreAlone F own replies → AreAlone F own others → replies ≡ others
one_alone F [] [] [] alone alone' = refl
one_alone F (Sent bytes ∷ own) (out ∷ replies) (other ∷ others) (s, says, reported, rest) (s', says', reported', rest') =
    let same = says_once bytes s' s says' says in
    let first = one_told F s out other reported (subst (λ s. IsTold F s other) same reported') in
    let later = one_alone (after_saying F s) own replies others rest (subst (λ s. AreAlone (after_saying F s) own others) same rest') in
    λ i. first i ∷ later i
one_alone F (Did c ∷ own) replies others alone alone' = one_alone (c ∷ F) own replies others alone alone'
one_alone F [] [] (other ∷ others) alone alone' = absurd alone'
one_alone F [] (out ∷ replies) others alone alone' = absurd alone
one_alone F (Sent bytes ∷ own) [] others alone alone' = absurd alone
one_alone F (Sent bytes ∷ own) (out ∷ replies) [] alone alone' = absurd alone'

-- ---- a run

abbrev AreAlike : (answer other : Answer) (new last : History) → Type 0
AreAlike answer other new last = (meaning_of_answer answer ≡ meaning_of_answer other) × (new ≡ last)

one_plant_step : (old new last : History) (command : PlantCmd) (outcome other : Result PlantAnswer KeepFault)
    → is_some (option_map PlantMeaning (result_ok outcome)) ≡ true → is_some (option_map PlantMeaning (result_ok other)) ≡ true
    → IsPlantStep old command outcome new → IsPlantStep old command other last
    → (option_map PlantMeaning (result_ok outcome) ≡ option_map PlantMeaning (result_ok other)) × (new ≡ last)
one_plant_step old new last command (Ok answer) (Ok other) calm calm' step step' =
    (ap (λ a. Some (PlantMeaning a)) (one_plant_answer old command answer other step.0 step'.0), step.1 ∙ sym step'.1)
one_plant_step old new last command (Err fault) other calm calm' step step' = absurd (false≢true calm)
one_plant_step old new last command (Ok answer) (Err fault) calm calm' step step' = absurd (false≢true calm')

one_step : (old new last : History) (e : Event) (a b : Answer) → is_some (meaning_of_answer a) ≡ true → is_some (meaning_of_answer b) ≡ true
    → IsStep old e a new → IsStep old e b last → AreAlike a b new last
one_step old new last (Owner bytes) (Reply (Text text)) (Reply (Text other)) calm calm' (s, says, reported, made) (s', says', reported', made') =
    let same = says_once bytes.items s' s says' says in (
      ap (λ out. Some (ReplyText out)) (one_told old s text.items other.items reported (subst (λ s. IsTold old s other.items) same reported')),
      made ∙ sym (made' ∙ ap (after_saying old) same),
    )
one_step old new last (CommandOf command) (CommandReply reply) (CommandReply other) calm calm' step step' =
    one_plant_step old new last command (meaning_of_plant_reply reply) (meaning_of_plant_reply other) calm calm' step step'
one_step old new last (Owner bytes) (Reply Unavailable) b calm calm' step step' = absurd (false≢true calm)
one_step old new last (Owner bytes) (Reply (Text text)) (Reply Unavailable) calm calm' step step' = absurd (false≢true calm')
one_step old new last (Owner bytes) (CommandReply reply) b calm calm' step step' = absurd step
one_step old new last (CommandOf command) (Reply out) b calm calm' step step' = absurd step
one_step old new last (Owner bytes) (Reply (Text text)) (CommandReply reply) calm calm' step step' = absurd step'
one_step old new last (CommandOf command) (CommandReply reply) (Reply out) calm calm' step step' = absurd step'

-- if no answer is a fault, events have one list of answers, and leave one history
pub answers-determined : (old new last : History) (events : List Event) (answers others : List Answer) → NoFaults answers → NoFaults others
    → IsRun IsStep old events answers new → IsRun IsStep old events others last → (map meaning_of_answer answers ≡ map meaning_of_answer others) × (new ≡ last)
answers-determined old new last [] [] [] calm calm' run run' = (refl, run ∙ sym run')
answers-determined old new last (e ∷ events) (a ∷ answers) (b ∷ others) calm calm' run run' =
    let step = one_step old run.0 run'.0 e a b calm.0 calm'.0 run.1 run'.1 in
    let rest = answers-determined run.0 new last events answers others calm.1 calm'.1 run.2 (subst (λ H. IsRun IsStep H events others last) (sym step.1) run'.2) in
    ((λ i. step.0 i ∷ rest.0 i), rest.1)
answers-determined old new last [] [] (b ∷ others) calm calm' run run' = absurd run'
answers-determined old new last [] (a ∷ answers) others calm calm' run run' = absurd run
answers-determined old new last (e ∷ events) [] others calm calm' run run' = absurd run
answers-determined old new last (e ∷ events) (a ∷ answers) [] calm calm' run run' = absurd run'
