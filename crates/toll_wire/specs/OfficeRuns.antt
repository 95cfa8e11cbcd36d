-- Events of the office, and their answers, as a run.
use Rattle.std.specs.Prelude.{◌≡◌, ◌⊎◌, true, false, is_some, Option, Some, None, option_map, List, Contains, Err}
use Rattle.std.specs.Result.{result_ok}
use Rattle.toll_wire.specs.Common.{Bytes, same_bytes, house_name, History, IsLawful, Meaning, Content, KeepFault, Memory, PlantAnswer, after_plant, meaning_of_plant_reply, HoldsFor, AllByRecursion}
use Rattle.toll_answers.specs.PlantAnswers.{IsValidCommand}
use Rattle.toll_history.specs.Runs.{IsRun}
use Rattle.toll_desk.specs.OfficeSteps.{IsPlantStep, plant_steps}
use Rattle.toll_desk.specs.Steps.{AreStepsFrom, IsKeepStep}
use Rattle.toll_wire.specs.declared.event.Event.{Event}
use Rattle.toll_wire.specs.declared.event.Event.TheVariants.{Owner, Plant as Command}
use Rattle.toll_wire.specs.declared.event.Answer.{Answer}
use Rattle.toll_wire.specs.declared.event.Answer.TheVariants.{Bytes as Reply, Plant as CommandReply}
use Rattle.toll_wire.specs.declared.outgoing.Out.{Out}
use Rattle.toll_wire.specs.declared.outgoing.Out.TheVariants.{Text, Unavailable}
use Rattle.toll_keep.specs.Meaning.{Part, meaning_for}
use Rattle.toll_wire.specs.Parts.{AreThoseOf, IsPrivate, RepliesAsAlone}
use Rattle.toll_wire.specs.Sayings.{AreOfOneOf, Saying, Says, IsTold, after_saying}
use Rattle.toll_wire.specs.Steps.{IsAnswered, IsAnsweredKeeping}

-- ---- one step

-- From the old history the event may get the answer and lead to the new one. A request without a reply leaves the history.
abbrev pub IsStep : History → Event → Answer → History → Type 0
IsStep old (Owner bytes) (Reply (Text text)) new = (s : Saying) × Says bytes.items s × IsTold old s text.items × (new ≡ after_saying old s)
IsStep old (Owner bytes) (Reply Unavailable) new = new ≡ old
IsStep old (Command command) (CommandReply reply) new = IsPlantStep old command (meaning_of_plant_reply reply) new
IsStep old _ _ new = ⊥

-- the histories that an event can make of this one: bytes that can't be read for lack of memory leave it
abbrev pub MayMake : History → Event → History → Type 0
MayMake old (Owner bytes) new = ((s : Saying) × Says bytes.items s × (new ≡ after_saying old s)) ⊎ (new ≡ old)
MayMake old (Command command) new = new ≡ after_plant old command

-- ---- events in order

module _ {K : Type 0} (meaning : Meaning K) where
  -- the event got this answer
  abbrev pub IsEventServed : K → Event → Answer → K → Type 0
  IsEventServed old (Owner bytes) (Reply out) new = IsAnswered meaning old new bytes.items out
  IsEventServed old (Command command) (CommandReply reply) new =
      IsKeepStep meaning plant_steps old command (meaning_of_plant_reply reply) new × IsValidCommand command
  IsEventServed old _ _ new = ⊥

  -- the events got these answers one after another, and made the one keep of the other
  abbrev pub AreServed : K → List Event → List Answer → K → Type 0
  AreServed = IsRun IsEventServed

  -- the events are steps one after another, from rows that were held
  abbrev pub AreSteps : K → Content → History → List Event → List Answer → K → Type 0
  AreSteps = AreStepsFrom meaning IsStep MayMake

-- The events and their answers are a run from this history to a lawful one, whose rows are held. Each owner's replies are those that its part
-- gives alone.
pub record IsRunOf (holds : Content → Type 0) (H : History) (events : List Event) (answers : List Answer) : Type 0 where
  pub last : History
  pub run : IsRun IsStep H events answers last
  pub private : IsPrivate H events answers
  pub lawful : IsLawful last
  pub left : HoldsFor holds last

-- ---- requests of some owners, among those of anybody

-- the event is a request
abbrev pub IsRequest : Event → Type 0
IsRequest (Owner bytes) = Unit {0}
IsRequest (Command command) = ⊥

module _ {K : Type 0} (os : List Bytes) (meaning : Meaning K) (part : List Bytes → Part K) where
  -- The request got this answer. One of these owners is a step over what is held for them, and any other leaves that.
  pub record IsAnsweredFor (old new : K) (bytes : Bytes) (out : Out) : Type 0 where
    pub answered : IsAnswered meaning old new bytes out
    pub alone : AreOfOneOf os bytes → IsAnswered (meaning_for meaning part os) old new bytes out
    pub others : ¬ (AreOfOneOf os bytes) → IsAnsweredKeeping (meaning_for meaning part os) old new out

  -- the event is a request that got this answer so
  abbrev pub IsRequestAnswered : K → Event → Answer → K → Type 0
  IsRequestAnswered old (Owner bytes) (Reply out) new = IsAnsweredFor old new bytes.items out
  IsRequestAnswered old _ _ new = ⊥

  -- the events are requests that got these answers so, one after another, and made the one keep of the other
  abbrev pub AreRequestsAnswered : K → List Event → List Answer → K → Type 0
  AreRequestsAnswered = IsRun IsRequestAnswered

-- The requests of these owners, with their replies, are a run of their own from this history, whose last rows are held. So each of them gets
-- the replies that its part gives alone.
pub record IsRunFor (os : List Bytes) (holds : Content → Type 0) (H : History) (events : List Event) (answers : List Answer) : Type 0 where
  pub own : List Event
  pub replies : List Answer
  pub are_theirs : AreThoseOf os events answers own replies
  pub run : IsRunOf holds H own replies
  pub alone : (o : Bytes) → Contains os o → same_bytes o house_name ≡ false → RepliesAsAlone o H events answers

-- ---- what an answer says

-- the bytes of a reply, or the answer to the plant
pub data AnswerMeaning : Type 0 where
  ReplyText : (text : Bytes) → AnswerMeaning
  PlantMeaning : (answer : PlantAnswer) → AnswerMeaning

-- nothing, if there was no reply or a fault
abbrev pub meaning_of_answer : Answer → Option AnswerMeaning
meaning_of_answer (Reply (Text text)) = Some (ReplyText text.items)
meaning_of_answer (Reply Unavailable) = None
meaning_of_answer (CommandReply reply) = option_map PlantMeaning (result_ok (meaning_of_plant_reply reply))

-- no answer is a fault
abbrev pub NoFaults : List Answer → Type 0
NoFaults answers = AllByRecursion (λ a. is_some (meaning_of_answer a) ≡ true) answers

-- the only fault in an answer to the plant is lack of memory
abbrev pub IsOpenAnswer : Answer → Type 0
IsOpenAnswer (Reply out) = Unit {0}
IsOpenAnswer (CommandReply reply) = (fault : KeepFault) → meaning_of_plant_reply reply ≡ Err fault → fault ≡ Memory
