-- What one owner has of a run, as bytes: its requests and their replies, and the commands on its rows. What some owners have of requests.
use Rattle.std.specs.Prelude.{◌≡◌, ◌⊎◌, true, false, Option, Some, None, List, [], ◌∷◌, Result, Ok}
use Rattle.toll_wire.specs.Common.{Bytes, same_bytes, house_name, History, part, Accepted, KeepFault, PlantAnswer, Judged, recorded_command, meaning_of_plant_reply}
use Rattle.toll_base.specs.Words.{where_so}
use Rattle.toll_history.specs.Command.{Command}
use Rattle.toll_wire.specs.declared.event.Event.{Event}
use Rattle.toll_wire.specs.declared.event.Event.TheVariants.{Owner, Plant}
use Rattle.toll_wire.specs.declared.event.Answer.{Answer}
use Rattle.toll_wire.specs.declared.event.Answer.TheVariants.{Bytes as Reply, Plant as PlantReply}
use Rattle.toll_wire.specs.declared.outgoing.Out.TheVariants.{Text, Unavailable}
use Rattle.toll_wire.specs.Sayings.{AreOfOneOf, Saying, Says, IsTold, after_saying, claims}

-- an event of an owner's own: a request as it came, or a command of the plant on its rows
pub data OwnEvent : Type 0 where
  Sent : (bytes : Bytes) → OwnEvent
  Did : (command : Command) → OwnEvent

-- the bytes of a request claim to be this owner's
abbrev pub IsClaimed : Bytes → Bytes → Type 0
IsClaimed o bytes = (saying : Saying) × Says bytes saying × (claims o saying ≡ true)

-- the command that was accepted, if it is one on this owner's rows
abbrev pub done_for : Bytes → Option Command → Result PlantAnswer KeepFault → Option Command
done_for o (Some c) (Ok (Judged Accepted)) = where_so (same_bytes c.owner o) c
done_for o _ _ = None

-- a command more, if there was one
abbrev pub WithDone : Option Command → (List OwnEvent → Type 0) → List OwnEvent → Type 0
WithDone None Rest own = Rest own
WithDone (Some c) Rest own = (others : List OwnEvent) × (own ≡ Did c ∷ others) × Rest others

-- Of these events and their answers these are the owner's own, and these the replies to its requests: requests that claim it and got a reply,
-- and commands on its rows that were accepted, in their order.
abbrev pub IsPart : Bytes → List Event → List Answer → List OwnEvent → List Bytes → Type 0
IsPart o [] [] own replies = (own ≡ []) × (replies ≡ [])
IsPart o (Owner bytes ∷ events) (Reply (Text text) ∷ answers) own replies =
    (IsClaimed o bytes.items × (others : List OwnEvent) × (rest : List Bytes) × (own ≡ Sent bytes.items ∷ others) × (replies ≡ text.items ∷ rest)
    × IsPart o events answers others rest)
    ⊎ ((¬ (IsClaimed o bytes.items)) × IsPart o events answers own replies)
IsPart o (Owner bytes ∷ events) (Reply Unavailable ∷ answers) own replies = IsPart o events answers own replies
IsPart o (Plant command ∷ events) (PlantReply reply ∷ answers) own replies =
    WithDone (done_for o (recorded_command command) (meaning_of_plant_reply reply)) (λ others. IsPart o events answers others replies) own
IsPart o _ _ own replies = ⊥

-- these are the replies to the owner's requests if nothing but these events comes, and each command is accepted without a test
abbrev pub AreAlone : History → List OwnEvent → List Bytes → Type 0
AreAlone F [] [] = Unit {0}
AreAlone F (Sent bytes ∷ own) (reply ∷ replies) =
    (saying : Saying) × Says bytes saying × IsTold F saying reply × AreAlone (after_saying F saying) own replies
AreAlone F (Did c ∷ own) replies = AreAlone (c ∷ F) own replies
AreAlone F _ _ = ⊥

-- the owner has its part of these events and their answers
abbrev pub HasPart : Bytes → List Event → List Answer → Type 0
HasPart o events answers = (own : List OwnEvent) × (replies : List Bytes) × IsPart o events answers own replies

-- the replies of the owner's part are those that this part gives alone
abbrev pub RepliesAsAlone : Bytes → History → List Event → List Answer → Type 0
RepliesAsAlone o H events answers =
    (own : List OwnEvent) (replies : List Bytes) → IsPart o events answers own replies → AreAlone (part o H) own replies

-- each owner has its part, and the replies to each besides HOUSE are those that its part gives alone
abbrev pub IsPrivate : History → List Event → List Answer → Type 0
IsPrivate H events answers =
    (o : Bytes) → HasPart o events answers × (same_bytes o house_name ≡ false → RepliesAsAlone o H events answers)

-- Of these requests and their answers these are those of some owners, in their order: each that got a reply and claims no other owner with a
-- key.
abbrev pub AreThoseOf : List Bytes → List Event → List Answer → List Event → List Answer → Type 0
AreThoseOf os [] [] own replies = (own ≡ []) × (replies ≡ [])
AreThoseOf os (Owner bytes ∷ events) (Reply (Text text) ∷ answers) own replies =
    (AreOfOneOf os bytes.items × (others : List Event) × (rest : List Answer) × (own ≡ Owner bytes ∷ others) × (replies ≡ Reply (Text text) ∷ rest)
    × AreThoseOf os events answers others rest)
    ⊎ ((¬ (AreOfOneOf os bytes.items)) × AreThoseOf os events answers own replies)
AreThoseOf os (Owner bytes ∷ events) (Reply Unavailable ∷ answers) own replies = AreThoseOf os events answers own replies
AreThoseOf os _ _ own replies = ⊥
