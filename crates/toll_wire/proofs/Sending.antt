-- What is sent of lists and of objects.
use Rattle.std.proofs.Common.{◌≡◌, suc, Some, List, [], ◌∷◌, length, map, refl, ap}
use Rattle.toll_wire.proofs.Common.{Log, Logs, map_begins, map_ends, SendsMembers, SendsValue, items_len, members_len, items_of, Bytes}
use Rattle.serde_json.specs.Data.{Data, object, Members, member, no_members}
use Rattle.toll_wire.specs.Sending.{SendsMember}

-- lists are as long as what is said of them
pub items_length : {T : Type 0} (as_data : T → Data) (rows : List T) → items_len (items_of (map as_data rows)) ≡ length rows
items_length as_data [] = refl
items_length as_data (row ∷ rows) = ap suc (items_length as_data rows)

-- these members are sent, and then the end of their object
pub record Sends (ms : Members) (old new : Log) : Type 0 where
  pub sent : SendsMembers ms old new

pub sent_at_end : (old new : Log) → Logs old new map_ends → Sends no_members old new
sent_at_end old new ended = record { sent = ended }

pub sends : {name : Bytes} {value : Data} {rest : Members} {old middle new : Log} → SendsMember name value old middle → Sends rest middle new → Sends (member name value rest) old new
sends sent rest = record { sent = (sent.named, _, sent.key, sent.sent, rest.sent) }

pub sends_object : {ms : Members} {first new : Log} (old : Log) → Sends ms first new → Logs old first (map_begins (Some (members_len ms))) → SendsValue (object ms) old new
sends_object old rest begun = (_, begun, rest.sent)
