-- What is sent for a member.
use Rattle.serde.specs.Event.{Log, Logs, field_key}
use Rattle.serde.specs.declared.name.Case.TheVariants.{AsIs}
use Rattle.toll_wire.specs.Common.{Data, Bytes}
use Rattle.serde_json.specs.Events.{SendsValue}

-- a member of this name and this value
pub record SendsMember (name : Bytes) (value : Data) (old new : Log) : Type 0 where
  pub named : Log
  pub key : Logs old named (field_key name AsIs)
  pub sent : SendsValue value named new
