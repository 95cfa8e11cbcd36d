-- The result of a search among fields.
use Rattle.toll_protocol.specs.Fields.{Seen, absent, once, several}
use Rattle.toll_protocol.specs.declared.http_messages.field.FieldMatch.{FieldMatch}
use Rattle.toll_protocol.specs.declared.http_messages.field.FieldMatch.TheVariants.{Absent, Once, Several}

abbrev pub seen_match : FieldMatch → Seen
seen_match Absent = absent
seen_match (Once v) = once v.now
seen_match Several = several
