use Rattle.std.proofs.Common.{◌≡◌, map, drop}
use Rattle.toll_protocol.proofs.Common.{header_bytes, values_of, fields_named}
use Rattle.toll_protocol.specs.Found.{seen_match}
use Rattle.toll_protocol.proofs.FieldLemmas.{seen_with}
use Rattle.toll_protocol.proofs.http_messages.field.find_field.Given as goal

abbrev pub invariant-loop-field : goal.invariant-loop-field
invariant-loop-field l = seen_with (seen_match l.found) (values_of l.name (map (header_bytes l.text) (drop l.field-index l.fields)))
    ≡ fields_named l.name (map (header_bytes l.text) l.fields)
