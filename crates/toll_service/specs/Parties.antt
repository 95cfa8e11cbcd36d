-- The party whose turn a request takes.
use Rattle.std.specs.Prelude.{◌≡◌, Option, None, Some, if◌then◌else◌}
use Rattle.toll_base.specs.Bytes.{Bytes}
use Rattle.toll_base.specs.Values.{is_name}
use Rattle.toll_protocol.specs.Parsing.{IsParsedAs, ParseResult, refused, request}
use Rattle.toll_server.specs.declared.listener.Listener.{Listener}
use Rattle.toll_server.specs.declared.listener.Listener.TheVariants.{Owners, Plant}
use Rattle.toll_service.specs.declared.party.Party.{Party}
use Rattle.toll_service.specs.declared.party.Party.TheVariants.{Plant as ThePlant, Owner, Nobody}

-- the owner that a request claims, if it claims one
abbrev pub claimed_owner : ParseResult → Option Bytes
claimed_owner (refused failure) = None
claimed_owner (request verb target owner key body) = owner

-- the party of the owner with this name; bytes that are no name belong to nobody
abbrev pub party_named : Option Bytes → Party
party_named None = Nobody
party_named (Some bytes) = if is_name bytes then Owner bytes else Nobody

-- Requests at the plant's listener are the plant's. Any other is of the owner that it claims.
abbrev pub IsBy : Listener → Bytes → Party → Type 0
IsBy Plant requested party = party ≡ ThePlant
IsBy Owners requested party = (o : ParseResult) × IsParsedAs requested o × (party ≡ party_named (claimed_owner o))
