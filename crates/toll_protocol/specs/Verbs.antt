-- The methods that the office serves.
use Rattle.std.specs.Prelude.{ℕ, List, codes, Option, Some, None, if◌then◌else◌}
use Rattle.std.specs.Str.{bytes_eq}
use Rattle.toll_protocol.specs.declared.http_messages.verb.Verb.{Verb}
use Rattle.toll_protocol.specs.declared.http_messages.verb.Verb.TheVariants.{Get, Post}

abbrev pub verb_name : Verb → List ℕ
verb_name Get = codes "GET"
verb_name Post = codes "POST"

-- the verb with this name
abbrev pub verb_of : List ℕ → Option Verb
verb_of method = if bytes_eq method (codes "GET") then Some Get else (if bytes_eq method (codes "POST") then Some Post else None)
