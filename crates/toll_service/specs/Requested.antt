-- What the plant asks of a server.
use Rattle.std.specs.Prelude.{Bool, false, List, [], ◌∷◌, codes, map, Option, Some, None, option_map, if◌then◌else◌}
use Rattle.std.specs.Str.{bytes_eq}
use Rattle.toll_service.specs.Common.{Bytes, PlantCmd}
use Rattle.toll_protocol.specs.declared.frames.call.Call.{Call}
use Rattle.toll_plant.specs.Words.{command_of_words}

-- a command or a question; the import of a file; or words that are no command
pub data Requested : Type 0 where
  RunCommand : (command : PlantCmd) → Requested
  ImportFile : (file : Bytes) → Requested
  UnknownWords : (words : List Bytes) → Requested

-- whether the first word is `import`
abbrev pub is_import : List Bytes → Bool
is_import [] = false
is_import (first ∷ words) = bytes_eq first (codes "import")

-- the request of a command, or of words that are none
abbrev pub requested_command : List Bytes → Option PlantCmd → Requested
requested_command words None = UnknownWords words
requested_command words (Some command) = RunCommand command

-- the request of words without a file
abbrev pub requested_by_words : List Bytes → Requested
requested_by_words words = requested_command words (command_of_words words)

-- the request of words with a file: an import if the first word is `import`, and a command or question otherwise
abbrev pub requested_by_call : List Bytes → Option Bytes → Requested
requested_by_call words None = requested_by_words words
requested_by_call words (Some file) = if is_import words then ImportFile file else requested_by_words words

-- the request that was read in a frame
abbrev pub requested_in : Call → Requested
requested_in requested = requested_by_call (map (λ word. word.now) requested.words.items) (option_map (λ file. file.now) requested.file)
