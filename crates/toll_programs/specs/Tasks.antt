-- What the words after the program's name ask for.
use Rattle.std.specs.Prelude.{ℕ, List, [], ◌∷◌, codes, Option, Some, None, if◌then◌else◌, option_map, option_and_then, unwrap_or}
use Rattle.toll_programs.specs.Common.{bytes_eq, Bytes}
use Rattle.toll_plant.specs.Readings.{number_within}
use Rattle.toll_programs.specs.declared.task.TheConstants.{IMPORT_USAGE, MOST_CONNECTIONS_SERVED, SERVE_USAGE, USAGE}

-- the task of the program: a script; or, over the office in a file, a command or question in these words, an import, or serving so many
-- connections on a port
pub data RequestedTask : Type 0 where
  Script : RequestedTask
  Words : (file : Bytes) (words : List Bytes) → RequestedTask
  Import : (file actuals : Bytes) → RequestedTask
  Serve : (file : Bytes) (port count : ℕ) → RequestedTask

-- A port has 16 bits, and there is at least one connection.
abbrev pub serve_task : (file port count : Bytes) → Option RequestedTask
serve_task file port count = option_and_then (λ p. option_map (Serve file p) (number_within 1 MOST_CONNECTIONS_SERVED count)) (number_within 0 65535 port)

-- After `serve` come a port and a count.
abbrev pub serving_task : (file : Bytes) → List Bytes → Option RequestedTask
serving_task file (port ∷ count ∷ []) = serve_task file port count
serving_task file _ = None

-- After `import` comes the name of a file of actuals.
abbrev pub import_task : (file : Bytes) → List Bytes → Option RequestedTask
import_task file (actuals ∷ []) = Some (Import file actuals)
import_task file _ = None

-- A task over the office in a file. Words that begin with `import` or `serve` are never a command of the plant.
abbrev pub office_task : (file : Bytes) → List Bytes → Option RequestedTask
office_task file [] = None
office_task file (first ∷ words) =
    if bytes_eq first (codes "import") then import_task file words
    else (if bytes_eq first (codes "serve") then serving_task file words else Some (Words file (first ∷ words)))

abbrev pub requested_task : List Bytes → Option RequestedTask
requested_task (word ∷ []) = if bytes_eq word (codes "script") then Some Script else None
requested_task (word ∷ file ∷ words) = if bytes_eq word (codes "--db") then office_task file words else None
requested_task _ = None

-- the usage of the form named after the file, if that form has its own
abbrev pub usage_for_form : List Bytes → Option Bytes
usage_for_form (word ∷ file ∷ form ∷ words) =
    if bytes_eq form (codes "import") then Some IMPORT_USAGE.now else (if bytes_eq form (codes "serve") then Some SERVE_USAGE.now else None)
usage_for_form _ = None

-- the usage for words that ask for nothing: of that form, or of all forms
abbrev pub usage_for : List Bytes → Bytes
usage_for words = unwrap_or (usage_for_form words) USAGE.now
