-- What the lines of a script mean.
use Rattle.std.specs.Prelude.{◌≡◌, ℕ, Bool, true, false, ◌+◌, ◌==◌, ◌&&◌, not, List, [], ◌∷◌, ◌++◌, length, filter, flat_map, option_map, Option, Some, None, is_some, if◌then◌else◌}
use Rattle.toll_programs.specs.Common.{AllByRecursion, is_utf8, Bytes, PlantCmd}
use Rattle.toll_plant.specs.Words.{command_of_words}
use Rattle.toll_programs.specs.Pieces.{is_empty, pieces_at}
use Rattle.toll_programs.specs.Requests.{request_of, request_text}

-- an event of a script: the bytes of an owner's request, or a command of the plant
pub data ScriptEvent : Type 0 where
  request : Bytes → ScriptEvent
  command : PlantCmd → ScriptEvent

-- the meaning of a line: it asks for nothing, asks for an event, or is bad
pub data LineMeaning : Type 0 where
  nothing : LineMeaning
  asks : ScriptEvent → LineMeaning
  bad : LineMeaning

-- an event, or a bad line if there is none
abbrev pub asks_if : Option ScriptEvent → LineMeaning
asks_if None = bad
asks_if (Some deed) = asks deed

-- a request: its line follows `> `
abbrev pub request_in_line : Bytes → LineMeaning
request_in_line line = asks_if (option_map (λ r. request (request_text r)) (request_of (pieces_at 32 line)))

-- the words of a line, which spaces separate
abbrev pub words_in : Bytes → List Bytes
words_in line = filter (λ word. not (is_empty word)) (pieces_at 32 line)

-- a command: any other line, if it is UTF-8
abbrev pub command_in_line : Bytes → LineMeaning
command_in_line line = if is_utf8 line then asks_if (option_map (λ c. command c) (command_of_words (words_in line))) else bad

-- An empty line and a comment ask for nothing. `#` is 35, `>` is 62.
abbrev pub meaning_of_line : Bytes → LineMeaning
meaning_of_line [] = nothing
meaning_of_line (b ∷ []) = if b == 35 then nothing else command_in_line (b ∷ [])
meaning_of_line (b ∷ c ∷ rest) =
    if b == 35 then nothing else (if b == 62 && c == 32 then request_in_line rest else command_in_line (b ∷ c ∷ rest))

-- whether the text after `> ` has the four words of a request
abbrev pub is_request : Bytes → Bool
is_request line = is_some (request_of (pieces_at 32 line))

-- whether reading the line takes memory: if it is a request with its four words, or words in UTF-8. Any other line is bad or asks for
-- nothing, which needs no memory to see.
abbrev pub takes_memory : Bytes → Bool
takes_memory [] = false
takes_memory (b ∷ []) = if b == 35 then false else is_utf8 (b ∷ [])
takes_memory (b ∷ c ∷ rest) =
    if b == 35 then false else (if b == 62 && c == 32 then is_request rest else is_utf8 (b ∷ c ∷ rest))

-- whether the line is bad
abbrev pub is_bad_line : LineMeaning → Bool
is_bad_line bad = true
is_bad_line _ = false

-- the event that the line asks for, if it asks for one
abbrev pub events_in_line : LineMeaning → List ScriptEvent
events_in_line (asks deed) = deed ∷ []
events_in_line _ = []

-- the lines of a script: one before each LF, and one after the last LF, which asks for nothing if it is empty
abbrev pub script_lines : Bytes → List Bytes
script_lines text = pieces_at 10 text

-- No line is bad.
abbrev pub NoneBad : List Bytes → Type 0
NoneBad lines = AllByRecursion (λ line. is_bad_line (meaning_of_line line) ≡ false) lines

-- the events that the lines ask for, in order
abbrev pub events_of_lines : List Bytes → List ScriptEvent
events_of_lines lines = flat_map (λ line. events_in_line (meaning_of_line line)) lines

-- No line of the script is bad, and its lines ask for these events, in order.
pub record IsScriptOf (text : Bytes) (deeds : List ScriptEvent) : Type 0 where
  pub sound : NoneBad (script_lines text)
  pub requested : deeds ≡ events_of_lines (script_lines text)

-- The line with this number, counted from 1, is bad, and none before it is.
pub record IsFirstBad (text : Bytes) (number : ℕ) : Type 0 where
  pub before : List Bytes
  pub line : Bytes
  pub behind : List Bytes
  pub whole : script_lines text ≡ before ++ line ∷ behind
  pub counted : number ≡ length before + 1
  pub bad_line : meaning_of_line line ≡ bad
  pub sound : NoneBad before

-- Reading some line of the script takes memory, and no line before it is bad.
pub record StopsForMemory (text : Bytes) : Type 0 where
  pub before : List Bytes
  pub line : Bytes
  pub behind : List Bytes
  pub whole : script_lines text ≡ before ++ line ∷ behind
  pub takes : takes_memory line ≡ true
  pub sound : NoneBad before
