-- The messages between the plant and the server of a file.
use Rattle.std.specs.Prelude.{◌≡◌, ℕ, ◌≤◌, List, [], ◌∷◌, ◌++◌, map, Option, Some, None, option_map, codes, length}
use Rattle.toll_base.specs.Bytes.{Bytes}
use Rattle.toll_protocol.specs.Frames.{IsFrameOf, frame}
use Rattle.toll_protocol.specs.Words.{AreWords, words_text}
use Rattle.toll_protocol.specs.declared.frames.call.Call.{Call}
use Rattle.toll_protocol.specs.declared.frames.call.TheConstants.{MOST_CALL_BYTES}
use Rattle.toll_protocol.specs.declared.frames.response.Response.{Response}
use Rattle.toll_protocol.specs.declared.frames.response.TheConstants.{MOST_RESPONSE_BYTES}

-- no bytes, or a 1 and the bytes of the file
abbrev pub file_text : Option Bytes → Bytes
file_text None = []
file_text (Some file) = 1 ∷ file

-- the text of a call: its words, and the file that they name, if they name one
abbrev pub call_text : List Bytes → Option Bytes → Bytes
call_text words file = frame (words_text words) ++ file_text file

-- The words are valid words, and the whole call is short enough.
abbrev pub FitsCall : List Bytes → Option Bytes → Type 0
FitsCall words file = AreWords words × (length (call_text words file) ≤ MOST_CALL_BYTES)

-- The text is a frame of this call.
abbrev pub IsCall : Bytes → List Bytes → Option Bytes → Type 0
IsCall text words file = AreWords words × IsFrameOf MOST_CALL_BYTES text (call_text words file)

-- The text is a frame of this call, as it was read.
abbrev pub IsReadCall : Bytes → Call → Type 0
IsReadCall text call = IsCall text (map (λ w. w.now) call.words.items) (option_map (λ f. f.now) call.file)

-- The text is a frame of no call.
abbrev pub IsNoCall : Bytes → Type 0
IsNoCall text = (words : List Bytes) (file : Option Bytes) → ¬ (IsCall text words file)

-- The text is this call and no other.
abbrev pub IsOnlyCall : Bytes → List Bytes → Option Bytes → Type 0
IsOnlyCall text words file = (others : List Bytes) (another : Option Bytes) → IsCall text others another → (words ≡ others) × (file ≡ another)

-- the text of a response: an exit status, and the texts for standard output and standard error
abbrev pub response_text : ℕ → Bytes → Bytes → Bytes
response_text status output error = status ∷ frame output ++ error

-- The text is a frame of this response.
abbrev pub IsResponse : Bytes → ℕ → Bytes → Bytes → Type 0
IsResponse text status output error = IsFrameOf MOST_RESPONSE_BYTES text (response_text status output error)

-- the text of a response
abbrev pub text_of_response : Response → Bytes
text_of_response r = response_text r.status r.output.now r.error.now

-- The text is a frame of this response, as it was read.
abbrev pub IsReadResponse : Bytes → Response → Type 0
IsReadResponse text r = IsResponse text r.status r.output.now r.error.now

-- The text is a frame of no response.
abbrev pub IsNoResponse : Bytes → Type 0
IsNoResponse text = (status : ℕ) (output error : Bytes) → ¬ (IsResponse text status output error)

-- The text is this response and no other.
abbrev pub IsOnlyResponse : Bytes → ℕ → Bytes → Bytes → Type 0
IsOnlyResponse text status output error = (other : ℕ) (another wrong : Bytes) → IsResponse text other another wrong
    → (status ≡ other) × (output ≡ another) × (error ≡ wrong)

-- the handshake that a server sends first: which build it is
abbrev pub handshake_text : Bytes → Bytes
handshake_text version = codes "toll " ++ version
