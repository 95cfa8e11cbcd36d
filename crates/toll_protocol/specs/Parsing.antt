-- The checks of a request that need only its bytes, in their order, on the whole text.
use Rattle.std.specs.Prelude.{◌≡◌, ℕ, ◌==◌, ◌≤◌, ◌⊎◌, List, ◌++◌, length, take, drop, map, codes, nat_lt, Bool, true, false, Option, Some, None, if◌then◌else◌}
use Rattle.std.specs.Io.KnownBytes.{Consumes}
use Rattle.httparse.specs.Grammar.{RequestHead}
use Rattle.httparse.specs.Spans.{name_and_value}
use Rattle.toll_protocol.specs.Limits.{head_limit, body_limit}
use Rattle.toll_protocol.specs.Head.{IsHeadOf, IsHeadLen, NoHead}
use Rattle.toll_protocol.specs.Fields.{Pair, Seen, absent, once, several, fields_named, is_present, value_if_once, length_claimed}
use Rattle.toll_protocol.specs.Streams.{ReadsWhile}
use Rattle.toll_protocol.specs.Verbs.{verb_of}
use Rattle.toll_protocol.specs.declared.http_messages.verb.Verb.{Verb}
use Rattle.toll_protocol.specs.declared.http_messages.failure.Failure.{Failure}
use Rattle.toll_protocol.specs.declared.http_messages.failure.Failure.TheVariants.{BadRequest, TooLarge, NotImplemented}

-- the result of the checks: a refusal, or a request with its verb, its target, the owner and the key that it claims, and its body
pub data ParseResult : Type 0 where
  refused : Failure → ParseResult
  request : Verb → List ℕ → Option (List ℕ) → Option (List ℕ) → List ℕ → ParseResult

-- whether there is more than one host, or none in HTTP/1.1
abbrev pub host_fails : ℕ → Seen → Bool
host_fails minor absent = minor == 1
host_fails minor (once v) = false
host_fails minor several = true

abbrev pub by_verb : Option Verb → List ℕ → List Pair → List ℕ → ParseResult
by_verb None target fields body = refused NotImplemented
by_verb (Some verb) target fields body =
    request verb target (value_if_once (fields_named (codes "toll-owner") fields)) (value_if_once (fields_named (codes "toll-key") fields)) body

abbrev pub by_length : Option ℕ → RequestHead → List Pair → List ℕ → ParseResult
by_length None h fields rest = refused BadRequest
by_length (Some n) h fields rest =
    if nat_lt body_limit n then refused TooLarge
    else (if nat_lt (length rest) n then refused BadRequest else by_verb (verb_of h.method) h.target fields (take n rest))

-- the result for a head with these fields and the bytes after it
abbrev pub checked : RequestHead → List Pair → List ℕ → ParseResult
checked h fields rest =
    if host_fails h.minor (fields_named (codes "host") fields) then refused BadRequest
    else (if is_present (fields_named (codes "transfer-encoding") fields) then refused NotImplemented
    else by_length (length_claimed (fields_named (codes "content-length") fields)) h fields rest)

-- The result of parsing the text.
abbrev pub IsParsedAs : List ℕ → ParseResult → Type 0
IsParsedAs text outcome =
    ((n : ℕ) × (h : RequestHead) × IsHeadOf text n h × (outcome ≡ checked h (map name_and_value h.fields) (drop n text)))
    ⊎ (((n : ℕ) (h : RequestHead) → IsHeadOf text n h → ⊥) × (outcome ≡ refused BadRequest))

-- The body that the head claims is there, or is too large to be read.
abbrev pub HasBody : RequestHead → List ℕ → Type 0
HasBody h rest = (len : ℕ) → length_claimed (fields_named (codes "content-length") (map name_and_value h.fields)) ≡ Some len
    → len ≤ body_limit → len ≤ length rest

-- Bytes after the text change nothing.
abbrev pub IsSettled : List ℕ → Type 0
IsSettled text =
    (NoHead text × (head_limit ≤ length text))
    ⊎ ((n : ℕ) × IsHeadLen text n × (n ≤ head_limit) × ((h : RequestHead) → IsHeadOf text n h → HasBody h (drop n text)))

-- After these bytes, the stream was read only while all bytes together weren't settled.
abbrev pub ReadsUntilSettled : List ℕ → Option (List (List ℕ)) → Option (List (List ℕ)) → Type 0
ReadsUntilSettled come reads now_reads = ReadsWhile (λ given. ¬ (IsSettled (come ++ given))) reads now_reads

-- What was read is not settled.
abbrev pub ReadsUnsettled : Option (List ℕ) → Option (List ℕ) → Type 0
ReadsUnsettled unread now_unread = (given : List ℕ) × Consumes unread now_unread given × ¬ (IsSettled given)
