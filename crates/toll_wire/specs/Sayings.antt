-- What the bytes of a request say, the replies to it, and what it makes of a history.
use Rattle.std.specs.Prelude.{◌≡◌, Bool, if◌then◌else◌, List, Contains, Option, Some, None, Result, Ok, Err}
use Rattle.toll_wire.specs.Common.{Bytes, same_bytes, History, Request, OwnerReply, Failure, Forbidden}
use Rattle.toll_base.specs.Words.{is_some_where}
use Rattle.toll_answers.specs.Replies.{has_owner_key, IsReply, after_reply}
use Rattle.toll_protocol.specs.Parsing.{ParseResult, refused, request, IsParsedAs}
use Rattle.toll_wire.specs.ReplyTexts.{text_of_failure, text_of_reply_meaning}
use Rattle.toll_wire.specs.Routing.{IsAsking}

-- what is asked for with a key: a request, or something that fails a check after the key's, with the text of that reply
pub data ClaimedRequest : Type 0 where
  Asks : (q : Request) → ClaimedRequest
  Fails : (text : Bytes) → ClaimedRequest

-- What the bytes of a request say: the owner that they claim, the key if there is one, and what they ask for. If they claim no owner, the
-- reply to these bytes.
pub data Saying : Type 0 where
  By : (owner : Bytes) (key : Option Bytes) (asking : ClaimedRequest) → Saying
  Nobody : (text : Bytes) → Saying

-- ---- reading

-- what is asked for with a key
abbrev pub claimed_request_of : Result Request Failure → ClaimedRequest
claimed_request_of (Ok requested) = Asks requested
claimed_request_of (Err failure) = Fails (text_of_failure failure)

-- a request with one `toll-owner` field claims that owner, with a key or without; without one it is forbidden by its bytes alone
abbrev pub saying_of : (owner key : Option Bytes) → Result Request Failure → Saying
saying_of None key asks = Nobody (text_of_failure Forbidden)
saying_of (Some owner) key asks = By owner key (claimed_request_of asks)

-- bytes that are parsed so say this
abbrev pub IsSaidBy : ParseResult → Saying → Type 0
IsSaidBy (refused failure) saying = saying ≡ Nobody (text_of_failure failure)
IsSaidBy (request verb target owner key body) saying = (asks : Result Request Failure) × IsAsking verb target body asks × (saying ≡ saying_of owner key asks)

-- the bytes of a request say this
abbrev pub Says : Bytes → Saying → Type 0
Says bytes saying = (outcome : ParseResult) × IsParsedAs bytes outcome × IsSaidBy outcome saying

-- the owner that is claimed in what was said, if one is
abbrev pub claimed_in : Saying → Option Bytes
claimed_in (By o key asking) = Some o
claimed_in (Nobody text) = None

-- If it claims an owner with a key, it is one of these.
abbrev pub IsByOneOf : List Bytes → Saying → Type 0
IsByOneOf os (By o (Some key) asking) = Contains os o
IsByOneOf os _ = Unit {0}

-- So it is of what the bytes say.
abbrev pub AreOfOneOf : List Bytes → Bytes → Type 0
AreOfOneOf os bytes = (saying : Saying) → Says bytes saying → IsByOneOf os saying

-- the saying claims to be this owner's
abbrev pub claims : Bytes → Saying → Bool
claims o saying = is_some_where (λ p. same_bytes p o) (claimed_in saying)

-- ---- replies

-- The reply to this saying has this text. `Admits` says whether a key is the owner's, and `Replies` what the reply to a request is. Without
-- a key it is forbidden.
abbrev pub Tells : (Admits : Bytes → Bytes → Bool → Type 0) → (Replies : Bytes → Bytes → Request → OwnerReply → Type 0) → Saying → Bytes → Type 0
Tells Admits Replies (Nobody reported) out = out ≡ reported
Tells Admits Replies (By o None asking) out = out ≡ text_of_failure Forbidden
Tells Admits Replies (By o (Some key) (Fails reported)) out = (b : Bool) × Admits o key b × (out ≡ (if b then reported else text_of_failure Forbidden))
Tells Admits Replies (By o (Some key) (Asks q)) out = (r : OwnerReply) × Replies o key q r × (out ≡ text_of_reply_meaning r)

-- the reply over this history has this text
abbrev pub IsTold : History → Saying → Bytes → Type 0
IsTold H = Tells (λ o key b. b ≡ has_owner_key o key H) (λ o key q r. IsReply o key H q r)

-- the text is one that a reply to this saying can have, whatever the keep has
abbrev pub MayBeReply : Saying → Bytes → Type 0
MayBeReply = Tells (λ o key b. Unit {0}) (λ o key q r. Unit {0})

-- what it makes of the history
abbrev pub after_saying : History → Saying → History
after_saying H (By o (Some key) (Asks q)) = after_reply o key H q
after_saying H _ = H
