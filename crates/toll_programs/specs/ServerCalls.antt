-- What the plant's program and a server send each other.
use Rattle.std.specs.Prelude.{◌≡◌, ◌⊎◌, ◌++◌, ◌<◌, ℕ, Bool, false, true, Option, List, [], ◌∷◌, IsNone, IsSomeAnd, codes, length, option_map, take}
use Rattle.std.specs.Io.KnownBytes.{Appends, Consumes, IsAtEnd}
use Rattle.toll_base.specs.Bytes.{Bytes}
use Rattle.toll_protocol.specs.Streams.{HasFailed}
use Rattle.toll_protocol.specs.declared.streams.sink.Sink as sink
use Rattle.toll_protocol.specs.declared.streams.source.Source as source
use Rattle.toll_programs.specs.declared.calling.CallOutcome.{CallOutcome}
use Rattle.toll_programs.specs.declared.calling.CallOutcome.TheVariants.{NotTaken, Lost, NoMemory, Answered}
use Rattle.toll_protocol.specs.PlantMessages.{IsResponse, handshake_text}
use Rattle.toll_protocol.specs.Frames.{IsEnough, frame}
use Rattle.toll_protocol.specs.declared.frames.response.TheConstants.{MOST_RESPONSE_BYTES}
use Rattle.toll_programs.specs.StreamOutput.{IsFailing, IsSomePrinted, IsNothingWritten, Streams}
use Rattle.toll_programs.specs.declared.status.Status.TheVariants.{Failed}
use Rattle.toll_programs.specs.declared.version.TheConstants.{VERSION}

-- what a server will send, and what it received before and after
pub record Exchange : Type 0 where
  pub unread : Option Bytes
  pub held : Option Bytes
  pub now_held : Option Bytes

-- a stream before and after
abbrev pub exchange_of : {S : Type 0} → source.Ghosts S → sink.Ghosts S → S → S → Exchange
exchange_of from to old new = record { unread = from.unread old; held = to.held old; now_held = to.held new }

-- The server first sends the handshake of a server of this build, and nothing more until it is asked.
abbrev pub HasHandshake : Bytes → Option Bytes → Type 0
HasHandshake version unread = (rest : Option Bytes) × Consumes unread rest (frame (handshake_text version))

-- The server sent that handshake, and the whole request was sent to it.
pub record IsSent (version requested : Bytes) (e : Exchange) : Type 0 where
  pub greeted : HasHandshake version e.unread
  pub whole : Appends e.held e.now_held requested

-- Nothing of the request was sent, or not all of it.
abbrev pub IsUnsent : Bytes → Exchange → Type 0
IsUnsent requested e = Appends e.held e.now_held [] ⊎ ((n : ℕ) × (n < length requested) × Appends e.held e.now_held (take n requested))

-- The text has a status and what is to be printed.
abbrev pub IsResponseText : Bytes → Type 0
IsResponseText text = (status : ℕ) × (output : Bytes) × (error : Bytes) × IsResponse text status output error

module _ {S : Type 0} (from : source.Ghosts S) (sent now : S) where
  -- The server sent this text after the whole request was sent to it.
  abbrev pub ServerSent : Bytes → Type 0
  ServerSent text = Consumes (from.unread sent) (from.unread now) text

  -- The text is no response, and nothing that follows can make it one.
  abbrev pub IsNoAnswer : Bytes → Type 0
  IsNoAnswer text = ¬ (IsResponseText text) × (IsEnough MOST_RESPONSE_BYTES text ⊎ IsAtEnd (from.unread now))

  -- A read has failed since the whole request was sent.
  abbrev pub HasBroken : Type 0
  HasBroken = HasFailed (from.has_failed sent) (from.has_failed now)

  -- A response is what the server sent. It is lost if the server sent none or a read failed. If memory was short, no whole response was
  -- read.
  abbrev pub CanBeOutcome : CallOutcome → Type 0
  CanBeOutcome NotTaken = ⊥
  CanBeOutcome Lost = HasBroken ⊎ ((text : Bytes) × ServerSent text × IsNoAnswer text)
  CanBeOutcome NoMemory = (text : Bytes) × ServerSent text × ¬ (IsEnough MOST_RESPONSE_BYTES text)
  CanBeOutcome (Answered text) = IsResponseText text.items × ServerSent text.items

module _ {S : Type 0} (from : source.Ghosts S) (to : sink.Ghosts S) (version requested : Bytes) (old new : S) where
  -- The whole request was sent, once, with this outcome.
  pub record IsHeard (reply : CallOutcome) : Type 0 where
    -- the connection when all was sent
    pub sent : S
    pub sends : IsSent version requested (exchange_of from to old sent)
    pub reported : CanBeOutcome from sent new reply
    pub once : to.held new ≡ to.held sent

  -- Nothing, or not all, of the request was sent; or all of it was sent, with this outcome.
  abbrev pub IsExchange : CallOutcome → Type 0
  IsExchange NotTaken = IsUnsent requested (exchange_of from to old new)
  IsExchange reply = IsHeard reply

-- ---- what is printed

-- the line for a response that was lost
abbrev pub lost_line : Bytes
lost_line = codes "fault Lost\n"

-- The content of this frame was printed.
abbrev pub IsWrittenOf : Streams → Bytes → ℕ → Type 0
IsWrittenOf s text status = IsSomePrinted (λ p. IsResponse text p.status p.output p.error) s status

-- The outcome of asking a server is printed. If no server was asked, nothing is.
abbrev pub IsReplyWritten : Streams → CallOutcome → Option ℕ → Type 0
IsReplyWritten s NotTaken status = IsNone status × IsNothingWritten s.output × IsNothingWritten s.error
IsReplyWritten s Lost status = IsSomeAnd status (IsFailing s lost_line Failed)
IsReplyWritten s NoMemory status = IsSomeAnd status (IsFailing s lost_line Failed)
IsReplyWritten s (Answered text) status = IsSomeAnd status (IsWrittenOf s text.items)

-- The request was sent to the server of a connection, and the outcome is printed.
pub record IsRunOnServer {S : Type 0} (from : source.Ghosts S) (to : sink.Ghosts S) (version requested : Bytes) (old new : S) (s : Streams) (status : Option ℕ) : Type 0 where
  pub reply : CallOutcome
  pub exchanged : IsExchange from to version requested old new reply
  pub written : IsReplyWritten s reply status

-- ---- a server that may be there

-- how a server is reached: what holds of a new connection, what goes over it, and whether each try so far, before and after, gave one
pub record Connections (S : Type 0) : Type 1 where
  pub is_new : S → Type 0
  pub from : source.Ghosts S
  pub to : sink.Ghosts S
  pub tries : Option (List Bool)
  pub now_tries : Option (List Bool)

-- a connector before and after
abbrev pub connections_of : {S C : Type 0} → (S → Type 0) → source.Ghosts S → sink.Ghosts S → (C → Option (List Bool)) → C → C → Connections S
connections_of is_new from to tries old new = record { is_new = is_new; from = from; to = to; tries = tries old; now_tries = tries new }

-- the tries after one more, which gave a connection or didn't
abbrev pub after_try : (is_made : Bool) → List Bool → List Bool
after_try is_made tries = tries ++ is_made ∷ []

module _ {S : Type 0} (c : Connections S) where
  -- No connection was tried.
  abbrev pub IsUntried : Type 0
  IsUntried = c.now_tries ≡ c.tries

  -- One connection was tried.
  abbrev pub IsTriedOnce : (is_made : Bool) → Type 0
  IsTriedOnce is_made = c.now_tries ≡ option_map (after_try is_made) c.tries

  -- The request was sent over a new connection, and the outcome is printed.
  pub record IsSentOver (requested : Bytes) (s : Streams) (status : Option ℕ) : Type 0 where
    pub first : S
    pub last : S
    pub is : c.is_new first
    pub once : IsTriedOnce true
    pub ran : IsRunOnServer c.from c.to VERSION.now requested first last s status

  -- The request was sent over a new connection, and the outcome is printed. Or there was no connection.
  abbrev pub IsServerAsked : Bytes → Streams → Option ℕ → Type 0
  IsServerAsked requested s status = (IsNone status × IsTriedOnce false) ⊎ IsSentOver requested s status
