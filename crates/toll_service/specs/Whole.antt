-- All turns of one request, taken together.
use Rattle.std.specs.Prelude.{◌≡◌, ◌==◌, ℕ, List, [], ◌∷◌, Option, Some, None, if◌then◌else◌}
use Rattle.toll_service.specs.Common.{Bytes, AreOwn, Request, Tasks, Listener, Poll, Ready, Pending, ImportState}
use Rattle.toll_service.specs.Events.{AreEventsOf, AreServedTurns, ServedTurn, answers_of, events_of, turns_of}

-- the response of this turn, or otherwise that of the turns after it
abbrev pub response_or : Poll ImportState → Option Bytes → Option Bytes
response_or (Ready reported) later = Some reported.items
response_or (Pending import) later = later

-- the first response to this client in these parts
abbrev pub first_response : ℕ → List ServedTurn → Option Bytes
first_response whose [] = None
first_response whose (p ∷ parts) = if whose == p.turn.whose then response_or p.turn.poll (first_response whose parts) else first_response whose parts

-- the parts that follow a turn, unless it ended with a response
abbrev pub until_response : Poll ImportState → List ServedTurn → List ServedTurn
until_response (Ready reported) parts = []
until_response (Pending import) parts = parts

-- a client's parts, up to its first response
abbrev pub own_parts : ℕ → List ServedTurn → List ServedTurn
own_parts whose [] = []
own_parts whose (p ∷ parts) = if whose == p.turn.whose then p ∷ until_response p.turn.poll (own_parts whose parts) else own_parts whose parts

-- The first of these parts handed over this client's request.
abbrev pub BeginsWithRequest : ℕ → Listener → Bytes → List ServedTurn → Type 0
BeginsWithRequest whose listener requested [] = ⊥
BeginsWithRequest whose listener requested (p ∷ parts) = (p.turn.whose ≡ whose) × (p.turn.input ≡ Request listener requested)

-- Take turns, of any clients, that begin with this client's request. If each task was handed over once, for the client that it was left
-- for, then the client's own parts are together what it asked for, with this response.
abbrev pub AreAllOfRequest : Tasks ImportState → List ServedTurn → Type 0
AreAllOfRequest tasks parts =
    (whose : ℕ) (listener : Listener) (requested reported : Bytes) → AreServedTurns parts → AreOwn tasks (turns_of parts) → BeginsWithRequest whose listener requested parts → first_response whose parts ≡ Some reported
    → AreEventsOf listener requested reported (events_of (own_parts whose parts)) (answers_of (own_parts whose parts))
