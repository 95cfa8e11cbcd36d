-- The part of a request that was received so far.
use Rattle.std.specs.Prelude.{ℕ, List}
use Rattle.toll_protocol.specs.Parsing.{IsSettled}
use Rattle.toll_protocol.specs.Frames.{IsEnough}
use Rattle.toll_protocol.specs.declared.frames.call.TheConstants.{MOST_CALL_BYTES}
use Rattle.toll_server.specs.declared.request_buffer.RequestBuffer.{RequestBuffer}
use Rattle.toll_server.specs.declared.request_buffer.RequestBuffer.TheVariants.{Owner, Plant as Parcelled}
use Rattle.toll_server.specs.declared.listener.Listener.{Listener}
use Rattle.toll_server.specs.declared.listener.Listener.TheVariants.{Owners, Plant}

-- its bytes so far
abbrev pub bytes_received : RequestBuffer → List ℕ
bytes_received (Owner http) = http
bytes_received (Parcelled frame) = frame.bytes.items

-- the listener that accepted its connection
abbrev pub listener_of : RequestBuffer → Listener
listener_of (Owner http) = Owners
listener_of (Parcelled frame) = Plant

-- Further bytes change nothing.
abbrev pub IsComplete : RequestBuffer → Type 0
IsComplete (Owner http) = IsSettled http
IsComplete (Parcelled frame) = IsEnough MOST_CALL_BYTES frame.bytes.items
