-- The meaning of what the code returns for a line and for a script.
use Rattle.std.specs.Prelude.{◌≡◌, Bool, true, List, [], ◌∷◌, ◌++◌, map, Option, Some, None, Result, Ok, Err}
use Rattle.toll_programs.specs.Common.{Bytes, Event}
use Rattle.toll_wire.specs.declared.event.Event.TheVariants.{Owner, Plant}
use Rattle.toll_programs.specs.Script.{LineMeaning, ScriptEvent, request, command, nothing, asks, bad, IsFirstBad, StopsForMemory, script_lines}
use Rattle.toll_programs.specs.declared.events.LineFault.{LineFault}
use Rattle.toll_programs.specs.declared.events.LineFault.TheVariants as line_fault
use Rattle.toll_programs.specs.declared.events.ScriptFault.{ScriptFault}
use Rattle.toll_programs.specs.declared.events.ScriptFault.TheVariants as script_fault

-- an event of the code, as an event of a script
abbrev pub script_event_of : Event → ScriptEvent
script_event_of (Owner bytes) = request bytes.items
script_event_of (Plant c) = command c

-- events of the code, as events of a script
abbrev pub script_events_of : List Event → List ScriptEvent
script_events_of = map script_event_of

-- The fault fits a line with this meaning, which takes memory or not.
abbrev pub IsFaultOf : LineMeaning → Bool → LineFault → Type 0
IsFaultOf asking takes line_fault.Memory = takes ≡ true
IsFaultOf asking takes line_fault.Bad = asking ≡ bad

-- The line asks for this event, or the fault fits it.
abbrev pub GivesEvent : LineMeaning → Bool → Result Event LineFault → Type 0
GivesEvent asking takes (Ok event) = (asking ≡ asks (script_event_of event)) × (takes ≡ true)
GivesEvent asking takes (Err fault) = IsFaultOf asking takes fault

-- The line asks for this event or for nothing, or the fault fits it.
abbrev pub Gives : LineMeaning → Bool → Result (Option Event) LineFault → Type 0
Gives asking takes (Ok None) = asking ≡ nothing
Gives asking takes (Ok (Some event)) = (asking ≡ asks (script_event_of event)) × (takes ≡ true)
Gives asking takes (Err fault) = IsFaultOf asking takes fault

-- The event that the line asks for, if any, is added to the events.
abbrev pub AddsEvent : LineMeaning → List Event → List Event → Type 0
AddsEvent nothing old new = new ≡ old
AddsEvent (asks deed) old new = script_events_of new ≡ script_events_of old ++ deed ∷ []
AddsEvent bad old new = ⊥

-- the lines that are left, if any
abbrev pub script_lines_left : Option Bytes → List Bytes
script_lines_left None = []
script_lines_left (Some text) = script_lines text

-- The fault fits this script.
abbrev pub IsFaultOfScript : Bytes → ScriptFault → Type 0
IsFaultOfScript text script_fault.Memory = StopsForMemory text
IsFaultOfScript text (script_fault.BadLine number) = IsFirstBad text number
