-- Definitions and lemmas that several proofs here use.
pub use Rattle.slab.specs.Slab.{SameValues, Slab, Updates, get, slab_len}
pub use Rattle.std.proofs.lemmas.Bool.Decides.{eqb_tells}
pub use Rattle.toll_server.specs.Accepting.{HasAccepted}
pub use Rattle.toll_server.specs.ConnectionStates.{last_poll, pending_task, reply_in_state, state_behind, task_of, ticket_after, ticket_behind, ticket_of}
pub use Rattle.toll_server.specs.Connections.{AddsAll, AddsConnection, AddsNext, ClosesExpired, ClosesReaders, EvictsOldest, EvictsReader, GoesFirst, Hears, IfStays, IsBefore, IsDueAt, IsDueTo, IsEarliest, IsEvicted, IsInTime, IsIncluded, IsLonger, JoinsAt, KeepsQueue, KeepsSubmitted, KeepsTasks, KeepsTime, MakesRoom, MayEvict, MayJoin, NobodyWaits, NoneNew, OnlyAt, StaysOrGoes, TakesTurn, TimesReply, WindsDown, connection_behind, is_included_at, is_place_of, queue_in, stays_after, tasks_in, unless_expired, wait_in}
pub use Rattle.toll_server.specs.Networks.{Accepts, Arrival, BreaksDown, EndsSo, HandsOut, IsPaused, IsPausedAt, Lacks, ListensFor, NoneWaits, ShowsTime, Tallies, Tally, WaitsOnce, Wake, after_accept, owners_at}
pub use Rattle.toll_server.specs.Queues.{AreInTurn, HasWaitedLonger, IsHistory, IsNext, IsPassedOver, IsServedInTurn, IsWhatWaits, Joining, Joins, NoneTwice, Queue, QueueEvent, Serves, Takes, Waiting, is_of, newly, queue_after, queue_of, queue_with, queued_behind, tasks_of, turns_taken, waits_on}
pub use Rattle.toll_server.specs.Rounds.{AreRounds, HasHeard, HasWaited, IsSentBySome, IsServedInRounds, ListensTill, ServesFrom, TakesNext}
pub use Rattle.toll_server.specs.Runs.{AreOwn, Input, IsOwnInput, IsServiceRun, Request, TakesTurns, Task, Tasks, Turn, Yields, after_turn, after_turns, no_tasks}
pub use Rattle.toll_server.specs.ServerEvents.{Accepting, Agrees, Changes, HasRun, Hearing, IsNew, IsServed, IsServerRun, IsStep, Passes, Server, ServerEvent, Serving, Stage, advanced_in, arrival_in, expired_in, joined_in, owners_in, queue_event, queue_events, server_at, shortage_in, wake_in}
pub use Rattle.toll_server.specs.Steps.{Advances, AnswersOrResumes, JoinsAs, Writes, deadline_after, event_count_after, waiting_of, waiting_with}
pub use Rattle.toll_server.specs.declared.connection.Connection.{Connection}
pub use Rattle.toll_server.specs.declared.connection_state.ConnectionState.TheVariants.{Queued, Reading, Working, Writing}
pub use Rattle.toll_server.specs.declared.connections.AcceptState.TheVariants.{Backlogged, Open}
pub use Rattle.toll_server.specs.declared.connections.Connections.{Connections}
pub use Rattle.toll_server.specs.declared.listener.Listener.{Listener}
pub use Rattle.toll_server.specs.declared.poll.Poll.{Poll}
