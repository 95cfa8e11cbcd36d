-- The meaning of the code's tasks.
use Rattle.std.specs.Prelude.{map}
use Rattle.toll_programs.specs.Tasks.{RequestedTask, Script, Words, Import, Serve}
use Rattle.toll_programs.specs.declared.task.Task.{Task}
use Rattle.toll_programs.specs.declared.task.Task.TheVariants as task

-- a task of the code, as a requested task
abbrev pub shown_task : Task → RequestedTask
shown_task task.Script = Script
shown_task (task.Words file words) = Words file.now (map (λ w. w.now) words.now)
shown_task (task.Import file actuals) = Import file.now actuals.now
shown_task (task.Serve file port count) = Serve file.now port count
