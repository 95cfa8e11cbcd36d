use Rattle.std.proofs.Common.{◌≡◌, drop}
use Rattle.toll_keep.proofs.Common.{content_after, content_of}
use Rattle.toll_keep.proofs.mem_keep.MemKeep.make_all.Given as goal

-- With the changes to come, the content is the one after all changes.
abbrev pub invariant-loop-change : goal.invariant-loop-change
invariant-loop-change l = content_after (drop l.change-index l.changes) (content_of l.self) ≡ content_after l.changes (content_of l.fn.self)
