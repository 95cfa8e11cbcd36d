-- Why the lock of an office's file isn't taken.
use Rattle.std.specs.Prelude.{◌⊎◌}

-- The file at the path couldn't be opened. Or one was opened there, and another program has its lock; or while that was held, another file or none
-- was at the path.
abbrev pub IsLockRefused : {Open Held : Type 0} → (IsShut : Type 0) → (is_opened is_taken : Open → Type 0) → (is_lock_of : Open → Held → Type 0)
    → (is_replaced : Held → Type 0) → Type 0
IsLockRefused {Open} {Held} IsShut is_opened is_taken is_lock_of is_replaced =
    IsShut ⊎ ((file : Open) × is_opened file × (is_taken file ⊎ ((lock : Held) × is_lock_of file lock × is_replaced lock)))
