-- The name of the write fault.
use Rattle.std.specs.Prelude.{ℕ, List, codes}

-- the name of the fault for a text that was not written whole
abbrev pub word_of_write_fault : List ℕ
word_of_write_fault = codes "Write"
