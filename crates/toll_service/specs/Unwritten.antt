-- How the program ends if it can write nothing.
use Rattle.std.specs.Prelude.{ℕ, [], ◌∷◌}
use Rattle.toll_programs.specs.Outputs.{Printout}
use Rattle.toll_service.specs.Common.{Bytes, exit_code, Failed}

-- A failure if something should go to standard output; standard error changes nothing.
abbrev pub status_unwritten : (output : Bytes) (status : ℕ) → ℕ
status_unwritten [] status = status
status_unwritten (b ∷ output) status = exit_code Failed

-- a printout without text
abbrev pub status_alone : ℕ → Printout
status_alone status = record { status = status; output = []; error = [] }

-- what is left of a printout
abbrev pub unwritten : Printout → Printout
unwritten p = status_alone (status_unwritten p.output p.status)
