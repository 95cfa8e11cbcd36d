-- How many offices were opened or refused.
use Rattle.std.specs.Prelude.{◌≡◌, ◌+◌, ◌-◌, ◌^◌, ◌⊎◌, ℕ, List, ◌∷◌, Option, option_map, Result, Ok, Err}
use Rattle.toll_files.specs.declared.office_fault.OfficeFault.{OfficeFault}
use Rattle.toll_files.specs.declared.office_fault.OfficeFault.TheVariants.{Memory}

-- how many offices were opened, and for which faults a lock or an opening was refused, newest first
pub record Openings : Type 0 where
  pub opened : ℕ
  pub refused : List OfficeFault

abbrev pub one_opened_more : Openings → Openings
one_opened_more o = record o { opened = o.opened + 1 }

abbrev pub one_refused_more : OfficeFault → Openings → Openings
one_refused_more fault o = record o { refused = fault ∷ o.refused }

-- the tally after a lock was asked for
abbrev pub after_lock : {X : Type 0} → Result X OfficeFault → Openings → Openings
after_lock (Ok lock) o = o
after_lock (Err fault) o = one_refused_more fault o

-- the tally after an opening was asked for
abbrev pub after_opening : {X : Type 0} → Result X OfficeFault → Openings → Openings
after_opening (Ok keep) o = one_opened_more o
after_opening (Err fault) o = one_refused_more fault o

-- None was opened or refused.
abbrev pub IsNoneOpened : Option Openings → Option Openings → Type 0
IsNoneOpened before behind = behind ≡ before

-- One was opened, and none refused.
abbrev pub IsOneOpened : Option Openings → Option Openings → Type 0
IsOneOpened before behind = behind ≡ option_map one_opened_more before

-- One was refused for this fault, and none opened.
abbrev pub IsOneRefused : OfficeFault → Option Openings → Option Openings → Type 0
IsOneRefused fault before behind = behind ≡ option_map (one_refused_more fault) before

-- One was refused for some fault, and none opened.
abbrev pub IsSomeRefused : Option Openings → Option Openings → Type 0
IsSomeRefused before behind = (fault : OfficeFault) × IsOneRefused fault before behind

-- One was refused for this fault. Or the number of openings can't be counted any further, and the fault is Memory.
abbrev pub IsRefusedAfter : OfficeFault → (openings : ℕ) → Option Openings → Option Openings → Type 0
IsRefusedAfter fault openings before behind =
    IsOneRefused fault before behind ⊎ ((openings ≡ 2 ^ 64 - 1) × (fault ≡ Memory) × IsNoneOpened before behind)
