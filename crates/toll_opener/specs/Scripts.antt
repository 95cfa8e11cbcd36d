-- A script over an office in memory.
use Rattle.std.specs.Prelude.{◌≡◌, ◌⊎◌}
use Rattle.toll_protocol.specs.declared.streams.sink.Sink as sink
use Rattle.toll_protocol.specs.declared.streams.source.Source as source
use Rattle.toll_keep.specs.Content.{empty_content}
use Rattle.toll_keep.specs.declared.keep.Keep.{Ghosts}
use Rattle.toll_programs.specs.Running.{IsScriptRun}
use Rattle.toll_programs.specs.declared.scripts.ScriptEnd.{ScriptEnd}
use Rattle.toll_programs.specs.declared.scripts.ScriptEnd.TheVariants.{Memory}

module _ {K R W : Type 0} (keep : Ghosts K) (from : source.Ghosts R) (to : sink.Ghosts W) (reader rest : R) (writer written : W) (end : ScriptEnd) where
  -- A script was run over a keep that held nothing at first.
  pub record IsScriptOverNothing : Type 0 where
    pub first : K
    pub last : K
    pub opened : keep.meaning.holds first empty_content
    pub run : IsScriptRun from to keep.meaning reader rest writer written first last end

  -- There was no memory for a keep, and nothing was read or written.
  pub record IsUnbegun : Type 0 where
    pub memory : end ≡ Memory
    pub unread : rest ≡ reader
    pub unwritten : written ≡ writer

  -- A script was run over an office that is empty at first, if there was memory for one.
  abbrev pub IsScriptDone : Type 0
  IsScriptDone = IsScriptOverNothing ⊎ IsUnbegun
