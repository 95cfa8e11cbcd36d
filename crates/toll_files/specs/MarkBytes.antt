-- The bytes of a mark in FILE.lock: its name and version, FILE's stamp, the log's last commit, and a checksum of all these.
use Rattle.std.specs.Prelude.{◌≡◌, ◌<◌, ◌^◌, ℕ, ℤ, true, List, ◌++◌, length, codes, FitsSigned}
use Rattle.std.specs.Int.{w32, w64, cast_unsigned, to_be_bytes}
use Rattle.sqlite_wal.specs.Format.{checksum}
use Rattle.sqlite_wal.specs.PageSize.{bytes_of}
use Rattle.toll_files.specs.LogMarks.{IsFileAsMarked}
use Rattle.toll_files.specs.declared.file_stamps.Stamp.{Stamp}
use Rattle.toll_files.specs.declared.log_end.LogEnd.{LogEnd}
use Rattle.toll_files.specs.declared.log_mark.LogMark.{LogMark}

-- a time: its seconds and nanoseconds
abbrev pub time_bytes : ℤ × ℤ → List ℕ
time_bytes time = to_be_bytes w64 (cast_unsigned w64 time.0) ++ to_be_bytes w64 (cast_unsigned w64 time.1)

-- a sum of two words
abbrev pub sum_bytes : ℕ × ℕ → List ℕ
sum_bytes sum = to_be_bytes w32 sum.0 ++ to_be_bytes w32 sum.1

-- FILE's stamp, without the number of its disk
abbrev pub stamp_bytes : Stamp → List ℕ
stamp_bytes stamp =
    to_be_bytes w64 stamp.id.inode ++ (to_be_bytes w64 stamp.bytes ++ (time_bytes stamp.written ++ time_bytes stamp.changed))

-- the log's last commit
abbrev pub end_bytes : LogEnd → List ℕ
end_bytes end = end.salts ++ (to_be_bytes w32 end.frames ++ (to_be_bytes w32 (bytes_of end.page_size) ++ sum_bytes end.sum))

-- what is summed
abbrev pub summed_bytes : LogMark → List ℕ
summed_bytes mark = codes "log end1" ++ (stamp_bytes mark.database ++ end_bytes mark.end)

-- the whole mark
abbrev pub mark_bytes : LogMark → List ℕ
mark_bytes mark = summed_bytes mark ++ sum_bytes (checksum true (0, 0) (summed_bytes mark))

-- Both numbers of a time fit their type.
abbrev IsTime : ℤ × ℤ → Type 0
IsTime time = FitsSigned w64 time.0 × FitsSigned w64 time.1

-- Each field of the mark fits its type.
pub record AreInRange (mark : LogMark) : Type 0 where
  pub inode : mark.database.id.inode < 2 ^ 64
  pub bytes : mark.database.bytes < 2 ^ 64
  pub written : IsTime mark.database.written
  pub changed : IsTime mark.database.changed
  pub salts : length mark.end.salts ≡ 8
  pub frames : mark.end.frames < 2 ^ 32
  pub sum : (mark.end.sum.0 < 2 ^ 32) × (mark.end.sum.1 < 2 ^ 32)

-- The marks have the same commit.
abbrev pub IsSameEnd : LogEnd → LogEnd → Type 0
IsSameEnd a b =
    (a.salts ≡ b.salts) × (a.frames ≡ b.frames) × (bytes_of a.page_size ≡ bytes_of b.page_size) × (a.sum ≡ b.sum)

-- The marks are the same, whatever the numbers of the disks.
abbrev pub IsSameMark : LogMark → LogMark → Type 0
IsSameMark a b = IsFileAsMarked a b.database × IsSameEnd a.end b.end
