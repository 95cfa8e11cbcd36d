-- The last commit in SQLite's write-ahead log, and what became of it: https://sqlite.org/fileformat2.html#the_write_ahead_log
use Rattle.std.specs.Prelude.{◌≡◌, ◌≢◌, ◌⊎◌, ℕ, ◌+◌, ◌<◌, ◌≤◌, Bool, true, false, List, length, Option, None, Some, IfSome}
use Rattle.sqlite_wal.specs.Format.{IsHeader, be32, part, stored_sum}
use Rattle.sqlite_wal.specs.PageSize.{IsPageSize, bytes_of}
use Rattle.sqlite_wal.specs.Recovery.{Passes, frame_at, header, sum_before}
use Rattle.toll_files.specs.declared.log_end.FoundEnd.{FoundEnd}
use Rattle.toll_files.specs.declared.log_end.FoundEnd.TheVariants.{Stands, Gone, BegunAnew}
use Rattle.toll_files.specs.declared.log_end.LogEnd.{LogEnd}

-- The buffer has the bytes of the file from this place on; or the file ends before.
abbrev pub IsFilled : List ℕ → ℕ → Bool → List ℕ → Type 0
IsFilled bytes at true buffer = (at + length buffer ≤ length bytes) × (buffer ≡ part bytes at (length buffer))
IsFilled bytes at false buffer = length bytes < at + length buffer

-- the salts of the log's header, and the size of its pages
abbrev pub salts_of : List ℕ → List ℕ
salts_of bytes = part (header bytes) 16 8

abbrev pub page_bytes_of : List ℕ → ℕ
page_bytes_of bytes = be32 (header bytes) 8

-- These 32 bytes are a log's header.
abbrev pub IsLogHeader : List ℕ → Type 0
IsLogHeader head = IsHeader (be32 head 8) head × IsPageSize (be32 head 8)

-- The file is a log.
abbrev pub IsLog : List ℕ → Type 0
IsLog bytes = (32 ≤ length bytes) × IsLogHeader (header bytes)

module _ (page_bytes : ℕ) (salts bytes : List ℕ) where
  -- the header of frame i, and the size of the database if the frame commits; 0 if not
  abbrev pub frame_header : ℕ → List ℕ
  frame_header i = part bytes (frame_at page_bytes i) 24

  abbrev pub commit_at : ℕ → ℕ
  commit_at i = be32 (frame_header i) 4

  -- Frame i is the log's: the file has its header, with these salts.
  abbrev pub IsFrameOf : ℕ → Type 0
  IsFrameOf i = (frame_at page_bytes i + 24 ≤ length bytes) × (part (frame_header i) 8 8 ≡ salts)

  -- This is the header of frame i, if the frame is the log's.
  abbrev pub IsHeaderOfFrame : ℕ → Option (List ℕ) → Type 0
  IsHeaderOfFrame i None = ¬ IsFrameOf i
  IsHeaderOfFrame i (Some head) = IsFrameOf i × (head ≡ frame_header i)

  -- The end is that of a commit.
  pub record IsCommit (end : LogEnd) : Type 0 where
    pub last : ℕ
    pub frames : end.frames ≡ last + 1
    pub salts_are : end.salts ≡ salts
    pub size : bytes_of end.page_size ≡ page_bytes
    pub commits : commit_at last ≢ 0
    pub sum : end.sum ≡ stored_sum (frame_header last) 16

  -- The first n frames are the log's.
  abbrev pub AreFrames : ℕ → Type 0
  AreFrames n = (i : ℕ) → i < n → IsFrameOf i

  -- No frame from the one place to the other commits.
  abbrev pub NoneCommits : ℕ → ℕ → Type 0
  NoneCommits begun done = (i : ℕ) → begun ≤ i → i < done → commit_at i ≡ 0

  -- The end is that of the last commit in the first n frames, if one of them commits.
  abbrev pub IsLastCommit : ℕ → Option LogEnd → Type 0
  IsLastCommit n None = NoneCommits 0 n
  IsLastCommit n (Some end) = IsCommit end × (end.frames ≤ n) × NoneCommits end.frames n

  -- The frames of the log are those before the first with other salts. The end is that of the last commit in them.
  pub record IsEndOfFrames (end : Option LogEnd) : Type 0 where
    pub count : ℕ
    pub are : AreFrames count
    pub no_more : ¬ IsFrameOf count
    pub last : IsLastCommit count end

  -- The end is that of a commit, behind frames that are all the log's.
  abbrev pub IsCommitOf : LogEnd → Type 0
  IsCommitOf end = AreFrames end.frames × IsCommit end

-- This is the end of the log. A file that is no log has none.
abbrev pub IsEndOf : List ℕ → Option LogEnd → Type 0
IsEndOf bytes end =
    (IsLog bytes × IsEndOfFrames (page_bytes_of bytes) (salts_of bytes) bytes end) ⊎ ((¬ IsLog bytes) × (end ≡ None))

-- If the log has the salts of the earlier end, it still has that commit.
abbrev pub IsEarlierEnd : List ℕ → Option LogEnd → Type 0
IsEarlierEnd bytes before =
    IfSome before (λ end. IsLog bytes → salts_of bytes ≡ end.salts → IsCommitOf (page_bytes_of bytes) (salts_of bytes) bytes end)

module _ (bytes : List ℕ) (end : LogEnd) where
  -- The file is a log with the salts of the end.
  abbrev pub HasSalts : Type 0
  HasSalts = IsLog bytes × (salts_of bytes ≡ end.salts)

  -- SQLite takes each frame up to the end, and its running sum is then that of the end.
  abbrev pub IsReached : Type 0
  IsReached = ((i : ℕ) → i < end.frames → Passes (bytes_of end.page_size) bytes i) × (sum_before (bytes_of end.page_size) bytes end.frames ≡ end.sum)

  -- The log has the end.
  abbrev pub HasEnd : Type 0
  HasEnd = HasSalts × (page_bytes_of bytes ≡ bytes_of end.page_size) × IsReached

  -- what became of the end in the log
  abbrev pub IsFoundAs : FoundEnd → Type 0
  IsFoundAs Stands = HasEnd
  IsFoundAs Gone = HasSalts × (¬ HasEnd)
  IsFoundAs BegunAnew = ¬ HasSalts
