-- A buffer that is filled with the bytes of a request, and the search for the head in it.
use Rattle.std.specs.Prelude.{◌≡◌, ◌+◌, ◌≤◌, ℕ, List, length, take}
use Rattle.httparse.specs.Grammar.{RequestHead}
use Rattle.httparse.specs.Spans.{IsRequestAt, IsRequestWithin}
use Rattle.toll_protocol.specs.Limits.{text_limit}
use Rattle.toll_protocol.specs.Head.{IsHeadOf, IsSearched}
use Rattle.toll_protocol.specs.declared.http_messages.head.Head.{Head}
use Rattle.toll_protocol.specs.declared.http_messages.settled.HeadSearch.{HeadSearch}
use Rattle.toll_protocol.specs.declared.http_messages.settled.HeadSearch.TheVariants.{Searched, Read}

-- The text has a head, whose parts are at these places.
pub record IsHeadAt (text : List ℕ) (head : Head) : Type 0 where
  pub parts : RequestHead
  pub is : IsHeadOf text head.line.len parts
  pub places : IsRequestAt (take head.line.len text) head.fields head.line parts
  pub within : IsRequestWithin (take head.line.len text) head.fields head.line

-- The search has come so far in the text: its head was read, or no head ends before the place from which the search goes on.
abbrev pub IsSearch : List ℕ → HeadSearch → Type 0
IsSearch text (Searched n) = IsSearched text n × (n ≤ length text + 1)
IsSearch text (Read head) = IsHeadAt text head

-- This many bytes of the buffer are filled, and the search has come so far in them.
pub record IsFilled (text : List ℕ) (filled : ℕ) (search : HeadSearch) : Type 0 where
  pub size : length text ≡ text_limit
  pub within : filled ≤ text_limit
  pub searched : IsSearch (take filled text) search
