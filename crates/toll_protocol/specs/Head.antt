-- The head of a request, on the whole text (RFC 9112, section 2.1).
use Rattle.std.specs.Prelude.{ℕ, ◌<◌, ◌≤◌, List, [], ◌∷◌, length, take, IsTrue, nat_eq}
use Rattle.std.specs.List.{ends_with}
use Rattle.httparse.specs.Grammar.{RequestHead, ReadsRequest}
use Rattle.toll_protocol.specs.Limits.{head_limit, field_limit}

-- The text ends with the end of a line and an empty line.
abbrev pub EndsHead : List ℕ → Type 0
EndsHead text = IsTrue (ends_with nat_eq text (13 ∷ 10 ∷ 13 ∷ 10 ∷ []))

-- The first n bytes are the shortest prefix that ends a head.
pub record IsHeadLen (text : List ℕ) (n : ℕ) : Type 0 where
  pub within : n ≤ length text
  pub ends : EndsHead (take n text)
  pub first : (k : ℕ) → k < n → ¬ (EndsHead (take k text))

-- No prefix that is shorter than n ends a head.
abbrev pub IsSearched : List ℕ → ℕ → Type 0
IsSearched text n = (k : ℕ) → k < n → ¬ (EndsHead (take k text))

-- No prefix within the limit ends a head.
abbrev pub NoHead : List ℕ → Type 0
NoHead text = (n : ℕ) → n ≤ length text → n ≤ head_limit → ¬ (EndsHead (take n text))

-- The first n bytes are the head h.
pub record IsHeadOf (text : List ℕ) (n : ℕ) (h : RequestHead) : Type 0 where
  pub shortest : IsHeadLen text n
  pub short : n ≤ head_limit
  pub reads : ReadsRequest (take n text) h []
  pub room : length h.fields ≤ field_limit
