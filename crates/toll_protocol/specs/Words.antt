-- Words in one text.
use Rattle.std.specs.Prelude.{◌≡◌, ◌≢◌, ◌<◌, ◌+◌, ℕ, List, [], ◌∷◌, ◌++◌, length, take, drop}
use Rattle.std.specs.List.{AllByRecursion}
use Rattle.std.specs.Str.{IsUtf8}
use Rattle.toll_base.specs.Bytes.{Bytes}

-- each word, with a zero after it
abbrev pub words_text : List Bytes → Bytes
words_text [] = []
words_text (word ∷ words) = word ++ 0 ∷ words_text words

abbrev pub HasNoZero : Bytes → Type 0
HasNoZero word = AllByRecursion (λ byte. byte ≢ 0) word

-- The text has no zero in it.
pub record IsWord (word : Bytes) : Type 0 where
  pub free : HasNoZero word
  pub text : IsUtf8 word

abbrev pub AreWords : List Bytes → Type 0
AreWords words = AllByRecursion IsWord words

-- These are valid words, and the text is made of them.
abbrev pub AreWordsOf : List Bytes → Bytes → Type 0
AreWordsOf words text = AreWords words × (text ≡ words_text words)

-- There is a zero at this place, and none before it.
pub record IsFirstZero (text : Bytes) (n : ℕ) : Type 0 where
  pub before : HasNoZero (take n text)
  pub there : text ≡ take n text ++ 0 ∷ drop (n + 1) text
  pub within : n < length text
