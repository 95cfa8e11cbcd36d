-- Words in one text.
use Rattle.std.proofs.Common.{◌≡◌, ◌∙◌, ◌≢◌, ◌+◌, ℕ, List, [], ◌∷◌, ◌++◌, sym, ap, refl, subst, append_assoc}
use Rattle.toll_protocol.proofs.Common.{AreWords, HasNoZero, IsWord, words_text}

-- A text has only one first zero.
pub one_zero : (a b x y : List ℕ) → HasNoZero a → HasNoZero b → a ++ 0 ∷ x ≡ b ++ 0 ∷ y → (a ≡ b) × (x ≡ y)
one_zero [] [] x y p q same = (refl, cc)
one_zero [] (b ∷ more) x y p q same = absurd (q.0 cc)
one_zero (a ∷ rest) [] x y p q same = absurd (p.0 cc)
one_zero (a ∷ rest) (b ∷ more) x y p q same =
    let tails : rest ++ 0 ∷ x ≡ more ++ 0 ∷ y = cc in
    let (front, behind) = one_zero rest more x y p.1 q.1 tails in (cc, behind)

-- A text is only one list of words.
pub one_list_of_words : (words others : List (List ℕ)) → AreWords words → AreWords others → words_text words ≡ words_text others → words ≡ others
one_list_of_words [] [] p q same = refl
one_list_of_words [] ([] ∷ others) p q same = absurd cc
one_list_of_words [] ((b ∷ more) ∷ others) p q same = absurd cc
one_list_of_words ([] ∷ words) [] p q same = absurd cc
one_list_of_words ((a ∷ rest) ∷ words) [] p q same = absurd cc
one_list_of_words (a ∷ words) (b ∷ others) p q same =
    let (front, behind) = one_zero a b (words_text words) (words_text others) p.0.free q.0.free same in
    let rest = one_list_of_words words others p.1 q.1 behind in cc

pub words_text-append : (words more : List (List ℕ)) → words_text (words ++ more) ≡ words_text words ++ words_text more
words_text-append [] more = refl
words_text-append (word ∷ words) more =
    ap (λ t. word ++ 0 ∷ t) (words_text-append words more) ∙ sym (append_assoc word (0 ∷ words_text words) (words_text more))

-- A text without a zero has no word.
pub no_word : (text word rest : List ℕ) → HasNoZero text → text ≡ word ++ 0 ∷ rest → ⊥
no_word text [] rest free same = let here : HasNoZero (0 ∷ rest) = subst HasNoZero same free in here.0 refl
no_word text (b ∷ word) rest free same = let here : HasNoZero (b ∷ (word ++ 0 ∷ rest)) = subst HasNoZero same free in no_word (word ++ 0 ∷ rest) word rest here.1 refl

-- The list's first word is the one that its text begins with.
pub tail_of : (word rest : List ℕ) (words : List (List ℕ)) → HasNoZero word → AreWords words → word ++ 0 ∷ rest ≡ words_text words
    → (tail : List (List ℕ)) × AreWords tail × (rest ≡ words_text tail)
tail_of [] rest [] free are same = absurd cc
tail_of (b ∷ word) rest [] free are same = absurd cc
tail_of word rest (w ∷ words) free are same = (words, are.1, (one_zero word w rest (words_text words) free are.0.free same).1)

-- One more word.
pub word_more : (before : List (List ℕ)) (word rest text : List ℕ) → words_text before ++ (word ++ 0 ∷ rest) ≡ text → words_text (before ++ word ∷ []) ++ rest ≡ text
word_more before word rest text so_far =
    ap (λ t. t ++ rest) (words_text-append before (word ∷ [])) ∙ (append_assoc (words_text before) (word ++ 0 ∷ []) rest
    ∙ (ap (λ t. words_text before ++ t) (append_assoc word (0 ∷ []) rest) ∙ so_far))

pub are_more : (before : List (List ℕ)) (word : List ℕ) → AreWords before → IsWord word → AreWords (before ++ word ∷ [])
are_more [] word are is = (is, tt)
are_more (w ∷ before) word are is = (are.0, are_more before word are.1 is)

-- A text that isn't empty and doesn't begin with a word is no list of words.
pub no_tail : (rest : List ℕ) (tail : List (List ℕ)) → AreWords tail → rest ≡ words_text tail → rest ≢ []
    → ((word behind : List ℕ) → IsWord word → rest ≡ word ++ 0 ∷ behind → ⊥) → ⊥
no_tail rest [] are is some none = some is
no_tail rest (word ∷ tail) are is some none = none word (words_text tail) are.0 is
