-- The words so far and the rest are the text. If the text is a list of words, the rest is some of them.
use Rattle.std.proofs.Common.{◌≡◌, List, ℕ, ◌++◌, length, map}
use Rattle.toll_protocol.proofs.Common.{AreWords, words_text}
use Rattle.toll_protocol.proofs.frames.words.words_of.Given as goal

abbrev pub invariant-loop-word : goal.invariant-loop-word
invariant-loop-word l = record {
  so_far : words_text (map (λ word. word.now) l.words.items) ++ l.rest ≡ l.text;
  are : AreWords (map (λ word. word.now) l.words.items);
  left : (words : List (List ℕ)) → AreWords words → l.text ≡ words_text words → (tail : List (List ℕ)) × AreWords tail × (l.rest ≡ words_text tail);
}

abbrev pub decreases-loop-word : goal.decreases-loop-word
decreases-loop-word l = length l.rest
