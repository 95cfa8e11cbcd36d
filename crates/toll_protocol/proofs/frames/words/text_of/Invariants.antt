-- What was written, and what is left to write.
use Rattle.std.proofs.Common.{◌≡◌, ◌++◌, drop, map}
use Rattle.toll_protocol.proofs.Common.{words_text}
use Rattle.toll_protocol.proofs.frames.words.text_of.Given as goal

abbrev pub invariant-loop-word : goal.invariant-loop-word
invariant-loop-word l =
    l.text.items ++ words_text (map (λ word. word.now) (drop l.word-index l.words)) ≡ words_text (map (λ word. word.now) l.words)
