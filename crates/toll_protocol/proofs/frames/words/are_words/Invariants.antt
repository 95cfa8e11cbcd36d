-- All are words if those that are left are.
use Rattle.std.proofs.Common.{drop, map, ◌↔◌}
use Rattle.toll_protocol.proofs.Common.{AreWords}
use Rattle.toll_protocol.proofs.frames.words.are_words.Given as goal

abbrev pub invariant-loop-word : goal.invariant-loop-word
invariant-loop-word l = AreWords (map (λ word. word.now) (drop l.word-index l.words)) ↔ AreWords (map (λ word. word.now) l.words)
