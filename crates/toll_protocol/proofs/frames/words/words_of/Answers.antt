use Rattle.std.proofs.Common.{◌≡◌, ◌∙◌, ◌∷◌, ◌++◌, [], ap, sym, map, arith}
use Rattle.toll_protocol.proofs.Common.{map-append, words_text}
use Rattle.std.proofs.lemmas.Grind.{common_steps}
use Rattle.toll_protocol.proofs.WordLemmas.{are_more, no_tail, tail_of, word_more}
use Rattle.toll_protocol.proofs.frames.words.words_of.Goals as goal

pub loop-word-preserved : goal.loop-word-preserved
loop-word-preserved c =
    let at = c.loop-word in
    let before = map (λ word. word.now) at.words.items in
    let word = c.in-Some.word.now in
    let behind = c.in-Some.behind.now in
    let (is, parts) = c.in-Some.ensures.found in
    let pushed : map (λ word. word.now) c.push.new.self.items ≡ before ++ word ∷ [] = ap (map (λ word. word.now)) c.in_ok-push.ensures.items ∙ map-append _ at.words.items _ in
    record {
      so_far = rw pushed (word_more before word behind c.args.text.now (ap (λ r. words_text before ++ r) (sym parts) ∙ at.invariant.so_far));
      are = rw pushed (are_more before word at.invariant.are is);
      left = λ words are same. let (tail, tails, rest) = at.invariant.left words are same in tail_of word behind tail is.free tails (sym parts ∙ rest);
    }

pub returns-clause-none : goal.returns-clause-none
returns-clause-none c = λ words are same.
    let (tail, tails, rest) = c.loop-word.invariant.left words are same in
    no_tail c.loop-word.rest.now tail tails rest (grind (arith, common_steps)) c.in_default.ensures.none
