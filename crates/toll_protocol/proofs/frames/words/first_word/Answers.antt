use Rattle.std.proofs.Common.{◌∙◌, ◌+◌, take, drop, sym, subst}
use Rattle.std.specs.Str.{IsUtf8}
use Rattle.toll_protocol.proofs.WordLemmas.{no_word, one_zero}
use Rattle.toll_protocol.proofs.frames.words.first_word.Goals as goal

pub returns-in_default-clause-none : goal.returns-in_default-clause-none
returns-in_default-clause-none c = λ word rest is same. no_word c.args.text.now word rest c.in_default.ensures.none same

pub returns-in-Err-clause-none : goal.returns-in-Err-clause-none
returns-in-Err-clause-none c = λ word rest is same.
    let text = c.args.text.now in
    let end = c.in-Some.end in
    let first = c.in-Some.ensures.found in
    let front = one_zero word (take end text) rest (drop (end + 1) text) is.free first.before (sym same ∙ first.there) in
    c.in-Err.ensures.cases.0 (subst IsUtf8 front.0 is.text)
