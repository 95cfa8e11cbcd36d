use Rattle.std.proofs.Common.{◌∙◌, ap, rules, lit<}
use Rattle.std.specs.Prelude.{not}
use Rattle.std.specs.Str.Iter.{split_text, split_has_more, split_pattern}
use Rattle.std.proofs.lemmas.Iterator.Consumers.{YieldsList-from_filter, map_from_collect}
use Rattle.std.proofs.lemmas.Iterator.Splits.{YieldsList-from_str_split}
use borrow.Author.Tests.{tests}
use Rattle.toll_programs.specs.Pieces.{is_empty}
use Rattle.toll_programs.proofs.events.words_of.Goals as goal

pub returns : goal.returns
returns c =
    let split = YieldsList-from_str_split 32 c.args.line.now (lit< tt) (ap split_text c.filter.ensures.source ∙ c.split.ensures.text)
    (ap split_has_more c.filter.ensures.source ∙ c.split.ensures.has_more) (ap split_pattern c.filter.ensures.source ∙ c.split.ensures.pattern) in
    map_from_collect _ c.collect.ensures.ran
    (YieldsList-from_filter _ (λ w. not (is_empty w)) split c.filter.ensures.closure (λ x b q k. search (rules, tests)))
