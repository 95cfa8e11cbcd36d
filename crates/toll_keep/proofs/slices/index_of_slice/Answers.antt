use Rattle.std.proofs.Common.{rules, tests}
use Rattle.toll_keep.proofs.Common.{YieldsList-from_slice, position_from_yields_List, is_slice_of}
use Rattle.toll_keep.proofs.slices.index_of_slice.Goals as goal

pub returns : goal.returns
returns c = position_from_yields_List (is_slice_of c.args.owner.now) _ _ c.position.result c.position.ensures.ran (YieldsList-from_slice _ c.iter.ensures.rest) (λ x b q k. search (rules, tests))
