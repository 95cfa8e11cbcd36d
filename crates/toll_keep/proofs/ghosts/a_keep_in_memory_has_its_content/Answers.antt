use Rattle.toll_keep.specs.Slices.{content_of}
use Rattle.toll_keep.proofs.Contents.{among_contains, contains_among}
use Rattle.toll_keep.proofs.ghosts.a_keep_in_memory_has_its_content.Goals as goal

pub returns-clause-leaves : goal.returns-clause-leaves
returns-clause-leaves c = λ k cs. (among_contains (content_of k) cs, contains_among (content_of k) cs)
