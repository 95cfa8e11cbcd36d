use Rattle.toll_keep.specs.Meaning.{meaning_for}
use Rattle.toll_keep.proofs.Calls.{kept_of}
use Rattle.toll_stories.proofs.PassedOn.{around, keeps_around, kept_in, refused}
use Rattle.toll_stories.proofs.refusing.RefusingKeep.edges.Goals as goal

pub returns-then-refuses-clause-others : goal.returns-then-refuses-clause-others
returns-then-refuses-clause-others g c = λ os.
    let m = meaning_for g.K.Keep.meaning g.K.Keep.part os in
    kept_of (around kept_in m) (refused kept_in m c.args.self.now c.refuses.new.self _ c.owners.result c.refusal.result c.refuses.ensures c.refusal.ensures.memory c.refusal.ensures.fault (c.owners.ensures.alone os).reading)

pub returns-clause-others : goal.returns-clause-others
returns-clause-others g c = λ os.
    let m = meaning_for g.K.Keep.meaning g.K.Keep.part os in
    keeps_around kept_in m c.args.self.now c.refuses.new.self _ c.edges.result c.refuses.ensures (c.edges.ensures.others os)
