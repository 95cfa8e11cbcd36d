use Rattle.toll_keep.specs.Meaning.{meaning_for}
use Rattle.toll_stories.proofs.PassedOn.{alone_around, kept_in, refused_alone}
use Rattle.toll_stories.proofs.refusing.RefusingKeep.units.Goals as goal

pub returns-then-refuses-clause-alone : goal.returns-then-refuses-clause-alone
returns-then-refuses-clause-alone g c = λ os.
    let m = meaning_for g.K.Keep.meaning g.K.Keep.part os in
    refused_alone kept_in m c.args.self.now c.refuses.new.self _ c.owners.result c.refusal.result _ c.refuses.ensures c.refusal.ensures.memory c.refusal.ensures.fault (c.owners.ensures.alone os).reading

pub returns-clause-alone : goal.returns-clause-alone
returns-clause-alone g c = λ os.
    let m = meaning_for g.K.Keep.meaning g.K.Keep.part os in
    alone_around kept_in m c.args.self.now c.refuses.new.self _ c.units.result _ c.refuses.ensures (c.units.ensures.alone os)
