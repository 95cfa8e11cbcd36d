use Rattle.toll_keep.specs.Meaning.{meaning_for}
use Rattle.toll_keep.proofs.Calls.{kept_of}
use Rattle.toll_stories.proofs.PassedOn.{alone_around, around, keeps_around, kept_in, refused, refused_alone}
use Rattle.toll_stories.proofs.refusing.RefusingKeep.trace.Goals as goal

pub returns-then-refuses-clause-alone : goal.returns-then-refuses-clause-alone
returns-then-refuses-clause-alone g c = λ os among.
    let m = meaning_for g.K.Keep.meaning g.K.Keep.part os in
    refused_alone kept_in m c.args.self.now c.refuses.new.self _ c.owners.result c.refusal.result _ c.refuses.ensures c.refusal.ensures.memory c.refusal.ensures.fault (c.owners.ensures.alone os).reading

pub returns-clause-alone : goal.returns-clause-alone
returns-clause-alone g c = λ os among.
    let m = meaning_for g.K.Keep.meaning g.K.Keep.part os in
    alone_around kept_in m c.args.self.now c.refuses.new.self _ c.trace.result _ c.refuses.ensures (c.trace.ensures.alone os among)

pub returns-then-refuses-clause-others : goal.returns-then-refuses-clause-others
returns-then-refuses-clause-others g c = λ os.
    let m = meaning_for g.K.Keep.meaning g.K.Keep.part os in
    kept_of (around kept_in m) (refused kept_in m c.args.self.now c.refuses.new.self _ c.owners.result c.refusal.result c.refuses.ensures c.refusal.ensures.memory c.refusal.ensures.fault (c.owners.ensures.alone os).reading)

pub returns-clause-others : goal.returns-clause-others
returns-clause-others g c = λ os.
    let m = meaning_for g.K.Keep.meaning g.K.Keep.part os in
    keeps_around kept_in m c.args.self.now c.refuses.new.self _ c.trace.result c.refuses.ensures (c.trace.ensures.others os)
