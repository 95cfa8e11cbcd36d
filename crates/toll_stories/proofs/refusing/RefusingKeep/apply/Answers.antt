use Rattle.std.proofs.Common.{[], ◌∷◌, subst, sym}
use Rattle.toll_keep.specs.Content.{content_after}
use Rattle.toll_keep.specs.Meaning.{meaning_for}
use Rattle.toll_keep.proofs.Calls.{kept_of}
use Rattle.toll_stories.proofs.PassedOn.{around, keeps_around, kept_in, makes_around, refused, refused_changes}
use Rattle.toll_stories.proofs.refusing.RefusingKeep.apply.Goals as goal

pub returns-then-refuses-clause-crash : goal.returns-then-refuses-clause-crash
returns-then-refuses-clause-crash g c = λ honest live d held fits.
    let same = sym c.refuses.ensures in
    let lived = subst g.K.Keep.meaning.is_store_open same live in
    let kept = (c.owners.ensures.reading.keeps honest).crash lived d (subst (λ k. g.K.Keep.meaning.holds k d) same held) in
    g.met.K.Keep.widened c.owners.new.self (d ∷ []) (content_after c.args.changes.now d ∷ []) kept

pub returns-then-refuses-clause-alone : goal.returns-then-refuses-clause-alone
returns-then-refuses-clause-alone g c = λ os.
    let m = meaning_for g.K.Keep.meaning g.K.Keep.part os in
    refused_changes kept_in m c.args.self.now c.refuses.new.self _ c.owners.result c.refusal.result c.args.changes.now (g.met.K.Keep.settled_for os) (λ k cs more left. g.met.K.Keep.widened_for os k cs more left) c.refuses.ensures c.refusal.ensures.memory c.refusal.ensures.fault (c.owners.ensures.alone os).reading

pub returns-clause-alone : goal.returns-clause-alone
returns-clause-alone g c = λ os.
    let m = meaning_for g.K.Keep.meaning g.K.Keep.part os in
    makes_around kept_in m c.args.self.now c.refuses.new.self _ c.apply.result c.args.changes.now c.refuses.ensures (c.apply.ensures.alone os)

pub returns-then-refuses-clause-others : goal.returns-then-refuses-clause-others
returns-then-refuses-clause-others g c = λ os outside.
    let m = meaning_for g.K.Keep.meaning g.K.Keep.part os in
    kept_of (around kept_in m) (refused kept_in m c.args.self.now c.refuses.new.self _ c.owners.result c.refusal.result c.refuses.ensures c.refusal.ensures.memory c.refusal.ensures.fault (c.owners.ensures.alone os).reading)

pub returns-clause-others : goal.returns-clause-others
returns-clause-others g c = λ os outside.
    let m = meaning_for g.K.Keep.meaning g.K.Keep.part os in
    keeps_around kept_in m c.args.self.now c.refuses.new.self _ c.apply.result c.refuses.ensures (c.apply.ensures.others os outside)
