use Rattle.std.proofs.Common.{ap, ◌∙◌}
use Rattle.toll_keep.specs.Meaning.{meaning_for}
use Rattle.toll_desk.proofs.Common.{read_fault, read_ok, where_so}
use Rattle.toll_desk.proofs.OwnerPlans.{admits_alike}
use Rattle.toll_desk.specs.Admission.{is_admitted}
use Rattle.toll_desk.proofs.admission.admit.Goals as goal

pub returns-in-Ok-clause-alone : goal.returns-in-Ok-clause-alone
returns-in-Ok-clause-alone g c = λ os.
    let r = (c.in-Ok.ensures.alone os).reading in
    read_ok (meaning_for g.K.Keep.meaning g.K.Keep.part os) c.args.keep.now c.owners.new.self c.in-Ok.rows _ r.goes r.keeps

pub returns-in-Err-clause-alone : goal.returns-in-Err-clause-alone
returns-in-Err-clause-alone g c = λ os.
    let r = (c.in-Err.ensures.alone os).reading in
    read_fault (meaning_for g.K.Keep.meaning g.K.Keep.part os) c.args.keep.now c.owners.new.self c.in-Err.fault r.goes r.keeps r.whole

pub returns-in-Ok-clause-own : goal.returns-in-Ok-clause-own
returns-in-Ok-clause-own g c = λ os honest content held H stands.
    let o = c.args.owner.now in
    let key = c.args.key.now in
    let rows = (c.in-Ok.ensures.alone os).reads honest content held in
    c.admitted.ensures ∙ ap (λ rows. where_so (is_admitted rows o key) o) (c.deref.ensures.value ∙ rows) ∙ ap (λ b. where_so b o) (admits_alike content H o key stands)
