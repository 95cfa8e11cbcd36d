use Rattle.std.proofs.Common.{refl, [], ◌∷◌, rules, sym, subst, ◌∙◌}
use Rattle.toll_keep.proofs.Calls.{kept_then}
use Rattle.toll_keep.specs.Meaning.{meaning_for}
use Rattle.toll_desk.proofs.Common.{settles, settles_still, content_after}
use Rattle.toll_desk.proofs.CommitLemmas.{no_changes}
use Rattle.toll_desk.proofs.committing.commit.Goals as goal

pub returns-then-is_empty-clause-made : goal.returns-then-is_empty-clause-made
returns-then-is_empty-clause-made g c = record {
  honest = search rules;
  idle = search rules;
  goes = λ some. absurd (some (no_changes c.args.changes.now (sym c.is_empty.ensures ∙ c.if-is_empty.true)));
  settles = settles_still g.K.Keep.meaning c.args.keep.now g.met.K.Keep.settled;
  all = λ honest content held fits.
      subst (λ changes. g.K.Keep.meaning.holds c.args.keep.now (content_after changes content)) (sym (no_changes c.args.changes.now (sym c.is_empty.ensures ∙ c.if-is_empty.true))) held;
  none = search rules;
  whole = search rules;
  crash = λ honest live content held fits.
      subst (λ changes. g.K.Keep.meaning.leaves c.args.keep.now (content ∷ content_after changes content ∷ [])) (sym (no_changes c.args.changes.now (sym c.is_empty.ensures ∙ c.if-is_empty.true)))
      (g.met.K.Keep.widened c.args.keep.now (content ∷ []) (content ∷ []) (g.met.K.Keep.settled c.args.keep.now content honest live held));
}

pub returns-clause-made : goal.returns-clause-made
returns-clause-made g c = record {
  honest = search rules;
  idle = search rules;
  goes = search rules;
  settles = settles g.K.Keep.meaning c.args.keep.now c.apply.new.self c.apply.result g.met.K.Keep.settled c.apply.ensures.goes;
  all = search rules;
  none = search rules;
  whole = search rules;
  crash = search rules;
}

pub returns-then-is_empty-clause-alone : goal.returns-then-is_empty-clause-alone
returns-then-is_empty-clause-alone g c = λ os.
    let m = meaning_for g.K.Keep.meaning g.K.Keep.part os in
    let none = sym (no_changes c.args.changes.now (sym c.is_empty.ensures ∙ c.if-is_empty.true)) in
    record {
      honest = λ now. now;
      idle = λ _. (refl, refl);
      goes = λ some. absurd (some (sym none));
      settles = settles_still m c.args.keep.now (g.met.K.Keep.settled_for os);
      all = λ honest content held fits. subst (λ changes. m.holds c.args.keep.now (content_after changes content)) none held;
      none = λ honest content held. tt;
      whole = λ honest content held keeps is. absurd (cc);
      crash = λ honest live content held fits.
          subst (λ changes. m.leaves c.args.keep.now (content ∷ content_after changes content ∷ [])) none
          (g.met.K.Keep.widened_for os c.args.keep.now (content ∷ []) (content ∷ []) (g.met.K.Keep.settled_for os c.args.keep.now content honest live held));
    }

pub returns-clause-alone : goal.returns-clause-alone
returns-clause-alone g c = λ os.
    let makes = c.apply.ensures.alone os in
    record {
      honest = makes.goes.honest;
      idle = search rules;
      goes = λ _. makes.goes;
      settles = settles (meaning_for g.K.Keep.meaning g.K.Keep.part os) c.args.keep.now c.apply.new.self c.apply.result (g.met.K.Keep.settled_for os) makes.goes;
      all = makes.all;
      none = makes.none;
      whole = makes.whole;
      crash = makes.crash;
    }

pub returns-clause-others : goal.returns-clause-others
returns-clause-others g c = λ os outside first kept.
    kept_then (meaning_for g.K.Keep.meaning g.K.Keep.part os) first c.args.keep.now c.apply.new.self tt c.apply.result kept (c.apply.ensures.others os outside)
