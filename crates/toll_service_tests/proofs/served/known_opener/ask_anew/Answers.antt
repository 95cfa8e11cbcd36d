use Rattle.std.proofs.Common.{inl, inr, refl}
use Rattle.toll_base.proofs.SliceFits.{empty_keeps}
use Rattle.toll_keep.specs.Content.{empty_content}
use Rattle.toll_service_tests.proofs.OpenerLemmas.{answered_anew, none_damaged}
use Rattle.toll_service_tests.proofs.served.known_opener.ask_anew.Goals as goal

pub returns-clause-answered : goal.returns-clause-answered
returns-clause-answered c =
    answered_anew _ _ _ _ _ _ _ _ _ _ _ (λ left found is. is) (c.open_ahead.ensures c.new-service.ensures.session) c.answer-poll.ensures _ refl

pub returns-clause-sound : goal.returns-clause-sound
returns-clause-sound c =
    none_damaged _ _ _ _ _ _ _ _ _ _ _ (λ left found is. is) (c.open_ahead.ensures c.new-service.ensures.session) c.answer-poll.ensures
    (λ first last opened met. elim met [
      | inl (same, is) ↦ absurd (cc is)
      | inr (goes, whole) ↦ whole tt empty_content opened (λ o. empty_keeps o) refl
    ])
