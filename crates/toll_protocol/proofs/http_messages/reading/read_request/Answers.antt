use Rattle.std.proofs.Common.{◌≡◌, ◌∙◌, ◌++◌, ℕ, List, sym, subst, ap, refl, ◌⊎◌}
use Rattle.toll_protocol.proofs.Common.{Consumes, IsAtEnd, IsSettled}
use Rattle.toll_protocol.proofs.Onward.{reads_from_start}
use Rattle.toll_protocol.proofs.Takes.{same_as_stream}
use Rattle.toll_protocol.proofs.http_messages.reading.read_request.Goals as goal

pub returns-in-Complete-clause-same : goal.returns-in-Complete-clause-same
returns-in-Complete-clause-same g c =
    let (given, consumed, behind) = c.in-Complete.ensures.given in
    let whole : c.into_bytes.result.items ≡ given = c.into_bytes.ensures.value ∙ (behind ∙ ap (λ t. t ++ given) c.in-Ok.ensures) in
    same_as_stream _ _ _ (subst (Consumes _ _) (sym whole) consumed)
    (subst (λ (t : List ℕ). IsSettled t ⊎ IsAtEnd (g.R.Source.unread c.read_on.new.reader)) (sym c.into_bytes.ensures.value) (c.in-Complete.ensures.complete refl))

pub returns-in-Complete-clause-no_further : goal.returns-in-Complete-clause-no_further
returns-in-Complete-clause-no_further g c = reads_from_start (λ given. ¬ (IsSettled given)) _ _ _ c.in-Ok.ensures c.in-Complete.ensures.no_further

pub returns-in_default-read_on-clause-no_further : goal.returns-in_default-read_on-clause-no_further
returns-in_default-read_on-clause-no_further g c = reads_from_start (λ given. ¬ (IsSettled given)) _ _ _ c.in-Ok.ensures c.read_on.ensures.no_further

pub returns-in_default-read_on-clause-early : goal.returns-in_default-read_on-clause-early
returns-in_default-read_on-clause-early g c = λ _.
    let (given, consumed, behind) = c.read_on.ensures.given in
    let whole : c.read_on.new.self ≡ given = behind ∙ ap (λ t. t ++ given) c.in-Ok.ensures in
    (given, consumed, λ settled. c.read_on.ensures.early c.in_default-read_on.not-Complete (subst IsSettled (sym whole) settled))
