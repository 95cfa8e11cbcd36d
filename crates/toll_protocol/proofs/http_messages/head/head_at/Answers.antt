use Rattle.std.proofs.Common.{◌≡◌, ◌∙◌, ap, subst, rules, Ok}
use Rattle.httparse.specs.Outcome.{IsCompleteAnd}
use Rattle.toll_protocol.proofs.HeadLemmas.{head_read, head_found}
use Rattle.toll_protocol.proofs.http_messages.head.head_at.Goals as goal

pub returns-in-Ok-Complete-clause-head : goal.returns-in-Ok-Complete-clause-head
returns-in-Ok-Complete-clause-head c =
    head_read c.args.text.now c.args.len c.parse_request.new.headers c.parse_request.result c.in-Ok-Complete.line (c.in-Ok-Complete.is ∙ ap Ok c.in-Ok-Complete.field-0-is)
    c.parse_request.ensures.within c.parse_request.ensures.complete c.requires.shortest c.requires.short (search rules) c.if-line-len.true

pub returns-in_default-clause-none : goal.returns-in_default-clause-none
returns-in_default-clause-none c = λ h is.
    c.if-line-len.false (subst (λ r. IsCompleteAnd r (λ line. line.len ≡ c.args.len)) (c.in-Ok-Complete.is ∙ ap Ok c.in-Ok-Complete.field-0-is)
    (head_found c.args.text.now c.args.len c.parse_request.new.headers c.parse_request.result c.parse_request.ensures.found h is))

pub returns-in_default-3-clause-none : goal.returns-in_default-3-clause-none
returns-in_default-3-clause-none c = λ h is.
    subst (λ r. IsCompleteAnd r (λ line. line.len ≡ c.args.len)) c.in_default.is
    (head_found c.args.text.now c.args.len c.parse_request.new.headers c.parse_request.result c.parse_request.ensures.found h is)
