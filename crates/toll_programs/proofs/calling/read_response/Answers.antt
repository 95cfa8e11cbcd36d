use Rattle.std.proofs.Common.{◌≡◌, ◌∙◌, ◌++◌, ℕ, Bool, false, Option, None, Some, ap, inr, refl, subst}
use Rattle.std.specs.Prelude.{IfNone, is_some}
use Rattle.toll_base.specs.Bytes.{Bytes}
use Rattle.toll_programs.specs.ServerCalls.{IsResponseText, IsNoAnswer}
use Rattle.toll_protocol.specs.PlantMessages.{IsResponse}
use Rattle.toll_protocol.specs.declared.frames.response.Response.{Response}
use Rattle.toll_programs.proofs.calling.read_response.Goals as goal

-- Bytes that can't be read are no response.
no_answer : (text : Bytes) (read : Option Response) (found : Bool) → found ≡ is_some read → found ≡ false
    → IfNone read ((status : ℕ) (output error : Bytes) → ¬ (IsResponse text status output error)) → ¬ (IsResponseText text)
no_answer text None found is none never = λ answer. never answer.0 answer.1 answer.2 answer.3
no_answer text (Some reported) found is none never = absurd (cc)

pub returns-in-Complete-2-clause-reported : goal.returns-in-Complete-2-clause-reported
returns-in-Complete-2-clause-reported g c =
    let read = c.read_on.new.self in
    let (text, gave, behind) = c.read_on.ensures.given in
    let is : read.bytes.items ≡ text = behind ∙ ap (λ front. front ++ text) c.new-frame.ensures in
    let never = no_answer c.deref.result.now c.read.result c.is_some.result c.is_some.ensures c.if-is_some.false c.read.ensures.none in
    let no_answer : IsNoAnswer g.S.Source c.args.stream.now c.read_on.new.reader read.bytes.items =
    (subst (λ t. ¬ (IsResponseText t)) c.deref.ensures.value never, c.in-Complete.ensures.complete refl) in
    inr (text, gave, subst (λ t. IsNoAnswer g.S.Source c.args.stream.now c.read_on.new.reader t) is no_answer)
