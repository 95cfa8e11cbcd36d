use Rattle.std.proofs.Common.{◌≡◌, ◌∙◌, ℕ, List, take, ap, subst}
use Rattle.toll_protocol.proofs.Common.{IsParsedAs}
use Rattle.toll_protocol.specs.Parsed.{parse_outcome}
use Rattle.toll_protocol.proofs.http_messages.request_reader.RequestReader.parsed.Goals as goal

pub returns-in-Read-clause-value : goal.returns-in-Read-clause-value
returns-in-Read-clause-value c =
    let text : take c.self.inside.filled c.deref.result.now ≡ c.args.self.now = ap (take c.self.inside.filled) c.deref.ensures.value ∙ c.self.view_is in
    subst (λ (t : List ℕ). IsParsedAs t (parse_outcome c.parse_with_head.result)) text c.parse_with_head.ensures
