use Rattle.std.proofs.Common.{List, ℕ, subst, sym}
use Rattle.toll_protocol.proofs.Common.{IsRequestAt}
use Rattle.toll_protocol.proofs.Fronts.{settled_by_body}
use Rattle.toll_protocol.proofs.http_messages.settled.is_whole.Goals as goal

pub returns-clause-settled : goal.returns-clause-settled
returns-clause-settled c =
    let head = c.args.head.now in
    let is = c.requires in
    let there = subst (λ (front : List ℕ). IsRequestAt front head.fields head.line is.parts) (sym c.split_at.ensures.front) is.places in
    settled_by_body c.args.text.now c.split_at.result.0.now c.split_at.result.1.now head.line.len is.parts _ is.is c.split_at.ensures.back (c.has_body.ensures.there is.parts there)
