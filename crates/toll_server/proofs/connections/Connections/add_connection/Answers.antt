use Rattle.std.proofs.Common.{◌≡◌, None, Some, arith, inl, inr, refl, subst}
use Rattle.toll_server.proofs.Common.{Updates, get, AddsNext}
use Rattle.toll_server.proofs.connections.Connections.add_connection.Goals as goal

pub returns-then-len-self-clause-added : goal.returns-then-len-self-clause-added
returns-then-len-self-clause-added g c =
    let slots = c.count_owner.new.self.slots in
    let connection = c.in_ok-connection.connection in
    let e = c.in_ok-connection.ensures in
    subst (λ s. AddsNext c.args.self.now.most_open c.args.now c.args.listener c.args.stream s c.evict_oldest.new.connections) c.count_owner.ensures.slots (record {
      connection = connection;
      newcomer = (e.stream, e.request.0, e.request.1, e.state, e.deadline);
      vacant = subst (λ k. get slots k ≡ None) c.in-Ok.ensures.key c.in-Ok.ensures.was_vacant;
      «with» = c.insert.new.self;
      added = subst (λ k. Updates slots c.insert.new.self k (Some connection)) c.in-Ok.ensures.key c.in-Ok.ensures.updates;
      one_more = c.in-Ok.ensures.len;
      shed = inr (omega (arith, c.len.ensures, c.if-len-self.true, c.count_owner.ensures.most_open), c.evict_oldest.ensures.evicts);
    })

pub returns-else-len-self-clause-added : goal.returns-else-len-self-clause-added
returns-else-len-self-clause-added g c =
    let slots = c.count_owner.new.self.slots in
    let connection = c.in_ok-connection.connection in
    let e = c.in_ok-connection.ensures in
    subst (λ s. AddsNext c.args.self.now.most_open c.args.now c.args.listener c.args.stream s c.insert.new.self) c.count_owner.ensures.slots (record {
      connection = connection;
      newcomer = (e.stream, e.request.0, e.request.1, e.state, e.deadline);
      vacant = subst (λ k. get slots k ≡ None) c.in-Ok.ensures.key c.in-Ok.ensures.was_vacant;
      «with» = c.insert.new.self;
      added = subst (λ k. Updates slots c.insert.new.self k (Some connection)) c.in-Ok.ensures.key c.in-Ok.ensures.updates;
      one_more = c.in-Ok.ensures.len;
      shed = inl (omega (arith, c.len.ensures, c.if-len-self.false, c.count_owner.ensures.most_open), refl);
    })
