use Rattle.std.proofs.Common.{◌≡◌, List, ℕ, ◌++◌, ◌∙◌, take, ap, subst, rules}
use Rattle.toll_protocol.proofs.Common.{IsSettled, ReadsWhile, with_items_is, places}
use Rattle.std.specs.Vec.{with_items}
use Rattle.toll_protocol.proofs.http_messages.request_reader.RequestReader.read_on.Goals as goal

pub returns-clause-complete : goal.returns-clause-complete
returns-clause-complete g c =
    let text : (with_items c.self.inside.text c.fill_on-filled.new.text).items ≡ c.fill_on-filled.new.text = with_items_is c.self.inside.text c.fill_on-filled.new.text (search (rules, places)) in
    rw text c.fill_on-filled.ensures.complete

pub returns-clause-early : goal.returns-clause-early
returns-clause-early g c =
    let text : (with_items c.self.inside.text c.fill_on-filled.new.text).items ≡ c.fill_on-filled.new.text = with_items_is c.self.inside.text c.fill_on-filled.new.text (search (rules, places)) in
    rw text c.fill_on-filled.ensures.early

pub returns-clause-no_further : goal.returns-clause-no_further
returns-clause-no_further g c =
    let start : take c.self.inside.filled c.as_mut_slice.result.now ≡ c.args.self.now = ap (take c.self.inside.filled) c.as_mut_slice.ensures.value ∙ c.self.view_is in
    subst (λ (t : List ℕ). ReadsWhile (λ given. ¬ (IsSettled (t ++ given))) (g.R.Source.reads c.args.reader.now) (g.R.Source.reads c.fill_on-filled.new.reader)) start c.fill_on-filled.ensures.no_further
