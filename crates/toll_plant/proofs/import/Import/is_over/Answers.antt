use Rattle.std.proofs.Common.{◌≡◌, ◌∙◌, length, drop, ap, sym, arith, rules}
use Rattle.std.proofs.lemmas.Bool.Decides.{nat_tests}
use Rattle.toll_plant.proofs.ImportDone.{over_at, over_from}
use Rattle.toll_plant.proofs.import.Import.is_over.Goals as goal

pub returns : goal.returns
returns c =
    let fields = c.self.inside in
    let left : drop fields.next fields.commands.items ≡ c.args.self.now.left = ap (λ i. i.left) c.self.view_is in
    let len : c.len.result ≡ length fields.commands.items = search rules in (
      λ same. let is : fields.next ≡ length fields.commands.items = grind (arith, nat_tests, same, len) in sym left ∙ over_from fields.next fields.commands.items is,
      λ none. let is = over_at fields.next fields.commands.items c.self.invariant.within (left ∙ none) in grind (arith, nat_tests, is, len),
    )
