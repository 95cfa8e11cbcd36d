use Rattle.toll_stock.proofs.Common.{same_bytes-refl, owed}
use Rattle.toll_stock.proofs.TestLaw.{test_decided, test_keeps}
use Rattle.toll_stock.proofs.material_tests.add_test.Goals as goal

pub returns : goal.returns
returns c =
    let o = owed c.plan_test.ensures.plan (λ d. test_decided _ _ d) (λ d decided. test_keeps _ _ d decided c.plan_test.ensures.kept) (same_bytes-refl c.args.slice.now.owner, tt) in
    record { decides = o.decides; rules = o.rules; own = o.own }
