use Rattle.std.proofs.Common.{◌≡◌, map, false, true, ap, sym, ◌∙◌, arith}
use Rattle.toll_plant.proofs.Common.{fields_of}
use Rattle.toll_plant.specs.Files.{header}
use Rattle.toll_plant.proofs.FieldLemmas.{alike_there, unlike_there}
use Rattle.toll_plant.proofs.actuals.is_header.Goals as goal

pub returns-then-not-is_field : goal.returns-then-not-is_field
returns-then-not-is_field c =
    let names : map (λ n. n.now) c.as_slice-names.result.now ≡ header = ap (map (λ n. n.now)) c.as_slice-names.ensures in (
      λ is. absurd (cc is),
      λ is. absurd (unlike_there (λ n. n.now) c.as_slice-names.result.now c.loop-name.name-index c.loop-name.place _ (fields_of c.args.row.now) header names c.loop-name-test.true c.loop-name.invariant.place
          (λ has. let never : false ≡ true = sym c.if-not-is_field.true ∙ c.is_field.ensures.1 has in cc never) is),
    )

pub loop-name-preserved : goal.loop-name-preserved
loop-name-preserved c =
    let names : map (λ n. n.now) c.as_slice-names.result.now ≡ header = ap (map (λ n. n.now)) c.as_slice-names.ensures in
    record {
      place = omega (arith, c.loop-name.invariant.place);
      same = alike_there (λ n. n.now) c.as_slice-names.result.now c.loop-name.name-index c.loop-name.place _ (fields_of c.args.row.now) header names c.loop-name-test.true c.loop-name.invariant.place (c.is_field.ensures.0 c.if-not-is_field.false) c.loop-name.invariant.same;
    }
