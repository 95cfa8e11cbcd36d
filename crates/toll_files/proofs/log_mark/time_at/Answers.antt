use Rattle.std.proofs.Common.{rules, ◌∙◌, ap, SFits, of_z}
use Rattle.std.proofs.lemmas.Int.{of_z-to_z, to_z-of_z}
use Rattle.std.specs.Int.{w64, to_be_bytes}
use Rattle.toll_files.proofs.MarkLemmas.{two_parts}
use Rattle.toll_files.proofs.log_mark.time_at.Goals as goal

pub returns : goal.returns
returns c =
    let fits : SFits w64 c.cast_signed.result = search rules in
    let fits_too : SFits w64 c.cast_signed-2.result = search rules in
    let first = ap (of_z w64) (to_z-of_z w64 _ fits ∙ c.cast_signed.ensures) ∙ of_z-to_z w64 c.u64_at.result c.u64_at.type_inv in
    let second = ap (of_z w64) (to_z-of_z w64 _ fits_too ∙ c.cast_signed-2.ensures) ∙ of_z-to_z w64 c.u64_at-2.result c.u64_at-2.type_inv in
    two_parts c.args.bytes.now _ _ c.args.at 8 8 (ap (to_be_bytes w64) first ∙ c.u64_at.ensures) (ap (to_be_bytes w64) second ∙ c.u64_at-2.ensures)
