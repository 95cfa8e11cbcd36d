use Rattle.std.proofs.Common.{rules, ◌≡◌, ℕ, ◌+◌, ◌++◌, take, ◌∙◌, ap, SFits, of_z}
use Rattle.std.proofs.lemmas.Int.{to_z-of_z}
use Rattle.std.specs.Int.{w64, to_be_bytes}
use Rattle.toll_files.proofs.MarkLemmas.{put_two}
use Rattle.toll_files.proofs.log_mark.put_time.Goals as goal

pub returns-clause-put : goal.returns-clause-put
returns-clause-put c =
    let fits : SFits w64 c.args.time.0 = search rules in
    let fits_too : SFits w64 c.args.time.1 = search rules in
    let first : c.cast_unsigned.result ≡ of_z w64 c.args.time.0 = c.cast_unsigned.ensures ∙ ap (of_z w64) (to_z-of_z w64 _ fits) in
    let second : c.cast_unsigned-2.result ≡ of_z w64 c.args.time.1 = c.cast_unsigned-2.ensures ∙ ap (of_z w64) (to_z-of_z w64 _ fits_too) in
    put_two c.args.bytes.now c.put64.new.bytes c.put64-2.new.bytes (to_be_bytes w64 (of_z w64 c.args.time.0)) (to_be_bytes w64 (of_z w64 c.args.time.1)) c.args.at 8 8
    (c.put64.ensures.put ∙ ap (λ (n : ℕ). take c.args.at c.args.bytes.now ++ to_be_bytes w64 n) first)
    (c.put64-2.ensures.put ∙ ap (λ (n : ℕ). take (c.args.at + 8) c.put64.new.bytes ++ to_be_bytes w64 n) second)
