use Rattle.std.proofs.Common.{◌≡◌, ◌∙◌, sym}
use Rattle.std.proofs.lemmas.Slice.Eq.{bytes_eq-Decides}
use Rattle.toll_files.proofs.MarkLemmas.{end_is, page_may_be, same_bytes, stamp_is}
use Rattle.toll_files.proofs.log_mark.LogMark.from_bytes.Goals as goal

pub returns-in_err-end_in-clause-all : goal.returns-in_err-end_in-clause-all
returns-in_err-end_in-clause-all c mark is = absurd (c.in_err-end_in.ensures (page_may_be mark c.args.bytes.now is c.told-bytes))

pub returns-else-eq-clause-all : goal.returns-else-eq-clause-all
returns-else-eq-clause-all c mark is =
    let database = c.stamp_in.ensures ∙ sym (stamp_is mark c.args.bytes.now is c.told-bytes) in
    let end = c.in_ok-end_in.ensures ∙ sym (end_is mark c.args.bytes.now is c.told-bytes) in
    let same : c.to_bytes.result ≡ c.args.bytes.now = c.to_bytes.ensures ∙ same_bytes (record { database = c.stamp_in.result; end = c.in_ok-end_in.field-0 }) mark database end ∙ sym is in
    sym c.if-eq.false ∙ c.eq.ensures ∙ (bytes_eq-Decides _ _).1 same
