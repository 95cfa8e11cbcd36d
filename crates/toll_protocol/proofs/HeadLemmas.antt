-- What the parser of heads returns for a text.
use Rattle.std.proofs.Common.{◌≡◌, ◌≤◌, ◌∙◌, ℕ, List, [], length, take, drop, sym, ap, subst, arith, append-nil, Result, Ok, Err}
use Rattle.toll_protocol.proofs.Common.{drop_all, length-map, length-take-le, FindsRequest, IsRequestAt, IsRequestOf, IsRequestWithin, header_bytes, name_and_value, IsHeadLen, IsHeadOf}
use Rattle.httparse.specs.declared.Error.{Error}
use Rattle.httparse.specs.declared.Status.{Status}
use Rattle.httparse.specs.declared.Status.TheVariants.{Complete, Partial}
use Rattle.httparse.specs.declared.spans.HeaderSpan.{HeaderSpan}
use Rattle.httparse.specs.declared.spans.RequestSpans.{RequestSpans}
use Rattle.httparse.specs.Grammar.{RequestHead, ReadsRequest, print_request}
use Rattle.httparse.specs.Outcome.{IfComplete, IsCompleteAnd}
use Rattle.toll_protocol.specs.Filled.{IsHeadAt}
use Rattle.toll_protocol.specs.Limits.{head_limit, field_limit}

module _ (text : List ℕ) (n : ℕ) (fields : List HeaderSpan) where
  -- A head that takes up a prefix is the head of the text.
  pub head_read : (r : Result (Status RequestSpans) Error) (line : RequestSpans) → r ≡ Ok (Complete line)
      → IfComplete r (IsRequestWithin (take n text) fields) → IfComplete r (IsRequestOf (take n text) fields)
      → IsHeadLen text n → n ≤ head_limit → length fields ≡ field_limit → line.len ≡ n → IsHeadAt text (record { line = line; fields = fields })
  head_read r line is all of shortest short many whole =
      let within = subst (λ r. IfComplete r (IsRequestWithin (take n text) fields)) is all in
      let (h, at) = subst (λ r. IfComplete r (IsRequestOf (take n text) fields)) is of in
      let none : drop line.len (take n text) ≡ [] = drop_all line.len (take n text) (omega (arith, length-take-le n text shortest.within, whole)) in
      let count : length h.fields ≡ line.headers =
      sym (length-map h.fields name_and_value) ∙ sym (ap length at.fields) ∙ length-map (take line.headers fields) (header_bytes (take n text))
      ∙ length-take-le line.headers fields within.section.count_fits in
      let of_len : IsHeadOf text n h = record {
        shortest = shortest;
        short = short;
        reads = subst (ReadsRequest (take n text) h) none at.reads;
        room = omega (arith, count, within.section.count_fits, many);
      } in
      record {
        parts = h;
        is = subst (λ k. IsHeadOf text k h) (sym whole) of_len;
        places = subst (λ k. IsRequestAt (take k text) fields line h) (sym whole) at;
        within = subst (λ k. IsRequestWithin (take k text) fields line) (sym whole) within;
      }

  -- The parser finds the head of the text, which takes up its prefix.
  pub head_found : (r : Result (Status RequestSpans) Error) → FindsRequest (take n text) field_limit fields r
      → (h : RequestHead) → IsHeadOf text n h → IsCompleteAnd r (λ line. line.len ≡ n)
  head_found r finds h is = of_len r (finds h [] is.reads is.room)
    where
      of_len : (r : Result (Status RequestSpans) Error) → IsCompleteAnd r (λ line. IsRequestAt (take n text) fields line h) → IsCompleteAnd r (λ line. line.len ≡ n)
      of_len (Ok (Complete line)) at =
          let whole : take n text ≡ print_request h = is.reads.1 ∙ append-nil (print_request h) in
          at.len ∙ sym (ap length whole) ∙ length-take-le n text is.shortest.within
      of_len (Ok Partial) at = at
      of_len (Err e) at = at
