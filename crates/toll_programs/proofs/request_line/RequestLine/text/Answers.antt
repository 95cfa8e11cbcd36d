use Rattle.std.proofs.Common.{◌∙◌}
use Rattle.toll_programs.specs.ShownRequest.{shown_request}
use Rattle.toll_programs.proofs.RequestLemmas.{request_text_joined}
use Rattle.toll_programs.proofs.request_line.RequestLine.text.Goals as goal

pub returns : goal.returns
returns c =
    request_text_joined (shown_request c.args.self.now) _ _ _ _ _ _ c.new-text.ensures.items c.in_ok-push_all.ensures c.in_ok-push_field.ensures c.in_ok-push_field-2.ensures
    (c.as_bytes.ensures.value ∙ c.in_ok-length.ensures.ok) c.in_ok-push_all-2.ensures
