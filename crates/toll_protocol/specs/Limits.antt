-- The limits of a request.
use Rattle.std.specs.Prelude.{ℕ, ◌+◌}
use Rattle.toll_protocol.specs.declared.http_messages.http_request.TheConstants.{BODY_LIMIT}
use Rattle.toll_protocol.specs.declared.http_messages.head.TheConstants.{HEAD_LIMIT, FIELD_LIMIT}

-- how many bytes a head may have
abbrev pub head_limit : ℕ
head_limit = HEAD_LIMIT

-- how many fields a head may have
abbrev pub field_limit : ℕ
field_limit = FIELD_LIMIT

-- how many bytes a body may have
abbrev pub body_limit : ℕ
body_limit = BODY_LIMIT

-- how many bytes of a stream are read
abbrev pub text_limit : ℕ
text_limit = head_limit + body_limit
