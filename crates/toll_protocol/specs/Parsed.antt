-- The result of parsing a request.
use Rattle.std.specs.Prelude.{Result, Ok, Err, option_map}
use Rattle.toll_protocol.specs.Parsing.{ParseResult, refused, request}
use Rattle.toll_protocol.specs.declared.http_messages.http_request.HttpRequest.{HttpRequest}
use Rattle.toll_protocol.specs.declared.http_messages.failure.Failure.{Failure}

abbrev pub parse_outcome : Result HttpRequest Failure → ParseResult
parse_outcome (Err failure) = refused failure
parse_outcome (Ok r) = request r.verb r.target.now (option_map (λ v. v.now) r.owner) (option_map (λ v. v.now) r.key) r.body.now
