-- The meaning of the code's request lines.
use Rattle.toll_programs.specs.Requests.{RequestLineParts}
use Rattle.toll_programs.specs.declared.request_line.RequestLine.{RequestLine}

-- a request line of the code, as its parts
abbrev pub shown_request : RequestLine → RequestLineParts
shown_request r = record { owner = r.owner.now; key = r.key.now; method = r.method.now; target = r.target.now; body = r.body.now }
