-- The lines of owners' requests, and the bytes of these requests.
use Rattle.std.specs.Prelude.{◌||◌, List, [], ◌∷◌, ◌++◌, length, codes, decimal, Option, Some, None, if◌then◌else◌}
use Rattle.toll_programs.specs.Common.{join_with_byte, bytes_eq, Bytes}
use Rattle.toll_programs.specs.Pieces.{is_empty}

-- the parts of a request's line: `OWNER KEY METHOD TARGET`, and the body
pub record RequestLineParts : Type 0 where
  pub owner : Bytes
  pub key : Bytes
  pub method : Bytes
  pub target : Bytes
  pub body : Bytes

-- the request of a line that was split at its spaces: four words that aren't empty, and the rest with its spaces
abbrev pub request_of : List Bytes → Option RequestLineParts
request_of (owner ∷ key ∷ method ∷ target ∷ body) =
    if is_empty owner || (is_empty key || (is_empty method || is_empty target)) then None
    else Some (record { owner = owner; key = key; method = method; target = target; body = join_with_byte 32 body })
request_of _ = None

-- a header field; the value `-` leaves it out
abbrev pub field : Bytes → Bytes → Bytes
field name value = if bytes_eq value (codes "-") then [] else name ++ (value ++ codes "\r\n")

-- the bytes of a request
abbrev pub request_text : RequestLineParts → Bytes
request_text r =
    r.method ++ (codes " " ++ (r.target ++ (codes " HTTP/1.1\r\nhost: 127.0.0.1\r\n"
    ++ (field (codes "toll-owner: ") r.owner ++ (field (codes "toll-key: ") r.key
    ++ (codes "content-length: " ++ (decimal (length r.body) ++ (codes "\r\n\r\n" ++ r.body))))))))
