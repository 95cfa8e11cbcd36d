-- The texts of replies (RFC 9112, section 6; RFC 9110, section 15).
use Rattle.std.specs.Prelude.{ℕ, [], ◌∷◌, ◌++◌, Option, Some, None, codes, decimal, length}
use Rattle.http.specs.StatusCode.{status_text}
use Rattle.toll_base.specs.Bytes.{Bytes}
use Rattle.toll_protocol.specs.Verbs.{verb_name}
use Rattle.toll_protocol.specs.declared.http_messages.verb.Verb.{Verb}

-- the line for a body's type, if there is a body
abbrev pub content_type : Bytes → Bytes
content_type [] = []
content_type (b ∷ body) = codes "content-type: application/json\r\n"

-- the line for the allowed method, if a method isn't allowed
abbrev pub allow_line : Option Verb → Bytes
allow_line None = []
allow_line (Some verb) = codes "allow: " ++ (verb_name verb ++ codes "\r\n")

-- a whole reply: a status, the allowed method, and a body
unfoldable pub reply_text : ℕ → Option Verb → Bytes → Bytes
reply_text status allowed body =
    codes "HTTP/1.1 " ++ (status_text status ++ (codes "\r\n" ++ (content_type body ++ (codes "content-length: " ++ (decimal (length body)
    ++ (codes "\r\n" ++ (allow_line allowed ++ (codes "connection: close\r\n\r\n" ++ body))))))))
