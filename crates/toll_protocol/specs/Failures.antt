-- The reply to a request that a check refuses.
use Rattle.std.specs.Prelude.{ℕ, Option, Some, None, codes}
use Rattle.toll_base.specs.Bytes.{Bytes}
use Rattle.toll_protocol.specs.declared.http_messages.verb.Verb.{Verb}
use Rattle.toll_protocol.specs.declared.http_messages.failure.Failure.{Failure}
use Rattle.toll_protocol.specs.declared.http_messages.failure.Failure.TheVariants.{BadRequest, Forbidden, NoRoute, MethodNotAllowed, TooLarge, NotImplemented}

-- the status code of the failure
abbrev pub status_of_failure : Failure → ℕ
status_of_failure BadRequest = 400
status_of_failure Forbidden = 403
status_of_failure NoRoute = 404
status_of_failure (MethodNotAllowed allowed) = 405
status_of_failure TooLarge = 413
status_of_failure NotImplemented = 501

-- the word in the body, if there is a body
abbrev pub word_of_failure : Failure → Option Bytes
word_of_failure BadRequest = Some (codes "BadRequest")
word_of_failure Forbidden = Some (codes "Forbidden")
word_of_failure NoRoute = Some (codes "NoRoute")
word_of_failure (MethodNotAllowed allowed) = Some (codes "MethodNotAllowed")
word_of_failure TooLarge = Some (codes "TooLarge")
word_of_failure NotImplemented = None

-- the allowed method, if the request's method isn't allowed
abbrev pub allowed_after : Failure → Option Verb
allowed_after BadRequest = None
allowed_after Forbidden = None
allowed_after NoRoute = None
allowed_after (MethodNotAllowed allowed) = Some allowed
allowed_after TooLarge = None
allowed_after NotImplemented = None
