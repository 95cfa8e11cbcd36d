-- Bytes say one thing.
use Rattle.std.proofs.Common.{◌≡◌, ◌∙◌, List, sym, ap, subst}
use Rattle.toll_wire.proofs.Common.{Bytes, ParseResult, refused, request, IsSaidBy, Saying, Says, saying_of}
use Rattle.toll_protocol.proofs.Arrivals.{arrives_once}
use Rattle.toll_wire.proofs.Once.{asking_once}
use Rattle.toll_wire.specs.Sayings.{AreOfOneOf, IsByOneOf}

said_once : (outcome : ParseResult) (a b : Saying) → IsSaidBy outcome a → IsSaidBy outcome b → a ≡ b
said_once (refused failure) a b e f = e ∙ sym f
said_once (request verb target owner key body) a b (p, one, e) (q, two, f) = e ∙ (ap (saying_of owner key) (asking_once verb target body p q one two) ∙ sym f)

pub says_once : (bytes : Bytes) (a b : Saying) → Says bytes a → Says bytes b → a ≡ b
says_once bytes a b (p, one, said) (q, two, other) = said_once q a b (subst (λ outcome. IsSaidBy outcome a) (arrives_once bytes p q one two) said) other

-- What the bytes say is by one of these owners if one thing that they say is.
pub are_of_one_of : (os : List Bytes) (bytes : Bytes) (s : Saying) → Says bytes s → IsByOneOf os s → AreOfOneOf os bytes
are_of_one_of os bytes s says mine other said = subst (IsByOneOf os) (says_once bytes s other says said) mine
