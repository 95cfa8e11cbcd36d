-- What the bytes of requests say is within its bounds.
use Rattle.std.proofs.Common.{Option, Some, None, Result, Ok, Err, sym, subst}
use Rattle.toll_base.specs.declared.request.Request.TheVariants.{Place}
use Rattle.toll_desk.proofs.OwnerPlans.{lawful_after_reply}
use Rattle.toll_wire.proofs.AddressLemmas.{each_has_address}
use Rattle.toll_wire.proofs.Common.{Bytes, Failure, History, IsLawful, IsValidOwnerRequest, ParseResult, Request, Verb, refused, request, IsAskable, IsAsking, Saying, By, Nobody, Asks, Fails, after_saying, saying_of, IsSaidBy, Says}

abbrev pub IsValidSaying : Saying → Type 0
IsValidSaying (By o key (Asks q)) = IsValidOwnerRequest q
IsValidSaying _ = Unit {0}

valid_if_askable : (requested : Request) → IsAskable requested → IsValidOwnerRequest requested
valid_if_askable (Place placing) askable = askable.2
valid_if_askable _ askable = tt

asking_valid : (verb : Verb) (target : Bytes) (owner key : Option Bytes) (body : Bytes) (asks : Result Request Failure) → IsAsking verb target body asks → IsValidSaying (saying_of owner key asks)
asking_valid verb target None key body asks is = tt
asking_valid verb target (Some owner) key body (Err failure) is = tt
asking_valid verb target (Some owner) key body (Ok requested) is = valid_if_askable requested (each_has_address verb target body requested is).askable

said_valid : (outcome : ParseResult) (saying : Saying) → IsSaidBy outcome saying → IsValidSaying saying
said_valid (refused failure) saying is = subst IsValidSaying (sym is) tt
said_valid (request verb target owner key body) saying is = subst IsValidSaying (sym is.2) (asking_valid verb target owner key body is.0 is.1)

pub says_valid : (bytes : Bytes) (saying : Saying) → Says bytes saying → IsValidSaying saying
says_valid bytes saying says = said_valid says.0 saying says.2

-- so what is said of a lawful history leads to one
pub lawful_after_saying : (H : History) (s : Saying) → IsValidSaying s → IsLawful H → IsLawful (after_saying H s)
lawful_after_saying H (By o (Some key) (Asks q)) valid lawful = lawful_after_reply o key H q lawful valid
lawful_after_saying H (By o (Some key) (Fails text)) valid lawful = lawful
lawful_after_saying H (By o None asking) valid lawful = lawful
lawful_after_saying H (Nobody text) valid lawful = lawful
