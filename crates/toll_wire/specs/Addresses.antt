-- Laws of requests: what asks for each.
use Rattle.std.specs.Prelude.{◌≡◌, [], ◌∷◌, ◌++◌, Result, Ok}
use Rattle.toll_wire.specs.Common.{Bytes, Request, Verb}
use Rattle.toll_base.specs.declared.request.Request.TheVariants.{Place}
use Rattle.toll_protocol.specs.declared.http_messages.failure.Failure.{Failure}
use Rattle.toll_wire.specs.Bodies.{IsOrderBody}
use Rattle.toll_wire.specs.Routes.{IsAskable, address_of}
use Rattle.toll_wire.specs.Routing.{IsAsking}

-- a method, a target and a body ask for one thing
abbrev pub AskForOneThing : Type 0
AskForOneThing = (verb : Verb) (target body : Bytes) (a b : Result Request Failure) → IsAsking verb target body a → IsAsking verb target body b → a ≡ b

-- nothing, or a question mark with anything behind it
abbrev pub IsQuery : Bytes → Type 0
IsQuery [] = Unit {0}
IsQuery (b ∷ rest) = b ≡ 63

-- the body asks for the order that is to be placed; any body does for other requests
abbrev pub IsBodyFor : Request → Bytes → Type 0
IsBodyFor (Place placing) body = IsOrderBody body placing
IsBodyFor _ body = Unit {0}

-- each request is asked for at its address, whatever query stands behind the path
abbrev pub HaveRoutes : Type 0
HaveRoutes =
    (requested : Request) (query body : Bytes) → IsAskable requested → IsQuery query → IsBodyFor requested body
    → IsAsking (address_of requested).0 ((address_of requested).1 ++ query) body (Ok requested)

-- the method, the target and the body are the request's: its address with any query, and a body that asks for it
pub record HasAddress (verb : Verb) (target body : Bytes) (requested : Request) : Type 0 where
  pub query : Bytes
  pub queried : IsQuery query
  pub verb_is : verb ≡ (address_of requested).0
  pub target_is : target ≡ (address_of requested).1 ++ query
  pub askable : IsAskable requested
  pub body_is : IsBodyFor requested body

-- a request is asked for nowhere but at its address
abbrev pub HaveAddresses : Type 0
HaveAddresses = (verb : Verb) (target body : Bytes) (requested : Request) → IsAsking verb target body (Ok requested) → HasAddress verb target body requested
