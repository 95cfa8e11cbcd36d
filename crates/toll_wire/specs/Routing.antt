-- What a target, a method and a body ask for.
use Rattle.std.specs.Prelude.{◌≡◌, Option, Some, None, Result, Ok, Err, IsSome, option_map}
use Rattle.toll_wire.specs.Common.{Bytes, Request, Verb}
use Rattle.toll_base.specs.declared.request.Request.TheVariants as request
use Rattle.toll_base.specs.declared.rows.Placing.{Placing}
use Rattle.toll_protocol.specs.declared.http_messages.verb.Verb.TheVariants.{Get, Post}
use Rattle.toll_protocol.specs.declared.http_messages.failure.Failure.{Failure}
use Rattle.toll_protocol.specs.declared.http_messages.failure.Failure.TheVariants.{BadRequest, NoRoute, MethodNotAllowed}
use Rattle.toll_wire.specs.Bodies.{IsBodyOf}
use Rattle.toll_wire.specs.Routes.{routes, request_from}
use Rattle.toll_wire.specs.Places.{PathLeadsTo, path_of}
use Rattle.toll_wire.specs.declared.routes.route.Endpoint.{Endpoint}
use Rattle.toll_wire.specs.declared.routes.route.RequestKind.{RequestKind}
use Rattle.toll_wire.specs.declared.routes.route.RequestKind.TheVariants as ask
use Rattle.toll_wire.specs.declared.routes.values.Values.{Values}

-- ---- what is asked for at a route

-- the request for the order that a body asks for, or the check that a body without one fails
abbrev pub placing_request : Option Placing → Result Request Failure
placing_request None = Err BadRequest
placing_request (Some placing) = Ok (request.Place placing)

-- the body asks for this, if an order is to be placed
abbrev pub IsPlacing : Bytes → Result Request Failure → Type 0
IsPlacing body asks = (order : Option Placing) × IsBodyOf body order × (asks ≡ placing_request order)

-- this is asked for with these values and this body
abbrev pub MakesRequest : RequestKind → Values → Bytes → Result Request Failure → Type 0
MakesRequest ask.Place values body asks = IsPlacing body asks
MakesRequest kind values body asks = Some asks ≡ option_map (λ r. Ok r) (request_from kind values)

-- the values make a request of this kind, if it has its values in the path
abbrev pub ValuesFit : RequestKind → Values → Type 0
ValuesFit ask.Place values = Unit {0}
ValuesFit kind values = IsSome (request_from kind values)

-- ---- the method

-- what a method asks for at an endpoint
abbrev pub kind_for : Verb → Endpoint → Option RequestKind
kind_for Get endpoint = endpoint.get
kind_for Post endpoint = endpoint.post

-- the other method
abbrev pub other_of : Verb → Verb
other_of Get = Post
other_of Post = Get

-- this is asked for with the method, if it asks for this kind, or for none
abbrev pub IsRequestOf : Verb → Option RequestKind → Values → Bytes → Result Request Failure → Type 0
IsRequestOf verb None values body asks = asks ≡ Err (MethodNotAllowed (other_of verb))
IsRequestOf verb (Some kind) values body asks = MakesRequest kind values body asks

-- ---- the whole

-- this is asked for at an endpoint with these values, or if there is no route
abbrev pub IsRequestAt : Verb → Option (Endpoint × Values) → Bytes → Result Request Failure → Type 0
IsRequestAt verb None body asks = asks ≡ Err NoRoute
IsRequestAt verb (Some place) body asks = IsRequestOf verb (kind_for verb place.0) place.1 body asks

-- what is asked for with this verb, target and body, once the key is right: a request, or a check that they fail
pub record IsAsking (verb : Verb) (target body : Bytes) (asks : Result Request Failure) : Type 0 where
  pub place : Option (Endpoint × Values)
  pub leads : PathLeadsTo routes (path_of target) place
  pub requested : IsRequestAt verb place body asks
