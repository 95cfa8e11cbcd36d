-- Every route of the office, the request that is asked for there, and the address of each request.
use Rattle.std.specs.Prelude.{List, [], ◌∷◌, ◌++◌, codes, decimal, IsTrue, Option, Some, None}
use Rattle.toll_wire.specs.Common.{Bytes, IsBatchNo, is_name, Request, Verb}
use Rattle.toll_base.specs.declared.request.Request.TheVariants as request
use Rattle.toll_protocol.specs.declared.http_messages.verb.Verb.TheVariants.{Get, Post}
use Rattle.toll_wire.specs.declared.routes.route.Endpoint.{Endpoint}
use Rattle.toll_wire.specs.declared.routes.route.RequestKind.{RequestKind}
use Rattle.toll_wire.specs.declared.routes.route.RequestKind.TheVariants as ask
use Rattle.toll_wire.specs.declared.routes.parts.Parts.{Parts}
use Rattle.toll_wire.specs.declared.routes.parts.Parts.TheVariants as part
use Rattle.toll_wire.specs.declared.routes.values.Values.{Values}
use Rattle.toll_wire.specs.declared.routes.values.Values.TheVariants as value

-- ---- the routes

-- a route: the bytes before the values of its paths, those after them, and what is served there
pub record Route : Type 0 where
  pub front : Bytes
  pub back : Bytes
  pub endpoint : Endpoint

-- the route with these bytes before and after these parts, where each method asks for this
abbrev route : Bytes → Parts → Bytes → Option RequestKind → Option RequestKind → Route
route front parts back get post = record { front = front; back = back; endpoint = record { parts = parts; get = get; post = post } }

abbrev pub routes : List Route
routes =
    route (codes "/orders") part.Nothing [] (Some ask.Orders) (Some ask.Place)
    ∷ route (codes "/orders/") part.Name [] (Some ask.Order) None
    ∷ route (codes "/orders/") part.Name (codes "/cancel") None (Some ask.Cancel)
    ∷ route (codes "/batches/") part.NameAndNumber [] (Some ask.Batch) None
    ∷ route (codes "/stock") part.Nothing [] (Some ask.Stock) None
    ∷ route (codes "/lots/") part.Name [] (Some ask.Lot) None
    ∷ route (codes "/lots/") part.Name (codes "/release") None (Some ask.Release)
    ∷ route (codes "/lots/") part.Name (codes "/reject") None (Some ask.Reject)
    ∷ route (codes "/trace/back/") part.Name [] (Some ask.Back) None
    ∷ route (codes "/trace/forward/") part.Name [] (Some ask.Forward) None
    ∷ route (codes "/trace/house/") part.Name [] (Some ask.HouseForward) None
    ∷ []

-- ---- requests

-- the request of this kind with these values, if they are its values; the body has those of an order
abbrev pub request_from : RequestKind → Values → Option Request
request_from ask.Orders value.Nothing = Some request.Orders
request_from ask.Order (value.Name order) = Some (request.Order order)
request_from ask.Cancel (value.Name order) = Some (request.Cancel order)
request_from ask.Batch (value.NameAndNumber order number) = Some (request.Batch order number)
request_from ask.Stock value.Nothing = Some request.Stock
request_from ask.Lot (value.Name lot) = Some (request.Lot lot)
request_from ask.Release (value.Name lot) = Some (request.Release lot)
request_from ask.Reject (value.Name lot) = Some (request.Reject lot)
request_from ask.Back (value.Name lot) = Some (request.Back lot)
request_from ask.Forward (value.Name lot) = Some (request.Forward lot)
request_from ask.HouseForward (value.Name lot) = Some (request.HouseForward lot)
request_from _ _ = None

-- the method and the path of each request
abbrev pub address_of : Request → Verb × Bytes
address_of request.Orders = (Get, codes "/orders")
address_of (request.Order order) = (Get, codes "/orders/" ++ order)
address_of (request.Place placing) = (Post, codes "/orders")
address_of (request.Cancel order) = (Post, codes "/orders/" ++ (order ++ codes "/cancel"))
address_of (request.Batch order number) = (Get, codes "/batches/" ++ (order ++ (codes "/" ++ decimal number)))
address_of request.Stock = (Get, codes "/stock")
address_of (request.Lot lot) = (Get, codes "/lots/" ++ lot)
address_of (request.Release lot) = (Post, codes "/lots/" ++ (lot ++ codes "/release"))
address_of (request.Reject lot) = (Post, codes "/lots/" ++ (lot ++ codes "/reject"))
address_of (request.Back lot) = (Get, codes "/trace/back/" ++ lot)
address_of (request.Forward lot) = (Get, codes "/trace/forward/" ++ lot)
address_of (request.HouseForward lot) = (Get, codes "/trace/house/" ++ lot)

-- the names of the request are names, and its numbers are those of batches
abbrev pub IsAskable : Request → Type 0
IsAskable (request.Order order) = IsTrue (is_name order)
IsAskable (request.Place placing) = IsTrue (is_name placing.order) × IsTrue (is_name placing.recipe) × IsBatchNo placing.batches
IsAskable (request.Cancel order) = IsTrue (is_name order)
IsAskable (request.Batch order number) = IsTrue (is_name order) × IsBatchNo number
IsAskable (request.Lot lot) = IsTrue (is_name lot)
IsAskable (request.Release lot) = IsTrue (is_name lot)
IsAskable (request.Reject lot) = IsTrue (is_name lot)
IsAskable (request.Back lot) = IsTrue (is_name lot)
IsAskable (request.Forward lot) = IsTrue (is_name lot)
IsAskable (request.HouseForward lot) = IsTrue (is_name lot)
IsAskable _ = Unit {0}

-- ---- paths

-- values as they stand in a path
abbrev pub path_text_of : Values → Bytes
path_text_of value.Nothing = []
path_text_of (value.Name name) = name
path_text_of (value.NameAndNumber order number) = order ++ (codes "/" ++ decimal number)

-- the path of a route with these values
abbrev pub spelled : Route → Values → Bytes
spelled r values = r.front ++ (path_text_of values ++ r.back)
