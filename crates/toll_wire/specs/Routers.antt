-- The router of the office.
use Rattle.std.specs.Prelude.{◌≡◌, ◌⊎◌, ℕ, List, [], ◌∷◌, ◌++◌, length}
use Rattle.matchit.specs.Router.{RouteOf}
use Rattle.matchit.specs.Rows.{RowsOf}
use Rattle.toll_wire.specs.Places.{count_parts}
use Rattle.toll_wire.specs.Routes.{Route, routes}
use Rattle.toll_wire.specs.declared.routes.parts.Parts.{Parts}
use Rattle.toll_wire.specs.declared.routes.parts.Parts.TheVariants as part
use Rattle.toll_wire.specs.declared.routes.route.Endpoint.{Endpoint}

-- x is one of these
abbrev pub In : {A : Type 0} → List A → A → Type 0
In [] x = ⊥
In (y ∷ ys) x = (y ≡ x) ⊎ In ys x

-- the parts of a route's pattern, where 256 stands for a part
abbrev pub holes : Parts → List ℕ
holes part.Nothing = []
holes part.Name = 256 ∷ []
holes part.NameAndNumber = 256 ∷ 47 ∷ 256 ∷ []

abbrev pub tokens : Route → List ℕ
tokens r = r.front ++ (holes r.endpoint.parts ++ r.back)

-- the row is one of the route
pub record IsRowOfRoute (r : Route) (row : List ℕ × RouteOf Endpoint) : Type 0 where
  pub tokens_are : row.0 ≡ tokens r
  pub pattern_is : row.1.pattern ≡ tokens r
  pub names_are : length row.1.names ≡ count_parts r.endpoint.parts
  pub value_is : row.1.value ≡ r.endpoint

-- the rows of a router of endpoints
abbrev pub OfficeRows : Type 0
OfficeRows = RowsOf (RouteOf Endpoint)

-- each row is one of a route, and each route has a row
pub record IsOffice (router : OfficeRows) : Type 0 where
  pub from : (row : List ℕ × RouteOf Endpoint) → In router row → (r : Route) × In routes r × IsRowOfRoute r row
  pub to : (r : Route) → In routes r → (e : RouteOf Endpoint) × In router (tokens r, e)
