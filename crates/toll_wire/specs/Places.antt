-- What a target leads to.
use Rattle.std.specs.Prelude.{◌≡◌, ◌⊎◌, ℕ, ◌==◌, IsTrue, List, [], ◌∷◌, decimal, Option, Some, None}
use Rattle.toll_wire.specs.Common.{before_first, Bytes, IsBatchNo, is_name}
use Rattle.toll_wire.specs.Routes.{Route, spelled}
use Rattle.toll_wire.specs.declared.routes.route.Endpoint.{Endpoint}
use Rattle.toll_wire.specs.declared.routes.parts.Parts.{Parts}
use Rattle.toll_wire.specs.declared.routes.parts.Parts.TheVariants as part
use Rattle.toll_wire.specs.declared.routes.values.Values.{Values}
use Rattle.toll_wire.specs.declared.routes.values.Values.TheVariants as value

-- the target up to its first question mark
abbrev pub path_of : Bytes → Bytes
path_of target = before_first (λ b. b == 63) target

-- the parts that these values fill
abbrev pub parts_of : Values → Parts
parts_of value.Nothing = part.Nothing
parts_of (value.Name name) = part.Name
parts_of (value.NameAndNumber order number) = part.NameAndNumber

-- names are names, and a number is that of a batch
abbrev pub AreValues : Values → Type 0
AreValues value.Nothing = Unit {0}
AreValues (value.Name name) = IsTrue (is_name name)
AreValues (value.NameAndNumber order number) = IsTrue (is_name order) × IsBatchNo number

-- the path is that of the route with these values
pub record IsPath (route : Route) (values : Values) (path : Bytes) : Type 0 where
  pub parts : parts_of values ≡ route.endpoint.parts
  pub valid : AreValues values
  pub text : path ≡ spelled route values

-- the path leads to the endpoint of the first of these routes that it is a path of, and to its values there; or to nothing
abbrev pub PathLeadsTo : List Route → Bytes → Option (Endpoint × Values) → Type 0
PathLeadsTo [] path found = found ≡ None
PathLeadsTo (route ∷ routes) path found =
    ((values : Values) × IsPath route values path × (found ≡ Some (route.endpoint, values)))
    ⊎ (((values : Values) → IsPath route values path → ⊥) × PathLeadsTo routes path found)

-- ---- the parts of a path

-- how many parts there are
abbrev pub count_parts : Parts → ℕ
count_parts part.Nothing = 0
count_parts part.Name = 1
count_parts part.NameAndNumber = 2

-- values as they stand in the parts
abbrev pub texts_of : Values → List Bytes
texts_of value.Nothing = []
texts_of (value.Name name) = name ∷ []
texts_of (value.NameAndNumber order number) = order ∷ decimal number ∷ []

-- the texts write these values in these parts
pub record AreTextsOf (parts : Parts) (values : Values) (texts : List Bytes) : Type 0 where
  pub fill : parts_of values ≡ parts
  pub valid : AreValues values
  pub texts_are : texts ≡ texts_of values

-- the texts write these values in the parts, or none
abbrev pub AreValuesReadFrom : Parts → List Bytes → Option Values → Type 0
AreValuesReadFrom parts texts (Some values) = AreTextsOf parts values texts
AreValuesReadFrom parts texts None = (values : Values) → AreTextsOf parts values texts → ⊥

-- the text is the decimal text of this number of a batch, or of none
abbrev pub IsNumberRead : Bytes → Option ℕ → Type 0
IsNumberRead text (Some number) = IsBatchNo number × (text ≡ decimal number)
IsNumberRead text None = (number : ℕ) → IsBatchNo number → text ≡ decimal number → ⊥
