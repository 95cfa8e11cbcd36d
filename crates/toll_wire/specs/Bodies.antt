-- What the body of a request for an order asks for (RFC 8259).
use Rattle.std.specs.Prelude.{◌≡◌, ℕ, ◌&&◌, nat_le, Option, Some, None, if◌then◌else◌, option_map, option_and_then, codes, IsUtf8}
use Rattle.toll_wire.specs.Common.{Data, Bytes, is_name}
use Rattle.serde_json.specs.Read.{read}
use Rattle.serde_json.specs.Find.{get, as_str, as_number, as_u64}
use Rattle.toll_base.specs.Rows.{placing_of}
use Rattle.toll_base.specs.declared.bounded.TheConstants.{MOST_BATCHES}
use Rattle.toll_base.specs.declared.rows.Placing.{Placing}

-- the last member of this name is a text, which is a name
abbrev pub name_member : Bytes → Data → Option Bytes
name_member member d = option_and_then (λ text. if is_name text then Some text else None) (option_and_then as_str (get member d))

-- the last member `batches` is a number written without fraction or exponent, from 1 to as many as an order may have
abbrev pub batches_at : Data → Option ℕ
batches_at d =
    option_and_then (λ n. if nat_le 1 n && nat_le n MOST_BATCHES then Some n else None)
    (option_and_then as_u64 (option_and_then as_number (get (codes "batches") d)))

-- the order that a JSON value asks for
abbrev pub order_in : Data → Option Placing
order_in d =
    option_and_then (λ order. option_and_then (λ recipe. option_map (placing_of order recipe)
    (batches_at d)) (name_member (codes "recipe") d)) (name_member (codes "order") d)

-- the body is a JSON text that asks for this order
pub record IsOrderBody (body : Bytes) (order : Placing) : Type 0 where
  pub text : IsUtf8 body
  pub value : Data
  pub reads : read body ≡ Some value
  pub asks : order_in value ≡ Some order

-- the body asks for this order, or for none
abbrev pub IsBodyOf : Bytes → Option Placing → Type 0
IsBodyOf body (Some order) = IsOrderBody body order
IsBodyOf body None = (order : Placing) → IsOrderBody body order → ⊥
