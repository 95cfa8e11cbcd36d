-- The order that a body asks for has names and a count of batches within their bounds.
use Rattle.std.proofs.Common.{◌≡◌, ℕ, ◌&&◌, Bool, true, false, Option, Some, None, refl, subst, nat_le, codes, if◌then◌else◌, IsTrue}
use Rattle.toll_wire.proofs.Common.{Bytes, IsBatchNo, is_name}
use Rattle.std.specs.Option.{option_map, option_and_then}
use Rattle.std.proofs.lemmas.Bool.{leb-true}
use Rattle.serde_json.specs.Data.{Data}
use Rattle.serde_json.specs.Find.{get, as_str, as_number, as_u64}
use Rattle.toll_base.specs.declared.bounded.TheConstants.{MOST_BATCHES}
use Rattle.toll_base.specs.Rows.{placing_of}
use Rattle.toll_base.specs.declared.rows.Placing.{Placing}
use Rattle.toll_wire.specs.Bodies.{batches_at, name_member, IsOrderBody}

abbrev IsWithin : Placing → Type 0
IsWithin placing = IsTrue (is_name placing.order) × IsTrue (is_name placing.recipe) × IsBatchNo placing.batches

name_within : (text : Option Bytes) (name : Bytes) → option_and_then (λ text. if is_name text then Some text else None) text ≡ Some name → IsTrue (is_name name)
name_within None name e = cc e
name_within (Some text) name e = on (is_name text) refl e
  where
    on : (named : Bool) → is_name text ≡ named → (if named then Some text else None) ≡ Some name → IsTrue (is_name name)
    on true is e = let same : text ≡ name = cc e in subst (λ t. IsTrue (is_name t)) same is
    on false is e = absurd (cc e)

member_within : (member : Bytes) (d : Data) (name : Bytes) → name_member member d ≡ Some name → IsTrue (is_name name)
member_within member d name e = name_within (option_and_then as_str (get member d)) name e

count_within : (n m : ℕ) (low high : Bool) → nat_le 1 n ≡ low → nat_le n MOST_BATCHES ≡ high → (if low && high then Some n else None) ≡ Some m → IsBatchNo m
count_within n m true true above below e =
    let same : n ≡ m = cc in
    subst IsBatchNo same (leb-true 1 n above, leb-true n MOST_BATCHES below)
count_within n m true false above below e = cc e
count_within n m false high above below e = cc e

batches_within : (batches : Option ℕ) (n : ℕ) → option_and_then (λ n. if nat_le 1 n && nat_le n MOST_BATCHES then Some n else None) batches ≡ Some n → IsBatchNo n
batches_within None n e = cc e
batches_within (Some m) n e = count_within m n (nat_le 1 m) (nat_le m MOST_BATCHES) refl refl e

order_within : (order recipe : Option Bytes) (batches : Option ℕ) (requested : Placing) → ((name : Bytes) → order ≡ Some name → IsTrue (is_name name)) → ((name : Bytes) → recipe ≡ Some name → IsTrue (is_name name)) → ((n : ℕ) → batches ≡ Some n → IsBatchNo n)
    → option_and_then (λ order. option_and_then (λ recipe. option_map (placing_of order recipe) batches) recipe) order ≡ Some requested → IsWithin requested
order_within None recipe batches requested named by counted e = cc e
order_within (Some order) None batches requested named by counted e = cc e
order_within (Some order) (Some recipe) None requested named by counted e = cc e
order_within (Some order) (Some recipe) (Some n) requested named by counted e =
    let is : placing_of order recipe n ≡ requested = cc in subst IsWithin is (named order refl, by recipe refl, counted n refl)

pub order_body_within : (body : Bytes) (placing : Placing) → IsOrderBody body placing → IsWithin placing
order_body_within body placing asks =
    order_within (name_member (codes "order") asks.value) (name_member (codes "recipe") asks.value) (batches_at asks.value) placing (member_within (codes "order") asks.value) (member_within (codes "recipe") asks.value)
    (batches_within (option_and_then as_u64 (option_and_then as_number (get (codes "batches") asks.value)))) asks.asks
