-- A content that stands for a history knows the owners that the history knows.
use Rattle.std.proofs.Common.{◌≡◌, ◌||◌, Option, Some, None, is_some, List, [], ◌∷◌, refl, ap, ◌∙◌}
use Rattle.toll_desk.proofs.Common.{list_any, Bytes, same_bytes, house_name, or_else, Action, AddOwner, History, acts, key_added, adds_owner, owner_key, owner_known, some_mapped, Content, knows}
use Rattle.toll_desk.specs.Representing.{Represents}

some_else : {X : Type 0} (first second : Option X) → is_some (or_else first second) ≡ (is_some first || is_some second)
some_else None second = refl
some_else (Some x) second = refl

key_where_added : (a : Action) → is_some (key_added a) ≡ adds_owner a
key_where_added (AddOwner key) = refl
key_where_added _ = refl

keys_where_added : (own : List Action) → is_some (owner_key own) ≡ list_any adds_owner own
keys_where_added [] = refl
keys_where_added (a ∷ own) = some_else (key_added a) (owner_key own) ∙ ap (λ b. b || is_some (owner_key own)) (key_where_added a) ∙ ap (λ b. adds_owner a || b) (keys_where_added own)

pub represented_knows : (H : History) (c : Content) → Represents c H → (o : Bytes) → knows c o ≡ owner_known H o
represented_knows H c stands o =
    ap (λ b. same_bytes o house_name || b) (ap is_some (stands.owners.each o) ∙ some_mapped _ (owner_key (acts o H)) ∙ keys_where_added (acts o H))
