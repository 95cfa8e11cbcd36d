-- A lawful history has no command of an owner that it does not know, and gives it no rows.
use Rattle.std.proofs.Common.{◌≡◌, Bool, true, false, not, ◌&&◌, ◌||◌, [], ◌∷◌, refl, sym, ap, ◌∙◌}
use Rattle.toll_desk.proofs.Common.{false≢true, list_any, Bytes, same_bytes, house_name, Action, AddOwner, Command, History, part, acts, adds_owner, owner_known, Accepted, checks, needs_owner, verdict, IsLawful, any_acts, acts-part, part-other, same_bytes-exact}
use Rattle.toll_history.proofs.Accepted.{none_applies}

-- the owner of an accepted command is known, or added by it
owner_of_accepted : (H : History) (c : Command) → verdict H c ≡ Accepted → (needs_owner c.action && not (owner_known H c.owner)) ≡ false
unfolding checks
owner_of_accepted H c accepted = none_applies (checks H c) accepted 0

needed : (a : Action) (known : Bool) → adds_owner a ≡ false → known ≡ false → (needs_owner a && not known) ≡ false → ⊥
needed (AddOwner key) known adds unknown passes = false≢true (sym adds)
needed a true adds unknown passes = false≢true (sym unknown)
needed a false adds unknown passes = false≢true (sym passes)

-- where not one or the other is so, neither is
pub or_false_parts : (b c : Bool) → (b || c) ≡ false → (b ≡ false) × (c ≡ false)
or_false_parts true c h = absurd (false≢true (sym h))
or_false_parts false c h = (refl, h)

pub nothing_of_unknown : (o : Bytes) (H : History) → IsLawful H → owner_known H o ≡ false → part o H ≡ []
unfolding part
nothing_of_unknown o [] lawful unknown = refl
nothing_of_unknown o (c ∷ H) lawful unknown =
    let house = or_false_parts (same_bytes o house_name) (list_any adds_owner (acts o (c ∷ H))) unknown in
    let added = or_false_parts (same_bytes c.owner o && adds_owner c.action) (list_any adds_owner (acts o H)) (sym (any_acts adds_owner o c H) ∙ house.1) in
    let before : owner_known H o ≡ false = ap (λ b. b || list_any adds_owner (acts o H)) house.0 ∙ added.1 in
    elim (same_bytes c.owner o) as (λ b. same_bytes c.owner o ≡ b → part o (c ∷ H) ≡ []) [
      | true ↦ λ own. absurd (needed c.action (owner_known H c.owner) (sym (ap (λ b. b && adds_owner c.action) own) ∙ added.0) (ap (owner_known H) (same_bytes-exact c.owner o own) ∙ before) (owner_of_accepted H c lawful.2))
      | false ↦ λ other. part-other o c H other ∙ nothing_of_unknown o H lawful.0 before
    ] refl

pub acts_of_unknown : (o : Bytes) (H : History) → IsLawful H → owner_known H o ≡ false → acts o H ≡ []
unfolding acts
acts_of_unknown o H lawful unknown = sym (acts-part o H) ∙ ap (acts o) (nothing_of_unknown o H lawful unknown)
