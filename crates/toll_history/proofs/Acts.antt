-- What one command more does to an owner's part of a history.
use Rattle.std.proofs.Common.{◌≡◌, ◌+◌, Bool, true, false, ◌&&◌, ◌||◌, cond, Option, None, List, [], ◌∷◌, map, refl, sym, ap, subst, ◌∙◌, arith}
use Rattle.toll_history.proofs.Common.{list_any, Bytes, same_bytes, first_some, or_else, count, same_bytes-exact, Action, Command, by, History, acts, Accepted, verdict, IsValidAction, IsLawful}

map-cond : {X Y : Type 0} (f : X → Y) (b : Bool) (x : X) (xs : List X) → map f (cond b (x ∷ xs) xs) ≡ cond b (f x ∷ map f xs) (map f xs)
map-cond f true x xs = refl
map-cond f false x xs = refl

pub acts-cons : (o : Bytes) (c : Command) (H : History) → acts o (c ∷ H) ≡ cond (same_bytes c.owner o) (c.action ∷ acts o H) (acts o H)
unfolding acts
acts-cons o c H = map-cond (λ c. c.action) (same_bytes c.owner o) c _

first_cond : {Y : Type 0} (f : Action → Option Y) (b : Bool) (a : Action) (own : List Action) → first_some f (cond b (a ∷ own) own) ≡ or_else (cond b (f a) None) (first_some f own)
first_cond f true a own = refl
first_cond f false a own = refl

pub first_acts : {Y : Type 0} (f : Action → Option Y) (o : Bytes) (c : Command) (H : History) → first_some f (acts o (c ∷ H)) ≡ or_else (cond (same_bytes c.owner o) (f c.action) None) (first_some f (acts o H))
first_acts f o c H = ap (first_some f) (acts-cons o c H) ∙ first_cond f (same_bytes c.owner o) c.action (acts o H)

any_cond : (p : Action → Bool) (b : Bool) (a : Action) (own : List Action) → list_any p (cond b (a ∷ own) own) ≡ ((b && p a) || list_any p own)
any_cond p true a own = refl
any_cond p false a own = refl

pub any_acts : (p : Action → Bool) (o : Bytes) (c : Command) (H : History) → list_any p (acts o (c ∷ H)) ≡ ((same_bytes c.owner o && p c.action) || list_any p (acts o H))
any_acts p o c H = ap (list_any p) (acts-cons o c H) ∙ any_cond p (same_bytes c.owner o) c.action (acts o H)

count_cond : (p : Action → Bool) (b : Bool) (a : Action) (own : List Action) → count p (cond b (a ∷ own) own) ≡ cond (b && p a) 1 0 + count p own
count_cond p true a own = refl
count_cond p false a own = omega arith

pub count_acts : (p : Action → Bool) (o : Bytes) (c : Command) (H : History) → count p (acts o (c ∷ H)) ≡ cond (same_bytes c.owner o && p c.action) 1 0 + count p (acts o H)
count_acts p o c H = ap (count p) (acts-cons o c H) ∙ count_cond p (same_bytes c.owner o) c.action (acts o H)

-- a law of the owner's own actions, by induction over the commands that concern the owner
module _ (P : List Action → Type 0) (o : Bytes) (first : P []) (step : (H : History) (a : Action) → IsLawful H → IsValidAction a → verdict H (by o a) ≡ Accepted → P (acts o H) → P (a ∷ acts o H)) where
  pub along_acts : (H : History) → IsLawful H → P (acts o H)
  unfolding acts
  along_acts [] lawful = first
  along_acts (c ∷ H) lawful =
      subst P (sym (acts-cons o c H))
      (elim (same_bytes c.owner o) as (λ b. same_bytes c.owner o ≡ b → P (cond b (c.action ∷ acts o H) (acts o H))) [
        | true ↦ λ same. step H c.action lawful.0 lawful.1 (subst (λ w. verdict H (by w c.action) ≡ Accepted) (same_bytes-exact c.owner o same) lawful.2) (along_acts H lawful.0)
        | false ↦ λ other. along_acts H lawful.0
      ] refl)
