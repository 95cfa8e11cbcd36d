-- An owner's own commands and movements, among those of all.
use Rattle.std.proofs.Common.{◌≡◌, Bool, true, false, not, ◌&&◌, cond, List, [], ◌∷◌, ◌++◌, map, filter, refl, sym, ap, subst, ◌∙◌}
use Rattle.toll_history.proofs.Common.{false≢true, Bytes, same_bytes, same_bytes-exact, Action, Record, Void, Command, History, part, acts, Movement, moved_by, movements, standing_after, standing, has_move_key}

-- Filtering by a weaker test first gives the same items.
filter_idle : {X : Type 0} (p q : X → Bool) → ((x : X) → p x ≡ true → q x ≡ true) → (xs : List X) → filter p (filter q xs) ≡ filter p xs
filter_idle p q lets [] = refl
filter_idle p q lets (x ∷ xs) =
    elim (p x) as (λ b. p x ≡ b → filter p (cond (q x) (x ∷ filter q xs) (filter q xs)) ≡ cond b (x ∷ filter p xs) (filter p xs)) [
      | true ↦ λ passes. rw (lets x passes, passes) (ap (λ ys. x ∷ ys) (filter_idle p q lets xs))
      | false ↦ λ fails. elim (q x) as (λ b. filter p (cond b (x ∷ filter q xs) (filter q xs)) ≡ filter p xs) [
        | true ↦ rw fails (filter_idle p q lets xs)
        | false ↦ filter_idle p q lets xs
      ]
    ] refl

-- The owner's actions are those of its part.
pub acts-part : (o : Bytes) (H : History) → acts o (part o H) ≡ acts o H
unfolding part acts
acts-part o H = ap (map (λ c. c.action)) (filter_idle (λ c. same_bytes c.owner o) (λ c. same_bytes c.owner o) (λ c own. own) H)

pub acts-own : (o : Bytes) (c : Command) (H : History) → same_bytes c.owner o ≡ true → acts o (c ∷ H) ≡ c.action ∷ acts o H
unfolding acts
acts-own o c H own = rw own refl

pub acts-other : (o : Bytes) (c : Command) (H : History) → same_bytes c.owner o ≡ false → acts o (c ∷ H) ≡ acts o H
unfolding acts
acts-other o c H other = rw other refl

pub part-own : (o : Bytes) (c : Command) (H : History) → same_bytes c.owner o ≡ true → part o (c ∷ H) ≡ c ∷ part o H
unfolding part
part-own o c H own = rw own refl

pub part-other : (o : Bytes) (c : Command) (H : History) → same_bytes c.owner o ≡ false → part o (c ∷ H) ≡ part o H
unfolding part
part-other o c H other = rw other refl

-- ---- movements

abbrev pub is_own_movement : Bytes → Movement → Bool
is_own_movement o m = same_bytes m.0 o

own_moved : (o p : Bytes) (a : Action) (ms : List Movement) → same_bytes p o ≡ true → filter (is_own_movement o) (moved_by p a ++ ms) ≡ moved_by p a ++ filter (is_own_movement o) ms
own_moved o p (Record row) ms own = rw own refl
own_moved o p _ ms own = refl

other_moved : (o p : Bytes) (a : Action) (ms : List Movement) → same_bytes p o ≡ false → filter (is_own_movement o) (moved_by p a ++ ms) ≡ filter (is_own_movement o) ms
other_moved o p (Record row) ms other = rw other refl
other_moved o p _ ms other = refl

-- A list gathered along a history, by a step for each command. The owner's items are those of the owner's part, because the owner's steps
-- only use the owner's items, and the steps of others don't change them.
module _ (gathered : History → List Movement) (step : Bytes → Action → List Movement → List Movement) (none : gathered [] ≡ []) (more : (c : Command) (H : History) → gathered (c ∷ H) ≡ step c.owner c.action (gathered H))
    (own_step : (o p : Bytes) (a : Action) (ms : List Movement) → same_bytes p o ≡ true → filter (is_own_movement o) (step p a ms) ≡ step p a (filter (is_own_movement o) ms))
    (other_step : (o p : Bytes) (a : Action) (ms : List Movement) → same_bytes p o ≡ false → filter (is_own_movement o) (step p a ms) ≡ filter (is_own_movement o) ms) where
  gathered-part : (o : Bytes) (H : History) → filter (is_own_movement o) (gathered H) ≡ gathered (part o H)
  unfolding part
  gathered-part o [] = ap (filter (is_own_movement o)) none ∙ sym none
  gathered-part o (c ∷ H) =
      ap (filter (is_own_movement o)) (more c H)
      ∙ elim (same_bytes c.owner o) as (λ b. same_bytes c.owner o ≡ b → filter (is_own_movement o) (step c.owner c.action (gathered H)) ≡ gathered (cond b (c ∷ part o H) (part o H))) [
        | true ↦ λ own. own_step o c.owner c.action (gathered H) own ∙ ap (step c.owner c.action) (gathered-part o H) ∙ sym (more c (part o H))
        | false ↦ λ other. other_step o c.owner c.action (gathered H) other ∙ gathered-part o H
      ] refl

-- The owner's movements are those of its part.
pub movements-part : (o : Bytes) (H : History) → filter (is_own_movement o) (movements H) ≡ movements (part o H)
movements-part = gathered-part movements (λ p a ms. moved_by p a ++ ms) refl (λ c H. refl) own_moved other_moved

filter_swap : {X : Type 0} (p q : X → Bool) (xs : List X) → filter p (filter q xs) ≡ filter q (filter p xs)
filter_swap p q [] = refl
filter_swap p q (x ∷ xs) =
    elim (p x) as (λ b. p x ≡ b → filter p (cond (q x) (x ∷ filter q xs) (filter q xs)) ≡ filter q (cond b (x ∷ filter p xs) (filter p xs))) [
      | true ↦ λ passes. elim (q x) as (λ b. q x ≡ b → filter p (cond b (x ∷ filter q xs) (filter q xs)) ≡ cond b (x ∷ filter q (filter p xs)) (filter q (filter p xs))) [
        | true ↦ λ too. rw passes (ap (λ ys. x ∷ ys) (filter_swap p q xs))
        | false ↦ λ not_too. filter_swap p q xs
      ] refl
      | false ↦ λ fails. elim (q x) as (λ b. filter p (cond b (x ∷ filter q xs) (filter q xs)) ≡ filter q (filter p xs)) [
        | true ↦ rw fails (filter_swap p q xs)
        | false ↦ filter_swap p q xs
      ]
    ] refl

-- A name that is not the owner's differs from one that is.
pub other_than : (p o q : Bytes) → same_bytes p o ≡ false → same_bytes q o ≡ true → same_bytes p q ≡ false
other_than p o q other own = subst (λ r. same_bytes p r ≡ false) (sym (same_bytes-exact q o own)) other

not_keyed : (b rest : Bool) → b ≡ false → not (b && rest) ≡ true
not_keyed true rest h = absurd (false≢true (sym h))
not_keyed false rest h = refl

standing_filtered : (o p : Bytes) (a : Action) (ms : List Movement) → same_bytes p o ≡ true → filter (is_own_movement o) (standing_after p a ms) ≡ standing_after p a (filter (is_own_movement o) ms)
standing_filtered o p (Record row) ms own = rw own refl
standing_filtered o p (Void key) ms own = filter_swap (is_own_movement o) (λ m. not (has_move_key p key m)) ms
standing_filtered o p _ ms own = refl

other_standing : (o p : Bytes) (a : Action) (ms : List Movement) → same_bytes p o ≡ false → filter (is_own_movement o) (standing_after p a ms) ≡ filter (is_own_movement o) ms
other_standing o p (Record row) ms other = rw other refl
other_standing o p (Void key) ms other = filter_idle (is_own_movement o) (λ m. not (has_move_key p key m)) (λ m own. not_keyed (same_bytes p m.0) (same_bytes key m.1.key) (other_than p o m.0 other own)) ms
other_standing o p _ ms other = refl

-- The owner's standing movements are those of its part.
pub standing-part : (o : Bytes) (H : History) → filter (is_own_movement o) (standing H) ≡ standing (part o H)
standing-part = gathered-part standing standing_after refl (λ c H. refl) standing_filtered other_standing
