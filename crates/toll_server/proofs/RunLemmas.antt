-- Turns of a service, one after another.
use Rattle.std.proofs.Common.{◌≡◌, ◌≢◌, ◌==◌, ◌∙◌, ℕ, List, [], ◌∷◌, ◌++◌, ap, refl, subst, sym, Option, inl, inr, if◌then◌else◌}
use Rattle.toll_server.proofs.Common.{eqb_tells, AreOwn, TakesTurns, Tasks, Turn, after_turn, after_turns, pending_task, Listener, Poll}

-- Two functions are equal if they agree at one key and at all others.
pub all_but : {A : Type 0} (key : ℕ) (p q : ℕ → A) → p key ≡ q key → ((other : ℕ) → other ≢ key → p other ≡ q other) → (whose : ℕ) → p whose ≡ q whose
all_but key p q at others whose = elim (eqb_tells whose key) [
  | inl (same, is) ↦ subst (λ k. p k ≡ q k) (sym is) at
  | inr (differ, isnt) ↦ others whose isnt
]

module _ {T : Type 0} where
  -- The same tasks are left.
  abbrev pub Agree : Tasks T → Tasks T → Type 0
  Agree left other = (whose : ℕ) → left whose ≡ other whose

  pub after_same : (left other : Tasks T) (turn : Turn T) → Agree left other → Agree (after_turn left turn) (after_turn other turn)
  after_same left other turn same whose = ap (λ (task : Option T). if whose == turn.whose then pending_task turn.poll else task) (same whose)

  pub turns_append : (left : Tasks T) (ts us : List (Turn T)) → Agree (after_turns left (ts ++ us)) (after_turns (after_turns left ts) us)
  turns_append left [] us whose = refl
  turns_append left (t ∷ ts) us whose = turns_append (after_turn left t) ts us whose

  pub own_append : (left : Tasks T) (ts us : List (Turn T)) → AreOwn left ts → AreOwn (after_turns left ts) us → AreOwn left (ts ++ us)
  own_append left [] us own more = more
  own_append left (t ∷ ts) us own more = (own.0, own_append (after_turn left t) ts us own.1 more)

module _ {O T : Type 0} (answers : O → Listener → List ℕ → Poll T → O → Type 0) (resumes : O → T → Poll T → O → Type 0) where
  pub TakesTurns-append : (a b c : O) (ts us : List (Turn T)) → TakesTurns answers resumes a ts b → TakesTurns answers resumes b us c → TakesTurns answers resumes a (ts ++ us) c
  TakesTurns-append a b c [] us p q = subst (λ o. TakesTurns answers resumes o us c) p q
  TakesTurns-append a b c (t ∷ ts) us p q = let (middle, one, rest) = p in (middle, one, TakesTurns-append middle b c ts us rest q)
