-- The tally, step by step.
use Rattle.std.proofs.Common.{◌≡◌, ◌∙◌, ℕ, List, [], inl, inr, ap, true, false, Option, None, Some, refl, sym, subst, Err, Ok, OnErr, OnOk, Result, is_err, option_map}
use Rattle.toll_server.proofs.Common.{Slab, Agrees, BreaksDown, Connection, Server, ShowsTime, Tallies, Tally, TimesReply}

pub tallies_begin : {S : Type 0} (P : Tally S → Tally S → Type 0) (a b : Option (Tally S)) → b ≡ a → ((t : Tally S) → P t t) → Tallies P a b
tallies_begin P None b is p = tt
tallies_begin P (Some t) b is p = subst (Tallies P (Some t)) (sym is) (p t)

pub tallies_more : {S : Type 0} (P Q : Tally S → Tally S → Type 0) (step : Tally S → Tally S) (a b c : Option (Tally S)) → c ≡ option_map step b → ((t u : Tally S) → P t u → Q t (step u))
    → Tallies P a b → Tallies Q a c
tallies_more P Q step None b c is more p = tt
tallies_more P Q step (Some t) None c is more p = absurd p
tallies_more P Q step (Some t) (Some u) c is more p = subst (Tallies Q (Some t)) (sym is) (more t u p)

pub tallies_then : {S : Type 0} (P R Q : Tally S → Tally S → Type 0) (a b c : Option (Tally S)) → Tallies P a b → Tallies R b c → ((t u v : Tally S) → P t u → R u v → Q t v) → Tallies Q a c
tallies_then P R Q None b c p r more = tt
tallies_then P R Q (Some t) None c p r more = absurd p
tallies_then P R Q (Some t) (Some u) None p r more = absurd r
tallies_then P R Q (Some t) (Some u) (Some v) p r more = more t u v p r

pub tallies_weaker : {S : Type 0} (P Q : Tally S → Tally S → Type 0) (a b : Option (Tally S)) → Tallies P a b → ((t u : Tally S) → P t u → Q t u) → Tallies Q a b
tallies_weaker P Q None b p weaker = tt
tallies_weaker P Q (Some t) None p weaker = absurd p
tallies_weaker P Q (Some t) (Some u) p weaker = weaker t u p

pub tallies_both : {S : Type 0} (P Q : Tally S → Tally S → Type 0) (a b : Option (Tally S)) → Tallies P a b → Tallies Q a b → Tallies (λ t u. P t u × Q t u) a b
tallies_both P Q None b p q = tt
tallies_both P Q (Some t) None p q = absurd p
tallies_both P Q (Some t) (Some u) p q = (p, q)

-- The same, of an equal number.
pub tallies_at : {S : Type 0} (P : ℕ → Tally S → Tally S → Type 0) (n m : ℕ) (a b : Option (Tally S)) → n ≡ m → Tallies (P n) a b → Tallies (P m) a b
tallies_at P n m a b is p = subst (λ k. Tallies (P k) a b) is p

-- At most the clock went on; nothing else changed.
abbrev pub OnlyClock : {S : Type 0} → Tally S → Tally S → Type 0
OnlyClock t u = u ≡ record t { clock = u.clock }

-- At most the listeners were closed; nothing else changed.
abbrev pub OnlyListening : {S : Type 0} → Tally S → Tally S → Type 0
OnlyListening t u = u ≡ record t { is_listening = u.is_listening }

pub time_shown : {S : Type 0} (now : ℕ) (a b : Option (Tally S)) → Tallies (ShowsTime now) a b → Tallies OnlyClock a b
time_shown now a b p = tallies_weaker (ShowsTime now) OnlyClock a b p (λ t u p. p.1 ∙ ap (λ n. record t { clock = n }) (sym (ap (λ x. x.clock) p.1)))

pub clock_went_on : {S T P : Type 0} (old new : Slab (Connection S T P)) (a b : Option (Tally S)) → TimesReply old new a b → Tallies OnlyClock a b
clock_went_on old new a b (now, inl none, times) = tallies_begin OnlyClock a b none.1 (λ t. refl)
clock_went_on old new a b (now, inr shows, times) = time_shown now a b shows

pub on_err : {A E X : Type 0} (r : Result A E) → is_err r ≡ true → OnErr r X → X
on_err (Ok x) is p = absurd (cc)
on_err (Err e) is p = p

pub on_ok_holds : {A E X : Type 0} (r : Result A E) → is_err r ≡ false → OnOk r X → X
on_ok_holds (Ok x) is p = p
on_ok_holds (Err e) is p = absurd (cc)

-- What a server sees of a call that is no event: its tally agrees still.
module _ {S T P : Type 0} (server : Server S T P) (a b : Option (Tally S)) where
  pub clock_agrees : Tallies OnlyClock a b → Tallies (Agrees server [] server) a b
  clock_agrees p = tallies_weaker OnlyClock (Agrees server [] server) a b p
      (λ t u r. subst (Agrees server [] server t) (sym r) (record { owners = refl; accepted = refl; short = refl; waited = refl; none_missed = λ none. (none, refl) }))

  pub listening_agrees : Tallies OnlyListening a b → Tallies (Agrees server [] server) a b
  listening_agrees p = tallies_weaker OnlyListening (Agrees server [] server) a b p
      (λ t u r. subst (Agrees server [] server t) (sym r) (record { owners = refl; accepted = refl; short = refl; waited = refl; none_missed = λ none. (none, refl) }))

  pub broken_agrees : Tallies BreaksDown a b → Tallies (Agrees server [] server) a b
  broken_agrees p = tallies_weaker BreaksDown (Agrees server [] server) a b p
      (λ t u r. subst (Agrees server [] server t) (sym r) (record { owners = refl; accepted = refl; short = refl; waited = refl; none_missed = λ none. (none, refl) }))
