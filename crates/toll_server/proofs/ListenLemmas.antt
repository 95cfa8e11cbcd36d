-- How long a network listens.
use Rattle.std.proofs.Common.{◌≡◌, ◌∙◌, ◌+◌, ◌≤◌, ◌<◌, ℕ, arith, List, [], ◌∷◌, ◌++◌, Bool, false, Option, ap, refl, subst, sym, ◌-◌, All, Result}
use Rattle.toll_server.proofs.Common.{Accepts, BreaksDown, ListensFor, Tallies, Tally, Wake, HasWaited, ListensTill, Connections, Listener, Poll}
use Rattle.std.proofs.lemmas.List.Elements.{All-cons, All-nil}
use Rattle.toll_protocol.specs.declared.streams.sink.Sink as sink
use Rattle.toll_protocol.specs.declared.streams.source.Source as source
use Rattle.toll_server.proofs.TallyLemmas.{OnlyClock, OnlyListening, tallies_begin, tallies_both, tallies_then, tallies_weaker}
use Rattle.toll_server.specs.declared.connections.AcceptState.{AcceptState}

module _ {S : Type 0} where
  -- At each wait so far the network listened while owners were still to be accepted. After this many calls to accept, the same holds now.
  pub record ListensSoFar (count left accepts : ℕ) (t u : Tally S) : Type 0 where
    pub owners : u.owners + left ≡ t.owners + count
    pub wakes : List Wake
    pub waited : u.wakes ≡ wakes ++ t.wakes
    pub meanwhile : All (λ w. ListensFor (t.owners + count - w.owners) t.is_listening w.is_listening) wakes
    pub opened : 0 < left → u.is_listening ≡ t.is_listening
    pub closed : 0 < accepts → left ≡ 0 → u.is_listening ≡ false

  pub begins_listening : (count left : ℕ) (a : Option (Tally S)) → left ≡ count → Tallies (ListensSoFar count left 0) a a
  begins_listening count left a is = tallies_begin (ListensSoFar count left 0) a a refl (λ t. record {
    owners = omega (arith, is);
    wakes = [];
    waited = refl;
    meanwhile = All-nil (λ w. ListensFor (t.owners + count - w.owners) t.is_listening w.is_listening);
    opened = λ some. refl;
    closed = λ never. absurd (omega (arith, never));
  })

  -- Connections were accepted, and the listeners aren't closed yet.
  pub accepted_listening : {A E : Type 0} (r : Result A E) (state : AcceptState) (count before left accepts : ℕ) (a b c : Option (Tally S)) → left ≤ before
      → Tallies (Accepts r state before left) b c → Tallies (λ t u. u.is_listening ≡ t.is_listening) b c → Tallies (ListensSoFar count before accepts) a b
      → Tallies (ListensSoFar count left 0) a c
  accepted_listening r state count before left accepts a b c fewer accepts_so listens p =
      tallies_then (ListensSoFar count before accepts) (λ t u. Accepts r state before left t u × (u.is_listening ≡ t.is_listening)) (ListensSoFar count left 0) a b c p
      (tallies_both (Accepts r state before left) (λ t u. u.is_listening ≡ t.is_listening) b c accepts_so listens) (λ t u v q s. record {
        owners = omega (arith, q.owners, s.0.0);
        wakes = q.wakes;
        waited = s.0.2 ∙ q.waited;
        meanwhile = q.meanwhile;
        opened = λ some. s.1 ∙ q.opened (omega (arith, some, fewer));
        closed = λ never. absurd (omega (arith, never));
      })

  -- The listeners were closed if no further owner is to be accepted.
  pub stopped_listening : (count left accepts : ℕ) (a b c : Option (Tally S)) → Tallies (λ t u. ListensFor left t.is_listening u.is_listening) b c → Tallies OnlyListening b c
      → Tallies (ListensSoFar count left 0) a b → Tallies (ListensSoFar count left accepts) a c
  stopped_listening count left accepts a b c listens rest p =
      tallies_then (ListensSoFar count left 0) (λ t u. ListensFor left t.is_listening u.is_listening × OnlyListening t u) (ListensSoFar count left accepts) a b c p
      (tallies_both (λ t u. ListensFor left t.is_listening u.is_listening) OnlyListening b c listens rest) (λ t u v q s. record {
        owners = omega (arith, q.owners, ap (λ x. x.owners) s.1);
        wakes = q.wakes;
        waited = ap (λ x. x.wakes) s.1 ∙ q.waited;
        meanwhile = q.meanwhile;
        opened = λ some. s.0.0 some ∙ q.opened some;
        closed = λ _ none. s.0.1 none;
      })

  -- Accepting failed while owners were still to be accepted, so the listeners stay open.
  pub failed_listening : (count left accepts : ℕ) (a b : Option (Tally S)) → 0 < left → Tallies (ListensSoFar count left 0) a b → Tallies (ListensSoFar count left accepts) a b
  failed_listening count left accepts a b some p = tallies_weaker (ListensSoFar count left 0) (ListensSoFar count left accepts) a b p (λ t u q. record {
    owners = q.owners;
    wakes = q.wakes;
    waited = q.waited;
    meanwhile = q.meanwhile;
    opened = q.opened;
    closed = λ _ none. absurd (omega (arith, some, none));
  })

  now_of : (count left : ℕ) (t u : Tally S) (owners : ℕ) (is : Bool) → u.owners + left ≡ t.owners + count → owners ≡ u.owners → (0 < left → is ≡ t.is_listening) → (left ≡ 0 → is ≡ false)
      → ListensFor (t.owners + count - owners) t.is_listening is
  now_of count left t u owners is sum same opened closed = (
    λ some. opened (omega (arith, some, sum, same)),
    λ none. closed (omega (arith, none, sum, same)),
  )

  pub listens_till : (count left accepts : ℕ) (a b : Option (Tally S)) → 0 < accepts → Tallies (ListensSoFar count left accepts) a b → Tallies (ListensTill count) a b
  listens_till count left accepts a b some p = tallies_weaker (ListensSoFar count left accepts) (ListensTill count) a b p (λ t u q. record {
    wakes = q.wakes;
    waited = q.waited;
    meanwhile = q.meanwhile;
    now = now_of count left t u u.owners u.is_listening q.owners refl q.opened (q.closed some);
  })

  -- The network failed.
  pub broken_listening : (count left accepts : ℕ) (a b c : Option (Tally S)) → Tallies BreaksDown b c → Tallies (ListensSoFar count left accepts) a b → Tallies (ListensSoFar count left accepts) a c
  broken_listening count left accepts a b c breaks p = tallies_then (ListensSoFar count left accepts) BreaksDown (ListensSoFar count left accepts) a b c p breaks
      (λ t u v q r. subst (ListensSoFar count left accepts t) (sym r) (record {
        owners = q.owners;
        wakes = q.wakes;
        waited = q.waited;
        meanwhile = q.meanwhile;
        opened = q.opened;
        closed = q.closed;
      }))

  pub clocked_listening : (count left accepts : ℕ) (a b c : Option (Tally S)) → Tallies OnlyClock b c → Tallies (ListensSoFar count left accepts) a b → Tallies (ListensSoFar count left accepts) a c
  clocked_listening count left accepts a b c clock p = tallies_then (ListensSoFar count left accepts) OnlyClock (ListensSoFar count left accepts) a b c p clock
      (λ t u v q r. subst (ListensSoFar count left accepts t) (sym r) (record {
        owners = q.owners;
        wakes = q.wakes;
        waited = q.waited;
        meanwhile = q.meanwhile;
        opened = q.opened;
        closed = q.closed;
      }))

module _ {S T P O : Type 0} (same : P → P → Bool) (is_by : Listener → List ℕ → P → Type 0) (answers : O → Listener → List ℕ → Poll T → O → Type 0)
    (resumes : O → T → Poll T → O → Type 0) (from : source.Ghosts S) (to : sink.Ghosts S) where
  -- One more wait.
  pub waited_listening : (now count left later accepts : ℕ) (old new : Connections S T P) (a b c : Option (Tally S)) → 0 < accepts → later ≡ left
      → HasWaited same is_by answers resumes from to now old new b c → Tallies (ListensSoFar count left accepts) a b → Tallies (ListensSoFar count later accepts) a c
  waited_listening now count left later accepts old new a b c some same_left w p = tallies_then (ListensSoFar count left accepts) _ (ListensSoFar count later accepts) a b c p
      w.known (λ t u v q r. let (clock, order, owners, listens, is) = r in record {
        owners = omega (arith, same_left, q.owners, ap (λ x. x.owners) is);
        wakes = w.wake ∷ q.wakes;
        waited = ap (λ x. x.wakes) is ∙ ap (λ l. w.wake ∷ l) q.waited;
        meanwhile = All-cons (λ x. ListensFor (t.owners + count - x.owners) t.is_listening x.is_listening) w.wake q.wakes
            (now_of count left t u w.wake.owners w.wake.is_listening q.owners owners (λ n. listens ∙ q.opened n) (λ n. listens ∙ q.closed some n)) q.meanwhile;
        opened = λ n. ap (λ x. x.is_listening) is ∙ q.opened (omega (arith, n, same_left));
        closed = λ _ n. ap (λ x. x.is_listening) is ∙ q.closed some (omega (arith, n, same_left));
      })
