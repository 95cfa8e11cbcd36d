-- The loops that pass all connections by their keys.
use Rattle.std.proofs.Common.{◌≡◌, ◌<◌, ◌≤◌, ℕ, ◌+◌, ◌∙◌, Option, None, Some, ap, length, refl, sym, subst, arith, below_more, inl, inr, IfSome, OnSome}
use Rattle.toll_server.proofs.Common.{Slab, Updates, get, slab_len, EvictsReader, IsBefore, IsEarliest, IsEvicted, IsIncluded, IsLonger, NobodyWaits, OnlyAt, connection_behind, queue_in, unless_expired, wait_in, HasWaitedLonger, IsNext, Waiting, waiting_of, Connection}
use Rattle.std.proofs.lemmas.Bool.{cases_lt}
use Rattle.std.proofs.lemmas.List.{get_or_past}
use Rattle.std.proofs.lemmas.Option.{same_Some}
use Rattle.std.specs.Prelude.{Bool, option_and_then, option_map}
use Rattle.toll_server.specs.declared.filter.Filter.{Filter}
use Rattle.toll_server.specs.declared.expiry.Earliest.{Earliest}
use Rattle.toll_server.specs.declared.expiry.Next.{Next}
use Rattle.toll_server.specs.declared.expiry.Wait.{Wait}

module _ {S T P : Type 0} (filter : Filter) (connections : Slab (Connection S T P)) where
  -- No connection that the filter includes, with a key below the limit, has a deadline before this one.
  abbrev pub HaveTimeBelow : ℕ → ℕ → Type 0
  HaveTimeBelow limit deadline = (key : ℕ) → key < limit → IfSome (get connections key) (λ connection. IsIncluded filter connection → deadline ≤ connection.deadline)

  abbrev pub NoneBelow : ℕ → Type 0
  NoneBelow limit = (key : ℕ) → key < limit → IfSome (get connections key) (λ connection. ¬ (IsIncluded filter connection))

  pub record IsFirstBelow (limit key deadline : ℕ) : Type 0 where
    pub connection : Connection S T P
    pub there : get connections key ≡ Some connection
    pub among_them : IsIncluded filter connection
    pub its : connection.deadline ≡ deadline
    pub first : HaveTimeBelow limit deadline

  abbrev pub Found : ℕ → Option Earliest → Type 0
  Found limit None = NoneBelow limit
  Found limit (Some f) = IsFirstBelow limit f.key f.deadline

  -- No connection has this key.
  pub passed : (limit : ℕ) (first : Option Earliest) → get connections limit ≡ None → Found limit first → Found (limit + 1) first
  passed limit None is p = below_more (λ k. IfSome (get connections k) (λ connection. ¬ (IsIncluded filter connection))) limit p
      (subst (λ (o : Option (Connection S T P)). IfSome o (λ connection. ¬ (IsIncluded filter connection))) (sym is) tt)
  passed limit (Some f) is p = record {
    connection = p.connection;
    there = p.there;
    among_them = p.among_them;
    its = p.its;
    first = below_more (λ k. IfSome (get connections k) (λ connection. IsIncluded filter connection → f.deadline ≤ connection.deadline)) limit p.first
        (subst (λ (o : Option (Connection S T P)). IfSome o (λ connection. IsIncluded filter connection → f.deadline ≤ connection.deadline)) (sym is) tt);
  }

  -- The connection with this key isn't included, or its deadline is no earlier.
  pub left_out : (limit : ℕ) (connection : Connection S T P) (first : Option Earliest) → get connections limit ≡ Some connection → ¬ (IsIncluded filter connection × IsBefore connection.deadline first)
      → Found limit first → Found (limit + 1) first
  left_out limit connection None is not p = below_more (λ k. IfSome (get connections k) (λ connection. ¬ (IsIncluded filter connection))) limit p
      (subst (λ (o : Option (Connection S T P)). IfSome o (λ connection. ¬ (IsIncluded filter connection))) (sym is) (λ a. not (a, tt)))
  left_out limit connection (Some f) is not p = record {
    connection = p.connection;
    there = p.there;
    among_them = p.among_them;
    its = p.its;
    first = below_more (λ k. IfSome (get connections k) (λ connection. IsIncluded filter connection → f.deadline ≤ connection.deadline)) limit p.first
        (subst (λ (o : Option (Connection S T P)). IfSome o (λ connection. IsIncluded filter connection → f.deadline ≤ connection.deadline)) (sym is)
        (λ a. elim (cases_lt connection.deadline f.deadline) [ inl lt ↦ absurd (not (a, lt)) | inr le ↦ le ]));
  }

  more_time : (limit deadline now : ℕ) → deadline ≤ now → HaveTimeBelow limit now → HaveTimeBelow limit deadline
  more_time limit deadline now le p key lt = weaker (get connections key) (p key lt) where
    weaker : (o : Option (Connection S T P)) → IfSome o (λ connection. IsIncluded filter connection → now ≤ connection.deadline) → IfSome o (λ connection. IsIncluded filter connection → deadline ≤ connection.deadline)
    weaker None q = tt
    weaker (Some connection) q = λ a. omega (arith, q a)

  none_time : (limit deadline : ℕ) → NoneBelow limit → HaveTimeBelow limit deadline
  none_time limit deadline p key lt = weaker (get connections key) (p key lt) where
    weaker : (o : Option (Connection S T P)) → IfSome o (λ connection. ¬ (IsIncluded filter connection)) → IfSome o (λ connection. IsIncluded filter connection → deadline ≤ connection.deadline)
    weaker None q = tt
    weaker (Some connection) q = λ a. absurd (q a)

  time_before : (limit deadline : ℕ) (first : Option Earliest) → IsBefore deadline first → Found limit first → HaveTimeBelow limit deadline
  time_before limit deadline None before p = none_time limit deadline p
  time_before limit deadline (Some f) before p = more_time limit deadline f.deadline (omega arith) p.first

  -- The connection with this key has the earliest deadline so far.
  pub earliest_taken : (limit : ℕ) (connection : Connection S T P) (first : Option Earliest) → get connections limit ≡ Some connection → IsIncluded filter connection → IsBefore connection.deadline first
      → Found limit first → IsFirstBelow (limit + 1) limit connection.deadline
  earliest_taken limit connection first is a before p = record {
    connection = connection;
    there = is;
    among_them = a;
    its = refl;
    first = below_more (λ k. IfSome (get connections k) (λ other. IsIncluded filter other → connection.deadline ≤ other.deadline)) limit (time_before limit connection.deadline first before p)
        (subst (λ (o : Option (Connection S T P)). IfSome o (λ other. IsIncluded filter other → connection.deadline ≤ other.deadline)) (sym is) (λ _. omega arith));
  }

  none_past : (limit key : ℕ) → length connections.slots ≤ limit → limit ≤ key → get connections key ≡ None
  none_past limit key le past = get_or_past connections.slots key None (omega arith)

  pub found_all : (limit key deadline : ℕ) → length connections.slots ≤ limit → IsFirstBelow limit key deadline → IsEarliest filter connections key deadline
  found_all limit key deadline le p = record {
    connection = p.connection;
    there = p.there;
    among_them = p.among_them;
    its = p.its;
    first = λ other. elim (cases_lt other limit) [
      | inl lt ↦ p.first other lt
      | inr past ↦ subst (λ (o : Option (Connection S T P)). IfSome o (λ connection. IsIncluded filter connection → deadline ≤ connection.deadline)) (sym (none_past limit other le past)) tt
    ];
  }

-- The connection that goes first was closed.
pub evicted_so : {S T P : Type 0} (old new : Slab (Connection S T P)) (key deadline : ℕ) (taken : Option (Connection S T P)) → taken ≡ get old key → IsEvicted old key deadline → Updates old new key None
    → OnSome taken (slab_len new + 1 ≡ slab_len old) → EvictsReader old new
evicted_so old new key deadline None is goes out len = let (filter, first, earliest) = goes in let none = is ∙ earliest.there in absurd (cc)
evicted_so old new key deadline (Some connection) is goes out len = record { key = key; deadline = deadline; goes = goes; out = out; one_less = len }

module _ {S T P : Type 0} (now : ℕ) (old : Slab (Connection S T P)) where
  -- The connections with a key below the limit are closed if their deadline is over.
  pub record ClosedBelow (limit : ℕ) (new : Slab (Connection S T P)) : Type 0 where
    pub done : (key : ℕ) → key < limit → get new key ≡ unless_expired now (get old key)
    pub rest : (key : ℕ) → limit ≤ key → get new key ≡ get old key

module _ {S T P : Type 0} (same : P → P → Bool) (party : P) (event_count : ℕ) (old : Slab (Connection S T P)) where
  -- The connections with a key below the limit are put behind if they are of the party.
  pub record PutBehind (limit : ℕ) (new : Slab (Connection S T P)) : Type 0 where
    pub done : (key : ℕ) → key < limit → get new key ≡ option_map (connection_behind same party event_count) (get old key)
    pub rest : (key : ℕ) → limit ≤ key → get new key ≡ get old key
    pub vacant : new.vacant_key ≡ old.vacant_key
    pub capacity : new.capacity ≡ old.capacity
    pub len : slab_len new ≡ slab_len old

  pub put_more : (limit : ℕ) (middle new : Slab (Connection S T P)) → PutBehind limit middle → get new limit ≡ option_map (connection_behind same party event_count) (get middle limit)
      → OnlyAt limit middle new → new.vacant_key ≡ middle.vacant_key → new.capacity ≡ middle.capacity → slab_len new ≡ slab_len middle → PutBehind (limit + 1) new
  put_more limit middle new p at only vacant capacity len = record {
    done = below_more (λ k. get new k ≡ option_map (connection_behind same party event_count) (get old k)) limit
        (λ k lt. only k (λ is. omega (arith, lt, is)) ∙ p.done k lt) (at ∙ ap (option_map (connection_behind same party event_count)) (p.rest limit (omega arith)));
    rest = λ k le. only k (λ is. omega (arith, le, is)) ∙ p.rest k (omega (arith, le));
    vacant = vacant ∙ p.vacant;
    capacity = capacity ∙ p.capacity;
    len = len ∙ p.len;
  }

module _ {P : Type 0} where
  -- If one waits no longer than a second, and a third waits longer than the second, the first waits no longer than the third.
  longest_still : (w v : Waiting P) (next : Next) → wait_in v ≡ next.wait → IsLonger (wait_in w) (Some next) → (u : Waiting P) → ¬ (HasWaitedLonger u v)
      → ¬ (HasWaitedLonger u w)
  longest_still w v next is before u not longer =
      let s : v.since ≡ next.wait.since = ap (λ x. x.since) is in
      let q : v.queued ≡ next.wait.queued = ap (λ x. x.queued) is in
      elim before [
        | inl lt ↦ elim longer [ inl more ↦ not (inl (omega (arith, lt, more, s))) | inr both ↦ not (inl (omega (arith, lt, both.0, s))) ]
        | inr tied ↦ elim longer [
          | inl more ↦ not (inl (omega (arith, tied.0, more, s)))
          | inr both ↦ not (inr (both.0 ∙ (tied.0 ∙ sym s), omega (arith, both.1, tied.1, q)))
        ]
      ]

  not_longer : (w : Waiting P) → ¬ (HasWaitedLonger w w)
  not_longer w longer = elim longer [ inl lt ↦ omega (arith, lt) | inr both ↦ omega (arith, both.1) ]

  as_next : (w v : Waiting P) (next : Next) → wait_in v ≡ next.wait → HasWaitedLonger w v → IsLonger (wait_in w) (Some next)
  as_next w v next is longer =
      let s : v.since ≡ next.wait.since = ap (λ x. x.since) is in
      let q : v.queued ≡ next.wait.queued = ap (λ x. x.queued) is in
      elim longer [ inl lt ↦ inl (omega (arith, lt, s)) | inr both ↦ inr (both.0 ∙ s, omega (arith, both.1, q)) ]

module _ {S T P : Type 0} (connections : Slab (Connection S T P)) where
  -- No connection with a key below the limit has waited longer.
  abbrev LongestBelow : ℕ → Waiting P → Type 0
  LongestBelow limit v = (key : ℕ) → key < limit → IfSome (queue_in connections key) (λ w. ¬ (HasWaitedLonger w v))

  abbrev NobodyBelow : ℕ → Type 0
  NobodyBelow limit = (key : ℕ) → key < limit → queue_in connections key ≡ None

  pub record IsNextBelow (limit : ℕ) (next : Next) : Type 0 where
    pub waiting : Waiting P
    pub there : queue_in connections next.key ≡ Some waiting
    pub its : wait_in waiting ≡ next.wait
    pub longest : LongestBelow limit waiting

  abbrev pub FoundNext : ℕ → Option Next → Type 0
  FoundNext limit None = NobodyBelow limit
  FoundNext limit (Some next) = IsNextBelow limit next

  -- The connection with this key isn't queued.
  pub next_passed : (limit : ℕ) (next : Option Next) → option_map wait_in (queue_in connections limit) ≡ None → FoundNext limit next → FoundNext (limit + 1) next
  next_passed limit next is p = which (queue_in connections limit) refl is next p where
    which : (o : Option (Waiting P)) → queue_in connections limit ≡ o → option_map wait_in o ≡ None → (next : Option Next) → FoundNext limit next → FoundNext (limit + 1) next
    which (Some w) at is next p = absurd (cc)
    which None at is None p = below_more (λ k. queue_in connections k ≡ None) limit p at
    which None at is (Some n) p = record {
      waiting = p.waiting;
      there = p.there;
      its = p.its;
      longest = below_more (λ k. IfSome (queue_in connections k) (λ w. ¬ (HasWaitedLonger w p.waiting))) limit p.longest
          (subst (λ (o : Option (Waiting P)). IfSome o (λ w. ¬ (HasWaitedLonger w p.waiting))) (sym at) tt);
    }

  expiry_waits_at : (limit : ℕ) (wait : Wait) → option_map wait_in (queue_in connections limit) ≡ Some wait → (w : Waiting P) × (queue_in connections limit ≡ Some w) × (wait_in w ≡ wait)
  expiry_waits_at limit wait is = which (queue_in connections limit) refl is where
    which : (o : Option (Waiting P)) → queue_in connections limit ≡ o → option_map wait_in o ≡ Some wait → (w : Waiting P) × (queue_in connections limit ≡ Some w) × (wait_in w ≡ wait)
    which None at is = absurd (cc)
    which (Some w) at is = (w, at, same_Some _ _ is)

  -- The connection with this key has waited no longer.
  pub next_left_out : (limit : ℕ) (wait : Wait) (next : Option Next) → option_map wait_in (queue_in connections limit) ≡ Some wait → ¬ (IsLonger wait next)
      → FoundNext limit next → FoundNext (limit + 1) next
  next_left_out limit wait None is not p = absurd (not tt)
  next_left_out limit wait (Some n) is not p = let (w, at, its) = expiry_waits_at limit wait is in record {
    waiting = p.waiting;
    there = p.there;
    its = p.its;
    longest = below_more (λ k. IfSome (queue_in connections k) (λ u. ¬ (HasWaitedLonger u p.waiting))) limit p.longest
        (subst (λ (o : Option (Waiting P)). IfSome o (λ u. ¬ (HasWaitedLonger u p.waiting))) (sym at)
        (λ longer. not (subst (λ x. IsLonger x (Some n)) its (as_next w p.waiting n p.its longer))));
  }

  -- The connection with this key has waited longest so far.
  pub next_taken : (limit : ℕ) (wait : Wait) (next : Option Next) → option_map wait_in (queue_in connections limit) ≡ Some wait → IsLonger wait next
      → FoundNext limit next → IsNextBelow (limit + 1) (record { key = limit; wait = wait })
  next_taken limit wait next is longer p = let (w, at, its) = expiry_waits_at limit wait is in record {
    waiting = w;
    there = at;
    its = its;
    longest = below_more (λ k. IfSome (queue_in connections k) (λ u. ¬ (HasWaitedLonger u w))) limit (each w next (subst (λ x. IsLonger x next) (sym its) longer) p)
        (subst (λ (o : Option (Waiting P)). IfSome o (λ u. ¬ (HasWaitedLonger u w))) (sym at) (not_longer w));
  } where
    weaker : (o : Option (Waiting P)) (A B : Waiting P → Type 0) → ((u : Waiting P) → A u → B u) → IfSome o A → IfSome o B
    weaker None A B more q = tt
    weaker (Some u) A B more q = more u q

    each : (w : Waiting P) (next : Option Next) → IsLonger (wait_in w) next → FoundNext limit next → LongestBelow limit w
    each w None before p key lt = subst (λ (o : Option (Waiting P)). IfSome o (λ u. ¬ (HasWaitedLonger u w))) (sym (p key lt)) tt
    each w (Some n) before p key lt =
        weaker (queue_in connections key) (λ u. ¬ (HasWaitedLonger u p.waiting)) (λ u. ¬ (HasWaitedLonger u w)) (longest_still w p.waiting n p.its before) (p.longest key lt)

  nobody_past : (limit key : ℕ) → length connections.slots ≤ limit → limit ≤ key → queue_in connections key ≡ None
  nobody_past limit key le past = ap (option_and_then waiting_of) (get_or_past connections.slots key None (omega arith))

  pub next_all : (limit : ℕ) (next : Next) → length connections.slots ≤ limit → IsNextBelow limit next → IsNext (queue_in connections) next.key
  next_all limit next le p = record {
    waiting = p.waiting;
    there = p.there;
    longest = λ other. elim (cases_lt other limit) [
      | inl lt ↦ p.longest other lt
      | inr past ↦ subst (λ (o : Option (Waiting P)). IfSome o (λ u. ¬ (HasWaitedLonger u p.waiting))) (sym (nobody_past limit other le past)) tt
    ];
  }

  pub nobody_all : (limit : ℕ) → length connections.slots ≤ limit → NobodyBelow limit → NobodyWaits connections
  nobody_all limit le p key = elim (cases_lt key limit) [ inl lt ↦ p key lt | inr past ↦ nobody_past limit key le past ]
