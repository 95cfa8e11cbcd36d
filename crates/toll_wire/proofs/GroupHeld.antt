-- Requests that are held back one after another are a group.
use Rattle.std.proofs.Common.{◌≡◌, ◌⊎◌, ℕ, suc, ◌+◌, ◌<◌, length, get_or, take, drop, subst₂, Bool, true, false, ◌||◌, Option, Some, None, List, [], ◌∷◌, ◌++◌, map, Result, Ok, Err, refl, sym, ap, subst, inl, inr, ◌∙◌, append_assoc}
use Rattle.std.proofs.lemmas.List.Folds.{list_any-append}
use Rattle.std.proofs.lemmas.List.{append-nil, map-append}
use Rattle.std.specs.List.{list_any}
use Rattle.toll_wire.proofs.Common.{drop-cons, take-append-drop, take_more, Vec, AllByRecursion, false≢true, Bytes, same_bytes, History, Meaning, Content, IsReading, KeepFault, Memory, Failure, Request, ParseResult, refused, request, saying_of, Text, Saying, By, Nobody, Says, MayBeReply, claimed_in, claims, IfSayingUnchanging}
use Rattle.toll_base.specs.Words.{is_some_where}
use Rattle.toll_base.specs.declared.decision.Change.{Change}
use Rattle.toll_base.specs.declared.decision.Change.TheVariants.{Owner, Put, Unit as UnitAdded}
use Rattle.toll_keep.proofs.Calls.{kept_as, kept_fault, kept_memory, kept_then, read_fault, read_memory, read_ok, reads_then}
use Rattle.toll_keep.specs.HeldFor.{KeepsHeld, PutsOutside}
use Rattle.toll_protocol.proofs.Arrivals.{arrives_once}
use Rattle.toll_protocol.specs.Parsing.{IsParsedAs}
use Rattle.toll_wire.proofs.Served.{if_saying_follows}
use Rattle.toll_wire.specs.Groups.{AreApart, AreHeld, AreHeldKeeping, AreHolding, AreSaid, IfAllUnchanging, IsGroup, IsUndone, MayBeReplies, comes_again, has_key, owner_in}
use Rattle.toll_wire.specs.Held.{HoldCalls, IsHeld, IsHeldBack, IsHeldBackKeeping, IsHolding}
use Rattle.toll_wire.specs.Sayings.{IsSaidBy}
use Rattle.toll_wire.specs.Steps.{may_write}
use Rattle.toll_wire.specs.declared.holding.HeldReply.{HeldReply}
use Rattle.toll_wire.specs.declared.together.HeldGroup.{HeldGroup}

or_parts : (a b : Bool) → (a || b) ≡ false → (a ≡ false) × (b ≡ false)
or_parts true b is = absurd (false≢true (sym is))
or_parts false b is = (refl, is)

or_none : (b : Bool) → b ≡ false → (b || false) ≡ false
or_none true is = is
or_none false is = refl

-- ---- the owner that is claimed

-- what the bytes say claims the owner of the parsed request
pub parsed_claims : (bytes : Bytes) (outcome : ParseResult) → IsParsedAs bytes outcome → (s : Saying) → Says bytes s → claimed_in s ≡ owner_in outcome
parsed_claims bytes outcome parsed s (other, is, said) = said_claims outcome (subst (λ outcome. IsSaidBy outcome s) (arrives_once bytes other outcome is parsed) said)
  where
    claims_of : (owner key : Option Bytes) (asks : Result Request Failure) → claimed_in (saying_of owner key asks) ≡ owner
    claims_of None key asks = refl
    claims_of (Some owner) key asks = refl

    said_claims : (outcome : ParseResult) → IsSaidBy outcome s → claimed_in s ≡ owner_in outcome
    said_claims (refused failure) is = ap claimed_in is
    said_claims (request verb target owner key body) is = ap claimed_in is.2 ∙ claims_of owner key is.0

-- one of these owners is the one that is claimed, if one is
abbrev pub is_claimed_among : List (Option Bytes) → Option Bytes → Bool
is_claimed_among owners claimed = is_some_where (λ o. list_any (λ other. is_some_where (λ p. same_bytes p o) other) owners) claimed

claims_mapped : (o : Bytes) (sayings : List Saying) → list_any (λ other. is_some_where (λ p. same_bytes p o) other) (map claimed_in sayings) ≡ list_any (claims o) sayings
claims_mapped o [] = refl
claims_mapped o (s ∷ sayings) = ap (λ b. claims o s || b) (claims_mapped o sayings)

pub among_is_again : (sayings : List Saying) (claimed : Option Bytes) → is_claimed_among (map claimed_in sayings) claimed ≡ comes_again sayings claimed
among_is_again sayings None = refl
among_is_again sayings (Some o) = claims_mapped o sayings

-- ---- one more

said_more : (requests : List Bytes) (sayings : List Saying) (bytes : Bytes) (s : Saying) → AreSaid requests sayings → Says bytes s → AreSaid (requests ++ bytes ∷ []) (sayings ++ s ∷ [])
said_more [] [] bytes s said says = (says, tt)
said_more (one ∷ requests) (first ∷ sayings) bytes s said says = (said.0, said_more requests sayings bytes s said.1 says)
said_more [] (first ∷ sayings) bytes s said says = absurd said
said_more (one ∷ requests) [] bytes s said says = absurd said

all_more : {X : Type 0} (P : X → Type 0) (xs : List X) (x : X) → AllByRecursion P xs → P x → AllByRecursion P (xs ++ x ∷ [])
all_more P [] x all is = (is, tt)
all_more P (y ∷ xs) x all is = (all.0, all_more P xs x all.1 is)

again_parts : (s : Saying) (sayings : List Saying) (claimed : Option Bytes) → comes_again (s ∷ sayings) claimed ≡ false → (comes_again (s ∷ []) claimed ≡ false) × (comes_again sayings claimed ≡ false)
again_parts s sayings None is = (refl, refl)
again_parts s sayings (Some o) is = let parts = or_parts (claims o s) (list_any (claims o) sayings) is in (or_none (claims o s) parts.0, parts.1)

apart_more : (sayings : List Saying) (s : Saying) → AreApart sayings → comes_again sayings (claimed_in s) ≡ false → AreApart (sayings ++ s ∷ [])
apart_more [] s apart first = (tt, tt)
apart_more (t ∷ sayings) s apart first =
    let parts = again_parts t sayings (claimed_in s) first in
    (all_more (λ later. comes_again (t ∷ []) (claimed_in later) ≡ false) sayings s apart.0 parts.0, apart_more sayings s apart.1 parts.1)

pub map_more : {X Y : Type 0} (f : X → Y) (xs : List X) (x : X) → map f (xs ++ x ∷ []) ≡ map f xs ++ f x ∷ []
map_more f [] x = refl
map_more f (y ∷ xs) x = ap (λ ys. f y ∷ ys) (map_more f xs x)

may_more : (sayings : List Saying) (texts : List (Vec ℕ)) (s : Saying) (text : Vec ℕ) → MayBeReplies sayings (map Text texts) → MayBeReply s text.items
    → MayBeReplies (sayings ++ s ∷ []) (map Text (texts ++ text ∷ []))
may_more [] [] s text may is = (is, tt)
may_more (first ∷ sayings) (one ∷ texts) s text may is = (may.0, may_more sayings texts s text may.1 is)
may_more [] (one ∷ texts) s text may is = absurd may
may_more (first ∷ sayings) [] s text may is = absurd may

unchanging_more : (c : Content) (sayings : List Saying) (texts : List (Vec ℕ)) (s : Saying) (text : Vec ℕ) (P Q R : Type 0) → MayBeReplies sayings (map Text texts) → (P → Q → R)
    → IfAllUnchanging c sayings (map Text texts) P → IfSayingUnchanging c s (Text text) Q → IfAllUnchanging c (sayings ++ s ∷ []) (map Text (texts ++ text ∷ [])) R
unchanging_more c [] [] s text P Q R may so first is = if_saying_follows c s (Text text) Q R (so first) is
unchanging_more c (other ∷ sayings) (one ∷ texts) s text P Q R may so first is =
    if_saying_follows c other (Text one) (IfAllUnchanging c sayings (map Text texts) P) (IfAllUnchanging c (sayings ++ s ∷ []) (map Text (texts ++ text ∷ [])) R)
    (λ later. unchanging_more c sayings texts s text P Q R may.1 so later is) first
unchanging_more c [] (one ∷ texts) s text P Q R may so first is = absurd may
unchanging_more c (other ∷ sayings) [] s text P Q R may so first is = absurd may

held_more : (c : Content) (H : History) (sayings : List Saying) (texts : List (Vec ℕ)) (changes more : List Change) (s : Saying) (text : Vec ℕ) → AreHeld c H sayings texts changes
    → IsHeld c H s text.items more → AreHeld c H (sayings ++ s ∷ []) (texts ++ text ∷ []) (changes ++ more)
held_more c H [] [] changes more s text none held = (more, [], ap (λ changes. changes ++ more) none ∙ sym (append-nil more), held, refl)
held_more c H (other ∷ sayings) (one ∷ texts) changes more s text (first, rest, are, is, others) held =
    (first, rest ++ more, ap (λ changes. changes ++ more) are ∙ append_assoc first rest more, is, held_more c H sayings texts rest more s text others held)
held_more c H [] (one ∷ texts) changes more s text is held = absurd is
held_more c H (other ∷ sayings) [] changes more s text is held = absurd is

no_more : (changes more : List Change) → changes ≡ [] → more ≡ [] → changes ++ more ≡ []
no_more changes more none also = ap (λ changes. changes ++ more) none ∙ also

module _ {K : Type 0} (meaning : Meaning K) where
  -- ---- the calls

  -- the keep was only read if one of the sayings has a key, and else not called
  abbrev pub AreRead : K → K → List Saying → Type 0
  AreRead old new sayings = ((list_any has_key sayings ≡ true) × IsReading {X = Unit {0}} meaning old new (Ok tt)) ⊎ ((list_any has_key sayings ≡ false) × (new ≡ old))

  key_more : (sayings : List Saying) (s : Saying) (b : Bool) → list_any has_key sayings ≡ b → list_any has_key (sayings ++ s ∷ []) ≡ (b || (has_key s || false))
  key_more sayings s b is = list_any-append has_key sayings (s ∷ []) ∙ ap (λ b. b || (has_key s || false)) is

  or_true : (b : Bool) → (b || true) ≡ true
  or_true true = refl
  or_true false = refl

  read_more : (old middle new : K) (sayings : List Saying) (s : Saying) (text : Vec ℕ) → AreRead old middle sayings → HoldCalls meaning middle new s (Ok text)
      → AreRead old new (sayings ++ s ∷ [])
  read_more old middle new sayings (By o (Some key) asking) text (inl first) reads =
      inl (key_more sayings (By o (Some key) asking) true first.0, reads_then meaning old middle new tt (Ok tt) first.1 (read_ok meaning middle new text tt reads.goes reads.keeps))
  read_more old middle new sayings (By o (Some key) asking) text (inr not) reads =
      inl (key_more sayings (By o (Some key) asking) false not.0, subst (λ k. IsReading {X = Unit {0}} meaning k new (Ok tt)) not.1 (read_ok meaning middle new text tt reads.goes reads.keeps))
  read_more old middle new sayings (By o None asking) text (inl first) still =
      inl (key_more sayings (By o None asking) true first.0, subst (λ k. IsReading {X = Unit {0}} meaning old k (Ok tt)) (sym still.0) first.1)
  read_more old middle new sayings (By o None asking) text (inr not) still = inr (key_more sayings (By o None asking) false not.0, still.0 ∙ not.1)
  read_more old middle new sayings (Nobody shown) text (inl first) still =
      inl (key_more sayings (Nobody shown) true first.0, subst (λ k. IsReading {X = Unit {0}} meaning old k (Ok tt)) (sym still.0) first.1)
  read_more old middle new sayings (Nobody shown) text (inr not) still = inr (key_more sayings (Nobody shown) false not.0, still.0 ∙ not.1)

  -- a keep that is honest now was honest before, and held what it holds
  honest_before : (middle new : K) (s : Saying) (text : Vec ℕ) → HoldCalls meaning middle new s (Ok text) → meaning.is_honest new → meaning.is_honest middle
  honest_before middle new (By o (Some key) asking) text reads = reads.goes.honest
  honest_before middle new (By o None asking) text still = subst meaning.is_honest still.0
  honest_before middle new (Nobody shown) text still = subst meaning.is_honest still.0

  still_held : (old new : K) (sayings : List Saying) → AreRead old new sayings → meaning.is_honest new → (c : Content) → meaning.holds old c → meaning.holds new c
  still_held old new sayings (inl called) now c held = (called.1.keeps now).content c held
  still_held old new sayings (inr not) now c held = subst (λ k. meaning.holds k c) (sym not.1) held

  -- ---- want of memory, and faults

  pub undone_memory : (old new : K) (sayings : List Saying) → AreRead old new sayings → IsUndone meaning old new Memory
  undone_memory old new sayings (inl called) = inr (read_memory meaning old new tt called.1.goes called.1.keeps)
  undone_memory old new sayings (inr not) = inl (not.1, refl)

  undone_hold : (old middle new : K) (sayings : List Saying) (s : Saying) (fault : KeepFault) → AreRead old middle sayings → HoldCalls meaning middle new s (Err fault)
      → IsUndone meaning old new fault
  undone_hold old middle new sayings (By o (Some key) asking) fault (inl first) reads =
      inr (reads_then meaning old middle new tt (Err fault) first.1 (read_fault meaning middle new fault reads.goes reads.keeps reads.whole))
  undone_hold old middle new sayings (By o (Some key) asking) fault (inr not) reads =
      inr (subst (λ k. IsReading {X = Unit {0}} meaning k new (Err fault)) not.1 (read_fault meaning middle new fault reads.goes reads.keeps reads.whole))
  undone_hold old middle new sayings (By o None asking) fault read still =
      subst (IsUndone meaning old new) (sym still.1) (subst (λ k. IsUndone meaning old k Memory) (sym still.0) (undone_memory old middle sayings read))
  undone_hold old middle new sayings (Nobody shown) fault read still =
      subst (IsUndone meaning old new) (sym still.1) (subst (λ k. IsUndone meaning old k Memory) (sym still.0) (undone_memory old middle sayings read))

  -- ---- so far

  -- these requests are held back, with the owners that they claim, and none claims one again
  pub record IsSoFar (old new : K) (requests : List Bytes) (owners : List (Option Bytes)) (texts : List (Vec ℕ)) (changes : List Change) : Type 0 where
    pub sayings : List Saying
    pub said : AreSaid requests sayings
    pub apart : AreApart sayings
    pub claimed : owners ≡ map claimed_in sayings
    pub holding : AreHolding meaning old new sayings texts changes

  pub so_far_none : (k : K) → IsSoFar k k [] [] [] []
  so_far_none k = record {
    sayings = [];
    said = tt;
    apart = tt;
    claimed = refl;
    holding = record {
      calls = inr (refl, refl);
      tells = tt;
      asks = λ none. refl;
      still = λ now c held. refl;
      over = λ now c H held stands lawful. refl;
    };
  }

  module _ (old middle new : K) (requests : List Bytes) (owners : List (Option Bytes)) (texts : List (Vec ℕ)) (changes : List Change)
      (before : IsSoFar old middle requests owners texts changes) where
    -- a call that met a fault: nothing was done
    pub undone_fault : (bytes : Bytes) (fault : KeepFault) → IsHeldBack meaning middle new bytes (Err fault) → IsUndone meaning old new fault
    undone_fault bytes fault (inl (s, says, holding)) = undone_hold old middle new before.sayings s fault before.holding.calls holding.calls
    undone_fault bytes fault (inr (lacks, still)) =
        let memory : fault ≡ Memory = cc lacks in
        subst (IsUndone meaning old new) (sym memory) (subst (λ k. IsUndone meaning old k Memory) (sym still) (undone_memory old middle before.sayings before.holding.calls))

    -- no memory for the changes
    pub undone_changes : (bytes : Bytes) (held : HeldReply) → IsHeldBack meaning middle new bytes (Ok held) → IsUndone meaning old new Memory
    undone_changes bytes held (inl (s, says, holding)) =
        undone_memory old new (before.sayings ++ s ∷ []) (read_more old middle new before.sayings s held.text before.holding.calls holding.calls)
    undone_changes bytes held (inr (lacks, still)) = absurd (cc lacks)

    holding_more : (s : Saying) (text : Vec ℕ) (more : List Change) → IsHolding meaning middle new s (Ok text) more
        → AreHolding meaning old new (before.sayings ++ s ∷ []) (texts ++ text ∷ []) (changes ++ more)
    holding_more s text more holding =
        let first = before.holding in
        record {
          calls = read_more old middle new before.sayings s text first.calls holding.calls;
          tells = may_more before.sayings texts s text first.tells holding.tells;
          asks = λ none.
              let parts = or_parts (list_any may_write before.sayings) (may_write s || false) (sym (list_any-append may_write before.sayings (s ∷ [])) ∙ none) in
              no_more changes more (first.asks parts.0) (holding.asks (or_parts (may_write s) false parts.1).0);
          still = λ now c held.
              let was = honest_before middle new s text holding.calls now in
              unchanging_more c before.sayings texts s text (changes ≡ []) (more ≡ []) (changes ++ more ≡ []) first.tells (no_more changes more) (first.still was c held)
              (holding.still now c (still_held old middle before.sayings first.calls was c held));
          over = λ now c H held stands lawful.
              let was = honest_before middle new s text holding.calls now in
              held_more c H before.sayings texts changes more s text (first.over was c H held stands lawful)
              (holding.over now c H (still_held old middle before.sayings first.calls was c held) stands lawful);
        }

    pub so_far_more : (bytes : Bytes) (outcome : ParseResult) → IsParsedAs bytes outcome → is_claimed_among owners (owner_in outcome) ≡ false → (held : HeldReply)
        → IsHeldBack meaning middle new bytes (Ok held)
        → IsSoFar old new (requests ++ bytes ∷ []) (owners ++ owner_in outcome ∷ []) (texts ++ held.text ∷ []) (changes ++ held.changes.items)
    so_far_more bytes outcome parsed other held (inr (lacks, still)) = absurd (cc lacks)
    so_far_more bytes outcome parsed other held (inl (s, says, holding)) =
        let claimed = parsed_claims bytes outcome parsed s says in
        let first : comes_again before.sayings (claimed_in s) ≡ false =
        sym (among_is_again before.sayings (claimed_in s)) ∙ ap (λ owners. is_claimed_among owners (claimed_in s)) (sym before.claimed) ∙ ap (is_claimed_among owners) claimed ∙ other in
        record {
          sayings = before.sayings ++ s ∷ [];
          said = said_more requests before.sayings bytes s before.said says;
          apart = apart_more before.sayings s before.apart first;
          claimed = ap (λ owners. owners ++ owner_in outcome ∷ []) before.claimed ∙ ap (λ o. map claimed_in before.sayings ++ o ∷ []) (sym claimed) ∙ sym (map_more claimed_in before.sayings s);
          holding = holding_more s held.text held.changes.items holding;
        }

    -- the same as the next iteration has them
    pub so_far_next : (bytes : Bytes) (outcome : ParseResult) → IsParsedAs bytes outcome → is_claimed_among owners (owner_in outcome) ≡ false → (held : HeldReply)
        → IsHeldBack meaning middle new bytes (Ok held) → (more : List Bytes) (claimed : List (Option Bytes)) (replies : List (Vec ℕ)) (made : List Change)
        → more ≡ requests ++ bytes ∷ [] → claimed ≡ owners ++ owner_in outcome ∷ [] → replies ≡ texts ++ held.text ∷ [] → made ≡ changes ++ held.changes.items
        → IsSoFar old new more claimed replies made
    so_far_next bytes outcome parsed other held back more claimed replies made more_are claimed_are replies_are made_are =
        subst₂ (λ more claimed. IsSoFar old new more claimed replies made) (sym more_are) (sym claimed_are)
        (subst₂ (λ replies made. IsSoFar old new (requests ++ bytes ∷ []) (owners ++ owner_in outcome ∷ []) replies made) (sym replies_are) (sym made_are)
        (so_far_more bytes outcome parsed other held back))

  -- ---- the group

  module _ (old new : K) (all first : List Bytes) (owners : List (Option Bytes)) (texts : List (Vec ℕ)) (changes : List Change)
      (so_far : IsSoFar old new first owners texts changes) where
    -- the requests that are held back are all that there are
    pub group_of_all : all ≡ first → (sayings : List Saying) × IsGroup all sayings × AreHolding meaning old new sayings texts changes
    group_of_all are = (
      so_far.sayings,
      record { first = first; rest = []; are = are ∙ sym (append-nil first); said = so_far.said; apart = so_far.apart; again = tt },
      so_far.holding,
    )

    -- or the next one claims an owner again
    pub group_before : (bytes : Bytes) (rest : List Bytes) → all ≡ first ++ bytes ∷ rest → (outcome : ParseResult) → IsParsedAs bytes outcome
        → is_claimed_among owners (owner_in outcome) ≡ true → (sayings : List Saying) × IsGroup all sayings × AreHolding meaning old new sayings texts changes
    group_before bytes rest are outcome parsed again = (
      so_far.sayings,
      record {
        first = first;
        rest = bytes ∷ rest;
        are = are;
        said = so_far.said;
        apart = so_far.apart;
        again = λ s says.
            sym (among_is_again so_far.sayings (claimed_in s)) ∙ ap (λ owners. is_claimed_among owners (claimed_in s)) (sym so_far.claimed)
            ∙ ap (is_claimed_among owners) (parsed_claims bytes outcome parsed s says) ∙ again;
      },
      so_far.holding,
    )

-- ---- the next request

module _ {X Y : Type 0} (f : X → Y) (xs : List X) (i : ℕ) (d : X) (left : i < length xs) where
  pub split_next : map f xs ≡ map f (take i xs) ++ f (get_or xs i d) ∷ map f (drop (suc i) xs)
  split_next =
      ap (map f) (sym (take-append-drop i xs) ∙ ap (λ ys. take i xs ++ ys) (drop-cons xs i d left)) ∙ map-append f (take i xs) (get_or xs i d ∷ drop (suc i) xs)

  pub taken_next : map f (take (i + 1) xs) ≡ map f (take i xs) ++ f (get_or xs i d) ∷ []
  taken_next = ap (map f) (take_more xs i d left) ∙ map_more f (take i xs) (get_or xs i d)

-- what is so of each request is so of this one
pub so_of_next : {X : Type 0} (P : X → Type 0) (first : List X) (x : X) (rest : List X) → AllByRecursion P (first ++ x ∷ rest) → P x
so_of_next P [] x rest all = all.0
so_of_next P (y ∷ first) x rest all = so_of_next P first x rest all.1

-- ---- what is held for others

puts_more : (os : List Bytes) (first more : List Change) → PutsOutside os first → PutsOutside os more → PutsOutside os (first ++ more)
puts_more os [] more puts other = other
puts_more os (Put o row ∷ first) more puts other = (puts.0, puts_more os first more puts.1 other)
puts_more os (Owner row ∷ first) more puts other = absurd puts
puts_more os (UnitAdded row ∷ first) more puts other = absurd puts

module _ {K : Type 0} (meaning : Meaning K) (old middle new : K) (os : List Bytes) (changes : List Change) where
  abbrev KeepSoFar : Type 0
  KeepSoFar = AreHeldKeeping {X = Unit {0}} meaning old middle (Ok tt) os changes

  -- one more is held back
  pub keeping_more : KeepSoFar → (held : HeldReply) → IsHeldBackKeeping meaning middle new os (Ok held) → (made : List Change) → made ≡ changes ++ held.changes.items
      → AreHeldKeeping {X = Unit {0}} meaning old new (Ok tt) os made
  keeping_more (inl (kept, puts)) held (inl (more, other)) made are = inl (
    kept_as meaning old new held tt (kept_then meaning old middle new tt (Ok held) kept more),
    subst (PutsOutside os) (sym are) (puts_more os changes held.changes.items puts other),
  )
  keeping_more (inr (still, none)) held (inl (more, other)) made are = inl (
    kept_as meaning old new held tt (subst (λ k. KeepsHeld meaning k new (Ok held)) still more),
    subst (PutsOutside os) (sym (are ∙ ap (λ first. first ++ held.changes.items) none)) other,
  )
  keeping_more before held (inr (lacks, same)) made are = absurd (cc lacks)

  -- or there is no memory for its changes
  pub keeping_memory : KeepSoFar → (held : HeldReply) → IsHeldBackKeeping meaning middle new os (Ok held)
      → AreHeldKeeping {X = HeldGroup} meaning old new (Err Memory) os []
  keeping_memory before held back = elim (keeping_more before held back (changes ++ held.changes.items) refl) [
    | inl kept ↦ inl (kept_memory meaning old new tt kept.0, tt)
    | inr still ↦ inr (still.0, refl)
  ]

  -- or it met a fault
  pub keeping_fault : KeepSoFar → (fault : KeepFault) → IsHeldBackKeeping meaning middle new os (Err fault)
      → AreHeldKeeping {X = HeldGroup} meaning old new (Err fault) os []
  keeping_fault (inl (kept, puts)) fault (inl (failed, none)) = inl (kept_fault meaning old new fault (kept_then meaning old middle new tt (Err fault) kept failed), tt)
  keeping_fault (inr (still, none)) fault (inl (failed, puts)) = inl (kept_fault meaning old new fault (subst (λ k. KeepsHeld {X = HeldReply} meaning k new (Err fault)) still failed), tt)
  keeping_fault (inl (kept, puts)) fault (inr (lacks, same)) =
      let memory : fault ≡ Memory = cc lacks in
      inl (subst₂ (λ k fault. KeepsHeld {X = HeldGroup} meaning old k (Err fault)) (sym same) (sym memory) (kept_memory meaning old middle tt kept), tt)
  keeping_fault (inr (still, none)) fault (inr (lacks, same)) = inr (same ∙ still, refl)

-- these are the group
pub keeping_group : {K : Type 0} (meaning : Meaning K) (old new : K) (os : List Bytes) (changes : List Change) (group : HeldGroup)
    → AreHeldKeeping {X = Unit {0}} meaning old new (Ok tt) os changes → AreHeldKeeping meaning old new (Ok group) os changes
keeping_group meaning old new os changes group (inl (kept, puts)) = inl (kept_as meaning old new tt group kept, puts)
keeping_group meaning old new os changes group (inr still) = inr still
