-- A group whose replies are held back is a run of its sayings, once the changes of all are made.
use Rattle.std.proofs.Common.{◌≡◌, ℕ, suc, length, Bool, true, false, ◌||◌, is_ok, MatchBool, Some, None, List, [], ◌∷◌, map, Result, Ok, Err, refl, sym, ap, subst, inl, inr, ◌∙◌}
use Rattle.std.specs.List.{list_any}
use Rattle.toll_wire.proofs.Common.{Vec, AllByRecursion, false≢true, Bytes, same_bytes, History, IsLawful, Meaning, Content, CallEffect, IsReading, Represents, KeepFault, has_owner_key, finished, Calls, IsKeepStep, calls_of, Text, Unavailable, Asks, Fails, Saying, By, Nobody, Says, after_saying, claimed_in, claims, IsSayingStep, IsRun}
use Rattle.toll_base.specs.Changes.{after_changes}
use Rattle.toll_base.specs.declared.decision.Change.{Change}
use Rattle.toll_base.specs.declared.rows.OwnerRow.{OwnerRow}
use Rattle.toll_history.specs.OwnChanges.{PutsOnly}
use Rattle.toll_keep.proofs.Calls.{Rests, answered, goes_fault, kept_as, kept_fault, read_ok}
use Rattle.toll_keep.proofs.StagedLemmas.{after_behind, fits_behind}
use Rattle.toll_keep.specs.CallEffects.{Keeps}
use Rattle.toll_keep.specs.Content.{after_owners, content_after}
use Rattle.toll_keep.specs.HeldFor.{KeepsOneMore, PutsOutside}
use Rattle.toll_desk.proofs.CommitLemmas.{commit_step, goes_on}
use Rattle.toll_desk.proofs.SliceToContent.{leads_nowhere}
use Rattle.toll_desk.proofs.StepLemmas.{step_as, store_uncalled}
use Rattle.toll_desk.specs.Outcome.{CommitEffect}
use Rattle.toll_desk.specs.Plans.{ChangesLeadTo}
use Rattle.toll_desk.specs.Reads.{Over}
use Rattle.toll_desk.specs.Steps.{StepKind, answered_steps}
use Rattle.toll_wire.proofs.Apart.{asked_alike, failed_alike, owners_kept, rows_missed}
use Rattle.toll_wire.proofs.Growth.{part-after_saying}
use Rattle.toll_wire.proofs.Served.{if_saying_follows, keeps_still, so_unchanging, still_from}
use Rattle.toll_wire.proofs.Valid.{IsValidSaying, lawful_after_saying, says_valid}
use Rattle.toll_wire.specs.Groups.{AreApart, AreHeld, AreHeldKeeping, AreHolding, AreSaid, IfAllUnchanging, IsGroupRefused, LeavesHeld, MayBeReplies, after_sayings, comes_again, group_steps, has_key}
use Rattle.toll_wire.specs.Held.{IsHeld, PutsFor}
use Rattle.toll_wire.specs.Steps.{ReplyCalls, may_write}
use Rattle.toll_wire.specs.declared.outgoing.Out.{Out}
use Rattle.toll_wire.specs.declared.together.HeldGroup.{HeldGroup}

-- ---- histories

lawful_after_sayings : (requests : List Bytes) (sayings : List Saying) → AreSaid requests sayings → (H : History) → IsLawful H → IsLawful (after_sayings H sayings)
lawful_after_sayings [] [] said H lawful = lawful
lawful_after_sayings (bytes ∷ requests) (s ∷ sayings) said H lawful =
    lawful_after_sayings requests sayings said.1 (after_saying H s) (lawful_after_saying H s (says_valid bytes s said.0) lawful)
lawful_after_sayings [] (s ∷ sayings) said H lawful = absurd said
lawful_after_sayings (bytes ∷ requests) [] said H lawful = absurd said

-- ---- one saying, and what was held back beside it

or_nothing : (b : Bool) → (b || false) ≡ false → b ≡ false
or_nothing true is = is
or_nothing false is = refl

-- the changes of a saying leave the rows of each owner that it doesn't claim, and all owners
puts_elsewhere : (H : History) (s : Saying) (changes : List Change) (c : Content) (o : Bytes) → PutsFor H s changes → claims o s ≡ false → (c.rows o).owner ≡ o
    → c.rows o ≡ after_changes changes (c.rows o)
puts_elsewhere H (By p (Some key) (Asks q)) changes c o puts other named =
    elim (has_owner_key p key H) as (λ b. MatchBool b (PutsOnly p changes) (changes ≡ []) → c.rows o ≡ after_changes changes (c.rows o)) [
      | true ↦ λ puts. sym (rows_missed p changes (c.rows o) puts (ap (same_bytes p) named ∙ other))
      | false ↦ λ none. ap (λ changes. after_changes changes (c.rows o)) (sym none)
    ] puts
puts_elsewhere H (By p (Some key) (Fails text)) changes c o puts other named = ap (λ changes. after_changes changes (c.rows o)) (sym puts)
puts_elsewhere H (By p None asking) changes c o puts other named = ap (λ changes. after_changes changes (c.rows o)) (sym puts)
puts_elsewhere H (Nobody text) changes c o puts other named = ap (λ changes. after_changes changes (c.rows o)) (sym puts)

puts_no_owner : (H : History) (s : Saying) (changes : List Change) (rows : List OwnerRow) → PutsFor H s changes → rows ≡ after_owners changes rows
puts_no_owner H (By p (Some key) (Asks q)) changes rows puts =
    elim (has_owner_key p key H) as (λ b. MatchBool b (PutsOnly p changes) (changes ≡ []) → rows ≡ after_owners changes rows) [
      | true ↦ λ puts. sym (owners_kept p changes rows puts)
      | false ↦ λ none. ap (λ changes. after_owners changes rows) (sym none)
    ] puts
puts_no_owner H (By p (Some key) (Fails text)) changes rows puts = ap (λ changes. after_owners changes rows) (sym puts)
puts_no_owner H (By p None asking) changes rows puts = ap (λ changes. after_owners changes rows) (sym puts)
puts_no_owner H (Nobody text) changes rows puts = ap (λ changes. after_owners changes rows) (sym puts)

module _ (bytes : Bytes) (s : Saying) (says : Says bytes s) (c : Content) (H : History) (stands : Represents c H) (lawful : IsLawful H) (text : Bytes) (first : List Change)
    (held : IsHeld c H s text first) where
  abbrev content_behind : Content
  content_behind = content_after first c

  abbrev history_behind : History
  history_behind = after_saying H s

  lawful_behind : IsLawful history_behind
  lawful_behind = lawful_after_saying H s (says_valid bytes s says) lawful

  -- what is held back of another owner's saying is so behind this one too
  held_behind : (later : Saying) → IsValidSaying later → comes_again (s ∷ []) (claimed_in later) ≡ false → (text : Bytes) (changes : List Change)
      → IsHeld c H later text changes → IsHeld content_behind history_behind later text changes
  held_behind (By o (Some key) (Asks q)) valid other text changes is =
      let apart = or_nothing (claims o s) other in
      asked_alike c content_behind H history_behind stands held.leads.stands lawful lawful_behind (puts_no_owner H s first c.owners held.puts)
      o (part-after_saying o bytes H s says apart) (puts_elsewhere H s first c o held.puts apart (stands.own o)) key q valid text changes is
  held_behind (By o (Some key) (Fails reported)) valid other text changes is =
      let apart = or_nothing (claims o s) other in
      failed_alike c content_behind H history_behind stands held.leads.stands lawful lawful_behind (puts_no_owner H s first c.owners held.puts)
      o (part-after_saying o bytes H s says apart) (puts_elsewhere H s first c o held.puts apart (stands.own o)) key reported text changes is
  held_behind (By o None asking) valid other text changes is = record {
    told = is.told;
    leads = subst (λ changes. ChangesLeadTo content_behind changes history_behind) (sym is.puts) (leads_nowhere content_behind history_behind held.leads.stands);
    puts = is.puts;
  }
  held_behind (Nobody reported) valid other text changes is = record {
    told = is.told;
    leads = subst (λ changes. ChangesLeadTo content_behind changes history_behind) (sym is.puts) (leads_nowhere content_behind history_behind held.leads.stands);
    puts = is.puts;
  }

  all_behind : (requests : List Bytes) (sayings : List Saying) → AreSaid requests sayings → AllByRecursion (λ later. comes_again (s ∷ []) (claimed_in later) ≡ false) sayings
      → (texts : List (Vec ℕ)) (changes : List Change) → AreHeld c H sayings texts changes → AreHeld content_behind history_behind sayings texts changes
  all_behind [] [] said apart [] changes is = is
  all_behind (request ∷ requests) (later ∷ sayings) said apart (text ∷ texts) changes (mine, rest, are, is, others) = (
    mine,
    rest,
    are,
    held_behind later (says_valid request later said.0) apart.0 text.items mine is,
    all_behind requests sayings said.1 apart.1 texts rest others,
  )
  all_behind [] (later ∷ sayings) said apart texts changes is = absurd said
  all_behind (request ∷ requests) [] said apart texts changes is = absurd said
  all_behind [] [] said apart (text ∷ texts) changes is = absurd is
  all_behind (request ∷ requests) (later ∷ sayings) said apart [] changes is = absurd is

-- ---- all of them

-- the changes of all lead to the history behind all, and the replies are a run to it
pub record AreLed (c : Content) (H : History) (sayings : List Saying) (texts : List (Vec ℕ)) (changes : List Change) : Type 0 where
  pub leads : ChangesLeadTo c changes (after_sayings H sayings)
  pub run : IsRun IsSayingStep H sayings (map Text texts) (after_sayings H sayings)

pub group_leads : (requests : List Bytes) (sayings : List Saying) → AreSaid requests sayings → AreApart sayings → (texts : List (Vec ℕ)) (changes : List Change)
    (c : Content) (H : History) → Represents c H → IsLawful H → AreHeld c H sayings texts changes → AreLed c H sayings texts changes
group_leads [] [] said apart [] changes c H stands lawful none =
    record { leads = subst (λ changes. ChangesLeadTo c changes H) (sym none) (leads_nowhere c H stands); run = refl }
group_leads (bytes ∷ requests) (s ∷ sayings) said apart (text ∷ texts) changes c H stands lawful (first, rest, are, held, others) =
    let behind = all_behind bytes s said.0 c H stands lawful text.items first held requests sayings said.1 apart.0 texts rest others in
    let led = group_leads requests sayings said.1 apart.1 texts rest (content_after first c) (after_saying H s) held.leads.stands
    (lawful_behind bytes s said.0 c H stands lawful text.items first held) behind in
    record {
      leads = subst (λ changes. ChangesLeadTo c changes (after_sayings (after_saying H s) sayings)) (sym are) (record {
        stands = subst (λ d. Represents d (after_sayings (after_saying H s) sayings)) (sym (after_behind first rest c)) led.leads.stands;
        fits = fits_behind first rest c held.leads.fits led.leads.fits;
      });
      run = (after_saying H s, (held.told, refl), led.run);
    }
group_leads [] (s ∷ sayings) said apart texts changes c H stands lawful is = absurd said
group_leads (bytes ∷ requests) [] said apart texts changes c H stands lawful is = absurd said
group_leads [] [] said apart (text ∷ texts) changes c H stands lawful is = absurd is
group_leads (bytes ∷ requests) (s ∷ sayings) said apart [] changes c H stands lawful is = absurd is

-- ---- without a key

no_key_writes_none : (sayings : List Saying) → list_any has_key sayings ≡ false → list_any may_write sayings ≡ false
no_key_writes_none [] none = refl
no_key_writes_none (By o (Some key) asking ∷ sayings) none = absurd (false≢true (sym none))
no_key_writes_none (By o None asking ∷ sayings) none = no_key_writes_none sayings none
no_key_writes_none (Nobody text ∷ sayings) none = no_key_writes_none sayings none

no_key_stays : (H : History) (sayings : List Saying) → list_any has_key sayings ≡ false → after_sayings H sayings ≡ H
no_key_stays H [] none = refl
no_key_stays H (By o (Some key) asking ∷ sayings) none = absurd (false≢true (sym none))
no_key_stays H (By o None asking ∷ sayings) none = no_key_stays H sayings none
no_key_stays H (Nobody text ∷ sayings) none = no_key_stays H sayings none

-- ---- the step

-- the replies after the change of the keep, and none after a fault of it
abbrev pub outs_of : List Saying → Result (List (Vec ℕ)) KeepFault → List Out
outs_of sayings (Ok texts) = map Text texts
outs_of sayings (Err fault) = map (λ s. Unavailable) sayings

none_replied : (H : History) (sayings : List Saying) → IsRun IsSayingStep H sayings (map (λ s. Unavailable) sayings) H
none_replied H [] = refl
none_replied H (s ∷ sayings) = (H, refl, none_replied H sayings)

none_may_be : (sayings : List Saying) → MayBeReplies sayings (map (λ s. Unavailable) sayings)
none_may_be [] = tt
none_may_be (s ∷ sayings) = (tt, none_may_be sayings)

all_answered : (texts : List (Vec ℕ)) (calls : Calls) → calls ≡ Some (Ok tt) → AllByRecursion (λ out. ReplyCalls out calls) (map Text texts)
all_answered [] calls is = tt
all_answered (text ∷ texts) calls is = (is, all_answered texts calls is)

none_answered : (sayings : List Saying) (fault : KeepFault) (calls : Calls) → calls ≡ Some (Err fault) → AllByRecursion (λ out. ReplyCalls out calls) (map (λ s. Unavailable) sayings)
none_answered [] fault calls is = tt
none_answered (s ∷ sayings) fault calls is = ((fault, is), none_answered sayings fault calls is)

-- as many replies as sayings
pub replies_count : (sayings : List Saying) (texts : List (Vec ℕ)) → MayBeReplies sayings (map Text texts) → length texts ≡ length sayings
replies_count [] [] may = refl
replies_count (s ∷ sayings) (text ∷ texts) may = ap suc (replies_count sayings texts may.1)
replies_count [] (text ∷ texts) may = absurd may
replies_count (s ∷ sayings) [] may = absurd may

-- what is so at all is so if all are to change nothing
all_so : (c : Content) (sayings : List Saying) (outs : List Out) (P : Type 0) → P → IfAllUnchanging c sayings outs P
all_so c [] outs P p = p
all_so c (s ∷ sayings) [] P p = p
all_so c (s ∷ sayings) (out ∷ outs) P p = so_unchanging c s out (IfAllUnchanging c sayings outs P) (all_so c sayings outs P p)

-- what follows is so if they are
all_follow : (c : Content) (sayings : List Saying) (outs : List Out) (P Q : Type 0) → (P → Q) → IfAllUnchanging c sayings outs P → IfAllUnchanging c sayings outs Q
all_follow c [] outs P Q follows is = follows is
all_follow c (s ∷ sayings) [] P Q follows is = follows is
all_follow c (s ∷ sayings) (out ∷ outs) P Q follows is =
    if_saying_follows c s out (IfAllUnchanging c sayings outs P) (IfAllUnchanging c sayings outs Q) (all_follow c sayings outs P Q follows) is

module _ {K : Type 0} (meaning : Meaning K) (rests : Rests meaning) (old middle new : K) (requests : List Bytes) (sayings : List Saying)
    (said : AreSaid requests sayings) (apart : AreApart sayings) (texts : List (Vec ℕ)) (changes made : List Change) (same : made ≡ changes)
    (holding : AreHolding meaning old middle sayings texts changes) (result : Result (Unit {0}) KeepFault) (commit : CommitEffect meaning middle new made result) where
  abbrev group_outcome : Result (List (Vec ℕ)) KeepFault
  group_outcome = finished (answered texts) result

  abbrev told_together : StepKind (List Saying) (Result (List (Vec ℕ)) KeepFault)
  told_together = answered_steps (λ H ss (ts : List (Vec ℕ)). IsRun IsSayingStep H ss (map Text ts) (after_sayings H ss)) after_sayings (λ ss r calls. calls ≡ calls_of r)
      (λ c ss r P. IfAllUnchanging c ss (outs_of ss r) P)

  group_led : Over meaning old middle (λ c H. AreLed c H sayings texts changes)
  group_led now c H held stands lawful = group_leads requests sayings said apart texts changes c H stands lawful (holding.over now c H held stands lawful)

  -- ---- with a key

  module _ (has : list_any has_key sayings ≡ true) (reads : IsReading {X = Unit {0}} meaning old middle (Ok tt)) where
    group_read : IsReading meaning old middle (answered texts)
    group_read = read_ok meaning old middle tt texts reads.goes reads.keeps

    still_together : (c : Content) (P : Type 0) → IfAllUnchanging c sayings (map Text texts) (changes ≡ []) → (r : Result (Unit {0}) KeepFault)
        → (is_ok (finished (answered texts) r) ≡ false → P) → (changes ≡ [] → P) → IfAllUnchanging c sayings (outs_of sayings (finished (answered texts) r)) P
    still_together c P still (Ok done) stays none = all_follow c sayings (map Text texts) (changes ≡ []) P none still
    still_together c P still (Err fault) stays none = all_so c sayings (map (λ s. Unavailable) sayings) P (stays refl)

    made_together : IsKeepStep meaning told_together old sayings group_outcome new
    made_together =
        commit_step meaning rests old middle new (answered texts) group_outcome changes made result same refl group_read commit
        is_ok (λ fault. refl) (λ is. absurd (false≢true (sym is)))
        (λ H ss (ts : List (Vec ℕ)). IsRun IsSayingStep H ss (map Text ts) (after_sayings H ss)) after_sayings sayings (λ H lawful. lawful_after_sayings requests sayings said H lawful)
        (λ now c H held stands lawful. let led = group_led now c H held stands lawful in (led.run, led.leads)) _ refl _
        (λ now c held P stays none. still_together c P (holding.still now c held) result stays none)

    as_group : (r : Result (Unit {0}) KeepFault) → IsKeepStep meaning told_together old sayings (finished (answered texts) r) new
        → IsKeepStep meaning group_steps old sayings (outs_of sayings (finished (answered texts) r)) new
    as_group (Ok done) step = record {
      outcome = step.outcome;
      calls = (holding.tells, inl (has, all_answered texts step.outcome step.calls));
      store = step.store;
      still = step.still;
      over = λ now c H held stands lawful.
          step_as meaning told_together.step told_together.may_make group_steps.step group_steps.may_make old new c H sayings (Ok texts) sayings (map Text texts)
          (λ G step. subst (IsRun IsSayingStep H sayings (map Text texts)) (sym step.1.1) step.1.0) (λ G makes. makes) (step.over now c H held stands lawful);
    }
    as_group (Err fault) step = record {
      outcome = step.outcome;
      calls = (none_may_be sayings, inl (has, none_answered sayings fault step.outcome step.calls));
      store = step.store;
      still = step.still;
      over = λ now c H held stands lawful.
          step_as meaning told_together.step told_together.may_make group_steps.step group_steps.may_make old new c H sayings (Err fault) sayings (map (λ s. Unavailable) sayings)
          (λ G step. subst (IsRun IsSayingStep H sayings (map (λ s. Unavailable) sayings)) (sym step.1) (none_replied H sayings)) (λ G makes. makes)
          (step.over now c H held stands lawful);
    }

  -- ---- without a key

  module _ (none : list_any has_key sayings ≡ false) (uncalled : middle ≡ old) where
    unmade : (new ≡ middle) × (result ≡ Ok tt)
    unmade = commit.idle (same ∙ holding.asks (no_key_writes_none sayings none))

    uncalled_together : IsKeepStep meaning group_steps old sayings (map Text texts) new
    uncalled_together =
        let still : new ≡ old = unmade.0 ∙ uncalled in
        record {
          outcome = None;
          calls = (holding.tells, inr (none, refl));
          store = store_uncalled meaning rests old new still;
          still = λ now c held. all_so c sayings (map Text texts) (meaning.holds new c) (subst (λ k. meaning.holds k c) (sym still) held);
          over = λ now c H held stands lawful.
              let before = subst meaning.is_honest unmade.0 now in
              let led = group_led before c H held stands lawful in
              let kept = subst (λ k. Keeps meaning old k) (sym still) (keeps_still meaning rests old (subst meaning.is_honest still now)) in
              still_from meaning group_steps.step group_steps.may_make old new c H stands lawful kept held sayings (map Text texts)
              (subst (IsRun IsSayingStep H sayings (map Text texts)) (no_key_stays H sayings none) led.run) (after_sayings H sayings) refl;
        }

  -- ---- with one or without

  -- the group is served in one step
  pub together_step : IsKeepStep meaning group_steps old sayings (outs_of sayings group_outcome) new
  together_step = elim holding.calls [
    | inl called ↦ as_group called.0 called.1 result (made_together called.0 called.1)
    | inr not ↦ subst (λ r. IsKeepStep meaning group_steps old sayings (outs_of sayings (finished (answered texts) r)) new) (sym (unmade not.0 not.1).1) (uncalled_together not.0 not.1)
  ]

  -- the fault that the change of the keep met
  module _ (fault : KeepFault) (failed : result ≡ Err fault) where
    never_idle : {P : Type 0} → made ≡ [] → P
    never_idle is = let done = (commit.idle is).1 in absurd (cc (done, failed))

    group_writes : (b : Bool) → list_any may_write sayings ≡ b → b ≡ true
    group_writes true is = refl
    group_writes false is = never_idle (same ∙ holding.asks is)

    pub together_refused : IsGroupRefused meaning old new sayings fault
    together_refused = elim holding.calls [
      | inl called ↦ record {
        writes = group_writes (list_any may_write sayings) refl;
        goes =
            let reads = group_read called.0 called.1 in
            goes_fault meaning {X = List (Vec ℕ)} old new fault
            (subst (λ r. CallEffect meaning old new (finished (answered texts) r)) failed (goes_on meaning old middle new (answered texts) made result reads.goes tt commit.idle commit.goes));
        whole = λ now c held keeps damaged. commit.whole now c ((called.1.keeps (commit.honest now)).content c held) keeps (failed ∙ damaged);
      }
      | inr not ↦ never_idle (same ∙ holding.asks (no_key_writes_none sayings not.0))
    ]

-- ---- what is held for others

module _ {K : Type 0} (meaning : Meaning K) (old middle new : K) (os : List Bytes) (group : HeldGroup) (made : List Change) (same : made ≡ group.changes.items)
    (result : Result (Unit {0}) KeepFault) (commit : CommitEffect meaning middle new made result) where
  pub together_keeps : AreHeldKeeping meaning old middle (Ok group) os group.changes.items → (PutsOutside os made → KeepsOneMore meaning middle new result)
      → LeavesHeld meaning old new result
  together_keeps (inl (kept, puts)) more = inl (more (subst (PutsOutside os) (sym same) puts) old (kept_as meaning old middle group tt kept))
  together_keeps (inr (still, none)) more = inr ((commit.idle (same ∙ none)).0 ∙ still)

pub undone_keeps : {K : Type 0} (meaning : Meaning K) (old new : K) (os : List Bytes) (fault : KeepFault)
    → AreHeldKeeping {X = HeldGroup} meaning old new (Err fault) os [] → LeavesHeld {X = Unit {0}} meaning old new (Err fault)
undone_keeps meaning old new os fault (inl (kept, puts)) = inl (kept_fault meaning old new fault kept)
undone_keeps meaning old new os fault (inr (still, none)) = inr still
