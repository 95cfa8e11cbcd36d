-- Requests of some owners, among those of anybody, are a run of their own.
use Rattle.std.proofs.Common.{◌≡◌, ◌⊎◌, true, false, Some, None, List, [], ◌∷◌, Contains, ℕ, refl, sym, subst, subst₂, inl, inr, ◌∙◌}
use Rattle.toll_base.proofs.Texts.{same_bytes-exact, same_bytes-refl}
use Rattle.toll_trace.proofs.Members.{Contains-cases, Contains-here, Contains-later, Contains-none}
use Rattle.toll_keep.specs.Meaning.{Part, meaning_for}
use Rattle.toll_desk.specs.Outcome.{HoldsFor}
use Rattle.toll_desk.specs.Reads.{Over}
use Rattle.toll_wire.proofs.Common.{AllByRecursion, Vec, false≢true, Bytes, same_bytes, Content, History, IsLawful, IsRun, IsStep, Meaning, Represents, Event, Answer, Text, Unavailable, By, Nobody, Saying, Says, OwnEvent, IsPart, claims, run_back}
use Rattle.toll_wire.specs.OfficeRuns.{AreRequestsAnswered, IsAnsweredFor, IsRequest, IsRequestAnswered, IsRunFor}
use Rattle.toll_wire.specs.Parts.{AreThoseOf}
use Rattle.toll_wire.specs.Sayings.{AreOfOneOf, IsByOneOf}
use Rattle.toll_wire.specs.Steps.{IsAnsweredKeeping}
use Rattle.toll_wire.specs.declared.event.Event.TheVariants.{Owner, Plant as Command}
use Rattle.toll_wire.specs.declared.event.Answer.TheVariants.{Bytes as Reply, Plant as CommandReply}
use Rattle.toll_wire.specs.declared.outgoing.Out.{Out}
use Rattle.toll_wire.proofs.Private.{run_of}
use Rattle.toll_wire.proofs.Readings.{are_of_one_of}
use Rattle.toll_wire.proofs.Serving.{event_honest, event_step}

-- ---- a request is one of these owners, or it isn't

contains_or_not : (os : List Bytes) (o : Bytes) → Contains os o ⊎ (¬ (Contains os o))
contains_or_not [] o = inr (Contains-none o)
contains_or_not (p ∷ os) o =
    elim (same_bytes p o) as (λ b. same_bytes p o ≡ b → Contains (p ∷ os) o ⊎ (¬ (Contains (p ∷ os) o))) [
      | true ↦ λ same. inl (subst (Contains (p ∷ os)) (same_bytes-exact p o same) (Contains-here p os))
      | false ↦ λ other. elim (contains_or_not os o) [
        | inl there ↦ inl (Contains-later p os o there)
        | inr none ↦ inr (λ is. elim (Contains-cases p os o is) [
          | inl same ↦ false≢true (sym other ∙ subst (λ q. same_bytes p q ≡ true) same (same_bytes-refl p))
          | inr later ↦ none later
        ])
      ]
    ] refl

by_one_or_not : (os : List Bytes) (s : Saying) → IsByOneOf os s ⊎ (¬ (IsByOneOf os s))
by_one_or_not os (By o (Some key) asking) = contains_or_not os o
by_one_or_not os (By o None asking) = inl tt
by_one_or_not os (Nobody text) = inl tt

of_one_or_not : (os : List Bytes) (bytes : Bytes) (s : Saying) → Says bytes s → AreOfOneOf os bytes ⊎ (¬ (AreOfOneOf os bytes))
of_one_or_not os bytes s says = elim (by_one_or_not os s) [
  | inl mine ↦ inl (are_of_one_of os bytes s says mine)
  | inr other ↦ inr (λ are. other (are s says))
]

-- An owner's part of all requests is its part of those of owners of whom it is one.
claims_one : (os : List Bytes) (o : Bytes) → Contains os o → (s : Saying) → claims o s ≡ true → IsByOneOf os s
claims_one os o mine (By p (Some key) asking) claimed = subst (Contains os) (sym (same_bytes-exact p o claimed)) mine
claims_one os o mine (By p None asking) claimed = tt
claims_one os o mine (Nobody text) claimed = tt

module _ (os : List Bytes) (o : Bytes) (mine : Contains os o) where
  part_of_theirs : (events : List Event) (answers : List Answer) (theirs : List Event) (their_replies : List Answer) (own : List OwnEvent) (replies : List Bytes)
      → AreThoseOf os events answers theirs their_replies → IsPart o events answers own replies → IsPart o theirs their_replies own replies
  part_of_theirs [] [] theirs their_replies own replies are part = subst₂ (λ events answers. IsPart o events answers own replies) (sym are.0) (sym are.1) part
  part_of_theirs (Owner bytes ∷ events) (Reply (Text text) ∷ answers) theirs their_replies own replies (inl (by_one, others, rest, first, second, are)) part =
      subst₂ (λ events answers. IsPart o events answers own replies) (sym first) (sym second) (elim part [
        | inl (claimed, more, later, is, reply_is, part) ↦ inl (claimed, more, later, is, reply_is, part_of_theirs events answers others rest more later are part)
        | inr (not, part) ↦ inr (not, part_of_theirs events answers others rest own replies are part)
      ])
  part_of_theirs (Owner bytes ∷ events) (Reply (Text text) ∷ answers) theirs their_replies own replies (inr (other, are)) part = elim part [
    | inl (claimed, more, later, is, reply_is, part) ↦ absurd (other (are_of_one_of os bytes.items claimed.0 claimed.1 (claims_one os o mine claimed.0 claimed.2)))
    | inr (not, part) ↦ part_of_theirs events answers theirs their_replies own replies are part
  ]
  part_of_theirs (Owner bytes ∷ events) (Reply Unavailable ∷ answers) theirs their_replies own replies are part =
      part_of_theirs events answers theirs their_replies own replies are part
  part_of_theirs (Owner bytes ∷ events) (CommandReply reply ∷ answers) theirs their_replies own replies are part = absurd are
  part_of_theirs (Command command ∷ events) (Reply out ∷ answers) theirs their_replies own replies are part = absurd are
  part_of_theirs (Command command ∷ events) (CommandReply reply ∷ answers) theirs their_replies own replies are part = absurd are
  part_of_theirs [] (a ∷ answers) theirs their_replies own replies are part = absurd are
  part_of_theirs (Owner bytes ∷ events) [] theirs their_replies own replies are part = absurd are
  part_of_theirs (Command command ∷ events) [] theirs their_replies own replies are part = absurd are

-- Events that are requests were answered as such.
module _ {K : Type 0} (os : List Bytes) (meaning : Meaning K) (part : List Bytes → Part K) where
  abbrev pub IsAnsweredIfRequest : K → Event → Answer → K → Type 0
  IsAnsweredIfRequest old event answer new = IsRequest event → IsRequestAnswered os meaning part old event answer new

  pub requests_answered : (old new : K) (events : List Event) (answers : List Answer) → AllByRecursion IsRequest events → IsRun IsAnsweredIfRequest old events answers new
      → AreRequestsAnswered os meaning part old events answers new
  requests_answered old new [] [] all run = run
  requests_answered old new (e ∷ events) (a ∷ answers) all run = (run.0, run.1 all.0, requests_answered run.0 new events answers all.1 run.2)
  requests_answered old new [] (a ∷ answers) all run = absurd run
  requests_answered old new (e ∷ events) [] all run = absurd run

module _ {K : Type 0} (os : List Bytes) (meaning : Meaning K) (part : List Bytes → Part K)
    (settled : (k : K) (c : Content) → meaning.is_honest k → meaning.is_store_open k → (part os).holds k c → (part os).leaves k (c ∷ [])) where
  abbrev held_for : Meaning K
  held_for = meaning_for meaning part os

  -- ---- one request

  request_honest : (old new : K) (e : Event) (a : Answer) → IsRequestAnswered os meaning part old e a new → meaning.is_honest new → meaning.is_honest old
  request_honest old new (Owner bytes) (Reply out) is = event_honest meaning old new (Owner bytes) (Reply out) is.answered
  request_honest old new (Owner bytes) (CommandReply reply) is = absurd is
  request_honest old new (Command command) (Reply out) is = absurd is
  request_honest old new (Command command) (CommandReply reply) is = absurd is

  -- what another owner's request keeps
  kept_by_others : (old new : K) (out : Out) → IsAnsweredKeeping held_for old new out → meaning.is_honest new → (c : Content) → (part os).holds old c
      → (part os).holds new c
  kept_by_others old new out (inl (outcome, called, kept)) now c held = (kept.keeps now).content c held
  kept_by_others old new out (inr (unread, same)) now c held = subst (λ k. (part os).holds k c) (sym same) held

  -- the rows of a lawful history are held for these owners
  record IsHeldFor (k : K) (c : Content) (H : History) : Type 0 where
    held : (part os).holds k c
    stands : Represents c H
    lawful : IsLawful H

  -- the requests of these owners are a run from the history to one whose rows are held
  record HasRun (new : K) (H : History) (events : List Event) (answers : List Answer) : Type 0 where
    own : List Event
    replies : List Answer
    are_theirs : AreThoseOf os events answers own replies
    content : Content
    last : History
    run : IsRun IsStep H own replies last
    after : IsHeldFor new content last

  -- a request more: the rest of the run goes on from what it leaves
  module _ (old middle new : K) (bytes : Vec ℕ) (events : List Event) (answers : List Answer) (now : meaning.is_honest middle) (c : Content) (H : History)
      (before : IsHeldFor old c H) (rest : (d : Content) (G : History) → IsHeldFor middle d G → HasRun new G events answers) where
    passed_over : (out : Out) → IsAnsweredKeeping held_for old middle out → HasRun new H events answers
    passed_over out keeping =
        rest c H (record { held = kept_by_others old middle out keeping now c before.held; stands = before.stands; lawful = before.lawful })

    replied : (text : Vec ℕ) → IsAnsweredFor os meaning part old middle bytes.items (Text text) → AreOfOneOf os bytes.items ⊎ (¬ (AreOfOneOf os bytes.items))
        → HasRun new H (Owner bytes ∷ events) (Reply (Text text) ∷ answers)
    replied text is (inl mine) =
        let (d, G, step) = event_step held_for settled old middle (Owner bytes) (Reply (Text text)) (is.alone mine) now c H before.held before.stands before.lawful in
        let more = rest d G (record { held = step.held; stands = step.stands; lawful = step.lawful }) in
        record {
          own = Owner bytes ∷ more.own;
          replies = Reply (Text text) ∷ more.replies;
          are_theirs = inl (mine, more.own, more.replies, refl, refl, more.are_theirs);
          content = more.content;
          last = more.last;
          run = (G, step.step, more.run);
          after = more.after;
        }
    replied text is (inr other) =
        let more = passed_over (Text text) (is.others other) in
        record {
          own = more.own;
          replies = more.replies;
          are_theirs = inr (other, more.are_theirs);
          content = more.content;
          last = more.last;
          run = more.run;
          after = more.after;
        }

    unreplied : IsAnsweredFor os meaning part old middle bytes.items Unavailable → AreOfOneOf os bytes.items ⊎ (¬ (AreOfOneOf os bytes.items))
        → HasRun new H events answers
    unreplied is (inl mine) =
        let (d, G, step) = event_step held_for settled old middle (Owner bytes) (Reply Unavailable) (is.alone mine) now c H before.held before.stands before.lawful in
        subst (λ F. HasRun new F events answers) step.step (rest d G (record { held = step.held; stands = step.stands; lawful = step.lawful }))
    unreplied is (inr other) = passed_over Unavailable (is.others other)

    request_more : (out : Out) → IsAnsweredFor os meaning part old middle bytes.items out → HasRun new H (Owner bytes ∷ events) (Reply out ∷ answers)
    request_more (Text text) is = elim is.answered [
      | inl answered ↦ replied text is (of_one_or_not os bytes.items answered.0 answered.1)
      | inr unread ↦ absurd (cc unread.0)
    ]
    request_more Unavailable is =
        let more : HasRun new H events answers = elim is.answered [
          | inl answered ↦ unreplied is (of_one_or_not os bytes.items answered.0 answered.1)
          | inr unread ↦ passed_over Unavailable (inr unread)
        ] in
        record {
          own = more.own;
          replies = more.replies;
          are_theirs = more.are_theirs;
          content = more.content;
          last = more.last;
          run = more.run;
          after = more.after;
        }

  -- ---- requests in order

  run_from : (old new : K) (events : List Event) (answers : List Answer) → AreRequestsAnswered os meaning part old events answers new → meaning.is_honest new
      → (c : Content) (H : History) → IsHeldFor old c H → HasRun new H events answers
  run_from old new [] [] run now c H before =
      record { own = []; replies = []; are_theirs = (refl, refl); content = c; last = H; run = refl; after = subst (λ k. IsHeldFor k c H) (sym run) before }
  run_from old new (Owner bytes ∷ events) (Reply out ∷ answers) run now c H before =
      let middle = run.0 in
      let then = run_back (IsRequestAnswered os meaning part) meaning.is_honest request_honest middle new events answers run.2 now in
      request_more old middle new bytes events answers then c H before (λ d G there. run_from middle new events answers run.2 now d G there) out run.1
  run_from old new (Owner bytes ∷ events) (CommandReply reply ∷ answers) run now c H before = absurd run.1
  run_from old new (Command command ∷ events) (Reply out ∷ answers) run now c H before = absurd run.1
  run_from old new (Command command ∷ events) (CommandReply reply ∷ answers) run now c H before = absurd run.1
  run_from old new [] (a ∷ answers) run now c H before = absurd run
  run_from old new (e ∷ events) [] run now c H before = absurd run

  pub requests_run : (old new : K) (events : List Event) (answers : List Answer) → AreRequestsAnswered os meaning part old events answers new
      → Over held_for old new (λ c H. IsRunFor os ((part os).holds new) H events answers)
  requests_run old new events answers run now c H held stands lawful =
      let is = run_from old new events answers run now c H (record { held = held; stands = stands; lawful = lawful }) in
      let left : HoldsFor ((part os).holds new) is.last = record { content = is.content; held = is.after.held; stands = is.after.stands } in
      let their_run = run_of ((part os).holds new) H is.last is.own is.replies is.run is.after.lawful left in
      record {
        own = is.own;
        replies = is.replies;
        are_theirs = is.are_theirs;
        run = their_run;
        alone = λ o mine other own replies is_part.
            (their_run.private o).1 other own replies (part_of_theirs os o mine events answers is.own is.replies own replies is.are_theirs is_part);
      }
