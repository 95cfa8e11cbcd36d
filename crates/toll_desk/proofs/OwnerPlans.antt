-- From a plan over a slice to a plan over the content of a keep.
use Rattle.std.proofs.Common.{◌≡◌, Bool, true, false, not, ◌&&◌, ◌||◌, Option, Some, None, is_some, is_ok, List, [], Result, Ok, Err, IfOk, refl, sym, ap, subst, ◌∙◌}
use Rattle.std.specs.Prelude.{if◌then◌else◌}
use Rattle.std.specs.declared.alloc.AllocError.{AllocError}
use Rattle.toll_answers.proofs.OwnReplies.{lawful-grow}
use Rattle.toll_answers.specs.Replies.{IsValidOwnerRequest}
use Rattle.toll_keep.proofs.Calls.{kept_as}
use Rattle.toll_keep.specs.HeldFor.{KeepsOneMore}
use Rattle.toll_keep.specs.Reads.{ReadsOneMore}
use Rattle.toll_desk.specs.Translations.{meaning_of_reply, writes}
use Rattle.toll_desk.proofs.Common.{IfOk-weaker, false≢true, Meaning, KeepFault, read_ok, option_map, Bytes, bytes_cmp, same_bytes, house_name, is_some_where, where_so, row_at, PlaceOrder, CancelOrder, Release, Reject, by, History, acts, owner_key, owner_known, Slice, IsRowsOf, IsLawful, after_changes, ChangesKeepRules, Change, OwnerRow, Content, knows, slice_of, Represents, PutsOnly, Request, OwnerReply, ReplyForbidden, has_owner_key, IsOwnerAnswer, after_answer, IsReply, after_reply}
use Rattle.toll_desk.proofs.Knowing.{represented_knows}
use Rattle.toll_desk.specs.Admission.{is_admitted}
use Rattle.toll_desk.specs.Plans.{IsPlanOver, IsPlanFor, IsPlan}
use Rattle.toll_desk.proofs.SliceToContent.{SamePlant, same_plant-refl, same_grown, leads_on, leads_nowhere}
use Rattle.toll_base.specs.declared.request.Request.TheVariants as request
use Rattle.toll_desk.specs.declared.plan.Plan.{Plan}
use Rattle.toll_desk.specs.declared.request.Reply.{Reply}

-- ---- the key

key_of_row : (key o : Bytes) (x : Option Bytes) → is_some_where (λ row. same_bytes key row.key) (option_map {T = Bytes} {U = OwnerRow} (λ k. record { owner = o; key = k }) x) ≡ is_some_where (same_bytes key) x
key_of_row key o None = refl
key_of_row key o (Some k) = refl

-- The owner that a content's owners admit is the one with the key.
pub admits_alike : (c : Content) (H : History) (o key : Bytes) → Represents c H → is_admitted c.owners o key ≡ has_owner_key o key H
admits_alike c H o key stands =
    ap (λ row. not (same_bytes o house_name) && is_some_where (λ (r : OwnerRow). same_bytes key r.key) row) (stands.owners.each o)
    ∙ ap (λ b. not (same_bytes o house_name) && b) (key_of_row key o (owner_key (acts o H)))

some_or_house : {X : Type 0} (p : X → Bool) (h : Bool) (x : Option X) → (not h && is_some_where p x) ≡ true → (h || is_some x) ≡ true
some_or_house p true x e = refl
some_or_house p false None e = e
some_or_house p false (Some x) e = refl

pub key_known : (c : Content) (H : History) (o key : Bytes) → Represents c H → has_owner_key o key H ≡ true → owner_known H o ≡ true
key_known c H o key stands right = sym (represented_knows H c stands o) ∙ some_or_house (λ row. same_bytes key row.key) (same_bytes o house_name) (row_at bytes_cmp (λ row. row.owner) c.owners o) (admits_alike c H o key stands ∙ right)

-- HOUSE has no key
pub not_house_by : (H : History) (o key : Bytes) → has_owner_key o key H ≡ true → same_bytes o house_name ≡ false
not_house_by H o key right = no_house (same_bytes o house_name) (is_some_where (same_bytes key) (owner_key (acts o H))) right
  where
    no_house : (h b : Bool) → (not h && b) ≡ true → h ≡ false
    no_house true b e = sym e
    no_house false b e = refl

pub right_key : (o name : Bytes) (b : Bool) → Some name ≡ where_so b o → (b ≡ true) × (name ≡ o)
right_key o name true e = (refl, cc)
right_key o name false e = (cc)

pub wrong_key : (o : Bytes) (b : Bool) → None ≡ where_so b o → b ≡ false
wrong_key o true e = (cc)
wrong_key o false e = refl

-- ---- the slice that is read

read_some : (b : Bool) (s x : Slice) → Some s ≡ (if b then Some x else None) → s ≡ x
read_some true s x e = cc
read_some false s x e = (cc)

pub slice_read : (c : Content) (o : Bytes) (s : Slice) → Some s ≡ slice_of c o → s ≡ c.rows o
slice_read c o s e = read_some (knows c o) s (c.rows o) e

read_none : (b : Bool) (x : Slice) → None ≡ (if b then Some x else None) → b ≡ false
read_none true x e = (cc)
read_none false x e = refl

read_known : (b : Bool) (s x : Slice) → Some s ≡ (if b then Some x else None) → b ≡ true
read_known true s x e = refl
read_known false s x e = (cc)

pub some_read : (c : Content) (H : History) (o : Bytes) (s : Slice) → Represents c H → Some s ≡ slice_of c o → owner_known H o ≡ true
some_read c H o s stands e = sym (represented_knows H c stands o) ∙ read_known (knows c o) s (c.rows o) e

pub unread_is_unknown : (c : Content) (H : History) (o : Bytes) → Represents c H → None ≡ slice_of c o → owner_known H o ≡ false
unread_is_unknown c H o stands e = sym (represented_knows H c stands o) ∙ read_none (knows c o) (c.rows o) e

-- ---- plans

-- an owner's request adds no owner and no unit
same_answer : (o : Bytes) (H : History) (q : Request) → SamePlant H (after_answer o H q)
same_answer o H (request.Place placing) = same_grown H o (PlaceOrder placing) refl
same_answer o H (request.Cancel order) = same_grown H o (CancelOrder order) refl
same_answer o H (request.Release lot) = same_grown H o (Release lot) refl
same_answer o H (request.Reject lot) = same_grown H o (Reject lot) refl
same_answer o H _ = same_plant-refl H

pub plan_lift : (c : Content) (H : History) (o : Bytes) (q : Request) (s : Slice) (reported : OwnerReply) (changes : List Change) → Represents c H → IsLawful H → owner_known H o ≡ true → s ≡ c.rows o → IsPlanOver H s q reported changes → IsPlanFor c H o q reported changes
plan_lift c H o q s reported changes stands lawful known is plan =
    let named : s.owner ≡ o = ap (λ t. t.owner) is ∙ stands.own o in
    let own = subst (λ p. PutsOnly p changes) named plan.own in
    record {
      answer = subst (λ p. IsOwnerAnswer p H q reported) named plan.answer;
      leads = leads_on c H stands lawful o known changes own (subst (ChangesKeepRules changes) is plan.rules) (after_answer o H q) (same_answer o H q) (λ t there. subst (λ p. IsRowsOf (after_answer p H q) (after_changes changes t)) named (plan.rows t there));
      own = own;
    }

-- a request that doesn't write leaves the history
answer_stays : (o : Bytes) (H : History) (q : Request) → writes q ≡ false → after_answer o H q ≡ H
answer_stays o H (request.Place placing) quiet = absurd (false≢true (sym quiet))
answer_stays o H (request.Cancel order) quiet = absurd (false≢true (sym quiet))
answer_stays o H (request.Release lot) quiet = absurd (false≢true (sym quiet))
answer_stays o H (request.Reject lot) quiet = absurd (false≢true (sym quiet))
answer_stays o H _ quiet = refl

-- so its plan makes no change
pub shown_plan : (H : History) (s : Slice) (q : Request) (reported : Result OwnerReply KeepFault) (changes : List Change) → changes ≡ [] → writes q ≡ false → IfOk reported (IsOwnerAnswer s.owner H q) → IfOk reported (λ r. IsPlanOver H s q r changes)
shown_plan H s q reported changes none quiet =
    IfOk-weaker reported _ _ (λ r answer. subst (IsPlanOver H s q r) (sym none)
    (record { answer = answer; rows = λ t rows. subst (λ G. IsRowsOf G t) (sym (answer_stays s.owner H q quiet)) rows; rules = tt; own = tt }))

-- over rows alone no more is read
module _ {K : Type 0} (meaning : Meaning K) (k : K) where
  reply_unread : (reported : Result OwnerReply KeepFault) → is_ok reported ≡ true → ReadsOneMore meaning k k reported
  reply_unread (Ok r) answered first read = read_ok meaning first k tt r read.goes read.keeps
  reply_unread (Err fault) answered first read = absurd (false≢true answered)

  pub plan_unread : (result : Result (Plan Reply) AllocError) → IfOk result (λ planned. is_ok (meaning_of_reply planned.reply) ≡ true) → IfOk result (λ planned. ReadsOneMore meaning k k (meaning_of_reply planned.reply))
  plan_unread result = IfOk-weaker result _ _ (λ planned answered. reply_unread (meaning_of_reply planned.reply) answered)

  reply_kept_unread : (reported : Result OwnerReply KeepFault) → is_ok reported ≡ true → KeepsOneMore meaning k k reported
  reply_kept_unread (Ok r) answered first kept = kept_as meaning first k tt r kept
  reply_kept_unread (Err fault) answered first kept = absurd (false≢true answered)

  pub plan_kept_unread : (result : Result (Plan Reply) AllocError) → IfOk result (λ planned. is_ok (meaning_of_reply planned.reply) ≡ true) → IfOk result (λ planned. KeepsOneMore meaning k k (meaning_of_reply planned.reply))
  plan_kept_unread result = IfOk-weaker result _ _ (λ planned answered. reply_kept_unread (meaning_of_reply planned.reply) answered)

pub plan_admitted : (c : Content) (H : History) (o key : Bytes) (q : Request) (reported : OwnerReply) (changes : List Change) → has_owner_key o key H ≡ true → IsPlanFor c H o q reported changes → IsPlan c H o key q reported changes
unfolding IsReply after_reply
plan_admitted c H o key q reported changes right plan = record { reply = rw right plan.answer; leads = rw right plan.leads; own = plan.own }

pub plan_forbidden : (c : Content) (H : History) (o key : Bytes) (q : Request) → Represents c H → has_owner_key o key H ≡ false → IsPlan c H o key q ReplyForbidden []
unfolding IsReply after_reply
plan_forbidden c H o key q stands wrong = record { reply = rw wrong refl; leads = rw wrong (leads_nowhere c H stands); own = tt }

-- ---- lawful histories

lawful_after_answer : (o : Bytes) (H : History) (q : Request) → IsLawful H → IsValidOwnerRequest q → IsLawful (after_answer o H q)
lawful_after_answer o H (request.Place placing) lawful valid = lawful-grow H (by o (PlaceOrder placing)) lawful valid
lawful_after_answer o H (request.Cancel order) lawful valid = lawful-grow H (by o (CancelOrder order)) lawful tt
lawful_after_answer o H (request.Release lot) lawful valid = lawful-grow H (by o (Release lot)) lawful tt
lawful_after_answer o H (request.Reject lot) lawful valid = lawful-grow H (by o (Reject lot)) lawful tt
lawful_after_answer o H _ lawful valid = lawful

pub lawful_after_reply : (o key : Bytes) (H : History) (q : Request) → IsLawful H → IsValidOwnerRequest q → IsLawful (after_reply o key H q)
unfolding after_reply
lawful_after_reply o key H q lawful valid =
    elim (has_owner_key o key H) as (λ b. IsLawful (if b then after_answer o H q else H)) [
      | true ↦ lawful_after_answer o H q lawful valid
      | false ↦ lawful
    ]
