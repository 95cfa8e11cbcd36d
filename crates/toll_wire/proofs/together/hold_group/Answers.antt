use Rattle.std.proofs.Common.{◌≡◌, Bor, Bool, true, false, Option, List, [], ◌∷◌, ◌++◌, map, drop, take, get_or, suc, Err, ◌+◌, rules, arith, ap, subst, sym, ◌∙◌}
use Rattle.std.specs.Option.{option_map}
use Rattle.toll_base.specs.declared.decision.Change.{Change}
use Rattle.toll_keep.specs.Meaning.{meaning_for}
use Rattle.toll_protocol.specs.Parsed.{parse_outcome}
use Rattle.toll_wire.proofs.Common.{AllByRecursion, Bytes, Memory, take_all}
use Rattle.toll_wire.proofs.GroupHeld.{group_before, group_of_all, is_claimed_among, keeping_fault, keeping_group, keeping_memory, keeping_more, map_more, so_far_next, so_of_next, split_next, taken_next, undone_changes, undone_fault}
use Rattle.toll_wire.specs.Groups.{AreHeldKeeping, IsGroupHeld, changes_together, owner_in}
use Rattle.toll_wire.specs.Sayings.{AreOfOneOf}
use Rattle.toll_wire.proofs.together.hold_group.Goals as goal

-- a reference's value
abbrev value_of : Bor Bytes → Bytes
value_of reference = reference.now

abbrev no_reference : Bor Bytes
no_reference = record { ref_ptr = (0, 0); now = [] }

abbrev values_of : List (Option (Bor Bytes)) → List (Option Bytes)
values_of owners = map (λ owner. option_map value_of owner) owners

-- the request is of another owner than these
abbrev IsOfNone : List Bytes → Bytes → Type 0
IsOfNone os bytes = ¬ (AreOfOneOf os bytes)

-- what was found of the owners that were read is so of those that are claimed
found_among : (r b : Bool) (owners read : List (Option (Bor Bytes))) (claimed : Option (Bor Bytes)) (owner : Option Bytes) → r ≡ is_claimed_among (values_of read) (option_map value_of claimed)
    → read ≡ owners → option_map value_of claimed ≡ owner → r ≡ b → is_claimed_among (values_of owners) owner ≡ b
found_among r b owners read claimed owner told same is found =
    ap (λ owners. is_claimed_among (values_of owners) owner) (sym same) ∙ ap (is_claimed_among (values_of read)) (sym is) ∙ sym told ∙ found

claims_pushed : (pushed owners : List (Option (Bor Bytes))) (claimed : Option (Bor Bytes)) (owner : Option Bytes) → pushed ≡ owners ++ claimed ∷ [] → option_map value_of claimed ≡ owner
    → values_of pushed ≡ values_of owners ++ owner ∷ []
claims_pushed pushed owners claimed owner are is =
    ap values_of are ∙ map_more (λ claimed. option_map value_of claimed) owners claimed ∙ ap (λ owner. values_of owners ++ owner ∷ []) is

changes_joined : (made changes read more : List Change) → made ≡ changes ++ read → read ≡ more → made ≡ changes ++ more
changes_joined made changes read more are is = are ∙ ap (λ more. changes ++ more) is

pub returns-then-claims_again-clause-holds : goal.returns-then-claims_again-clause-holds
returns-then-claims_again-clause-holds g c =
    let m = g.K.Keep.meaning in
    let at = c.loop-request in
    let i = at.request-index in
    let requests = c.args.requests.now in
    let first = map value_of (take i requests) in
    let bytes = (get_or requests i no_reference).now in
    let owners = values_of at.owners.items in
    group_before m c.args.keep.now at.keep (map value_of requests) first owners at.replies.items at.changes.items c.loop-request.invariant.so_far bytes (map value_of (drop (suc i) requests))
    (split_next value_of requests i no_reference c.loop-request-test.true) (parse_outcome c.parse_http-parsed.result) c.parse_http-parsed.ensures
    (found_among c.claims_again.result true at.owners.items c.deref.result.now c.owner_claimed-owner.result _ c.claims_again.ensures c.deref.ensures.value c.owner_claimed-owner.ensures c.if-claims_again.true)

pub returns-in_err-held-clause-holds : goal.returns-in_err-held-clause-holds
returns-in_err-held-clause-holds g c =
    let m = g.K.Keep.meaning in
    let at = c.loop-request in
    let i = at.request-index in
    let requests = c.args.requests.now in
    let first = map value_of (take i requests) in
    let bytes = (get_or requests i no_reference).now in
    let owners = values_of at.owners.items in
    let fault = c.in_err-held.field-0.0 in
    let is : c.from_residual-in_err-held.result ≡ Err fault = search rules in
    subst (IsGroupHeld m c.args.keep.now c.hold_with_router.new.keep (map value_of requests)) (sym is)
    (undone_fault m c.args.keep.now at.keep c.hold_with_router.new.keep first owners at.replies.items at.changes.items c.loop-request.invariant.so_far bytes fault (c.in_err-held.ensures.held bytes c.parse_http-parsed.ensures))

pub returns-in_err-extend_from_slice-clause-holds : goal.returns-in_err-extend_from_slice-clause-holds
returns-in_err-extend_from_slice-clause-holds g c =
    let m = g.K.Keep.meaning in
    let at = c.loop-request in
    let i = at.request-index in
    let requests = c.args.requests.now in
    let first = map value_of (take i requests) in
    let bytes = (get_or requests i no_reference).now in
    let owners = values_of at.owners.items in
    let is : c.from_residual-in_err-extend_from_slice.result ≡ Err Memory = search rules in
    subst (IsGroupHeld m c.args.keep.now c.hold_with_router.new.keep (map value_of requests)) (sym is)
    (undone_changes m c.args.keep.now at.keep c.hold_with_router.new.keep first owners at.replies.items at.changes.items c.loop-request.invariant.so_far bytes c.in_ok-held.held (c.in_ok-held.ensures.held bytes c.parse_http-parsed.ensures))

pub returns-clause-holds : goal.returns-clause-holds
returns-clause-holds g c =
    let at = c.loop-request in
    let requests = c.args.requests.now in
    group_of_all (g.K.Keep.meaning) c.args.keep.now at.keep (map value_of requests) (map value_of (take at.request-index requests)) (values_of at.owners.items) at.replies.items at.changes.items
    c.loop-request.invariant.so_far (ap (map value_of) (sym (take_all at.request-index requests c.loop-request-test.false)))

pub returns-then-claims_again-clause-alone : goal.returns-then-claims_again-clause-alone
returns-then-claims_again-clause-alone g c = λ os each.
    let m = meaning_for g.K.Keep.meaning g.K.Keep.part os in
    let at = c.loop-request in
    let i = at.request-index in
    let requests = c.args.requests.now in
    let first = map value_of (take i requests) in
    let bytes = (get_or requests i no_reference).now in
    let owners = values_of at.owners.items in
    group_before m c.args.keep.now at.keep (map value_of requests) first owners at.replies.items at.changes.items (c.loop-request.invariant.alone os each) bytes (map value_of (drop (suc i) requests))
    (split_next value_of requests i no_reference c.loop-request-test.true) (parse_outcome c.parse_http-parsed.result) c.parse_http-parsed.ensures
    (found_among c.claims_again.result true at.owners.items c.deref.result.now c.owner_claimed-owner.result _ c.claims_again.ensures c.deref.ensures.value c.owner_claimed-owner.ensures c.if-claims_again.true)

pub returns-in_err-held-clause-alone : goal.returns-in_err-held-clause-alone
returns-in_err-held-clause-alone g c = λ os each.
    let m = meaning_for g.K.Keep.meaning g.K.Keep.part os in
    let at = c.loop-request in
    let i = at.request-index in
    let requests = c.args.requests.now in
    let first = map value_of (take i requests) in
    let bytes = (get_or requests i no_reference).now in
    let owners = values_of at.owners.items in
    let fault = c.in_err-held.field-0.0 in
    let is : c.from_residual-in_err-held.result ≡ Err fault = search rules in
    subst (IsGroupHeld m c.args.keep.now c.hold_with_router.new.keep (map value_of requests)) (sym is)
    (undone_fault m c.args.keep.now at.keep c.hold_with_router.new.keep first owners at.replies.items at.changes.items (c.loop-request.invariant.alone os each) bytes fault (c.in_err-held.ensures.alone os bytes c.parse_http-parsed.ensures (so_of_next (AreOfOneOf os) first bytes (map value_of (drop (suc i) requests)) (subst (AllByRecursion (AreOfOneOf os)) (split_next value_of requests i no_reference c.loop-request-test.true) each))))

pub returns-in_err-extend_from_slice-clause-alone : goal.returns-in_err-extend_from_slice-clause-alone
returns-in_err-extend_from_slice-clause-alone g c = λ os each.
    let m = meaning_for g.K.Keep.meaning g.K.Keep.part os in
    let at = c.loop-request in
    let i = at.request-index in
    let requests = c.args.requests.now in
    let first = map value_of (take i requests) in
    let bytes = (get_or requests i no_reference).now in
    let owners = values_of at.owners.items in
    let is : c.from_residual-in_err-extend_from_slice.result ≡ Err Memory = search rules in
    subst (IsGroupHeld m c.args.keep.now c.hold_with_router.new.keep (map value_of requests)) (sym is)
    (undone_changes m c.args.keep.now at.keep c.hold_with_router.new.keep first owners at.replies.items at.changes.items (c.loop-request.invariant.alone os each) bytes c.in_ok-held.held (c.in_ok-held.ensures.alone os bytes c.parse_http-parsed.ensures (so_of_next (AreOfOneOf os) first bytes (map value_of (drop (suc i) requests)) (subst (AllByRecursion (AreOfOneOf os)) (split_next value_of requests i no_reference c.loop-request-test.true) each))))

pub returns-clause-alone : goal.returns-clause-alone
returns-clause-alone g c = λ os each.
    let at = c.loop-request in
    let requests = c.args.requests.now in
    group_of_all (meaning_for g.K.Keep.meaning g.K.Keep.part os) c.args.keep.now at.keep (map value_of requests) (map value_of (take at.request-index requests)) (values_of at.owners.items) at.replies.items at.changes.items
    (c.loop-request.invariant.alone os each) (ap (map value_of) (sym (take_all at.request-index requests c.loop-request-test.false)))

pub returns-then-claims_again-clause-others : goal.returns-then-claims_again-clause-others
returns-then-claims_again-clause-others g c = λ os each.
    let at = c.loop-request in
    keeping_group (meaning_for g.K.Keep.meaning g.K.Keep.part os) c.args.keep.now at.keep os at.changes.items _ (c.loop-request.invariant.others os each)

pub returns-in_err-held-clause-others : goal.returns-in_err-held-clause-others
returns-in_err-held-clause-others g c = λ os each.
    let m = meaning_for g.K.Keep.meaning g.K.Keep.part os in
    let at = c.loop-request in
    let i = at.request-index in
    let requests = c.args.requests.now in
    let bytes = (get_or requests i no_reference).now in
    let fault = c.in_err-held.field-0.0 in
    let is : c.from_residual-in_err-held.result ≡ Err fault = search rules in
    subst (λ r. AreHeldKeeping m c.args.keep.now c.hold_with_router.new.keep r os (changes_together r)) (sym is)
    (keeping_fault m c.args.keep.now at.keep c.hold_with_router.new.keep os at.changes.items (c.loop-request.invariant.others os each) fault (c.in_err-held.ensures.others os bytes c.parse_http-parsed.ensures (so_of_next (IsOfNone os) (map value_of (take i requests)) bytes (map value_of (drop (suc i) requests)) (subst (AllByRecursion (IsOfNone os)) (split_next value_of requests i no_reference c.loop-request-test.true) each))))

pub returns-in_err-extend_from_slice-clause-others : goal.returns-in_err-extend_from_slice-clause-others
returns-in_err-extend_from_slice-clause-others g c = λ os each.
    let m = meaning_for g.K.Keep.meaning g.K.Keep.part os in
    let at = c.loop-request in
    let i = at.request-index in
    let requests = c.args.requests.now in
    let bytes = (get_or requests i no_reference).now in
    let is : c.from_residual-in_err-extend_from_slice.result ≡ Err Memory = search rules in
    subst (λ r. AreHeldKeeping m c.args.keep.now c.hold_with_router.new.keep r os (changes_together r)) (sym is)
    (keeping_memory m c.args.keep.now at.keep c.hold_with_router.new.keep os at.changes.items (c.loop-request.invariant.others os each) c.in_ok-held.held (c.in_ok-held.ensures.others os bytes c.parse_http-parsed.ensures (so_of_next (IsOfNone os) (map value_of (take i requests)) bytes (map value_of (drop (suc i) requests)) (subst (AllByRecursion (IsOfNone os)) (split_next value_of requests i no_reference c.loop-request-test.true) each))))

pub returns-clause-others : goal.returns-clause-others
returns-clause-others g c = λ os each.
    let at = c.loop-request in
    keeping_group (meaning_for g.K.Keep.meaning g.K.Keep.part os) c.args.keep.now at.keep os at.changes.items _ (c.loop-request.invariant.others os each)

pub loop-request-preserved : goal.loop-request-preserved
loop-request-preserved g c =
    let K = g.K.Keep in
    let at = c.loop-request in
    let i = at.request-index in
    let requests = c.args.requests.now in
    let first = map value_of (take i requests) in
    let bytes = (get_or requests i no_reference).now in
    let outcome = parse_outcome c.parse_http-parsed.result in
    let owners = values_of at.owners.items in
    let held = c.in_ok-held.held in
    let new = c.hold_with_router.new.keep in
    let more = map value_of (take (i + 1) requests) in
    let pushed = c.push_reserved.new.self.items in
    let replies = c.push_reserved-in-loop-request.new.self.items in
    let made = c.extend_from_slice.new.self.items in
    let other = found_among c.claims_again.result false at.owners.items c.deref.result.now c.owner_claimed-owner.result (owner_in outcome) c.claims_again.ensures c.deref.ensures.value c.owner_claimed-owner.ensures c.if-claims_again.false in
    let more_are : more ≡ first ++ bytes ∷ [] = taken_next value_of requests i no_reference c.loop-request-test.true in
    let owners_are = claims_pushed pushed at.owners.items c.owner_claimed-owner.result (owner_in outcome) c.push_reserved.ensures.items c.owner_claimed-owner.ensures in
    let made_are = changes_joined made at.changes.items c.deref-in-loop-request.result.now held.changes.items c.in_ok-extend_from_slice.ensures.items c.deref-in-loop-request.ensures.value in
    record {
      count = omega arith;
      room = omega arith;
      claims = omega arith;
      space = omega arith;
      so_far = so_far_next K.meaning c.args.keep.now at.keep new first owners at.replies.items at.changes.items at.invariant.so_far bytes outcome c.parse_http-parsed.ensures other held
          (c.in_ok-held.ensures.held bytes c.parse_http-parsed.ensures) more (values_of pushed) replies made more_are owners_are c.push_reserved-in-loop-request.ensures.items made_are;
      alone = λ os each.
          let its = so_of_next (AreOfOneOf os) first bytes (map value_of (drop (suc i) requests)) (subst (AllByRecursion (AreOfOneOf os)) (split_next value_of requests i no_reference c.loop-request-test.true) each) in
          so_far_next (meaning_for K.meaning K.part os) c.args.keep.now at.keep new first owners at.replies.items at.changes.items (at.invariant.alone os each) bytes outcome
          c.parse_http-parsed.ensures other held (c.in_ok-held.ensures.alone os bytes c.parse_http-parsed.ensures its) more (values_of pushed) replies made more_are owners_are
          c.push_reserved-in-loop-request.ensures.items made_are;
      others = λ os each.
          let its = so_of_next (IsOfNone os) first bytes (map value_of (drop (suc i) requests)) (subst (AllByRecursion (IsOfNone os)) (split_next value_of requests i no_reference c.loop-request-test.true) each) in
          keeping_more (meaning_for K.meaning K.part os) c.args.keep.now at.keep new os at.changes.items (at.invariant.others os each) held
          (c.in_ok-held.ensures.others os bytes c.parse_http-parsed.ensures its) made made_are;
    }
