-- A keep in memory, for some owners: contents that agree with its own.
use Rattle.std.proofs.Common.{◌≡◌, ◌≢◌, ◌||◌, true, false, Bool, cond, is_some, Option, Some, None, IfSome, List, [], ◌∷◌, Contains, Result, Ok, Err, IfErr, OnErr, OnOk, Vec, Global, inl, inr, refl, sym, ap, subst, ◌∙◌}
use Rattle.std.specs.Prelude.{⊤}
use Rattle.toll_keep.proofs.Common.{false≢true, AgreeFor, CallEffect, Keeps, AreAmong, Bytes, Change, Content, GivesTrace, IsAmong, IsEdge, IsEdgeOfOne, IsReading, Kept, KeepFault, KeepsHeld, MakesHeld, Meaning, Owner, OwnerRow, Put, PutsOutside, Slice, Unit as UnitAdded, after_changes, after_owners, after_units, bytes_cmp, content_after, content_of, house_name, is_addition, knows, list_any, row_at, rows_in, same_bytes, slice_of}
use Rattle.toll_keep.specs.declared.keep_fault.KeepFault.TheVariants.{Memory, Damaged}
use Rattle.toll_base.specs.declared.lot.LotId.{LotId}
use Rattle.toll_trace.specs.Chain.{edge_of}
use Rattle.toll_trace.specs.declared.step.Step.{Step}
use Rattle.toll_trace.specs.declared.way.Way.{Way}
use Rattle.toll_trace.proofs.Unique.{trace_same}
use Rattle.toll_keep.proofs.Outcomes.{either_way, on_err_weaker, on_ok_weaker}
use Rattle.toll_keep.proofs.RememberedLemmas.{owners_stay, rows_stay, units_stay}
use Rattle.toll_keep.proofs.Slicing.{owner-rows_in}

-- ---- contents that agree

agree_back : (os : List Bytes) (c d : Content) → AgreeFor os c d → AgreeFor os d c
agree_back os c d same = record { owners = sym same.owners; units = sym same.units; rows = λ o own. sym (same.rows o own) }

pub agree_slice : (os : List Bytes) (c d : Content) (o : Bytes) → AgreeFor os c d → Contains os o → slice_of c o ≡ slice_of d o
agree_slice os c d o same own =
    ap (λ owners. cond (same_bytes o house_name || is_some (row_at bytes_cmp (λ (row : OwnerRow). row.owner) owners o)) (Some (c.rows o)) None) same.owners
    ∙ ap (λ rows. cond (knows d o) (Some rows) None) (same.rows o own)

pub agree_after : (os : List Bytes) (changes : List Change) (c d : Content) → AgreeFor os c d → AgreeFor os (content_after changes c) (content_after changes d)
agree_after os changes c d same = record {
  owners = ap (after_owners changes) same.owners;
  units = ap (after_units changes) same.units;
  rows = λ o own. ap (after_changes changes) (same.rows o own);
}

agree_edge : (os : List Bytes) (c d : Content) (owners : List Bytes) (way : Way) (a b : LotId) → AgreeFor os c d → AreAmong owners os → IsEdgeOfOne c owners (edge_of way a b) → IsEdgeOfOne d owners (edge_of way a b)
agree_edge os c d owners way a b same among edge = record {
  owner = edge.owner;
  named = edge.named;
  edge = subst (λ (s : Slice). IsEdge s (edge_of way a b)) (same.rows edge.owner (among edge.owner edge.named)) edge.edge;
}

pub agree_trace : {E : Type 0} (os : List Bytes) (c d : Content) (owners : List Bytes) (from : LotId) (way : Way) (reported : Result (Vec Step Global) E) → AgreeFor os c d → AreAmong owners os → GivesTrace c owners from way reported → GivesTrace d owners from way reported
agree_trace os c d owners from way (Ok steps) same among gives =
    trace_same (λ a b. IsEdgeOfOne c owners (edge_of way a b)) (λ a b. IsEdgeOfOne d owners (edge_of way a b))
    (λ a b edge. agree_edge os c d owners way a b same among edge) (λ a b edge. agree_edge os d c owners way a b (agree_back os c d same) among edge) from steps.items gives
agree_trace os c d owners from way (Err e) same among gives = tt

-- An owner's slice names it.
pub named_slice : (k : Kept) (o : Bytes) (found : Option Slice) → found ≡ slice_of (content_of k) o → IfSome found (λ s. s.owner ≡ o)
named_slice k o found is = subst (λ f. IfSome f (λ s. s.owner ≡ o)) (sym is) (go (knows (content_of k) o))
  where
    go : (b : Bool) → IfSome (cond b (Some (rows_in k.slices o)) None) (λ s. s.owner ≡ o)
    go true = owner-rows_in k.slices o
    go false = tt

-- Changes of others leave what a keep in memory has of these owners.
none_added_outside : (os : List Bytes) (changes : List Change) → PutsOutside os changes → list_any is_addition changes ≡ false
none_added_outside os [] outside = refl
none_added_outside os (Put p row ∷ changes) outside = none_added_outside os changes outside.1
none_added_outside os (Owner row ∷ changes) outside = absurd outside
none_added_outside os (UnitAdded row ∷ changes) outside = absurd outside

agree_outside : (os : List Bytes) (changes : List Change) (k : Kept) (c : Content) → PutsOutside os changes → AgreeFor os (content_of k) c → AgreeFor os (content_after changes (content_of k)) c
agree_outside os changes k c outside same =
    let none = none_added_outside os changes outside in
    record {
      owners = owners_stay changes k.owners none ∙ same.owners;
      units = units_stay changes k.units none ∙ same.units;
      rows = λ o own. rows_stay os changes (rows_in k.slices o) outside (subst (Contains os) (sym (owner-rows_in k.slices o)) own) ∙ same.rows o own;
    }

-- ---- what a keep in memory means for some owners

abbrev pub memory_for : List Bytes → Meaning Kept
memory_for os = record {
  holds = λ k c. AgreeFor os (content_of k) c;
  is_honest = λ _. ⊤;
  is_closed = λ _. false;
  is_store_open = λ _. ⊤;
  is_unsure = λ _. false;
  has_cause = λ _ _. ⊥;
  leaves = λ k cs. IsAmong (λ c. AgreeFor os (content_of k) c) cs;
}

memory_keeps : (os : List Bytes) (old new : Kept) → ((c : Content) → AgreeFor os (content_of old) c → AgreeFor os (content_of new) c) → Keeps (memory_for os) old new
memory_keeps os old new stays = record { content = stays; crash = λ live c held. inl (stays c held) }

module _ {X : Type 0} (os : List Bytes) (old new : Kept) where
  -- Its only fault is Memory.
  memory_goes : (r : Result X KeepFault) → IfErr r (λ e. e ≡ Memory) → CallEffect (memory_for os) old new r
  memory_goes (Ok x) fault = record {
    honest = λ now. now;
    closed = (λ is. absurd (cc), λ was. absurd (false≢true was));
    closes = refl;
    live = λ now live. live;
    shown = λ now. tt;
    lasts = λ now live. inl tt;
    spares = λ now is live. inl tt;
    cause = λ now is. absurd (cc);
    since = λ now later none. none;
    stays = λ was. absurd (false≢true was);
    shut = λ now not. absurd (not tt);
  }
  memory_goes (Err e) fault = subst (λ e. CallEffect {X = X} (memory_for os) old new (Err e)) (sym fault) lacked
    where
      lacked : CallEffect {X = X} (memory_for os) old new (Err Memory)
      lacked = record {
        honest = λ now. now;
        closed = (λ is. absurd (cc), λ was. absurd (false≢true was));
        closes = refl;
        live = λ now live. live;
        shown = λ now. tt;
        lasts = λ now live. inl tt;
        spares = λ now is live. inl tt;
        cause = λ now is. absurd (cc);
        since = λ now later none. none;
        stays = λ was. absurd (false≢true was);
        shut = λ now not. absurd (not tt);
      }

  undamaged : (r : Result X KeepFault) → IfErr r (λ e. e ≡ Memory) → r ≢ Err Damaged
  undamaged (Ok x) fault is = absurd (cc)
  undamaged (Err e) fault is = absurd (cc)

  pub memory_kept : (r : Result X KeepFault) → IfErr r (λ e. e ≡ Memory) → new ≡ old → KeepsHeld (memory_for os) old new r
  memory_kept r fault same = record { goes = memory_goes r fault; keeps = λ now. memory_keeps os old new (λ c held. subst (λ k. AgreeFor os (content_of k) c) (sym same) held) }

  pub memory_reads : (r : Result X KeepFault) → IfErr r (λ e. e ≡ Memory) → new ≡ old → IsReading (memory_for os) old new r
  memory_reads r fault same = let kept = memory_kept r fault same in record { goes = kept.goes; keeps = kept.keeps; whole = λ now c held rules. undamaged r fault }

  module _ (changes : List Change) (r : Result X KeepFault) (fault : IfErr r (λ e. e ≡ Memory)) (all : OnOk r (content_of new ≡ content_after changes (content_of old))) (none : OnErr r (content_of new ≡ content_of old)) where
    pub memory_makes : MakesHeld (memory_for os) old new r changes
    memory_makes = record {
      goes = memory_goes r fault;
      all = λ now c held fits. on_ok_weaker r (λ is. made c held is) all;
      none = λ now c held. on_err_weaker r (λ is. subst (λ d. AgreeFor os d c) (sym is) held) none;
      spared = λ is now live c held. let same = unmade is in inl (tt, subst (λ d. AgreeFor os d c) (sym same) held, inl (subst (λ d. AgreeFor os d c) (sym same) held));
      whole = λ now c held rules. undamaged r fault;
      crash = λ now live c held fits. either_way r (λ is. inr (inl (made c held is))) (λ is. inl (subst (λ d. AgreeFor os d c) (sym is) held)) all none;
    }
      where
        made : (c : Content) → AgreeFor os (content_of old) c → content_of new ≡ content_after changes (content_of old) → AgreeFor os (content_of new) (content_after changes c)
        made c held is = subst (λ d. AgreeFor os d (content_after changes c)) (sym is) (agree_after os changes (content_of old) c held)

        unmade : r ≡ Err Memory → content_of new ≡ content_of old
        unmade is = subst (λ a. OnErr a (content_of new ≡ content_of old)) is none

    pub memory_stays : PutsOutside os changes → KeepsHeld (memory_for os) old new r
    memory_stays outside = record {
      goes = memory_goes r fault;
      keeps = λ now. memory_keeps os old new (λ c held. either_way r
          (λ is. subst (λ d. AgreeFor os d c) (sym is) (agree_outside os changes old c outside held))
          (λ is. subst (λ d. AgreeFor os d c) (sym is) held) all none);
    }
