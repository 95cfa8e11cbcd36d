-- What is reported of one owner, by the table of owners and by this owner's rows.
use Rattle.std.proofs.Common.{◌≡◌, ◌≢◌, Option, Some, None, List, [], ◌∷◌, Contains, Ok, Err, Result, IfOk, if◌then◌else◌, inl, inr, refl, sym, ap, subst, ◌∙◌}
use Rattle.toll_sql.proofs.Common.{cases_Bool, State, Bytes, Slice, KeepsRules, OwnerRow, ContentKeepsRules, knows, slice_of, KeepFault, Damaged, ForContent, ForContentBy, ForSlice, HoldsFor, Contains-here, IsLooking, ReportsOwnerAlone, IsUnknownOwner, is_owned, ForOwners}
use Rattle.toll_sql.proofs.LookLemmas.{held_on, narrowed_in, part_for}
use Rattle.toll_sql.proofs.ReadOn.{clean_before}

same_fault : {X Y : Type 0} {d e : KeepFault} → ◌≡◌ {A = Result X KeepFault} (Err d) (Err e) → ◌≡◌ {A = Result Y KeepFault} (Err d) (Err e)
same_fault is = cc

module _ {X : Type 0} (o : Bytes) (old mid new : State) (x : X) (first : IsLooking {X = X} old mid (Ok x)) where
  -- The owner's rows couldn't be read.
  pub no_rows_read : (e : KeepFault) → IsLooking {X = Slice} mid new (Err e) → ForSlice o mid new (λ s. KeepsRules s → ◌≢◌ {A = Result Slice KeepFault} (Err e) (Err Damaged)) → ReportsOwnerAlone o old new (Err e)
  no_rows_read e looks whole = record {
    given = λ clean s held. tt;
    known = λ clean has owners held. tt;
    whole = λ clean has owners held _ s part keeps is. whole clean s (held_on is_owned old mid x o s first.asks (clean_before old mid new looks.asks.survives clean) part) keeps (same_fault is);
  }

  -- The owner's rows were read.
  pub all_rows : (rows : List OwnerRow) (slice : Slice) → IsLooking mid new (Ok slice) → ForOwners old mid (λ owners. rows ≡ owners) → ForSlice o mid new (λ s. slice ≡ s) → ¬ IsUnknownOwner rows o → ReportsOwnerAlone o old new (Ok (Some slice))
  all_rows rows slice looks are reads named = record {
    given = λ clean s part. reads clean s (held_on is_owned old mid x o s first.asks (clean_before old mid new looks.asks.survives clean) part);
    known = λ clean has owners held. (λ none. absurd (cc), λ unknown. absurd (named (subst (λ l. IsUnknownOwner l o) (sym (are (clean_before old mid new looks.asks.survives clean) has owners held)) unknown)));
    whole = λ clean has owners held _ s part keeps is. cc;
  }

-- ---- what is reported of one owner alone holds over what is held for it, whatever is stored for others

module _ (o : Bytes) (old new : State) (r : Result (Option Slice) KeepFault) (t : ReportsOwnerAlone o old new r) where
  pub told_reads_for : (os : List Bytes) → Contains os o → ForContentBy (HoldsFor os) old new (λ c. IfOk r (λ slice. slice ≡ slice_of c o))
  told_reads_for os own clean c held = go r t
    where
      go : (r : Result (Option Slice) KeepFault) → ReportsOwnerAlone o old new r → IfOk r (λ slice. slice ≡ slice_of c o)
      go (Err e) t = tt
      go (Ok None) t =
          let unknown = (t.known clean held.ours.schema c.owners held.rows.owners).0 refl in
          ap (λ b. if b then Some (c.rows o) else None) (sym unknown)
      go (Ok (Some slice)) t = elim (cases_Bool (knows c o)) [
        | inl known ↦ ap Some (t.given clean (c.rows o) (part_for os old c held o own)) ∙ ap (λ b. if b then Some (c.rows o) else None) (sym known)
        | inr unknown ↦ (let none = (t.known clean held.ours.schema c.owners held.rows.owners).1 unknown in absurd (cc))
      ]

  pub told_whole_for : (os : List Bytes) → Contains os o → ForContentBy (HoldsFor os) old new (λ c. ContentKeepsRules c → r ≢ Err Damaged)
  told_whole_for os own clean c held keeps = t.whole clean held.ours.schema c.owners held.rows.owners clean (c.rows o) (part_for os old c held o own) (keeps o)

  -- The same over a whole content.
  pub told_reads : ForContent old new (λ c. IfOk r (λ slice. slice ≡ slice_of c o))
  told_reads clean c held = told_reads_for (o ∷ []) (Contains-here o []) clean c (narrowed_in (o ∷ []) old c held)

  pub told_whole : ForContent old new (λ c. ContentKeepsRules c → r ≢ Err Damaged)
  told_whole clean c held = told_whole_for (o ∷ []) (Contains-here o []) clean c (narrowed_in (o ∷ []) old c held)
