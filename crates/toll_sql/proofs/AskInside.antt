-- A query within a transaction, on any schema; and its result if the tables are those of version 1.
use Rattle.std.proofs.Common.{◌≡◌, ◌⊎◌, inl, inr, ℕ, true, false, cond, List, [], Option, None, Some, Ok, Err, Result, IsTrue, IfOk, IfErr, OnOk, refl, sym, ap, subst, ◌∙◌}
use Rattle.toll_sql.proofs.Common.{IsPlain, command_of, never_commits, survives_weaker, understood, reads_listing, Row, State, CommitsShowing, FailsToQuery, IsUnchanged, HasCleanDisk, IsTooLate, KeepsCommit, Shown, ShowsRows, Survives, Error, Compiled, Returning, everything, IsErrorCaused, first_ours, IsQueryInside, LeavesTables, AreAll, select_text, Meta}
use Rattle.toll_sql.proofs.AskLemmas.{all_selected_in}
use Rattle.toll_sql.proofs.Calls.{shown_same}
use Rattle.toll_sql.proofs.QueryLemmas.{query_fails}
use Rattle.toll_sql.proofs.SelectTexts.{select_table}

module _ (old new : State) (inside : IsTrue old.in_transaction) where
  shows_kept : (sql : List ℕ) (c : Compiled) (params : Row) (rows : List Row) (r : Option Returning) → ShowsRows old new sql c params rows r → KeepsCommit old new
  shows_kept sql c params rows None h = record { was_open = λ _. h.3.0.was_open; committed = λ _. h.3.0.committed_is }
  shows_kept sql c params rows (Some what) h = record { was_open = λ _. h.1.shown.was_open; committed = λ _. h.1.shown.committed_is ∙ ap (λ b. cond b old.committed new.now) inside }

  shown_kept : (sql : List ℕ) (params : Row) (rows : List Row) → Shown sql params old new rows → KeepsCommit old new
  unfolding Shown
  shown_kept sql params rows h = shows_kept sql h.0 _ rows h.0.returning h.2

  fails_kept : (sql : List ℕ) (params : Row) (e : Error) → (IsTrue old.is_open → old.now ≡ old.committed) → FailsToQuery sql params old new e → KeepsCommit old new
  fails_kept sql params e settled h =
      let stays = (query_fails old new sql params e h).0 in
      record { was_open = stays.was_open; committed = λ live. (stays.same live (settled (stays.was_open live))).1 }

module _ {X : Type 0} (items : X → List Row) (sql : List ℕ) (params : Row) (old new : State) where
  asked_kept : (r : Result X Error) → IsTrue old.in_transaction → (IsTrue old.is_open → old.now ≡ old.committed) → IfOk r (λ x. Shown sql params old new (items x))
      → IfErr r (λ e. FailsToQuery sql params old new e ⊎ IsTooLate sql params old new e) → KeepsCommit old new
  asked_kept (Ok x) inside settled ok err = shown_kept old new inside sql params (items x) ok
  asked_kept (Err e) inside settled ok (inl h) = fails_kept old new inside sql params e settled h
  asked_kept (Err e) inside settled ok (inr late) = absurd (let f : false ≡ true = sym late.3 ∙ inside in cc)

  asked_fault : (r : Result X Error) → IfErr r (λ e. FailsToQuery sql params old new e ⊎ IsTooLate sql params old new e) → IfErr r (IsErrorCaused old new)
  asked_fault (Ok x) err = tt
  asked_fault (Err e) (inl h) = (query_fails old new sql params e h).1
  asked_fault (Err e) (inr late) = λ disk. absurd (let f = late.4 in cc)

  pub query_leaves_store : (r : Result X Error) → (HasCleanDisk new → IfOk r (λ x. Shown sql params old new (items x))) → (HasCleanDisk new → IfErr r (λ e. FailsToQuery sql params old new e ⊎ IsTooLate sql params old new e))
      → Survives old new (λ _. ⊥) → IsQueryInside old new r
  query_leaves_store r ok err survives = record {
    kept = λ clean inside settled. asked_kept r inside settled (ok clean) (err clean);
    fault = λ clean. asked_fault r (err clean);
    survives = survives;
  }

-- ---- the tables of version 1

first_is : (command_of (understood first_ours (select_text Meta)) ≡ select_table Meta) × (reads_listing first_ours (select_text Meta) ≡ false)
unfolding understood everything
first_is = (refl, refl)

first_plain : IsPlain (understood first_ours (select_text Meta))
unfolding understood everything
first_plain = (refl, refl)

pub first_rows : (old new : State) → old.now.schema ≡ first_ours → (rows : List Row) → Shown (select_text Meta) [] old new rows → AreAll Meta old.now.trees rows
first_rows old new has rows h = all_selected_in Meta old new first_ours has first_is first_plain refl rows h

-- a query on these tables, outside a transaction
module _ {X : Type 0} (items : X → List Row) (old new : State) (auto : old.in_transaction ≡ false) (settled : IsTrue old.is_open → old.now ≡ old.committed) (has : old.now.schema ≡ first_ours) where
  inside_under : IsPlain (understood old.now.schema (select_text Meta))
  inside_under = subst (λ s. IsPlain (understood s (select_text Meta))) (sym has) first_plain

  abbrev IsShown : Result X Error → Type 0
  IsShown r = IfOk r (λ x. Shown (select_text Meta) [] old new (items x))

  abbrev IsFailed : Result X Error → Type 0
  IsFailed r = IfErr r (FailsToQuery (select_text Meta) [] old new)

  pub asked_same : (r : Result X Error) → IsShown r → OnOk r (IsUnchanged old new)
  asked_same (Ok x) ok = shown_same (select_text Meta) [] old new (items x) inside_under ok
  asked_same (Err e) ok = tt

  inside_same : (r : Result X Error) → IsShown r → IsFailed r → IsTrue new.is_open → (new.now ≡ old.now) × (new.committed ≡ old.committed)
  inside_same (Ok x) ok err live = let u = shown_same (select_text Meta) [] old new (items x) inside_under ok in (u.0.now_is, u.0.committed_is)
  inside_same (Err e) ok err live = let stays = (query_fails old new (select_text Meta) [] e err).0 in stays.same live (settled (stays.was_open live))

  was_live : (r : Result X Error) → IsShown r → IsFailed r → IsTrue new.is_open → IsTrue old.is_open
  was_live (Ok x) ok err live = (shown_same (select_text Meta) [] old new (items x) inside_under ok).0.was_open
  was_live (Err e) ok err live = (query_fails old new (select_text Meta) [] e err).0.was_open live

  inside_caused : (r : Result X Error) → IsFailed r → IfErr r (IsErrorCaused old new)
  inside_caused (Ok x) err = tt
  inside_caused (Err e) err = (query_fails old new (select_text Meta) [] e err).1

  pub asked_first : (r : Result X Error) → (HasCleanDisk new → IsShown r) → (HasCleanDisk new → IsFailed r) → (old.in_transaction ≡ false → new.in_transaction ≡ false) → Survives old new (CommitsShowing (select_text Meta) [] old) → LeavesTables old new r
  asked_first r ok err mode survives = record {
    ended = mode auto;
    same = λ clean. inside_same r (ok clean) (err clean);
    live = λ clean. was_live r (ok clean) (err clean);
    fault = λ clean. inside_caused r (err clean);
    survives = survives_weaker old new _ (λ _. ⊥) (λ _ db h. never_commits (select_text Meta) [] old db inside_under h) survives;
  }
