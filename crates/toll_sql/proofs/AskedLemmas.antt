-- The rows that a text reads of a database, whatever its tables are.
use Rattle.std.proofs.Common.{◌≡◌, ◌≢◌, ◌⊎◌, inl, inr, ℕ, true, false, List, [], None, Ok, Err, Result, IfOk, IfErr, refl, sym, ap, subst, ◌∙◌}
use Rattle.toll_sql.proofs.Common.{timed, Database, RefusesToRead, Row, IsSourceOf, reads_listing, understood, State, Shown, FailsToQuery, FailsToShow, HasCause, IsNotRun, IsNoStatement, IsTooLate, store_error, Error, SqliteFailure, Compiled, CompileError, StoreError, OutOfMemory, Unstorable, AreReadBy, AreReadWith, IsUnreadBy, IsWholeText, is_disk_fault}
use Rattle.sqlite.specs.declared.error.ErrorCode.TheVariants as code

pub read_with : (sql : List ℕ) (params : Row) (old new : State) (rows : List Row) → Shown sql params old new rows → AreReadWith old.now sql params rows
unfolding Shown
read_with sql params old new rows h = (h.0, h.1.is, λ none. let it = (rw none at h.2) in (it.0, it.1, (h.1.now, it.2)))

pub read_by : (sql : List ℕ) (old new : State) (rows : List Row) → Shown sql [] old new rows → AreReadBy old.now sql rows
read_by sql old new rows h = read_with sql [] old new rows h

abbrev IsOtherError : Error → Type 0
IsOtherError e = (e ≢ SqliteFailure code.OutOfMemory) × (is_disk_fault e ≡ false)

-- No fault of the store is such an error.
module _ (old new : State) (e : Error) (other : IsOtherError e) where
  listing_no_disk : (x : Error) → e ≡ x → is_disk_fault x ≡ true → ⊥
  listing_no_disk x is disk = absurd (let f : false ≡ true = sym other.1 ∙ ap is_disk_fault is ∙ disk in cc)

  no_fault : (cause : StoreError) → e ≡ store_error cause → HasCause old new ⊥ cause → ⊥
  no_fault OutOfMemory is h = other.0 is
  no_fault Unstorable is h = h
  no_fault _ is h = listing_no_disk _ is refl

  module _ (sql : List ℕ) (c : Compiled) (is : understood old.now.schema sql ≡ Ok c) (none : c.returning ≡ None) (whole : IsWholeText sql c) where
    compiled_same : (d : Compiled) → understood old.now.schema sql ≡ Ok d → d ≡ c
    compiled_same d so = subst (λ (x : Result Compiled CompileError). IfOk x (λ k. k ≡ c)) (sym is ∙ so) refl

    a_statement : ¬ IsNoStatement old sql [] e
    a_statement (inl h) = absurd (let both : Ok c ≡ Err h.0 = sym is ∙ h.1 in cc)
    a_statement (inr h) =
        let w = subst (IsWholeText sql) (sym (compiled_same h.0 h.1)) whole in
        elim h.2 [
          | inl long ↦ long.0 w.whole
          | inr (inl many) ↦ many.0 (sym w.given)
          | inr (inr timed) ↦ timed.0 w.untimed
        ]

    unrun : ¬ IsNotRun old new sql [] e
    unfolding IsNotRun
    unrun (inl h) = a_statement h.0
    unrun (inr h) = no_fault h.0 h.1 h.2

    listing_refused : (d : Compiled) → understood old.now.schema sql ≡ Ok d → FailsToShow old new sql d [] e d.returning → (source : Database) × IsSourceOf (reads_listing old.now.schema sql) old.now source × ((e : Error) × RefusesToRead old.step_limit c.command source [] e)
    listing_refused d so h =
        let it = compiled_same d so in
        let bare : d.returning ≡ None = ap (λ (k : Compiled). k.returning) it ∙ none in
        let r = (rw bare at h) in
        (r.0, r.1, (e, subst (λ (k : Compiled). RefusesToRead old.step_limit k.command r.0 [] e) it r.2))

  pub unread_by : (sql : List ℕ) → FailsToQuery sql [] old new e ⊎ IsTooLate sql [] old new e → IsUnreadBy old.step_limit old.now sql
  unfolding FailsToQuery
  unread_by sql (inl (inl h)) = λ c is none whole. absurd (unrun sql c is none whole h)
  unread_by sql (inl (inr h)) = λ c is none whole.
      let bare = ap (λ (k : Compiled). k.formats) (compiled_same sql c is none whole h.0 h.1.is) ∙ whole.untimed in
      listing_refused sql c is none whole h.0 h.1.is (subst (λ formats. FailsToShow old new sql h.0 (timed [] formats h.1.now) e h.0.returning) bare h.2)
  unread_by sql (inr h) = λ c is none whole. absurd (let it = compiled_same sql c is none whole h.0 h.1.is in let some = h.2 in let bare : h.0.returning ≡ None = ap (λ (k : Compiled). k.returning) it ∙ none in cc)

-- An answer, or an error of the text itself.
module _ {X : Type 0} (items : X → List Row) (sql : List ℕ) (old new : State) where
  pub read_of : (r : Result X Error) → IfOk r (λ x. Shown sql [] old new (items x)) → IfOk r (λ x. AreReadBy old.now sql (items x))
  read_of (Ok x) h = read_by sql old new (items x) h
  read_of (Err e) h = tt

  pub unread_of : (r : Result X Error) → IfErr r (λ e. FailsToQuery sql [] old new e ⊎ IsTooLate sql [] old new e) → IfErr r (λ e. e ≢ SqliteFailure code.OutOfMemory → is_disk_fault e ≡ false → IsUnreadBy old.step_limit old.now sql)
  unread_of (Ok x) h = tt
  unread_of (Err e) h = λ memory disk. unread_by old new e (memory, disk) sql h
