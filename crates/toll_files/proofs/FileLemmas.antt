-- What is known of an office's files, if their stamps and bytes are known.
use Rattle.std.proofs.Common.{inl, inr, ◌≡◌, subst, sym, ◌∙◌, ap, ℕ, Bool, true, false, List, [], Option, None, Some, Result, Ok, Err}
use Rattle.std.proofs.lemmas.Bool.{false≢true}
use Rattle.std.specs.Prelude.{◌↔◌, IfOk, IfSome, MatchOption}
use Rattle.toll_files.specs.FileChanges.{AreCommitsLost, AreUntouched, IsStampUnchanged}
use Rattle.toll_files.specs.LogEnds.{IsEarlierEnd, IsEndOf}
use Rattle.toll_files.specs.OfficeFiles.{AreCompared, AreLookedAt, AreNoted, IsContinued, IsTurnNoted}
use Rattle.toll_files.specs.declared.file_stamps.FileChange.{FileChange}
use Rattle.toll_files.specs.declared.file_stamps.FileChange.TheVariants.{NotOurs, Same}
use Rattle.toll_files.specs.declared.file_stamps.FileStamps.{FileStamps}
use Rattle.toll_files.specs.declared.file_stamps.FoundFiles.{FoundFiles}
use Rattle.toll_files.specs.declared.file_stamps.LeftFiles.{LeftFiles}
use Rattle.toll_files.specs.declared.file_stamps.Stamp.{Stamp}
use Rattle.toll_files.specs.declared.log_end.LogEnd.{LogEnd}

-- what the opened log tells is told of the files whose log it is
pub of_files : {L X E : Type 0} (content : L → Option (List ℕ)) (P : List ℕ → X → Type 0) (o : Option (FileStamps × List ℕ)) (found : Option L) (log same : L)
    (r : Result X E) → found ≡ Some log → same ≡ log
    → IfSome o (λ known. MatchOption found (known.1 ≡ []) (λ l. content l ≡ Some known.1))
    → IfOk r (λ x. IfSome (content same) (λ bytes. P bytes x)) → IfOk r (λ x. IfSome o (λ known. P known.1 x))
of_files content P o found log same (Err e) is same_is has h = tt
of_files content P None found log same (Ok x) is same_is has h = tt
of_files {L = L} content P (Some known) found log same (Ok x) is same_is has h =
    let here = subst (λ (f : Option L). MatchOption f (known.1 ≡ []) (λ l. content l ≡ Some known.1)) is has in
    subst (λ (c : Option (List ℕ)). IfSome c (λ bytes. P bytes x)) (ap content same_is ∙ here) h

-- the files are noted whose log has changed
pub noted_anew : (o : Option (FileStamps × List ℕ)) (known : Option LeftFiles) (before again left : LeftFiles) (same : Bool) → known ≡ Some before → known ≡ Some again
    → same ≡ false → ((same ≡ true) ↔ IsStampUnchanged before.stamps.log left.stamps.log) → IfSome o (λ k. left.stamps ≡ k.0)
    → IfSome o (λ k. IsEarlierEnd k.1 again.log_end → IsEndOf k.1 left.log_end) → IfSome o (λ k. AreNoted known k.0 k.1 left)
noted_anew None known before again left same is too no' decides stamps end = tt
noted_anew (Some k) known before again left same is too no' decides stamps end =
    let one : again ≡ before = cc in
    subst (λ (b : Option LeftFiles). AreNoted b k.0 k.1 left) (sym is) (
      stamps,
      (
        λ unchanged. absurd (false≢true (sym no' ∙ decides.1 (subst (λ (s : FileStamps). IsStampUnchanged before.stamps.log s.log) (sym stamps) unchanged))),
        λ changed. subst (λ (b : LeftFiles). IsEarlierEnd k.1 b.log_end → IsEndOf k.1 left.log_end) one end,
      ),
    )

-- the files are compared that were looked at
pub compared : (o : Option (FileStamps × List ℕ)) (IsReadable : Type 0) (left : LeftFiles) (found : FoundFiles) (change : FileChange)
    → IfSome o (λ k. AreLookedAt IsReadable left k.0 k.1 found) → ((change ≡ Same) ↔ AreUntouched left.stamps found.stamps) → ((change ≡ NotOurs) ↔ AreCommitsLost left found)
    → IfSome o (λ k. AreCompared IsReadable left k.0 k.1 change)
compared None IsReadable left found change looked same lost = tt
compared (Some k) IsReadable left found change looked same lost =
    inl (found, looked, subst (λ (s : FileStamps). (change ≡ Same) ↔ AreUntouched left.stamps s) looked.0 same, lost)

abbrev files_at : Stamp → Stamp → FileStamps
files_at database log = record { database = database; log = log }

-- a log that has another stamp now
other_stamp : (before : LeftFiles) (log now : Stamp) (same : Bool) → same ≡ false → ((same ≡ true) ↔ IsStampUnchanged before.stamps.log log) → log ≡ now
    → ¬ IsStampUnchanged before.stamps.log now
other_stamp before log now same no' decides is unchanged =
    false≢true (sym no' ∙ decides.1 (subst (λ (s : Stamp). IsStampUnchanged before.stamps.log s) (sym is) unchanged))

-- the end in bytes that are known
end_in : (before : LeftFiles) (end : Option LogEnd) (o : Option (List ℕ)) (bytes : List ℕ) → o ≡ Some bytes
    → IfSome o (λ b. IsEarlierEnd b before.log_end → IsEndOf b end) → IsEarlierEnd bytes before.log_end → IsEndOf bytes end
end_in before end o bytes is h = subst (λ (c : Option (List ℕ)). IfSome c (λ b. IsEarlierEnd b before.log_end → IsEndOf b end)) is h

-- a log was only added to
pub added_to : (o : Option (FileStamps × List ℕ)) (n : Option Stamp) (opened inner : Option (List ℕ)) (before : LeftFiles) (log : Stamp) (same : Bool) (end : Option LogEnd)
    → same ≡ false → ((same ≡ true) ↔ IsStampUnchanged before.stamps.log log) → IfSome n (λ now. log ≡ now) → inner ≡ opened → before.stamps.log.id ≡ log.id
    → IsContinued before.log_end end → IfSome inner (λ bytes. IsEarlierEnd bytes before.log_end → IsEndOf bytes end)
    → IfSome o (λ k. IfSome n (λ now. IfSome opened (λ bytes.
    IsTurnNoted before now bytes k.0 k.1 (record { stamps = record { database = before.stamps.database; log = log }; log_end = end }))))
added_to None n opened inner before log same end no' decides stamped same_log id continued h = tt
added_to (Some k) None opened inner before log same end no' decides stamped same_log id continued h = tt
added_to (Some k) (Some now) None inner before log same end no' decides stamped same_log id continued h = tt
added_to (Some k) (Some now) (Some bytes) inner before log same end no' decides stamped same_log id continued h =
    let other = other_stamp before log now same no' decides stamped in (
      λ unchanged. absurd (other unchanged),
      λ _. inl (record {
        log = subst (λ (s : Stamp). before.stamps.log.id ≡ s.id) stamped id;
        stamps = ap (λ (s : Stamp). files_at before.stamps.database s) stamped;
        continued = continued;
        end = end_in before end inner bytes same_log h;
      }),
    )

-- the files are noted anew behind a turn
pub noted_behind : {E : Type 0} (o : Option (FileStamps × List ℕ)) (n : Option Stamp) (opened : Option (List ℕ)) (before : LeftFiles) (log : Stamp) (same : Bool)
    (r : Result LeftFiles E) → same ≡ false → ((same ≡ true) ↔ IsStampUnchanged before.stamps.log log) → IfSome n (λ now. log ≡ now)
    → IfOk r (λ left. IfSome o (λ k. AreNoted (Some before) k.0 k.1 left))
    → IfOk r (λ left. IfSome o (λ k. IfSome n (λ now. IfSome opened (λ bytes. IsTurnNoted before now bytes k.0 k.1 left))))
noted_behind o n opened before log same (Err e) no' decides stamped noted = tt
noted_behind None n opened before log same (Ok left) no' decides stamped noted = tt
noted_behind (Some k) None opened before log same (Ok left) no' decides stamped noted = tt
noted_behind (Some k) (Some now) None before log same (Ok left) no' decides stamped noted = tt
noted_behind (Some k) (Some now) (Some bytes) before log same (Ok left) no' decides stamped noted =
    (λ unchanged. absurd (other_stamp before log now same no' decides stamped unchanged), λ _. inr noted)
