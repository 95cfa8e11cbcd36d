-- The plant's decisions over the content of a keep.
use Rattle.std.specs.Prelude.{nat_le}
use Rattle.std.proofs.Common.{◌≡◌, Bool, true, false, not, ◌&&◌, Option, Some, None, is_some, [], ◌∷◌, refl, sym, ap, subst, ◌∙◌}
use Rattle.toll_desk.proofs.Common.{list_any, Bytes, same_bytes, house_name, Action, AddOwner, AddUnit, OpenBatch, Command, by, History, acts, adds_owner, owner_known, unit_known, count_units, Slice, IsRowsOf, Verdict, Accepted, Repeated, Refused, verdict_of_checks, Checks, checks, needs_owner, verdict, grown, IsLawful, IsValidAction, changes_of, after_changes, changes_if, ChangesKeepRules, IsDecided, Decides, DecidesWith, DecisionKeepsRules, PutsOnly, OwnerRow, UnitRow, Change, Owner, Unit as UnitAdded, Decision, Refuse, UnknownOwner, OwnerExists, UnitExists, LimitReached, same_bytes-refl, accepted_passes, Judged, Content, Represents, false≢true, IfSome, option_map, option_map_or}
use Rattle.toll_answers.specs.PlantAnswers.{IsValidCommand, recorded_command}
use Rattle.toll_answers.specs.declared.plant_cmd.PlantCmd.{PlantCmd}
use Rattle.toll_desk.proofs.Knowing.{represented_knows}
use Rattle.toll_desk.proofs.UnitHolders.{same_holder}
use Rattle.toll_keep.specs.Holding.{IsHolder}
use Rattle.toll_desk.specs.Occupied.{on_unit}
use Rattle.toll_keep.specs.declared.holder.Holder.{Holder}
use Rattle.toll_history.specs.Holders.{holder}
use Rattle.toll_work.specs.Opening.{AreUnitFacts, DecidesOpening}
use Rattle.toll_desk.specs.Admission.{owner_row_checks, unit_row_checks}
use Rattle.toll_desk.specs.Plans.{ChangesLeadTo, PutsShared, IsOwnDecision, IsPlantDecision}
use Rattle.toll_desk.specs.Subjects.{IsCommandSuchThat, ConcernsOwnRows, is_shared}
use Rattle.toll_desk.proofs.SliceToContent.{adds_neither, same_grown, leads_on, leads_shared, leads_nowhere, first_of_either}
use Rattle.toll_desk.proofs.OwnerAdded.{leads_to_owner}
use Rattle.toll_desk.proofs.UnitAdded.{leads_to_unit, unit_known_alike}
use Rattle.toll_base.specs.declared.capacity.TheConstants.{MOST_OWNERS, MOST_UNITS}

-- a command of an owner that is not known is refused
unknown_refused : (H : History) (o : Bytes) (a : Action) → needs_owner a ≡ true → owner_known H o ≡ false → verdict H (by o a) ≡ Refused UnknownOwner
unfolding checks
unknown_refused H o a needs unknown = rw (needs, unknown) refl

pub house_known : (H : History) → owner_known H house_name ≡ true
house_known H = first_of_either (same_bytes house_name house_name) (list_any adds_owner (acts house_name H)) (same_bytes-refl house_name)

-- what is so of all that is such is so of it
pub deed_so : (P Q : Action → Type 0) → ((a : Action) → P a → Q a) → (done : Option Command) → IsCommandSuchThat P done → IsCommandSuchThat Q done
deed_so P Q so (Some command) deed = so command.action deed
deed_so P Q so None deed = absurd deed

pub recorded_valid : (q : PlantCmd) → IsCommandSuchThat IsValidAction (recorded_command q) → IsValidCommand q
recorded_valid q = by_done (recorded_command q)
  where
    by_done : (done : Option Command) → IsCommandSuchThat IsValidAction done → IfSome done (λ (c : Command). IsValidAction c.action)
    by_done (Some c) valid = valid
    by_done None valid = absurd valid

-- these decisions add neither owners nor units, and need their owner to be known
abbrev pub AddsNeither : Action → Type 0
AddsNeither a = adds_neither a ≡ true

pub own_adds : (a : Action) → ConcernsOwnRows a → adds_neither a ≡ true
own_adds (AddOwner key) own = absurd own
own_adds (AddUnit unit) own = absurd own
own_adds a own = refl

pub shared_adds : (a : Action) → is_shared a ≡ true → adds_neither a ≡ true
shared_adds (AddOwner key) shared = shared
shared_adds (AddUnit unit) shared = shared
shared_adds a shared = refl

needs_if : (a : Action) → adds_neither a ≡ true → needs_owner a ≡ true
needs_if (AddOwner key) neither = absurd (false≢true neither)
needs_if a neither = refl

-- ---- whether a unit is free

none_on_unit : (unit : Bytes) (held : Option Holder) (b : Bool) → is_some held ≡ not b → b ≡ not (is_some (option_map (on_unit unit) held))
none_on_unit unit None true e = refl
none_on_unit unit None false e = absurd (false≢true e)
none_on_unit unit (Some h) true e = absurd (false≢true (sym e))
none_on_unit unit (Some h) false e = refl

pub free_alike : (c : Content) (H : History) → Represents c H → IsLawful H → (unit : Bytes) (held : Option Holder) → IsHolder c unit held → (b : Bool) → is_some held ≡ not b → b ≡ not (is_some (holder H unit))
free_alike c H stands lawful unit held is b none = none_on_unit unit held b none ∙ ap (λ x. not (is_some x)) (sym (same_holder H c unit held lawful stands is))

-- a decision that is right over every history is so over this one
pub own_decision : (H : History) (s : Slice) (a : Action) (d : Decision) → IsLawful H → IsValidAction a → Decides (by s.owner a) s d → DecisionKeepsRules s d → PutsOnly s.owner (changes_of d) → IsOwnDecision H s a d
unfolding Decides DecisionKeepsRules
own_decision H s a d lawful valid decides rules own = record { right = decides H lawful valid; rules = rules; own = own }

pub deed_decision : (H : History) (s : Slice) (done : Option Command) (d : Decision) → IsLawful H → IsCommandSuchThat IsValidAction done → IsCommandSuchThat (λ a. Decides (by s.owner a) s d) done
    → DecisionKeepsRules s d → PutsOnly s.owner (changes_of d) → IsCommandSuchThat (λ a. IsOwnDecision H s a d) done
deed_decision H s (Some command) d lawful valid decides rules own = own_decision H s command.action d lawful valid decides rules own
deed_decision H s None d lawful valid decides rules own = absurd valid

-- the owner of what is recorded, or else this one
abbrev owner_or : Bytes → Option Command → Bytes
owner_or about done = option_map_or (λ (c : Command). c.owner) done about

module _ (c : Content) (H : History) (stands : Represents c H) where
  pub decided_unknown : (done : Option Command) (about : Bytes) → IsCommandSuchThat AddsNeither done → owner_known H (owner_or about done) ≡ false → IsPlantDecision c H done (Refuse UnknownOwner)
  decided_unknown (Some command) about neither unknown =
      let refused = sym (unknown_refused H command.owner command.action (needs_if command.action neither) unknown) in
      record { answer = ap Judged refused; leads = subst (λ v. ChangesLeadTo c [] (grown v H command)) refused (leads_nowhere c H stands) }
  decided_unknown None about neither unknown = absurd neither

  module _ (lawful : IsLawful H) where
    -- a decision over the rows of an owner is so over the content
    pub decided_own : (done : Option Command) (about : Bytes) (s : Slice) (d : Decision) → IsCommandSuchThat AddsNeither done → owner_known H (owner_or about done) ≡ true → s ≡ c.rows (owner_or about done)
        → IsCommandSuchThat (λ a. IsOwnDecision H s a d) done → IsPlantDecision c H done d
    decided_own (Some command) about s d neither known is own =
        let o = command.owner in
        let a = command.action in
        let named : s.owner ≡ o = ap (λ t. t.owner) is ∙ stands.own o in
        let right = own.right (ap (owner_known H) named ∙ known) (subst (IsRowsOf H) (sym is) (stands.known o known)) in
        record {
          answer = ap Judged (right.verdict_is ∙ ap (λ p. verdict H (by p a)) named);
          leads = leads_on c H stands lawful o known (changes_of d) (subst (λ p. PutsOnly p (changes_of d)) named own.own) (subst (ChangesKeepRules (changes_of d)) is own.rules) _ (same_grown H o a neither)
              (subst (λ p. (t : Slice) → IsRowsOf H t → IsRowsOf (grown (verdict H (by p a)) H (by p a)) (after_changes (changes_of d) t)) named right.rows_are);
        }
    decided_own None about s d neither known is own = absurd neither

    -- and so is one over the rows of an owner and of HOUSE
    pub decided_both : (done : Option Command) (about : Bytes) (s house : Slice) (d : Decision) → IsCommandSuchThat AddsNeither done → IsCommandSuchThat IsValidAction done → owner_known H (owner_or about done) ≡ true
        → s ≡ c.rows (owner_or about done) → house ≡ c.rows house_name → IsCommandSuchThat (λ a. DecidesWith (by s.owner a) s house d) done → DecisionKeepsRules s d
        → (same_bytes s.owner house.owner ≡ false → DecisionKeepsRules house d) → PutsShared s.owner (changes_of d) → IsPlantDecision c H done d
    unfolding DecidesWith DecisionKeepsRules
    decided_both (Some command) about s house d neither valid known is house_is decides rules house_rules own =
        let o = command.owner in
        let a = command.action in
        let named : s.owner ≡ o = ap (λ t. t.owner) is ∙ stands.own o in
        let house_named : house.owner ≡ house_name = ap (λ t. t.owner) house_is ∙ stands.own house_name in
        let right = decides H lawful valid (ap (owner_known H) named ∙ known) (subst (IsRowsOf H) (sym is) (stands.known o known)) (subst (IsRowsOf H) (sym house_is) (stands.known house_name (house_known H))) house_named in
        record {
          answer = ap Judged (right.verdict_is ∙ ap (λ p. verdict H (by p a)) named);
          leads = leads_shared c H stands lawful o known (changes_of d) (subst (λ p. PutsShared p (changes_of d)) named own) (subst (ChangesKeepRules (changes_of d)) is rules)
              (λ other. subst (ChangesKeepRules (changes_of d)) house_is (house_rules ((λ i. same_bytes (named i) (house_named i)) ∙ other))) _ (same_grown H o a neither)
              (subst (λ p. (t : Slice) → IsRowsOf H t → IsRowsOf (grown (verdict H (by p a)) H (by p a)) (after_changes (changes_of d) t)) named right.rows_are);
        }
    decided_both None about s house d neither valid known is house_is decides rules house_rules own = absurd neither

    -- what is decided by checks that say the verdict, and changes this where it is accepted
    module _ (command : Command) (tests : Checks) (change : Change) (same : verdict_of_checks tests ≡ verdict H command) (accepted : verdict H command ≡ Accepted → ChangesLeadTo c (change ∷ []) (command ∷ H)) where
      leads_by : (v : Verdict) → verdict H command ≡ v → ChangesLeadTo c (changes_if v (change ∷ [])) (grown v H command)
      leads_by Accepted is = accepted is
      leads_by Repeated is = leads_nowhere c H stands
      leads_by (Refused why) is = leads_nowhere c H stands

      decided_by : (d : Decision) → IsDecided tests (change ∷ []) d → IsPlantDecision c H (Some command) d
      decided_by d decided = record {
        answer = ap Judged (decided.says ∙ same);
        leads = subst (λ v. ChangesLeadTo c (changes_of d) (grown v H command)) same
            (subst (λ changes. ChangesLeadTo c changes (grown (verdict_of_checks tests) H command)) (sym decided.makes) (leads_by _ (sym same)));
      }

    -- an owner's being added
    module _ (row : OwnerRow) where
      abbrev adding : Command
      adding = by row.owner (AddOwner row.key)

      owner_verdict : verdict_of_checks (owner_row_checks c.owners row) ≡ verdict H adding
      unfolding checks
      owner_verdict i = verdict_of_checks ((represented_knows H c stands row.owner i, Some OwnerExists) ∷ (nat_le MOST_OWNERS (stands.owners.all i), Some LimitReached) ∷ [])

      pub decided_owner : (d : Decision) → IsDecided (owner_row_checks c.owners row) (Owner row ∷ []) d → IsPlantDecision c H (Some adding) d
      decided_owner = decided_by adding (owner_row_checks c.owners row) (Owner row) owner_verdict
          (λ is. leads_to_owner c H stands lawful row.owner row.key (accepted_passes H row.owner (AddOwner row.key) is 0) is)

    -- a unit's being added
    module _ (row : UnitRow) where
      abbrev adding_unit : Command
      adding_unit = by house_name (AddUnit row.unit)

      unit_verdict : verdict_of_checks (unit_row_checks c.units row) ≡ verdict H adding_unit
      unfolding checks
      unit_verdict =
          (λ i. verdict_of_checks ((unit_known_alike c H stands row.unit i, Some UnitExists) ∷ (nat_le MOST_UNITS (stands.units.all i), Some LimitReached) ∷ []))
          ∙ sym (ap (λ known. verdict_of_checks ((true && not known, Some UnknownOwner) ∷ (unit_known H row.unit, Some UnitExists) ∷ (nat_le MOST_UNITS (count_units H), Some LimitReached) ∷ [])) (house_known H))

      pub decided_unit : (d : Decision) → IsDecided (unit_row_checks c.units row) (UnitAdded row ∷ []) d → IsPlantDecision c H (Some adding_unit) d
      decided_unit = decided_by adding_unit (unit_row_checks c.units row) (UnitAdded row) unit_verdict
          (λ is. leads_to_unit c H stands row.unit (accepted_passes H house_name (AddUnit row.unit) is 0))

-- ---- the opening of a batch

pub opened_own : (H : History) (s : Slice) (order unit : Bytes) (known free : Bool) (d : Decision) → IsLawful H → AreUnitFacts H unit known free → DecidesOpening order unit known free s d → DecisionKeepsRules s d → PutsOnly s.owner (changes_of d) → IsOwnDecision H s (OpenBatch order unit) d
unfolding DecidesOpening DecisionKeepsRules
opened_own H s order unit known free d lawful reported decides rules own = record { right = λ owner there. decides H lawful owner there reported; rules = rules; own = own }
