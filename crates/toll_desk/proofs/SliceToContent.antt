-- From what a decision owes to every slice to what a plan owes over the content of a keep.
use Rattle.std.proofs.Common.{◌≡◌, ◌⊎◌, inl, inr, ℕ, ◌+◌, Bool, true, false, ◌&&◌, ◌||◌, cond, is_some, List, [], ◌∷◌, refl, sym, ap, subst, ◌∙◌, arith}
use Rattle.toll_desk.proofs.Common.{false≢true, list_any, option_map, Bytes, bytes_cmp, same_bytes, row_at, house_name, where_so, Action, AddOwner, AddUnit, by, History, acts, key_added, adds_owner, owner_key, owner_known, count_owners, unit_known, count_units, Slice, empty_slice, with_row, IsRowsOf, Verdict, Accepted, Repeated, Refused, verdict, grown, grow, IsLawful, after_change, after_changes, ChangesKeepRules, EachChange, is_put_of, is_put_in_house, PutsOnly, PutsOnlyWith, OwnerRow, UnitRow, Change, Owner, Unit as UnitAdded, Put, first_acts, any_acts, same_bytes-exact, same_bytes-refl, Content, knows, after_owners, after_units, PutsToKnown, Represents, AreOwnersOf, AreUnitsOf}
use Rattle.toll_desk.proofs.KeptRules.{represented_keeps_rules}
use Rattle.toll_desk.proofs.Knowing.{represented_knows}
use Rattle.toll_base.specs.SliceRules.{KeepsRules}
use Rattle.toll_base.specs.declared.rows.Row.{Row}
use Rattle.toll_base.specs.declared.rows.Row.TheVariants.{Material, Test, Recipe, Requirement, Order, Batch, Lot, Sublot, Move, Result, Void}
use Rattle.toll_keep.proofs.Changed.{own_after}
use Rattle.toll_history.proofs.Options.{or_none}
use Rattle.toll_desk.proofs.Fitting.{kept_rules_fit}
use Rattle.toll_desk.specs.Plans.{ChangesLeadTo, is_shared_put, PutsShared}

-- ---- owners and units

-- the histories have the same owners, with the same keys, and the same units
pub record SamePlant (H G : History) : Type 0 where
  pub key : (o : Bytes) → owner_key (acts o G) ≡ owner_key (acts o H)
  pub known : (o : Bytes) → owner_known G o ≡ owner_known H o
  pub owners : count_owners G ≡ count_owners H
  pub unit : (unit : Bytes) → unit_known G unit ≡ unit_known H unit
  pub units : count_units G ≡ count_units H

pub same_plant-refl : (H : History) → SamePlant H H
same_plant-refl H = record { key = λ o. refl; known = λ o. refl; owners = refl; unit = λ unit. refl; units = refl }

-- neither an owner nor a unit is added
abbrev pub adds_neither : Action → Bool
adds_neither (AddOwner key) = false
adds_neither (AddUnit unit) = false
adds_neither _ = true

pub and_false_or : (b c : Bool) → ((b && false) || c) ≡ c
and_false_or true c = refl
and_false_or false c = refl

pub zero_more : (n : ℕ) → 0 + n ≡ n
zero_more n = omega arith

lifted_same_after : (H : History) (w : Bytes) (a : Action) → adds_neither a ≡ true → SamePlant H (by w a ∷ H)
lifted_same_after H w (AddOwner key) none = absurd (false≢true none)
lifted_same_after H w (AddUnit unit) none = absurd (false≢true none)
lifted_same_after H w a none = record {
  key = λ o. first_acts key_added o (by w a) H ∙ or_none (same_bytes w o) (owner_key (acts o H));
  known = λ o. ap (λ b. same_bytes o house_name || b) (any_acts adds_owner o (by w a) H ∙ and_false_or (same_bytes w o) (list_any adds_owner (acts o H)));
  owners = zero_more (count_owners H);
  unit = λ unit. refl;
  units = zero_more (count_units H);
}

pub same_grown : (H : History) (w : Bytes) (a : Action) → adds_neither a ≡ true → SamePlant H (grow H (by w a))
same_grown H w a none = go (verdict H (by w a))
  where
    go : (v : Verdict) → SamePlant H (grown v H (by w a))
    go Accepted = lifted_same_after H w a none
    go Repeated = same_plant-refl H
    go (Refused why) = same_plant-refl H

-- ---- changes of one owner's rows, or of its and HOUSE's

-- such changes put rows, and none of this owner
record Misses (such : Change → Bool) (q : Bytes) : Type 0 where
  pub puts : (p : Bytes) (row : Row) → such (Put p row) ≡ true → same_bytes p q ≡ false
  pub no_owner : (row : OwnerRow) → such (Owner row) ≡ false
  pub no_unit : (row : UnitRow) → such (UnitAdded row) ≡ false

own_misses : (o q : Bytes) → same_bytes o q ≡ false → Misses (is_put_of o) q
own_misses o q other = record {
  puts = λ p row put. ap (λ w. same_bytes w q) (same_bytes-exact p o put) ∙ other;
  no_owner = λ row. refl;
  no_unit = λ row. refl;
}

lifted_or_either : (b c : Bool) → (b || c) ≡ true → (b ≡ true) ⊎ (c ≡ true)
lifted_or_either true c h = inl refl
lifted_or_either false c h = inr h

pub first_of_either : (b c : Bool) → b ≡ true → (b || c) ≡ true
first_of_either true c h = refl
first_of_either false c h = absurd (false≢true h)

shared_misses : (o q : Bytes) → same_bytes o q ≡ false → same_bytes house_name q ≡ false → Misses (is_shared_put o) q
shared_misses o q other not_house = record {
  puts = λ p row put. elim (lifted_or_either (same_bytes p o) (same_bytes p house_name) put) [
    | inl is ↦ ap (λ w. same_bytes w q) (same_bytes-exact p o is) ∙ other
    | inr is ↦ ap (λ w. same_bytes w q) (same_bytes-exact p house_name is) ∙ not_house
  ];
  no_owner = λ row. refl;
  no_unit = λ row. refl;
}

-- rows of one owner are rows of it or of HOUSE
pub shared_by_own : (o : Bytes) (changes : List Change) → PutsOnly o changes → PutsShared o changes
shared_by_own o [] puts = tt
shared_by_own o (Owner row ∷ changes) puts = absurd (false≢true puts.0)
shared_by_own o (UnitAdded row ∷ changes) puts = absurd (false≢true puts.0)
shared_by_own o (Put p row ∷ changes) puts = (first_of_either (same_bytes p o) (same_bytes p house_name) puts.0, shared_by_own o changes puts.1)

last_of_both : (b c : Bool) → (b && c) ≡ true → b ≡ true
last_of_both true c h = refl
last_of_both false c h = absurd (false≢true h)

named_in_house : (o : Bytes) (k : Bytes × Bytes) (change : Change) → (is_put_of o change || is_put_in_house k change) ≡ true → is_shared_put o change ≡ true
named_in_house o k (Owner row) put = absurd (false≢true put)
named_in_house o k (UnitAdded row) put = absurd (false≢true put)
named_in_house o k (Put p row) put = elim (lifted_or_either (same_bytes p o) (is_put_in_house k (Put p row)) put) [
  | inl is ↦ first_of_either (same_bytes p o) (same_bytes p house_name) is
  | inr is ↦ second_of_either (same_bytes p o) (same_bytes p house_name) (of_house p row is)
]
  where
    second_of_either : (b c : Bool) → c ≡ true → (b || c) ≡ true
    second_of_either true c h = refl
    second_of_either false c h = h

    of_house : (p : Bytes) (row : Row) → is_put_in_house k (Put p row) ≡ true → same_bytes p house_name ≡ true
    of_house p (Sublot row) is = last_of_both (same_bytes p house_name) (same_bytes row.lot k.0) (last_of_both (same_bytes p house_name && same_bytes row.lot k.0) (same_bytes row.sublot k.1) is)
    of_house p (Material row) is = absurd (false≢true is)
    of_house p (Test row) is = absurd (false≢true is)
    of_house p (Recipe row) is = absurd (false≢true is)
    of_house p (Requirement row) is = absurd (false≢true is)
    of_house p (Order row) is = absurd (false≢true is)
    of_house p (Batch row) is = absurd (false≢true is)
    of_house p (Lot row) is = absurd (false≢true is)
    of_house p (Move row) is = absurd (false≢true is)
    of_house p (Result row) is = absurd (false≢true is)
    of_house p (Void row) is = absurd (false≢true is)

-- and so are an owner's rows with one sublot of HOUSE
pub shared_by_named : (o : Bytes) (k : Bytes × Bytes) (changes : List Change) → PutsOnlyWith o k changes → PutsShared o changes
shared_by_named o k [] puts = tt
shared_by_named o k (change ∷ changes) puts = (named_in_house o k change puts.0, shared_by_named o k changes puts.1)

owners_stay_shared : (o : Bytes) (changes : List Change) (rows : List OwnerRow) → PutsShared o changes → after_owners changes rows ≡ rows
owners_stay_shared o [] rows puts = refl
owners_stay_shared o (Owner row ∷ changes) rows puts = absurd (false≢true puts.0)
owners_stay_shared o (UnitAdded row ∷ changes) rows puts = absurd (false≢true puts.0)
owners_stay_shared o (Put p row ∷ changes) rows puts = owners_stay_shared o changes rows puts.1

units_stay_shared : (o : Bytes) (changes : List Change) (rows : List UnitRow) → PutsShared o changes → after_units changes rows ≡ rows
units_stay_shared o [] rows puts = refl
units_stay_shared o (Owner row ∷ changes) rows puts = absurd (false≢true puts.0)
units_stay_shared o (UnitAdded row ∷ changes) rows puts = absurd (false≢true puts.0)
units_stay_shared o (Put p row ∷ changes) rows puts = units_stay_shared o changes rows puts.1

pub owner_stays : (changes : List Change) (s : Slice) → (after_changes changes s).owner ≡ s.owner
owner_stays [] s = refl
owner_stays (change ∷ changes) s = owner_stays changes (after_change change s) ∙ own_after change s

-- changes leave the rows of an owner that they miss
module _ (such : Change → Bool) (s : Slice) (misses : Misses such s.owner) where
  other_stays : (change : Change) → such change ≡ true → after_change change s ≡ s
  other_stays (Owner row) put = refl
  other_stays (UnitAdded row) put = refl
  other_stays (Put p row) put = ap (λ b. cond b (with_row s row) s) (misses.puts p row put)

  others_stay : (changes : List Change) → EachChange such changes → after_changes changes s ≡ s
  others_stay [] each = refl
  others_stay (change ∷ changes) each = ap (after_changes changes) (other_stays change each.0) ∙ others_stay changes each.1

  lifted_others_keep : (changes : List Change) → EachChange such changes → KeepsRules s → ChangesKeepRules changes s
  lifted_others_keep [] each keeps = tt
  lifted_others_keep (change ∷ changes) each keeps =
      subst (λ t. KeepsRules t × ChangesKeepRules changes t) (sym (other_stays change each.0)) (keeps, lifted_others_keep changes each.1 keeps)

-- changes of one owner's rows keep the rules of another's
pub own_keep_others : (o : Bytes) (changes : List Change) (s : Slice) → PutsOnly o changes → same_bytes o s.owner ≡ false → KeepsRules s → ChangesKeepRules changes s
own_keep_others o changes s puts other keeps = lifted_others_keep (is_put_of o) s (own_misses o s.owner other) changes puts keeps

puts_to_known : (c : Content) (o : Bytes) (changes : List Change) → PutsShared o changes → knows c o ≡ true → PutsToKnown c changes
puts_to_known c o [] puts known = tt
puts_to_known c o (Owner row ∷ changes) puts known = absurd (false≢true puts.0)
puts_to_known c o (UnitAdded row ∷ changes) puts known = absurd (false≢true puts.0)
puts_to_known c o (Put p row ∷ changes) puts known = (
  elim (lifted_or_either (same_bytes p o) (same_bytes p house_name) puts.0) [
    | inl is ↦ subst (λ q. knows c q ≡ true) (sym (same_bytes-exact p o is)) known
    | inr is ↦ first_of_either (same_bytes p house_name) (is_some (row_at bytes_cmp (λ r. r.owner) c.owners p)) is
  ],
  puts_to_known c o changes puts.1 known,
)

-- ---- the content stands for the grown history

module _ (c : Content) (H : History) (stands : Represents c H) where
  pub leads_nowhere : ChangesLeadTo c [] H
  leads_nowhere = record { stands = stands; fits = tt }

  module _ (lawful : IsLawful H) (o : Bytes) (known : owner_known H o ≡ true) (changes : List Change) where
    module _ (puts : PutsShared o changes) (rules : ChangesKeepRules changes (c.rows o)) (house_rules : same_bytes o house_name ≡ false → ChangesKeepRules changes (c.rows house_name)) where
      keep_rules : (p : Bytes) → ChangesKeepRules changes (c.rows p)
      keep_rules p =
          elim (same_bytes o p) as (λ b. same_bytes o p ≡ b → ChangesKeepRules changes (c.rows p)) [
            | true ↦ λ same. subst (λ q. ChangesKeepRules changes (c.rows q)) (same_bytes-exact o p same) rules
            | false ↦ λ other. elim (same_bytes house_name p) as (λ b. same_bytes house_name p ≡ b → ChangesKeepRules changes (c.rows p)) [
              | true ↦ λ at_house. let is = same_bytes-exact house_name p at_house in subst (λ q. ChangesKeepRules changes (c.rows q)) is (house_rules (ap (same_bytes o) is ∙ other))
              | false ↦ λ elsewhere. lifted_others_keep (is_shared_put o) (c.rows p) (shared_misses o (c.rows p).owner (ap (same_bytes o) (stands.own p) ∙ other) (ap (same_bytes house_name) (stands.own p) ∙ elsewhere)) changes puts (represented_keeps_rules H c lawful stands p)
            ] refl
          ] refl

      module _ (G : History) (same : SamePlant H G) (rows : (s : Slice) → IsRowsOf H s → IsRowsOf G (after_changes changes s)) where
        lifted_owners : AreOwnersOf G (after_owners changes c.owners)
        lifted_owners =
            subst (AreOwnersOf G) (sym (owners_stay_shared o changes c.owners puts)) (record {
              ordered = stands.owners.ordered;
              each = λ p. stands.owners.each p ∙ ap (option_map _) (sym (same.key p));
              all = stands.owners.all ∙ sym same.owners;
            })

        lifted_units_of : AreUnitsOf G (after_units changes c.units)
        lifted_units_of =
            subst (AreUnitsOf G) (sym (units_stay_shared o changes c.units puts)) (record {
              ordered = stands.units.ordered;
              each = λ unit. stands.units.each unit ∙ ap (λ b. where_so {X = UnitRow} b (record { unit = unit })) (sym (same.unit unit));
              all = stands.units.all ∙ sym same.units;
            })

        -- an owner that is not known is neither the one whose rows are put nor HOUSE
        differs : (p q : Bytes) → owner_known H p ≡ false → owner_known H q ≡ true → same_bytes q p ≡ false
        differs p q absent there =
            elim (same_bytes q p) as (λ b. same_bytes q p ≡ b → b ≡ false) [
              | true ↦ λ is. absurd (false≢true (sym absent ∙ ap (owner_known H) (sym (same_bytes-exact q p is)) ∙ there))
              | false ↦ λ other. refl
            ] refl

        none_of_unknown : (p : Bytes) → owner_known G p ≡ false → after_changes changes (c.rows p) ≡ empty_slice p
        none_of_unknown p unknown =
            let absent = sym (same.known p) ∙ unknown in
            let house_known : owner_known H house_name ≡ true = first_of_either (same_bytes house_name house_name) (list_any adds_owner (acts house_name H)) (same_bytes-refl house_name) in
            others_stay (is_shared_put o) (c.rows p) (shared_misses o (c.rows p).owner (ap (same_bytes o) (stands.own p) ∙ differs p o absent known) (ap (same_bytes house_name) (stands.own p) ∙ differs p house_name absent house_known)) changes puts
            ∙ stands.unknown p absent

        -- changes of a known owner's rows and of HOUSE's that are right for every slice lead to the grown history
        pub leads_shared : ChangesLeadTo c changes G
        leads_shared = record {
          stands = record {
            owners = lifted_owners;
            units = lifted_units_of;
            own = λ p. owner_stays changes (c.rows p) ∙ stands.own p;
            known = λ p there. rows (c.rows p) (stands.known p (sym (same.known p) ∙ there));
            unknown = none_of_unknown;
          };
          fits = kept_rules_fit c changes stands.own keep_rules (puts_to_known c o changes puts (represented_knows H c stands o ∙ known));
        }

    -- the same of changes of the owner's rows alone
    pub leads_on : PutsOnly o changes → ChangesKeepRules changes (c.rows o) → (G : History) → SamePlant H G → ((s : Slice) → IsRowsOf H s → IsRowsOf G (after_changes changes s)) → ChangesLeadTo c changes G
    leads_on puts rules =
        leads_shared (shared_by_own o changes puts) rules
        (λ other. own_keep_others o changes (c.rows house_name) puts (ap (same_bytes o) (stands.own house_name) ∙ other) (represented_keeps_rules H c lawful stands house_name))
