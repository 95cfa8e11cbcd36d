-- A unit that is added: the content with it stands for the history with it.
use Rattle.std.proofs.Common.{◌≡◌, Bool, true, false, cond, ◌||◌, Option, Some, is_some, [], ◌∷◌, refl, sym, ap, subst, ◌∙◌, arith}
use Rattle.toll_desk.proofs.Common.{nat_list_cmp_total, list_any, option_map, Bytes, bytes_cmp, same_bytes, house_name, where_so, row_at, put_row, AddUnit, Command, by, History, acts, key_added, adds_owner, owner_key, owner_known, unit_known, facts_given, OwnerRow, UnitRow, Unit as UnitAdded, first_acts, any_acts, tables-own, tables-others, put_row_ordered, length-new, same_bytes-exact, Content, Represents, AreOwnersOf, AreUnitsOf}
use Rattle.toll_history.proofs.Options.{or_none}
use Rattle.toll_desk.specs.Plans.{ChangesLeadTo}
use Rattle.toll_desk.proofs.Found.{put_found}
use Rattle.toll_desk.proofs.SliceToContent.{and_false_or, zero_more}

is_there : {X : Type 0} (b : Bool) (x : X) → is_some (where_so b x) ≡ b
is_there true x = refl
is_there false x = refl

pub unit_known_alike : (c : Content) (H : History) → Represents c H → (unit : Bytes) → is_some (row_at bytes_cmp (λ r. r.unit) c.units unit) ≡ unit_known H unit
unit_known_alike c H stands unit = ap is_some (stands.units.each unit) ∙ is_there (unit_known H unit) (record { unit = unit })

abbrev unit_named : Bytes → Option UnitRow
unit_named v = Some (record { unit = v })

unit_of_added : (unit u : Bytes) (b known : Bool) → same_bytes unit u ≡ b →
    cond b (Some (record { unit = unit })) (where_so {X = UnitRow} known (record { unit = u })) ≡ where_so (b || known) (record { unit = u })
unit_of_added unit u true known same = ap unit_named (same_bytes-exact unit u same)
unit_of_added unit u false known same = refl

module _ (c : Content) (H : History) (stands : Represents c H) (unit : Bytes) (absent : unit_known H unit ≡ false) where
  abbrev unit_row : UnitRow
  unit_row = record { unit = unit }

  abbrev add_unit_command : Command
  add_unit_command = by house_name (AddUnit unit)

  abbrev with_unit_added : History
  with_unit_added = add_unit_command ∷ H

  unit_is_new : is_some (row_at bytes_cmp (λ r. r.unit) c.units unit) ≡ false
  unit_is_new = unit_known_alike c H stands unit ∙ absent

  units_with_added : AreUnitsOf with_unit_added (put_row bytes_cmp (λ r. r.unit) c.units unit_row)
  units_with_added = record {
    ordered = put_row_ordered bytes_cmp nat_list_cmp_total (λ r. r.unit) c.units unit_row stands.units.ordered;
    each = λ u. put_found (λ (r : UnitRow). r.unit) c.units unit_row u _ (stands.units.each u) ∙ unit_of_added unit u (same_bytes unit u) (unit_known H u) refl;
    all = omega (arith, length-new bytes_cmp nat_list_cmp_total (λ r. r.unit) c.units unit_row unit_is_new, stands.units.all);
  }

  owners_beside_added : AreOwnersOf with_unit_added c.owners
  owners_beside_added = record {
    ordered = stands.owners.ordered;
    each = λ p. stands.owners.each p ∙ ap (option_map {T = Bytes} {U = OwnerRow} (λ key. record { owner = p; key = key })) (sym (first_acts key_added p add_unit_command H ∙ or_none (same_bytes house_name p) (owner_key (acts p H))));
    all = stands.owners.all ∙ sym (zero_more _);
  }

  known_alike : (p : Bytes) → owner_known with_unit_added p ≡ owner_known H p
  known_alike p = ap (λ b. same_bytes p house_name || b) (any_acts adds_owner p add_unit_command H ∙ and_false_or (same_bytes house_name p) (list_any adds_owner (acts p H)))

  rows_alike : (p : Bytes) → facts_given with_unit_added p ≡ facts_given H p
  rows_alike p =
      elim (same_bytes house_name p) as (λ b. same_bytes house_name p ≡ b → facts_given with_unit_added p ≡ facts_given H p) [
        | true ↦ λ is. subst (λ q. facts_given with_unit_added q ≡ facts_given H q) (same_bytes-exact house_name p is) (tables-own H house_name (AddUnit unit) refl)
        | false ↦ λ other. tables-others H house_name (AddUnit unit) refl p other
      ] refl

  -- the changes that add a unit lead to the history in which it was added
  pub leads_to_unit : ChangesLeadTo c (UnitAdded unit_row ∷ []) with_unit_added
  leads_to_unit = record {
    stands = record {
      owners = owners_beside_added;
      units = units_with_added;
      own = stands.own;
      known = λ p there. stands.known p (sym (known_alike p) ∙ there) ∙ sym (rows_alike (c.rows p).owner);
      unknown = λ p unknown. stands.unknown p (sym (known_alike p) ∙ unknown);
    };
    fits = (tt, tt);
  }
