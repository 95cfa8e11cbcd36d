-- An owner that is added: the content with it stands for the history with it.
use Rattle.std.proofs.Common.{◌≡◌, Bool, true, false, cond, ◌||◌, ◌&&◌, Option, Some, None, is_some, [], ◌∷◌, refl, sym, ap, subst, ◌∙◌, arith}
use Rattle.toll_desk.proofs.Common.{false≢true, nat_list_cmp_total, list_any, option_map, Bytes, bytes_cmp, same_bytes, house_name, or_else, row_at, put_row, AddOwner, Command, by, History, acts, key_added, adds_owner, owner_key, owner_known, stock, sublot_known, lot_made, count_lots, count_sublots, material_used, empty_slice, IsRowsOf, facts_given, Accepted, verdict, IsLawful, OwnerRow, Owner, first_acts, any_acts, tables-own, tables-others, put_row_ordered, part-own, length-new, same_bytes-exact, same_bytes-refl, Content, Represents, AreOwnersOf}
use Rattle.toll_desk.proofs.Knowing.{represented_knows}
use Rattle.toll_desk.proofs.Unknown.{or_false_parts, nothing_of_unknown}
use Rattle.toll_history.proofs.OwnFacts.{tables-part}
use Rattle.toll_desk.specs.Plans.{ChangesLeadTo}
use Rattle.toll_desk.proofs.Found.{put_found}

-- an owner whose only command added it has no rows yet
rows_of_new : (o key : Bytes) → IsRowsOf (by o (AddOwner key) ∷ []) (empty_slice o)
unfolding row_at acts stock sublot_known lot_made count_lots count_sublots material_used
rows_of_new o key = sym (tables-own [] o (AddOwner key) refl)

key_of_added : (o p key : Bytes) (b : Bool) (rest : Option Bytes) → same_bytes o p ≡ b →
    cond b (Some (record { owner = o; key = key })) (option_map {T = Bytes} {U = OwnerRow} (λ k. record { owner = p; key = k }) rest) ≡ option_map (λ k. record { owner = p; key = k }) (or_else (cond b (Some key) None) rest)
key_of_added o p key true rest same = ap (λ q. Some (record { owner = q; key = key })) (same_bytes-exact o p same)
key_of_added o p key false rest same = refl

known_or_added : (same house added : Bool) → (house || ((same && true) || added)) ≡ true → same ≡ false → (house || added) ≡ true
known_or_added true house added known other = absurd (false≢true (sym other))
known_or_added false house added known other = known

unknown_before_added : (same house added : Bool) → (house || ((same && true) || added)) ≡ false → (house || added) ≡ false
unknown_before_added same true added unknown = unknown
unknown_before_added true false added unknown = absurd (false≢true (sym unknown))
unknown_before_added false false added unknown = unknown

module _ (c : Content) (H : History) (stands : Represents c H) (lawful : IsLawful H) (o key : Bytes) (absent : owner_known H o ≡ false) (accepted : verdict H (by o (AddOwner key)) ≡ Accepted) where
  abbrev owner_row : OwnerRow
  owner_row = record { owner = o; key = key }

  abbrev add_owner_command : Command
  add_owner_command = by o (AddOwner key)

  abbrev with_owner_added : History
  with_owner_added = add_owner_command ∷ H

  owner_is_new : is_some (row_at bytes_cmp (λ r. r.owner) c.owners o) ≡ false
  owner_is_new = (or_false_parts (same_bytes o house_name) _ (represented_knows H c stands o ∙ absent)).1

  owners_with_added : AreOwnersOf with_owner_added (put_row bytes_cmp (λ r. r.owner) c.owners owner_row)
  owners_with_added = record {
    ordered = put_row_ordered bytes_cmp nat_list_cmp_total (λ r. r.owner) c.owners owner_row stands.owners.ordered;
    each = λ p.
        put_found (λ (r : OwnerRow). r.owner) c.owners owner_row p _ (stands.owners.each p)
        ∙ key_of_added o p key _ (owner_key (acts p H)) refl
        ∙ ap (option_map {T = Bytes} {U = OwnerRow} (λ k. record { owner = p; key = k })) (sym (first_acts key_added p add_owner_command H));
    all = omega (arith, length-new bytes_cmp nat_list_cmp_total (λ r. r.owner) c.owners owner_row owner_is_new, stands.owners.all);
  }

  lawful_after : IsLawful with_owner_added
  lawful_after = (lawful, tt, accepted)

  not_house : same_bytes o house_name ≡ false
  not_house = (or_false_parts (same_bytes o house_name) _ absent).0

  -- what the history gives to the owner is what its one command gives
  rows_of_added : IsRowsOf with_owner_added (empty_slice o)
  rows_of_added =
      rows_of_new o key
      ∙ ap (λ L. facts_given L o) (sym (part-own o add_owner_command H (same_bytes-refl o) ∙ ap (λ L. add_owner_command ∷ L) (nothing_of_unknown o H lawful absent)))
      ∙ tables-part o with_owner_added lawful_after not_house

  owner_known_of : (p : Bytes) → owner_known with_owner_added p ≡ true → IsRowsOf with_owner_added (c.rows p)
  owner_known_of p known =
      elim (same_bytes o p) as (λ b. same_bytes o p ≡ b → IsRowsOf with_owner_added (c.rows p)) [
        | true ↦ λ same. subst (λ q. IsRowsOf with_owner_added (c.rows q)) (same_bytes-exact o p same) (subst (IsRowsOf with_owner_added) (sym (stands.unknown o absent)) rows_of_added)
        | false ↦ λ other.
            let before = known_or_added (same_bytes o p) (same_bytes p house_name) (list_any adds_owner (acts p H)) (ap (λ b. same_bytes p house_name || b) (sym (any_acts adds_owner p add_owner_command H)) ∙ known) other in
            stands.known p before ∙ sym (tables-others H o (AddOwner key) refl (c.rows p).owner (ap (same_bytes o) (stands.own p) ∙ other))
      ] refl

  unknown_of : (p : Bytes) → owner_known with_owner_added p ≡ false → c.rows p ≡ empty_slice p
  unknown_of p unknown =
      stands.unknown p (unknown_before_added (same_bytes o p) (same_bytes p house_name) (list_any adds_owner (acts p H)) (ap (λ b. same_bytes p house_name || b) (sym (any_acts adds_owner p add_owner_command H)) ∙ unknown))

  -- the changes that add an owner lead to the history in which it was added
  pub leads_to_owner : ChangesLeadTo c (Owner owner_row ∷ []) with_owner_added
  leads_to_owner = record {
    stands = record {
      owners = owners_with_added;
      units = record { ordered = stands.units.ordered; each = stands.units.each; all = omega (arith, stands.units.all) };
      own = stands.own;
      known = owner_known_of;
      unknown = unknown_of;
    };
    fits = (tt, tt);
  }
