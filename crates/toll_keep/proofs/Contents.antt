-- Contents with the same rows are equal, and a content of a list is one of its items.
use Rattle.std.proofs.Common.{◌≡◌, true, Some, None, cond, List, [], ◌∷◌, Vec, Global, length, sym, ap, ◌∙◌, inl, inr, subst, Contains}
use Rattle.toll_keep.proofs.Common.{with_items, with_items_is, Bytes, Slice, OwnerRow, UnitRow, Contains-none, Contains-here, Contains-later, Contains-cases, Content, knows, slice_of, IsAmong, Kept}

pub same_content : (a b : Content) → a.owners ≡ b.owners → a.units ≡ b.units → ((o : Bytes) → a.rows o ≡ b.rows o) → a ≡ b
same_content a b owners units rows = λ i. record { owners = owners i; units = units i; rows = λ o. rows o i }

-- Writing back the items that are there changes nothing.
pub written_back : {X : Type 0} (v : Vec X Global) (xs : List X) → xs ≡ v.items → (with_items v xs).items ≡ v.items
written_back v xs same = with_items_is v xs (ap length same ∙ sym v.ok.0) ∙ same

-- Writing back the same slices leaves a keep unchanged.
pub kept_still : (owners : List OwnerRow) (units : List UnitRow) (v : Vec Slice Global) (slices : List Slice) → slices ≡ v.items → ◌≡◌ {A = Kept} (record { owners = owners; units = units; slices = (with_items v slices).items }) (record { owners = owners; units = units; slices = v.items })
kept_still owners units v slices same = ap (λ s. record { owners = owners; units = units; slices = s }) (written_back v slices same)

-- The rows of a known owner are its slice.
pub known_slice : (c : Content) (o : Bytes) (s : Slice) → knows c o ≡ true → s ≡ c.rows o → Some s ≡ slice_of c o
known_slice c o s known is = subst (λ b. Some s ≡ cond b (Some (c.rows o)) None) (sym known) (ap (λ rows. Some rows) is)

pub among_contains : (a : Content) (cs : List Content) → IsAmong (λ c. a ≡ c) cs → Contains cs a
among_contains a [] h = absurd h
among_contains a (c ∷ cs) (inl is) = subst (Contains (c ∷ cs)) (sym is) (Contains-here c cs)
among_contains a (c ∷ cs) (inr h) = Contains-later c cs a (among_contains a cs h)

pub contains_among : (a : Content) (cs : List Content) → Contains cs a → IsAmong (λ c. a ≡ c) cs
contains_among a [] h = absurd (Contains-none a h)
contains_among a (c ∷ cs) h = elim (Contains-cases c cs a h) [ inl is ↦ inl (sym is) | inr later ↦ inr (contains_among a cs later) ]
