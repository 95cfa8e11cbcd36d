-- Changes, one after another, keep the owner of each slice and all known owners.
use Rattle.std.proofs.Common.{◌≡◌, ℕ, suc, ◌+◌, ◌<◌, Bool, true, false, ◌||◌, List, [], ◌∷◌, length, get_or, drop, drop-cons, add-one, cond, refl, sym, ap}
use Rattle.std.specs.Cmp.Lexicographic.{nat_list_cmp_total}
use Rattle.toll_keep.proofs.Common.{Bytes, bytes_cmp, same_bytes, house_name, Slice, with_row, after_change, Change, Owner, Unit as UnitAdded, Put, Content, knows, content_after}
use Rattle.toll_base.proofs.PutRules.{still_there}
use Rattle.toll_keep.proofs.Slicing.{owner-with_row}

-- ---- the next change

pub next_left : (changes : List Change) (i : ℕ) (change : Change) → i < length changes → change ≡ get_or changes i change → drop i changes ≡ change ∷ drop (i + 1) changes
next_left changes i change lt is = rw (add-one, drop-cons changes i change) (ap (λ first. first ∷ drop (suc i) changes) (sym is))

-- ---- a slice keeps its owner

pub own_after : (change : Change) (s : Slice) → (after_change change s).owner ≡ s.owner
own_after (Owner row) s = refl
own_after (UnitAdded row) s = refl
own_after (Put o row) s = elim (same_bytes o s.owner) as (λ b. (cond b (with_row s row) s).owner ≡ s.owner) [ true ↦ owner-with_row s row | false ↦ refl ]

-- ---- a known owner stays known

or_more : (house before now : Bool) → (before ≡ true → now ≡ true) → (house || before) ≡ true → (house || now) ≡ true
or_more true before now more h = refl
or_more false before now more h = more h

pub known_after : (change : Change) (c : Content) (o : Bytes) → knows c o ≡ true → knows (content_after (change ∷ []) c) o ≡ true
known_after (Owner row) c o h = or_more (same_bytes o house_name) _ _ (still_there bytes_cmp nat_list_cmp_total (λ row. row.owner) c.owners row o) h
known_after (UnitAdded row) c o h = h
known_after (Put p row) c o h = h
