-- Changes that keep the rules of all rows, and put rows of known owners, fit the content.
use Rattle.std.proofs.Common.{◌≡◌, true, List, [], ◌∷◌, cond, ap, subst, ◌∙◌}
use Rattle.toll_desk.proofs.Common.{Bytes, same_bytes, with_row, KeepsRules, same_bytes-refl, Content, content_after, AllChangesFit, PutsToKnown}
use Rattle.toll_base.specs.Changes.{after_change}
use Rattle.toll_history.specs.Decision.{ChangesKeepRules}
use Rattle.toll_base.specs.declared.rows.Row.{Row}
use Rattle.toll_base.specs.declared.decision.Change.{Change}
use Rattle.toll_base.specs.declared.decision.Change.TheVariants.{Owner, Unit as UnitAdded, Put}
use Rattle.toll_keep.proofs.Changed.{own_after, known_after}

-- ---- the owners stay known

puts_after : (first : Change) (changes : List Change) (c : Content) → PutsToKnown c changes → PutsToKnown (content_after (first ∷ []) c) changes
puts_after first [] c puts = tt
puts_after first (Owner row ∷ changes) c puts = puts_after first changes c puts
puts_after first (UnitAdded row ∷ changes) c puts = puts_after first changes c puts
puts_after first (Put o row ∷ changes) c puts = (known_after first c o puts.0, puts_after first changes c puts.1)

-- ---- the changes fit

-- what a put makes of its owner's slice
put_own : (c : Content) (o : Bytes) (row : Row) → (c.rows o).owner ≡ o → KeepsRules (after_change (Put o row) (c.rows o)) → KeepsRules (with_row (c.rows o) row)
put_own c o row own keeps =
    let same : same_bytes o (c.rows o).owner ≡ true = ap (same_bytes o) own ∙ same_bytes-refl o in
    subst (λ b. KeepsRules (cond b (with_row (c.rows o) row) (c.rows o))) same keeps

pub kept_rules_fit : (c : Content) (changes : List Change) → ((o : Bytes) → (c.rows o).owner ≡ o) → ((o : Bytes) → ChangesKeepRules changes (c.rows o)) → PutsToKnown c changes → AllChangesFit c changes
kept_rules_fit c [] own keeps puts = tt
kept_rules_fit c (Owner row ∷ changes) own keeps puts = (tt, kept_rules_fit (content_after (Owner row ∷ []) c) changes own (λ o. (keeps o).1) (puts_after (Owner row) changes c puts))
kept_rules_fit c (UnitAdded row ∷ changes) own keeps puts = (tt, kept_rules_fit (content_after (UnitAdded row ∷ []) c) changes own (λ o. (keeps o).1) (puts_after (UnitAdded row) changes c puts))
kept_rules_fit c (Put p row ∷ changes) own keeps puts = (
  (puts.0, put_own c p row (own p) (keeps p).0),
  kept_rules_fit (content_after (Put p row ∷ []) c) changes (λ o. own_after (Put p row) (c.rows o) ∙ own o) (λ o. (keeps o).1) (puts_after (Put p row) changes c puts.1),
)
