-- From the arm of a row's kind to any row.
use Rattle.std.proofs.Common.{◌≡◌, sym, ap, ◌∙◌}
use Rattle.toll_base.specs.Slice.{Slice}
use Rattle.toll_base.specs.declared.rows.Row.{Row}

-- what holds of the tables' rows and of a row of this kind is so of the slice and of the row that was given
pub same_by_kind : {A : Type 0} (f : Slice → Row → A) {rows slice : Slice} {known row : Row} {made : A} → rows ≡ slice → row ≡ known → made ≡ f rows known → made ≡ f slice row
same_by_kind f {rows} {slice} {known} {row} view is made = made ∙ ap (λ s. f s known) view ∙ sym (ap (f slice) is)
