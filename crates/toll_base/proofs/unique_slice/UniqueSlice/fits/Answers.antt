use Rattle.std.proofs.Common.{sym, subst, IsTrue, ◌↔◌}
use Rattle.toll_base.proofs.Common.{KeepsRules}
use Rattle.toll_base.specs.Slice.{with_row}
use Rattle.toll_base.proofs.SliceFits.{fits_exact}
use Rattle.toll_base.proofs.unique_slice.UniqueSlice.fits.Goals as goal

pub returns : goal.returns
returns c =
    subst (λ s. IsTrue c.fits.result ↔ KeepsRules (with_row s c.args.row.now)) c.self.view_is
    (subst (λ b. IsTrue b ↔ KeepsRules (with_row c.self.inside.tables c.args.row.now)) (sym c.fits.ensures) (fits_exact c.self.inside.tables c.args.row.now c.self.invariant))
