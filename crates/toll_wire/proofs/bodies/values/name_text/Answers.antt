use Rattle.std.proofs.Common.{ℕ, List, subst, sym}
use Rattle.std.specs.Prelude.{IsUtf8}
use Rattle.toll_wire.proofs.NameTexts.{name_is_utf8, read_as_text}
use Rattle.toll_wire.proofs.bodies.values.name_text.Goals as goal

pub unwrap-requires : goal.unwrap-requires
unwrap-requires c =
    read_as_text c.from_utf8.result _ _ (subst (λ (text : List ℕ). IsUtf8 text) (sym c.as_bytes.ensures.bytes) (name_is_utf8 c.args.name.now c.as_bytes.ensures.valid))
    c.from_utf8.ensures.cases
