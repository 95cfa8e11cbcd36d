-- Options, mapped.
use Rattle.std.proofs.Common.{◌≡◌, Option, Some, None, is_some, refl, ap}
use Rattle.toll_stock.proofs.Common.{option_map}

-- A mapped option has a value if and only if the option has.
pub some_mapped : {X Y : Type 0} (f : X → Y) (x : Option X) → is_some (option_map f x) ≡ is_some x
some_mapped f None = refl
some_mapped f (Some x) = refl

-- Two functions that agree on the value map the option alike.
pub mapped_alike : {X Y : Type 0} (f g : X → Y) (x : Option X) → ((y : X) → x ≡ Some y → f y ≡ g y) → option_map f x ≡ option_map g x
mapped_alike f g None alike = refl
mapped_alike f g (Some y) alike = ap Some (alike y refl)
