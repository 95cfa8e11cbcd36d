-- The words of values, as replies and texts say them and as the plant writes them.
use Rattle.std.specs.Prelude.{Bool, true, false, codes}
use Rattle.toll_base.specs.Bytes.{Bytes}
use Rattle.toll_base.specs.declared.lot.Disposition.{Disposition}
use Rattle.toll_base.specs.declared.lot.Disposition.TheVariants.{Quarantined, Released, Rejected}
use Rattle.toll_base.specs.declared.role.Role.{Role}
use Rattle.toll_base.specs.declared.role.Role.TheVariants.{Consumed, Produced}

abbrev pub disposition_word : Disposition → Bytes
disposition_word Quarantined = codes "quarantined"
disposition_word Released = codes "released"
disposition_word Rejected = codes "rejected"

abbrev pub use_word : Role → Bytes
use_word Consumed = codes "consumed"
use_word Produced = codes "produced"

-- of an order that was cancelled or not
abbrev pub order_status : Bool → Bytes
order_status true = codes "cancelled"
order_status false = codes "open"
