-- The bytes of a request, as an event has them.
use Rattle.std.proofs.Common.{◌≡◌, ◌<◌, ◌^◌, ℕ, length, refl, arith}
use Rattle.toll_service.proofs.Common.{Vec, Bytes}

-- Some list holds these bytes, because they are fewer than 2^63.
pub bytes_held : (other : Vec ℕ) (bytes : Bytes) → length bytes < 2 ^ 63 → (request : Vec ℕ) × (request.items ≡ bytes)
bytes_held other bytes fits =
    (record { ptr = other.ptr; len = length bytes; cap = length bytes; alloc = other.alloc; items = bytes; ok = (refl, omega arith); small = fits }, refl)
