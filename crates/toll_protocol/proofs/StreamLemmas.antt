-- Streams, call by call.
use Rattle.std.proofs.Common.{◌≡◌, ℕ, ◌<◌, Bool, true, false, subst, arith, Option, None, Some, ◌==◌}
use Rattle.toll_protocol.proofs.Common.{NoneBlocked, RecordsFailure}
use Rattle.std.proofs.lemmas.Bool.Decides.{nat_tests}

-- ---- failures

pub none_more_failed : (a b c : Option Bool) → RecordsFailure a b false → RecordsFailure b c false → RecordsFailure a c false
none_more_failed None b c p q = tt
none_more_failed (Some true) b c p q = let same = subst (λ (o : Option Bool). RecordsFailure o c false) p q in same
none_more_failed (Some false) b c p q = let same = subst (λ (o : Option Bool). RecordsFailure o c false) p q in same

-- A write that took some bytes didn't fail.
pub none_failed_by_some : (a b c : Option Bool) (n : ℕ) → 0 < n → RecordsFailure a b false → RecordsFailure b c (n == 0) → RecordsFailure a c false
none_failed_by_some a b c n some p q =
    let taken : (n == 0) ≡ false = grind (arith, nat_tests) in
    none_more_failed a b c p (subst (RecordsFailure b c) taken q)

-- ---- calls that would have waited

pub none_more_blocked : (a b c : Option ℕ) → NoneBlocked a b → NoneBlocked b c → NoneBlocked a c
none_more_blocked None b c p q = tt
none_more_blocked (Some n) b c p q = let same = subst (λ (o : Option ℕ). NoneBlocked o c) p q in same
