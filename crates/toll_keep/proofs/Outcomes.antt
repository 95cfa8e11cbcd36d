-- What follows from the clauses about a result.
use Rattle.std.proofs.Common.{◌≡◌, true, is_ok, OnOk, OnErr, Result, Ok, Err}
use mathlib.Core.Bool.{false≢true}

pub on_ok_weaker : {T E P Q : Type 0} (r : Result T E) → (P → Q) → OnOk r P → OnOk r Q
on_ok_weaker (Ok x) so h = so h
on_ok_weaker (Err e) so h = tt

pub on_err_weaker : {T E P Q : Type 0} (r : Result T E) → (P → Q) → OnErr r P → OnErr r Q
on_err_weaker (Ok x) so h = tt
on_err_weaker (Err e) so h = so h

-- a fact that follows from either clause
pub either_way : {T E P Q S : Type 0} (r : Result T E) → (P → S) → (Q → S) → OnOk r P → OnErr r Q → S
either_way (Ok x) ok err p q = ok p
either_way (Err e) ok err p q = err q

-- a fact of Ok, for a result that is Ok
pub of_ok : {T E P : Type 0} (r : Result T E) → is_ok r ≡ true → OnOk r P → P
of_ok (Ok x) is h = h
of_ok (Err e) is h = absurd (false≢true is)

-- a fact of Err that always holds
pub on_err_always : {T E P : Type 0} (r : Result T E) → P → OnErr r P
on_err_always (Ok x) p = tt
on_err_always (Err e) p = p

-- one fact of Ok, or of Err, with two others
pub on_ok_all : {T E : Type 0} (P Q S : Type 0) (r : Result T E) → OnOk r P → OnOk r (Q × S) → OnOk r (P × Q × S)
on_ok_all P Q S (Ok x) p more = (p, more.0, more.1)
on_ok_all P Q S (Err e) p more = tt

pub on_err_all : {T E : Type 0} (P Q S : Type 0) (r : Result T E) → OnErr r P → OnErr r (Q × S) → OnErr r (P × Q × S)
on_err_all P Q S (Ok x) p more = tt
on_err_all P Q S (Err e) p more = (p, more.0, more.1)
