use Rattle.std.proofs.Common.{◌≡◌, inr, Result, Ok, Err, IfOk, IfErr}
use Rattle.toll_sql.proofs.opening.SqlKeep+FileStore+FileFrom+S.open_from.Goals as goal

ok_of : {T E : Type 0} {P Q : T → Type 0} → ((x : T) → P x → Q x) → (r : Result T E) → IfOk r P → IfOk r Q
ok_of so (Ok x) h = so x h
ok_of so (Err e) h = tt

err_of : {T E : Type 0} {P Q : E → Type 0} → ((e : E) → P e → Q e) → (r : Result T E) → IfErr r P → IfErr r Q
err_of so (Ok x) h = tt
err_of so (Err e) h = so e h

abbrev fine : {T E : Type 0} → T → Result T E
fine x = Ok x

never_both : {T E : Type 0} (x : T) (e : E) → fine x ≡ Err e → ⊥
never_both x e is = cc is

pub returns-in-Ok-clause-made : goal.returns-in-Ok-clause-made
returns-in-Ok-clause-made g c = ok_of (λ keep it. ((c.in-Ok.conn, c.in-Ok.ensures.opened, it.0), it.1)) c.keep_of.result c.keep_of.ensures.made

pub returns-in-Ok-clause-refused : goal.returns-in-Ok-clause-refused
returns-in-Ok-clause-refused g c = err_of (λ fault it. inr (c.in-Ok.conn, c.in-Ok.ensures.opened, it)) c.keep_of.result c.keep_of.ensures.refused

pub returns-in-Ok-clause-memory : goal.returns-in-Ok-clause-memory
returns-in-Ok-clause-memory g c is = absurd (never_both _ _ (c.in-Ok.ensures.memory is))
