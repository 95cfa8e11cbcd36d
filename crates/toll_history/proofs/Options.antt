-- Facts of options.
use Rattle.std.proofs.Common.{◌≡◌, Bool, true, false, not, ◌&&◌, cond, Option, Some, None, is_some, is_none, refl, sym, ap, ◌∙◌}
use Rattle.toll_history.proofs.Common.{not-false, false≢true, option_map, or_else, where_so, is_some_where}
pub use Rattle.toll_base.proofs.KeyOrder.{none_of}

pub some_if_not_none : {X : Type 0} (x : Option X) → is_none x ≡ false → is_some x ≡ true
some_if_not_none None h = absurd (false≢true (sym h))
some_if_not_none (Some x) h = refl

-- An option isn't both None and Some.
pub not_both : {X Y : Type 0} (x : Option X) (y : X) → x ≡ None → x ≡ Some y → Y
not_both x y none is = (cc)

pub is_none_map : {X Y : Type 0} (f : X → Y) (x : Option X) → is_none (option_map f x) ≡ is_none x
is_none_map f None = refl
is_none_map f (Some x) = refl

-- ---- a test of an option's value

pub some_where : {X : Type 0} (b : Bool) (x : X) → b ≡ true → is_some (where_so b x) ≡ true
some_where true x h = refl
some_where false x h = absurd (false≢true h)

pub true_where : {X : Type 0} (b : Bool) (x : X) → is_none (where_so b x) ≡ false → b ≡ true
true_where true x h = refl
true_where false x h = absurd (false≢true (sym h))

-- ---- the first of two

pub first_none : {X : Type 0} (x y : Option X) → or_else x y ≡ None → x ≡ None
first_none None y h = refl
first_none (Some x) y h = h

pub some_first : {X : Type 0} (x y : Option X) → is_some x ≡ true → is_some (or_else x y) ≡ true
some_first None y h = absurd (false≢true h)
some_first (Some x) y h = refl

pub some_second : {X : Type 0} (x y : Option X) → is_some y ≡ true → is_some (or_else x y) ≡ true
some_second None y h = h
some_second (Some x) y h = refl

pub or_else_none : {X : Type 0} (x : Option X) → or_else x None ≡ x
or_else_none None = refl
or_else_none (Some x) = refl

pub or_none : {X : Type 0} (b : Bool) (rest : Option X) → or_else (cond b None None) rest ≡ rest
or_none true rest = refl
or_none false rest = refl

pub or_else_where : {X : Type 0} (a k : Bool) (x : X) (rest : Option X) → or_else (cond a (where_so k x) None) rest ≡ cond (a && k) (Some x) rest
or_else_where true true x rest = refl
or_else_where true false x rest = refl
or_else_where false k x rest = refl

-- If no value fails the test, the value passes it.
pub known_passes : {X : Type 0} (p : X → Bool) (x : Option X) → is_some_where (λ y. not (p y)) x ≡ false → (y : X) → x ≡ Some y → p y ≡ true
known_passes p x h y found = not-false (p y) (ap (is_some_where (λ z. not (p z))) (sym found) ∙ h)
