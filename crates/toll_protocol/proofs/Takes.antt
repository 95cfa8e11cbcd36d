-- A prefix of a stream, and the bytes after it.
use Rattle.std.proofs.Common.{◌∙◌, ℕ, List, ◌++◌, sym, ap, subst, Option, None, Some, append-nil, inl, inr, ◌⊎◌, ◌↔◌, IfSome}
use Rattle.toll_protocol.proofs.Common.{Consumes, IsAtEnd, IsParsedAs, IsSettled, ParseResult}
use Rattle.toll_protocol.proofs.Fronts.{settled}

-- The bytes that were read are parsed as the whole stream is.
pub same_as_stream : (a b : Option (List ℕ)) (given : List ℕ) → Consumes a b given → IsSettled given ⊎ IsAtEnd b
    → IfSome a (λ stream. (outcome : ParseResult) → IsParsedAs given outcome ↔ IsParsedAs stream outcome)
same_as_stream None b given p enough = tt
same_as_stream (Some stream) None given p enough = absurd p
same_as_stream (Some stream) (Some rest) given p (inl is) =
    λ outcome. subst (λ s. IsParsedAs given outcome ↔ IsParsedAs s outcome) (sym p) (settled given rest outcome is)
same_as_stream (Some stream) (Some rest) given p (inr end) =
    λ outcome. subst (λ s. IsParsedAs given outcome ↔ IsParsedAs s outcome) (sym (p ∙ (ap (λ l. given ++ l) end ∙ append-nil given))) (λ x. x, λ x. x)
