-- A text is parsed in only one way.
use Rattle.std.proofs.Common.{◌≡◌, ◌∙◌, ℕ, List, drop, map, sym, ap, subst, inl, inr}
use Rattle.toll_protocol.proofs.Common.{name_and_value, IsHeadOf, ParseResult, IsParsedAs, checked}
use Rattle.httparse.specs.Grammar.{RequestHead}
use Rattle.toll_protocol.proofs.Fronts.{one_head, one_len}

pub arrives_once : (text : List ℕ) (a b : ParseResult) → IsParsedAs text a → IsParsedAs text b → a ≡ b
arrives_once text a b (inl one) (inl two) =
    let (n, h, is, e) = one in
    let (m, k, other, f) = two in
    let len : m ≡ n = one_len text m n other.shortest is.shortest in
    let P : ℕ → Type 0 = λ i. IsHeadOf text i k in
    let head : h ≡ k = one_head text n h k is (subst P len other) in
    e ∙ (ap (λ (x : RequestHead). checked x (map name_and_value x.fields) (drop n text)) head
    ∙ (ap (λ i. checked k (map name_and_value k.fields) (drop i text)) (sym len) ∙ sym f))
arrives_once text a b (inl one) (inr none) = let (n, h, is, e) = one in absurd (none.0 n h is)
arrives_once text a b (inr none) (inl two) = let (n, h, is, e) = two in absurd (none.0 n h is)
arrives_once text a b (inr none) (inr other) = none.1 ∙ sym other.1
