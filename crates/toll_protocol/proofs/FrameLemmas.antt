-- The frame that a text begins with.
use Rattle.std.proofs.Common.{◌≡◌, ◌∙◌, ℕ, ◌<◌, ◌≤◌, ◌^◌, Bool, true, false, cond, ltb, List, ◌++◌, length, get_or, take, drop, None, Some, sym, ap, refl, arith, inl, inr}
use Rattle.toll_protocol.proofs.Common.{get_or-take, get_or_past, length-take, length-take-le, take-append-drop}
use Rattle.std.specs.Int.{from_be_bytes, to_be_bytes, w32}
use Rattle.std.proofs.lemmas.Bool.{cases_lt, ltb-false}
use Rattle.std.proofs.lemmas.Nat.{be_bytes_4, from_be_bytes-to_be_bytes_4}
use Rattle.std.proofs.Math.Seq.{drop-append_seam, take-append_seam}
use Rattle.toll_protocol.specs.Frames.{HasFrame, claimed_length, frame}

-- A text begins with only one frame.
pub one_parcel : (a b x y : List ℕ) → length a < 2 ^ 32 → length b < 2 ^ 32 → frame a ++ x ≡ frame b ++ y → (a ≡ b) × (x ≡ y)
one_parcel a b x y short other same =
    let heads : to_be_bytes w32 (length a) ≡ to_be_bytes w32 (length b) = ap (take 4) same in
    let tails : a ++ x ≡ b ++ y = ap (drop 4) same in
    let size : length a ≡ length b =
    sym (from_be_bytes-to_be_bytes_4 (length a) short) ∙ (ap (from_be_bytes w32) heads ∙ from_be_bytes-to_be_bytes_4 (length b) other) in (
      sym (take-append_seam a x) ∙ (ap (take (length a)) tails ∙ (ap (λ n. take n (b ++ y)) size ∙ take-append_seam b y)),
      sym (drop-append_seam a x) ∙ (ap (drop (length a)) tails ∙ (ap (λ n. drop n (b ++ y)) size ∙ drop-append_seam b y)),
    )

-- Two frames that a text begins with have the same content and the same rest.
pub one_held : (most : ℕ) (text a b x y : List ℕ) → most < 2 ^ 32 → HasFrame most text a x → HasFrame most text b y → (a ≡ b) × (x ≡ y)
one_held most text a b x y short p q = one_parcel a b x y (omega (arith, p.1)) (omega (arith, q.1)) (sym p.0 ∙ q.0)

test_some : (b : Bool) (x len : ℕ) → cond b None (Some x) ≡ Some len → (b ≡ false) × (len ≡ x)
test_some true x len is = absurd cc
test_some false x len is = (refl, cc)

front_fits : (text : List ℕ) → ((i : ℕ) → get_or text i 0 < 256) → (i : ℕ) → get_or (take 4 text) i 0 < 256
front_fits text fits i =
    elim (cases_lt i 4) [
      | inl lt ↦ rw (get_or-take 4 text i 0 lt) (fits i)
      | inr le ↦ rw (get_or_past (take 4 text) i 0 (omega (arith, length-take 4 text))) (omega arith)
    ]

-- If the bytes that the length claims are there, they are a frame with it.
pub claimed_frame : (text : List ℕ) (len : ℕ) → ((i : ℕ) → get_or text i 0 < 256) → claimed_length text ≡ Some len → len ≤ length (drop 4 text)
    → text ≡ frame (take len (drop 4 text)) ++ drop len (drop 4 text)
claimed_frame text len fits is within =
    let (long, reported) = test_some (ltb (length text) 4) (from_be_bytes w32 (take 4 text)) len is in
    let rest = drop 4 text in
    let size : length (take len rest) ≡ len = length-take-le len rest within in
    let four : length (take 4 text) ≡ 4 = length-take-le 4 text (ltb-false _ _ long) in
    let head : to_be_bytes w32 (length (take len rest)) ≡ take 4 text = be_bytes_4 (take 4 text) _ four (front_fits text fits) (size ∙ reported) in
    sym (take-append-drop 4 text) ∙ (ap (λ h. h ++ rest) (sym head) ∙ ap (λ t. to_be_bytes w32 (length (take len rest)) ++ t) (sym (take-append-drop len rest)))
