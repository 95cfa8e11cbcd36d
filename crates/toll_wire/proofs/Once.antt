-- A method, a target and a body ask for one thing.
use Rattle.std.proofs.Common.{◌≡◌, ◌∙◌, true, List, [], ◌∷◌, ◌++◌, refl, sym, ap, subst, inl, inr, Option, Some, None, Result, Ok, option_map}
use Rattle.toll_wire.proofs.Common.{append_cancel_left, append_cancel_right, Bytes, Verb, Placing, IsOrderBody, IsBodyOf, order_in, Request, Failure, IsRequestAt, MakesRequest, IsRequestOf, IsAsking, IsPlacing, kind_for, placing_request, AreValues, IsPath, PathLeadsTo, parts_of, path_of, texts_of, holes, Route, routes, path_text_of, request_from, Endpoint, Values, RequestKind}
use Rattle.toll_wire.specs.declared.routes.route.RequestKind.TheVariants.{Place}
use Rattle.toll_wire.specs.declared.routes.parts.Parts.{Parts}
use Rattle.toll_wire.specs.declared.routes.parts.Parts.TheVariants as part
use Rattle.toll_wire.proofs.Patterns.{MatchesPattern, filled_once, is_plain_pattern}
use Rattle.toll_wire.proofs.Places.{values_once, with_values}

-- ---- a path has one place

plain_holes : (p : Parts) → is_plain_pattern (holes p ++ []) ≡ true
plain_holes part.Nothing = refl
plain_holes part.Name = refl
plain_holes part.NameAndNumber = refl

one_text : (v w : Values) → AreValues v → AreValues w → parts_of v ≡ parts_of w → path_text_of v ≡ path_text_of w → v ≡ w
one_text v w one two p e =
    let first = subst (λ q. MatchesPattern (holes q ++ []) (texts_of v) (path_text_of v ++ [])) p (with_values v [] one (refl, refl)) in
    let same = subst (λ t. MatchesPattern (holes (parts_of w) ++ []) (texts_of v) (t ++ [])) e first in
    values_once v w one two (filled_once (holes (parts_of w) ++ []) (texts_of v) (texts_of w) (path_text_of w ++ []) (plain_holes (parts_of w)) same (with_values w [] two (refl, refl)))

path_values_once : (r : Route) (v w : Values) (path : Bytes) → IsPath r v path → IsPath r w path → v ≡ w
path_values_once r v w path one two =
    let behind : path_text_of v ++ r.back ≡ path_text_of w ++ r.back = append_cancel_left r.front (path_text_of v ++ r.back) (path_text_of w ++ r.back) (sym one.text ∙ two.text) in
    one_text v w one.valid two.valid (one.parts ∙ sym two.parts) (append_cancel_right (path_text_of v) (path_text_of w) r.back behind)

leads_once : (rs : List Route) (path : Bytes) (a b : Option (Endpoint × Values)) → PathLeadsTo rs path a → PathLeadsTo rs path b → a ≡ b
leads_once [] path a b one two = one ∙ sym two
leads_once (r ∷ rs) path a b (inl (v, is, e)) (inl (w, other, f)) = e ∙ (ap (λ x. Some (r.endpoint, x)) (path_values_once r v w path is other) ∙ sym f)
leads_once (r ∷ rs) path a b (inl (v, is, e)) (inr (none, two)) = absurd (none v is)
leads_once (r ∷ rs) path a b (inr (none, one)) (inl (w, other, f)) = absurd (none w other)
leads_once (r ∷ rs) path a b (inr (none, one)) (inr (nor, two)) = leads_once rs path a b one two

-- ---- a body asks for one order

orders_once : (body : Bytes) (p q : Placing) → IsOrderBody body p → IsOrderBody body q → p ≡ q
orders_once body p q one two =
    let value : Some one.value ≡ Some two.value = sym one.reads ∙ two.reads in
    let same : one.value ≡ two.value = cc value in
    let order : Some p ≡ Some q = sym one.asks ∙ (ap order_in same ∙ two.asks) in cc order

body_once : (body : Bytes) (p q : Option Placing) → IsBodyOf body p → IsBodyOf body q → p ≡ q
body_once body None None one two = refl
body_once body None (Some q) one two = absurd (one q two)
body_once body (Some p) None one two = absurd (two p one)
body_once body (Some p) (Some q) one two = ap (λ x. Some x) (orders_once body p q one two)

placing_once : (body : Bytes) (a b : Result Request Failure) → IsPlacing body a → IsPlacing body b → a ≡ b
placing_once body a b (p, one, e) (q, two, f) = e ∙ (ap placing_request (body_once body p q one two) ∙ sym f)

-- ---- one thing is asked for

same_some : (a b : Result Request Failure) (o : Option (Result Request Failure)) → Some a ≡ o → Some b ≡ o → a ≡ b
same_some a b o e f = let same : Some a ≡ Some b = e ∙ sym f in cc same

by_once : (kind : RequestKind) (v : Values) (body : Bytes) (a b : Result Request Failure) → MakesRequest kind v body a → MakesRequest kind v body b → a ≡ b
by_once Place v body a b one two = placing_once body a b one two
by_once kind v body a b one two = same_some a b (option_map (λ r. Ok r) (request_from kind v)) one two

of_once : (verb : Verb) (kind : Option RequestKind) (v : Values) (body : Bytes) (a b : Result Request Failure) → IsRequestOf verb kind v body a → IsRequestOf verb kind v body b → a ≡ b
of_once verb None v body a b e f = e ∙ sym f
of_once verb (Some kind) v body a b one two = by_once kind v body a b one two

at_once : (verb : Verb) (place : Option (Endpoint × Values)) (body : Bytes) (a b : Result Request Failure) → IsRequestAt verb place body a → IsRequestAt verb place body b → a ≡ b
at_once verb None body a b e f = e ∙ sym f
at_once verb (Some place) body a b one two = of_once verb (kind_for verb place.0) place.1 body a b one two

pub asking_once : (verb : Verb) (target body : Bytes) (a b : Result Request Failure) → IsAsking verb target body a → IsAsking verb target body b → a ≡ b
asking_once verb target body a b one two =
    let same = leads_once routes (path_of target) one.place two.place one.leads two.leads in
    at_once verb two.place body a b (subst (λ place. IsRequestAt verb place body a) same one.requested) two.requested
