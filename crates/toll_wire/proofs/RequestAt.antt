-- What is asked for at the endpoint of a path.
use Rattle.std.proofs.Common.{◌≡◌, ap, refl, subst, Some, None, Result, Ok, Err, IfOk}
use Rattle.std.specs.declared.alloc.AllocError.{AllocError}
use Rattle.toll_wire.proofs.Common.{Bytes, Request, Verb, Failure, MakesRequest, IsRequestOf, IsAsking, kind_for, other_of, PathLeadsTo, path_of, routes, Endpoint, Values, MethodNotAllowed, NoRoute, RequestKind}

pub request_at : (verb : Verb) (target body path : Bytes) (s : Endpoint) (v : Values) (kind : RequestKind) (requested : Result (Result Request Failure) AllocError) → path ≡ path_of target
    → PathLeadsTo routes path (Some (s, v)) → Some kind ≡ kind_for verb s → IfOk requested (MakesRequest kind v body) → IfOk requested (IsAsking verb target body)
request_at verb target body path s v kind (Err fault) is leads e by = tt
request_at verb target body path s v kind (Ok asks) is leads e by = record {
  place = Some (s, v);
  leads = subst (λ p. PathLeadsTo routes p (Some (s, v))) is leads;
  requested = subst (λ k. IsRequestOf verb k v body asks) e by;
}

pub not_served : (verb other : Verb) (target body path : Bytes) (s : Endpoint) (v : Values) → path ≡ path_of target → PathLeadsTo routes path (Some (s, v)) → None ≡ kind_for verb s
    → other ≡ other_of verb → IsAsking verb target body (Err (MethodNotAllowed other))
not_served verb other target body path s v is leads e same = record {
  place = Some (s, v);
  leads = subst (λ p. PathLeadsTo routes p (Some (s, v))) is leads;
  requested = subst (λ k. IsRequestOf verb k v body (Err (MethodNotAllowed other))) e (ap (λ m. Err (MethodNotAllowed m)) same);
}

pub no_route : (verb : Verb) (target body path : Bytes) → path ≡ path_of target → PathLeadsTo routes path None → IsAsking verb target body (Err NoRoute)
no_route verb target body path is leads = record { place = None; leads = subst (λ p. PathLeadsTo routes p None) is leads; requested = refl }
