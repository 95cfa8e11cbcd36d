-- The bytes of a request, part by part.
use Rattle.std.proofs.Common.{◌≡◌, ◌∙◌, [], ◌++◌, length, ap, append_assoc, append-nil}
use Rattle.std.specs.Prelude.{codes, decimal}
use Rattle.toll_base.specs.Bytes.{Bytes}
use Rattle.toll_programs.specs.Requests.{RequestLineParts, field, request_text}

abbrev host : Bytes
host = codes " HTTP/1.1\r\nhost: 127.0.0.1\r\n"

regroup : (m s t h f k c d e b : Bytes)
    → ((([] ++ (m ++ (s ++ (t ++ (h ++ []))))) ++ f) ++ k) ++ ((c ++ (d ++ e)) ++ (b ++ []))
    ≡ m ++ (s ++ (t ++ (h ++ (f ++ (k ++ (c ++ (d ++ (e ++ b))))))))
regroup m s t h f k c d e b = simp (append_assoc, append-nil)

pub request_text_joined : (r : RequestLineParts) (t0 t1 t2 t3 t4 count : Bytes) → t0 ≡ [] → t1 ≡ t0 ++ (r.method ++ (codes " " ++ (r.target ++ (host ++ []))))
    → t2 ≡ t1 ++ field (codes "toll-owner: ") r.owner → t3 ≡ t2 ++ field (codes "toll-key: ") r.key
    → count ≡ codes "content-length: " ++ (decimal (length r.body) ++ codes "\r\n\r\n") → t4 ≡ t3 ++ (count ++ (r.body ++ [])) → t4 ≡ request_text r
request_text_joined r t0 t1 t2 t3 t4 count e0 e1 e2 e3 ec e4 =
    e4 ∙ (ap (λ t. t ++ (count ++ (r.body ++ []))) (e3 ∙ ap (λ t. t ++ field (codes "toll-key: ") r.key) (e2 ∙ ap (λ t. t ++ field (codes "toll-owner: ") r.owner)
    (e1 ∙ ap (λ t. t ++ (r.method ++ (codes " " ++ (r.target ++ (host ++ []))))) e0)))
    ∙ (ap (λ c. ((([] ++ (r.method ++ (codes " " ++ (r.target ++ (host ++ []))))) ++ field (codes "toll-owner: ") r.owner) ++ field (codes "toll-key: ") r.key) ++ (c ++ (r.body ++ []))) ec
    ∙ regroup r.method (codes " ") r.target host (field (codes "toll-owner: ") r.owner) (field (codes "toll-key: ") r.key)
    (codes "content-length: ") (decimal (length r.body)) (codes "\r\n\r\n") r.body))
