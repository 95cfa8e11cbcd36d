-- Streams whose chunks are known, one for each read.
use Rattle.std.proofs.Common.{◌≡◌, ◌≢◌, ◌∙◌, ℕ, List, [], ◌∷◌, ◌++◌, length, take, sym, ap, subst, refl, arith, Option, None, Some, append_assoc, append-nil, below_more, length-append}
use Rattle.toll_protocol.proofs.Common.{take-append-le, AllNonEmpty, IsEachReadWhile, OneMoreRead, ReadsWhile}
use Rattle.std.specs.List.{concat}
use Rattle.std.proofs.lemmas.List.Elements.{All-append, All-cons, All-nil}
use Rattle.std.proofs.lemmas.List.Folds.{concat-append}
use Rattle.std.proofs.Math.Seq.{take-append_seam}

-- The stream was read only while P held of the bytes that it had given since, which are these. Each read gave something.
pub record GaveWhile (P : List ℕ → Type 0) (old new : Option (List (List ℕ))) (given : List ℕ) : Type 0 where
  pub chunks_after : (before : List (List ℕ)) → old ≡ Some before
      → (chunks : List (List ℕ)) × (new ≡ Some (before ++ chunks)) × (concat chunks ≡ given) × AllNonEmpty chunks × IsEachReadWhile P chunks

reported_more : (b c : Option (List (List ℕ))) (before chunks : List (List ℕ)) (bytes : List ℕ) → b ≡ Some (before ++ chunks) → OneMoreRead b c bytes
    → c ≡ Some (before ++ (chunks ++ bytes ∷ []))
reported_more b c before chunks bytes reported one =
    let next : c ≡ Some ((before ++ chunks) ++ bytes ∷ []) = subst (λ (o : Option (List (List ℕ))). OneMoreRead o c bytes) reported one in
    next ∙ ap (λ l. Some l) (append_assoc before chunks (bytes ∷ []))

module _ (P : List ℕ → Type 0) where
  each_more : (chunks : List (List ℕ)) (bytes : List ℕ) → IsEachReadWhile P chunks → AllNonEmpty chunks → P (concat chunks)
      → IsEachReadWhile P (chunks ++ bytes ∷ [])
  each_more chunks bytes each full so i lt =
      let IsFront : List (List ℕ) → Type 0 = λ front. AllNonEmpty front × P (concat front) in
      below_more (λ k. IsFront (take k (chunks ++ bytes ∷ []))) (length chunks)
      (λ k below. subst IsFront (sym (take-append-le k chunks (bytes ∷ []) (omega arith))) (each k below))
      (subst IsFront (sym (take-append_seam chunks (bytes ∷ []))) (full, so)) i (omega (arith, lt, length-append chunks (bytes ∷ [])))

  -- one more read that gave something
  pub gave_more : (a b c : Option (List (List ℕ))) (given bytes : List ℕ) → bytes ≢ [] → GaveWhile P a b given → P given → OneMoreRead b c bytes
      → GaveWhile P a c (given ++ bytes)
  gave_more a b c given bytes some p so one = record {
    chunks_after = λ before is.
        let (chunks, reported, whole, full, each) = p.chunks_after before is in
        let IsSome : List ℕ → Type 0 = λ b. b ≢ [] in (
          chunks ++ bytes ∷ [],
          reported_more b c before chunks bytes reported one,
          concat-append chunks (bytes ∷ []) ∙ (ap (λ l. concat chunks ++ l) (append-nil bytes) ∙ ap (λ l. l ++ bytes) whole),
          All-append IsSome chunks (bytes ∷ []) full (All-cons IsSome bytes [] some (All-nil IsSome)),
          each_more chunks bytes each full (subst P (sym whole) so),
        );
  }

  -- one more read, whatever it gave
  pub reads_once_more : (a b c : Option (List (List ℕ))) (given bytes : List ℕ) → GaveWhile P a b given → P given → OneMoreRead b c bytes → ReadsWhile P a c
  reads_once_more None b c given bytes p so one = tt
  reads_once_more (Some before) b c given bytes p so one =
      let (chunks, reported, whole, full, each) = p.chunks_after before refl in
      (chunks ++ bytes ∷ [], reported_more b c before chunks bytes reported one, each_more chunks bytes each full (subst P (sym whole) so))
