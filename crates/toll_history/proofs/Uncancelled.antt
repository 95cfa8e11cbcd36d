-- An order that isn't known was never cancelled.
use Rattle.std.proofs.Common.{◌≡◌, true, false, ◌||◌, Option, Some, None, is_none, List, ◌∷◌, refl, sym, ap, ◌∙◌}
use Rattle.toll_history.proofs.Common.{list_any, false≢true, Bytes, same_bytes, or_else, where_so, same_bytes-exact, Action, PlaceOrder, CancelOrder, by, History, acts, order_of, cancels, Accepted, verdict, IsLawful, IsValidAction}
use Rattle.toll_history.proofs.Acts.{along_acts}
use Rattle.toll_history.proofs.Options.{is_none_map}
use Rattle.toll_history.proofs.Passed.{accepted_passes}

second_none : {X : Type 0} (x y : Option X) → is_none (or_else x y) ≡ true → is_none y ≡ true
second_none None y h = h
second_none (Some x) y h = absurd (false≢true h)

abbrev pub IsUncancelled : List Action → Type 0
IsUncancelled own = (k : Bytes) → is_none (order_of own k) ≡ true → list_any (cancels k) own ≡ false

uncancelled_more : (o : Bytes) (H : History) (a : Action) → IsLawful H → IsValidAction a → verdict H (by o a) ≡ Accepted → IsUncancelled (acts o H) → IsUncancelled (a ∷ acts o H)
uncancelled_more o H (PlaceOrder placing) lawful valid accepted before k absent =
    before k (is_none_map _ _ ∙ second_none (where_so (same_bytes k placing.order) _) _ (sym (is_none_map _ _) ∙ absent))
uncancelled_more o H (CancelOrder order) lawful valid accepted before k absent =
    let unknown : is_none (order_of (acts o H) k) ≡ true = is_none_map _ _ ∙ sym (is_none_map _ _) ∙ absent in
    elim (same_bytes order k) as (λ b. same_bytes order k ≡ b → (b || list_any (cancels k) (acts o H)) ≡ false) [
      | true ↦ λ same. absurd (false≢true (sym (accepted_passes H o (CancelOrder order) accepted 0) ∙ ap (λ x. is_none (order_of (acts o H) x)) (same_bytes-exact order k same) ∙ unknown))
      | false ↦ λ other. before k unknown
    ] refl
uncancelled_more o H _ lawful valid accepted before k absent = before k absent

pub uncancelled : (H : History) (o : Bytes) → IsLawful H → IsUncancelled (acts o H)
uncancelled H o lawful = along_acts IsUncancelled o (λ k absent. refl) (uncancelled_more o) H lawful
