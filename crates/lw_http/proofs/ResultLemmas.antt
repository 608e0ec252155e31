-- What holds where there is a value, and fields that are added one by one.
use Rattle.std.proofs.Common.{◌≡◌, List, [], ◌∷◌, ◌++◌, ap, ◌∙◌}
use Rattle.std.specs.Prelude.{Result, Ok, Err, OnOk}
use Rattle.std.proofs.lemmas.List.{append_assoc}
use Rattle.http1.specs.Fields.{Header}

pub on_ok : {A E : Type 0} (r : Result A E) (P Q : Type 0) → (P → Q) → OnOk r P → OnOk r Q
on_ok (Ok value) P Q to is = to is
on_ok (Err error) P Q to is = is

pub added_twice : {A E : Type 0} (r : Result A E) (old between new : List Header) (one other : Header)
    → between ≡ old ++ one ∷ [] → OnOk r (new ≡ between ++ other ∷ []) → OnOk r (new ≡ old ++ one ∷ (other ∷ []))
added_twice r old between new one other first =
    on_ok r (new ≡ between ++ other ∷ []) (new ≡ old ++ one ∷ (other ∷ []))
    (λ e. e ∙ ap (λ fields. fields ++ other ∷ []) first ∙ append_assoc old (one ∷ []) (other ∷ []))
