-- Bytes that begin with what was there before.
use Rattle.std.proofs.Common.{◌≡◌, ℕ, List, [], ◌++◌, sym, ap, ◌∙◌, append_assoc}
use Rattle.std.proofs.lemmas.List.{append-nil}
use Rattle.lw_delta.specs.Writing.{Begins}

pub begins_same : {a b : List ℕ} → b ≡ a → Begins a b
begins_same {a} e = record { more = []; is = e ∙ sym (append-nil a) }

pub begins_through : {a b c : List ℕ} → Begins a b → Begins b c → Begins a c
begins_through {a} f g = record { more = f.more ++ g.more; is = g.is ∙ ap (λ (x : List ℕ). x ++ g.more) f.is ∙ append_assoc a f.more g.more }

-- one after the other
pub then_put : (a x y : List ℕ) {b c : List ℕ} → b ≡ a ++ x → c ≡ b ++ y → c ≡ a ++ (x ++ y)
then_put a x y e f = f ∙ ap (λ (z : List ℕ). z ++ y) e ∙ append_assoc a x y
