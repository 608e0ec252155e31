-- What is written of a text that is lent.
use Rattle.std.proofs.Common.{◌≡◌, ℕ, List, ◌++◌, Option, Some, None, IfSome, Bor, refl, ap}
use Rattle.std.specs.Option.{option_copied, option_map}
use Rattle.lw_stamp.specs.declared.stamp.Stamp.{Stamp}
use Rattle.lw_stamp.specs.Stamp.{stamp_bytes}
use Rattle.lw_delta.specs.Writing.{present_bytes, optional_bytes, text_bytes, written_bytes, sms_bytes, objects_bytes}

number_same : (n : Option (Bor (List ℕ))) → optional_bytes (λ (x : Bor (List ℕ)). text_bytes x.now) n ≡ sms_bytes (option_copied n)
number_same None = refl
number_same (Some n) = refl

pub sms_same : (o : Option (Stamp × Option (Bor (List ℕ)))) → present_bytes (λ (w : Stamp × Option (Bor (List ℕ))). stamp_bytes w.0 ++ optional_bytes (λ (x : Bor (List ℕ)). text_bytes x.now) w.1) o ≡ written_bytes sms_bytes (option_map (λ w. (w.0, option_copied w.1)) o)
sms_same None = refl
sms_same (Some w) = ap (λ (x : List ℕ). stamp_bytes w.0 ++ x) (number_same w.1)

number_is : (Q : List ℕ → Type 0) (n : Option (Bor (List ℕ))) → IfSome n (λ x. Q x.now) → IfSome (option_copied n) Q
number_is Q None h = tt
number_is Q (Some n) h = h

pub sms_is : (Q : List ℕ → Type 0) (o : Option (Stamp × Option (Bor (List ℕ)))) → IfSome o (λ w. IfSome w.1 (λ x. Q x.now)) → IfSome {T = Stamp × Option (List ℕ)} (option_map (λ w. (w.0, option_copied w.1)) o) (λ w. IfSome w.1 Q)
sms_is Q None h = tt
sms_is Q (Some w) h = number_is Q w.1 h

pub objects_same : (o : Option (Stamp × Bor (List ℕ))) → present_bytes (λ (w : Stamp × Bor (List ℕ)). stamp_bytes w.0 ++ objects_bytes w.1.now) o ≡ written_bytes objects_bytes (option_map (λ w. (w.0, w.1.now)) o)
objects_same None = refl
objects_same (Some w) = refl

pub objects_are : (Q : List ℕ → Type 0) (o : Option (Stamp × Bor (List ℕ))) → IfSome o (λ w. Q w.1.now) → IfSome {T = Stamp × List ℕ} (option_map (λ w. (w.0, w.1.now)) o) (λ w. Q w.1)
objects_are Q None h = tt
objects_are Q (Some w) h = h
