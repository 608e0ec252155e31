-- Each part of a delta is decided, and so is the whole.
use Rattle.std.proofs.Common.{◌≡◌, ℕ, zero, suc, ◌++◌, slice_index, ap, arith, ◌<◌, ◌^◌, ◌==◌, Bool, true, false, List, [], Option, None, refl, sym, ◌∙◌}
use Rattle.std.specs.Prelude.{codes}
use Rattle.std.specs.Coded.{le_prop}
use mathlib.Core.HLevel.{is_prop→PathP}
use Rattle.lw_stamp.specs.declared.moment.Moment.{Moment}
use Rattle.lw_stamp.specs.Moment.{ms_of}
use Rattle.lw_stamp.proofs.StampLemmas.{one_of_bytes}
use Rattle.lw_reg.specs.declared.path.Path.{Path}
use Rattle.lw_reg.specs.BindingLaws.{same_binding}
use Rattle.lw_reg.specs.OrderLaws.{same_path}
use Rattle.lw_delta.specs.declared.form.Form.{Form}
use Rattle.lw_delta.specs.declared.form.Form.TheVariants.{First, Second, Third}
use Rattle.lw_delta.specs.declared.fault.DeltaFault.TheVariants.{Magic, Order, Range, Text, ClockBelow, NoMemory}
use Rattle.lw_delta.specs.Form.{magic_of}
use Rattle.lw_delta.specs.Part.{Part}
use Rattle.lw_delta.specs.Format.{number16, number32, number48, stamp, written, base, host, address, moment, binding, text, sms_number, objects, numbers, attribute_name, attribute_value, attribute, attributes, ended, path, watch, watches, behind, endpoint, fields, slot, slots, magic, header, delta}
use Rattle.lw_delta.proofs.Decided.{Decided, byte_decided, bytes_decided, means_decided, gives_decided, must_decided, followed_decided, when_decided, optional_decided, repeated_decided}

no_magic : NoMemory ≡ Magic → ⊥
no_magic e = cc

no_order : NoMemory ≡ Order → ⊥
no_order e = cc

no_range : NoMemory ≡ Range → ⊥
no_range e = cc

no_text : NoMemory ≡ Text → ⊥
no_text e = cc

no_clock : NoMemory ≡ ClockBelow → ⊥
no_clock e = cc

pub number16_decided : Decided number16
number16_decided = followed_decided (bytes_decided 2) (λ b. gives_decided _)

pub number32_decided : Decided number32
number32_decided = followed_decided (bytes_decided 4) (λ b. gives_decided _)

pub number48_decided : Decided number48
number48_decided = followed_decided (bytes_decided 6) (λ b. gives_decided _)

pub stamp_decided : (clock : ℕ) → Decided (stamp clock)
stamp_decided clock = followed_decided (bytes_decided 8) (λ b. must_decided _ no_range (must_decided _ no_clock (means_decided _ (λ s r h k. one_of_bytes s r (h ∙ sym k)))))

pub written_decided : {A : Type 0} {part : Part A} (clock : ℕ) → Decided part → Decided (written clock part)
written_decided clock d = followed_decided (stamp_decided clock) (λ s. followed_decided d (λ value. gives_decided _))

pub base_decided : Decided base
base_decided = followed_decided byte_decided (λ bits. must_decided _ no_range (gives_decided _))

host_decided : (plain : Bool) → Decided (host plain)
host_decided true = followed_decided (bytes_decided 4) (λ a. followed_decided number16_decided (λ port. gives_decided _))
host_decided false = followed_decided (bytes_decided 16) (λ a. followed_decided number16_decided (λ port. gives_decided _))

pub address_decided : Decided address
address_decided = followed_decided byte_decided (λ family. must_decided _ no_range (host_decided (family == 4)))

same_moment : (a b : Moment) → ms_of a ≡ ms_of b → a ≡ b
same_moment a b h = λ i. record { ms = h i; in_range = is_prop→PathP (λ i. h i < 2 ^ 48) (λ i. le_prop) a.in_range b.in_range i }

pub moment_decided : Decided moment
moment_decided = followed_decided number48_decided (λ ms. means_decided _ (λ a b h k. same_moment a b (h ∙ sym k)))

pub binding_decided : Decided binding
binding_decided = followed_decided byte_decided (λ n. must_decided _ no_range (followed_decided (bytes_decided n) (λ t. must_decided _ no_text (means_decided _ (λ a b h k. same_binding a b (h ∙ sym k))))))

pub text_decided : (count : ℕ) → Decided (text count)
text_decided n = followed_decided (bytes_decided n) (λ t. must_decided _ no_text (gives_decided _))

pub sms_decided : Decided sms_number
sms_decided = followed_decided byte_decided (λ n. must_decided _ no_range (text_decided n))

pub objects_decided : Decided objects
objects_decided = followed_decided number16_decided (λ n. must_decided _ no_range (followed_decided (bytes_decided n) (λ t. must_decided _ no_text (gives_decided _))))

numbers_decided : (count : ℕ) → Decided (numbers count)
numbers_decided zero = gives_decided _
numbers_decided (suc count) = followed_decided (numbers_decided count) (λ front. followed_decided (followed_decided number16_decided (λ n. must_decided _ no_range (gives_decided _))) (λ n. gives_decided _))

pub path_decided : (after : Option Path) → Decided (path after)
path_decided after = followed_decided byte_decided (λ n. must_decided _ no_range (followed_decided (numbers_decided n) (λ ns.
    followed_decided (means_decided _ (λ a b h k. same_path a b (h ∙ sym k))) (λ p. must_decided _ no_order (gives_decided _)))))

pub watch_decided : (clock : ℕ) (after : Option Path) → Decided (watch clock after)
watch_decided clock after = followed_decided (path_decided after) (λ p. followed_decided (stamp_decided clock) (λ t. followed_decided byte_decided (λ flags.
    must_decided _ no_range (followed_decided (when_decided _ (optional_decided number16_decided)) (λ accept. gives_decided _)))))

pub watches_decided : (clock : ℕ) → Decided (watches clock)
watches_decided clock = repeated_decided _ _ (watch_decided clock) None

pub endpoint_decided : (after : Option (List ℕ)) → Decided (endpoint after)
endpoint_decided after = followed_decided byte_decided (λ n. must_decided _ no_range (followed_decided (text_decided n) (λ t. must_decided _ no_order (gives_decided _))))

pub fields_decided : (clock flags : ℕ) → Decided (fields clock flags)
fields_decided clock flags =
    followed_decided (when_decided _ base_decided) (λ a. followed_decided (when_decided _ (written_decided clock address_decided)) (λ b.
    followed_decided (when_decided _ (written_decided clock moment_decided)) (λ c. followed_decided (when_decided _ (written_decided clock number32_decided)) (λ d.
    followed_decided (when_decided _ (written_decided clock binding_decided)) (λ e. followed_decided (when_decided _ (written_decided clock (optional_decided sms_decided))) (λ f.
    followed_decided (when_decided _ (written_decided clock objects_decided)) (λ g. gives_decided _)))))))

pub attribute_name_decided : (after : Option (List ℕ)) → Decided (attribute_name after)
attribute_name_decided after = followed_decided byte_decided (λ n. must_decided _ no_range (followed_decided (text_decided n) (λ t. must_decided _ no_text (must_decided _ no_order (gives_decided _)))))

pub attribute_value_decided : (name : List ℕ) → Decided (attribute_value name)
attribute_value_decided name = followed_decided byte_decided (λ n. must_decided _ no_range (text_decided n))

pub attribute_decided : (clock : ℕ) (after : Option (List ℕ)) → Decided (attribute clock after)
attribute_decided clock after = followed_decided (attribute_name_decided after) (λ name. followed_decided (written_decided clock (attribute_value_decided name)) (λ w. gives_decided _))

pub attributes_decided : (clock : ℕ) → Decided (attributes clock)
attributes_decided clock = repeated_decided _ _ (attribute_decided clock) None

pub ended_decided : (clock : ℕ) → Decided (ended clock)
ended_decided clock = optional_decided (stamp_decided clock)

pub behind_decided : (form : Form) (clock : ℕ) → Decided (behind form clock)
behind_decided form clock = followed_decided (when_decided _ (attributes_decided clock)) (λ es. followed_decided (when_decided _ (ended_decided clock)) (λ said. followed_decided (watches_decided clock) (λ ws. gives_decided _)))

pub slot_decided : (form : Form) (clock : ℕ) (after : Option (List ℕ)) → Decided (slot form clock after)
slot_decided form clock after = followed_decided (endpoint_decided after) (λ e. followed_decided (stamp_decided clock) (λ r. followed_decided byte_decided (λ flags.
    followed_decided (fields_decided clock flags) (λ kept. followed_decided (behind_decided form clock) (λ more. gives_decided _)))))

pub slots_decided : (form : Form) (clock : ℕ) → Decided (slots form clock)
slots_decided form clock = repeated_decided _ _ (slot_decided form clock) None

first_second_apart : (x y : List ℕ) → codes "LWD1" ++ x ≡ codes "LWD2" ++ y → ⊥
first_second_apart x y e = omega (arith, ap (λ (z : List ℕ). slice_index z 3) e)

first_third_apart : (x y : List ℕ) → codes "LWD1" ++ x ≡ codes "LWD3" ++ y → ⊥
first_third_apart x y e = omega (arith, ap (λ (z : List ℕ). slice_index z 3) e)

second_third_apart : (x y : List ℕ) → codes "LWD2" ++ x ≡ codes "LWD3" ++ y → ⊥
second_third_apart x y e = omega (arith, ap (λ (z : List ℕ). slice_index z 3) e)

-- bytes begin as one format does
pub one_front : (a b : Form) (x y : List ℕ) → magic_of a ++ x ≡ magic_of b ++ y → a ≡ b
one_front First First x y e = refl
one_front First Second x y e = absurd (first_second_apart x y e)
one_front First Third x y e = absurd (first_third_apart x y e)
one_front Second First x y e = absurd (first_second_apart y x (sym e))
one_front Second Second x y e = refl
one_front Second Third x y e = absurd (second_third_apart x y e)
one_front Third First x y e = absurd (first_third_apart y x (sym e))
one_front Third Second x y e = absurd (second_third_apart y x (sym e))
one_front Third Third x y e = refl

one_magic : (a b : Form) (bytes : List ℕ) → magic_of a ≡ bytes → magic_of b ≡ bytes → a ≡ b
one_magic a b bytes h k = one_front a b [] [] (ap (λ (x : List ℕ). x ++ []) (h ∙ sym k))

pub magic_decided : Decided magic
magic_decided = followed_decided (bytes_decided 4) (λ bytes. must_decided _ no_magic (means_decided _ (λ a b h k. one_magic a b bytes h k)))

pub header_decided : Decided header
header_decided = followed_decided magic_decided (λ form. followed_decided number48_decided (λ clock. gives_decided _))

pub delta_decided : Decided delta
delta_decided = followed_decided header_decided (λ h. followed_decided (slots_decided h.0 h.1) (λ ss. gives_decided _))
