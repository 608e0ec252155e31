-- Answers fit, and where a Block1 goes among options.
use Rattle.std.proofs.Common.{◌≡◌, ◌≢◌, ℕ, ◌+◌, suc, ◌<◌, ◌≤◌, List, [], ◌∷◌, ◌++◌, length, take, drop, Bool, true}
use Rattle.std.proofs.Common.{false, cond, refl, ap, sym, subst, ◌∙◌, arith}
use Rattle.std.specs.Prelude.{IsTrue, insert, nat_le, Result, Ok, Err, IfOk}
use Rattle.std.specs.List.{prefix_len}
use Rattle.lw_coap.specs.declared.message.Kind.{Kind}
use Rattle.lw_coap.specs.Message.{OptionContent, MessageContent}
use Rattle.lw_coap.specs.Grammar.{IsSpelling}
use Rattle.lw_coap.specs.Fits.{Fits, AreRising, options_length, printed_length}
use Rattle.lw_coap.proofs.Messages.{one_message}
use Rattle.lw_messaging.specs.BlockAnswers.{block1_of, put_option, with_block1, IsWithBlock}
use Rattle.lw_messaging.specs.inner.BlockAnswers.{is_not_above_block1}

pub parts_fit : (kind : Kind) (code mid : ℕ) (token : List ℕ) (options : List OptionContent) → length token ≤ 8
    → mid < 65536
    → 0 < code → code < 256 → AreRising 0 options → options_length 0 options ≤ 64
    → Fits (record { kind = kind; code = code; mid = mid; token = token; options = options; payload = [] })
parts_fit kind code mid token options short number some small rising few = record {
  token = short;
  code = small;
  mid = number;
  options = rising;
  empty = λ (e : code ≡ 0). absurd (omega arith);
  within = omega (arith, short, few);
}

-- ---- an option behind those that are not above it
by_test : (b : Bool) (option first : OptionContent) (options : List OptionContent) (n : ℕ)
    → insert options n option ≡ put_option option options
    → insert (first ∷ options) (cond b (1 + n) 0) option ≡ cond b (first ∷ put_option option options)
    (option ∷ first ∷ options)
by_test true option first options n h =
    let P : ℕ → Type 0 = λ k. insert (first ∷ options) k option ≡ first ∷ put_option option options in
    let e : suc n ≡ 1 + n = omega arith in
    subst P e (ap (λ (xs : List OptionContent). first ∷ xs) h)
by_test false option first options n h = refl

pub put_by_prefix : (bytes : List ℕ) (options : List OptionContent)
    → insert options (prefix_len is_not_above_block1 options) (block1_of bytes) ≡ put_option (block1_of bytes) options
put_by_prefix bytes [] = refl
put_by_prefix bytes (first ∷ options) =
    by_test (nat_le first.number 27) (block1_of bytes) first options (prefix_len is_not_above_block1 options)
    (put_by_prefix bytes options)

-- ---- replies
pub stays : (reply bytes : List ℕ) (value : ℕ)
    → ((message : MessageContent) → IsSpelling reply message → Fits (with_block1 message value) → ⊥) → bytes ≡ reply
    → IsWithBlock reply value bytes
stays reply bytes value never e = record { put = λ m s f. absurd (never m s f); stays = λ h. e }

pub full_stays : (reply : List ℕ) (value : ℕ) (message : MessageContent) → IsSpelling reply message
    → (Fits (with_block1 message value) → ⊥) → (m : MessageContent) → IsSpelling reply m → Fits (with_block1 m value)
    → ⊥
full_stays reply value message spelled never m s f =
    never (subst (λ (x : MessageContent). Fits (with_block1 x value)) (one_message reply m message s spelled) f)

pub fitting_has_it : (reply bytes : List ℕ) (value : ℕ) (message : MessageContent) → IsSpelling reply message
    → Fits (with_block1 message value) → IsSpelling bytes (with_block1 message value) → IsWithBlock reply value bytes
fitting_has_it reply bytes value message spelled fits written = record {
  put = λ m s f. subst (λ (x : MessageContent). IsSpelling bytes (with_block1 x value))
      (sym (one_message reply m message s spelled)) written;
  stays = λ h. absurd (h message spelled fits);
}

pub not_both : (b : Bool) → IsTrue b → b ≡ false → ⊥
not_both b t f = cc

pub has_it_by : (reply bytes : List ℕ) (value : ℕ) (message with : MessageContent) → IsSpelling reply message
    → with ≡ with_block1 message value → Fits with → IsSpelling bytes with → IsWithBlock reply value bytes
has_it_by reply bytes value message with spelled is fits written =
    fitting_has_it reply bytes value message spelled (subst (λ (m : MessageContent). Fits m) is fits)
    (subst (λ (m : MessageContent). IsSpelling bytes m) is written)

pub ok_weaker : {T E : Type 0} (r : Result T E) (P Q : T → Type 0) → ((t : T) → P t → Q t) → IfOk r P → IfOk r Q
ok_weaker (Ok t) P Q weaker h = weaker t h
ok_weaker (Err e) P Q weaker h = tt
