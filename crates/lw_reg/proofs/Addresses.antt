-- What is read is printed so, and what is printed so is read.
pub mod Cuts
pub mod Numbers
pub mod HexGroups
use Rattle.std.proofs.Common.{◌≡◌, ℕ, ◌^◌, ◌<◌, List, [], ◌∷◌, ◌++◌, length, get_or, Option, Some, None, Result, Ok, Err, String, string_bytes, append_assoc, rules, refl, sym, ap, subst, ◌∙◌, arith}
use Rattle.std.specs.Option.{IfSome}
use Rattle.std.specs.Result.{IfOk}
use Rattle.std.specs.Fmt.{decimal}
use Rattle.std.proofs.lemmas.List.{take_at, drop_at, append-nil}
use borrow.Rule.Slice.PartMut.{put_mid}
use Rattle.std.proofs.lemmas.Slice.Eq.{text_from_reads}
use Rattle.lw_reg.specs.declared.addr.Addr.{Addr}
use Rattle.lw_reg.specs.declared.addr.Addr.TheVariants.{V4, V6}
use Rattle.lw_reg.specs.Addr.{addr_text, IsHost, IsAddr}
use Rattle.lw_reg.specs.inner.Addr.Reading.{◌>>=◌, strip_at, number_in, octet_then, v4_in, four_then, v6_in, by_bracket, addr_in}
use Rattle.lw_reg.proofs.Addresses.Cuts.{bind_some, some_is, strip_at_parts, strip_at-other}
use Rattle.lw_reg.proofs.Addresses.Numbers.{number_in_text, number_in-decimal, first_of_decimal, octet_then_text, octet_then-decimal}
use Rattle.lw_reg.proofs.Addresses.HexGroups.{four_text, none_below, more_below, eight_below, four_then_text, four_then-text, colon, bracket}

-- the text of an IPv4 address, part by part
v4_text : (a b c d port : ℕ) → addr_text (V4 (a ∷ b ∷ c ∷ d ∷ []) port) ≡ decimal a ++ (46 ∷ (decimal b ++ (46 ∷ (decimal c ++ (46 ∷ (decimal d ++ (58 ∷ decimal port)))))))
v4_text a b c d port = simp append_assoc

v4_in_text : (text : List ℕ) (a : Addr) → v4_in text ≡ Some a → (text ≡ addr_text a) × IsAddr a
unfolding v4_in
v4_in_text text a e =
    let p = bind_some (octet_then 46 text) (λ p. octet_then 46 p.1 >>= λ q. octet_then 46 q.1 >>= λ r. octet_then 58 r.1 >>= λ s. number_in (2 ^ 16) s.1 >>= λ port. Some (V4 (p.0 ∷ q.0 ∷ r.0 ∷ s.0 ∷ []) port)) a e in
    let q = bind_some (octet_then 46 p.0.1) (λ q. octet_then 46 q.1 >>= λ r. octet_then 58 r.1 >>= λ s. number_in (2 ^ 16) s.1 >>= λ port. Some (V4 (p.0.0 ∷ q.0 ∷ r.0 ∷ s.0 ∷ []) port)) a p.2 in
    let r = bind_some (octet_then 46 q.0.1) (λ r. octet_then 58 r.1 >>= λ s. number_in (2 ^ 16) s.1 >>= λ port. Some (V4 (p.0.0 ∷ q.0.0 ∷ r.0 ∷ s.0 ∷ []) port)) a q.2 in
    let s = bind_some (octet_then 58 r.0.1) (λ s. number_in (2 ^ 16) s.1 >>= λ port. Some (V4 (p.0.0 ∷ q.0.0 ∷ r.0.0 ∷ s.0 ∷ []) port)) a r.2 in
    let n = bind_some (number_in (2 ^ 16) s.0.1) (λ port. Some (V4 (p.0.0 ∷ q.0.0 ∷ r.0.0 ∷ s.0.0 ∷ []) port)) a s.2 in
    let v = some_is (V4 (p.0.0 ∷ q.0.0 ∷ r.0.0 ∷ s.0.0 ∷ []) n.0) a n.2 in
    let last : r.0.1 ≡ decimal s.0.0 ++ (58 ∷ decimal n.0) = (octet_then_text 58 r.0.1 s.0 s.1).0 ∙ ap (λ (t : List ℕ). decimal s.0.0 ++ (58 ∷ t)) (number_in_text (2 ^ 16) s.0.1 n.0 n.1).0 in
    let third : q.0.1 ≡ decimal r.0.0 ++ (46 ∷ (decimal s.0.0 ++ (58 ∷ decimal n.0))) = (octet_then_text 46 q.0.1 r.0 r.1).0 ∙ ap (λ (t : List ℕ). decimal r.0.0 ++ (46 ∷ t)) last in
    let second : p.0.1 ≡ decimal q.0.0 ++ (46 ∷ (decimal r.0.0 ++ (46 ∷ (decimal s.0.0 ++ (58 ∷ decimal n.0))))) = (octet_then_text 46 p.0.1 q.0 q.1).0 ∙ ap (λ (t : List ℕ). decimal q.0.0 ++ (46 ∷ t)) third in
    let whole =
    (octet_then_text 46 text p.0 p.1).0
    ∙ ap (λ (t : List ℕ). decimal p.0.0 ++ (46 ∷ t)) second
    ∙ sym (v4_text p.0.0 q.0.0 r.0.0 s.0.0 n.0)
    ∙ ap addr_text v in
    let in_range : IsHost 4 (p.0.0 ∷ q.0.0 ∷ r.0.0 ∷ s.0.0 ∷ []) n.0 = record {
      whole = refl;
      bytes = more_below p.0.0 (q.0.0 ∷ r.0.0 ∷ s.0.0 ∷ []) (octet_then_text 46 text p.0 p.1).1
          (more_below q.0.0 (r.0.0 ∷ s.0.0 ∷ []) (octet_then_text 46 p.0.1 q.0 q.1).1
          (more_below r.0.0 (s.0.0 ∷ []) (octet_then_text 46 q.0.1 r.0 r.1).1
          (more_below s.0.0 [] (octet_then_text 58 r.0.1 s.0 s.1).1 none_below)));
      port = (number_in_text (2 ^ 16) s.0.1 n.0 n.1).1;
    } in
    (whole, subst IsAddr v in_range)

v4_again : (a b c d port : ℕ) → a < 256 → b < 256 → c < 256 → d < 256 → port < 2 ^ 16 → v4_in (addr_text (V4 (a ∷ b ∷ c ∷ d ∷ []) port)) ≡ Some (V4 (a ∷ b ∷ c ∷ d ∷ []) port)
unfolding v4_in
v4_again a b c d port fa fb fc fd fp =
    let r4 = decimal d ++ (58 ∷ decimal port) in
    let r3 = decimal c ++ (46 ∷ r4) in
    let r2 = decimal b ++ (46 ∷ r3) in
    ap v4_in (v4_text a b c d port) ∙
    rw (
      octet_then-decimal 46 a r2 fa (λ low high. omega arith),
      octet_then-decimal 46 b r3 fb (λ low high. omega arith),
      octet_then-decimal 46 c r4 fc (λ low high. omega arith),
      octet_then-decimal 58 d (decimal port) fd (λ low high. omega arith),
      number_in-decimal (2 ^ 16) port fp (omega arith),
    ) refl

v6_in_text : (text : List ℕ) (a : Addr) → v6_in text ≡ Some a → (91 ∷ text ≡ addr_text a) × IsAddr a
unfolding v6_in
v6_in_text text a e =
    let p = bind_some (four_then 58 text) (λ front. four_then 93 front.1 >>= λ back. strip_at 58 back.1 >>= λ rest. number_in (2 ^ 16) rest >>= λ port. Some (V6 (front.0 ++ back.0) port)) a e in
    let q = bind_some (four_then 93 p.0.1) (λ back. strip_at 58 back.1 >>= λ rest. number_in (2 ^ 16) rest >>= λ port. Some (V6 (p.0.0 ++ back.0) port)) a p.2 in
    let r = bind_some (strip_at 58 q.0.1) (λ rest. number_in (2 ^ 16) rest >>= λ port. Some (V6 (p.0.0 ++ q.0.0) port)) a q.2 in
    let n = bind_some (number_in (2 ^ 16) r.0) (λ port. Some (V6 (p.0.0 ++ q.0.0) port)) a r.2 in
    let v = some_is (V6 (p.0.0 ++ q.0.0) n.0) a n.2 in
    let x = four_then_text 58 text p.0 p.1 in
    let y = four_then_text 93 p.0.1 q.0 q.1 in
    let port : q.0.1 ≡ 58 ∷ decimal n.0 = strip_at_parts 58 q.0.1 r.0 r.1 ∙ ap (λ (t : List ℕ). 58 ∷ t) (number_in_text (2 ^ 16) r.0 n.0 n.1).0 in
    let back : p.0.1 ≡ four_text y.first.0 y.first.1 y.second.0 y.second.1 y.third.0 y.third.1 y.fourth.0 y.fourth.1 (93 ∷ 58 ∷ decimal n.0) =
    y.parts ∙ ap (λ (t : List ℕ). four_text y.first.0 y.first.1 y.second.0 y.second.1 y.third.0 y.third.1 y.fourth.0 y.fourth.1 (93 ∷ t)) port in
    let whole : text ≡ four_text x.first.0 x.first.1 x.second.0 x.second.1 x.third.0 x.third.1 x.fourth.0 x.fourth.1 (58 ∷ four_text y.first.0 y.first.1 y.second.0 y.second.1 y.third.0 y.third.1 y.fourth.0 y.fourth.1 (93 ∷ 58 ∷ decimal n.0)) =
    x.parts ∙ ap (λ (t : List ℕ). four_text x.first.0 x.first.1 x.second.0 x.second.1 x.third.0 x.third.1 x.fourth.0 x.fourth.1 (58 ∷ t)) back in
    let printed =
    ap (λ (t : List ℕ). 91 ∷ t) whole
    ∙ sym (ap (λ (z : List ℕ × List ℕ). addr_text (V6 (z.0 ++ z.1) n.0)) (λ i. (x.bytes i, y.bytes i)))
    ∙ ap addr_text v in
    let both : p.0.0 ++ q.0.0 ≡ x.first.0 ∷ x.first.1 ∷ x.second.0 ∷ x.second.1 ∷ x.third.0 ∷ x.third.1 ∷ x.fourth.0 ∷ x.fourth.1 ∷ y.first.0 ∷ y.first.1 ∷ y.second.0 ∷ y.second.1 ∷ y.third.0 ∷ y.third.1 ∷ y.fourth.0 ∷ y.fourth.1 ∷ [] =
    λ i. x.bytes i ++ y.bytes i in
    let in_range : IsHost 16 (x.first.0 ∷ x.first.1 ∷ x.second.0 ∷ x.second.1 ∷ x.third.0 ∷ x.third.1 ∷ x.fourth.0 ∷ x.fourth.1 ∷ y.first.0 ∷ y.first.1 ∷ y.second.0 ∷ y.second.1 ∷ y.third.0 ∷ y.third.1 ∷ y.fourth.0 ∷ y.fourth.1 ∷ []) n.0 = record {
      whole = refl;
      bytes = eight_below x.first.0 x.first.1 x.second.0 x.second.1 x.third.0 x.third.1 x.fourth.0 x.fourth.1 (y.first.0 ∷ y.first.1 ∷ y.second.0 ∷ y.second.1 ∷ y.third.0 ∷ y.third.1 ∷ y.fourth.0 ∷ y.fourth.1 ∷ []) x.below
          (eight_below y.first.0 y.first.1 y.second.0 y.second.1 y.third.0 y.third.1 y.fourth.0 y.fourth.1 [] y.below none_below);
      port = (number_in_text (2 ^ 16) r.0 n.0 n.1).1;
    } in
    (printed, subst IsAddr v (subst (λ (l : List ℕ). IsHost 16 l n.0) (sym both) in_range))

list_4 : (address : List ℕ) → length address ≡ 4 → address ≡ get_or address 0 0 ∷ get_or address 1 0 ∷ get_or address 2 0 ∷ get_or address 3 0 ∷ []
list_4 address whole = text_from_reads address (get_or address 0 0 ∷ get_or address 1 0 ∷ get_or address 2 0 ∷ get_or address 3 0 ∷ []) whole (search rules)

list_16 : (address : List ℕ) → length address ≡ 16 → address ≡ get_or address 0 0 ∷ get_or address 1 0 ∷ get_or address 2 0 ∷ get_or address 3 0 ∷ get_or address 4 0 ∷ get_or address 5 0 ∷ get_or address 6 0 ∷ get_or address 7 0 ∷ get_or address 8 0 ∷ get_or address 9 0 ∷ get_or address 10 0 ∷ get_or address 11 0 ∷ get_or address 12 0 ∷ get_or address 13 0 ∷ get_or address 14 0 ∷ get_or address 15 0 ∷ []
list_16 address whole = text_from_reads address (get_or address 0 0 ∷ get_or address 1 0 ∷ get_or address 2 0 ∷ get_or address 3 0 ∷ get_or address 4 0 ∷ get_or address 5 0 ∷ get_or address 6 0 ∷ get_or address 7 0 ∷ get_or address 8 0 ∷ get_or address 9 0 ∷ get_or address 10 0 ∷ get_or address 11 0 ∷ get_or address 12 0 ∷ get_or address 13 0 ∷ get_or address 14 0 ∷ get_or address 15 0 ∷ []) whole (search rules)

-- what the pieces of an IPv4 address make
pub v4_printed : {A E : Type 0} (address : List ℕ) (port : ℕ) → length address ≡ 4 → (r : Result (String A) E)
    → IfOk r (λ text. string_bytes text ≡ decimal (get_or address 0 0) ++ (46 ∷ (decimal (get_or address 1 0) ++ (46 ∷ (decimal (get_or address 2 0) ++ (46 ∷ (decimal (get_or address 3 0) ++ (58 ∷ decimal port))))))))
    → IfOk r (λ text. string_bytes text ≡ addr_text (V4 address port))
v4_printed address port whole (Ok text) h =
    h ∙ sym (ap (λ (l : List ℕ). addr_text (V4 l port)) (list_4 address whole) ∙ v4_text (get_or address 0 0) (get_or address 1 0) (get_or address 2 0) (get_or address 3 0) port)
v4_printed address port whole (Err e) h = tt

v6_again : (address : List ℕ) (port : ℕ) → IsHost 16 address port → (text : List ℕ) → 91 ∷ text ≡ addr_text (V6 address port) → v6_in text ≡ Some (V6 address port)
unfolding v6_in
v6_again address port host text e =
    let whole = list_16 address host.whole in
    let back = four_text (get_or address 8 0) (get_or address 9 0) (get_or address 10 0) (get_or address 11 0) (get_or address 12 0) (get_or address 13 0) (get_or address 14 0) (get_or address 15 0) (93 ∷ 58 ∷ decimal port) in
    let front = four_text (get_or address 0 0) (get_or address 1 0) (get_or address 2 0) (get_or address 3 0) (get_or address 4 0) (get_or address 5 0) (get_or address 6 0) (get_or address 7 0) (58 ∷ back) in
    let printed : 91 ∷ text ≡ 91 ∷ front = e ∙ ap (λ (l : List ℕ). addr_text (V6 l port)) whole in
    let same : text ≡ front = cc in
    ap v6_in same ∙
    rw (
      four_then-text 58 (get_or address 0 0) (get_or address 1 0) (get_or address 2 0) (get_or address 3 0) (get_or address 4 0) (get_or address 5 0) (get_or address 6 0) (get_or address 7 0) back colon (record { at_a = host.bytes 0; at_b = host.bytes 1; at_c = host.bytes 2; at_d = host.bytes 3; at_e = host.bytes 4; at_f = host.bytes 5; at_g = host.bytes 6; at_h = host.bytes 7 }),
      four_then-text 93 (get_or address 8 0) (get_or address 9 0) (get_or address 10 0) (get_or address 11 0) (get_or address 12 0) (get_or address 13 0) (get_or address 14 0) (get_or address 15 0) (58 ∷ decimal port) bracket (record { at_a = host.bytes 8; at_b = host.bytes 9; at_c = host.bytes 10; at_d = host.bytes 11; at_e = host.bytes 12; at_f = host.bytes 13; at_g = host.bytes 14; at_h = host.bytes 15 }),
      number_in-decimal (2 ^ 16) port host.port (omega arith),
    ) (ap (λ (l : List ℕ). Some (V6 l port)) (sym whole))

by_first : (text : List ℕ) (a : Addr) (o : Option (List ℕ)) → strip_at 91 text ≡ o → by_bracket text o ≡ Some a → (text ≡ addr_text a) × IsAddr a
by_first text a (Some rest) is e =
    let r = v6_in_text rest a e in
    (strip_at_parts 91 text rest is ∙ r.0, r.1)
by_first text a None is e = v4_in_text text a e

-- what is read is printed so
pub addr_in_text : (text : List ℕ) (r : Option Addr) → r ≡ addr_in text → IfSome r (λ a. text ≡ addr_text a)
unfolding addr_in
addr_in_text text None e = tt
addr_in_text text (Some a) e = (by_first text a (strip_at 91 text) refl (sym e)).0

-- what is read is in range
pub addr_in_range : (text : List ℕ) (r : Option Addr) → r ≡ addr_in text → IfSome r IsAddr
unfolding addr_in
addr_in_range text None e = tt
addr_in_range text (Some a) e = (by_first text a (strip_at 91 text) refl (sym e)).1

without_bracket : (text : List ℕ) (a : Addr) → strip_at 91 text ≡ None → v4_in text ≡ Some a → addr_in text ≡ Some a
unfolding addr_in
without_bracket text a none e = ap (by_bracket text) none ∙ e

behind_bracket : (text : List ℕ) (a : Addr) → v6_in text ≡ Some a → addr_in (91 ∷ text) ≡ Some a
unfolding addr_in
behind_bracket text a e = e

-- the two halves of an address
pub joined_is : (x y front back : List ℕ) → length x ≡ 8 → x ≡ front → y ≡ back → put_mid 8 8 (x ++ (0 ∷ 0 ∷ 0 ∷ 0 ∷ 0 ∷ 0 ∷ 0 ∷ 0 ∷ [])) y ≡ front ++ back
joined_is x y front back len e f =
    rw (take_at x (0 ∷ 0 ∷ 0 ∷ 0 ∷ 0 ∷ 0 ∷ 0 ∷ 0 ∷ []) 8 len, drop_at x (0 ∷ 0 ∷ 0 ∷ 0 ∷ 0 ∷ 0 ∷ 0 ∷ 0 ∷ []) 8 len, e, f) (ap (λ (t : List ℕ). front ++ t) (append-nil back))

-- what is printed so is read
pub addr_in-text : (a : Addr) → IsAddr a → addr_in (addr_text a) ≡ Some a
addr_in-text (V4 address port) host =
    let whole = list_4 address host.whole in
    let text = addr_text (V4 address port) in
    let others : List ℕ = 46 ∷ (decimal (get_or address 1 0) ++ (46 ∷ (decimal (get_or address 2 0) ++ (46 ∷ (decimal (get_or address 3 0) ++ (58 ∷ decimal port)))))) in
    let first = first_of_decimal (get_or address 0 0) others (omega (arith, host.bytes 0)) in
    let printed = ap (λ (l : List ℕ). addr_text (V4 l port)) whole ∙ v4_text (get_or address 0 0) (get_or address 1 0) (get_or address 2 0) (get_or address 3 0) port in
    let none : strip_at 91 text ≡ None = rw printed (strip_at-other 91 (decimal (get_or address 0 0) ++ others) (λ (e : get_or (decimal (get_or address 0 0) ++ others) 0 0 ≡ 91). omega (arith, first, e))) in
    without_bracket text (V4 address port) none (ap (λ (l : List ℕ). v4_in (addr_text (V4 l port))) whole
    ∙ v4_again (get_or address 0 0) (get_or address 1 0) (get_or address 2 0) (get_or address 3 0) port (host.bytes 0) (host.bytes 1) (host.bytes 2) (host.bytes 3) host.port
    ∙ ap (λ (l : List ℕ). Some (V4 l port)) (sym whole))
addr_in-text (V6 address port) host = behind_bracket _ (V6 address port) (v6_again address port host _ refl)
