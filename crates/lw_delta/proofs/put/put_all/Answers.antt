use Rattle.std.proofs.Common.{◌≡◌, ℕ, suc, ◌+◌, ◌<◌, List, [], ◌∷◌, ◌++◌, length, get_or, drop, refl, sym, ap, ◌∙◌, subst, add-one, drop-cons, append_assoc}
use Rattle.std.proofs.lemmas.List.{drop_all}
use Rattle.std.proofs.lemmas.Result.{on_ok_weaker}
use Rattle.std.specs.List.{AllByRecursion}
use Rattle.lw_delta.specs.Writing.{repeated_bytes}
use Rattle.lw_delta.proofs.Begins.{begins_same, begins_through, then_put}
use Rattle.lw_delta.proofs.put.put_all.Goals as goal

next_is : {X : Type 0} (xs : List X) (i : ℕ) (x : X) → i < length xs → x ≡ get_or xs i x → drop i xs ≡ x ∷ drop (i + 1) xs
next_is xs i x lt e = rw (add-one, drop-cons xs i x lt) (ap (λ y. y ∷ drop (suc i) xs) (sym e))

one_more : {A : Type 0} (write : A → List ℕ) (ys : List A) (x : A) (xs : List A) (a b c all : List ℕ) → ys ≡ x ∷ xs → b ≡ a ++ 1 ∷ [] → c ≡ b ++ write x → a ++ repeated_bytes write ys ≡ all → c ++ repeated_bytes write xs ≡ all
one_more {A} write ys x xs a b c all is e f h =
    then_put a (1 ∷ []) (write x ++ repeated_bytes write xs) e (ap (λ (z : List ℕ). z ++ repeated_bytes write xs) f ∙ append_assoc b (write x) (repeated_bytes write xs))
    ∙ (ap (λ (zs : List A). a ++ repeated_bytes write zs) (sym is) ∙ h)

pub loop-value-init : goal.loop-value-init
loop-value-init g c = record { written = refl; fits = c.requires; typed = λ t. t; kept = begins_same refl }

pub returns-in_err-put_byte-clause-kept : goal.returns-in_err-put_byte-clause-kept
returns-in_err-put_byte-clause-kept g c = begins_through c.loop-value.invariant.kept c.in_err-put_byte.ensures.kept

pub returns-in_err-put_entry-clause-kept : goal.returns-in_err-put_entry-clause-kept
returns-in_err-put_entry-clause-kept g c = begins_through c.loop-value.invariant.kept (begins_through c.in_ok-put_byte.ensures.kept c.in_err-put_entry.ensures.kept)

pub put_entry-requires : goal.put_entry-requires
put_entry-requires g c =
    let i : ℕ = c.loop-value.value-index in
    let xs = c.args.values.now in
    let is = next_is xs i c.value-item.result c.loop-value-test.true c.value-item.is in
    (subst (λ vs. AllByRecursion g.T.PutEntry.fits vs) is c.loop-value.invariant.fits).0

pub loop-value-preserved : goal.loop-value-preserved
loop-value-preserved g c =
    let i : ℕ = c.loop-value.value-index in
    let xs = c.args.values.now in
    let x = c.value-item.result in
    let is : drop i xs ≡ x ∷ drop (i + 1) xs = next_is xs i x c.loop-value-test.true c.value-item.is in
    record {
      written = one_more g.T.PutEntry.bytes (drop i xs) x (drop (i + 1) xs) c.loop-value.out.items c.put_byte.new.out.items c.put_entry.new.out.items (c.args.out.now.items ++ repeated_bytes g.T.PutEntry.bytes xs)
          is c.in_ok-put_byte.ensures.written c.in_ok-put_entry.ensures.written c.loop-value.invariant.written;
      fits = (subst (λ vs. AllByRecursion g.T.PutEntry.fits vs) is c.loop-value.invariant.fits).1;
      typed = λ t. c.loop-value.invariant.typed (subst (λ vs. AllByRecursion g.T.PutEntry.typed vs) (sym is) (c.in_ok-put_entry.ensures.typed, t));
      kept = begins_through c.loop-value.invariant.kept (begins_through c.in_ok-put_byte.ensures.kept c.in_ok-put_entry.ensures.kept);
    }

pub returns-clause-written : goal.returns-clause-written
returns-clause-written g c =
    let none = drop_all c.loop-value.value-index c.args.values.now c.loop-value-test.false in
    on_ok_weaker c.put_byte-2.result
    (λ e. e ∙ (ap (λ vs. c.loop-value.out.items ++ repeated_bytes g.T.PutEntry.bytes vs) (sym none) ∙ c.loop-value.invariant.written))
    c.put_byte-2.ensures.written

pub returns-clause-typed : goal.returns-clause-typed
returns-clause-typed g c =
    let none = drop_all c.loop-value.value-index c.args.values.now c.loop-value-test.false in
    on_ok_weaker c.put_byte-2.result (λ e. c.loop-value.invariant.typed (subst (λ vs. AllByRecursion g.T.PutEntry.typed vs) (sym none) tt)) c.put_byte-2.ensures.written

pub returns-clause-kept : goal.returns-clause-kept
returns-clause-kept g c = begins_through c.loop-value.invariant.kept c.put_byte-2.ensures.kept
