use Rattle.std.proofs.Common.{ℕ, List, [], ◌∷◌, ◌++◌, Option, ap, ◌∙◌, subst}
use Rattle.std.specs.List.{AllByRecursion}
use Rattle.std.proofs.lemmas.Result.{on_ok_weaker}
use Rattle.lw_stamp.specs.declared.stamp.Stamp.{Stamp}
use Rattle.lw_stamp.specs.Stamp.{stamp_bytes}
use Rattle.lw_join.specs.declared.last.Last.{Last}
use Rattle.lw_reg.specs.declared.path.Path.{Path}
use Rattle.lw_reg.specs.Body.{Watching}
use Rattle.lw_reg.specs.Reading.{attributes_of, ended_of, watches_of}
use Rattle.lw_delta.specs.Writable.{AttributesTyped, AcceptsTyped}
use Rattle.lw_delta.specs.Writing.{optional_bytes, repeated_bytes, attribute_bytes, watches_bytes}
use Rattle.lw_delta.proofs.Begins.{begins_through, then_put}
use Rattle.lw_delta.proofs.writing.put_behind.Goals as goal

nothing_asked : {A : Type 0} (xs : List A) → AllByRecursion (λ (x : A). Unit {0}) xs
nothing_asked [] = tt
nothing_asked (x ∷ xs) = (tt, nothing_asked xs)

pub put_all-requires-2 : goal.put_all-requires-2
put_all-requires-2 c = nothing_asked c.watches.result.now

pub returns-clause-written : goal.returns-clause-written
returns-clause-written c =
    let front : List ℕ = repeated_bytes attribute_bytes (attributes_of c.args.slot.now) in
    let end : List ℕ = optional_bytes stamp_bytes (ended_of c.args.slot.now) in
    let more : List ℕ = watches_bytes (watches_of c.args.slot.now) in
    on_ok_weaker c.put_all-2.result
    (λ e. then_put c.args.out.now.items front (end ++ more)
    (c.in_ok-put_all.ensures.written ∙ ap (λ (es : List (List ℕ × Last (List ℕ))). c.args.out.now.items ++ repeated_bytes attribute_bytes es) c.attributes.ensures.attributes)
    (then_put c.put_all.new.out.items end more
    (c.in_ok-put.ensures.written ∙ ap (λ (o : Option Stamp). c.put_all.new.out.items ++ optional_bytes stamp_bytes o) c.ended.ensures)
    (e ∙ ap (λ (ws : List (Path × Watching)). c.put.new.out.items ++ watches_bytes ws) c.watches.ensures.watches)))
    c.put_all-2.ensures.written

pub returns-clause-typed : goal.returns-clause-typed
returns-clause-typed c =
    on_ok_weaker c.put_all-2.result
    (λ t. record {
      attributes = subst (λ (es : List (List ℕ × Last (List ℕ))). AttributesTyped es) c.attributes.ensures.attributes c.in_ok-put_all.ensures.typed;
      accepts = subst (λ (ws : List (Path × Watching)). AcceptsTyped ws) c.watches.ensures.watches t;
    })
    c.put_all-2.ensures.typed

pub returns-clause-kept : goal.returns-clause-kept
returns-clause-kept c = begins_through c.in_ok-put_all.ensures.kept (begins_through c.in_ok-put.ensures.kept c.put_all-2.ensures.kept)

pub returns-in_err-put-clause-kept : goal.returns-in_err-put-clause-kept
returns-in_err-put-clause-kept c = begins_through c.in_ok-put_all.ensures.kept c.in_err-put.ensures.kept
