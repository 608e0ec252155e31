use Rattle.std.proofs.Common.{◌≡◌, [], ◌∷◌, ◌++◌, ◌+◌, ap, ◌∙◌, sym, append_assoc, drop, get_or, arith}
use Rattle.std.proofs.lemmas.List.{drop_more}
use Rattle.std.proofs.lemmas.Option.{slice_get-get_or}
use Rattle.json.specs.Token.{key, string}
use Rattle.json.specs.Tree.{members_tokens}
use Rattle.serde_json.specs.Written.{members_outline}
use Rattle.lw_json.specs.Json.{attributes_json}
use Rattle.lw_json.proofs.registration.put_pairs.Goals as goal
use Rattle.lw_json.proofs.registration.put_pairs.Goals.{in-Some+in_ok-put_text, in_default}

pub loop-place-preserved : goal.loop-place-preserved
loop-place-preserved c =
    let attributes = c.args.attributes.now in
    let place = c.loop-place.place in
    let lt = c.loop-place-test.true in
    let len = c.len-place-end.ensures.value in
    let some = slice_get-get_or attributes place ([], []) (omega (arith, lt, len)) in
    elim c.match-get.branch [
      | in-Some+in_ok-put_text w ↦
          let name = w.in-Some.name.now in
          let value = w.in-Some.value.now in
          let is = w.in-Some.ensures in
          let put = w.in_ok-put_text.ensures in
          let old = c.loop-place.out.tokens in
          let behind = drop (place + 1) attributes in
          let rest = members_tokens (members_outline (attributes_json behind)) in
          let here : get_or attributes place ([], []) ≡ (name, value) = cc in
          let front = drop_more attributes place ([], []) (omega (arith, lt, len)) ∙ ap (λ a. a ∷ behind) here in
          record {
            within = omega (arith, lt, len);
            added = ap (λ o. o.tokens ++ rest) w.out-is ∙ ap (λ ts. ts ++ rest) put.ok ∙ append_assoc old (key name ∷ string value ∷ []) rest
                ∙ ap (λ left. old ++ members_tokens (members_outline (attributes_json left))) (sym front) ∙ c.loop-place.invariant.added;
            before = ap (λ o. o.before) w.out-is ∙ put.before ∙ c.loop-place.invariant.before;
          }
      | in_default w ↦ let none = w.in_default.ensures in absurd cc
    ]
