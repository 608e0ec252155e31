use Rattle.std.proofs.Common.{◌≡◌, ℕ, ◌+◌, ◌-◌, List, length, take, drop, get_or, subst, sym, ◌∙◌, ap, arith, below_more}
use Rattle.std.specs.Char.{IsAsciiHexdigit}
use Rattle.std.proofs.lemmas.List.{get_or-drop, take_rest}
use Rattle.lw_route.proofs.decoding.is_percent_encoded.Goals as goal
use Rattle.lw_route.proofs.decoding.is_percent_encoded.Goals.{else-byte-eq37-via-then-byte-eq37+else-not-begins_with_hex, else-byte-eq37-via-else-byte-eq37}

-- a byte of what stands behind a place
behind : (text : List ℕ) (place k n : ℕ) → n ≡ place + 1 + k → IsAsciiHexdigit (get_or (take (length text - (place + 1)) (drop (place + 1) text)) k 0) → IsAsciiHexdigit (get_or text n 0)
behind text place k n sum h = subst IsAsciiHexdigit (ap (λ x. get_or x k 0) (take_rest text (place + 1)) ∙ get_or-drop (place + 1) text k 0 ∙ ap (λ m. get_or text m 0) (sym sum)) h

pub loop-place-preserved : goal.loop-place-preserved
loop-place-preserved c = below_more _ _ c.loop-place.invariant (elim c.else-byte-eq37.branch [
  | else-byte-eq37-via-then-byte-eq37+else-not-begins_with_hex w ↦ λ is.
      let h = w.begins_with_hex.ensures.0 w.if-not-begins_with_hex.false in
      (behind c.args.text.now c.loop-place.place 0 _ (omega arith) h.0, behind c.args.text.now c.loop-place.place 1 _ (omega arith) h.1)
  | else-byte-eq37-via-else-byte-eq37 w ↦ λ is. absurd (w.if-byte-eq37.false is)
])
