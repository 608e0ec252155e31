use Rattle.std.proofs.Common.{◌≡◌, ℕ, List, [], ◌++◌, codes, append_assoc}
use Rattle.std.proofs.lemmas.List.{append-nil}
use Rattle.std.specs.Int.{w16, w64, to_be_bytes}
use Rattle.lw_log.specs.Entries.{headed}
use Rattle.lw_log.proofs.writing.put_head.Goals as goal

regrouped : (old a b c d e : List ℕ) → ((((old ++ a) ++ b) ++ c) ++ d) ++ e ≡ old ++ (a ++ (b ++ (c ++ (d ++ (e ++ [])))))
regrouped old a b c d e = simp (append_assoc, append-nil)

-- the parts of a head, one after another
joined : (old magic fleet number tag sequence wrote : List ℕ) (a b c : List ℕ) (n t s : ℕ) → a ≡ to_be_bytes w16 n → b ≡ to_be_bytes w64 t → c ≡ to_be_bytes w64 s
    → magic ≡ old ++ codes "LWE1" → fleet ≡ magic ++ wrote → number ≡ fleet ++ a → tag ≡ number ++ b → sequence ≡ tag ++ c → sequence ≡ old ++ headed wrote n t s []
joined old magic fleet number tag sequence wrote a b c n t s x y z m f g h k =
    rw (k, h, g, f, m, x, y, z) (regrouped old (codes "LWE1") wrote (to_be_bytes w16 n) (to_be_bytes w64 t) (to_be_bytes w64 s))

pub returns : goal.returns
returns c =
    let entry = c.args.entry.now in
    joined c.args.out.now.items _ _ _ _ _ entry.fleet.bytes _ _ _ entry.start.number entry.start.tag entry.sequence c.to_be_bytes.ensures c.to_be_bytes-2.ensures c.to_be_bytes-3.ensures
    c.in_ok-extend_from_slice.ensures.items c.in_ok-extend_from_slice-2.ensures.items c.in_ok-extend_from_slice-3.ensures.items c.in_ok-extend_from_slice-4.ensures.items c.in_ok-extend_from_slice-5.ensures.items
