-- Which bytes are printings.
use Rattle.std.proofs.Common.{◌≡◌, ℕ, ◌≤◌, true, List, [], length, ap, subst, sym, ◌∙◌, arith, chars, IsUtf8, encode_utf8_all}
use Rattle.std.proofs.lemmas.Bool.{false≢true}
use Rattle.std.proofs.lemmas.Str.{encodes-chars, scalars-chars}
use Rattle.lw_link.specs.declared.style.Style.TheVariants.{Printed}
use Rattle.lw_link.specs.declared.state.State.TheVariants.{Start}
use Rattle.lw_link.specs.Link.{LinkContent}
use Rattle.lw_link.specs.Grammar.{IsList}
use Rattle.lw_link.specs.inner.Machine.{Rest, read_on, Leaves}
use Rattle.lw_link.specs.Spelling.{Spells}
use Rattle.lw_link.specs.Printing.{printing}
use Rattle.lw_link.specs.WellFormed.{AreWellFormed, IsPrinting}
use Rattle.lw_link.proofs.Complete.{holding, list_held}
use Rattle.lw_link.proofs.Sound.{whole_are}
use Rattle.lw_link.proofs.Places.{leaves_not_whole}
use Rattle.lw_link.proofs.Printed.{list_any, list_good, list_printed}
use Rattle.lw_link.proofs.Shortest.{list_size}
use Rattle.lw_link.proofs.Spelled.{printing_is, printing_spells}

pub spelled_good : (bytes : List ℕ) (links : List LinkContent) → Spells bytes links → length links ≤ 256 → AreWellFormed links
spelled_good bytes links spells few =
    let good = list_good (chars bytes) links spells.1 (scalars-chars bytes spells.0) in
    record { some = good.0; within = few; each = good.1 }

pub spelled_size : (bytes : List ℕ) (links : List LinkContent) → Spells bytes links → length (printing links) ≤ length bytes
spelled_size bytes links spells =
    let le : length (printing links) ≤ length (encode_utf8_all (chars bytes)) = list_size (chars bytes) links spells.1 (scalars-chars bytes spells.0) in
    omega (arith, le, ap length (encodes-chars bytes spells.0))

pub printing_text : (bytes : List ℕ) → IsPrinting bytes → IsUtf8 bytes
printing_text bytes (links, good, e) = subst IsUtf8 (sym e) (printing_is links good).0

-- a printing spells its links, which are few enough to be read
pub printing_read : (bytes : List ℕ) (h : IsPrinting bytes) → Spells bytes h.0 × (length h.0 ≤ 256)
printing_read bytes (links, good, e) = (subst (λ (x : List ℕ). Spells x links) (sym e) (printing_spells links good), good.within)

held : (bytes : List ℕ) (h : IsPrinting bytes) → read_on Printed Start (chars bytes) ≡ holding [] h.0
held bytes (links, good, e) =
    ap (λ (x : List ℕ). read_on Printed Start (chars x)) e ∙ list_held Printed (chars (printing links)) links (printing_is links good).1

pub printing_found : (bytes : List ℕ) (count : ℕ) → IsUtf8 bytes → (read_on Printed Start (chars bytes)).whole ≡ true → count ≡ length (read_on Printed Start (chars bytes)).links → count ≤ 256 → IsPrinting bytes
printing_found bytes count u whole e few =
    let links = (read_on Printed Start (chars bytes)).links in
    let is : IsList Printed (chars bytes) links = whole_are Printed (chars bytes) Start whole in
    let scalars = scalars-chars bytes u in
    let good = list_good (chars bytes) links (list_any (chars bytes) links is) scalars in
    (links, record { some = good.0; within = omega (arith, e, few); each = good.1 }, sym (encodes-chars bytes u) ∙ list_printed (chars bytes) links is scalars)

pub printing_few : (bytes : List ℕ) (count : ℕ) → count ≡ length (read_on Printed Start (chars bytes)).links → IsPrinting bytes → count ≤ 256
printing_few bytes count e h =
    let same : length (read_on Printed Start (chars bytes)).links ≡ length h.0 = ap (λ (r : Rest). length r.links) (held bytes h) in
    omega (arith, e, same, h.1.within)

pub printing_stays : (bytes : List ℕ) (place : ℕ) → Leaves Printed (chars bytes) place → IsPrinting bytes → ⊥
printing_stays bytes place leaves h =
    false≢true (sym (leaves_not_whole Printed (chars bytes) place leaves) ∙ ap (λ (r : Rest). r.whole) (held bytes h))
