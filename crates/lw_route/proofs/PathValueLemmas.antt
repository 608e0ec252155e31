-- The text of a path, percent-encoded.
use Rattle.std.proofs.Common.{◌≡◌, ℕ, List, sym, subst}
use Rattle.lw_reg.specs.declared.path.Path.{Path}
use Rattle.lw_path.specs.PathText.{IsPath}
use Rattle.lw_route.specs.Decoding.{IsDecoded, IsPathEncoded}

-- a text that stands for what spells no path
pub no_path_read : (name read text : List ℕ) → IsDecoded name text → read ≡ name → ((path : Path) → ¬ IsPath path read) → (path : Path) → ¬ IsPathEncoded path text
no_path_read name read text is same none path wrong =
    none path (subst (IsPath path) (sym same) (subst (IsPath path) (sym is.decoded) wrong.spelled))
