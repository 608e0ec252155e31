-- Watches are their entries.
use Rattle.std.proofs.Common.{◌≡◌, List, [], ◌∷◌, ◌∙◌, sym, subst}
use Rattle.lw_join.specs.Entries.{Rises, get}
use Rattle.lw_join.specs.Options.{option_below}
use Rattle.lw_join.specs.Parts.{entries_of, made, parts_below, value_at}
use Rattle.lw_join.specs.PartsLaws.{entries_made, same_parts}
use Rattle.lw_reg.specs.declared.path.Path.{Path}
use Rattle.lw_reg.specs.Body.{Watching, Watches, no_watches, one_watch, watching_below}
use Rattle.lw_reg.specs.Orders.{path_cmp}

watches_are : (watches : Watches) (es : List (Path × Watching)) → Rises path_cmp es → entries_of watches ≡ es → watches ≡ made es
watches_are watches es rises same = same_parts watches (made es) (same ∙ sym (entries_made _ _ _ es rises))

pub no_watches_are : (watches : Watches) → entries_of watches ≡ [] → watches ≡ no_watches
no_watches_are watches same = watches_are watches [] tt same

pub one_watch_is : (watches : Watches) (path : Path) (watching : Watching) → entries_of watches ≡ (path, watching) ∷ [] → watches ≡ one_watch path watching
one_watch_is watches path watching same = watches_are watches ((path, watching) ∷ []) (tt, tt) same

-- no watch is below all
pub no_watches_below : (w : Watches) → parts_below watching_below no_watches w
no_watches_below w p = subst (λ es. option_below watching_below (get path_cmp es p) (value_at w p)) (sym (entries_made _ _ _ [] tt)) tt
