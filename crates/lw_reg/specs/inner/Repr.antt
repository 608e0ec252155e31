-- What is told by the room that is kept for it: no box where nothing is known.
use Rattle.lw_join.specs.declared.or_gone.OrGone.{OrGone}
use Rattle.lw_join.specs.declared.or_gone.OrGone.TheVariants.{Here, Gone}
use Rattle.lw_reg.specs.declared.body.Body.{Body}
use Rattle.lw_reg.specs.declared.told.Kept.{Kept}
use Rattle.lw_reg.specs.declared.told.Kept.TheVariants.{Nothing, Known, Removed}
use Rattle.lw_reg.specs.Body.{nothing}

abbrev pub told_in : Kept → OrGone Body
told_in Nothing = Here nothing
told_in (Known box) = Here box.value
told_in Removed = Gone
