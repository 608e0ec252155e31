-- The attributes that are lent: with their writes, or by themselves.
use Rattle.std.specs.Prelude.{ℕ, List}
use Rattle.lw_reg.specs.declared.attributes.Lent.{Lent}
use Rattle.lw_reg.specs.declared.attributes.Lent.TheVariants.{Written, Listed}
use Rattle.lw_reg.specs.Attribute.{values_of}

abbrev pub pairs_in : Lent → List (List ℕ × List ℕ)
pairs_in (Written writes) = values_of writes.now
pairs_in (Listed pairs) = pairs.now
