-- A body that may be absent.
use Rattle.std.specs.Prelude.{Bool, ◌&&◌, Option, Some, None, is_none}
use Rattle.lw_reg.specs.declared.body.Body.{Body}
use Rattle.lw_reg.specs.Body.{nothing}

abbrev pub body_or_nothing : Option Body → Body
body_or_nothing None = nothing
body_or_nothing (Some body) = body

-- no field is known
abbrev pub has_no_fields : Body → Bool
has_no_fields b = is_none b.base.value && is_none b.address.write && is_none b.seen.write && is_none b.lifetime.write && is_none b.binding.write && is_none b.sms.write && is_none b.objects.write && is_none b.ended.value
