use Rattle.std.proofs.Common.{refl}
use Rattle.lw_delta.proofs.writing.field_flags.Goals as goal

pub returns : goal.returns
returns c =
    rw (c.flag_if.ensures.value, c.flag_if-2.ensures.value, c.flag_if-3.ensures.value, c.flag_if-4.ensures.value, c.flag_if-5.ensures.value, c.flag_if-6.ensures.value, c.flag_if-7.ensures.value, c.is_some.ensures, c.is_some-2.ensures, c.is_some-3.ensures, c.is_some-4.ensures, c.is_some-5.ensures, c.has_sms.ensures, c.has_objects.ensures, c.base.ensures, c.address.ensures, c.seen.ensures, c.lifetime.ensures, c.binding.ensures) refl
