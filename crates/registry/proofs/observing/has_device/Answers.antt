use Rattle.std.proofs.Common.{codes}
use Rattle.std.proofs.lemmas.Str.Pattern.{contains_text}
use Rattle.registry.proofs.observing.has_device.Goals as goal

pub returns : goal.returns
returns c = contains_text _ (codes "</3/0>") c.args.objects.now c.contains.ensures.cases
