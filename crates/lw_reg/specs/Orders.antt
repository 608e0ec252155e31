-- The orders of what a registration shows.
use Rattle.std.specs.Prelude.{ℕ, List, Option}
use Rattle.std.specs.declared.cmp.Ordering.{Ordering}
use Rattle.std.specs.Option.{option_cmp}
use Rattle.std.specs.Ordering.{nat_cmp, bool_cmp, ordering_then}
use Rattle.lw_stamp.specs.declared.moment.Moment.{Moment}
use Rattle.lw_stamp.specs.Moment.{ms_of}
use Rattle.lw_stamp.specs.TextOrder.{text_cmp}
use Rattle.lw_reg.specs.declared.addr.Addr.{Addr}
use Rattle.lw_reg.specs.declared.base.Base.{Base}
use Rattle.lw_reg.specs.declared.binding.Binding.{Binding}
use Rattle.lw_reg.specs.declared.path.Path.{Path}
use Rattle.lw_reg.specs.declared.version.Version.{Version}
use Rattle.lw_reg.specs.declared.version.Version.TheVariants.{V10, V11}
use Rattle.lw_reg.specs.Binding.{binding_text}
use Rattle.lw_reg.specs.ByNumbers.{by_numbers}
use Rattle.lw_reg.specs.Path.{path_numbers}
use Rattle.lw_reg.specs.contracts.addr.AddrOrd.TheImpl as addrs
use Rattle.lw_reg.specs.contracts.base.BaseOrd.TheImpl as bases
use Rattle.lw_reg.specs.contracts.binding.BindingOrd.TheImpl as bindings
use Rattle.lw_reg.specs.contracts.endpoint.EndpointOrd.TheImpl as endpoints
use Rattle.lw_reg.specs.contracts.path.PathOrd.TheImpl as paths
use Rattle.lw_reg.specs.contracts.sms_number.SmsNumberOrd.TheImpl as sms_numbers
use Rattle.lw_reg.specs.contracts.version.VersionOrd.TheImpl as versions

-- bindings: by their texts
abbrev pub binding_by_text : Binding → Binding → Ordering
binding_by_text a b = text_cmp (binding_text a) (binding_text b)

-- the number behind the dot
abbrev pub minor : Version → ℕ
minor V10 = 0
minor V11 = 1

-- versions: 1.0 below 1.1
abbrev pub version_by_number : Version → Version → Ordering
version_by_number a b = nat_cmp (minor a) (minor b)

-- bases: by version, and then queue mode off before on
abbrev pub base_by_parts : Base → Base → Ordering
base_by_parts a b = ordering_then (version_by_number a.version b.version) (bool_cmp a.queue b.queue)

-- moments: by their milliseconds
abbrev pub moment_cmp : Moment → Moment → Ordering
moment_cmp a b = nat_cmp (ms_of a) (ms_of b)

-- SMS numbers: none below some, and then by their bytes
abbrev pub sms_cmp : Option (List ℕ) → Option (List ℕ) → Ordering
sms_cmp = option_cmp text_cmp

-- what an observation accepts: none below some, and formats by number (RFC 7252, section 5.10.4)
abbrev pub format_cmp : Option ℕ → Option ℕ → Ordering
format_cmp = option_cmp nat_cmp

-- paths: number by number, a path before those that it begins
abbrev pub path_cmp : Path → Path → Ordering
path_cmp = by_numbers path_numbers

-- the orders that the types have: what `cmp` gives
abbrev pub addr_cmp : Addr → Addr → Ordering
addr_cmp = (addrs.ghosts).cmp

abbrev pub binding_cmp : Binding → Binding → Ordering
binding_cmp = (bindings.ghosts).cmp

abbrev pub endpoint_cmp : List ℕ → List ℕ → Ordering
endpoint_cmp = (endpoints.ghosts).cmp

abbrev pub path_given_cmp : Path → Path → Ordering
path_given_cmp = (paths.ghosts).cmp

abbrev pub sms_number_cmp : List ℕ → List ℕ → Ordering
sms_number_cmp = (sms_numbers.ghosts).cmp

abbrev pub version_cmp : Version → Version → Ordering
version_cmp = (versions.ghosts).cmp

abbrev pub base_cmp : Base → Base → Ordering
base_cmp = (bases.ghosts).cmp
