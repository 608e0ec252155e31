-- What a message means (RFC 7252, sections 4.2, 4.3 and 5.2; RFC 7641, section 3; LwM2M 1.1 Core, section 6.2).
use Rattle.std.specs.Prelude.{◌≡◌, ℕ, ◌/◌, ◌==◌, nat_lt, Bool, ◌||◌, ◌⊎◌, ◌↔◌, ◌≢◌, if◌then◌else◌, IsTrue, is_some, IsSome, unwrap_or, List, [], ◌∷◌, codes, Option, Some, None}
use Rattle.lw_stamp.specs.declared.stamp.Stamp.{Stamp}
use Rattle.lw_stamp.specs.Stamp.{id_of}
use Rattle.lw_coap.specs.declared.message.Kind.{Kind}
use Rattle.lw_coap.specs.declared.message.Kind.TheVariants.{Con, Non, Ack, Rst}
use Rattle.lw_coap.specs.Message.{MessageContent}
use Rattle.lw_reg.specs.declared.settings.GivenSettings.{GivenSettings}
use Rattle.lw_reg.specs.declared.settings.Settings.{Settings}
use Rattle.lw_reg.specs.declared.version.Version.{Version}
use Rattle.lw_reg.specs.Binding.{binding_text}
use Rattle.lw_reg.specs.Version.{version_text}
use Rattle.lw_request.specs.declared.asked.Asked.{Asked}
use Rattle.lw_request.specs.declared.asked.Asked.TheVariants.{Register, Update, Deregister, Report, Ping, Refuse, Reject, Ignore}
use Rattle.lw_request.specs.declared.role.Role.{Role}
use Rattle.lw_request.specs.declared.role.Role.TheVariants.{Ignored, Ping as Probe, Request, Response, Reserved}
use Rattle.lw_request.specs.Options.{has_critical}
use Rattle.lw_request.specs.Queries.{given, IsLifetime, AreSettings, GiveAttributes}
use Rattle.lw_request.specs.Queries.Parameter.{Ep, Lt, Lwm2m, B, Q, Sms}
use Rattle.lw_request.specs.Objects.{IsObjectList}
use Rattle.lw_request.specs.Report.{report_of}
use Rattle.lw_request.specs.Steps.{IsRegister, IsUpdate, IsDeregister, queries_of, Step, steps, Cause, reply_of}
use Rattle.lw_request.specs.Steps.Step.{UnrecognisedOption}

-- the registration that a segment names; none where it is no identifier
abbrev pub Names : List ℕ → Option Stamp → Type 0
Names segment id = (stamp : Stamp) → (id ≡ Some stamp) ↔ (segment ≡ id_of stamp)

-- What a Register asks for. The parameters that it does not give are a lifetime of 86400 seconds, version 1.0 and
-- the binding `U`; queue mode is on where `Q` is given.
pub record AsksRegister (m : MessageContent) (endpoint : List ℕ) (version : Version) (queue : Bool) (settings : Settings) : Type 0 where
  pub form : IsRegister m
  pub endpoint_is : given Ep (queries_of m) ≡ Some endpoint
  pub version_is : version_text version ≡ unwrap_or (given Lwm2m (queries_of m)) (codes "1.0")
  pub queue_is : queue ≡ is_some (given Q (queries_of m))
  pub lifetime_is : IsLifetime (unwrap_or (given Lt (queries_of m)) (codes "86400")) settings.lifetime
  pub binding_is : binding_text settings.binding ≡ unwrap_or (given B (queries_of m)) (codes "U")
  pub sms_is : settings.sms ≡ given Sms (queries_of m)
  pub objects_are : IsObjectList m.payload settings.objects
  pub attributes_are : GiveAttributes (queries_of m) settings.attributes

-- no payload leaves the object list as it is, and any other replaces it whole
abbrev pub AreObjects : List ℕ → Option (List ℕ) → Type 0
AreObjects payload None = payload ≡ []
AreObjects payload (Some objects) = (payload ≢ []) × IsObjectList payload objects

-- what an Update asks for: the parameters and the attributes that it gives
pub record AsksUpdate (m : MessageContent) (id : Option Stamp) (settings : GivenSettings) : Type 0 where
  pub segment : List ℕ
  pub form : IsUpdate m segment
  pub id_is : Names segment id
  pub settings_are : AreSettings (queries_of m) settings.lifetime settings.binding settings.sms
  pub objects_are : AreObjects m.payload settings.objects
  pub attributes_are : GiveAttributes (queries_of m) settings.attributes

-- what a request asks for that is not refused
abbrev pub Asks : MessageContent → Asked → Type 0
Asks m (Register endpoint version queue settings) = AsksRegister m endpoint version queue settings
Asks m (Update id settings) = AsksUpdate m id settings
Asks m (Deregister id) = (segment : List ℕ) × IsDeregister m segment × Names segment id
Asks m (Report report) = ⊥
Asks m Ping = ⊥
Asks m (Refuse refusal) = ⊥
Asks m Reject = ⊥
Asks m Ignore = ⊥

-- A non-confirmable request with an unrecognised option is rejected, and each other refusal is a reply (RFC 7252,
-- section 5.4.1).
abbrev pub refused : Step → Kind → Asked
refused UnrecognisedOption Non = Reject
refused step kind = Refuse (reply_of step)

-- the first of the steps whose cause holds refuses the request, and otherwise it is what it asks for
abbrev pub MeansBy : List Step → MessageContent → Asked → Type 0
MeansBy [] m asked = Asks m asked
MeansBy (step ∷ rest) m asked =
    (Cause step m × (asked ≡ refused step m.kind)) ⊎ ((Cause step m → ⊥) × MeansBy rest m asked)

-- a response with a critical option is rejected, and any other is a report
abbrev pub ResponseMeans : MessageContent → Asked → Type 0
ResponseMeans m asked =
    (IsTrue (has_critical m.options) × (asked ≡ Reject)) ⊎ ((IsTrue (has_critical m.options) → ⊥) × (asked ≡ Report (report_of m)))

-- classes 2, 4 and 5 are those of responses; 1, 3, 6 and 7 are reserved
abbrev pub class_role : ℕ → Role
class_role class = if (class == 2) || ((class == 4) || (class == 5)) then Response else Reserved

-- By type and code. A Reset is ignored whatever its code, and so is an acknowledgement with the code of a request
-- or with none; 0.00 is the code of an empty message.
abbrev pub role_of : Kind → ℕ → Role
role_of Rst code = Ignored
role_of Con code = if code == 0 then Probe else if nat_lt code 32 then Request else class_role (code / 32)
role_of Non code = if code == 0 then Ignored else if nat_lt code 32 then Request else class_role (code / 32)
role_of Ack code = if nat_lt code 32 then Ignored else class_role (code / 32)

abbrev pub RoleMeans : Role → MessageContent → Asked → Type 0
RoleMeans Ignored m asked = asked ≡ Ignore
RoleMeans Probe m asked = asked ≡ Ping
RoleMeans Request m asked = MeansBy steps m asked
RoleMeans Response m asked = ResponseMeans m asked
RoleMeans Reserved m asked = asked ≡ Reject

-- what the message means
abbrev pub Means : MessageContent → Asked → Type 0
Means m asked = RoleMeans (role_of m.kind m.code) m asked

-- an SMS number, an object list or an attribute is given
abbrev pub GivesText : GivenSettings → Type 0
GivesText settings = IsSome settings.sms ⊎ (IsSome settings.objects ⊎ (settings.attributes ≢ []))

-- it owns a text or bytes
abbrev pub Owns : Asked → Type 0
Owns (Register endpoint version queue settings) = Unit {0}
Owns (Update id settings) = GivesText settings
Owns (Deregister id) = ⊥
Owns (Report report) = Unit {0}
Owns Ping = ⊥
Owns (Refuse refusal) = ⊥
Owns Reject = ⊥
Owns Ignore = ⊥

-- the message means something that owns a text or bytes
abbrev pub MeansOwned : MessageContent → Type 0
MeansOwned m = (asked : Asked) × Means m asked × Owns asked
