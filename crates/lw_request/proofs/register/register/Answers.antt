use Rattle.std.proofs.Common.{◌≡◌, ◌≢◌, ℕ, List, Option, Some, sym, ap, subst, ◌∙◌}
use Rattle.std.specs.Prelude.{unwrap_or, option_copied, codes, IsTrue}
use Rattle.lw_coap.specs.Message.{OptionContent, MessageContent}
use Rattle.lw_reg.specs.declared.version.Version.{Version}
use Rattle.lw_reg.specs.Version.{version_text}
use Rattle.lw_request.specs.declared.asked.Asked.TheVariants.{Register}
use Rattle.lw_request.specs.Options.{values_of, has_unrecognised}
use Rattle.lw_request.specs.Queries.{given as given_to, GiveAttributes, HasBadQuery}
use Rattle.lw_request.specs.inner.Queries.{EachIsLookedAt, IsWithin}
use Rattle.lw_request.specs.Queries.Parameter.{Ep, Lwm2m, Sms}
use Rattle.lw_request.specs.Objects.{IsObjectList}
use Rattle.lw_request.specs.inner.Objects.{IsUnread}
use Rattle.lw_request.specs.Steps.{post_steps}
use Rattle.lw_request.specs.Meaning.{MeansBy}
use Rattle.lw_request.proofs.QueryLemmas.{endpoint_short, sms_short}
use Rattle.lw_request.proofs.Meanings.{settings_of, IsSpoken, understands_given, any_error, right_format, wrong_format, register_read, good_queries, register_bad, register_other, read_register_asks, register_unread}
use Rattle.lw_request.proofs.register.register.Goals as goal

pub returns-then-has_other_format : goal.returns-then-has_other_format
returns-then-has_other_format c =
    let same = ap (λ (m : MessageContent). m.options) c.request.view_is in
    wrong_format c.args.request.now c.request.inside.options c.has_other_format.result same c.has_other_format.ensures c.if-has_other_format.true c.requires.form.1

pub returns-in_default : goal.returns-in_default
returns-in_default c =
    let m = c.args.request.now in
    let same = ap (λ (m : MessageContent). m.options) c.request.view_is in
    register_bad m c.requires.form (right_format m c.request.inside.options c.has_other_format.result same c.has_other_format.ensures c.if-has_other_format.false)
    (subst (HasBadQuery EachIsLookedAt) (ap (values_of 15) same) c.in_default.ensures.err)

pub returns-in_default-version_in : goal.returns-in_default-version_in
returns-in_default-version_in c =
    let m = c.args.request.now in
    let q = c.in-Ok.queries in
    let e = c.in-Ok.ensures in
    let same = ap (λ (m : MessageContent). m.options) c.request.view_is in
    let read = register_read m _ c.has_other_format.result q.endpoint.now q.queue q.lifetime q.binding (option_copied q.sms) c.request.view_is c.requires.form c.has_other_format.ensures c.if-has_other_format.false
    (record { texts = e.texts; endpoint_is = e.endpoint.0; named = e.endpoint.1; queue_is = e.queue; lifetime_is = e.lifetime; binding_is = e.binding; sms_is = e.sms }) in
    register_other m read.form read.format (good_queries m q.endpoint.now q.queue q.lifetime q.binding (option_copied q.sms) read.queries)
    (subst (λ (o : Option (List ℕ)). (text : List ℕ) × (o ≡ Some text) × ((version : Version) → text ≢ version_text version)) (e.version ∙ ap (λ (os : List OptionContent). given_to Lwm2m (values_of 15 os)) same) c.in_default-version_in.ensures.none)

pub make-requires-clause-endpoint : goal.make-requires-clause-endpoint
make-requires-clause-endpoint c =
    let e = c.in-Ok.ensures in
    let same = ap (λ (m : MessageContent). m.options) c.request.view_is in
    let is = sym (ap (λ (os : List OptionContent). given_to Ep (values_of 15 os)) same) ∙ e.endpoint.0 in
    record { some = e.endpoint.1; most = endpoint_short c.args.request.now.options c.requires.recognised c.in-Ok.queries.endpoint.now is }

pub make-requires-clause-sms : goal.make-requires-clause-sms
make-requires-clause-sms c =
    let same = ap (λ (m : MessageContent). m.options) c.request.view_is in
    subst (IsWithin 251) (sym (c.in-Ok.ensures.sms ∙ ap (λ (os : List OptionContent). given_to Sms (values_of 15 os)) same)) (sms_short c.args.request.now.options c.requires.recognised)

pub returns-in-Ok-read_objects : goal.returns-in-Ok-read_objects
returns-in-Ok-read_objects c =
    let q = c.in-Ok.queries in
    let e = c.in-Ok.ensures in
    let read = register_read c.args.request.now _ c.has_other_format.result q.endpoint.now q.queue q.lifetime q.binding (option_copied q.sms) c.request.view_is c.requires.form c.has_other_format.ensures c.if-has_other_format.false
    (record { texts = e.texts; endpoint_is = e.endpoint.0; named = e.endpoint.1; queue_is = e.queue; lifetime_is = e.lifetime; binding_is = e.binding; sms_is = e.sms }) in
    let spoken = subst (IsSpoken c.in-Some.version) (ap (λ (m : MessageContent). m.options) c.request.view_is) (c.in-Some.ensures.some ∙ ap (λ (o : Option (List ℕ)). unwrap_or o (codes "1.0")) e.version) in
    let objects = subst (λ (bytes : List ℕ). IsObjectList bytes c.in-Ok-read_objects.objects) (ap (λ (m : MessageContent). m.payload) c.request.view_is) c.in-Ok-read_objects.ensures.found in
    let same = ap (λ (m : MessageContent). m.options) c.request.view_is in
    understands_given (MeansBy post_steps c.args.request.now) c.make.result (values_of 15 c.request.inside.options)
    (λ a. Register q.endpoint.now c.in-Some.version q.queue (settings_of q.lifetime q.binding (option_copied q.sms) c.in-Ok-read_objects.objects a)) (Unit {0})
    (λ a given. read_register_asks c.args.request.now q.endpoint.now c.in-Some.version q.queue q.lifetime q.binding (option_copied q.sms) c.in-Ok-read_objects.objects a read spoken objects
    (subst (λ (os : List OptionContent). GiveAttributes (values_of 15 os) a) same given))
    c.make.ensures (any_error c.make.result) (λ t. tt)

pub make-requires-clause-texts : goal.make-requires-clause-texts
make-requires-clause-texts c = c.in-Ok.ensures.texts

pub make-requires-clause-recognised : goal.make-requires-clause-recognised
make-requires-clause-recognised c =
    let same = ap (λ (m : MessageContent). m.options) c.request.view_is in
    subst (λ (os : List OptionContent). IsTrue (has_unrecognised os) → ⊥) (sym same) c.requires.recognised

pub returns-in-Err : goal.returns-in-Err
returns-in-Err c =
    let q = c.in-Ok.queries in
    let e = c.in-Ok.ensures in
    let read = register_read c.args.request.now _ c.has_other_format.result q.endpoint.now q.queue q.lifetime q.binding (option_copied q.sms) c.request.view_is c.requires.form c.has_other_format.ensures c.if-has_other_format.false
    (record { texts = e.texts; endpoint_is = e.endpoint.0; named = e.endpoint.1; queue_is = e.queue; lifetime_is = e.lifetime; binding_is = e.binding; sms_is = e.sms }) in
    let spoken = subst (IsSpoken c.in-Some.version) (ap (λ (m : MessageContent). m.options) c.request.view_is) (c.in-Some.ensures.some ∙ ap (λ (o : Option (List ℕ)). unwrap_or o (codes "1.0")) e.version) in
    let unread = subst (λ (bytes : List ℕ). IsUnread bytes c.in-Err.unread) (ap (λ (m : MessageContent). m.payload) c.request.view_is) c.in-Err.ensures.unread in
    register_unread c.args.request.now q.endpoint.now c.in-Some.version q.queue q.lifetime q.binding (option_copied q.sms) c.in-Err.unread c.asked.result read spoken unread c.asked.ensures
