use Rattle.std.proofs.Common.{◌≢◌, ◌⊎◌, Option, Some, None, Bor, ℕ, List, [], sym, ap, subst, ◌∙◌}
use Rattle.std.specs.Prelude.{option_copied, IsSome, IsTrue}
use Rattle.lw_coap.specs.Message.{OptionContent, MessageContent}
use Rattle.lw_request.specs.declared.asked.Asked.TheVariants.{Update}
use Rattle.lw_request.specs.Options.{values_of, has_unrecognised}
use Rattle.lw_request.specs.Queries.{given as given_to, GiveAttributes, HasBadQuery, IsOfUpdate}
use Rattle.lw_request.specs.inner.Queries.{GivesAttribute, IsWithin}
use Rattle.lw_request.specs.Queries.Parameter.{Sms}
use Rattle.lw_request.specs.inner.Objects.{IsUnread}
use Rattle.lw_request.specs.Steps.{post_steps}
use Rattle.lw_request.specs.Meaning.{AreObjects, MeansBy}
use Rattle.lw_request.proofs.QueryLemmas.{sms_short}
use Rattle.lw_request.proofs.Meanings.{given_of, understands_given, right_format, wrong_format, update_read, update_bad, read_update_asks, update_unread, owns_given}
use Rattle.lw_request.proofs.update.update.Goals as goal

pub returns-then-has_other_format : goal.returns-then-has_other_format
returns-then-has_other_format c =
    let same = ap (λ (m : MessageContent). m.options) c.request.view_is in
    wrong_format c.args.request.now c.request.inside.options c.has_other_format.result same c.has_other_format.ensures c.if-has_other_format.true c.requires.form.1

pub returns-in_default : goal.returns-in_default
returns-in_default c =
    let m = c.args.request.now in
    let same = ap (λ (m : MessageContent). m.options) c.request.view_is in
    update_bad m c.args.segment.now c.requires.form (right_format m c.request.inside.options c.has_other_format.result same c.has_other_format.ensures c.if-has_other_format.false)
    (subst (HasBadQuery IsOfUpdate) (ap (values_of 15) same) c.in_default.ensures.err)

pub make-requires-clause-sms : goal.make-requires-clause-sms
make-requires-clause-sms c =
    let same = ap (λ (m : MessageContent). m.options) c.request.view_is in
    subst (IsWithin 251) (sym (c.in-Ok.ensures.ok.sms_is ∙ ap (λ (os : List OptionContent). given_to Sms (values_of 15 os)) same)) (sms_short c.args.request.now.options c.requires.recognised)

pub returns-in-Ok-read_replacement : goal.returns-in-Ok-read_replacement
returns-in-Ok-read_replacement c =
    let m = c.args.request.now in
    let s = c.in-Ok.settings in
    let payload = ap (λ (m : MessageContent). m.payload) c.request.view_is in
    let read = update_read m _ c.args.segment.now c.has_other_format.result c.read_id-id.result s.lifetime s.binding (option_copied s.sms) c.request.view_is c.requires.form c.has_other_format.ensures c.if-has_other_format.false c.in-Ok.ensures.texts c.in-Ok.ensures.ok c.read_id-id.ensures in
    let o = c.in-Ok-read_replacement.objects in
    let objects = subst (λ (bytes : List ℕ). AreObjects bytes o) payload c.in-Ok-read_replacement.ensures.objects in
    let same = ap (λ (m : MessageContent). m.options) c.request.view_is in
    understands_given (MeansBy post_steps m) c.make.result (values_of 15 c.request.inside.options)
    (λ a. Update c.read_id-id.result (given_of s.lifetime s.binding (option_copied s.sms) o a)) (IsSome s.sms ⊎ GivesAttribute (values_of 15 c.request.inside.options))
    (λ a given. read_update_asks m c.args.segment.now c.read_id-id.result s.lifetime s.binding (option_copied s.sms) o a read objects
    (subst (λ (os : List OptionContent). GiveAttributes (values_of 15 os) a) same given))
    c.make.ensures.ok c.make.ensures.err (λ why. owns_given (values_of 15 c.request.inside.options) c.read_id-id.result s.lifetime s.binding (option_copied s.sms) o (copied_some s.sms why))
  where
    copied_some : {V : Type 0} (o : Option (Bor (List ℕ))) → IsSome o ⊎ V → IsSome (option_copied o) ⊎ V
    copied_some None h = h
    copied_some (Some text) h = h

pub make-requires-clause-texts : goal.make-requires-clause-texts
make-requires-clause-texts c = c.in-Ok.ensures.texts

pub make-requires-clause-recognised : goal.make-requires-clause-recognised
make-requires-clause-recognised c =
    let same = ap (λ (m : MessageContent). m.options) c.request.view_is in
    subst (λ (os : List OptionContent). IsTrue (has_unrecognised os) → ⊥) (sym same) c.requires.recognised

pub returns-in-Err : goal.returns-in-Err
returns-in-Err c =
    let m = c.args.request.now in
    let s = c.in-Ok.settings in
    let payload = ap (λ (m : MessageContent). m.payload) c.request.view_is in
    let read = update_read m _ c.args.segment.now c.has_other_format.result c.read_id-id.result s.lifetime s.binding (option_copied s.sms) c.request.view_is c.requires.form c.has_other_format.ensures c.if-has_other_format.false c.in-Ok.ensures.texts c.in-Ok.ensures.ok c.read_id-id.ensures in
    let unread = subst (λ (bytes : List ℕ). (bytes ≢ []) × IsUnread bytes c.in-Err.unread) payload c.in-Err.ensures.unread in
    update_unread m c.args.segment.now c.read_id-id.result s.lifetime s.binding (option_copied s.sms) c.in-Err.unread c.asked.result read unread c.asked.ensures
