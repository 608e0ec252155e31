use Rattle.std.proofs.Common.{arith, ◌≡◌, List, refl, sym, ap, ◌∙◌, inl, inr}
use Rattle.lw_coap.specs.Message.{OptionContent, MessageContent}
use Rattle.lw_request.specs.Options.{values_of}
use Rattle.lw_request.specs.Steps.{IsDirectory, IsEntry, path_steps, post_steps}
use Rattle.lw_request.specs.Meaning.{MeansBy}
use Rattle.lw_request.proofs.Paths.{directory_known, entry_known, post_allowed, no_entry}
use Rattle.lw_request.proofs.Meanings.{understands_as, deregister_asks}
use Rattle.lw_request.proofs.understanding.understand_recognised.Goals as goal

pub returns-in-2 : goal.returns-in-2
returns-in-2 c =
    let m = c.args.request.now in
    let path = ap (λ (os : List OptionContent). values_of 11 os) (ap (λ (m : MessageContent). m.options) c.request.view_is) in
    let directory : IsDirectory m = sym path ∙ c.is_directory.ensures.0 c.if-is_directory.true in
    let post = sym (ap (λ (m : MessageContent). m.code) c.request.view_is) ∙ c.in-2.is in
    understands_as (MeansBy post_steps m) (MeansBy path_steps m) c.register.result (λ asked h. inr (directory_known m directory, inr (post_allowed m post, h))) c.register.ensures

pub returns-in_default-entry_of : goal.returns-in_default-entry_of
returns-in_default-entry_of c =
    let m = c.args.request.now in
    let path = ap (λ (os : List OptionContent). values_of 11 os) (ap (λ (m : MessageContent). m.options) c.request.view_is) in
    inl ((no_entry m c.request.inside.options c.is_directory.result path c.is_directory.ensures c.if-is_directory.false c.in_default-entry_of.ensures), refl)

pub update-requires-clause-form : goal.update-requires-clause-form
update-requires-clause-form c =
    let path = ap (λ (os : List OptionContent). values_of 11 os) (ap (λ (m : MessageContent). m.options) c.request.view_is) in
    (sym path ∙ (c.in-Some.ensures c.in-Some.segment.now).0 refl, sym (ap (λ (m : MessageContent). m.code) c.request.view_is) ∙ c.in-2-code.is)

pub returns-in-2-code : goal.returns-in-2-code
returns-in-2-code c =
    let m = c.args.request.now in
    let path = ap (λ (os : List OptionContent). values_of 11 os) (ap (λ (m : MessageContent). m.options) c.request.view_is) in
    let entry : IsEntry m c.in-Some.segment.now = sym path ∙ (c.in-Some.ensures c.in-Some.segment.now).0 refl in
    let post = sym (ap (λ (m : MessageContent). m.code) c.request.view_is) ∙ c.in-2-code.is in
    understands_as (MeansBy post_steps m) (MeansBy path_steps m) c.update.result (λ asked h. inr (entry_known m c.in-Some.segment.now entry, inr (post_allowed m post, h))) c.update.ensures

pub returns-in-4 : goal.returns-in-4
returns-in-4 c =
    let m = c.args.request.now in
    let path = ap (λ (os : List OptionContent). values_of 11 os) (ap (λ (m : MessageContent). m.options) c.request.view_is) in
    let entry : IsEntry m c.in-Some.segment.now = sym path ∙ (c.in-Some.ensures c.in-Some.segment.now).0 refl in
    deregister_asks m c.in-Some.segment.now c.read_id.result (entry, sym (ap (λ (m : MessageContent). m.code) c.request.view_is) ∙ c.in-4.is) c.read_id.ensures

pub returns-in_default-code : goal.returns-in_default-code
returns-in_default-code c =
    let m = c.args.request.now in
    let path = ap (λ (os : List OptionContent). values_of 11 os) (ap (λ (m : MessageContent). m.options) c.request.view_is) in
    let entry : IsEntry m c.in-Some.segment.now = sym path ∙ (c.in-Some.ensures c.in-Some.segment.now).0 refl in
    let code : c.request.inside.code ≡ m.code = ap (λ (m : MessageContent). m.code) c.request.view_is in
    inr (entry_known m c.in-Some.segment.now entry, inl (inr (c.in-Some.segment.now, entry, (λ post. omega (arith, code, post)), (λ delete. omega (arith, code, delete))), refl))
