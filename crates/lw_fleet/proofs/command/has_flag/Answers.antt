use Rattle.std.proofs.Common.{◌≡◌, ◌↔◌, Bool, true, false, Option, Some, None, IsTrue, codes, refl, ap, sym, subst, ◌∙◌}
use Rattle.std.specs.Prelude.{unwrap_or}
use Rattle.std.specs.Str.Parse.{ParsesBool}
use Rattle.clap.specs.Words.{ReadsOne, Text, found_of, one_of, one_text}
use Rattle.clap.proofs.WalkLemmas.{one_text-rows}
use Rattle.lw_fleet.proofs.CommandLemmas.{option_rows_are}
use Rattle.lw_fleet.proofs.command.has_flag.Goals as goal

-- the text that is read as `true` is that of a flag that is given
reads_true : (E : Type 0) (found : Option Bool) (text : Option Text) → (text ≡ None → found ≡ None)
    → ((t : Text) → text ≡ Some t → ReadsOne {E = E} ParsesBool t found) → IsTrue (unwrap_or found false) ↔ (text ≡ Some (codes "true"))
reads_true E None None none value = (λ h. cc, λ h. cc)
reads_true E (Some b) None none value = let clash = none refl in absurd cc
reads_true E (Some true) (Some t) none value = (λ h. ap Some (value t refl), λ h. refl)
reads_true E (Some false) (Some t) none value = (λ h. cc, λ h. let is = value t refl in cc)
reads_true E None (Some t) none value = (λ h. cc, λ h. absurd ((value t refl).1.0 cc))

pub returns-in-Some : goal.returns-in-Some
returns-in-Some c =
    let options = found_of c.in-Some.options.now in
    let name = c.args.option.now in
    let text = one_text-rows options name ∙ ap (one_of name) (option_rows_are _ _ c.in-Some.ensures.rows) in
    subst (λ (t : Option Text). IsTrue c.unwrap_or.result ↔ (t ≡ Some (codes "true"))) text
    (subst (λ (b : Bool). IsTrue b ↔ (one_text options name ≡ Some (codes "true"))) (sym c.unwrap_or.ensures)
    (reads_true _ c.get_one.result _ c.get_one.ensures.none c.get_one.ensures.value))
