use Rattle.std.proofs.Common.{◌++◌, encode_utf8, string_bytes, ap, sym, ◌∙◌, arith}
use Rattle.lw_metrics.specs.Exposition.{escaped}
use Rattle.lw_metrics.proofs.EscapeLemmas.{escaped-backslash, escaped-quote, escaped-line_feed, escaped-plain}
use Rattle.lw_metrics.proofs.escaping.put_character.Goals as goal

pub returns-in_ok-push_str-in-92 : goal.returns-in_ok-push_str-in-92
returns-in_ok-push_str-in-92 c =
    let is = ap (λ x. escaped (encode_utf8 x)) c.in-92.is ∙ escaped-backslash in
    c.in_ok-push_str-in-92.ensures.bytes ∙ ap (λ s. string_bytes c.args.text.now ++ s) (sym is)

pub returns-in_ok-push_str-in-34 : goal.returns-in_ok-push_str-in-34
returns-in_ok-push_str-in-34 c =
    let is = ap (λ x. escaped (encode_utf8 x)) c.in-34.is ∙ escaped-quote in
    c.in_ok-push_str-in-34.ensures.bytes ∙ ap (λ s. string_bytes c.args.text.now ++ s) (sym is)

pub returns-in_ok-push_str-in-10 : goal.returns-in_ok-push_str-in-10
returns-in_ok-push_str-in-10 c =
    let is = ap (λ x. escaped (encode_utf8 x)) c.in-10.is ∙ escaped-line_feed in
    c.in_ok-push_str-in-10.ensures.bytes ∙ ap (λ s. string_bytes c.args.text.now ++ s) (sym is)

pub returns-in_ok-push-in_default : goal.returns-in_ok-push-in_default
returns-in_ok-push-in_default c =
    let is = escaped-plain c.args.character (λ e. omega arith) (λ e. omega arith) (λ e. omega arith) in
    c.in_ok-push-in_default.ensures.bytes ∙ ap (λ s. string_bytes c.args.text.now ++ s) (sym is)
