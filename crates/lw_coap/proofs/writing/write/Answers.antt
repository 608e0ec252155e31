use Rattle.std.proofs.Common.{◌≡◌, ℕ, List, [], ◌++◌, ap, append_assoc}
use Rattle.lw_coap.specs.Message.{OptionContent, MessageContent}
use Rattle.lw_coap.specs.inner.Writing.{options_bytes, payload_bytes, header_bytes, message_bytes}
use Rattle.lw_coap.proofs.writing.write.Goals as goal

-- the parts of a message, one after another
joined : (m : MessageContent) (nothing header token options whole t p : List ℕ) (o : List OptionContent) → t ≡ m.token → o ≡ m.options → p ≡ m.payload → nothing ≡ []
    → header ≡ nothing ++ header_bytes m → token ≡ header ++ t → options ≡ token ++ options_bytes 0 o → whole ≡ options ++ payload_bytes p → whole ≡ message_bytes m
joined m nothing header token options whole t p o ht ho hp a b c d e =
    rw (e, d, c, b, a, ht, ho, hp) (ap (λ (x : List ℕ). header_bytes m ++ x) (append_assoc m.token (options_bytes 0 m.options) (payload_bytes m.payload)))

pub returns : goal.returns
returns c =
    joined c.args.message.now _ _ _ _ _ _ _ _ (ap (λ (m : MessageContent). m.token) c.message.view_is)
    (ap (λ (m : MessageContent). m.options) c.message.view_is)
    (ap (λ (m : MessageContent). m.payload) c.message.view_is)
    c.in_ok-out.ensures.items c.in_ok-put_header.ensures c.in_ok-extend_from_slice.ensures.items c.in_ok-put_options.ensures c.in_ok-put_payload.ensures
