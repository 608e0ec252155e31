-- What a report says, without where it lies in memory (RFC 7641, section 3; RFC 7252, section 5.2).
use Rattle.std.specs.Prelude.{ℕ, List, Option}
use Rattle.lw_coap.specs.declared.message.Kind.{Kind}
use Rattle.lw_coap.specs.Message.{MessageContent}
use Rattle.lw_request.specs.Options.{content_format, observe_number}

-- type, message ID, token, code and payload of the message, the number of its Observe option and that of its
-- Content-Format
pub record ReportContent : Type 0 where
  pub kind : Kind
  pub mid : ℕ
  pub token : List ℕ
  pub code : ℕ
  pub observe : Option ℕ
  pub format : Option ℕ
  pub payload : List ℕ

abbrev pub report_of : MessageContent → ReportContent
report_of m = record {
  kind = m.kind;
  mid = m.mid;
  token = m.token;
  code = m.code;
  observe = observe_number m.options;
  format = content_format m.options;
  payload = m.payload;
}
