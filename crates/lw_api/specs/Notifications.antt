-- What is told of what devices told of observations (RFC 7641, section 3), as a JSON text (RFC 8259).
use Rattle.std.specs.Prelude.{◌≡◌, ◌≢◌, ◌<◌, ◌≤◌, ℕ, ◌+◌, ◌-◌, List, [], ◌∷◌, ◌++◌, length, take, drop, Option, None, IfSome, codes}
use Rattle.std.specs.Fmt.{decimal}
use Rattle.serde_json.specs.Written.{compact_text}
use Rattle.lw_json.specs.Notifications.{NotificationContent, notifications_json}
use Rattle.lw_route.specs.declared.api.ApiResponse.{ApiResponse}
use Rattle.lw_route.specs.declared.api.Status.TheVariants as status
use Rattle.lw_api.specs.declared.answering.About.{About}
use Rattle.lw_api.specs.Answers.{IsJson}
use Rattle.lw_api.specs.NotificationBuffer.{BufferedNotificationContent, NotificationBufferContent}

-- each under its number, where the first has this one
abbrev pub numbered : ℕ → List BufferedNotificationContent → List NotificationContent
numbered number [] = []
numbered number (notification ∷ list) =
    record { number = number; notice = notification.notice; is_complete = notification.is_complete }
    ∷ numbered (number + 1) list

-- those from a number on, so many at most
abbrev pub page_from : NotificationBufferContent → ℕ → ℕ → List BufferedNotificationContent
page_from buffer from limit = take limit (drop (from - buffer.first) buffer.list)

-- the text of those from a number on, which is not below that of the first; the page behind goes on behind the last
abbrev pub page_text : NotificationBufferContent → About → ℕ → ℕ → List ℕ
page_text buffer about from limit = compact_text
    (notifications_json (numbered from (page_from buffer from limit)) (from + length (page_from buffer from limit))
    about.tag)

-- that the number is below that of the first
abbrev pub gone_text : ℕ → List ℕ
gone_text first = codes "{\"error\":\"gone\",\"first\":" ++ (decimal first ++ codes "}")

-- What devices told is told to who follows this start, or begins. What has gone is not.
pub record IsNotificationsAnswer (buffer : NotificationBufferContent) (about : About) (from : ℕ) (start : Option ℕ)
    (limit : ℕ) (answer : ApiResponse) : Type 0 where
  pub unsaid : start ≡ None → 0 < from → IsJson status.BadRequest (codes "{\"error\":\"start\"}") answer
  pub other : IfSome start (λ tag. tag ≢ about.tag → IsJson status.Gone (codes "{\"error\":\"gone\"}") answer)
  pub gone : (start ≡ None → from ≡ 0) → IfSome start (λ tag. tag ≡ about.tag) → from < buffer.first
      → IsJson status.Gone (gone_text buffer.first) answer
  pub told : (start ≡ None → from ≡ 0) → IfSome start (λ tag. tag ≡ about.tag) → buffer.first ≤ from
      → IsJson status.Ok (page_text buffer about from limit) answer
