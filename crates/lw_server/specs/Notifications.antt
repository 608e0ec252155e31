-- What devices told of what is observed (RFC 7641, sections 3.4 and 4.5).
use Rattle.std.specs.Prelude.{◌≡◌, ℕ, ◌⊎◌, Bool, true, false, [], Option, None, Some, if◌then◌else◌}
use Rattle.lw_stamp.specs.declared.moment.Moment.{Moment}
use Rattle.lw_stamp.specs.declared.stamp.Stamp.{Stamp}
use Rattle.lw_api.specs.NotificationBuffer.{NotificationBufferContent, with_notification}
use Rattle.lw_call.specs.Contents.{NoticeContent}
use Rattle.lw_messaging.specs.Freshness.{Kept, is_newer, noted, with_room, without}
use Rattle.lw_metrics.specs.Counting.{one_more}

pub record NotificationsContent : Type 0 where
  pub buffer : NotificationBufferContent  -- the last that were told
  pub freshness : Kept  -- the newest number of each observation
  pub stale : ℕ  -- how many notifications were older than one before, and were not told

abbrev pub new_notifications : NotificationsContent
new_notifications = record {
  buffer = record { first = 0; list = []; capacity = 0 };
  freshness = [];
  stale = 0;
}

-- the same, with memory for so many notices
abbrev pub with_capacity : NotificationsContent → ℕ → NotificationsContent
with_capacity told capacity = record told { buffer = record (told.buffer) { capacity = capacity } }

-- ---- which notice is newer (RFC 7641, section 3.4)
-- the Observe number by which it is compared; what ends the observation is compared by none (section 4.2)
abbrev pub number_of : NoticeContent → Option ℕ
number_of notice = if notice.ended then None else notice.observe

-- what has no number is newer than all before
abbrev pub is_newer_by : Kept → Moment → Stamp → Option ℕ → Bool
is_newer_by kept now token None = true
is_newer_by kept now token (Some number) = is_newer kept now token number

abbrev pub is_newer_notice : Kept → Moment → NoticeContent → Bool
is_newer_notice kept now notice = is_newer_by kept now notice.token (number_of notice)

-- Its number is noted; where there is no memory for that, those that are old may have gone. Behind what has no number,
-- nothing is kept of the observation.
abbrev pub IsNumberNoted : Kept → Moment → Stamp → Option ℕ → Kept → Type 0
IsNumberNoted old now token None new = new ≡ without old token
IsNumberNoted old now token (Some number) new =
    (new ≡ noted old now token number) ⊎ (new ≡ with_room old now token)

-- ---- what is told
-- a notice is put behind the others, and its number is noted
pub record IsPut (now : Moment) (notice : NoticeContent) (is_complete : Bool)
    (old new : NotificationsContent) : Type 0 where
  pub buffer : new.buffer ≡ with_notification old.buffer (record { notice = notice; is_complete = is_complete })
  pub freshness : IsNumberNoted old.freshness now notice.token (number_of notice) new.freshness
  pub stale : new.stale ≡ old.stale

-- if it is newer; else it is counted, and nothing else changes
abbrev pub IsPutIf : Bool → Moment → NoticeContent → Bool → NotificationsContent → NotificationsContent → Type 0
IsPutIf true now notice is_complete old new = IsPut now notice is_complete old new
IsPutIf false now notice is_complete old new = new ≡ record old { stale = one_more old.stale }

abbrev pub IsPublished : Moment → NoticeContent → Bool → NotificationsContent → NotificationsContent → Type 0
IsPublished now notice is_complete old new =
    IsPutIf (is_newer_notice old.freshness now notice) now notice is_complete old new

-- a notice is told, if there is one
abbrev pub IsPublishedIf : Moment → Option NoticeContent → Bool → NotificationsContent → NotificationsContent → Type 0
IsPublishedIf now None is_complete old new = new ≡ old
IsPublishedIf now (Some notice) is_complete old new = IsPublished now notice is_complete old new
