-- What stays before one more notice is put behind the others, and the room that is left behind it.
use Rattle.std.proofs.Common.{◌≡◌, ℕ, ◌+◌, ◌-◌, ◌≤◌, Bool, true, false, if◌then◌else◌, nat_lt, List, [], ◌∷◌, ◌++◌, length, drop, refl, ap, arith, length-append, length-drop}
use Rattle.lw_api.specs.NotificationBuffer.{HasRoom, BufferedNotificationContent, NotificationBufferContent, first_kept, half, is_full, kept, next_of, with_notification}
use Rattle.lw_api.specs.Notifications.{numbered}

shorter : {A : Type 0} (full : Bool) (n : ℕ) (list : List A) → length (if full then drop n list else list) ≤ length list
shorter true n list = omega (arith, length-drop n list)
shorter false n list = omega arith

same_next : {A : Type 0} (full : Bool) (first n : ℕ) (list : List A) → (full ≡ true → n ≤ length list)
    → (if full then first + n else first) + length (if full then drop n list else list) ≡ first + length list
same_next true first n list enough = omega (arith, length-drop n list, enough refl)
same_next false first n list enough = refl

enough : (n count : ℕ) → nat_lt (n + n - 1) count ≡ true → n ≤ count
enough n count full = grind arith

pub kept_shorter : (buffer : NotificationBufferContent) → length (kept buffer) ≤ length buffer.list
kept_shorter buffer = shorter (is_full buffer) half buffer.list

pub next_stays : (buffer : NotificationBufferContent) → first_kept buffer + length (kept buffer) ≡ next_of buffer
next_stays buffer = same_next (is_full buffer) buffer.first half buffer.list (enough half (length buffer.list))

pub room_shrinks : (buffer : NotificationBufferContent) (notification : BufferedNotificationContent) (more : ℕ) → HasRoom buffer (more + 1) → HasRoom (with_notification buffer notification) more
room_shrinks buffer notification more room =
    let shorter = kept_shorter buffer in
    let next = next_stays buffer in
    let count : length (kept buffer ++ notification ∷ []) ≡ length (kept buffer) + 1 = length-append (kept buffer) (notification ∷ []) in
    let memory = room.memory in
    let numbers = room.numbers in
    record {
      memory = omega (arith, count, shorter, memory);
      numbers = omega (arith, count, next, numbers);
    }

-- one more behind others, under its number
pub numbered_more : (from number : ℕ) (list : List BufferedNotificationContent)
    (notification : BufferedNotificationContent) → number ≡ from + length list
    → numbered from (list ++ notification ∷ []) ≡ numbered from list ++ numbered number (notification ∷ [])
numbered_more from number [] notification is = ap (λ (n : ℕ). numbered n (notification ∷ [])) (omega (arith, is))
numbered_more from number (first ∷ list) notification is =
    ap (λ l. numbered from (first ∷ []) ++ l) (numbered_more (from + 1) number list notification (omega (arith, is)))
