use Rattle.std.proofs.Common.{◌≡◌, ◌+◌, ◌-◌, length, ap, ◌∙◌, arith, length-drop}
use Rattle.lw_api.specs.NotificationBuffer.{NotificationBufferContent, next_of}
use Rattle.lw_api.proofs.notification_buffer.NotificationBuffer.make_way.Goals as goal

pub invariant_of-self : goal.invariant_of-self
invariant_of-self c =
    let list = c.self.inside.list.items in
    let count : length c.drop-drain.new.self.0.items ≡ length list - 5000 = ap length (c.drop-drain.ensures.items ∙ c.drain.ensures.kept) ∙ length-drop 5000 list in
    let most = c.self.invariant.0 in
    let next = c.self.invariant.1 in
    let full = c.if-len-ge-MAX_NOTIFICATIONS.true in
    let len = c.len.ensures in
    (omega (arith, count, most), omega (arith, count, next, full, len))

pub returns-then-len-ge-MAX_NOTIFICATIONS-clause-room : goal.returns-then-len-ge-MAX_NOTIFICATIONS-clause-room
returns-then-len-ge-MAX_NOTIFICATIONS-clause-room c =
    let list = c.self.inside.list.items in
    let count : length c.drop-drain.new.self.0.items ≡ length list - 5000 = ap length (c.drop-drain.ensures.items ∙ c.drain.ensures.kept) ∙ length-drop 5000 list in
    let capacity = c.drop-drain.ensures.capacity ∙ c.drain.ensures.capacity in
    let most = c.self.invariant.0 in
    let place = ap (λ (n : NotificationBufferContent). length n.list) c.self.view_is in
    let room = ap (λ (n : NotificationBufferContent). n.capacity) c.self.view_is in
    let memory = c.requires.memory in
    let full = c.if-len-ge-MAX_NOTIFICATIONS.true in
    let len = c.len.ensures in
    (omega (arith, count, most), omega (arith, count, capacity, place, room, memory, full, len))

pub returns-then-len-ge-MAX_NOTIFICATIONS-clause-next : goal.returns-then-len-ge-MAX_NOTIFICATIONS-clause-next
returns-then-len-ge-MAX_NOTIFICATIONS-clause-next c =
    let list = c.self.inside.list.items in
    let count : length c.drop-drain.new.self.0.items ≡ length list - 5000 = ap length (c.drop-drain.ensures.items ∙ c.drain.ensures.kept) ∙ length-drop 5000 list in
    let next : c.self.inside.first + length list ≡ next_of c.args.self.now = ap next_of c.self.view_is in
    let full = c.if-len-ge-MAX_NOTIFICATIONS.true in
    let len = c.len.ensures in
    omega (arith, count, next, full, len)
