use Rattle.std.proofs.Common.{◌≡◌, ◌+◌, ◌++◌, ◌∷◌, [], length, ap, ◌∙◌, arith, sym, subst}
use Rattle.std.proofs.lemmas.List.{length_push}
use Rattle.lw_api.specs.NotificationBuffer.{HasRoom, NotificationBufferContent, next_of}
use Rattle.lw_api.proofs.NoticeLemmas.{room_shrinks}
use Rattle.lw_api.proofs.notification_buffer.NotificationBuffer.push.Goals as goal

pub invariant_of-self : goal.invariant_of-self
invariant_of-self c =
    let list = c.self.inside.list.items in
    let count : length c.push_reserved.new.self.items ≡ length list + 1 = ap length c.push_reserved.ensures.items ∙ length_push list c.args.notification in
    let place : length list ≡ length c.make_way.new.self.list = ap (λ (n : NotificationBufferContent). length n.list) c.self.view_is in
    let next : c.self.inside.first + length list ≡ next_of c.args.self.now = ap next_of c.self.view_is ∙ c.make_way.ensures.next in
    let room = c.make_way.ensures.room.0 in
    let numbers = c.requires.numbers in
    (omega (arith, count, place, room), omega (arith, count, next, numbers))

pub returns-clause-room : goal.returns-clause-room
returns-clause-room c = λ more room.
    let kept = c.self.view_is ∙ c.make_way.ensures.kept in
    let notification = c.args.notification in
    subst (λ (n : NotificationBufferContent). HasRoom n more)
    (sym (λ k. record {
      first = ap (λ (n : NotificationBufferContent). n.first) kept k;
      list = (c.push_reserved.ensures.items
          ∙ ap (λ (n : NotificationBufferContent). n.list ++ notification ∷ []) kept) k;
      capacity = (c.push_reserved.ensures.capacity ∙ ap (λ (n : NotificationBufferContent). n.capacity) kept) k;
    }))
    (room_shrinks c.args.self.now notification more room)
