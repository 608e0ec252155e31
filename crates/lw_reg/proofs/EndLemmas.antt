-- What is known of a registration that is over up to a stamp.
use Rattle.std.proofs.Common.{◌≡◌, ◌∙◌, Bool, true, false, cond, Option, Some, None, refl, sym, ap, subst}
use Rattle.std.specs.Cmp.{tied_itself}
use Rattle.std.specs.Ordering.{MatchOrdering, is_gt, match_ordering}
use Rattle.lw_stamp.specs.StampOrder.{stamp_cmp}
use Rattle.lw_stamp.specs.declared.moment.Moment.{Moment}
use Rattle.lw_stamp.specs.declared.stamp.Stamp.{Stamp}
use Rattle.lw_stamp.proofs.StampLemmas.{stamp_order}
use Rattle.lw_join.specs.Once.{once_below, once_join}
use Rattle.lw_join.specs.OrGone.{gone_below, gone_join}
use Rattle.lw_join.specs.declared.once.Once.{Once}
use Rattle.lw_join.specs.declared.or_gone.OrGone.{OrGone}
use Rattle.lw_join.specs.declared.or_gone.OrGone.TheVariants.{Here, Gone}
use Rattle.lw_reg.specs.declared.body.Body.{Body}
use Rattle.lw_reg.specs.declared.slot.Slot.{Slot}
use Rattle.lw_reg.specs.Body.{BodyBelow, body_join, ended_alone}
use Rattle.lw_reg.specs.Reading.{lasting, ended_of, seen_of, stamp_of}
use Rattle.lw_reg.specs.Slot.{slot_below, slot_join, slot_at, ending}
use Rattle.lw_reg.proofs.NothingLemmas.{nothing_right}

-- ---- what is known
abbrev pub with_end : Body → Once Stamp → Body
with_end b ended = record { base = b.base; address = b.address; seen = b.seen; lifetime = b.lifetime; binding = b.binding; sms = b.sms; objects = b.objects; ended = ended; maps = b.maps }

abbrev pub ended_with : Body → Stamp → Once Stamp
ended_with b upto = once_join stamp_cmp b.ended (record { value = Some upto })

-- all but the end is joined to nothing
pub end_joined : (b : Body) (upto : Stamp) → body_join b (ended_alone upto) ≡ with_end b (ended_with b upto)
end_joined b upto =
    let same = nothing_right b in
    λ i. record {
      base = (same i).base;
      address = (same i).address;
      seen = (same i).seen;
      lifetime = (same i).lifetime;
      binding = (same i).binding;
      sms = (same i).sms;
      objects = (same i).objects;
      ended = ended_with b upto;
      maps = (same i).maps;
    }

one_write : (o : Option (Stamp × Moment)) (x y : Stamp × Moment) → o ≡ Some x → o ≡ Some y → x.0 ≡ y.0
one_write None x y e f = absurd cc
one_write (Some w) x y e f = let same : x ≡ y = cc in ap (λ (v : Stamp × Moment). v.0) same

-- a body is over up to the stamp of what was seen
pub lifted : (b : Body) (ended : Once Stamp) (x y : Stamp × Moment) → b.seen.write ≡ Some x → ended ≡ ended_with b x.0 → b.seen.write ≡ Some y → with_end b ended ≡ body_join b (ended_alone y.0)
lifted b ended x y seen is other = ap (with_end b) (is ∙ ap (ended_with b) (one_write b.seen.write x y seen other)) ∙ sym (end_joined b y.0)

-- what lasts was seen, and above each stamp up to which that is over
pub lasting_some : (o : Option Stamp) (s : Option (Stamp × Moment)) (w : Stamp × Moment) → lasting o s ≡ Some w → (s ≡ Some w) × ((t : Stamp) → o ≡ Some t → is_gt (stamp_cmp w.0 t) ≡ true)
lasting_some None s w h = (h, λ t e. absurd cc)
lasting_some (Some upto) None w h = absurd cc
lasting_some (Some upto) (Some v) w h = go (is_gt (stamp_cmp v.0 upto)) refl h
  where
    go : (b : Bool) → is_gt (stamp_cmp v.0 upto) ≡ b → cond b (Some v) None ≡ Some w → (Some v ≡ Some w) × ((t : Stamp) → Some upto ≡ Some t → is_gt (stamp_cmp w.0 t) ≡ true)
    go true e k = (k, λ t same. above t (cc) (cc))
      where
        above : (t : Stamp) → v ≡ w → upto ≡ t → is_gt (stamp_cmp w.0 t) ≡ true
        above t p q = (λ i. is_gt (stamp_cmp (sym p i).0 (sym q i))) ∙ e
    go false e k = absurd cc

-- ---- slots
-- the join of slots of one registration
pub join_at : (r : Stamp) (x y : OrGone Body) → slot_join (slot_at r x) (slot_at r y) ≡ slot_at r (gone_join body_join x y)
join_at r x y = ap (λ (p : Stamp × OrGone Body). slot_at p.0 p.1) (ap (λ o. match_ordering {X = Stamp × OrGone Body} o (r, y) (r, gone_join body_join x y) (r, x)) (tied_itself stamp_order.total r))

-- the slot of a registration that was not removed, with its end
pub ending_joined : (r : Stamp) (b : Body) (upto : Stamp) → slot_join (slot_at r (Here b)) (ending r upto) ≡ slot_at r (Here (with_end b (ended_with b upto)))
ending_joined r b upto = join_at r (Here b) (Here (ended_alone upto)) ∙ ap (λ (x : Body). slot_at r (Here x)) (end_joined b upto)

end_moves : (o : Option Stamp) (s : Option (Stamp × Moment)) (w : Stamp × Moment) → lasting o s ≡ Some w → ¬ once_below stamp_cmp (record { value = Some w.0 }) (record { value = o })
end_moves None s w h below = below
end_moves (Some t) s w h below =
    let above = (lasting_some (Some t) s w h).1 t refl in
    cc

body_moves : (x : OrGone Body) (r : Stamp) (w : Stamp × Moment) → lasting (ended_of (slot_at r x)) (seen_of (slot_at r x)) ≡ Some w → ¬ gone_below BodyBelow (Here (ended_alone w.0)) x
body_moves Gone r w h below = absurd cc
body_moves (Here b) r w h below = end_moves b.ended.value b.seen.write w h below.ended

-- the end of a registration that was not over is not known to its slot
pub ending_moves : (slot : Slot) (w : Stamp × Moment) → lasting (ended_of slot) (seen_of slot) ≡ Some w → ¬ slot_below (ending (stamp_of slot) w.0) slot
ending_moves slot w h below = body_moves slot.registration.value slot.registration.stamp w h
    (subst (λ o. MatchOrdering o (Unit {0}) (gone_below BodyBelow (Here (ended_alone w.0)) slot.registration.value) ⊥) (tied_itself stamp_order.total slot.registration.stamp) below)
