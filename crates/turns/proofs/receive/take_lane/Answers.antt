-- Frame by frame, what is left of the lane grows shorter.
use Rattle.std.proofs.Common.{◌≡◌, ◌||◌, ◌∷◌, length, sym, ap, ◌∙◌, arith, rules}
use Rattle.protocol.specs.Frames.{some_item}
use Rattle.protocol.specs.Steps.{holdings, frames_step}
use Rattle.turns.proofs.Taking.{item_so_far, one_taken, same_emptied, none_left}
use Rattle.turns.proofs.Calling.{one_call_more}
use Rattle.turns.proofs.receive.take_lane.Goals as goal

pub loop-frame-preserved : goal.loop-frame-preserved
loop-frame-preserved g c =
    let link = c.args.link.now in
    let before = g.D.Medium.lanes c.loop-frame.medium in
    let rest = g.D.Medium.lanes c.take.new.self in
    let was = holdings c.loop-frame.table.links c.loop-frame.copies c.loop-frame.haul.accepted in
    let frame = c.in-Some.frame in
    let steps = frames_step g.E.Element.algebra link.ups.now link.downs.now link.to link.from in
    let v = c.loop-frame.invariant in
    let lane : before link.from link.to ≡ frame ∷ rest link.from link.to =
    one_taken before rest link.from link.to c.take.ensures.after frame (sym c.in-Some.is ∙ c.take.ensures.value) in
    record {
      held_so = ap (steps (rest link.from link.to)) c.take_frame.ensures.held ∙ sym (ap (λ l. steps l was) lane)
          ∙ v.held_so;
      lanes_so = same_emptied before rest link.from link.to c.take.ensures.after ∙ v.lanes_so;
      item_so = ap (λ b. (c.loop-frame.item || b) || some_item (rest link.from link.to)) c.is_some-item.ensures
          ∙ item_so_far c.loop-frame.item frame (rest link.from link.to)
          ∙ sym (ap (λ l. c.loop-frame.item || some_item l) lane)
          ∙ v.item_so;
      taken_so = omega (arith, ap length lane);
      got_so = c.take_frame.ensures.got ∙ v.got_so;
      calls = one_call_more _ _ _ _ v.calls (c.take.ensures.after, c.take.ensures.made) (omega arith);
      since = omega arith;
      short = v.short;
    }

pub returns-clause-lanes : goal.returns-clause-lanes
returns-clause-lanes g c = search (rules, none_left)
