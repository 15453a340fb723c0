-- What is left in the lane gives, from here, what the whole lane gives from the start.
use Rattle.std.proofs.Common.{◌≡◌, ◌+◌, ◌-◌, ◌≤◌, ◌||◌, length, replicate}
use Rattle.medium.specs.Calls.{Calls, rules_of, take_call}
use Rattle.protocol.specs.Frames.{some_item}
use Rattle.protocol.specs.Steps.{emptied, holdings, frames_step}
use Rattle.turns.proofs.receive.take_lane.Given as goal

abbrev pub invariant-loop-frame : goal.invariant-loop-frame
invariant-loop-frame g l =
    let q = l.link.from in
    let p = l.link.to in
    let was = g.D.Medium.lanes l.initial.medium in
    let now = g.D.Medium.lanes l.medium in
    let steps = frames_step g.E.Element.algebra l.link.ups.now l.link.downs.now p q in
    record {
      held_so : steps (now q p) (holdings l.table.links l.copies l.haul.accepted)
          ≡ steps (was q p) (holdings l.initial.table.links l.initial.copies l.initial.haul.accepted);
      lanes_so : emptied q p now ≡ emptied q p was;
      item_so : (l.item || some_item (now q p)) ≡ some_item (was q p);
      taken_so : l.haul.taken + length (now q p) ≡ l.initial.haul.taken + length (was q p);
      got_so : l.haul.got ≡ l.initial.haul.got;
      calls : Calls (rules_of g.D.Medium.lanes g.D.Medium.takes g.D.Medium.puts) l.initial.medium
          (replicate (l.haul.taken - l.initial.haul.taken) (take_call q p)) l.medium;
      since : l.initial.haul.taken ≤ l.haul.taken;
      short : length (was q p) ≤ 64;
    }

abbrev pub decreases-loop-frame : goal.decreases-loop-frame
decreases-loop-frame g l = length (g.D.Medium.lanes l.medium l.link.from l.link.to)
