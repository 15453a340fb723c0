-- What a queue keeps in its lanes, and what a put and a take make of it.
use Rattle.std.specs.Prelude.{◌≡◌, ℕ, ◌+◌, ◌*◌, Bool, false, cond, ◌&&◌, List, [], ◌∷◌, ◌++◌, map, length}
use Rattle.std.specs.Prelude.{nat_lt, slice_index_or}
use Rattle.arrayvec.specs.ArrayVec.{ArrayVec}
use Rattle.medium.specs.Calls.{Rules, rules_of}
use Rattle.medium.specs.Lanes.{Lanes, appended, is_lane, shortened}
use Rattle.medium.specs.Puts.{Puts, Takes}
use Rattle.medium.specs.declared.frame.Frame.{Frame}
use Rattle.medium.specs.declared.queue.Queue.{Queue}

-- the frames that wait in one lane
abbrev pub frames_in : ArrayVec Frame → List Frame
frames_in l = l.items

-- a lane with the frame behind the others where there is room, else as it was
abbrev pub pushed_lane : Bool → Frame → List Frame → List Frame
pushed_lane room f fs = cond room (fs ++ f ∷ []) fs

-- 64 lists as lanes: the lane from p to q stands at 8 p + q
abbrev pub lanes_of : List (List Frame) → Lanes
lanes_of lists p q = cond (is_lane p q) (slice_index_or lists (8 * p + q) []) []

-- the frames that wait in a table of 64 lanes
abbrev pub table_lanes : List (ArrayVec Frame) → Lanes
table_lanes ls = lanes_of (map frames_in ls)

-- the frames that wait in a queue
abbrev pub queue_lanes : Queue → Lanes
queue_lanes s = table_lanes s.lanes

-- a queue appends one frame, or none where there is no such lane or 8 frames wait
abbrev pub queue_count : Lanes → ℕ → ℕ → ℕ
queue_count lanes from to = cond (is_lane from to && nat_lt (length (lanes from to)) 8) 1 0

-- without a lane nothing of a queue changes
abbrev pub OutsideKept : Queue → ℕ → ℕ → Queue → Type 0
OutsideKept s from to t = is_lane from to ≡ false → t ≡ s

-- a put to a queue appends and answers that number; one that appends none leaves the queue as it was
abbrev pub queue_puts : Puts Queue
queue_puts s from to f k t =
    (k ≡ queue_count (queue_lanes s) from to)
    × (queue_lanes t ≡ appended (queue_lanes s) from to f k)
    × (k ≡ 0 → t.lanes ≡ s.lanes)
    × OutsideKept s from to t

-- a take from a queue removes the oldest frame
abbrev pub queue_takes : Takes Queue
queue_takes s from to t = (queue_lanes t ≡ shortened (queue_lanes s) from to) × OutsideKept s from to t

-- the rules of a queue
abbrev pub queue_rules : Rules Queue
queue_rules = rules_of queue_lanes queue_takes queue_puts
