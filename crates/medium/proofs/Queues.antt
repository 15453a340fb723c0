-- What waits in a queue is all that later calls can see of it.
use Rattle.std.specs.Prelude.{◌≡◌, ℕ, true, cond, ◌&&◌, [], length, nat_lt}
use Rattle.std.proofs.Common.{sym, ap, ap₂, ◌∙◌, arith}
use Rattle.medium.specs.Calls.{Call, take_call, put_call, Leads, LooksLike, LooksLikeEachEmpty, FillsEmptyLanes}
use Rattle.medium.specs.Held.{queue_count, queue_lanes, queue_rules}
use Rattle.medium.specs.Lanes.{Lanes, appended, empty_lanes, is_lane, shortened}
use Rattle.medium.specs.declared.queue.Queue.{Queue}
use Rattle.medium.proofs.Alike.{alike}

-- one call of both leaves the same frames in both
kept : (c : Call) (d e d' e' : Queue) → queue_lanes d ≡ queue_lanes e → Leads queue_rules c d d'
    → Leads queue_rules c e e' → queue_lanes d' ≡ queue_lanes e'
kept (take_call from to) d e d' e' same (after, _) (after', _) =
    after ∙ ap (λ l. shortened l from to) same ∙ sym after'
kept (put_call from to f) d e d' e' same (k, after, (count, _, _, _)) (k', after', (count', _, _, _)) =
    let as_many : k ≡ k' = count ∙ ap (λ l. queue_count l from to) same ∙ sym count' in
    after ∙ ap₂ (λ l n. appended l from to f n) same as_many ∙ sym after'

-- queues with the same frames in each lane look alike
pub queues_alike : (d e : Queue) → queue_lanes d ≡ queue_lanes e → LooksLike queue_rules d queue_rules e
queues_alike = alike queue_rules queue_rules (λ d e. queue_lanes d ≡ queue_lanes e) (λ d e same. same) kept

pub empty_alike : (d : Queue) → queue_lanes d ≡ empty_lanes → LooksLikeEachEmpty queue_rules d
empty_alike d none e none' = queues_alike d e (none ∙ sym none')

-- an empty lane has room
room_for_one : (l : Lanes) (from to : ℕ) → is_lane from to ≡ true → l from to ≡ [] → queue_count l from to ≡ 1
room_for_one l from to here none = ap₂ (λ b fs. cond (b && nat_lt (length fs) 8) 1 0) here none

pub queues_fill : FillsEmptyLanes queue_rules
queues_fill d e from to f k here none (count, _, _, _) =
    let one = room_for_one (queue_lanes d) from to here none in
    λ zero. omega (arith, count, one, zero)
