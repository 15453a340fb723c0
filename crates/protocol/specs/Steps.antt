-- The steps that a turn's code makes, one frame, one lane, one board at a time; proofs/Receiving and proofs/Sending
-- show that together they are a turn.
use Rattle.std.specs.Prelude.{◌≡◌, ℕ, zero, suc, ◌+◌, ◌-◌, ◌*◌, ◌<◌, ◌≤◌, Bool, false, cond, ◌&&◌, ◌||◌, ◌≢◌, ◌⊎◌}
use Rattle.std.specs.Prelude.{List, [], ◌∷◌, ◌++◌, length, get_or, replicate, Some, None, ◌==◌, nat_lt}
use Rattle.std.specs.Prelude.{slice_index_or, slice_set}
use Rattle.element.specs.Algebra.{Algebra}
use Rattle.element.specs.declared.words.Words.{Words}
use Rattle.medium.specs.Lanes.{Lanes, same_lane}
use Rattle.medium.specs.declared.frame.Frame.{Frame}
use Rattle.plan.specs.Links.{shape, no_edge, edges_between}
use Rattle.plan.specs.declared.records.Edge.{Edge}
use Rattle.protocol.specs.declared.table.Link.{Link}
use Rattle.protocol.specs.Frames.{odd, brings, tells_of, words_of, some_item}
use Rattle.protocol.specs.Turns.{has_gathered, sum_others}
use Rattle.protocol.specs.Runs.{no_link, link_at, accepted_in}

-- edges that name copies, and are few
pub record Fit (ups downs : List Edge) (copies : ℕ) : Type 0 where
  pub up_leaves : (m : ℕ) → m < length ups → (get_or ups m no_edge).leaf < copies
  pub up_roots : (m : ℕ) → m < length ups → (get_or ups m no_edge).root < copies
  pub down_leaves : (m : ℕ) → m < length downs → (get_or downs m no_edge).leaf < copies
  pub down_roots : (m : ℕ) → m < length downs → (get_or downs m no_edge).root < copies
  pub few : length ups + length downs < 65536

-- what taking frames changes
pub record Held (M : Type 0) : Type 0 where
  pub links : List Link
  pub copies : List M
  pub accepted : ℕ

abbrev pub holdings : {M : Type 0} → List Link → List M → ℕ → Held M
holdings links copies accepted = record { links = links; copies = copies; accepted = accepted }

-- a link's record after one reply, and after one item
abbrev pub after_reply : ℕ → Frame → Link → Link
after_reply n f k = record { i = cond (tells_of n k.i f) (suc k.i) k.i; j = k.j }

abbrev pub after_item : ℕ → Frame → Link → Link
after_item n f k = record { i = k.i; j = cond (brings n k.j f) (suc k.j) k.j }

-- one record of the flat table lent and advanced
abbrev pub advanced : (Link → Link) → ℕ → List Link → List Link
advanced g k links = slice_set links k (g (slice_index_or links k no_link))

module _ {M : Type 0} (A : Algebra M) (ups downs : List Edge) where
  -- the copies after item j is accepted, of those that rise along `ups` and come down along `downs`
  abbrev pub accepted_copies : ℕ → Words → List M → List M
  accepted_copies j w cs = cond (nat_lt j (length ups))
      (slice_set cs (get_or ups j no_edge).root (A.join (slice_index_or cs (get_or ups j no_edge).root A.zero)
      (A.unpack w)))
      (slice_set cs (get_or downs (j - length ups) no_edge).leaf (A.unpack w))

  -- the value of item i, of those that rise along `ups` and come down along `downs`
  abbrev pub item_value : ℕ → List M → M
  item_value i cs = cond (nat_lt i (length ups))
      (slice_index_or cs (get_or ups i no_edge).leaf A.zero)
      (slice_index_or cs (get_or downs (i - length ups) no_edge).root A.zero)

  -- one frame from board q taken by board p: its reply, then its item
  abbrev pub frame_step : ℕ → ℕ → Frame → Held M → Held M
  frame_step p q f h =
      let n = length ups + length downs in
      let links = advanced (after_reply n f) (8 * p + q) h.links in
      let j = (get_or links (8 * q + p) no_link).j in
      record {
        links = advanced (after_item n f) (8 * q + p) links;
        copies = cond (brings n j f) (accepted_copies j (words_of f.item) h.copies) h.copies;
        accepted = cond (brings n j f) (suc h.accepted) h.accepted;
      }

  -- frames, oldest first
  abbrev pub frames_step : ℕ → ℕ → List Frame → Held M → Held M
  frames_step p q [] h = h
  frames_step p q (f ∷ fs) h = frames_step p q fs (frame_step p q f h)

-- no frame waits from q to p
abbrev pub emptied : ℕ → ℕ → Lanes → Lanes
emptied q p lanes a b = cond (same_lane q p a b) [] (lanes a b)

-- what receiving changes: counts, copies, lanes, frames taken, items accepted, and who sent an item
pub record Received (M : Type 0) : Type 0 where
  pub held : Held M
  pub lanes : Lanes
  pub taken : ℕ
  pub got : List Bool

abbrev pub received : {M : Type 0} → List Link → List M → ℕ → Lanes → ℕ → List Bool → Received M
received links copies accepted lanes taken got =
    record { held = holdings links copies accepted; lanes = lanes; taken = taken; got = got }

module _ {M : Type 0} (A : Algebra M) (edges : List Edge) where
  -- all frames that wait from board q, taken by board p
  abbrev pub lane_step : ℕ → ℕ → Received M → Received M
  lane_step p q r = record {
    held = frames_step A (edges_between edges q p) (edges_between edges p q) p q (r.lanes q p) r.held;
    lanes = emptied q p r.lanes;
    taken = r.taken + length (r.lanes q p);
    got = slice_set r.got q (some_item (r.lanes q p));
  }

  -- from every other board below k, ascending
  abbrev pub lanes_step : ℕ → ℕ → Received M → Received M
  lanes_step p zero r = r
  lanes_step p (suc k) r = cond (k == p) (lanes_step p k r) (lane_step p k (lanes_step p k r))

-- an item is sent: number i of those that rise along `ups` and come down along `downs`, the latter once all has
-- gathered
abbrev pub item_due : List Edge → List Edge → ℕ → Bool → Bool
item_due ups downs i all = nat_lt i (length ups + length downs) && (nat_lt i (length ups) || all)

-- the frame, i items being known to have arrived there and j having been accepted here
abbrev pub frame_due : {M : Type 0} → Algebra M → List Edge → List Edge → ℕ → ℕ → Bool → List M → Frame
frame_due A ups downs i j all cs = record {
  reply = odd j;
  item = cond (item_due ups downs i all)
      (Some (record { bit = odd i; words = A.pack (item_value A ups downs i cs) }))
      None;
}

-- what a put from p to q makes of the lanes, if one is due
pub record Spoken (p q : ℕ) (due : Bool) (f : Frame) (lanes lanes' : Lanes) (made lost : Bool) : Type 0 where
  pub sent : lanes' p q ≡ lanes p q ++ replicate (length (lanes' p q) - length (lanes p q)) f
  pub still : due ≡ false → lanes' p q ≡ lanes p q
  pub elsewhere : (a b : ℕ) → (a ≡ p → b ≢ q) → lanes' a b ≡ lanes a b
  pub made_is : made ≡ due
  pub lost_is : lost ≡ (due && length (lanes' p q) - length (lanes p q) == 0)

module _ {M : Type 0} (A : Algebra M) (boards : ℕ) (edges : List Edge) (p : ℕ) where
  -- whether p owes q a frame once it has received, and which
  abbrev pub due : List Link → List Bool → ℕ → Bool
  due links got q =
      item_due (edges_between edges p q) (edges_between edges q p) (link_at links p q).i
      (has_gathered A (shape boards edges) (accepted_in links) p)
      || slice_index_or got q false

  abbrev pub due_frame : List Link → List M → ℕ → Frame
  due_frame links copies q =
      frame_due A (edges_between edges p q) (edges_between edges q p) (link_at links p q).i (link_at links q p).j
      (has_gathered A (shape boards edges) (accepted_in links) p) copies

-- board p's puts to the boards below k, by what they left in the lanes
pub record Sent (p : ℕ) (due : ℕ → Bool) (frame : ℕ → Frame) (lanes : Lanes) (k : ℕ) (lanes' : Lanes) (made lost : ℕ)
    : Type 0 where
  pub sent : (q : ℕ) → q < k → q ≢ p
      → lanes' p q ≡ lanes p q ++ replicate (length (lanes' p q) - length (lanes p q)) (frame q)
  pub still : (q : ℕ) → q < k → q ≢ p → due q ≡ false → lanes' p q ≡ lanes p q
  pub rest : (a b : ℕ) → (a ≢ p) ⊎ ((b ≡ p) ⊎ (k ≤ b)) → lanes' a b ≡ lanes a b
  pub made_is : made ≡ sum_others p k (λ q. cond (due q) 1 0)
  pub lost_is : lost ≡ sum_others p k (λ q. cond (due q && length (lanes' p q) - length (lanes p q) == 0) 1 0)
