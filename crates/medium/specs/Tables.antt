-- What the 64 lanes of a queue hold, and after one of them changed.
use Rattle.std.specs.Prelude.{◌≡◌, ℕ, zero, suc, ◌+◌, ◌*◌, ◌<◌, ◌≤◌, ◌↔◌, Bool, true, false, cond, ◌&&◌, List, [], ◌∷◌}
use Rattle.std.specs.Prelude.{◌++◌, map, length, take, drop, remove, replicate, Option, Some, None, IsSome, OnSome}
use Rattle.std.specs.Prelude.{IfNone, Result, Ok, Err, IsOk, ⊤, ◌==◌, ◌≢◌, nat_lt, slice_index_or, slice_set, refl}
use Rattle.std.specs.Array.{AllOfLen}
use Rattle.std.specs.List.{All}
use Rattle.std.specs.Result.{OnOk, OnErr, is_ok}
use Rattle.std.proofs.Common.{sym, ap, ap₂, ◌∙◌, ⊎_elim, arith}
use mir.Val.{bool_byte}
use Rattle.std.proofs.lemmas.Bool.{and_from, and_parts, both_ways, cases_Bool, cond-false, cond-true, eq-eqb}
use Rattle.std.proofs.lemmas.Bool.{eqb-true, ltb-true}
use Rattle.std.proofs.lemmas.Bool.Decides.{nat_tests}
use Rattle.std.proofs.lemmas.Grind.{common_steps}
use Rattle.std.proofs.lemmas.List.{append-nil, get_or-map, get_or-set_other, get_or-set_same, map-set, length-map}
use Rattle.std.proofs.lemmas.List.Elements.{All-head, All-tail}
use Rattle.arrayvec.specs.ArrayVec.{ArrayVec, array_vec_len}
use Rattle.medium.specs.declared.frame.Frame.{Frame}
use Rattle.medium.specs.Lanes.{first, is_lane, same_lane, empty_lanes}
use Rattle.medium.specs.Held.{frames_in, lanes_of, pushed_lane, table_lanes}
use Rattle.medium.specs.Appending.{lanes_agree}

pub first_taken :
    (xs : List Frame) (n : ℕ) (d : Frame) → 0 < n → 0 < length xs → Some (slice_index_or xs 0 d) ≡ first (take n xs)
first_taken [] n d p q = absurd (omega arith)
first_taken (x ∷ xs) zero d p q = absurd (omega arith)
first_taken (x ∷ xs) (suc n) d p q = refl

-- what holds of the frames of each lane and of no frames holds at any place
held_at :
    (P : List Frame → Type 0) → P [] → (ls : List (ArrayVec Frame)) → All (λ l. P (frames_in l)) ls → (k : ℕ) →
    P (slice_index_or (map frames_in ls) k [])
held_at P none [] all k = none
held_at P none (l ∷ ls) all zero = All-head (λ x. P (frames_in x)) l ls all
held_at P none (l ∷ ls) all (suc k) = held_at P none ls (All-tail (λ x. P (frames_in x)) l ls all) k

pub all_few :
    (ls : List (ArrayVec Frame)) → All (λ l. array_vec_len l ≤ 8) ls → (k : ℕ) →
    length (slice_index_or (map frames_in ls) k []) ≤ 8
all_few = held_at (λ fs. length fs ≤ 8) (omega arith)

either_none : (b : Bool) (xs : List Frame) → xs ≡ [] → cond b xs [] ≡ []
either_none true xs e = e
either_none false xs e = refl

-- where no lane of the table holds a frame, no frame waits
pub none_waits : (ls : List (ArrayVec Frame)) → All (λ l. frames_in l ≡ []) ls → table_lanes ls ≡ empty_lanes
none_waits ls none =
    lanes_agree _ _ (λ p q. either_none (is_lane p q) _ (held_at (λ fs. fs ≡ []) refl ls none (8 * p + q)))

-- lanes that were made empty: no frame waits, and each has room
pub made_empty :
    (ls : List (ArrayVec Frame)) (n : ℕ) → AllOfLen (λ l. frames_in l ≡ []) ls n → table_lanes ls ≡ empty_lanes
made_empty ls n all = none_waits ls (λ k d within. all.at k d (omega (arith, all.long)))

pub made_few :
    (ls : List (ArrayVec Frame)) (n : ℕ) → AllOfLen (λ l. frames_in l ≡ []) ls n → All (λ l. array_vec_len l ≤ 8) ls
made_few ls n all k d within = omega (arith, ap length (all.at k d (omega (arith, all.long))))

pub lane_boards : (p q : ℕ) → is_lane p q ≡ true → (p < 8) × (q < 8)
lane_boards p q b =
    let both = and_parts (nat_lt p 8) (nat_lt q 8) b in (ltb-true p 8 both.0, ltb-true q 8 both.1)

-- the place of a lane is below 64
pub lane_place : (p q : ℕ) → is_lane p q ≡ true → 8 * p + q < 64
lane_place p q b = omega (arith, (lane_boards p q b).0, (lane_boards p q b).1)

-- the lane from p to q is the one that stands at 8 p + q
pub lane_held :
    (ls : List (ArrayVec Frame)) (p q : ℕ) (d : ArrayVec Frame) → length ls ≡ 64 → is_lane p q ≡ true →
    frames_in (slice_index_or ls (8 * p + q) d) ≡ table_lanes ls p q
lane_held ls p q d size b =
    sym (get_or-map frames_in ls (8 * p + q) d [] (omega (arith, lane_place p q b)))
    ∙ sym (cond-true (is_lane p q) _ _ b)

same_lane_boards : (from to p q : ℕ) → same_lane from to p q ≡ true → (p ≡ from) × (q ≡ to)
same_lane_boards from to p q s =
    let both = and_parts (p == from) (q == to) s in (eqb-true p from both.0, eqb-true q to both.1)

-- 8 p + q tells p and q apart
apart :
    (from to p q : ℕ) → is_lane from to ≡ true → same_lane from to p q ≡ false → is_lane p q ≡ true →
    8 * p + q ≢ 8 * from + to
apart from to p q here s there e =
    let h = lane_boards from to here in
    let t = lane_boards p q there in
    let p_is : p ≡ from = omega arith in
    let q_is : q ≡ to = omega arith in
    both_ways (same_lane from to p q) s
    (and_from (p == from) (q == to) (eq-eqb p from p_is) (eq-eqb q to q_is))

-- a lane other than the one that was set
other :
    (m : List (List Frame)) (k p q : ℕ) (v : List Frame) → (is_lane p q ≡ true → 8 * p + q ≢ k) →
    lanes_of (slice_set m k v) p q ≡ lanes_of m p q
other m k p q v differs =
    ⊎_elim
    (λ b.
    cond-true (is_lane p q) _ _ b
    ∙ get_or-set_other m k (8 * p + q) v [] (differs b)
    ∙ sym (cond-true (is_lane p q) _ _ b))
    (λ b. cond-false (is_lane p q) _ _ b ∙ sym (cond-false (is_lane p q) _ _ b))
    (cases_Bool (is_lane p q))

-- the lane that was set
lane_itself :
    (m : List (List Frame)) (p q : ℕ) (v : List Frame) → length m ≡ 64 → is_lane p q ≡ true →
    lanes_of (slice_set m (8 * p + q) v) p q ≡ v
lane_itself m p q v size b =
    cond-true (is_lane p q) _ _ b ∙ get_or-set_same m (8 * p + q) v [] (omega (arith, lane_place p q b))

-- one lane of the table goes from xs to F xs; every other lane stays
pub lane_changed :
    (F : List Frame → List Frame) (ls : List (ArrayVec Frame)) (from to : ℕ) (l : ArrayVec Frame) → length ls ≡ 64 →
    is_lane from to ≡ true → frames_in l ≡ F (table_lanes ls from to) → (p q : ℕ) →
    table_lanes (slice_set ls (8 * from + to) l) p q
    ≡ cond (same_lane from to p q) (F (table_lanes ls p q)) (table_lanes ls p q)
lane_changed F ls from to l size here new p q =
    let k = 8 * from + to in
    let m = map frames_in ls in
    let long : length m ≡ 64 = length-map ls frames_in ∙ size in
    ap (λ t. lanes_of t p q) (map-set frames_in ls k l)
    ∙ ⊎_elim
    (λ s.
    let is = same_lane_boards from to p q s in
    ap₂ (lanes_of (slice_set m k (frames_in l))) is.0 is.1
    ∙ lane_itself m from to (frames_in l) long here
    ∙ new
    ∙ sym (ap F (ap₂ (lanes_of m) is.0 is.1))
    ∙ sym (cond-true (same_lane from to p q) _ _ s))
    (λ s.
    other m k p q (frames_in l) (apart from to p q here s)
    ∙ sym (cond-false (same_lane from to p q) _ _ s))
    (cases_Bool (same_lane from to p q))

-- a push that had room appended one copy, any other none
pub push_as : (r : Bool) (xs : List Frame) (f : Frame) → pushed_lane r f xs ≡ xs ++ replicate (bool_byte r) f
push_as true xs f = refl
push_as false xs f = sym (append-nil xs)

pub count_as : (lane room : Bool) → lane ≡ true → bool_byte room ≡ cond (lane && room) 1 0
count_as true true e = refl
count_as true false e = refl
count_as false room e = absurd (both_ways false refl e)

pub had_room : {E : Type 0} (r : Result ⊤ E) (n : ℕ) → (IsOk r ↔ (n < 8)) → is_ok r ≡ nat_lt n 8
had_room (Ok u) n room = grind (arith, nat_tests)
had_room (Err e) n room = grind (arith, nat_tests)

-- a push that was tried had room exactly where it went well
pub tried :
    {E : Type 0} (r : Result ⊤ E) (was new : ArrayVec Frame) (f : Frame) →
    OnOk r (frames_in new ≡ frames_in was ++ f ∷ []) →
    OnErr r (new ≡ was) → frames_in new ≡ pushed_lane (is_ok r) f (frames_in was)
tried (Ok u) was new f more same = more
tried (Err e) was new f more same = ap frames_in same

-- a removal at the front took the oldest frame, if one waited
pub took_oldest :
    (r : Option Frame) (was new : ArrayVec Frame) → (IsSome r ↔ (0 < array_vec_len was)) →
    OnSome r (frames_in new ≡ remove (frames_in was) 0) → IfNone r (new ≡ was) → frames_in new ≡ drop 1 (frames_in was)
took_oldest (Some f) was new some rest same = rest
took_oldest None was new some rest same = grind (arith, common_steps)
