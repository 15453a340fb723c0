-- What a queue's table holds after a push or a removal at the place of a lane.
use Rattle.std.specs.Prelude.{◌≡◌, ℕ, ◌<◌, ◌↔◌, cond, List, [], ◌∷◌, ◌++◌, length, drop, remove, replicate}
use Rattle.std.specs.Prelude.{Option, IsSome, OnSome, IfNone, Result, Ok}
use Rattle.std.specs.Prelude.{Err, IsOk, ⊤, nat_lt, slice_index_or, slice_set}
use Rattle.std.specs.Result.{OnOk, OnErr, is_ok}
use Rattle.std.proofs.Common.{sym, ap, ◌∙◌, arith}
use mir.Val.{bool_byte}
use Rattle.std.proofs.lemmas.List.{set-get_or}
use Rattle.arrayvec.specs.ArrayVec.{ArrayVec, array_vec_len}
use Rattle.medium.specs.declared.frame.Frame.{Frame}
use Rattle.medium.specs.Lanes.{appended, is_lane, same_lane, shortened, StandsAt}
use Rattle.medium.specs.Held.{frames_in, queue_count, table_lanes}
use Rattle.medium.specs.Appending.{lanes_agree}
use Rattle.medium.specs.Tables.{push_as, count_as, had_room, tried, took_oldest, lane_held, lane_changed}

-- the lane at its place goes from xs to F xs
place_changed :
    (F : List Frame → List Frame) (ls : List (ArrayVec Frame)) (from to at : ℕ) (d new : ArrayVec Frame) →
    length ls ≡ 64 → StandsAt from to at → frames_in new ≡ F (frames_in (slice_index_or ls at d)) → (p q : ℕ) →
    table_lanes (slice_set ls at new) p q
    ≡ cond (same_lane from to p q) (F (table_lanes ls p q)) (table_lanes ls p q)
place_changed F ls from to at d new size here changed p q =
    let was = ap (λ k. frames_in (slice_index_or ls k d)) here.1 ∙ lane_held ls from to d size here.0 in
    rw here.1 (lane_changed F ls from to new size here.0 (changed ∙ ap F was) p q)

-- a push that was tried at a lane's place appends one copy where there was room, else none
pub pushed :
    {E : Type 0} (r : Result ⊤ E) (ls : List (ArrayVec Frame)) (from to at : ℕ) (d new : ArrayVec Frame)
    (f : Frame) (k : ℕ) → length ls ≡ 64 → StandsAt from to at →
    OnOk r (frames_in new ≡ frames_in (slice_index_or ls at d) ++ f ∷ []) → OnErr r (new ≡ slice_index_or ls at d) →
    k ≡ bool_byte (is_ok r) → table_lanes (slice_set ls at new) ≡ appended (table_lanes ls) from to f k
pushed r ls from to at d new f k size here room full count =
    let was = slice_index_or ls at d in
    let more : List Frame → List Frame = λ xs. xs ++ replicate k f in
    let copies = push_as (is_ok r) (frames_in was) f ∙ ap (λ n. frames_in was ++ replicate n f) (sym count) in
    lanes_agree _ _ (place_changed more ls from to at d new size here (tried r was new f room full ∙ copies))

-- how many copies that is
pub push_count :
    {E : Type 0} (r : Result ⊤ E) (ls : List (ArrayVec Frame)) (from to at : ℕ) (d : ArrayVec Frame) (k : ℕ) →
    length ls ≡ 64 → StandsAt from to at → (IsOk r ↔ (array_vec_len (slice_index_or ls at d) < 8)) →
    k ≡ bool_byte (is_ok r) → k ≡ queue_count (table_lanes ls) from to
push_count r ls from to at d k size here room count =
    let was =
    ap (λ j. length (frames_in (slice_index_or ls j d))) here.1 ∙ ap length (lane_held ls from to d size here.0) in
    count ∙ ap bool_byte (had_room r _ room ∙ ap (λ n. nat_lt n 8) was) ∙ count_as (is_lane from to) _ here.0

-- where none was appended, the table is as it was
pub unpushed :
    {E : Type 0} (r : Result ⊤ E) (ls : List (ArrayVec Frame)) (at : ℕ) (d new : ArrayVec Frame) (k : ℕ) →
    OnErr r (new ≡ slice_index_or ls at d) → k ≡ bool_byte (is_ok r) → k ≡ 0 → slice_set ls at new ≡ ls
unpushed (Ok u) ls at d new k full count none = absurd (omega (arith, count, none))
unpushed (Err e) ls at d new k full count none = ap (slice_set ls at) full ∙ set-get_or ls at d

-- a removal at the front of a lane's place takes the oldest frame, if one waits
pub popped :
    (r : Option Frame) (ls : List (ArrayVec Frame)) (from to at : ℕ) (d new : ArrayVec Frame) →
    length ls ≡ 64 → StandsAt from to at →
    (IsSome r ↔ (0 < array_vec_len (slice_index_or ls at d))) →
    OnSome r (frames_in new ≡ remove (frames_in (slice_index_or ls at d)) 0) → IfNone r (new ≡ slice_index_or ls at d) →
    table_lanes (slice_set ls at new) ≡ shortened (table_lanes ls) from to
popped r ls from to at d new size here some rest same =
    lanes_agree _ _ (place_changed (drop 1) ls from to at d new size here (took_oldest r _ new some rest same))
