-- What appending to one lane makes of each lane.
use Rattle.std.specs.Prelude.{◌≡◌, ℕ, ◌+◌, ◌≤◌, Bool, true, false, cond, List, [], ◌++◌, length, replicate, ◌==◌, refl}
use Rattle.std.proofs.Common.{ap, ◌∙◌, arith}
use Rattle.std.proofs.Math.Path.{fun_ext}
use Rattle.std.proofs.lemmas.Bool.{cond-true, cond-false, and_from, eq-eqb}
use Rattle.std.proofs.lemmas.List.{append-nil, append_assoc, length-append, length-replicate}
use Rattle.std.proofs.lemmas.List.{replicate-append-replicate}
use Rattle.medium.specs.declared.frame.Frame.{Frame}
use Rattle.medium.specs.Lanes.{Lanes, same_lane, appended}

-- lanes that agree at each pair of boards are the same
pub lanes_agree : (l m : Lanes) → ((p q : ℕ) → l p q ≡ m p q) → l ≡ m
lanes_agree l m h = fun_ext (λ p. fun_ext (λ q. h p q))

pub same_lane_here : (from to : ℕ) → same_lane from to from to ≡ true
same_lane_here from to = and_from (from == from) (to == to) (eq-eqb from from refl) (eq-eqb to to refl)

pub appended_here :
    (l : Lanes) (from to : ℕ) (f : Frame) (k : ℕ) → appended l from to f k from to ≡ l from to ++ replicate k f
appended_here l from to f k = cond-true (same_lane from to from to) _ _ (same_lane_here from to)

pub appended_elsewhere :
    (l : Lanes) (from to : ℕ) (f : Frame) (k p q : ℕ) → same_lane from to p q ≡ false →
    appended l from to f k p q ≡ l p q
appended_elsewhere l from to f k p q other = cond-false (same_lane from to p q) _ _ other

none_more : (b : Bool) (xs : List Frame) → cond b (xs ++ []) xs ≡ xs
none_more true xs = append-nil xs
none_more false xs = refl

pub appended_none : (l : Lanes) (from to : ℕ) (f : Frame) → appended l from to f 0 ≡ l
appended_none l from to f = lanes_agree _ l (λ p q. none_more (same_lane from to p q) (l p q))

both_more :
    (b : Bool) (xs : List Frame) (f : Frame) (j k : ℕ) →
    let more = cond b (xs ++ replicate j f) xs in
    cond b (more ++ replicate k f) more ≡ cond b (xs ++ replicate (j + k) f) xs
both_more true xs f j k =
    append_assoc xs (replicate j f) (replicate k f) ∙ ap (λ ys. xs ++ ys) (replicate-append-replicate j k f)
both_more false xs f j k = refl

-- j copies and then k copies are j + k copies
pub appended_twice :
    (l : Lanes) (from to : ℕ) (f : Frame) (j k : ℕ) →
    appended (appended l from to f j) from to f k ≡ appended l from to f (j + k)
appended_twice l from to f j k =
    lanes_agree _ _ (λ p q. both_more (same_lane from to p q) (l p q) f j k)

-- the same of three states of the lanes
pub both_appended :
    (l m n : Lanes) (from to : ℕ) (f : Frame) (j k : ℕ) → m ≡ appended l from to f j →
    n ≡ appended m from to f k → n ≡ appended l from to f (j + k)
both_appended l m n from to f j k one two =
    two ∙ ap (λ t. appended t from to f k) one ∙ appended_twice l from to f j k

pub length_appended :
    (l : Lanes) (from to : ℕ) (f : Frame) (k : ℕ) →
    length (appended l from to f k from to) ≡ length (l from to) + k
length_appended l from to f k =
    ap length (appended_here l from to f k)
    ∙ length-append (l from to) (replicate k f)
    ∙ ap (λ n. length (l from to) + n) (length-replicate k f)

-- a lane that has few frames after a put was appended few
pub few_appended :
    (l m : Lanes) (from to : ℕ) (f : Frame) (k : ℕ) → m ≡ appended l from to f k →
    length (m from to) ≤ 64 → k ≤ 64
few_appended l m from to f k after few =
    let size : length (m from to) ≡ length (l from to) + k =
    ap (λ t. length (t from to)) after ∙ length_appended l from to f k in
    omega arith
