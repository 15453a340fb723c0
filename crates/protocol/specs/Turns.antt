-- What a turn of one board makes of the counts, the copies and the lanes.
use Rattle.std.specs.Prelude.{◌≡◌, ℕ, zero, suc, ◌+◌, ◌-◌, ◌<◌, ◌≤◌, Bool, true, false, cond, ◌&&◌, ◌||◌, ◌≢◌, ◌⊎◌}
use Rattle.std.specs.Prelude.{List, [], ◌++◌, length, replicate, Some, None, ◌==◌, nat_le, nat_lt}
use Rattle.element.specs.Algebra.{Algebra}
use Rattle.element.specs.declared.words.Words.{Words}
use Rattle.medium.specs.Lanes.{Lanes}
use Rattle.medium.specs.declared.frame.Frame.{Frame}
use Rattle.plan.specs.Links.{Shape, items}
use Rattle.protocol.specs.Frames.{odd, brings, tells_of, words_of, count_after, acts, some_item}

-- the counts of each link, the lanes, and what each copy holds, by its number
pub record State (M : Type 0) : Type 0 where
  pub i : ℕ → ℕ → ℕ
  pub j : ℕ → ℕ → ℕ
  pub lane : Lanes
  pub val : ℕ → M

-- all boards but p below k pass
abbrev pub all_others : ℕ → ℕ → (ℕ → Bool) → Bool
all_others p zero t = true
all_others p (suc k) t = all_others p k t && (k == p || t k)

-- the sum over all boards but p below k
abbrev pub sum_others : ℕ → ℕ → (ℕ → ℕ) → ℕ
sum_others p zero f = 0
sum_others p (suc k) f = sum_others p k f + cond (k == p) 0 (f k)

abbrev pub write : {M : Type 0} → (ℕ → M) → ℕ → M → (ℕ → M)
write val c x k = cond (k == c) x (val k)

module _ {M : Type 0} (A : Algebra M) (P : Shape) where
  -- board p has accepted every item that rises to it
  abbrev pub has_gathered : (ℕ → ℕ → ℕ) → ℕ → Bool
  has_gathered j p = all_others p P.boards (λ q. nat_le (P.up q p) (j q p))

  -- item m from p to q: first the leaves that rise to q, then the roots that q's ghosts follow
  abbrev pub link_value : (ℕ → M) → ℕ → ℕ → ℕ → M
  link_value val p q m = cond (nat_lt m (P.up p q)) (val (P.leaf p q m)) (val (P.root q p (m - P.up p q)))

  -- board p accepts item m of board q: it is joined into the root, or replaces the leaf
  abbrev pub accept : ℕ → ℕ → ℕ → Words → (ℕ → M) → (ℕ → M)
  accept p q m w val = cond (nat_lt m (P.up q p))
      (write val (P.root q p m) (A.join (val (P.root q p m)) (A.unpack w)))
      (write val (P.leaf p q (m - P.up q p)) (A.unpack w))

  -- the copies after p has taken the frames from q, j items of that link having been accepted before
  abbrev pub copies_after : ℕ → ℕ → ℕ → (ℕ → M) → List Frame → (ℕ → M)
  copies_after p q = acts (brings (items P q p)) (λ j f val. accept p q j (words_of f.item) val)

  -- and after it has taken those of every board below k
  abbrev pub copies_after_all : ℕ → ℕ → (ℕ → ℕ → ℕ) → Lanes → (ℕ → M) → (ℕ → M)
  copies_after_all p zero j lane val = val
  copies_after_all p (suc k) j lane val =
      cond (k == p) (copies_after_all p k j lane val)
      (copies_after p k (j k p) (copies_after_all p k j lane val) (lane k p))

module _ {M : Type 0} (A : Algebra M) (P : Shape) (s u : State M) (p : ℕ) where
  -- p sends q an item
  abbrev pub wants : ℕ → Bool
  wants q = nat_lt (u.i p q) (items P p q) && (nat_lt (u.i p q) (P.up p q) || has_gathered A P u.j p)

  -- p puts a frame to q
  abbrev pub owes : ℕ → Bool
  owes q = wants q || some_item (s.lane q p)

  abbrev pub put_frame : ℕ → Frame
  put_frame q = record {
    reply = odd (u.j q p);
    item = cond (wants q)
        (Some (record { bit = odd (u.i p q); words = A.pack (link_value A P u.val p q (u.i p q)) }))
        None;
  }

  -- how many frames p's put to q left
  abbrev pub left : ℕ → ℕ
  left q = length (u.lane p q) - length (s.lane p q)

  -- p's puts that left no frame
  abbrev pub lost : ℕ
  lost = sum_others p P.boards (λ q. cond (owes q && left q == 0) 1 0)

  -- a turn of p leads from s to u; what each put left is open
  pub record Turned : Type 0 where
    pub i_own : (q : ℕ) → q < P.boards → q ≢ p → u.i p q ≡ count_after (tells_of (items P p q)) (s.i p q) (s.lane q p)
    pub i_rest : (a b : ℕ) → (a ≢ p) ⊎ ((b ≡ p) ⊎ (P.boards ≤ b)) → u.i a b ≡ s.i a b
    pub j_own : (q : ℕ) → q < P.boards → q ≢ p → u.j q p ≡ count_after (brings (items P q p)) (s.j q p) (s.lane q p)
    pub j_rest : (a b : ℕ) → (b ≢ p) ⊎ ((a ≡ p) ⊎ (P.boards ≤ a)) → u.j a b ≡ s.j a b
    pub val_is : u.val ≡ copies_after_all A P p P.boards s.j s.lane s.val
    pub taken : (q : ℕ) → q < P.boards → q ≢ p → u.lane q p ≡ []
    pub sent : (q : ℕ) → q < P.boards → q ≢ p → u.lane p q ≡ s.lane p q ++ replicate (left q) (put_frame q)
    pub still : (q : ℕ) → q < P.boards → q ≢ p → owes q ≡ false → left q ≡ 0
    pub lane_rest : (a b : ℕ) → ((a ≢ p) × (b ≢ p)) ⊎ ((a ≡ b) ⊎ ((P.boards ≤ a) ⊎ (P.boards ≤ b)))
        → u.lane a b ≡ s.lane a b
