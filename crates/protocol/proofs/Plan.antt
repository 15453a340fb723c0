-- A plan's shape with what a run needs of it: each copy's own sum, the total of its vertex, and their laws.
use Rattle.std.proofs.Common.{◌≡◌, ℕ, ◌<◌, Bool, true, cond, ◌&&◌, eqb, ltb, ◌≢◌, ◌⊎◌}
use Rattle.element.specs.Algebra.{Algebra}
use Rattle.element.specs.Join.{join_below}
use Rattle.plan.specs.Links.{Shape}

-- what the first k items from board p bring to the copy c of board q
abbrev pub part : {M : Type 0} → Algebra M → Shape → (ℕ → M) → ℕ → ℕ → ℕ → ℕ → M
part A S own p q c k =
    join_below A k (λ m. cond (ltb m (S.up p q) && eqb (S.root p q m) c) (own (S.leaf p q m)) A.zero)

pub record Plan {M : Type 0} (A : Algebra M) : Type 0 where
  pub shape : Shape
  -- the board of a copy, whether there is such a copy, whether it is a root, its own sum and its vertex's total
  pub board : ℕ → ℕ
  pub valid : ℕ → Bool
  pub is_root : ℕ → Bool
  pub own : ℕ → M
  pub total : ℕ → M
  pub leaf_board : (p q m : ℕ) → m < shape.up p q → board (shape.leaf p q m) ≡ p
  pub root_board : (p q m : ℕ) → m < shape.up p q → board (shape.root p q m) ≡ q
  pub leaf_once : (p q r m k : ℕ) → m < shape.up p q → k < shape.up p r
      → shape.leaf p q m ≡ shape.leaf p r k → (q ≡ r) × (m ≡ k)
  pub roots_are_roots : (p q m : ℕ) → m < shape.up p q → is_root (shape.root p q m) ≡ true
  pub leaves_are_no_roots : (p q m c : ℕ) → m < shape.up p q → is_root c ≡ true → c ≢ shape.leaf p q m
  pub no_self : (p : ℕ) → shape.up p p ≡ 0
  pub leaf_valid : (p q m : ℕ) → m < shape.up p q → valid (shape.leaf p q m) ≡ true
  pub root_valid : (c : ℕ) → is_root c ≡ true → valid c ≡ true
  pub root_or_leaf : (c : ℕ) → valid c ≡ true
      → (is_root c ≡ true)
      ⊎ ((q : ℕ) × (m : ℕ) × (q < shape.boards) × (m < shape.up (board c) q) × (shape.leaf (board c) q m ≡ c))
  pub total_along_edge : (p q m : ℕ) → m < shape.up p q → total (shape.leaf p q m) ≡ total (shape.root p q m)
  pub total_at_root : (c : ℕ) → is_root c ≡ true
      → total c
      ≡ A.join (own c) (join_below A shape.boards (λ p. part A shape own p (board c) c (shape.up p (board c))))
