-- What a scene says: its header's numbers and its cells.
use Rattle.std.specs.Prelude.{◌≡◌, ℕ, ◌<◌, ◌≤◌, true, List, length}
use Rattle.std.specs.List.{AllByRecursion}
use Rattle.element.specs.Kinds.{is_kind}
use Rattle.element.specs.declared.words.Words.{Words}

-- a cell: the board that owns it, its corners' vertices, and a contribution for each corner
pub record Cell : Type 0 where
  pub board : ℕ
  pub corners : List ℕ
  pub parts : List Words

pub record Scene : Type 0 where
  pub kind : ℕ
  pub boards : ℕ
  pub overlap : ℕ
  pub vertices : ℕ
  pub cells : List Cell

-- the ranges that every accepted scene keeps, as far as a run needs them
pub record Sound (s : Scene) : Type 0 where
  pub kind_known : is_kind s.kind ≡ true
  pub some_board : 1 ≤ s.boards
  pub few_boards : s.boards ≤ 8
  pub few_layers : s.overlap ≤ 4
  pub few_vertices : s.vertices ≤ 1024
  pub few_cells : length s.cells ≤ 1024
  pub owned : AllByRecursion (λ c. c.board < s.boards) s.cells
  pub on_vertices : AllByRecursion (λ c. AllByRecursion (λ v. v < s.vertices) c.corners) s.cells
  pub as_many_parts : AllByRecursion (λ c. length c.parts ≡ length c.corners) s.cells
