-- The cells that a view shows: their boards, and their corners one by one.
use Rattle.std.proofs.Common.{◌≡◌, ℕ, ◌<◌, List, [], ◌∷◌, length, get_or, take, Some, sym, refl, subst, ◌∙◌}
use Rattle.std.proofs.Common.{arith}
use Rattle.std.specs.List.{AllByRecursion}
use Rattle.std.proofs.lemmas.List.{get_or-take, length-take}
use Rattle.std.proofs.ByRecursion.{All-get_or, All-weaker}
use Rattle.scene.specs.Read.{no_cell, corner_of}
use Rattle.scene.specs.Views.{viewed}
use Rattle.scene.specs.declared.view.SceneView.{SceneView}
use Rattle.scene.proofs.Reading.{corner_some}
use Rattle.scene.proofs.Soundness.{corners_count}
use Rattle.scene.proofs.Viewing.{view_sound}
use Rattle.laying.specs.Seen.{cell_numbered, ReadFrom}
use Rattle.laying.specs.Tables.{row}

-- a list of three, one by one
pub three : (xs : List ℕ) → length xs ≡ 3 → get_or xs 0 0 ∷ get_or xs 1 0 ∷ get_or xs 2 0 ∷ [] ≡ xs
three [] h = absurd (omega arith)
three (a ∷ []) h = absurd (omega arith)
three (a ∷ b ∷ []) h = absurd (omega arith)
three (a ∷ b ∷ c ∷ []) h = refl
three (a ∷ b ∷ c ∷ d ∷ xs) h = absurd (omega arith)

module _ (v : SceneView) (c : ℕ) (h : c < length (viewed v).cells) where
  -- a cell that is there is on one of eight boards
  pub board_low : (cell_numbered (viewed v).cells c).board < 8
  board_low =
      let s = viewed v in
      let ok = view_sound v in
      omega (arith, ok.few_boards, All-get_or (λ x. x.board < s.boards) s.cells c no_cell h ok.owned)

  -- it has three corners
  pub corners_three : length (cell_numbered (viewed v).cells c).corners ≡ 3
  corners_three = All-get_or (λ x. length x.corners ≡ 3) (viewed v).cells c no_cell h (corners_count v.bytes.now)

  -- their vertices are low
  pub corners_low : AllByRecursion (λ x. x < 1024) (cell_numbered (viewed v).cells c).corners
  corners_low =
      let s = viewed v in
      let ok = view_sound v in
      All-weaker
      (λ x. x < s.vertices)
      (λ x. x < 1024)
      (λ x l. omega (arith, ok.few_vertices))
      (cell_numbered s.cells c).corners
      (All-get_or (λ x. AllByRecursion (λ y. y < s.vertices) x.corners) s.cells c no_cell h ok.on_vertices)

  pub corner_there : (k : ℕ) → k < 3
      → corner_of (viewed v) c k ≡ Some (get_or (cell_numbered (viewed v).cells c).corners k 0)
  corner_there k l = corner_some (viewed v) c h k (omega (arith, corners_three))

  pub corner_low : (k : ℕ) → k < 3 → get_or (cell_numbered (viewed v).cells c).corners k 0 < 1024
  corner_low k l =
      let corners = (cell_numbered (viewed v).cells c).corners in
      All-get_or (λ x. x < 1024) corners k 0 (omega (arith, corners_three)) corners_low

-- the rows of a longer table, as many as there are cells
pub read_from : (v : SceneView) (table : List (List ℕ)) (n : ℕ) → n ≡ length (viewed v).cells → length table ≡ 1024
    → ((c : ℕ) → c < length (viewed v).cells → row table c ≡ (cell_numbered (viewed v).cells c).corners)
    → ReadFrom (viewed v) (take n table)
read_from v table n is long each =
    record {
      all = omega (arith, length-take n table, (view_sound v).few_cells);
      each = λ c h. get_or-take n table c [] (omega arith) ∙ each c h;
    }

-- the vertices of a table that was read are low
pub read_low : (v : SceneView) (corners : List (List ℕ)) → ReadFrom (viewed v) corners → (c : ℕ)
    → c < length corners → AllByRecursion (λ x. x < 1024) (row corners c)
read_low v corners r c h =
    let low : c < length (viewed v).cells = omega (arith, r.all) in
    subst (AllByRecursion (λ x. x < 1024)) (sym (r.each c low)) (corners_low v c low)
