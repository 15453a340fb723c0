-- One cell more.
use Rattle.std.proofs.Common.{◌≡◌, ◌<◌, ℕ, List, [], ◌∙◌, arith, rules}
use Rattle.std.proofs.lemmas.List.{length-set}
use Rattle.scene.proofs.Viewing.{view_sound}
use Rattle.laying.specs.Seen.{cell_of}
use Rattle.laying.proofs.Layers.{filled_more}
use Rattle.laying.proofs.cells.corners.Goals as goal

pub bounds-corners-c : goal.bounds-corners-c
bounds-corners-c c = omega (arith, c.cells-c-end.ensures, (view_sound c.args.scene.now).few_cells)

pub loop-c-preserved : goal.loop-c-preserved
loop-c-preserved c =
    let corners = c.loop-c.corners in
    let n = c.loop-c.c in
    let here = c.cell_corners.result in
    let inv = c.loop-c.invariant in
    let P : ℕ → List ℕ → Type 0 = λ k xs. xs ≡ (cell_of c.args.scene.now k).corners in (
      length-set corners n here ∙ inv.0,
      filled_more P corners n here []
          (omega (arith, inv.0, c.cells-c-end.ensures, (view_sound c.args.scene.now).few_cells)) inv.1
          c.cell_corners.ensures,
    )

pub offset_bounds-corners-c : goal.offset_bounds-corners-c
offset_bounds-corners-c c =
    let low : c.loop-c.c < 1024 = omega (arith, c.cells-c-end.ensures, (view_sound c.args.scene.now).few_cells) in
    search rules
