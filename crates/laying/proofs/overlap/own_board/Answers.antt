-- A cell that is there is on one board.
use Rattle.std.proofs.Common.{◌≡◌, eqb, sym, ap, ◌∙◌, arith}
use Rattle.scene.specs.Views.{viewed}
use Rattle.scene.proofs.Reading.{board_some}
use Rattle.laying.specs.Seen.{cell_of}
use Rattle.laying.proofs.Corners.{board_low}
use Rattle.laying.proofs.overlap.own_board.Goals as goal

pub only-requires : goal.only-requires
only-requires c =
    let v = c.args.scene.now in
    let n = c.args.c in
    let there = sym c.in-Some.is ∙ c.cell_board.ensures ∙ board_some (viewed v) n c.requires in
    let same : c.in-Some.p ≡ (cell_of v n).board = cc in
    omega (arith, board_low v n c.requires)

pub returns : goal.returns
returns c =
    λ q.
    let v = c.args.scene.now in
    let n = c.args.c in
    let there = sym c.in-Some.is ∙ c.cell_board.ensures ∙ board_some (viewed v) n c.requires in
    let same : c.in-Some.p ≡ (cell_of v n).board = cc in
    c.only.ensures q ∙ ap (λ b. eqb b q) same

pub unreachable-requires : goal.unreachable-requires
unreachable-requires c =
    let there =
    sym c.in_default.is ∙ c.cell_board.ensures ∙ board_some (viewed c.args.scene.now) c.args.c c.requires
    in
    cc
