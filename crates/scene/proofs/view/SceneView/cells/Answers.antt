-- There are as many cells as the header counts.
use Rattle.std.proofs.Common.{sym, ◌∙◌}
use Rattle.std.proofs.lemmas.List.FromFn.{length-map-range_with_len}
use Rattle.scene.specs.Layout.{cell_at, cell_place, number_at}
use Rattle.scene.proofs.view.SceneView.cells.Goals as goal

pub returns : goal.returns
returns c =
    let b = c.args.self.now.bytes.now in
    c.from.ensures
    ∙ c.count.ensures
    ∙ sym (length-map-range_with_len (λ n. cell_at 3 b (cell_place 3 n)) 0 (number_at b 8))
