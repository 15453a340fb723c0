-- Right rows, numbers and roots say the scene's copies and edges, and how many there are.
use Rattle.std.proofs.Common.{◌≡◌, ◌≤◌, rules, take, length, ap, ◌∙◌, arith}
use Rattle.std.proofs.lemmas.List.{length-take}
use Rattle.scene.proofs.Viewing.{view_sound}
use Rattle.scene.specs.Views.{viewed}
use Rattle.laying.specs.Tables.{number_in}
use Rattle.laying.proofs.Corners.{read_from}
use Rattle.laying.proofs.Sizes.{number_taken}
use Rattle.laying.proofs.Tied.{rows_are, copies_counted, owners_are, roots_are, tables_right}
use Rattle.laying.proofs.Totals.{counted}
use Rattle.laying.proofs.tables.Tables.fill.Goals as goal

pub slice_bounds-read-end : goal.slice_bounds-read-end
slice_bounds-read-end c = omega (arith, c.cells.ensures, (view_sound c.args.scene.now).few_cells)

pub slice_bounds-cells-end : goal.slice_bounds-cells-end
slice_bounds-cells-end c =
    omega (
      arith,
      c.cells.ensures,
      (view_sound c.args.scene.now).few_cells,
      length-take c.cells.result c.corners-read.result,
    )

pub own_vertices-own-requires : goal.own_vertices-own-requires
own_vertices-own-requires c =
    read_from c.args.scene.now c.corners-read.result c.cells.result c.cells.ensures (omega arith) c.corners-read.ensures

pub keepers-near-requires-clause-read : goal.keepers-near-requires-clause-read
keepers-near-requires-clause-read c =
    read_from c.args.scene.now c.corners-read.result c.cells.result c.cells.ensures (omega arith) c.corners-read.ensures

pub overflow_sub-edges : goal.overflow_sub-edges
overflow_sub-edges c =
    let s = viewed c.args.scene.now in
    let ok = view_sound c.args.scene.now in
    let kept = c.flag_all.new.rows in
    let b = c.boards-boards.result in
    let n = c.vertices-vertices.result in
    let boards = c.boards-boards.ensures in
    let vertices = c.vertices-vertices.ensures in
    let owners = c.owners.result in
    let roots = c.roots-roots.result.items in
    let size : length (take b kept) ≡ b = omega (arith, length-take b kept, ok.few_boards) in
    let rows = rows_are s ok kept c.keepers-near.result c.flag_all.ensures c.keepers-near.ensures in
    let below : c.len.result ≤ c.number_all-copies.result = omega (
      arith,
      copies_counted s ok kept rows b n _ boards vertices size c.number_all-copies.ensures.count,
      counted s ok (take n owners)
          (owners_are s ok owners n vertices c.owners.ensures) roots
          (roots_are s ok owners n vertices b roots boards (omega arith) c.roots-roots.ensures),
      c.len.ensures.value,
    ) in
    search rules

pub invariant_of-self : goal.invariant_of-self
invariant_of-self c =
    let ok = view_sound c.args.scene.now in
    record {
      few = omega (arith, c.boards-boards.ensures, ok.few_boards);
      small = omega (arith, c.vertices-vertices.ensures, ok.few_vertices);
    }

pub returns-clause-copies : goal.returns-clause-copies
returns-clause-copies c =
    let s = viewed c.args.scene.now in
    let ok = view_sound c.args.scene.now in
    let kept = c.flag_all.new.rows in
    let b = c.boards-boards.result in
    let size : length (take b kept) ≡ b = omega (arith, length-take b kept, ok.few_boards) in
    let rows = rows_are s ok kept c.keepers-near.result c.flag_all.ensures c.keepers-near.ensures in
    copies_counted s ok kept rows b c.vertices-vertices.result _ c.boards-boards.ensures
    c.vertices-vertices.ensures size c.number_all-copies.ensures.count

pub returns-clause-edges : goal.returns-clause-edges
returns-clause-edges c =
    let s = viewed c.args.scene.now in
    let ok = view_sound c.args.scene.now in
    let kept = c.flag_all.new.rows in
    let b = c.boards-boards.result in
    let n = c.vertices-vertices.result in
    let boards = c.boards-boards.ensures in
    let vertices = c.vertices-vertices.ensures in
    let owners = c.owners.result in
    let roots = c.roots-roots.result.items in
    let size : length (take b kept) ≡ b = omega (arith, length-take b kept, ok.few_boards) in
    let rows = rows_are s ok kept c.keepers-near.result c.flag_all.ensures c.keepers-near.ensures in
    omega (
      arith,
      copies_counted s ok kept rows b n _ boards vertices size c.number_all-copies.ensures.count,
      counted s ok (take n owners)
          (owners_are s ok owners n vertices c.owners.ensures) roots
          (roots_are s ok owners n vertices b roots boards (omega arith) c.roots-roots.ensures),
      c.len.ensures.value,
    )

pub returns-clause-right : goal.returns-clause-right
returns-clause-right c =
    let s = viewed c.args.scene.now in
    let ok = view_sound c.args.scene.now in
    let kept = c.flag_all.new.rows in
    let b = c.boards-boards.result in
    let n = c.vertices-vertices.result in
    let vertices = c.vertices-vertices.ensures in
    let owners = c.owners.result in
    let roots = c.roots-roots.result.items in
    let rows : length (take b kept) ≡ b = omega (arith, length-take b kept, ok.few_boards) in
    tables_right s ok kept (rows_are s ok kept c.keepers-near.result c.flag_all.ensures c.keepers-near.ensures)
    c.number_all-copies.new.numbers (take n owners) roots
    (λ p h v l.
    c.number_all-copies.ensures.held p (omega arith) v (omega arith)
    ∙ number_taken kept b n p v (omega arith)
    ∙ ap (λ m. number_in kept m p v) vertices)
    (owners_are s ok owners n vertices c.owners.ensures)
    (roots_are s ok owners n vertices b roots c.boards-boards.ensures (omega arith) c.roots-roots.ensures)
