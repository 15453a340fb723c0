-- The page so far, with the lines of the copies still to come, is the page at the end.
use Rattle.std.proofs.Common.{◌≡◌, ◌++◌, vec_items}
use Rattle.std.specs.Iterator.Adapters.{zip_first, zip_second}
use Rattle.std.specs.Slice.Iter.{iter_rest}
use Rattle.cabinet.specs.Pages.{copies_page}
use Rattle.cabinet.proofs.page.add_copies.Given as goal

abbrev pub invariant-loop-record : goal.invariant-loop-record
invariant-loop-record g l =
    let A = g.E.Element.algebra in
    vec_items l.page
    ++ copies_page A (iter_rest (zip_first l.record-iterator)) (iter_rest (zip_second l.record-iterator))
    ≡ vec_items l.initial.page ++ copies_page A l.records l.values
