-- One line more.
use Rattle.std.proofs.Common.{◌++◌, vec_items}
use Rattle.std.specs.Iterator.Adapters.{zip_first, zip_second}
use Rattle.std.specs.Slice.Iter.{iter_rest}
use Rattle.std.proofs.lemmas.Slice.Zip.{either_empty_from_Zip}
use Rattle.cabinet.specs.Pages.{copies_page}
use Rattle.cabinet.proofs.Pages.{copies_done}
use Rattle.cabinet.proofs.page.add_copies.Goals as goal

pub returns : goal.returns
returns g c =
    let before = c.loop-record.record-iterator in
    copies_done g.E.Element.algebra (vec_items c.loop-record.page)
    (vec_items c.args.page.now
    ++ copies_page g.E.Element.algebra c.args.records.now c.args.values.now)
    (iter_rest (zip_first before)) (iter_rest (zip_second before))
    (either_empty_from_Zip before c.next.new.self c.next.result c.in-None.is c.next.ensures.steps)
    c.loop-record.invariant
