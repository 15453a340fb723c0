-- The boards below this one are listed.
use Rattle.std.proofs.Common.{◌≡◌, ◌++◌, vec_items}
use Rattle.cabinet.specs.Pages.{boards_page}
use Rattle.cabinet.specs.Told.{run_report}
use Rattle.cabinet.proofs.outcome.Run.add_boards.Given as goal

abbrev pub invariant-loop-board : goal.invariant-loop-board
invariant-loop-board g l =
    vec_items l.page
    ≡ vec_items l.initial.page
    ++ boards_page g.E.Element.algebra (run_report l.self) l.self.plan.now.copies.now l.self.values.now l.board
