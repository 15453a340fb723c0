-- What is told of the boards of a run that is over.
use Rattle.std.specs.Prelude.{ℕ, List}
use Rattle.plan.specs.declared.records.Edge.{Edge}
use Rattle.protocol.specs.declared.table.Link.{Link}
use Rattle.protocol.specs.declared.tally.Report.{Report}
use Rattle.protocol.specs.declared.tally.Report.TheVariants.{Settled}
use Rattle.cabinet.specs.Pages.{table_report}
use Rattle.cabinet.specs.declared.outcome.Run.{Run}
use Rattle.cabinet.specs.declared.outcome.Outcome.{Outcome}
use Rattle.cabinet.specs.declared.outcome.Outcome.TheVariants.{Ended, Open}

abbrev outcome_report : Outcome → ℕ → List Edge → List Link → ℕ → Report
outcome_report (Ended run) boards edges links p = Settled
outcome_report (Open run) boards edges links p = table_report boards edges links p

-- all boards of an ended run are settled; of one that goes on, the table tells
abbrev pub run_report : {E : Type 0} → Run E → ℕ → Report
run_report r = outcome_report r.outcome r.plan.now.boards r.plan.now.edges.now r.table.now.links
