-- Loading: what own sums answer, in a state.
use Rattle.std.specs.Prelude.{List, Ok, Err, Result}
use Rattle.element.specs.Algebra.{Algebra}
use Rattle.scene.specs.Cells.{Scene}
use Rattle.plan.specs.declared.records.CopyRecord.{CopyRecord}
use Rattle.protocol.specs.declared.fault.RunFault.{RunFault}
use Rattle.sums.specs.Sums.{SumsAnswers}
use Rattle.exchange.specs.declared.run.Loaded.{Loaded}

-- the state holds how many copies were set; all else is as own sums answer
abbrev pub LoadAnswers : {M : Type 0} → Algebra M → Scene → List CopyRecord → List M → List M
    → Result Loaded RunFault → Type 0
LoadAnswers A s records memory memory' (Ok l) = SumsAnswers A s records memory memory' (Ok l.copies)
LoadAnswers A s records memory memory' (Err f) = SumsAnswers A s records memory memory' (Err f)
