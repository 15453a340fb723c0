-- The refusals of a run's calls: each case's number, then its values.
use Rattle.std.specs.Prelude.{ℕ, List, [], ◌∷◌}
use Rattle.protocol.specs.declared.fault.RunFault.{RunFault}
use Rattle.protocol.specs.declared.fault.RunFault.TheVariants.{Kind, Short, Waiting, Board, Turns, Early}

-- how many turns a run has
abbrev pub turn_limit : ℕ
turn_limit = 1000000

abbrev pub run_numbers : RunFault → List ℕ
run_numbers (Kind kind) = 10 ∷ kind ∷ []
run_numbers (Short needed) = 11 ∷ needed ∷ []
run_numbers (Waiting from to) = 12 ∷ from ∷ to ∷ []
run_numbers (Board given) = 13 ∷ given ∷ []
run_numbers Turns = 14 ∷ turn_limit ∷ []
run_numbers (Early board) = 15 ∷ board ∷ []
