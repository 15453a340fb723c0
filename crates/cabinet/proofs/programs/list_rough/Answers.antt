-- The media of the program hide nothing.
use Rattle.cabinet.proofs.ProgramLemmas.{one_rough_page}
use Rattle.cabinet.proofs.programs.list_rough.Goals as goal

pub returns-clause-one : goal.returns-clause-one
returns-clause-one c = one_rough_page

pub returns-in_err-list-clause-one : goal.returns-in_err-list-clause-one
returns-in_err-list-clause-one c = one_rough_page
