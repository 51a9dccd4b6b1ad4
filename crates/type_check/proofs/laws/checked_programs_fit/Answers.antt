use Rattle.type_check.proofs.Whole.{fits_program, good_program}
use Rattle.type_check.proofs.laws.checked_programs_fit.Goals as goal

pub returns-clause-fits : goal.returns-clause-fits
returns-clause-fits c = λ ds is p h. fits_program ds is p h

pub returns-clause-good : goal.returns-clause-good
returns-clause-good c = λ ds is p h. good_program ds is p h
