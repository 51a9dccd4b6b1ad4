use Rattle.runnable.proofs.Unrun.{each_is_plain, each_runs}
use Rattle.runnable.proofs.laws.programs_that_run_are_plain.Goals as goal

pub returns-clause-plain : goal.returns-clause-plain
returns-clause-plain c = λ ds p h. each_is_plain ds p.functions h

pub returns-clause-runs : goal.returns-clause-runs
returns-clause-runs c = λ ds p h. each_runs ds p.functions h
