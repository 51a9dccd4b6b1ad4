use Rattle.std.proofs.Common.{length, take}
use Rattle.verify_core.specs.Judging.{HasJudged}
use Rattle.verify_core.proofs.judge.judge.Given as goal

abbrev pub invariant-loop-owed : goal.invariant-loop-owed
invariant-loop-owed l = HasJudged l.tables l.proofs (take l.owed-index l.obligations) (length l.bodies) l.judged
