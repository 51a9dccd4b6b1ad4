use Rattle.std.proofs.Common.{rules}
use Rattle.machine_tests.proofs.RunLemmas.{one_call}
use Rattle.machine_tests.proofs.runs.start.Goals as goal

pub new-requires-3-clause-proper : goal.new-requires-3-clause-proper
new-requires-3-clause-proper c = one_call _ _ _ _ _ c.args.value (search rules) (search rules) (search rules) c.requires.takes_one
