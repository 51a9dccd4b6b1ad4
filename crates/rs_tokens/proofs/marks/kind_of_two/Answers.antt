use Rattle.std.proofs.Common.{arith}
use Rattle.rs_tokens.proofs.FirstBytes.{no_pair}
use Rattle.rs_tokens.proofs.marks.kind_of_two.Goals as goal

pub returns-in_default : goal.returns-in_default
returns-in_default c = no_pair c.args.first c.args.second c.if-first-second.false (omega arith) (omega arith)
