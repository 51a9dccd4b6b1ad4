use Rattle.std.proofs.Common.{arith}
use Rattle.pearlite.proofs.PartLists.{last_taken, front_left, none_taken, none_left}
use Rattle.pearlite.proofs.parts.take_last.Goals as goal

pub returns-then-len-eq0-clause-value : goal.returns-then-len-eq0-clause-value
returns-then-len-eq0-clause-value c = none_taken c.args.parts.now.items (omega arith)

pub returns-then-len-eq0-clause-rest : goal.returns-then-len-eq0-clause-rest
returns-then-len-eq0-clause-rest c = none_left c.args.parts.now.items (omega arith)

pub returns-clause-value : goal.returns-clause-value
returns-clause-value c = last_taken c.args.parts.now.items c.remove.result (omega arith) c.remove.ensures.value

pub returns-clause-rest : goal.returns-clause-rest
returns-clause-rest c = front_left c.args.parts.now.items c.remove.new.self.items c.remove.ensures.by_index.2
