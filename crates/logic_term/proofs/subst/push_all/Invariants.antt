use Rattle.std.proofs.Common.{◌≡◌, ◌++◌, drop}
use Rattle.logic_term.specs.Walk.{to_do}
use Rattle.logic_term.proofs.subst.push_all.Given as goal

abbrev pub invariant-loop-i : goal.invariant-loop-i
invariant-loop-i l = to_do l.left.items ≡ drop l.i l.terms ++ to_do l.initial.left.items
