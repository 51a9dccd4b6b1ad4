use Rattle.std.proofs.Common.{◌≡◌, take}
use Rattle.prophecy_logic.proofs.state.share_all.Given as goal

abbrev pub invariant-loop-i : goal.invariant-loop-i
invariant-loop-i l = l.all.items ≡ take l.i l.terms
