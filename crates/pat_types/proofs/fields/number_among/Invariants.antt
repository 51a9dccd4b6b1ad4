use Rattle.std.proofs.Common.{◌≡◌, drop}
use Rattle.pat_types.specs.PatternTyping.{number_from}
use Rattle.pat_types.proofs.fields.number_among.Given as goal

abbrev pub invariant-loop-i : goal.invariant-loop-i
invariant-loop-i l = number_from l.i l.name (drop l.i l.fields) ≡ number_from 0 l.name l.fields
