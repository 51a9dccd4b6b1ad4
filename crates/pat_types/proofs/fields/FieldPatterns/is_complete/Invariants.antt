use Rattle.std.proofs.Common.{◌≡◌, drop}
use Rattle.pat_types.specs.PatternTyping.{all_given}
use Rattle.pat_types.proofs.fields.FieldPatterns.is_complete.Given as goal

abbrev pub invariant-loop-given : goal.invariant-loop-given
invariant-loop-given l = all_given (drop l.given-index l.self.given.items) ≡ all_given l.self.given.items
