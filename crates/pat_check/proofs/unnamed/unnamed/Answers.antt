use Rattle.std.proofs.Common.{rules, ◌+ℤ◌, ◌∙◌, pos, sym}
use Rattle.pat_check.specs.Settled.{first_integer}
use Rattle.pat_check.proofs.Integers.{below_none, below_more, below_all}
use Rattle.pat_check.proofs.unnamed.unnamed.Goals as goal

pub loop-i-init : goal.loop-i-init
loop-i-init c = below_none (first_integer c.args.kind) c.args.others.now

pub loop-i-preserved : goal.loop-i-preserved
loop-i-preserved c = below_more (first_integer c.args.kind) c.loop-i.i c.args.others.now c.loop-i.invariant (sym c.is_nth_among.ensures ∙ c.if-not-is_nth_among.false)

pub returns-then-is_past : goal.returns-then-is_past
returns-then-is_past c = below_all c.args.kind (first_integer c.args.kind +ℤ pos c.loop-i.i) c.args.others.now c.loop-i.invariant (search rules)

pub returns-then-is_past-2 : goal.returns-then-is_past-2
returns-then-is_past-2 c = below_all c.args.kind (first_integer c.args.kind +ℤ pos c.loop-i.i) c.args.others.now c.loop-i.invariant (search rules)
