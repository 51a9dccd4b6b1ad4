use Rattle.std.proofs.Common.{◌∙◌, sym, subst, arith}
use Rattle.pat_types.specs.Answers.{Gives}
use Rattle.pat_types.specs.PatternTyping.{typed}
use Rattle.pat_types.proofs.Counts.{one_missing, one_too_many}
use Rattle.pat_types.proofs.TypeLists.{nth_of}
use Rattle.pat_types.proofs.typing.+type_pattern.Goals as goal

pub type_field-returns : goal.type_field-returns
type_field-returns t c =
    subst (λ u. Gives c.type_under.result (typed c.args.types.now c.args.mode c.args.names.now.items c.args.pattern.now u) c.type_under.new.names.items)
    (c.index-wanted-number.is ∙ sym (nth_of c.args.wanted.now c.args.number c.index-wanted-number.result (omega (arith, c.if-number-wanted.false)))) c.type_under.ensures

pub type_parts-returns-then-i-wanted : goal.type_parts-returns-then-i-wanted
type_parts-returns-then-i-wanted t c =
    rw c.mismatch.ensures
    (c.loop-i.invariant ∙ one_too_many c.args.types.now c.args.mode c.args.span c.loop-i.made.items c.loop-i.names.items c.args.parts.now c.args.wanted.now c.loop-i.i c.loop-i-test.true c.if-i-wanted.true)

pub type_parts-returns-then-parts-wanted : goal.type_parts-returns-then-parts-wanted
type_parts-returns-then-parts-wanted t c =
    rw c.mismatch-then-parts-wanted.ensures
    (c.loop-i.invariant
    ∙ one_missing c.args.types.now c.args.mode c.args.span c.loop-i.made.items c.loop-i.names.items c.args.parts.now c.args.wanted.now c.loop-i.i c.loop-i-test.false
    (omega (arith, c.loop-i.auto.i-end, c.if-parts-wanted.true)))
