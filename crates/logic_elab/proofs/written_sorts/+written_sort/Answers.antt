use Rattle.std.proofs.Common.{◌≡◌, ◌∙◌, ◌∷◌, [], ◌++◌, arith, rules}
use Rattle.std.proofs.lemmas.Grind.{common_steps}
use Rattle.std.proofs.lemmas.Result.{err_from_is_err_and}
use Rattle.logic_elab.proofs.ArgumentsByPart.{argument_smaller, arguments_more}
use Rattle.logic_elab.proofs.SortByPart.{sort_smaller, sorts_end, sorts_more_all, sorts_stop_all}
use Rattle.logic_elab.proofs.written_sorts.+written_sort.Goals as goal

pub written_sorts-written_sort-requires : goal.written_sorts-written_sort-requires
written_sorts-written_sort-requires t c = (omega (arith, sort_smaller c.args.written.now c.loop-i.i c.index-written-i.result c.index-written-i.is c.loop-i-test.true), tt)

pub written_sorts-returns-in_err-sort : goal.written_sorts-returns-in_err-sort
written_sorts-returns-in_err-sort t c =
    let f = c.in_err-sort.field-0.0 in
    let p = err_from_is_err_and c.from_residual-in_err-sort.result c.from_residual-in_err-sort.ensures.1 in
    rw (p.1, p.2)
    (sorts_stop_all f c.args.declared.now c.args.written.now c.loop-i.i c.index-written-i.result c.loop-i.sorts.items c.index-written-i.is c.loop-i-test.true c.loop-i.invariant c.in_err-sort.ensures)

pub written_sorts-loop-i-preserved : goal.written_sorts-loop-i-preserved
written_sorts-loop-i-preserved t c =
    let pushed : c.push.new.self.items ≡ c.loop-i.sorts.items ++ c.in_ok-sort.sort ∷ [] = first_of (search rules, grind (arith, common_steps)) in
    sorts_more_all c.args.declared.now c.args.written.now c.loop-i.i c.index-written-i.result c.loop-i.sorts.items c.push.new.self.items c.in_ok-sort.sort c.index-written-i.is c.loop-i-test.true c.in_ok-sort.ensures pushed c.loop-i.invariant

pub written_sorts-returns : goal.written_sorts-returns
written_sorts-returns t c = c.loop-i.invariant ∙ sorts_end c.args.declared.now c.args.written.now c.loop-i.i c.loop-i.sorts.items (omega arith)

pub argument_sorts-written_sort-requires : goal.argument_sorts-written_sort-requires
argument_sorts-written_sort-requires t c =
    (omega (arith, argument_smaller c.args.arguments.now c.loop-i.i c.index-arguments-i.result c.in-Type.written c.index-arguments-i.is c.loop-i-test.true c.in-Type.is), tt)

pub argument_sorts-loop-i-preserved : goal.argument_sorts-loop-i-preserved
argument_sorts-loop-i-preserved t c =
    let pushed : c.push.new.self.items ≡ c.loop-i.sorts.items ++ c.in_ok-sort.sort ∷ [] = first_of (search rules, grind (arith, common_steps)) in
    arguments_more c.args.declared.now c.args.span c.args.arguments.now c.loop-i.i c.index-arguments-i.result c.in-Type.written c.loop-i.sorts.items c.push.new.self.items c.in_ok-sort.sort
    c.index-arguments-i.is c.loop-i-test.true c.in-Type.is c.in_ok-sort.ensures pushed c.loop-i.invariant
