use Rattle.std.proofs.Common.{◌≡◌, ◌+◌, ◌*◌, ◌∙◌, [], arith, rules}
use Rattle.std.proofs.lemmas.Result.{err_from_is_err_and}
use Rattle.source_trees.specs.PtermView.{pterm_size, span_of}
use Rattle.logic_elab.specs.Binders.{inside}
use Rattle.logic_elab.proofs.Stops.{along}
use Rattle.logic_elab.proofs.PartByPart.{part_smaller, parts_end, parts_more_all}
use Rattle.logic_elab.proofs.Chains.{climbed_refuses, sizes_up, up, up_refuses}
use Rattle.logic_elab.proofs.elaborating.+elaborate.Goals as goal

pub elaborate_under-returns-in_err-made : goal.elaborate_under-returns-in_err-made
elaborate_under-returns-in_err-made g t c =
    let f = c.in_err-made.field-0.0 in
    let p = err_from_is_err_and c.from_residual-in_err-made.result c.from_residual-in_err-made.ensures.1 in
    rw (p.1, p.2)
    (along f _ _ (c.in_ok-operations.ensures.elaborated (g.S.TermScope.scope c.args.scope.now) (inside [] c.args.bound.now))
    (climbed_refuses (g.S.TermScope.scope c.args.scope.now) (inside [] c.args.bound.now) f c.in_ok-operations.field-0.operations.items _ c.in_err-made.ensures))

pub elaborate_under-elaborate_behind-requires : goal.elaborate_under-elaborate_behind-requires
elaborate_under-elaborate_behind-requires g t c =
    let measure : 4 * pterm_size c.args.t.now + 1 ≡ t = c.decreases in
    let sizes = sizes_up c.pop.new.self.items c.loop-operation.operations.items c.in-Some.operation _ c.in-Some.ensures.items c.loop-operation.invariant.smaller in
    λ κs within. (omega (arith, measure, sizes.1), within)

pub elaborate_under-returns-in_err-made-2 : goal.elaborate_under-returns-in_err-made-2
elaborate_under-returns-in_err-made-2 g t c =
    let f = c.in_err-made-2.field-0.0 in
    let p = err_from_is_err_and c.from_residual-in_err-made-2.result c.from_residual-in_err-made-2.ensures.1 in
    rw (p.1, p.2)
    (along f _ _ c.loop-operation.invariant.so_far
    (up_refuses (g.S.TermScope.scope c.args.scope.now) (inside [] c.args.bound.now) f c.pop.new.self.items c.loop-operation.operations.items c.in-Some.operation c.loop-operation.made c.in-Some.ensures.items c.in_err-made-2.ensures))

pub elaborate_under-loop-operation-preserved : goal.elaborate_under-loop-operation-preserved
elaborate_under-loop-operation-preserved g t c =
    let sizes = sizes_up c.pop.new.self.items c.loop-operation.operations.items c.in-Some.operation _ c.in-Some.ensures.items c.loop-operation.invariant.smaller in
    record {
      so_far =
          c.loop-operation.invariant.so_far
          ∙ up (g.S.TermScope.scope c.args.scope.now) (inside [] c.args.bound.now) c.pop.new.self.items c.loop-operation.operations.items c.in-Some.operation c.loop-operation.made c.in_ok-made-2.made c.in-Some.ensures.items c.in_ok-made-2.ensures;
      smaller = sizes.0;
    }

pub elaborate_form-returns-in-If : goal.elaborate_form-returns-in-If
elaborate_form-returns-in-If g t c =
    let h = c.elaborate_choice.ensures (span_of c.args.t.now) in
    search (rules, h)

pub elaborate_form-returns-in-Quantified : goal.elaborate_form-returns-in-Quantified
elaborate_form-returns-in-Quantified g t c =
    let h = c.elaborate_quantified.ensures (span_of c.args.t.now) in
    search (rules, h)

pub elaborate_parts-elaborate_under-requires : goal.elaborate_parts-elaborate_under-requires
elaborate_parts-elaborate_under-requires g t c κs within = (omega (arith, part_smaller c.args.parts.now c.loop-i.i c.index-parts-i.result c.index-parts-i.is c.loop-i-test.true), within)

pub elaborate_parts-loop-i-preserved : goal.elaborate_parts-loop-i-preserved
elaborate_parts-loop-i-preserved g t c =
    parts_more_all (g.S.TermScope.scope c.args.scope.now) (inside [] c.args.bound.now) c.args.parts.now c.loop-i.i c.index-parts-i.result c.loop-i.made.sorts.items c.push.new.self.sorts.items c.loop-i.made.terms.items c.push.new.self.terms.items c.in_ok-part.part
    c.index-parts-i.is c.loop-i-test.true c.in_ok-part.ensures c.in_ok-push.ensures.sorts c.in_ok-push.ensures.terms c.loop-i.invariant

pub elaborate_parts-returns : goal.elaborate_parts-returns
elaborate_parts-returns g t c =
    c.loop-i.invariant
    ∙ parts_end (g.S.TermScope.scope c.args.scope.now) (inside [] c.args.bound.now) c.args.parts.now c.loop-i.i c.loop-i.made.sorts.items c.loop-i.made.terms.items (omega arith)
