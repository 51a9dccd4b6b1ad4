use Rattle.std.proofs.Common.{drop, ◌+◌, get_or, refl, sym, ap, ◌∙◌, arith, append-nil, drop_of_length-le}
use Rattle.std.proofs.lemmas.Grind.{common_steps}
use Rattle.std.proofs.lemmas.List.{drop_more, nil_from_length}
use Rattle.grammar_tables.specs.declared.evaluating.Work.TheVariants.{Visit}
use Rattle.grammar_tables.specs.Tables.{grammar_in, grammar_of, body_at, lists_in}
use Rattle.grammar_tables.proofs.EvaluatorRuns.{step_shift, step_expand, step_reduce, no_token, no_more_alternatives, too_few, finished}
use Rattle.grammar_tables.proofs.evaluating.evaluate.Goals as goal

pub returns-then-at-count : goal.returns-then-at-count
returns-then-at-count g c =
    no_token (grammar_in c.args.tables.now) (g.V.SemanticValue.actions c.args.context.now) c.args.count c.args.goal c.args.derivation.now c.loop-step.work.items c.pop.new.self.items c.in-Some.step
    (drop c.loop-step.next c.args.derivation.now) c.loop-step.at c.loop-step.values.items c.in-Some.ensures.items c.loop-step.invariant.on c.in-Terminal.terminal
    (c.in-Visit.is ∙ ap Visit c.in-Terminal.is) c.if-at-count.true

pub loop-step-preserved-in-Terminal : goal.loop-step-preserved-in-Terminal
loop-step-preserved-in-Terminal g c = record {
  on = step_shift (grammar_in c.args.tables.now) (g.V.SemanticValue.actions c.args.context.now) c.args.count c.args.goal c.args.derivation.now c.loop-step.work.items c.pop.new.self.items c.in-Some.step
      (drop c.loop-step.next c.args.derivation.now) c.loop-step.at c.loop-step.values.items c.in-Some.ensures.items c.loop-step.invariant.on c.in-Terminal.terminal
      (c.in-Visit.is ∙ ap Visit c.in-Terminal.is) c.push_leaf.new.values.items c.in_ok-push_leaf-in-Terminal.ensures;
  empty = c.loop-step.invariant.empty;
}

pub returns-then-next-derivation : goal.returns-then-next-derivation
returns-then-next-derivation g c =
    no_more_alternatives (grammar_in c.args.tables.now) (g.V.SemanticValue.actions c.args.context.now) c.args.count c.args.goal c.args.derivation.now c.loop-step.work.items c.pop.new.self.items
    c.in-Some.step (drop c.loop-step.next c.args.derivation.now) c.loop-step.at c.loop-step.values.items c.in-Some.ensures.items c.loop-step.invariant.on c.in-Nonterminal.nonterminal
    (c.in-Visit.is ∙ ap Visit c.in-Nonterminal.is) (drop_of_length-le c.args.derivation.now c.if-next-derivation.true)

pub loop-step-preserved-in-Nonterminal : goal.loop-step-preserved-in-Nonterminal
unfolding grammar_of
loop-step-preserved-in-Nonterminal g c = record {
  on = step_expand (grammar_in c.args.tables.now) (g.V.SemanticValue.actions c.args.context.now) c.args.count c.args.goal c.args.derivation.now c.loop-step.work.items c.pop.new.self.items
      c.in-Some.step (drop c.loop-step.next c.args.derivation.now) c.loop-step.at c.loop-step.values.items c.in-Some.ensures.items c.loop-step.invariant.on c.in-Nonterminal.nonterminal
      (get_or c.args.derivation.now c.loop-step.next 0) (drop (c.loop-step.next + 1) c.args.derivation.now) (c.in-Visit.is ∙ ap Visit c.in-Nonterminal.is)
      (drop_more c.args.derivation.now c.loop-step.next 0 c.if-next-derivation.false)
      (body_at (lists_in c.args.tables.now) c.in-Nonterminal.nonterminal (get_or c.args.derivation.now c.loop-step.next 0)) refl c.expand.new.work.items (grind (arith, common_steps));
  empty = c.loop-step.invariant.empty;
}

pub returns-then-expansion-len : goal.returns-then-expansion-len
returns-then-expansion-len g c =
    too_few (grammar_in c.args.tables.now) (g.V.SemanticValue.actions c.args.context.now) c.args.count c.args.goal c.args.derivation.now c.loop-step.work.items c.pop.new.self.items c.in-Some.step
    (drop c.loop-step.next c.args.derivation.now) c.loop-step.at c.loop-step.values.items c.in-Some.ensures.items c.loop-step.invariant.on c.in-Reduce.expansion c.in-Reduce.is
    (grind (arith, common_steps))

pub loop-step-preserved : goal.loop-step-preserved
loop-step-preserved g c = record {
  on = step_reduce (grammar_in c.args.tables.now) (g.V.SemanticValue.actions c.args.context.now) c.args.count c.args.goal c.args.derivation.now c.loop-step.work.items c.pop.new.self.items
      c.in-Some.step (drop c.loop-step.next c.args.derivation.now) c.loop-step.at c.loop-step.values.items c.in-Some.ensures.items c.loop-step.invariant.on c.in-Reduce.expansion c.in-Reduce.is
      c.reduce.new.values.items c.in_ok-reduce-in-Reduce.ensures.0;
  empty = c.in_ok-reduce-in-Reduce.ensures.1;
}

pub returns : goal.returns
returns g c =
    finished (grammar_in c.args.tables.now) (g.V.SemanticValue.actions c.args.context.now) c.args.count c.args.goal c.args.derivation.now c.loop-step.work.items
    (drop c.loop-step.next c.args.derivation.now) c.loop-step.at c.loop-step.values.items
    (c.in_default.ensures.items ∙ append-nil c.pop.new.self.items ∙ nil_from_length c.pop.new.self.items (sym c.pop.new.self.ok.0 ∙ c.in_default.ensures.cases.1)) c.loop-step.invariant.on
