use Rattle.std.proofs.Common.{◌≡◌, ◌∷◌, ◌++◌, length, map, sym, ap, ◌∙◌}
use Rattle.std.proofs.lemmas.Result.{IfOk-weaker}
use Rattle.logic_term.specs.Tasks.{enter, apply_last, steps, steps_of}
use Rattle.logic_term.specs.Term.{made}
use Rattle.logic_term.specs.TermView.{term_of}
use Rattle.logic_term.proofs.TasksWalk.{make_steps}
use Rattle.logic_term.proofs.term.Term.enter.Goals as goal

pub returns-in-Make-clause-tasks : goal.returns-in-Make-clause-tasks
returns-in-Make-clause-tasks c =
    IfOk-weaker c.push_make.result
    (λ x. steps c.push_make.new.tasks.items ≡ map enter c.deref.result.now ++ apply_last (made c.in-Make.ctor) (length c.deref.result.now) ∷ steps c.args.tasks.now.items)
    (λ x. steps c.push_make.new.tasks.items ≡ steps_of c.args.depth.now c.args.self.now ++ steps c.args.tasks.now.items)
    (λ x p. make_steps c.args.depth.now c.in-Make.ctor c.in-Make.parts.items c.deref.result.now c.args.self.now _ _ (sym c.node.ensures ∙ ap term_of c.in-Make.is) c.deref.ensures.value p)
    c.push_make.ensures
