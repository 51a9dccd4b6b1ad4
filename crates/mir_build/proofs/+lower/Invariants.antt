use Rattle.std.proofs.Common.{suc, ◌≡◌, ◌+◌, ◌*◌, ◌++◌, ◌≤◌, None, max, take, drop, length, map}
use Rattle.type_check.specs.TypedExprView.{typed_size, stmts_size, stmts_of, exprs_size, exprs_of, arms_size, arms_of}
use Rattle.mir_build.specs.Lowering.{moved}
use Rattle.mir_build.specs.Numbered.{into, rest, labels, locals, args, temporaries, labels_of, locals_of, labels_in, locals_in}
use Rattle.mir_build.specs.Tasks.{to_do, behind_size, task_size, tasks_text, tasks_labels, tasks_locals, tasks_size, tasks_reach, tasks_bad, tasks_weight}
use Rattle.mir_build.specs.Reach.{reach, reach_of}
use Rattle.mir_build.specs.Built.{written, around, end_of}
use Rattle.mir_build.specs.Bindings.{left_of}
use Rattle.mir_build.proofs.MatchParts.{arm_size, tests_size}
use Rattle.mir_build.proofs.+lower.Given as goal

abbrev pub decreases-expression::lower_into : goal.decreases-expression::lower_into
decreases-expression::lower_into l = 8 * typed_size l.e.now + 2

abbrev pub decreases-expression::do_task : goal.decreases-expression::do_task
decreases-expression::do_task l = 8 * task_size l.task + 1

abbrev pub decreases-expression::lower_left : goal.decreases-expression::lower_left
decreases-expression::lower_left l = 8 * typed_size l.e.now

abbrev pub decreases-expression::lower_behind : goal.decreases-expression::lower_behind
decreases-expression::lower_behind l = 8 * behind_size l.pending.now.behind + 4

abbrev pub decreases-expression::lower_lazy : goal.decreases-expression::lower_lazy
decreases-expression::lower_lazy l = 8 * typed_size l.y.now + 3

abbrev pub decreases-expression::lower_new : goal.decreases-expression::lower_new
decreases-expression::lower_new l = 8 * typed_size l.e.now + 3

abbrev pub decreases-expression::lower_assign : goal.decreases-expression::lower_assign
decreases-expression::lower_assign l = 8 * max (typed_size l.to.now) (typed_size l.x.now) + 5

abbrev pub decreases-expression::lower_update : goal.decreases-expression::lower_update
decreases-expression::lower_update l = 8 * max (typed_size l.to.now) (typed_size l.x.now) + 5

abbrev pub decreases-expression::lower_branch : goal.decreases-expression::lower_branch
decreases-expression::lower_branch l = 8 * max (typed_size l.x.now) (typed_size l.y.now) + 5

abbrev pub decreases-expression::lower_choice : goal.decreases-expression::lower_choice
decreases-expression::lower_choice l = 8 * max (typed_size l.x.now) (max (typed_size l.y.now) (typed_size l.z.now)) + 6

abbrev pub decreases-expression::lower_join : goal.decreases-expression::lower_join
decreases-expression::lower_join l = 8 * max (typed_size l.x.now) (max (typed_size l.y.now) (typed_size l.z.now)) + 5

abbrev pub decreases-expression::lower_fork : goal.decreases-expression::lower_fork
decreases-expression::lower_fork l = 8 * max (typed_size l.x.now) (max (typed_size l.y.now) (typed_size l.z.now)) + 5

abbrev pub decreases-loops::lower_repeat : goal.decreases-loops::lower_repeat
decreases-loops::lower_repeat l = 8 * max (typed_size l.x.now) (typed_size l.y.now) + 5

abbrev pub decreases-loops::lower_loop : goal.decreases-loops::lower_loop
decreases-loops::lower_loop l = 8 * max (typed_size l.x.now) (typed_size l.y.now) + 4

abbrev pub decreases-expression::lower_return : goal.decreases-expression::lower_return
decreases-expression::lower_return l = 8 * typed_size l.x.now + 3

abbrev pub decreases-loops::lower_endless : goal.decreases-loops::lower_endless
decreases-loops::lower_endless l = 8 * typed_size l.x.now + 4

abbrev pub decreases-loops::lower_until_break : goal.decreases-loops::lower_until_break
decreases-loops::lower_until_break l = 8 * typed_size l.x.now + 4

abbrev pub decreases-expression::lower_call : goal.decreases-expression::lower_call
decreases-expression::lower_call l = 8 * exprs_size (exprs_of l.es.now) + 5

abbrev pub decreases-expression::lower_make : goal.decreases-expression::lower_make
decreases-expression::lower_make l = 8 * exprs_size (exprs_of l.es.now) + 5

abbrev pub decreases-expression::lower_neg : goal.decreases-expression::lower_neg
decreases-expression::lower_neg l = 8 * typed_size l.x.now + 4

abbrev pub decreases-expression::lower_not : goal.decreases-expression::lower_not
decreases-expression::lower_not l = 8 * typed_size l.x.now + 4

abbrev pub decreases-expression::lower_args : goal.decreases-expression::lower_args
decreases-expression::lower_args l = 8 * exprs_size (exprs_of l.es.now)

abbrev pub decreases-expression::lower_rest : goal.decreases-expression::lower_rest
decreases-expression::lower_rest l = 8 * stmts_size (stmts_of l.statements.now (end_of l.end))

abbrev pub decreases-matches::lower_match : goal.decreases-matches::lower_match
decreases-matches::lower_match l = 8 * max (typed_size l.value.now) (arms_size (arms_of l.arms.now)) + 5

abbrev pub decreases-matches::lower_matched : goal.decreases-matches::lower_matched
decreases-matches::lower_matched l = 8 * typed_size l.value.now + 4

abbrev pub decreases-matches::lower_tests : goal.decreases-matches::lower_tests
decreases-matches::lower_tests l = tests_size (arm_size (arms_of l.arms.now)) l.tree.now

abbrev pub decreases-matches::lower_sides : goal.decreases-matches::lower_sides
decreases-matches::lower_sides l = suc (max (tests_size (arm_size (arms_of l.arms.now)) l.yes.now) (tests_size (arm_size (arms_of l.arms.now)) l.no.now))

abbrev pub decreases-matches::lower_arm : goal.decreases-matches::lower_arm
decreases-matches::lower_arm l = 8 * arm_size (arms_of l.arms.now) l.number + 4

abbrev pub decreases-matches::lower_bound : goal.decreases-matches::lower_bound
decreases-matches::lower_bound l = 8 * typed_size l.body.now + 3

abbrev pub invariant-expression::lower_into-loop-task : goal.invariant-expression::lower_into-loop-task
invariant-expression::lower_into-loop-task l = record {
  text : written (tasks_text (to_do l.tasks.items) (around l.c) l.b.labels (length l.b.text.locals)) l.b.text ≡ written (into l.e (around l.initial.c) l.initial.b.labels (length l.initial.b.text.locals) l.d) l.initial.b.text;
  labels : l.b.labels + tasks_labels (to_do l.tasks.items) ≡ l.initial.b.labels + labels l.e;
  locals : length l.b.text.locals + tasks_locals (to_do l.tasks.items) ≡ length l.initial.b.text.locals + locals l.e;
  most : l.initial.b.labels ≤ 4096 → l.b.labels ≤ 4096;
  around : around l.c ≡ around l.initial.c;
  count : length l.c.scope.items ≡ length l.initial.c.scope.items;
  size : tasks_size (to_do l.tasks.items) ≤ typed_size l.e;
  reach : tasks_reach (to_do l.tasks.items) ≤ reach l.e;
  good : tasks_bad (to_do l.tasks.items) ≡ None;
}

abbrev pub decreases-expression::lower_into-loop-task : goal.decreases-expression::lower_into-loop-task
decreases-expression::lower_into-loop-task l = tasks_weight (to_do l.tasks.items)

abbrev pub invariant-expression::lower_args-loop-e : goal.invariant-expression::lower_args-loop-e
invariant-expression::lower_args-loop-e l = record {
  text : written (args (exprs_of (drop l.e-index l.es)) (around l.c) l.b.labels (length l.b.text.locals)) l.b.text ≡ written (args (exprs_of l.es) (around l.initial.c) l.initial.b.labels (length l.initial.b.text.locals)) l.initial.b.text;
  labels : l.b.labels + labels_in (exprs_of (drop l.e-index l.es)) ≡ l.initial.b.labels + labels_in (exprs_of l.es);
  locals : length l.b.text.locals + locals_in (exprs_of (drop l.e-index l.es)) ≡ length l.initial.b.text.locals + locals_in (exprs_of l.es);
  most : l.initial.b.labels ≤ 4096 → l.b.labels ≤ 4096;
  around : around l.c ≡ around l.initial.c;
  count : length l.c.scope.items ≡ length l.initial.c.scope.items;
  operands : l.all ++ map moved (temporaries (exprs_of (drop l.e-index l.es)) (length l.b.text.locals)) ≡ map moved (temporaries (exprs_of l.es) (length l.initial.b.text.locals));
}

abbrev pub invariant-expression::lower_rest-loop-statement : goal.invariant-expression::lower_rest-loop-statement
invariant-expression::lower_rest-loop-statement l =
    let left = stmts_of (drop l.statement-index l.statements) (end_of l.end) in
    let all = stmts_of l.statements (end_of l.end) in
    record {
      text : written (left_of left l.outer l.span l.before (around l.c) l.b.labels (length l.b.text.locals) l.d) l.b.text ≡ written (rest all l.outer l.span (around l.initial.c) l.initial.b.labels (length l.initial.b.text.locals) l.d) l.initial.b.text;
      labels : l.b.labels + labels_of left ≡ l.initial.b.labels + labels_of all;
      locals : length l.b.text.locals + locals_of left ≡ length l.initial.b.text.locals + locals_of all;
      most : l.initial.b.labels ≤ 4096 → l.b.labels ≤ 4096;
      before : l.before ≤ length l.c.scope.items;
      reach : reach_of left ≤ length l.c.scope.items;
      scope : take l.before l.c.scope.items ≡ l.initial.c.scope.items;
      types : l.c.types.now ≡ l.initial.c.types.now;
      loops : l.c.loops.items ≡ l.initial.c.loops.items;
    }
