-- One step of the walk down operands on the left.
use Rattle.std.proofs.Common.{◌≡◌, ℕ, ◌+◌, max, List, [], ◌∷◌, ◌++◌, ◌∙◌, ap, sym, None}
use Rattle.std.proofs.lemmas.List.{reverse-append}
use Rattle.mir_build.specs.declared.builder.BodyText.{BodyText}
use Rattle.mir_build.specs.declared.task.Task.{Task}
use Rattle.mir_build.specs.Lowering.{Around}
use Rattle.mir_build.specs.Built.{written}
use Rattle.mir_build.proofs.Accepted.{first_none, second_none}
use Rattle.mir_build.specs.Tasks.{to_do, task_text, task_labels, task_locals, task_size, task_reach, tasks_text, tasks_labels, tasks_locals, tasks_size, tasks_reach, task_bad, tasks_bad}

pub pushed : (ts : List Task) (t : Task) → to_do (ts ++ t ∷ []) ≡ t ∷ to_do ts
pushed ts t = reverse-append ts (t ∷ [])

module _ (old rest : List Task) (t : Task) (e : old ≡ rest ++ t ∷ []) where
  pub popped : to_do old ≡ t ∷ to_do rest
  popped = ap to_do e ∙ pushed rest t

  pub popped_text : (c : Around) (l u : ℕ) (x : BodyText) → written (tasks_text (to_do old) c l u) x ≡ written (task_text t c l u ++ tasks_text (to_do rest) c (l + task_labels t) (u + task_locals t)) x
  popped_text c l u x = ap (λ ts. written (tasks_text ts c l u) x) popped

  pub popped_labels : tasks_labels (to_do old) ≡ task_labels t + tasks_labels (to_do rest)
  popped_labels = ap tasks_labels popped

  pub popped_locals : tasks_locals (to_do old) ≡ task_locals t + tasks_locals (to_do rest)
  popped_locals = ap tasks_locals popped

  pub popped_reach : tasks_reach (to_do old) ≡ max (task_reach t) (tasks_reach (to_do rest))
  popped_reach = ap tasks_reach popped

  pub popped_size : tasks_size (to_do old) ≡ max (task_size t) (tasks_size (to_do rest))
  popped_size = ap tasks_size popped

  pub popped_good : tasks_bad (to_do old) ≡ None → (task_bad t ≡ None) × (tasks_bad (to_do rest) ≡ None)
  popped_good h =
      let both = ap tasks_bad (sym popped) ∙ h in
      (first_none _ _ both, second_none _ _ both)
