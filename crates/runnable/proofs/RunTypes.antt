-- Types that run: the scalar ones, and what is known of each.
use Rattle.std.proofs.Common.{◌≡◌, refl, ap, ◌∙◌, ◌&&◌, true, List}
use Rattle.logic_term.specs.declared.declaration.AdtDecl.{AdtDecl}
use Rattle.logic_term.specs.Ty.{Ty, int, bool, unit_ty}
use Rattle.source_kinds.specs.declared.kinds.IntKind.{IntKind}
use Rattle.rs_types.specs.Copied.{IsCopy, of_int, of_bool, of_tuple, none_copy}
use Rattle.runnable.specs.CopyDecided.{is_copied}
use Rattle.runnable.specs.Runs.{is_owned, Runs}
use Rattle.runnable.proofs.CopyDecided.{tells_copy}
use Rattle.runnable.proofs.Unrun.{both}

module _ (ds : List AdtDecl) where
  -- a Copy type that holds no references runs
  pub runs_by : (t : Ty) → IsCopy ds t → is_owned ds t ≡ true → Runs ds t
  runs_by t h e = ap (λ b. b && is_owned ds t) ((tells_copy ds t).1 h) ∙ e

  pub int_runs : (k : IntKind) → Runs ds (int k)
  int_runs k = runs_by (int k) of_int refl

  pub bool_runs : Runs ds bool
  bool_runs = runs_by bool of_bool refl

  pub unit_runs : Runs ds unit_ty
  unit_runs = runs_by unit_ty (of_tuple none_copy) refl

  pub is_copy : (t : Ty) → Runs ds t → IsCopy ds t
  is_copy t h = (tells_copy ds t).0 (both (is_copied ds t) (is_owned ds t) h).0

  pub owned : (t : Ty) → Runs ds t → is_owned ds t ≡ true
  owned t h = (both (is_copied ds t) (is_owned ds t) h).1
