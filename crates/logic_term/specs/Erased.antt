-- Sorts: the types of mathematical values. A box and a shared reference stand for what they hold, and regions say nothing of values
-- (RustHorn, Matsushita, Tsukada and Kobayashi 2020).
use Rattle.std.specs.Prelude.{◌≡◌, []}
use Rattle.logic_term.specs.Ty.{Ty, Tys, int, bool, math_int, tuple, adt, boxed, shared, unique, param, closure, viewed, snapshot, no_tys, and_ty}

-- the sort of a type
abbrev mutual
  pub erased : Ty → Ty
  erased (int k) = int k
  erased bool = bool
  erased math_int = math_int
  erased (tuple ts) = tuple (all_erased ts)
  erased (adt d rs ts) = adt d [] (all_erased ts)
  erased (boxed t) = erased t
  erased (shared r t) = erased t
  erased (unique r t) = unique (record { 0 = 0 }) (erased t)
  erased (param n) = param n
  erased (closure n ts cs k ps r) = closure n (all_erased ts) (all_erased cs) k (all_erased ps) (erased r)
  erased (viewed t) = viewed (erased t)
  erased (snapshot t) = snapshot (erased t)

  pub all_erased : Tys → Tys
  all_erased no_tys = no_tys
  all_erased (and_ty t ts) = and_ty (erased t) (all_erased ts)

-- the type is a sort
abbrev pub IsSort : Ty → Type 0
IsSort t = erased t ≡ t
