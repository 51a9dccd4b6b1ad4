-- What makes a walk over types end.
use Rattle.std.proofs.Common.{◌≡◌, ◌<◌, ℕ, List, length, get_or}
use Rattle.logic_term.specs.Ty.{Ty}
use Rattle.logic_term.specs.TyFalls as falls
use Rattle.logic_term.specs.TyView.{ty_size, tys_size, tys_of}

pub each_smaller : (ts : List Ty) (i : ℕ) (t : Ty) → t ≡ get_or ts i t → i < length ts → ty_size t < tys_size (tys_of ts)
each_smaller ts i t e l = falls.each_smaller ts i t e l
