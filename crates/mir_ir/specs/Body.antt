-- What is looked up in bodies.
use Rattle.std.specs.Prelude.{◌==◌, cond, List, [], ◌∷◌, drop, take, Option, Some, None, slice_get}
use Rattle.std.specs.Option.{option_map}
use Rattle.logic_term.specs.declared.kinds.Label.{Label}
use Rattle.source_kinds.specs.declared.kinds.IntKind.{IntKind}
use Rattle.logic_term.specs.Ty.{Ty, Tys, int}
use Rattle.logic_term.specs.TyView.{tys_of}
use Rattle.logic_term.specs.Sort.{instance, instances, nth_ty}
use Rattle.mir_ir.specs.declared.place.Proj.{Proj}
use Rattle.mir_ir.specs.declared.place.Place.{Place}
use Rattle.mir_ir.specs.declared.body.Block.{Block}
use Rattle.mir_ir.specs.declared.body.Body.{Body}
use Rattle.mir_ir.specs.declared.body.Resolves.{Resolves}

-- the first block of the label
abbrev pub block_in : List (Label × Block) → Label → Option Block
block_in [] l = None
block_in (b ∷ bs) l = cond (b.0.0 == l.0) (Some b.1) (block_in bs l)

-- the type of a place, at types for the type parameters. So far places are whole locals
abbrev pub whole : List Proj → Option Ty → Option Ty
whole [] t = t
whole (p ∷ ps) t = None

abbrev pub place_ty : Body → Tys → Place → Option Ty
place_ty b θ p = whole p.path (option_map (instance θ) (slice_get b.locals p.local))

abbrev pub kind_of : Ty → Option IntKind
kind_of (int k) = Some k
kind_of _ = None

abbrev pub kind_in : Option Ty → Option IntKind
kind_in (Some t) = kind_of t
kind_in None = None

-- the types of the parameters and of the answer, at types for the type parameters
abbrev pub param_tys : Body → Tys → Tys
param_tys b θ = instances θ (tys_of (take b.params (drop 1 b.locals)))

abbrev pub answer_ty : Body → Tys → Ty
answer_ty b θ = instance θ (nth_ty (tys_of b.locals) 0)

-- what ends in a body without references
abbrev pub no_resolves : Resolves
no_resolves = record { entry = []; before = []; edges = [] }
