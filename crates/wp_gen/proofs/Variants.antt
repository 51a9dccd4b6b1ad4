-- Commands of variants.
use Rattle.std.proofs.Common.{◌≡◌, refl, ℕ, List, [], Some}
use Rattle.logic_term.specs.declared.declaration.AdtDecl.{AdtDecl}
use Rattle.logic_term.specs.declared.kinds.TyUnary.{TyUnary}
use Rattle.logic_term.specs.declared.kinds.TyUnary.TheVariants.{Boxed, Shared, Unique, View, Snapshot}
use Rattle.logic_term.specs.Ty.{Ty}
use Rattle.logic_term.specs.TyView.{made_by}
use Rattle.mir_ir.specs.declared.body.Body.{Body}
use Rattle.prophecy_logic.specs.Walk.{variant_commands}

-- a box or a reference is of no variant
pub unary_is_no_variant : (b : Body) (ds : List AdtDecl) (x k : ℕ) (op : TyUnary) (t : Ty) → variant_commands b ds x k (Some (made_by op t)) ≡ []
unary_is_no_variant b ds x k Boxed t = refl
unary_is_no_variant b ds x k (Shared r) t = refl
unary_is_no_variant b ds x k (Unique r) t = refl
unary_is_no_variant b ds x k View t = refl
unary_is_no_variant b ds x k Snapshot t = refl
