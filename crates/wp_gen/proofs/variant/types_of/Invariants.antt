use Rattle.std.proofs.Common.{◌≡◌, take, map}
use Rattle.logic_term.specs.Sort.{instance}
use Rattle.logic_term.specs.TyView.{tys_of}
use Rattle.wp_gen.proofs.variant.types_of.Given as goal

abbrev pub invariant-loop-field : goal.invariant-loop-field
invariant-loop-field l = l.all.items ≡ map (λ f. instance (tys_of l.types) f.ty) (take l.field-index l.fields)
