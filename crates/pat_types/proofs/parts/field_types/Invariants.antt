use Rattle.std.proofs.Common.{◌≡◌, drop, map}
use Rattle.logic_term.specs.Sort.{instances}
use Rattle.logic_term.specs.Theory.{field_ty}
use Rattle.logic_term.specs.TyView.{tys_of}
use Rattle.pat_types.proofs.TypeLists.{after}
use Rattle.pat_types.proofs.parts.field_types.Given as goal

-- those so far and those of what is left are those of all
abbrev pub invariant-loop-i : goal.invariant-loop-i
invariant-loop-i l = after l.types.items (instances (tys_of l.arguments) (tys_of (map field_ty (drop l.i l.fields)))) ≡ instances (tys_of l.arguments) (tys_of (map field_ty l.fields))
