-- Types as they are written: what they mean is refused as it is, and what is built is of a built type.
use Rattle.std.proofs.Common.{◌≡◌, List, Option, Some, None, Result, Ok, subst}
use Rattle.text_core.specs.declared.fault.PassError.{PassError}
use Rattle.text_core.specs.declared.fault.PassError.TheVariants as fault
use Rattle.text_core.specs.declared.refusal.SourceError.{SourceError}
use Rattle.text_core.specs.declared.span.Span.{Span}
use Rattle.logic_term.specs.declared.declaration.AdtDecl.{AdtDecl}
use Rattle.logic_term.specs.Ty.{Ty}
use Rattle.rs_types.specs.declared.written.Elision.{Elision}
use Rattle.rs_types.specs.declared.written.Elision.TheVariants.{Erased}
use Rattle.rs_types.specs.Meant as rs
use Rattle.rs_types.specs.Meant.{meant}
use Rattle.source_trees.specs.TypeTree.{TypeTree}
use Rattle.source_trees.specs.TypeTreeView.{span_of as type_span}
use Rattle.type_check.specs.Answers.{Refuses, unbuilt}
use Rattle.type_check.specs.Types.{is_built}
use Rattle.type_check.specs.WellTyped.{IsBuilt}
use Rattle.type_check.specs.Written.{function_scope, type_of_meaning, written_type, answer_ty}
use Rattle.type_check.proofs.Bound.{bound, held, same_ok}
use Rattle.type_check.proofs.BuiltTypes.{built_is_built}
use Rattle.type_check.proofs.PartByPart.{refuses_then}

-- both say the same of a refusal
refuses_here : {A : Type 0} (f : PassError) (m : Result A SourceError) → rs.Refuses f m → Refuses f m
refuses_here (fault.Source e) m h = h
refuses_here (fault.Limit l) m h = absurd h
refuses_here fault.NoMemory m h = tt

pub refused_meaning : (f : PassError) (ds : List AdtDecl) (w : TypeTree) → rs.Refuses f (meant (function_scope ds) Erased w) → Refuses f (written_type ds w)
unfolding written_type
refused_meaning f ds w h = refuses_then f (meant (function_scope ds) Erased w) (type_of_meaning ds (type_span w)) (refuses_here f (meant (function_scope ds) Erased w) h)

meaning_built : (ds : List AdtDecl) (s : Span) (m : Ty × Elision) (t : Ty) → type_of_meaning ds s m ≡ Ok t → IsBuilt t
meaning_built ds s m t p =
    let c = held (is_built ds m.0) (Ok m.0) (unbuilt s) t p in
    subst IsBuilt (same_ok _ _ c.1) (built_is_built ds m.0 c.0)

pub type_built : (ds : List AdtDecl) (w : TypeTree) (t : Ty) → written_type ds w ≡ Ok t → IsBuilt t
unfolding written_type
type_built ds w t p =
    let m = bound (meant (function_scope ds) Erased w) (type_of_meaning ds (type_span w)) t p in
    meaning_built ds (type_span w) m.0 t m.2

pub answer_built : (ds : List AdtDecl) (w : Option TypeTree) (t : Ty) → answer_ty ds w ≡ Ok t → IsBuilt t
answer_built ds None t p = subst IsBuilt (same_ok _ _ p) tt
answer_built ds (Some w) t p = type_built ds w t p
