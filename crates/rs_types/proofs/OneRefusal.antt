-- What is refused does not hold, and what a source's types are refused for first is one.
use Rattle.std.proofs.Common.{◌≡◌, ◌⊎◌, inl, inr, ◌∙◌, sym, ℕ, List, [], Some, None, pos}
use Rattle.text_core.specs.declared.refusal.SourceError.{SourceError}
use Rattle.logic_term.specs.Sort.{Declarations, nth_ty, of_math_int}
use Rattle.logic_term.specs.Ty.{Ty, no_tys, math_int}
use Rattle.logic_term.specs.Value.{Number}
use Rattle.logic_term.specs.declared.declaration.AdtDecl.{AdtDecl}
use Rattle.rs_types.specs.Bounded.{params_from}
use Rattle.rs_types.specs.Checked.{Passes, IsRefusedBy, AllPass, IsFirst, at_once, later}
use Rattle.rs_types.specs.declared.checks.Check.{Check}
use Rattle.rs_types.specs.declared.checks.Check.TheVariants as check
use Rattle.rs_types.specs.Endless.{IsBounded, IsEndless}
use Rattle.rs_types.specs.Growing.{declared_by}
use Rattle.rs_types.specs.Inhabited.{HasValue, IsInhabited, IsEmpty}
use Rattle.rs_types.specs.Nesting.{Nests, HoldNone, IsFlat, IsNested}

-- without type arguments none holds a reference, and each has a value
hold_none : (Δ : Declarations) → HoldNone Δ no_tys
hold_none Δ i n = elim n [ ]

have_values : (Δ : Declarations) (i : ℕ) → HasValue Δ (nth_ty no_tys i)
have_values Δ i = (Number (pos 0), of_math_int)

flat_is_not_nested : (Δ : Declarations) (t : Ty) → IsFlat Δ t → IsNested Δ t → ⊥
flat_is_not_nested Δ t flat nested = flat no_tys (hold_none Δ) (nested no_tys)

finite_is_not_refused : (ds : List AdtDecl) (d : ℕ) → IsBounded ds d × IsInhabited ds d → IsEndless ds d ⊎ IsEmpty ds d → ⊥
finite_is_not_refused ds d (bounded, inhabited) (inl endless) = endless [] no_tys (bounded [] 0)
finite_is_not_refused ds d (bounded, inhabited) (inr empty) = empty [] no_tys (inhabited [] no_tys (have_values (declared_by ds)))

passed_is_not_refused : (ds : List AdtDecl) (c : Check) (e : SourceError) → Passes ds c → IsRefusedBy ds c e → ⊥
passed_is_not_refused ds (check.Plain None) e holds refused = refused
passed_is_not_refused ds (check.Plain (Some r)) e holds refused = holds
passed_is_not_refused ds (check.Flat s t) e holds refused = flat_is_not_nested (declared_by ds) t holds refused.0
passed_is_not_refused ds (check.Finite d s) e holds refused = finite_is_not_refused ds d holds refused.0

one_refusal_of : (ds : List AdtDecl) (c : Check) (one other : SourceError) → IsRefusedBy ds c one → IsRefusedBy ds c other → one ≡ other
one_refusal_of ds (check.Plain None) one other h g = absurd h
one_refusal_of ds (check.Plain (Some r)) one other h g = h ∙ sym g
one_refusal_of ds (check.Flat s t) one other h g = h.1 ∙ sym g.1
one_refusal_of ds (check.Finite d s) one other h g = h.1 ∙ sym g.1

-- where all hold nothing is refused
pub first_does_not_hold : (ds : List AdtDecl) (cs : List Check) (e : SourceError) → AllPass ds cs → IsFirst ds cs e → ⊥
first_does_not_hold ds _ e all (at_once {c} {cs} refused) = passed_is_not_refused ds c e all.0 refused
first_does_not_hold ds _ e all (later {c} {cs} passed first) = first_does_not_hold ds cs e all.1 first

pub one_first : (ds : List AdtDecl) (cs : List Check) (one other : SourceError) → IsFirst ds cs one → IsFirst ds cs other → one ≡ other
one_first ds _ one other (at_once {c} {cs} h) (at_once g) = one_refusal_of ds c one other h g
one_first ds _ one other (at_once {c} {cs} h) (later passed first) = absurd (passed_is_not_refused ds c one passed h)
one_first ds _ one other (later {c} {cs} passed first) (at_once g) = absurd (passed_is_not_refused ds c other passed g)
one_first ds _ one other (later {c} {cs} passed first) (later also second) = one_first ds cs one other first second
