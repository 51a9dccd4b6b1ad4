-- Flat matches of values of scalar types: their patterns have a tree where they cover the type, and only there.
use Rattle.std.proofs.Common.{◌≡◌, true, Option, Some, None, List, [], ap, subst}
use Rattle.text_core.specs.declared.span.Span.{Span}
use Rattle.logic_term.specs.Pattern.{Pat}
use Rattle.logic_term.specs.Ty.{Ty, int, bool, tuple, no_tys}
use Rattle.pat_check.specs.Flat.{all_flat, flat_tree}
use Rattle.pat_check.specs.PatValue.{PatValue, Missing}
use Rattle.pat_check.specs.Typed.{fields_in, AllPats}
use Rattle.pat_check.proofs.FlatTrees.{IsFlatType, flat_patterns_typed, covered_has_flat_tree, missing_has_no_flat_tree}
use Rattle.type_check.specs.Answers.{uncovered_match}
use Rattle.type_check.specs.FirstBad.{uncovered}
use Rattle.type_check.specs.Scalars.{is_scalar}

pub scalar_is_flat : (t : Ty) → is_scalar t ≡ true → IsFlatType t
scalar_is_flat (int k) q = tt
scalar_is_flat bool q = tt
scalar_is_flat (tuple no_tys) q = tt
scalar_is_flat _ q = absurd (cc)

pub flat_typed : (t : Ty) (ps : List Pat) → all_flat t ps ≡ true → AllPats (fields_in []) ps t
flat_typed t ps f = flat_patterns_typed (fields_in []) t ps f

-- what is answered of the patterns says whether the match is refused
pub covered : (s : Span) (t : Ty) (ps : List Pat) (o : Option PatValue) → is_scalar t ≡ true → all_flat t ps ≡ true → Missing (fields_in []) ps t o → o ≡ None → uncovered s (flat_tree t ps) ≡ None
covered s t ps o q f h e = ap (uncovered s) (covered_has_flat_tree [] t ps f (scalar_is_flat t q) (subst (Missing (fields_in []) ps t) e h)).1

pub left_over : (s : Span) (t : Ty) (ps : List Pat) (o : Option PatValue) (w : PatValue) → is_scalar t ≡ true → all_flat t ps ≡ true → Missing (fields_in []) ps t o → o ≡ Some w → uncovered s (flat_tree t ps) ≡ Some (uncovered_match s)
left_over s t ps o w q f h e = ap (uncovered s) (missing_has_no_flat_tree [] t ps w f (scalar_is_flat t q) (subst (Missing (fields_in []) ps t) e h))
