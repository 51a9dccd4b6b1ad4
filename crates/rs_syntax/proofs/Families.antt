-- What stands among parts is joined part by part.
use Rattle.std.specs.Prelude.{◌≡◌, List, [], ◌∷◌, drop, slice_get}
use Rattle.std.proofs.Common.{append_assoc, refl}
use Rattle.source_trees.specs.Expr.{Expr}
use Rattle.rs_syntax.specs.declared.found.Found.{Found}
use Rattle.rs_syntax.specs.declared.part.Part.{Part}
use Rattle.rs_syntax.specs.Parts.{expr_at, joined, found_of, found_in}

pub joined-assoc : (a b c : Found) → joined (joined a b) c ≡ joined a (joined b c)
joined-assoc a b c = simp append_assoc

-- one more part
pub one_more : (found : Found) (part : Part) (parts : List Part) → joined (joined found (found_of part.value)) (found_in parts) ≡ joined found (found_in (part ∷ parts))
unfolding found_in
one_more found part parts = joined-assoc found (found_of part.value) (found_in parts)

-- ---- the first ones taken off

pub second_expr : (exprs : List Expr) → expr_at (drop 1 exprs) 0 ≡ expr_at exprs 1
second_expr [] = refl
second_expr (expr ∷ exprs) = refl

pub third : (exprs : List Expr) → slice_get (drop 1 (drop 1 exprs)) 0 ≡ slice_get exprs 2
third [] = refl
third (a ∷ []) = refl
third (a ∷ b ∷ exprs) = refl
