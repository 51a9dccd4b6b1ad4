-- The parts of patterns are smaller than the whole.
use Rattle.std.specs.Prelude.{◌+◌, ◌≤◌, max, List, [], ◌∷◌}
use Rattle.std.proofs.Common.{arith}
use denote.Param.Weighed.{most}
use Rattle.text_core.specs.declared.span.Span.{Span}
use Rattle.source_trees.specs.Pat.{Pat}
use Rattle.source_trees.specs.PatView.{pat_of, pats_of, field_pats_of, pat_size, pats_size, field_pats_size}
use Rattle.source_trees.specs.declared.pattern.FieldPat.{FieldPat}
use Rattle.source_trees.specs.declared.pattern.PatNode.{PatNode}
use Rattle.source_trees.specs.declared.pattern.PatNode.TheVariants as node
use Rattle.source_trees.specs.declared.pattern.Pat.TheDeep.{deep-PatNode}

most_pats : (xs : List Pat) → most (λ x. pat_size x + 1) xs ≤ pats_size (pats_of xs)
most_pats [] = omega arith
most_pats (x ∷ xs) = omega (arith, most_pats xs)

most_field_pats : (xs : List FieldPat) → most (λ x. max (pat_size x.pattern + 1) 0) xs ≤ field_pats_size (field_pats_of xs)
most_field_pats [] = omega arith
most_field_pats (x ∷ xs) = omega (arith, most_field_pats xs)

pub falls : (s : Span) (n : PatNode) → max (deep-PatNode n) 0 ≤ pat_size (pat_of s n)
falls s node.Any = omega arith
falls s (node.Mutable a0) = omega arith
falls s (node.Int a0 a1) = omega arith
falls s (node.Truth a0) = omega arith
falls s (node.Tuple a0) = omega (arith, most_pats a0.items)
falls s (node.Path a0) = omega arith
falls s (node.Parts a0 a1) = omega (arith, most_pats a1.items)
falls s (node.Fields a0 a1 a2) = omega (arith, most_field_pats a1.items)
