-- The parts of terms are smaller than the whole.
use Rattle.std.specs.Prelude.{◌+◌, ◌≤◌, max, List, [], ◌∷◌}
use Rattle.std.proofs.Common.{arith}
use denote.Param.Weighed.{most}
use Rattle.text_core.specs.declared.span.Span.{Span}
use Rattle.source_trees.specs.Pterm.{Pterm}
use Rattle.source_trees.specs.PtermView.{pterm_of, terms_of, field_terms_of, arms_of, pterm_size, terms_size, field_terms_size, arms_size}
use Rattle.source_trees.specs.declared.pterm.FieldTerm.{FieldTerm}
use Rattle.source_trees.specs.declared.pterm.TermArm.{TermArm}
use Rattle.source_trees.specs.declared.pterm.PtermNode.{PtermNode}
use Rattle.source_trees.specs.declared.pterm.PtermNode.TheVariants as node
use Rattle.source_trees.specs.declared.pterm.Pterm.TheDeep.{deep-PtermNode}

most_terms : (xs : List Pterm) → most (λ x. pterm_size x + 1) xs ≤ terms_size (terms_of xs)
most_terms [] = omega arith
most_terms (x ∷ xs) = omega (arith, most_terms xs)

most_field_terms : (xs : List FieldTerm) → most (λ x. max (pterm_size x.value + 1) 0) xs ≤ field_terms_size (field_terms_of xs)
most_field_terms [] = omega arith
most_field_terms (x ∷ xs) = omega (arith, most_field_terms xs)

most_arms : (xs : List TermArm) → most (λ x. max (pterm_size x.body + 1) 0) xs ≤ arms_size (arms_of xs)
most_arms [] = omega arith
most_arms (x ∷ xs) = omega (arith, most_arms xs)

pub falls : (s : Span) (n : PtermNode) → max (deep-PtermNode n) 0 ≤ pterm_size (pterm_of s n)
falls s (node.Int a0 a1) = omega arith
falls s (node.Truth a0) = omega arith
falls s (node.Answer a0) = omega arith
falls s node.Receiver = omega arith
falls s (node.Path a0) = omega arith
falls s (node.Unary a0 a1) = omega arith
falls s (node.Binary a0 a1 a2) = omega arith
falls s (node.MutRef a0 a1) = omega arith
falls s (node.Field a0 a1) = omega arith
falls s (node.Part a0 a1) = omega arith
falls s (node.Method a0 a1 a2) = omega (arith, most_terms a2.items)
falls s (node.Call a0 a1) = omega (arith, most_terms a1.items)
falls s (node.Literal a0 a1) = omega (arith, most_field_terms a1.items)
falls s (node.Tuple a0) = omega (arith, most_terms a0.items)
falls s (node.If a0 a1 a2) = omega arith
falls s (node.Match a0 a1) = omega (arith, most_arms a1.items)
falls s (node.Quantified a0 a1 a2) = omega arith
falls s (node.Predicate a0 a1) = omega (arith, most_terms a1.items)
