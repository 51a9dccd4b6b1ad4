-- The terms that nodes stand for, and how deep they are.
use Rattle.std.specs.Prelude.{ℕ, suc, max, List, [], ◌∷◌}
use Rattle.text_core.specs.declared.span.Span.{Span}
use Rattle.source_trees.specs.Pterm.{Pterm, integer, truth, answer, receiver, path, unary, binary, mut_ref, field, part, method, call, literal, tuple, choice, matching, quantified, predicate}
use Rattle.source_trees.specs.Pterm.{Terms, none, more, FieldTerms, no_fields, with_field, Arms, no_arms, with_arm}
use Rattle.source_trees.specs.declared.pterm.PtermNode.{PtermNode}
use Rattle.source_trees.specs.declared.pterm.PtermNode.TheVariants as node
use Rattle.source_trees.specs.declared.pterm.FieldTerm.{FieldTerm}
use Rattle.source_trees.specs.declared.pterm.TermArm.{TermArm}

abbrev pub terms_of : List Pterm → Terms
terms_of [] = none
terms_of (x ∷ xs) = more x (terms_of xs)

abbrev pub field_terms_of : List FieldTerm → FieldTerms
field_terms_of [] = no_fields
field_terms_of (x ∷ xs) = with_field x.span x.name x.value (field_terms_of xs)

abbrev pub arms_of : List TermArm → Arms
arms_of [] = no_arms
arms_of (x ∷ xs) = with_arm x.span x.pattern x.body (arms_of xs)

abbrev pub pterm_of : Span → PtermNode → Pterm
pterm_of s (node.Int a0 a1) = integer s a0 a1
pterm_of s (node.Truth a0) = truth s a0
pterm_of s (node.Answer a0) = answer s a0
pterm_of s node.Receiver = receiver s
pterm_of s (node.Path a0) = path s a0
pterm_of s (node.Unary a0 a1) = unary s a0 a1
pterm_of s (node.Binary a0 a1 a2) = binary s a0 a1 a2
pterm_of s (node.MutRef a0 a1) = mut_ref s a0 a1
pterm_of s (node.Field a0 a1) = field s a0 a1
pterm_of s (node.Part a0 a1) = part s a0 a1
pterm_of s (node.Method a0 a1 a2) = method s a0 a1 (terms_of a2.items)
pterm_of s (node.Call a0 a1) = call s a0 (terms_of a1.items)
pterm_of s (node.Literal a0 a1) = literal s a0 (field_terms_of a1.items)
pterm_of s (node.Tuple a0) = tuple s (terms_of a0.items)
pterm_of s (node.If a0 a1 a2) = choice s a0 a1 a2
pterm_of s (node.Match a0 a1) = matching s a0 (arms_of a1.items)
pterm_of s (node.Quantified a0 a1 a2) = quantified s a0 a1.items a2
pterm_of s (node.Predicate a0 a1) = predicate s a0 (terms_of a1.items)

abbrev mutual
  pub pterm_size : Pterm → ℕ
  pterm_size (integer a0 a1 a2) = 1
  pterm_size (truth a0 a1) = 1
  pterm_size (answer a0 a1) = 1
  pterm_size (receiver a0) = 1
  pterm_size (path a0 a1) = 1
  pterm_size (unary a0 a1 a2) = suc (pterm_size a2)
  pterm_size (binary a0 a1 a2 a3) = suc (max (pterm_size a2) (pterm_size a3))
  pterm_size (mut_ref a0 a1 a2) = suc (max (pterm_size a1) (pterm_size a2))
  pterm_size (field a0 a1 a2) = suc (pterm_size a1)
  pterm_size (part a0 a1 a2) = suc (pterm_size a1)
  pterm_size (method a0 a1 a2 a3) = suc (max (pterm_size a1) (terms_size a3))
  pterm_size (call a0 a1 a2) = suc (terms_size a2)
  pterm_size (literal a0 a1 a2) = suc (field_terms_size a2)
  pterm_size (tuple a0 a1) = suc (terms_size a1)
  pterm_size (choice a0 a1 a2 a3) = suc (max (pterm_size a1) (max (pterm_size a2) (pterm_size a3)))
  pterm_size (matching a0 a1 a2) = suc (max (pterm_size a1) (arms_size a2))
  pterm_size (quantified a0 a1 a2 a3) = suc (pterm_size a3)
  pterm_size (predicate a0 a1 a2) = suc (terms_size a2)

  pub terms_size : Terms → ℕ
  terms_size none = 1
  terms_size (more a0 a1) = suc (max (pterm_size a0) (terms_size a1))

  pub field_terms_size : FieldTerms → ℕ
  field_terms_size no_fields = 1
  field_terms_size (with_field a0 a1 a2 a3) = suc (max (pterm_size a2) (field_terms_size a3))

  pub arms_size : Arms → ℕ
  arms_size no_arms = 1
  arms_size (with_arm a0 a1 a2 a3) = suc (max (pterm_size a2) (arms_size a3))

abbrev pub span_of : Pterm → Span
span_of (integer s a0 a1) = s
span_of (truth s a0) = s
span_of (answer s a0) = s
span_of (receiver s) = s
span_of (path s a0) = s
span_of (unary s a0 a1) = s
span_of (binary s a0 a1 a2) = s
span_of (mut_ref s a0 a1) = s
span_of (field s a0 a1) = s
span_of (part s a0 a1) = s
span_of (method s a0 a1 a2) = s
span_of (call s a0 a1) = s
span_of (literal s a0 a1) = s
span_of (tuple s a0) = s
span_of (choice s a0 a1 a2) = s
span_of (matching s a0 a1) = s
span_of (quantified s a0 a1 a2) = s
span_of (predicate s a0 a1) = s
