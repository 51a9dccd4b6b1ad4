-- The patterns that nodes stand for, and how deep they are.
use Rattle.std.specs.Prelude.{ℕ, suc, max, List, [], ◌∷◌}
use Rattle.text_core.specs.declared.span.Span.{Span}
use Rattle.source_trees.specs.Pat.{Pat, any, mutable, integer, truth, tuple, path, parts, fields, Pats, none, more, FieldPats, no_fields, with_field}
use Rattle.source_trees.specs.declared.pattern.PatNode.{PatNode}
use Rattle.source_trees.specs.declared.pattern.PatNode.TheVariants as node
use Rattle.source_trees.specs.declared.pattern.FieldPat.{FieldPat}

abbrev pub pats_of : List Pat → Pats
pats_of [] = none
pats_of (x ∷ xs) = more x (pats_of xs)

abbrev pub field_pats_of : List FieldPat → FieldPats
field_pats_of [] = no_fields
field_pats_of (x ∷ xs) = with_field x.span x.name x.pattern (field_pats_of xs)

abbrev pub pat_of : Span → PatNode → Pat
pat_of s node.Any = any s
pat_of s (node.Mutable a0) = mutable s a0
pat_of s (node.Int a0 a1) = integer s a0 a1
pat_of s (node.Truth a0) = truth s a0
pat_of s (node.Tuple a0) = tuple s (pats_of a0.items)
pat_of s (node.Path a0) = path s a0
pat_of s (node.Parts a0 a1) = parts s a0 (pats_of a1.items)
pat_of s (node.Fields a0 a1 a2) = fields s a0 (field_pats_of a1.items) a2

abbrev mutual
  pub pat_size : Pat → ℕ
  pat_size (any a0) = 1
  pat_size (mutable a0 a1) = 1
  pat_size (integer a0 a1 a2) = 1
  pat_size (truth a0 a1) = 1
  pat_size (tuple a0 a1) = suc (pats_size a1)
  pat_size (path a0 a1) = 1
  pat_size (parts a0 a1 a2) = suc (pats_size a2)
  pat_size (fields a0 a1 a2 a3) = suc (field_pats_size a2)

  pub pats_size : Pats → ℕ
  pats_size none = 1
  pats_size (more a0 a1) = suc (max (pat_size a0) (pats_size a1))

  pub field_pats_size : FieldPats → ℕ
  field_pats_size no_fields = 1
  field_pats_size (with_field a0 a1 a2 a3) = suc (max (pat_size a2) (field_pats_size a3))

abbrev pub span_of : Pat → Span
span_of (any s) = s
span_of (mutable s a0) = s
span_of (integer s a0 a1) = s
span_of (truth s a0) = s
span_of (tuple s a0) = s
span_of (path s a0) = s
span_of (parts s a0 a1) = s
span_of (fields s a0 a1 a2) = s
