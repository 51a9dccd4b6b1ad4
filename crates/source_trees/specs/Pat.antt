-- Patterns as they are written (Rust Reference, "Patterns"): one constructor for each variant of `PatNode`, after its span.
use Rattle.std.specs.Prelude.{ℤ, Bool, Option}
use Rattle.text_core.specs.declared.span.Span.{Span}
use Rattle.source_trees.specs.declared.path.Segment.{Segment}
use Rattle.source_kinds.specs.declared.kinds.IntKind.{IntKind}
use Rattle.source_trees.specs.declared.path.Path.{Path}

mutual
  pub data Pat : Type 0 where
    any : Span → Pat
    -- `mut` and the name
    mutable : Span → Segment → Pat
    integer : Span → ℤ → Option IntKind → Pat
    truth : Span → Bool → Pat
    tuple : Span → Pats → Pat
    -- a path alone: a constructor, or a name that is bound
    path : Span → Path → Pat
    -- the parts of a constructor in parentheses
    parts : Span → Path → Pats → Pat
    -- the fields of a constructor, and whether `..` stands behind them
    fields : Span → Path → FieldPats → Bool → Pat

  pub data Pats : Type 0 where
    none : Pats
    more : Pat → Pats → Pats

  pub data FieldPats : Type 0 where
    no_fields : FieldPats
    -- after its span
    with_field : Span → Segment → Pat → FieldPats → FieldPats
