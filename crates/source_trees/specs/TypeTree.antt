-- Types as they are written (Rust Reference, "Types"): one constructor for each variant of `TypeNode`, after its span.
use Rattle.std.specs.Prelude.{Bool, Option}
use Rattle.text_core.specs.declared.span.Span.{Span}
use Rattle.source_trees.specs.declared.path.Segment.{Segment}

mutual
  pub data TypeTree : Type 0 where
    -- the name, and its arguments
    named : Span → Segment → TypeArguments → TypeTree
    tuple : Span → Types → TypeTree
    -- the lifetime, and whether `mut` stands there
    reference : Span → Option Segment → Bool → TypeTree → TypeTree
    self_type : Span → TypeTree
    self_view : Span → TypeTree

  pub data Types : Type 0 where
    none : Types
    more : TypeTree → Types → Types

  pub data TypeArguments : Type 0 where
    no_arguments : TypeArguments
    with_lifetime : Segment → TypeArguments → TypeArguments
    with_type : TypeTree → TypeArguments → TypeArguments
