-- Terms of contracts as they are written (Pearlite, Creusot): one constructor for each variant of `PtermNode`, after its span.
use Rattle.std.specs.Prelude.{ℤ, Bool, Option, List}
use Rattle.text_core.specs.declared.name.Name.{Name}
use Rattle.text_core.specs.declared.span.Span.{Span}
use Rattle.source_kinds.specs.declared.kinds.IntKind.{IntKind}
use Rattle.source_trees.specs.declared.path.Path.{Path}
use Rattle.source_trees.specs.declared.operator.UnaryTerm.{UnaryTerm}
use Rattle.source_trees.specs.declared.operator.BinaryTerm.{BinaryTerm}
use Rattle.source_trees.specs.declared.path.Segment.{Segment}
use Rattle.source_trees.specs.declared.path.Number.{Number}
use Rattle.source_trees.specs.declared.operator.Quantifier.{Quantifier}
use Rattle.source_trees.specs.declared.binder.Binder.{Binder}
use Rattle.source_trees.specs.declared.operator.Predicate.{Predicate}
use Rattle.source_trees.specs.Pat.{Pat}

mutual
  pub data Pterm : Type 0 where
    integer : Span → ℤ → Option IntKind → Pterm
    truth : Span → Bool → Pterm
    -- `result`, by its name
    answer : Span → Name → Pterm
    -- `self`
    receiver : Span → Pterm
    path : Span → Path → Pterm
    unary : Span → UnaryTerm → Pterm → Pterm
    binary : Span → BinaryTerm → Pterm → Pterm → Pterm
    -- `MutRef` of two terms
    mut_ref : Span → Pterm → Pterm → Pterm
    field : Span → Pterm → Segment → Pterm
    -- a field by its number
    part : Span → Pterm → Number → Pterm
    method : Span → Pterm → Segment → Terms → Pterm
    call : Span → Path → Terms → Pterm
    -- a struct literal
    literal : Span → Path → FieldTerms → Pterm
    tuple : Span → Terms → Pterm
    choice : Span → Pterm → Pterm → Pterm → Pterm
    matching : Span → Pterm → Arms → Pterm
    quantified : Span → Quantifier → List Binder → Pterm → Pterm
    -- a predicate of closures
    predicate : Span → Predicate → Terms → Pterm

  pub data Terms : Type 0 where
    none : Terms
    more : Pterm → Terms → Terms

  pub data FieldTerms : Type 0 where
    no_fields : FieldTerms
    -- after its span
    with_field : Span → Segment → Pterm → FieldTerms → FieldTerms

  pub data Arms : Type 0 where
    no_arms : Arms
    -- after its span
    with_arm : Span → Pat → Pterm → Arms → Arms
