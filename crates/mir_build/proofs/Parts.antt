-- The type and the span of an expression are those of its node.
use Rattle.std.proofs.Common.{◌≡◌, refl}
use Rattle.text_core.specs.declared.span.Span.{Span}
use Rattle.logic_term.specs.Ty.{Ty}
use Rattle.type_check.specs.declared.typed.TypedNode.{TypedNode}
use Rattle.type_check.specs.declared.typed.TypedNode.TheVariants as node
use Rattle.type_check.specs.TypedExprView.{typed_of, ty_of, span_of}

pub ty_of_node : (t : Ty) (s : Span) (n : TypedNode) → ty_of (typed_of t s n) ≡ t
ty_of_node t s (node.Int a0 a1) = refl
ty_of_node t s (node.Truth a0) = refl
ty_of_node t s (node.Variable a0) = refl
ty_of_node t s (node.Neg a0) = refl
ty_of_node t s (node.Not a0) = refl
ty_of_node t s (node.Cast a0) = refl
ty_of_node t s (node.Binary a0 a1 a2) = refl
ty_of_node t s (node.Lazy a0 a1 a2) = refl
ty_of_node t s (node.Assign a0 a1) = refl
ty_of_node t s (node.Update a0 a1 a2) = refl
ty_of_node t s (node.Call a0 a1) = refl
ty_of_node t s (node.Make a0 a1) = refl
ty_of_node t s (node.Part a0 a1) = refl
ty_of_node t s (node.Block a0) = refl
ty_of_node t s (node.BlockWith a0 a1) = refl
ty_of_node t s (node.BlockLeaving a0 a1) = refl
ty_of_node t s (node.If a0 a1) = refl
ty_of_node t s (node.IfElse a0 a1 a2) = refl
ty_of_node t s (node.Match a0 a1) = refl
ty_of_node t s (node.While a0 a1 a2) = refl
ty_of_node t s (node.Panic a0) = refl
ty_of_node t s (node.Return a0) = refl
ty_of_node t s (node.Loop a0 a1) = refl
ty_of_node t s (node.LoopUntilBreak a0 a1) = refl
ty_of_node t s node.Break = refl
ty_of_node t s node.Continue = refl

pub span_of_node : (t : Ty) (s : Span) (n : TypedNode) → span_of (typed_of t s n) ≡ s
span_of_node t s (node.Int a0 a1) = refl
span_of_node t s (node.Truth a0) = refl
span_of_node t s (node.Variable a0) = refl
span_of_node t s (node.Neg a0) = refl
span_of_node t s (node.Not a0) = refl
span_of_node t s (node.Cast a0) = refl
span_of_node t s (node.Binary a0 a1 a2) = refl
span_of_node t s (node.Lazy a0 a1 a2) = refl
span_of_node t s (node.Assign a0 a1) = refl
span_of_node t s (node.Update a0 a1 a2) = refl
span_of_node t s (node.Call a0 a1) = refl
span_of_node t s (node.Make a0 a1) = refl
span_of_node t s (node.Part a0 a1) = refl
span_of_node t s (node.Block a0) = refl
span_of_node t s (node.BlockWith a0 a1) = refl
span_of_node t s (node.BlockLeaving a0 a1) = refl
span_of_node t s (node.If a0 a1) = refl
span_of_node t s (node.IfElse a0 a1 a2) = refl
span_of_node t s (node.Match a0 a1) = refl
span_of_node t s (node.While a0 a1 a2) = refl
span_of_node t s (node.Panic a0) = refl
span_of_node t s (node.Return a0) = refl
span_of_node t s (node.Loop a0 a1) = refl
span_of_node t s (node.LoopUntilBreak a0 a1) = refl
span_of_node t s node.Break = refl
span_of_node t s node.Continue = refl
