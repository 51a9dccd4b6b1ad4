-- Attributes on an operation are those of its first operand, which is smaller.
use Rattle.std.specs.Prelude.{◌≡◌, ◌<◌, List}
use Rattle.std.proofs.Common.{refl, arith}
use Rattle.text_core.specs.declared.span.Span.{Span}
use Rattle.source_trees.specs.declared.attribute.Attribute.{Attribute}
use Rattle.rs_syntax.specs.declared.part.Suffix.{Suffix}
use Rattle.rs_syntax.specs.declared.part.Suffix.TheVariants as X
use Rattle.source_trees.specs.Expr.{Expr}
use Rattle.source_trees.specs.ExprView.{expr_size}
use Rattle.rs_syntax.specs.MakeOperators.{across, applied, on_operand}

pub on_operand_applied : (start : Span) (attributes : List Attribute) (span : Span) (operand : Expr) (suffix : Suffix) →
    on_operand start attributes (applied span operand suffix) ≡ applied (across start span) (on_operand start attributes operand) suffix
unfolding on_operand
on_operand_applied start attributes span operand (X.Assign value) = refl
on_operand_applied start attributes span operand (X.Update op place value) = refl
on_operand_applied start attributes span operand (X.Lazy op value) = refl
on_operand_applied start attributes span operand (X.Binary op place value) = refl
on_operand_applied start attributes span operand (X.Cast ty) = refl
on_operand_applied start attributes span operand (X.Field name types) = refl
on_operand_applied start attributes span operand (X.Part number) = refl
on_operand_applied start attributes span operand (X.Method name types arguments) = refl
on_operand_applied start attributes span operand (X.Call arguments) = refl

pub operand_is_smaller : (span : Span) (operand : Expr) (suffix : Suffix) → expr_size operand < expr_size (applied span operand suffix)
operand_is_smaller span operand (X.Assign value) = omega arith
operand_is_smaller span operand (X.Update op place value) = omega arith
operand_is_smaller span operand (X.Lazy op value) = omega arith
operand_is_smaller span operand (X.Binary op place value) = omega arith
operand_is_smaller span operand (X.Cast ty) = omega arith
operand_is_smaller span operand (X.Field name types) = omega arith
operand_is_smaller span operand (X.Part number) = omega arith
operand_is_smaller span operand (X.Method name types arguments) = omega arith
operand_is_smaller span operand (X.Call arguments) = omega arith
