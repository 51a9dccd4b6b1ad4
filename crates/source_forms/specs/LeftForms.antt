-- The operand on the left of an expression or a term, what stands before it and what stands behind it: how chains of operators are gone
-- down. Contracts of the code alone speak of them.
use Rattle.std.specs.Prelude.{ℕ, Bool, Option, Some, None}
use Rattle.source_trees.specs.Expr as E
use Rattle.source_trees.specs.Expr.{Expr}
use Rattle.source_trees.specs.Pterm as T
use Rattle.source_trees.specs.Pterm.{Pterm}
use Rattle.source_forms.specs.declared.form.Form.{Form}
use Rattle.source_forms.specs.declared.form.Form.TheVariants as form
use Rattle.source_forms.specs.Forms.{◌or_else◌, here, in_each}
use Rattle.source_forms.specs.TypeForms.{unbuilt_type}
use Rattle.source_forms.specs.TermForms.{unary_term_form, unbuilt_term, unbuilt_terms}
use Rattle.source_forms.specs.ExprForms.{unary_form, borrow_form, call_form, unbuilt_expr, unbuilt_exprs}

-- ---- terms

abbrev pub left_term : Pterm → Option Pterm
left_term (T.unary span op t) = Some t
left_term (T.binary span op t u) = Some t
left_term (T.field span t name) = Some t
left_term (T.part span t number) = Some t
left_term (T.method span t name arguments) = Some t
left_term _ = None

-- all of a term without a left operand
abbrev pub before_term : (Form → Bool) → Pterm → Option ℕ
before_term F (T.unary span op t) = here F (unary_term_form op) span
before_term F (T.binary span op t u) = here F form.BinaryTerm span
before_term F (T.field span t name) = here F form.FieldTerm span
before_term F (T.part span t number) = here F form.PartTerm span
before_term F (T.method span t name arguments) = here F form.MethodTerm span
before_term F t = unbuilt_term F t

abbrev pub behind_term : (Form → Bool) → Pterm → Option ℕ
behind_term F (T.binary span op t u) = unbuilt_term F u
behind_term F (T.method span t name arguments) = unbuilt_terms F arguments
behind_term F _ = None

-- ---- expressions

abbrev pub left_expr : Expr → Option Expr
left_expr (E.assign span d e) = Some d
left_expr (E.update span op operator d e) = Some d
left_expr (E.lazy span op d e) = Some d
left_expr (E.binary span op operator d e) = Some d
left_expr (E.cast span e ty) = Some e
left_expr (E.unary span op operator e) = Some e
left_expr (E.borrow span mutable e) = Some e
left_expr (E.field span e name types) = Some e
left_expr (E.part span e number) = Some e
left_expr (E.method span e name types arguments) = Some e
left_expr (E.call span e arguments) = Some e
left_expr _ = None

-- all of an expression without a left operand
abbrev pub before_expr : (Form → Bool) → Expr → Option ℕ
before_expr F (E.assign span d e) = here F form.Assign span
before_expr F (E.update span op operator d e) = here F form.Update span
before_expr F (E.lazy span op d e) = here F form.Lazy span
before_expr F (E.binary span op operator d e) = here F form.Binary span
before_expr F (E.cast span e ty) = here F form.Cast span
before_expr F (E.unary span op operator e) = here F (unary_form op) span
before_expr F (E.borrow span mutable e) = here F (borrow_form mutable) span
before_expr F (E.field span e name types) = here F form.Field span
before_expr F (E.part span e number) = here F form.Part span
before_expr F (E.method span e name types arguments) = here F form.Method span
before_expr F (E.call span e arguments) = here F (call_form e) span
before_expr F e = unbuilt_expr F e

abbrev pub behind_expr : (Form → Bool) → Expr → Option ℕ
behind_expr F (E.assign span d e) = unbuilt_expr F e
behind_expr F (E.update span op operator d e) = unbuilt_expr F e
behind_expr F (E.lazy span op d e) = unbuilt_expr F e
behind_expr F (E.binary span op operator d e) = unbuilt_expr F e
behind_expr F (E.cast span e ty) = unbuilt_type F ty
behind_expr F (E.field span e name types) = in_each (unbuilt_type F) types
behind_expr F (E.method span e name types arguments) = in_each (unbuilt_type F) types or_else unbuilt_exprs F arguments
behind_expr F (E.call span e arguments) = unbuilt_exprs F arguments
behind_expr F _ = None
