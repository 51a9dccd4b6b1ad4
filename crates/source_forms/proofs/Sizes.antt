-- The parts of lists are smaller than these, and the place in a list is that in its first part that has one.
use Rattle.std.proofs.Common.{◌≡◌, ℕ, zero, suc, ◌<◌, ◌≤◌, List, [], ◌∷◌, length, get_or, arith, refl, ap, Bool}
use Rattle.text_core.specs.declared.name.Name.{Name}
use Rattle.source_trees.specs.declared.types.TypeArgument.{TypeArgument}
use Rattle.source_trees.specs.declared.types.TypeArgument.TheVariants as argument
use Rattle.source_trees.specs.TypeTree.{TypeTree}
use Rattle.source_trees.specs.TypeTreeView.{types_of, type_arguments_of, type_tree_size, types_size, type_arguments_size}
use Rattle.source_trees.specs.declared.pattern.FieldPat.{FieldPat}
use Rattle.source_trees.specs.Pat.{Pat}
use Rattle.source_trees.specs.PatView.{pats_of, field_pats_of, pat_size, pats_size, field_pats_size}
use Rattle.source_trees.specs.declared.pterm.FieldTerm.{FieldTerm}
use Rattle.source_trees.specs.declared.pterm.TermArm.{TermArm}
use Rattle.source_trees.specs.Pterm.{Pterm}
use Rattle.source_trees.specs.PtermView.{terms_of, field_terms_of, arms_of as term_arms_of, pterm_size, terms_size, field_terms_size, arms_size as term_arms_size}
use Rattle.source_trees.specs.declared.expr.Arm.{Arm}
use Rattle.source_trees.specs.declared.expr.FieldExpr.{FieldExpr}
use Rattle.source_trees.specs.declared.expr.Stmt.{Stmt}
use Rattle.source_trees.specs.Expr.{Expr}
use Rattle.source_trees.specs.ExprView.{exprs_of, stmts_of, arms_of, field_exprs_of, expr_size, exprs_size, stmts_size, arms_size, field_exprs_size}
use Rattle.source_forms.specs.declared.form.Form.{Form}
use Rattle.source_forms.specs.declared.form.Form.TheVariants.{NamedType}
use Rattle.source_forms.specs.Forms.{◌or_else◌}
use Rattle.source_forms.specs.TypeForms.{named_form, unbuilt_arguments, unbuilt_argument}

pub named_with : (name : Name) (arguments : List TypeArgument) → 1 ≤ length arguments → named_form name (type_arguments_of arguments) ≡ NamedType
named_with name [] h = absurd (omega arith)
named_with name (argument.Lifetime lifetime ∷ arguments) h = refl
named_with name (argument.Type ty ∷ arguments) h = refl

-- ---- types

smaller_type : (ts : List TypeTree) (i : ℕ) (d : TypeTree) → i < length ts → type_tree_size (get_or ts i d) < types_size (types_of ts)
smaller_type [] i d h = absurd (omega arith)
smaller_type (t ∷ ts) zero d h = omega arith
smaller_type (t ∷ ts) (suc i) d h = omega (arith, smaller_type ts i d (omega arith))

pub type_smaller : (ts : List TypeTree) (i : ℕ) (t : TypeTree) → t ≡ get_or ts i t → i < length ts → type_tree_size t < types_size (types_of ts)
type_smaller ts i t q h = rw q (smaller_type ts i t h)

abbrev pub argument_size : TypeArgument → ℕ
argument_size (argument.Lifetime lifetime) = 0
argument_size (argument.Type ty) = type_tree_size ty

smaller_argument : (xs : List TypeArgument) (i : ℕ) (d : TypeArgument) → i < length xs → argument_size (get_or xs i d) < type_arguments_size (type_arguments_of xs)
smaller_argument [] i d h = absurd (omega arith)
smaller_argument (argument.Lifetime lifetime ∷ xs) zero d h = omega arith
smaller_argument (argument.Lifetime lifetime ∷ xs) (suc i) d h = omega (arith, smaller_argument xs i d (omega arith))
smaller_argument (argument.Type ty ∷ xs) zero d h = omega arith
smaller_argument (argument.Type ty ∷ xs) (suc i) d h = omega (arith, smaller_argument xs i d (omega arith))

pub argument_smaller : (xs : List TypeArgument) (i : ℕ) (x : TypeArgument) → x ≡ get_or xs i x → i < length xs → argument_size x < type_arguments_size (type_arguments_of xs)
argument_smaller xs i x q h = rw q (smaller_argument xs i x h)

pub arguments_more : (F : Form → Bool) (x : TypeArgument) (xs : List TypeArgument) → unbuilt_arguments F (type_arguments_of (x ∷ xs)) ≡ (unbuilt_argument F x or_else unbuilt_arguments F (type_arguments_of xs))
arguments_more F (argument.Lifetime lifetime) xs = refl
arguments_more F (argument.Type ty) xs = refl

-- ---- patterns

pattern_at : (xs : List Pat) (i : ℕ) (d : Pat) → i < length xs → pat_size (get_or xs i d) < pats_size (pats_of xs)
pattern_at [] i d h = absurd (omega arith)
pattern_at (x ∷ xs) zero d h = omega arith
pattern_at (x ∷ xs) (suc i) d h = omega (arith, pattern_at xs i d (omega arith))

pub pattern_smaller : (xs : List Pat) (i : ℕ) (x : Pat) → x ≡ get_or xs i x → i < length xs → pat_size x < pats_size (pats_of xs)
pattern_smaller xs i x q h = rw q (pattern_at xs i x h)

field_pattern_at : (xs : List FieldPat) (i : ℕ) (d : FieldPat) → i < length xs → pat_size (get_or xs i d).pattern < field_pats_size (field_pats_of xs)
field_pattern_at [] i d h = absurd (omega arith)
field_pattern_at (x ∷ xs) zero d h = omega arith
field_pattern_at (x ∷ xs) (suc i) d h = omega (arith, field_pattern_at xs i d (omega arith))

pub field_pattern_smaller : (xs : List FieldPat) (i : ℕ) (x : FieldPat) → x ≡ get_or xs i x → i < length xs → pat_size x.pattern < field_pats_size (field_pats_of xs)
field_pattern_smaller xs i x q h = let f : FieldPat → ℕ = λ y. pat_size y.pattern in omega (arith, ap f q, field_pattern_at xs i x h)

-- ---- terms

term_at : (xs : List Pterm) (i : ℕ) (d : Pterm) → i < length xs → pterm_size (get_or xs i d) < terms_size (terms_of xs)
term_at [] i d h = absurd (omega arith)
term_at (x ∷ xs) zero d h = omega arith
term_at (x ∷ xs) (suc i) d h = omega (arith, term_at xs i d (omega arith))

pub term_smaller : (xs : List Pterm) (i : ℕ) (x : Pterm) → x ≡ get_or xs i x → i < length xs → pterm_size x < terms_size (terms_of xs)
term_smaller xs i x q h = rw q (term_at xs i x h)

field_term_at : (xs : List FieldTerm) (i : ℕ) (d : FieldTerm) → i < length xs → pterm_size (get_or xs i d).value < field_terms_size (field_terms_of xs)
field_term_at [] i d h = absurd (omega arith)
field_term_at (x ∷ xs) zero d h = omega arith
field_term_at (x ∷ xs) (suc i) d h = omega (arith, field_term_at xs i d (omega arith))

pub field_term_smaller : (xs : List FieldTerm) (i : ℕ) (x : FieldTerm) → x ≡ get_or xs i x → i < length xs → pterm_size x.value < field_terms_size (field_terms_of xs)
field_term_smaller xs i x q h = let f : FieldTerm → ℕ = λ y. pterm_size y.value in omega (arith, ap f q, field_term_at xs i x h)

term_arm_at : (xs : List TermArm) (i : ℕ) (d : TermArm) → i < length xs → pterm_size (get_or xs i d).body < term_arms_size (term_arms_of xs)
term_arm_at [] i d h = absurd (omega arith)
term_arm_at (x ∷ xs) zero d h = omega arith
term_arm_at (x ∷ xs) (suc i) d h = omega (arith, term_arm_at xs i d (omega arith))

pub term_arm_smaller : (xs : List TermArm) (i : ℕ) (x : TermArm) → x ≡ get_or xs i x → i < length xs → pterm_size x.body < term_arms_size (term_arms_of xs)
term_arm_smaller xs i x q h = let f : TermArm → ℕ = λ y. pterm_size y.body in omega (arith, ap f q, term_arm_at xs i x h)

-- ---- expressions

expr_at : (xs : List Expr) (i : ℕ) (d : Expr) → i < length xs → expr_size (get_or xs i d) < exprs_size (exprs_of xs)
expr_at [] i d h = absurd (omega arith)
expr_at (x ∷ xs) zero d h = omega arith
expr_at (x ∷ xs) (suc i) d h = omega (arith, expr_at xs i d (omega arith))

pub expr_smaller : (xs : List Expr) (i : ℕ) (x : Expr) → x ≡ get_or xs i x → i < length xs → expr_size x < exprs_size (exprs_of xs)
expr_smaller xs i x q h = rw q (expr_at xs i x h)

stmt_at : (xs : List Stmt) (i : ℕ) (d : Stmt) → i < length xs → expr_size (get_or xs i d).value < stmts_size (stmts_of xs)
stmt_at [] i d h = absurd (omega arith)
stmt_at (x ∷ xs) zero d h = omega arith
stmt_at (x ∷ xs) (suc i) d h = omega (arith, stmt_at xs i d (omega arith))

pub stmt_smaller : (xs : List Stmt) (i : ℕ) (x : Stmt) → x ≡ get_or xs i x → i < length xs → expr_size x.value < stmts_size (stmts_of xs)
stmt_smaller xs i x q h = let f : Stmt → ℕ = λ y. expr_size y.value in omega (arith, ap f q, stmt_at xs i x h)

arm_at : (xs : List Arm) (i : ℕ) (d : Arm) → i < length xs → expr_size (get_or xs i d).body < arms_size (arms_of xs)
arm_at [] i d h = absurd (omega arith)
arm_at (x ∷ xs) zero d h = omega arith
arm_at (x ∷ xs) (suc i) d h = omega (arith, arm_at xs i d (omega arith))

pub arm_smaller : (xs : List Arm) (i : ℕ) (x : Arm) → x ≡ get_or xs i x → i < length xs → expr_size x.body < arms_size (arms_of xs)
arm_smaller xs i x q h = let f : Arm → ℕ = λ y. expr_size y.body in omega (arith, ap f q, arm_at xs i x h)

field_expr_at : (xs : List FieldExpr) (i : ℕ) (d : FieldExpr) → i < length xs → expr_size (get_or xs i d).value < field_exprs_size (field_exprs_of xs)
field_expr_at [] i d h = absurd (omega arith)
field_expr_at (x ∷ xs) zero d h = omega arith
field_expr_at (x ∷ xs) (suc i) d h = omega (arith, field_expr_at xs i d (omega arith))

pub field_expr_smaller : (xs : List FieldExpr) (i : ℕ) (x : FieldExpr) → x ≡ get_or xs i x → i < length xs → expr_size x.value < field_exprs_size (field_exprs_of xs)
field_expr_smaller xs i x q h = let f : FieldExpr → ℕ = λ y. expr_size y.value in omega (arith, ap f q, field_expr_at xs i x h)

pub ruleset parts = (type_smaller, argument_smaller, pattern_smaller, field_pattern_smaller, term_smaller, field_term_smaller, term_arm_smaller, expr_smaller, stmt_smaller, arm_smaller, field_expr_smaller)
