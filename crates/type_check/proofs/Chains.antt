-- Down the left operands of chains, and up again.
use Rattle.std.proofs.Common.{◌≡◌, ◌∙◌, ℕ, suc, ◌≤◌, max, Bool, true, false, List, [], ◌∷◌, ◌++◌, refl, ap, sym, Option, Some, None, Result, Ok, Err, arith}
use Rattle.std.specs.Prelude.{if◌then◌else◌}
use Rattle.text_core.specs.declared.fault.PassError.{PassError}
use Rattle.text_core.specs.declared.refusal.SourceError.{SourceError}
use Rattle.text_core.specs.declared.span.Span.{Span}
use Rattle.logic_term.specs.Ty.{Ty}
use Rattle.source_trees.specs.Expr.{Expr}
use Rattle.source_trees.specs.ExprView.{expr_size, span_of}
use Rattle.source_trees.specs.TypeTreeView.{span_of as type_span}
use Rattle.type_check.specs.declared.chain.Above.{Above}
use Rattle.type_check.specs.declared.chain.Above.TheVariants as above
use Rattle.type_check.specs.declared.chain.Frame.{Frame}
use Rattle.type_check.specs.declared.chain.Operation.{Operation}
use Rattle.type_check.specs.declared.chain.Operation.TheVariants as operation
use Rattle.type_check.specs.declared.operands.Operands.{Operands}
use Rattle.type_check.specs.declared.scope.Variable.{Variable}
use Rattle.type_check.specs.Answers.{◌>>=◌, Refuses}
use Rattle.type_check.specs.Chains.{GoesFirst, GoesLeft, behind, climbed, finished, finished_above, first_ty, frames_size, left_of, operand_of, operand_ty, right_of, right_size, ty_or, written, written_above}
use Rattle.type_check.specs.Setting.{Setting}
use Rattle.type_check.specs.TypedExpr.{TypedExpr}
use Rattle.type_check.specs.TypedExprView.{ty_of}
use Rattle.type_check.specs.Typing.{Typed, is_bare, operands, operands_of, operated, order_of, cast_parts, typed, widened}
use Rattle.type_check.specs.WellTyped.{is_arithmetic}
use Rattle.type_check.specs.Written.{written_type}
use Rattle.type_check.proofs.PartByPart.{along, refuses_then}

-- ---- an operation, its left operand first

second : (m : Typed) (x : TypedExpr) (k : Operands → Typed) → ((m >>= λ y. Ok (operands_of x y)) >>= k) ≡ (m >>= λ y. k (operands_of x y))
second (Ok y) x k = refl
second (Err e) x k = refl

both : (m : Typed) (n : TypedExpr → Typed) (k : Operands → Typed) → ((m >>= λ x. n x >>= λ y. Ok (operands_of x y)) >>= k) ≡ (m >>= λ x. n x >>= λ y. k (operands_of x y))
both (Ok x) n k = second (n x) x k
both (Err e) n k = refl

operands_left : (arithmetic q : Bool) (t : Option Ty) (a b : Option Ty → Typed) (k : Operands → Typed)
    → (operands (order_of arithmetic t false q) a b >>= k)
    ≡ (a (if arithmetic then t else None) >>= λ x. b (Some (ty_or (if arithmetic then t else None) x)) >>= λ y. k (operands_of x y))
operands_left true q (Some t) a b k = both (a (Some t)) (λ x. b (Some t)) k
operands_left true q None a b k = both (a None) (λ x. b (Some (ty_of x))) k
operands_left false q t a b k = both (a None) (λ x. b (Some (ty_of x))) k

target_behind : (m : Result Ty SourceError) (x : TypedExpr) (k : TypedExpr × Ty → Typed) → ((m >>= λ u. Ok (x, u)) >>= k) ≡ (m >>= λ u. k (x, u))
target_behind (Ok u) x k = refl
target_behind (Err e) x k = refl

cast_left : (m : Typed) (n : Result Ty SourceError) (k : TypedExpr × Ty → Typed) → ((m >>= λ x. n >>= λ u. Ok (x, u)) >>= k) ≡ (m >>= λ x. n >>= λ u. k (x, u))
cast_left (Ok x) n k = target_behind n x k
cast_left (Err e) n k = refl

module _ (σ : Setting) (Γ : List Variable) where
  goes_left : (s : Span) (o : Operation) (t : Option Ty) → GoesLeft o → typed σ Γ (written s o) t ≡ (typed σ Γ (left_of o) (first_ty o t) >>= finished σ Γ s o t)
  goes_left s (operation.Binary op o a b) t h =
      ap (λ p. operands (order_of (is_arithmetic op) t p (is_bare b.now)) (typed σ Γ a.now) (typed σ Γ b.now) >>= operated t s o (span_of a.now) op) h
      ∙ operands_left (is_arithmetic op) (is_bare b.now) t (typed σ Γ a.now) (typed σ Γ b.now) (operated t s o (span_of a.now) op)
  goes_left s (operation.Lazy op a b) t h = refl
  goes_left s (operation.Update op o a b) t h = refl

  above_first : (s : Span) (o : Above) (t : Option Ty) → GoesFirst o → typed σ Γ (written_above s o) t ≡ (typed σ Γ (operand_of o) (operand_ty o t) >>= finished_above σ Γ s o t)
  above_first s (above.Operation o) t h = goes_left s o t h
  above_first s (above.Cast a w) t h =
      ap (λ p. cast_parts p (typed σ Γ a.now) (written_type σ.types w.now) >>= widened t s (span_of a.now) (type_span w.now)) h
      ∙ cast_left (typed σ Γ a.now None) (written_type σ.types w.now) (widened t s (span_of a.now) (type_span w.now))

  -- ---- frames

  climbed_last : (fs : List Frame) (f : Frame) (m : Typed) → climbed σ Γ (fs ++ f ∷ []) m ≡ climbed σ Γ fs (m >>= behind σ Γ f)
  climbed_last [] f m = refl
  climbed_last (g ∷ fs) f m = ap (λ n. n >>= behind σ Γ g) (climbed_last fs f m)

  -- a step down
  pub down : (fs gs : List Frame) (f : Frame) (e : Expr) → gs ≡ fs ++ f ∷ [] → written_above f.whole f.above ≡ e → GoesFirst f.above
      → climbed σ Γ fs (typed σ Γ e f.expected) ≡ climbed σ Γ gs (typed σ Γ (operand_of f.above) (operand_ty f.above f.expected))
  down fs gs f e pushed is left =
      ap (climbed σ Γ fs) (ap (λ x. typed σ Γ x f.expected) (sym is) ∙ above_first f.whole f.above f.expected left)
      ∙ sym (climbed_last fs f (typed σ Γ (operand_of f.above) (operand_ty f.above f.expected)))
      ∙ ap (λ hs. climbed σ Γ hs (typed σ Γ (operand_of f.above) (operand_ty f.above f.expected))) (sym pushed)

  -- a step up
  pub up : (fs gs : List Frame) (f : Frame) (x y : TypedExpr) → gs ≡ fs ++ f ∷ [] → behind σ Γ f x ≡ Ok y → climbed σ Γ gs (Ok x) ≡ climbed σ Γ fs (Ok y)
  up fs gs f x y popped is = ap (λ hs. climbed σ Γ hs (Ok x)) popped ∙ climbed_last fs f (Ok x) ∙ ap (climbed σ Γ fs) is

  pub climbed_refuses : (stop : PassError) (fs : List Frame) (m : Typed) → Refuses stop m → Refuses stop (climbed σ Γ fs m)
  climbed_refuses stop [] m h = h
  climbed_refuses stop (f ∷ fs) m h = refuses_then stop (climbed σ Γ fs m) (behind σ Γ f) (climbed_refuses stop fs m h)

  pub up_refuses : (stop : PassError) (fs gs : List Frame) (f : Frame) (x : TypedExpr) → gs ≡ fs ++ f ∷ [] → Refuses stop (behind σ Γ f x) → Refuses stop (climbed σ Γ gs (Ok x))
  up_refuses stop fs gs f x popped h =
      along stop _ _ (ap (λ hs. climbed σ Γ hs (Ok x)) popped ∙ climbed_last fs f (Ok x)) (climbed_refuses stop fs (behind σ Γ f x) h)

-- ---- sizes

pub written_size : (s : Span) (o : Operation) → expr_size (written s o) ≡ suc (max (expr_size (left_of o)) (expr_size (right_of o)))
written_size s (operation.Binary op o a b) = refl
written_size s (operation.Lazy op a b) = refl
written_size s (operation.Update op o a b) = refl

pub above_size : (s : Span) (o : Above) → expr_size (written_above s o) ≡ suc (max (expr_size (operand_of o)) (right_size o))
above_size s (above.Operation o) = written_size s o
above_size s (above.Cast a w) = omega arith

pub frames_last : (fs : List Frame) (f : Frame) → frames_size (fs ++ f ∷ []) ≡ max (frames_size fs) (suc (right_size f.above))
frames_last [] f = omega arith
frames_last (g ∷ fs) f = omega (arith, frames_last fs f)

-- a step down
pub sizes_down : (fs gs : List Frame) (f : Frame) (e l : Expr) (n : ℕ) → gs ≡ fs ++ f ∷ [] → written_above f.whole f.above ≡ e → l ≡ operand_of f.above → expr_size e ≤ n → frames_size fs ≤ n
    → (expr_size l ≤ n) × (frames_size gs ≤ n)
sizes_down fs gs f e l n pushed is left small few =
    let whole = sym (ap expr_size is) ∙ above_size f.whole f.above in
    (omega (arith, ap expr_size left, whole, small), omega (arith, ap frames_size pushed, frames_last fs f, whole, small, few))

-- a step up
pub sizes_up : (fs gs : List Frame) (f : Frame) (n : ℕ) → gs ≡ fs ++ f ∷ [] → frames_size gs ≤ n → (frames_size fs ≤ n) × (suc (right_size f.above) ≤ n)
sizes_up fs gs f n popped few = (omega (arith, ap frames_size popped, frames_last fs f, few), omega (arith, ap frames_size popped, frames_last fs f, few))
