-- What the operators make of typed operands is typed, where it does not panic.
use Rattle.std.proofs.Common.{◌≡◌, refl, sym, subst, ℕ, zero, suc, ◌≤◌, ℤ, pos, negsuc, neg_ℤ, unsigned_abs, ◌%◌, ◌+ℤ◌, ◌-ℤ◌, ◌*ℤ◌, int_div, int_rem, Bool, true, false, cond, Option, Some, arith}
use Rattle.std.proofs.Math.Nat.{mod-le}
use Rattle.std.specs.Ordering.{int_eq}
use Rattle.text_core.specs.declared.span.Span.{Span}
use Rattle.text_core.specs.declared.refusal.Cause.TheVariants.{Overflow, Division}
use Rattle.source_kinds.specs.declared.kinds.IntKind.{IntKind}
use Rattle.source_kinds.specs.declared.kinds.IntKind.TheVariants.{I8, I16, I32, I64, Isize, U8, U16, U32, U64, Usize}
use Rattle.source_kinds.specs.declared.kinds.BinaryOp.{BinaryOp}
use Rattle.source_kinds.specs.declared.kinds.BinaryOp.TheVariants.{Add, Sub, Mul, Div, Rem, Eq, Ne, Lt, Le, Gt, Ge}
use Rattle.source_kinds.specs.Range.{fits}
use Rattle.logic_term.specs.Sort.{Declarations, instance}
use Rattle.logic_term.specs.Ty.{Ty, Tys, int, bool}
use Rattle.mir_ir.specs.Body.{kind_of}
use Rattle.mir_ir.specs.WellFormed.{operation_ty, IsEquality, OperationHas}
use Rattle.mir_machine.specs.Try.{Yields, Panics}
use Rattle.mir_machine.specs.Tree.{Tree, Int, Truth}
use Rattle.mir_machine.specs.Frame.{State}
use Rattle.mir_machine.specs.Step.{fit, divide, of_integers, of_truths, binary, negated, inverted}
use Rattle.mir_machine.specs.Invariant.{HasType}
use Rattle.mir_machine.proofs.Tried.{Goes}
use Rattle.mir_machine.proofs.TypedTrees.{Shape, has_int, has_truth}

-- what is nearer to 0 fits too
nearer_pos : (k : IntKind) (a m : ℕ) → m ≤ a → fits k (pos a) ≡ true → fits k (pos m) ≡ true
nearer_pos I8 a m h e = grind arith
nearer_pos I16 a m h e = grind arith
nearer_pos I32 a m h e = grind arith
nearer_pos I64 a m h e = grind arith
nearer_pos Isize a m h e = grind arith
nearer_pos U8 a m h e = grind arith
nearer_pos U16 a m h e = grind arith
nearer_pos U32 a m h e = grind arith
nearer_pos U64 a m h e = grind arith
nearer_pos Usize a m h e = grind arith

nearer_neg : (k : IntKind) (a m : ℕ) → m ≤ suc a → fits k (negsuc a) ≡ true → fits k (neg_ℤ (pos m)) ≡ true
nearer_neg I8 a zero h e = refl
nearer_neg I8 a (suc m) h e = grind arith
nearer_neg I16 a zero h e = refl
nearer_neg I16 a (suc m) h e = grind arith
nearer_neg I32 a zero h e = refl
nearer_neg I32 a (suc m) h e = grind arith
nearer_neg I64 a zero h e = refl
nearer_neg I64 a (suc m) h e = grind arith
nearer_neg Isize a zero h e = refl
nearer_neg Isize a (suc m) h e = grind arith
nearer_neg U8 a zero h e = refl
nearer_neg U8 a (suc m) h e = grind arith
nearer_neg U16 a zero h e = refl
nearer_neg U16 a (suc m) h e = grind arith
nearer_neg U32 a zero h e = refl
nearer_neg U32 a (suc m) h e = grind arith
nearer_neg U64 a zero h e = refl
nearer_neg U64 a (suc m) h e = grind arith
nearer_neg Usize a zero h e = refl
nearer_neg Usize a (suc m) h e = grind arith

rem_fits : (k : IntKind) (x y : ℤ) → fits k x ≡ true → fits k (int_rem x y) ≡ true
rem_fits k (pos a) y h = nearer_pos k a (a % unsigned_abs y) (mod-le a (unsigned_abs y)) h
rem_fits k (negsuc a) y h = nearer_neg k a (suc a % unsigned_abs y) (mod-le (suc a) (unsigned_abs y)) h

module _ {K : Type 0} (Δ : Declarations) (s : State K) where
  fit_goes : (k : IntKind) (span : Span) (z : ℤ) → Goes (HasType Δ s (int k)) (fit k span z)
  fit_goes k span z = by_test (fits k z) refl
    where
      by_test : (t : Bool) → fits k z ≡ t → Goes (HasType Δ s (int k)) (cond t (Yields (Int z)) (Panics Overflow span))
      by_test true e = has_int k z e
      by_test false e = tt

  divide_goes : (k : IntKind) (span : Span) (f : ℤ → ℤ → ℤ) (x y : ℤ) → (int_eq y (pos 0) ≡ false → fits k (int_div x y) ≡ true → fits k (f x y) ≡ true) → Goes (HasType Δ s (int k)) (divide k span f x y)
  divide_goes k span f x y fine = by_zero (int_eq y (pos 0)) refl
    where
      by_fit : int_eq y (pos 0) ≡ false → (t : Bool) → fits k (int_div x y) ≡ t → Goes (HasType Δ s (int k)) (cond t (Yields (Int (f x y))) (Panics Overflow span))
      by_fit n true e = has_int k (f x y) (fine n e)
      by_fit n false e = tt

      by_zero : (t : Bool) → int_eq y (pos 0) ≡ t → Goes (HasType Δ s (int k)) (cond t (Panics Division span) (cond (fits k (int_div x y)) (Yields (Int (f x y))) (Panics Overflow span)))
      by_zero true e = tt
      by_zero false e = by_fit e (fits k (int_div x y)) refl

  integers_go : (θ : Tys) (k : IntKind) (span : Span) (op : BinaryOp) (x y : ℤ) → fits k x ≡ true → fits k y ≡ true → Goes (HasType Δ s (instance θ (operation_ty op k))) (of_integers (kind_of (instance θ (operation_ty op k))) span op x y)
  integers_go θ k span Add x y hx hy = fit_goes k span (x +ℤ y)
  integers_go θ k span Sub x y hx hy = fit_goes k span (x -ℤ y)
  integers_go θ k span Mul x y hx hy = fit_goes k span (x *ℤ y)
  integers_go θ k span Div x y hx hy = divide_goes k span int_div x y (λ n e. e)
  integers_go θ k span Rem x y hx hy = divide_goes k span int_rem x y (λ n e. rem_fits k x y hx)
  integers_go θ k span Eq x y hx hy = has_truth _
  integers_go θ k span Ne x y hx hy = has_truth _
  integers_go θ k span Lt x y hx hy = has_truth _
  integers_go θ k span Le x y hx hy = has_truth _
  integers_go θ k span Gt x y hx hy = has_truth _
  integers_go θ k span Ge x y hx hy = has_truth _

  of_two_integers : (θ : Tys) (k : IntKind) (span : Span) (op : BinaryOp) (t u : Tree K) → Shape (int k) t → Shape (int k) u → Goes (HasType Δ s (instance θ (operation_ty op k))) (binary (kind_of (instance θ (operation_ty op k))) span op t u)
  of_two_integers θ k span op t u (there_t, (x, is_x, hx)) (there_u, (y, is_y, hy)) =
      subst (λ w. Goes (HasType Δ s (instance θ (operation_ty op k))) (binary (kind_of (instance θ (operation_ty op k))) span op w u)) (sym is_x)
      (subst (λ w. Goes (HasType Δ s (instance θ (operation_ty op k))) (binary (kind_of (instance θ (operation_ty op k))) span op (Int x) w)) (sym is_y)
      (integers_go θ k span op x y hx hy))

  truths_go : (op : BinaryOp) (x y : Bool) → IsEquality op → Goes (HasType Δ s bool) (of_truths op x y)
  truths_go Eq x y h = has_truth _
  truths_go Ne x y h = has_truth _
  truths_go _ x y h = absurd h

  of_two_truths : (kind : Option IntKind) (span : Span) (op : BinaryOp) (t u : Tree K) → IsEquality op → Shape bool t → Shape bool u → Goes (HasType Δ s bool) (binary kind span op t u)
  of_two_truths kind span op t u equality (there_t, (x, is_x)) (there_u, (y, is_y)) =
      subst (λ w. Goes (HasType Δ s bool) (binary kind span op w u)) (sym is_x)
      (subst (λ w. Goes (HasType Δ s bool) (binary kind span op (Truth x) w)) (sym is_y)
      (truths_go op x y equality))

  -- two operands of one type
  pub binary_goes : (θ : Tys) (span : Span) (op : BinaryOp) (of ty : Ty) (t u : Tree K) → OperationHas op of ty → Shape (instance θ of) t → Shape (instance θ of) u → Goes (HasType Δ s (instance θ ty)) (binary (kind_of (instance θ ty)) span op t u)
  binary_goes θ span op (int k) ty t u is_ty shape_t shape_u =
      subst (λ q. Goes (HasType Δ s (instance θ q)) (binary (kind_of (instance θ q)) span op t u)) (sym is_ty) (of_two_integers θ k span op t u shape_t shape_u)
  binary_goes θ span op bool ty t u (equality, is_ty) shape_t shape_u =
      subst (λ q. Goes (HasType Δ s (instance θ q)) (binary (kind_of (instance θ q)) span op t u)) (sym is_ty) (of_two_truths (kind_of (instance θ bool)) span op t u equality shape_t shape_u)
  binary_goes θ span op _ ty t u h shape_t shape_u = absurd h

  pub negated_goes : (k : IntKind) (span : Span) (t : Tree K) → Shape (int k) t → Goes (HasType Δ s (int k)) (negated (Some k) span t)
  negated_goes k span t (there, (z, is, e)) = subst (λ w. Goes (HasType Δ s (int k)) (negated (Some k) span w)) (sym is) (fit_goes k span (neg_ℤ z))

  pub inverted_goes : (t : Tree K) → Shape bool t → Goes (HasType Δ s bool) (inverted t)
  inverted_goes t (there, (b, is)) = subst (λ w. Goes (HasType Δ s bool) (inverted w)) (sym is) (has_truth _)
