-- What operations on trees show, and where they do not panic.
use Rattle.std.proofs.Common.{◌≡◌, sym, ap, subst, ℤ, pos, neg_ℤ, ◌+ℤ◌, ◌-ℤ◌, ◌*ℤ◌, int_div, int_rem, int_lt, int_le, Bool, true, false, not, cond, Option, Some, None}
use Rattle.std.specs.Ordering.{int_eq}
use Rattle.text_core.specs.declared.refusal.Cause.TheVariants.{Overflow, Division}
use Rattle.text_core.specs.declared.span.Span.{Span}
use Rattle.source_kinds.specs.declared.kinds.IntKind.{IntKind}
use Rattle.source_kinds.specs.declared.kinds.BinaryOp.{BinaryOp}
use Rattle.source_kinds.specs.declared.kinds.BinaryOp.TheVariants.{Add, Sub, Mul, Div, Rem, Eq, Ne, Lt, Le, Gt, Ge}
use Rattle.source_kinds.specs.Range.{fits}
use Rattle.logic_term.specs.Value.{Value, Number, Flag, nothing, integer_of, flag_of}
use Rattle.mir_machine.specs.Try.{Try, Yields, Panics, ◌>>=◌, need}
use Rattle.mir_machine.specs.Tree.{Tree, Int, Truth, Made, Boxed, Shared, Unique, Gone}
use Rattle.mir_machine.specs.Step.{fit, divide, of_integers, same_truth, of_truths, binary, negated, inverted}
use Rattle.mir_machine.proofs.Tried.{Quiet}
use Rattle.prophecy_sim.proofs.Owned.{Shows, int_shows, truth_shows, shows_int, shows_truth}

abbrev pub operation_value : BinaryOp → ℤ → ℤ → Value
operation_value Add a b = Number (a +ℤ b)
operation_value Sub a b = Number (a -ℤ b)
operation_value Mul a b = Number (a *ℤ b)
operation_value Div a b = Number (int_div a b)
operation_value Rem a b = Number (int_rem a b)
operation_value Eq a b = Flag (int_eq a b)
operation_value Ne a b = Flag (not (int_eq a b))
operation_value Lt a b = Flag (int_lt a b)
operation_value Le a b = Flag (int_le a b)
operation_value Gt a b = Flag (int_lt b a)
operation_value Ge a b = Flag (int_le b a)

abbrev pub truths_value : BinaryOp → Bool → Bool → Value
truths_value Eq a b = Flag (same_truth a b)
truths_value Ne a b = Flag (not (same_truth a b))
truths_value _ a b = nothing

-- of two integers, or of two truth values
abbrev pub applied : BinaryOp → Value → Value → Value
applied op (Number a) (Number b) = operation_value op a b
applied op (Flag a) (Flag b) = truths_value op a b
applied op _ _ = nothing

abbrev pub InKind : Option IntKind → (IntKind → Type 0) → Type 0
InKind (Some k) P = P k
InKind None P = Unit {0}

-- the operation does not panic
abbrev pub IsInRange : Option IntKind → BinaryOp → ℤ → ℤ → Type 0
IsInRange kind Add a b = InKind kind (λ k. fits k (a +ℤ b) ≡ true)
IsInRange kind Sub a b = InKind kind (λ k. fits k (a -ℤ b) ≡ true)
IsInRange kind Mul a b = InKind kind (λ k. fits k (a *ℤ b) ≡ true)
IsInRange kind Div a b = InKind kind (λ k. (int_eq b (pos 0) ≡ false) × (fits k (int_div a b) ≡ true))
IsInRange kind Rem a b = InKind kind (λ k. (int_eq b (pos 0) ≡ false) × (fits k (int_div a b) ≡ true))
IsInRange kind _ a b = Unit {0}

-- the exact integer, where the operand is an integer
abbrev pub opposite : Value → ℤ
opposite v = neg_ℤ (integer_of v)

module _ (K : Type 0) where
  -- the tree shows the value
  abbrev Has : Value → Tree K → Type 0
  Has v t = Shows t v

  in_kind : {A : Type 0} (P : IntKind → Type 0) (Q : A → Type 0) (kind : Option IntKind) (f : IntKind → Try A) → InKind kind P → ((k : IntKind) → P k → Quiet Q (f k)) → Quiet Q (need kind >>= f)
  in_kind P Q (Some k) f h go = go k h
  in_kind P Q None f h go = tt

  fit_shows : (k : IntKind) (span : Span) (z : ℤ) → fits k z ≡ true → Quiet (Has (Number z)) (fit k span z)
  fit_shows k span z e = subst (λ b. Quiet (Has (Number z)) (cond b (Yields (Int z)) (Panics Overflow span))) (sym e) (int_shows K z)

  divide_shows : (k : IntKind) (span : Span) (f : ℤ → ℤ → ℤ) (a b : ℤ) → (int_eq b (pos 0) ≡ false) × (fits k (int_div a b) ≡ true) → Quiet (Has (Number (f a b))) (divide k span f a b)
  divide_shows k span f a b (n, e) =
      subst (λ c. Quiet (Has (Number (f a b))) (cond c (Panics Division span) (cond (fits k (int_div a b)) (Yields (Int (f a b))) (Panics Overflow span)))) (sym n)
      (subst (λ c. Quiet (Has (Number (f a b))) (cond c (Yields (Int (f a b))) (Panics Overflow span))) (sym e) (int_shows K (f a b)))

  integers_show : (kind : Option IntKind) (span : Span) (op : BinaryOp) (a b : ℤ) → IsInRange kind op a b → Quiet (Has (operation_value op a b)) (of_integers kind span op a b)
  integers_show kind span Add a b h = in_kind (λ k. fits k (a +ℤ b) ≡ true) (Has (Number (a +ℤ b))) kind (λ k. fit k span (a +ℤ b)) h (λ k e. fit_shows k span (a +ℤ b) e)
  integers_show kind span Sub a b h = in_kind (λ k. fits k (a -ℤ b) ≡ true) (Has (Number (a -ℤ b))) kind (λ k. fit k span (a -ℤ b)) h (λ k e. fit_shows k span (a -ℤ b) e)
  integers_show kind span Mul a b h = in_kind (λ k. fits k (a *ℤ b) ≡ true) (Has (Number (a *ℤ b))) kind (λ k. fit k span (a *ℤ b)) h (λ k e. fit_shows k span (a *ℤ b) e)
  integers_show kind span Div a b h =
      in_kind (λ k. (int_eq b (pos 0) ≡ false) × (fits k (int_div a b) ≡ true)) (Has (Number (int_div a b))) kind (λ k. divide k span int_div a b) h (λ k e. divide_shows k span int_div a b e)
  integers_show kind span Rem a b h =
      in_kind (λ k. (int_eq b (pos 0) ≡ false) × (fits k (int_div a b) ≡ true)) (Has (Number (int_rem a b))) kind (λ k. divide k span int_rem a b) h (λ k e. divide_shows k span int_rem a b e)
  integers_show kind span Eq a b h = truth_shows K _
  integers_show kind span Ne a b h = truth_shows K _
  integers_show kind span Lt a b h = truth_shows K _
  integers_show kind span Le a b h = truth_shows K _
  integers_show kind span Gt a b h = truth_shows K _
  integers_show kind span Ge a b h = truth_shows K _

  truths_show : (op : BinaryOp) (a b : Bool) → Quiet (Has (truths_value op a b)) (of_truths op a b)
  truths_show Add a b = tt
  truths_show Sub a b = tt
  truths_show Mul a b = tt
  truths_show Div a b = tt
  truths_show Rem a b = tt
  truths_show Eq a b = truth_shows K _
  truths_show Ne a b = truth_shows K _
  truths_show Lt a b = tt
  truths_show Le a b = tt
  truths_show Gt a b = tt
  truths_show Ge a b = tt

  -- the trees of the operands show these values
  pub binary_shows : (kind : Option IntKind) (span : Span) (op : BinaryOp) (t u : Tree K) (v w : Value) → Shows t v → Shows u w → IsInRange kind op (integer_of v) (integer_of w) →
      Quiet (Has (applied op v w)) (binary kind span op t u)
  binary_shows kind span op (Int a) (Int b) v w shows_a shows_b h =
      let is_a : v ≡ Number a = shows_int a v shows_a in
      let is_b : w ≡ Number b = shows_int b w shows_b in
      subst (λ x. Quiet (Has (applied op x w)) (of_integers {K = K} kind span op a b)) (sym is_a)
      (subst (λ y. Quiet (Has (applied op (Number a) y)) (of_integers {K = K} kind span op a b)) (sym is_b)
      (integers_show kind span op a b (subst (λ x. IsInRange kind op x b) (ap integer_of is_a) (subst (λ y. IsInRange kind op (integer_of v) y) (ap integer_of is_b) h))))
  binary_shows kind span op (Truth a) (Truth b) v w shows_a shows_b h =
      subst (λ x. Quiet (Has (applied op x w)) (of_truths {K = K} op a b)) (sym (shows_truth a v shows_a))
      (subst (λ y. Quiet (Has (applied op (Flag a) y)) (of_truths {K = K} op a b)) (sym (shows_truth b w shows_b)) (truths_show op a b))
  binary_shows kind span op (Int a) (Truth b) v w shows_a shows_b h = tt
  binary_shows kind span op (Int a) (Made c ts) v w shows_a shows_b h = tt
  binary_shows kind span op (Int a) (Boxed t) v w shows_a shows_b h = tt
  binary_shows kind span op (Int a) (Shared at) v w shows_a shows_b h = tt
  binary_shows kind span op (Int a) (Unique k at) v w shows_a shows_b h = tt
  binary_shows kind span op (Int a) Gone v w shows_a shows_b h = tt
  binary_shows kind span op (Truth a) (Int b) v w shows_a shows_b h = tt
  binary_shows kind span op (Truth a) (Made c ts) v w shows_a shows_b h = tt
  binary_shows kind span op (Truth a) (Boxed t) v w shows_a shows_b h = tt
  binary_shows kind span op (Truth a) (Shared at) v w shows_a shows_b h = tt
  binary_shows kind span op (Truth a) (Unique k at) v w shows_a shows_b h = tt
  binary_shows kind span op (Truth a) Gone v w shows_a shows_b h = tt
  binary_shows kind span op (Made c ts) u v w shows_a shows_b h = tt
  binary_shows kind span op (Boxed t) u v w shows_a shows_b h = tt
  binary_shows kind span op (Shared at) u v w shows_a shows_b h = tt
  binary_shows kind span op (Unique k at) u v w shows_a shows_b h = tt
  binary_shows kind span op Gone u v w shows_a shows_b h = tt

  pub negated_shows : (kind : Option IntKind) (span : Span) (t : Tree K) (v : Value) → Shows t v → InKind kind (λ k. fits k (opposite v) ≡ true) →
      Quiet (Has (Number (opposite v))) (negated kind span t)
  negated_shows kind span (Int a) v shows h =
      let is : v ≡ Number a = shows_int a v shows in
      subst (λ x. Quiet (Has (Number (neg_ℤ x))) (negated {K = K} kind span (Int a))) (sym (ap integer_of is))
      (in_kind (λ k. fits k (neg_ℤ a) ≡ true) (Has (Number (neg_ℤ a))) kind (λ k. fit k span (neg_ℤ a)) (subst (λ x. InKind kind (λ k. fits k (neg_ℤ x) ≡ true)) (ap integer_of is) h) (λ k e. fit_shows k span (neg_ℤ a) e))
  negated_shows kind span (Truth b) v shows h = tt
  negated_shows kind span (Made c ts) v shows h = tt
  negated_shows kind span (Boxed t) v shows h = tt
  negated_shows kind span (Shared at) v shows h = tt
  negated_shows kind span (Unique k at) v shows h = tt
  negated_shows kind span Gone v shows h = tt

  pub inverted_shows : (t : Tree K) (v : Value) → Shows t v → Quiet (Has (Flag (not (flag_of v)))) (inverted t)
  inverted_shows (Truth b) v shows = subst (λ x. Quiet (Has (Flag (not x))) (inverted {K = K} (Truth b))) (sym (ap flag_of (shows_truth b v shows))) (truth_shows K _)
  inverted_shows (Int z) v shows = tt
  inverted_shows (Made c ts) v shows = tt
  inverted_shows (Boxed t) v shows = tt
  inverted_shows (Shared at) v shows = tt
  inverted_shows (Unique k at) v shows = tt
  inverted_shows Gone v shows = tt
