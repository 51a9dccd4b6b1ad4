-- What passes the tests of the sorts bool and Int has a truth value, or an integer, and what equations of such terms say.
use Rattle.std.proofs.Common.{◌≡◌, Bool, true, false, List, Option, Some, None, refl, sym, ◌∙◌, ap, subst, arith, true≢false}
use Rattle.std.specs.Prelude.{ℤ, neg_ℤ, ◌≤ℤ◌, int_lt, int_le}
use Rattle.std.proofs.lemmas.Int.{ints}
use Rattle.text_core.specs.declared.name.Name.{Name}
use Rattle.logic_term.specs.Ty.{Ty, bool, math_int}
use Rattle.logic_term.specs.Value.{Value, Number, Flag, integer_of, flag_of}
use Rattle.logic_term.specs.Sort.{HasSort, instance}
use Rattle.logic_term.specs.Theory.{declared}
use Rattle.logic_term.specs.Term.{modeled, negated, denied, arith as by_op, less, at_most, equal, both, either, implied, choice, every, some, Term, var, lit, truth, apply, bind, no_terms, and_term, not, is_at_most, is_equal, implies}
use Rattle.logic_term.specs.Meaning.{Sure, Structure, Env, Means, Holds, Picked, calculated}
use Rattle.logic_term.proofs.Alike.{sure_map}
use Rattle.logic_term.proofs.SortParts.{parts}
use Rattle.logic_term.proofs.Truth.{holds_not, holds_implies, holds_equal}
use Rattle.logic_term.proofs.Unique.{single, has_value}
use Rattle.proof_kernel.specs.Linear.{is_math_int, is_math_int_var, is_integer}
use Rattle.proof_kernel.specs.Rules.{sort_of}
use Rattle.proof_kernel.specs.Sequent.{InSorts}
use Rattle.proof_kernel.specs.SortTests.{is_bool, is_bool_var, is_formula, are_formulas, are_integers}
use Rattle.proof_kernel.proofs.LinearSound.{at_most_is}
use Rattle.proof_kernel.proofs.Sound.{and_true, sorted}

abbrev IsFlag : Value → Type 0
IsFlag v = (b : Bool) × (v ≡ Flag b)

abbrev IsNumber : Value → Type 0
IsNumber v = (z : ℤ) × (v ≡ Number z)

bool_sort : (t : Ty) → is_bool t ≡ true → t ≡ bool
bool_sort bool e = refl
bool_sort t e = absurd (cc)

int_sort : (t : Ty) → is_math_int t ≡ true → t ≡ math_int
int_sort math_int e = refl
int_sort t e = absurd (cc)

each_most : (m n : ℤ) → m ≤ℤ n → n ≤ℤ m → m ≡ n
each_most m n h g = omega (arith, ints)

module _ (S : Structure) (vars : List (Name × Ty)) (ρ : Env) (z : InSorts S vars ρ) where
  -- ---- the tests

  var_flag : (x : Name) (o : Option Ty) → sort_of x vars ≡ o → is_bool_var o ≡ true → IsFlag (ρ x)
  var_flag x None e b = absurd (cc)
  var_flag x (Some t) e b =
      parts (declared S.theory) (ρ x) bool (subst (λ (u : Ty). HasSort (declared S.theory) (ρ x) (instance S.types u)) (bool_sort t b) (sorted S x vars t ρ e z))

  var_number : (x : Name) (o : Option Ty) → sort_of x vars ≡ o → is_math_int_var o ≡ true → IsNumber (ρ x)
  var_number x None e b = absurd (cc)
  var_number x (Some t) e b =
      parts (declared S.theory) (ρ x) math_int (subst (λ (u : Ty). HasSort (declared S.theory) (ρ x) (instance S.types u)) (int_sort t b) (sorted S x vars t ρ e z))

  chosen_flag : {v : Value} (a b : Term) → (Means S a ρ v → IsFlag v) → (Means S b ρ v → IsFlag v) → (j : Bool) → Picked j (Means S a ρ) (Means S b ρ) v → IsFlag v
  chosen_flag a b f g true m = f m
  chosen_flag a b f g false m = g m

  formula_value : (t : Term) → is_formula vars t ≡ true → (v : Value) → Means S t ρ v → IsFlag v
  formula_value (var x) e v m = let p = var_flag x (sort_of x vars) refl e in (p.0, m ∙ p.1)
  formula_value (truth b) e v m = (b, m)
  formula_value (apply denied ts) e v m = (m.0, m.1)
  formula_value (apply less ts) e v m = (int_lt (integer_of m.0) (integer_of m.1), m.4)
  formula_value (apply at_most ts) e v m = (int_le (integer_of m.0) (integer_of m.1), m.4)
  formula_value (apply equal ts) e v m = (m.0, m.1)
  formula_value (apply both ts) e v m = (m.0, m.1)
  formula_value (apply either ts) e v m = (m.0, m.1)
  formula_value (apply implied ts) e v m = (m.0, m.1)
  formula_value (apply choice (and_term c (and_term a (and_term b no_terms)))) e v m =
      let are = and_true (is_formula vars a) (is_formula vars b) e in
      chosen_flag a b (formula_value a are.0 v) (formula_value b are.1 v) m.0 m.2
  formula_value (bind every x s t) e v m = (m.0, m.1)
  formula_value (bind some x s t) e v m = (m.0, m.1)
  formula_value t e v m = absurd (cc)

  integer_value : (t : Term) → is_integer vars t ≡ true → (v : Value) → Means S t ρ v → IsNumber v
  integer_value (var x) e v m = let p = var_number x (sort_of x vars) refl e in (p.0, m ∙ p.1)
  integer_value (lit n s) e v m = (n, m)
  integer_value (apply modeled ts) e v m = (integer_of m.0, m.2)
  integer_value (apply negated ts) e v m = (neg_ℤ (integer_of m.0), m.2)
  integer_value (apply (by_op op) ts) e v m = (calculated op (integer_of m.0) (integer_of m.1), m.4)
  integer_value t e v m = absurd (cc)

  -- ---- truth values

  yes : (t : Term) → Means S t ρ (Flag true) → Holds S t ρ
  yes t p = λ n. n p

  not_both : (t : Term) → Means S t ρ (Flag false) → Means S t ρ (Flag true) → false ≡ true
  not_both t p q = ap flag_of (single S t ρ (Flag false) (Flag true) p q)

  no : (t : Term) → Means S t ρ (Flag false) → Holds S (not t) ρ
  no t p = (holds_not S t ρ).1 (λ h. h (λ q. true≢false (sym (not_both t p q))))

  same_flags : (a b : Term) (j k : Bool) → Means S a ρ (Flag j) → Means S b ρ (Flag k) → (Holds S a ρ → Holds S b ρ) → (Holds S b ρ → Holds S a ρ) → Sure (j ≡ k)
  same_flags a b true true p r f g = λ n. n refl
  same_flags a b true false p r f g = λ n. f (yes a p) (λ q. n (sym (not_both b r q)))
  same_flags a b false true p r f g = λ n. g (yes b r) (λ q. n (not_both a p q))
  same_flags a b false false p r f g = λ n. n refl

  same_value : (a b : Term) (v : Value) → Means S a ρ v → Means S b ρ v → Holds S (is_equal a b) ρ
  same_value a b v p r = (holds_equal S a b ρ).1 (λ x y m k n. n (single S a ρ x v m p ∙ sym (single S b ρ y v k r)))

  -- ---- equations

  pub iff_holds : (a b : Term) → are_formulas vars a b ≡ true → Holds S (implies a b) ρ → Holds S (implies b a) ρ → Holds S (is_equal a b) ρ
  iff_holds a b e f g =
      let are = and_true (is_formula vars a) (is_formula vars b) e in
      (holds_equal S a b ρ).1 (λ x y p r.
      let left = formula_value a are.0 x p in
      let right = formula_value b are.1 y r in
      sure_map _ _ (λ (same : left.0 ≡ right.0). left.1 ∙ ap Flag same ∙ sym right.1)
      (same_flags a b left.0 right.0 (subst (Means S a ρ) left.1 p) (subst (Means S b ρ) right.1 r) ((holds_implies S a b ρ).0 f) ((holds_implies S b a ρ).0 g)))

  pub orders_hold : (a b : Term) → are_integers vars a b ≡ true → Holds S (is_at_most a b) ρ → Holds S (is_at_most b a) ρ → Holds S (is_equal a b) ρ
  orders_hold a b e f g =
      let are = and_true (is_integer vars a) (is_integer vars b) e in
      (holds_equal S a b ρ).1 (λ x y p r.
      let left = integer_value a are.0 x p in
      let right = integer_value b are.1 y r in
      let there : integer_of x ≤ℤ integer_of y = at_most_is S ρ a b (integer_of x) (integer_of y) (x, p, refl) (y, r, refl) f in
      let back : integer_of y ≤ℤ integer_of x = at_most_is S ρ b a (integer_of y) (integer_of x) (y, r, refl) (x, p, refl) g in
      let same : left.0 ≡ right.0 = sym (ap integer_of left.1) ∙ each_most (integer_of x) (integer_of y) there back ∙ ap integer_of right.1 in
      λ n. n (left.1 ∙ ap Number same ∙ sym right.1))

  agree : (a b : Term) (j : Bool) → Means S a ρ (Flag j) → Means S b ρ (Flag j) → (Holds S a ρ → Holds S b ρ → ⊥) → (Holds S (not a) ρ → Holds S (not b) ρ → ⊥) → ⊥
  agree a b true p r f g = f (yes a p) (yes b r)
  agree a b false p r f g = g (no a p) (no b r)

  -- equal formulas are both true or both false
  pub equal_agree : (a b : Term) → are_formulas vars a b ≡ true → Holds S (is_equal a b) ρ → (Holds S a ρ → Holds S b ρ → ⊥) → (Holds S (not a) ρ → Holds S (not b) ρ → ⊥) → ⊥
  equal_agree a b e h f g =
      let are = and_true (is_formula vars a) (is_formula vars b) e in
      has_value S a ρ (λ (x : (v : Value) × Means S a ρ v). has_value S b ρ (λ (y : (v : Value) × Means S b ρ v).
      let left = formula_value a are.0 x.0 x.1 in
      (holds_equal S a b ρ).0 h x.0 y.0 x.1 y.1 (λ (same : x.0 ≡ y.0).
      agree a b left.0 (subst (Means S a ρ) left.1 x.1) (subst (Means S b ρ) (sym same ∙ left.1) y.1) f g)))

  differ : (a b : Term) (j k : Bool) → Means S a ρ (Flag j) → Means S b ρ (Flag k) → (Holds S (is_equal a b) ρ → ⊥) → (Holds S a ρ → Holds S (not b) ρ → ⊥) → (Holds S (not a) ρ → Holds S b ρ → ⊥) → ⊥
  differ a b true true p r d f g = d (same_value a b (Flag true) p r)
  differ a b true false p r d f g = f (yes a p) (no b r)
  differ a b false true p r d f g = g (no a p) (yes b r)
  differ a b false false p r d f g = d (same_value a b (Flag false) p r)

  -- of formulas that are not equal just one is true
  pub unequal_differ : (a b : Term) → are_formulas vars a b ≡ true → (Holds S (is_equal a b) ρ → ⊥) → (Holds S a ρ → Holds S (not b) ρ → ⊥) → (Holds S (not a) ρ → Holds S b ρ → ⊥) → ⊥
  unequal_differ a b e d f g =
      let are = and_true (is_formula vars a) (is_formula vars b) e in
      has_value S a ρ (λ (x : (v : Value) × Means S a ρ v). has_value S b ρ (λ (y : (v : Value) × Means S b ρ v).
      let left = formula_value a are.0 x.0 x.1 in
      let right = formula_value b are.1 y.0 y.1 in
      differ a b left.0 right.0 (subst (Means S a ρ) left.1 x.1) (subst (Means S b ρ) right.1 y.1) d f g))
