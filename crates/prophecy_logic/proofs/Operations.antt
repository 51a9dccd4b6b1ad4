-- The commands of an operation lead where its operands' values say, if its goals hold.
use Rattle.std.proofs.Common.{◌≡◌, ◌∙◌, ◌↔◌, refl, sym, ap, subst, ℤ, pos, negsuc, Bool, true, false, [], ◌∷◌, true≢false}
use Rattle.std.specs.Prelude.{int_le, ◌&&◌}
use Rattle.std.specs.Prelude.{not as flip}
use Rattle.text_core.specs.declared.name.Name.{Name}
use Rattle.source_kinds.specs.declared.kinds.IntKind.{IntKind}
use Rattle.source_kinds.specs.Range.{lowest, highest, fits}
use Rattle.logic_term.specs.Ty.{int, math_int}
use Rattle.logic_term.specs.Value.{Value, Number, Flag}
use Rattle.logic_term.specs.Sort.{of_int}
use Rattle.logic_term.specs.Term.{Term, var, lit, model, not, is_at_most, is_equal, and}
use Rattle.logic_term.specs.Meaning.{Says, Decided, Structure, Env, with_value, Means, Holds, Yes}
use Rattle.logic_term.proofs.Alike.{alike_exactly, alike_same}
use Rattle.logic_term.proofs.Coincide.{with_same}
use Rattle.logic_term.proofs.Truth.{Exactly, Computes, computes_model, holds_and, holds_not, holds_at_most, holds_equal_exactly, yes_flag}
use Rattle.prophecy_logic.specs.declared.command.Command.TheVariants.{Set, Fresh, Assume}
use Rattle.prophecy_logic.specs.Command.{by_set, by_fresh, by_assume, MovesAll, none, more}
use Rattle.prophecy_logic.specs.Row.{value_name, in_range, not_zero, not_least_by_minus_one}

-- ---- what says a decided fact

says_one : (P : Type 0) (b c : Bool) → Decided b P → Decided c P → b ≡ c
says_one P true true p q = refl
says_one P true false p q = absurd (q p)
says_one P false true p q = absurd (p q)
says_one P false false p q = refl

pub says_exactly : (P : Type 0) (c : Bool) → Decided c P → Exactly (Says P) (Flag c)
says_exactly P c d = alike_exactly _ _ (λ v. ((λ p. p.1 ∙ ap Flag (says_one P p.0 c p.2 d)), (λ e. (c, e, d))))

decided_not : (c : Bool) (P : Type 0) → P ↔ (c ≡ true) → Decided (flip c) (P → ⊥)
decided_not true P e = λ n. n (e.1 refl)
decided_not false P e = λ p. true≢false (sym (e.0 p))

module _ (S : Structure) where
  -- the negation of a term that has a truth value
  pub not_exactly : (t : Term) (ρ : Env) (c : Bool) → Exactly (Means S t ρ) (Flag c) → Exactly (Means S (not t) ρ) (Flag (flip c))
  not_exactly t ρ c e = says_exactly (Yes (Means S t ρ) → ⊥) (flip c) (decided_not c (Yes (Means S t ρ)) (yes_flag (Means S t ρ) c e))

  -- ---- a new value

  -- local x has the exact value z of the term
  pub new_moves : (k : IntKind) (x : Name) (t : Term) (ρ : Env) (z : ℤ) → fits k z ≡ true → Computes S t (with_value ρ value_name (Number z)) z →
      MovesAll S (Fresh value_name (int k) ∷ Assume (is_equal (model (var value_name)) t) ∷ Set x (var value_name) ∷ []) ρ (with_value (with_value ρ value_name (Number z)) x (Number z))
  new_moves k x t ρ z f computes =
      let w : Value = Number z in
      let ρ₁ : Env = with_value ρ value_name w in
      let here : ρ₁ value_name ≡ w = with_same ρ value_name w in
      let is_w : Exactly (Means S (var value_name) ρ₁) w = subst (λ u. Exactly (Means S (var value_name) ρ₁) u) here (alike_same _) in
      let left : Exactly (Means S (model (var value_name)) ρ₁) w = computes_model S (var value_name) ρ₁ w is_w in
      more (by_fresh w (of_int f)) (more (by_assume ((holds_equal_exactly S (model (var value_name)) t ρ₁ w w left computes).1 (λ n. n refl))) (more (by_set w is_w) none))

  -- ---- goals

  both_true : (a b : Bool) → a ≡ true → b ≡ true → (a && b) ≡ true
  both_true a b e f = ap (λ c. c && b) e ∙ f

  pub range_fits : (k : IntKind) (t : Term) (ρ : Env) (z : ℤ) → Computes S t ρ z → Holds S (in_range k t) ρ → fits k z ≡ true
  unfolding in_range
  range_fits k t ρ z c h =
      let two = (holds_and S (is_at_most (lit (lowest k) math_int) t) (is_at_most t (lit (highest k) math_int)) ρ).0 h in
      both_true (int_le (lowest k) z) (int_le z (highest k))
      ((holds_at_most S (lit (lowest k) math_int) t ρ (Number (lowest k)) (Number z) (alike_same _) c).0 two.0)
      ((holds_at_most S t (lit (highest k) math_int) ρ (Number z) (Number (highest k)) c (alike_same _)).0 two.1)

  equals : (t : Term) (ρ : Env) (z n : ℤ) → Computes S t ρ z → z ≡ n → Holds S (is_equal t (lit n math_int)) ρ
  equals t ρ z n c e = (holds_equal_exactly S t (lit n math_int) ρ (Number z) (Number n) c (alike_same _)).1 (λ f. f (ap Number e))

  pub divisor_not_zero : (t : Term) (ρ : Env) (z : ℤ) → Computes S t ρ z → Holds S (not_zero t) ρ → z ≡ pos 0 → ⊥
  unfolding not_zero
  divisor_not_zero t ρ z c h e = (holds_not S (is_equal t (lit (pos 0) math_int)) ρ).0 h (equals t ρ z (pos 0) c e)

  pub not_least_there : (k : IntKind) (a b : Term) (ρ : Env) (y z : ℤ) → Computes S a ρ y → Computes S b ρ z → Holds S (not_least_by_minus_one k a b) ρ → y ≡ lowest k → z ≡ negsuc 0 → ⊥
  unfolding not_least_by_minus_one
  not_least_there k a b ρ y z c d h e f =
      (holds_not S (and (is_equal a (lit (lowest k) math_int)) (is_equal b (lit (negsuc 0) math_int))) ρ).0 h
      ((holds_and S (is_equal a (lit (lowest k) math_int)) (is_equal b (lit (negsuc 0) math_int)) ρ).1 (equals a ρ y (lowest k) c e, equals b ρ z (negsuc 0) d f))
