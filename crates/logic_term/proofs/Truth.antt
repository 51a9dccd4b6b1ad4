-- What the truth of a formula says, form by form.
use Rattle.std.proofs.Common.{◌≡◌, ℕ, ℤ, Bool, true, false, ◌↔◌, refl, sym, ◌∙◌, ap, ap₂, true≢false}
use Rattle.std.specs.Prelude.{int_le, int_lt, neg_ℤ}
use Rattle.text_core.specs.declared.name.Name.{Name}
use Rattle.source_kinds.specs.declared.kinds.ArithOp.{ArithOp}
use Rattle.logic_term.specs.Ty.{Ty}
use Rattle.logic_term.specs.Value.{Value, Number, Flag, flag_of, integer_of, nth_part}
use Rattle.logic_term.specs.Term.{Term, truth, model, negative, not, calculate, is_less, is_at_most, is_equal, and, or, implies, forall, exists, part, if_else}
use Rattle.logic_term.specs.Meaning.{Sure, Has, Of, OfTwo, Says, Yes, calculated, on_integers, compared, Structure, Env, with_value, Means, Holds}
use Rattle.logic_term.specs.Sort.{HasSort, instance}
use Rattle.logic_term.specs.Theory.{declared}
use Rattle.logic_term.proofs.Alike.{Alike, alike, to, from, sure_map, chosen_true, chosen_false}

pub stable_bool : (b c : Bool) → Sure (b ≡ c) → b ≡ c
stable_bool true true s = refl
stable_bool true false s = absurd (s true≢false)
stable_bool false true s = absurd (s (λ e. true≢false (sym e)))
stable_bool false false s = refl

pub says_true : (P : Type 0) → Says P (Flag true) → P
says_true P (true, e, p) = p
says_true P (false, e, p) = absurd (true≢false (ap flag_of e))

-- the truth of what says P is P, where P is stable
pub says_what : (P : Type 0) → (Sure P → P) → Yes (Says P) ↔ P
says_what P stable = ((λ h. stable (sure_map _ _ (says_true P) h)), (λ p n. n (true, refl, p)))

-- exactly the value w
abbrev pub Exactly : Has → Value → Type 0
Exactly A w = Alike A (λ v. v ≡ w)

pub of_exactly : (f : Value → Value) (A : Has) (x : Value) → Exactly A x → Exactly (Of f A) (f x)
of_exactly f A x e = alike _ _ (λ v p. sure_map _ _ (λ q. p.2 ∙ ap f q) (to _ _ e p.0 p.1)) (λ v p n. from _ _ e x refl (λ q. n (x, q, p)))

pub of_two_exactly : (f : Value → Value → Value) (A B : Has) (x y : Value) → Exactly A x → Exactly B y → Exactly (OfTwo f A B) (f x y)
of_two_exactly f A B x y e g = alike _ _ (λ v p n. to _ _ e p.0 p.2 (λ q. to _ _ g p.1 p.3 (λ r. n (p.4 ∙ ap₂ f q r)))) (λ v p n. from _ _ e x refl (λ q. from _ _ g y refl (λ r. n (x, y, q, r, p))))

pub yes_flag : (A : Has) (b : Bool) → Exactly A (Flag b) → Yes A ↔ (b ≡ true)
yes_flag A b e = ((λ y. stable_bool b true (sure_map _ _ (λ p. sym (ap flag_of p)) ((e (Flag true)).0 y))), (λ q. (e (Flag true)).1 (λ n. n (ap Flag (sym q)))))

module _ (S : Structure) where
  -- the term has exactly this integer
  abbrev pub Computes : Term → Env → ℤ → Type 0
  Computes t ρ z = Exactly (Means S t ρ) (Number z)

  pub computes_model : (t : Term) (ρ : Env) (v : Value) → Exactly (Means S t ρ) v → Computes (model t) ρ (integer_of v)
  computes_model t ρ v e = of_exactly _ _ v e

  pub computes_calculate : (op : ArithOp) (a b : Term) (ρ : Env) (y z : ℤ) → Computes a ρ y → Computes b ρ z → Computes (calculate op a b) ρ (calculated op y z)
  computes_calculate op a b ρ y z e g = of_two_exactly (on_integers (calculated op)) _ _ (Number y) (Number z) e g

  pub computes_negative : (t : Term) (ρ : Env) (z : ℤ) → Computes t ρ z → Computes (negative t) ρ (neg_ℤ z)
  computes_negative t ρ z e = of_exactly _ _ (Number z) e

  pub holds_less : (a b : Term) (ρ : Env) (x y : Value) → Exactly (Means S a ρ) x → Exactly (Means S b ρ) y → Holds S (is_less a b) ρ ↔ (int_lt (integer_of x) (integer_of y) ≡ true)
  holds_less a b ρ x y e g = yes_flag _ _ (of_two_exactly (compared int_lt) _ _ x y e g)

  pub holds_at_most : (a b : Term) (ρ : Env) (x y : Value) → Exactly (Means S a ρ) x → Exactly (Means S b ρ) y → Holds S (is_at_most a b) ρ ↔ (int_le (integer_of x) (integer_of y) ≡ true)
  holds_at_most a b ρ x y e g = yes_flag _ _ (of_two_exactly (compared int_le) _ _ x y e g)

  pub holds_truth : (ρ : Env) → Holds S (truth true) ρ
  holds_truth ρ n = n refl

  pub holds_false : (ρ : Env) → Holds S (truth false) ρ → ⊥
  holds_false ρ h = h (λ e. true≢false (ap flag_of e))

  pub holds_not : (t : Term) (ρ : Env) → Holds S (not t) ρ ↔ (Holds S t ρ → ⊥)
  holds_not t ρ = says_what _ (λ f y. f (λ g. g y))

  pub holds_and : (a b : Term) (ρ : Env) → Holds S (and a b) ρ ↔ (Holds S a ρ × Holds S b ρ)
  holds_and a b ρ = says_what _ (λ f. ((λ n. f (λ p. p.0 n)), (λ n. f (λ p. p.1 n))))

  pub holds_or : (a b : Term) (ρ : Env) → Holds S (or a b) ρ ↔ ((Holds S a ρ → ⊥) × (Holds S b ρ → ⊥) → ⊥)
  holds_or a b ρ = says_what _ (λ f p. f (λ g. g p))

  pub holds_implies : (a b : Term) (ρ : Env) → Holds S (implies a b) ρ ↔ (Holds S a ρ → Holds S b ρ)
  holds_implies a b ρ = says_what _ (λ f p n. f (λ g. g p n))

  pub holds_forall : (x : Name) (s : Ty) (t : Term) (ρ : Env) → Holds S (forall x s t) ρ ↔ ((w : Value) → HasSort (declared S.theory) w (instance S.types s) → Holds S t (with_value ρ x w))
  holds_forall x s t ρ = says_what _ (λ f w h n. f (λ g. g w h n))

  pub holds_exists : (x : Name) (s : Ty) (t : Term) (ρ : Env) → Holds S (exists x s t) ρ ↔ (((w : Value) → HasSort (declared S.theory) w (instance S.types s) → Holds S t (with_value ρ x w) → ⊥) → ⊥)
  holds_exists x s t ρ = says_what _ (λ f g. f (λ h. h g))

  pub part_exactly : (n : ℕ) (t : Term) (ρ : Env) (v : Value) → Exactly (Means S t ρ) v → Exactly (Means S (part n t) ρ) (nth_part n v)
  part_exactly n t ρ v e = of_exactly _ _ v e

  -- an `if` where its condition is true, and where it is not
  pub choice_true : (c a b : Term) (ρ : Env) → Holds S c ρ → Alike (Means S (if_else c a b) ρ) (Means S a ρ)
  choice_true c a b ρ h = chosen_true (Means S c ρ) (Means S a ρ) (Means S b ρ) h

  pub choice_false : (c a b : Term) (ρ : Env) → (Holds S c ρ → ⊥) → Alike (Means S (if_else c a b) ρ) (Means S b ρ)
  choice_false c a b ρ h = chosen_false (Means S c ρ) (Means S a ρ) (Means S b ρ) h

  pub holds_equal : (a b : Term) (ρ : Env) → Holds S (is_equal a b) ρ ↔ ((x y : Value) → Means S a ρ x → Means S b ρ y → Sure (x ≡ y))
  holds_equal a b ρ = says_what _ (λ f x y p q n. f (λ g. g x y p q n))

  pub holds_equal_exactly : (a b : Term) (ρ : Env) (x y : Value) → Exactly (Means S a ρ) x → Exactly (Means S b ρ) y → Holds S (is_equal a b) ρ ↔ Sure (x ≡ y)
  holds_equal_exactly a b ρ x y e g = (
    (λ h n. from _ _ e x refl (λ p. from _ _ g y refl (λ q. (holds_equal a b ρ).0 h x y p q n))),
    (λ s. (holds_equal a b ρ).1 (λ u w p q n. to _ _ e u p (λ i. to _ _ g w q (λ j. s (λ r. n (i ∙ r ∙ sym j)))))),
  )
