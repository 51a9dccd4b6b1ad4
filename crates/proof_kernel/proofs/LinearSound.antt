-- Linear arithmetic is sound: a sequent that multiples close is true.
use Rattle.std.proofs.Common.{◌≡◌, suc, Bool, true, false, cond, List, [], ◌∷◌, ◌++◌, Option, Some, None, All, refl, sym, ◌∙◌, ap, ap₂, subst, arith}
use Rattle.std.specs.Prelude.{ℤ, pos, negsuc, neg_ℤ, ◌+ℤ◌, ◌-ℤ◌, ◌*ℤ◌, ◌<ℤ◌, ◌≤ℤ◌, int_le, int_lt}
use Rattle.std.proofs.lemmas.Int.{ints, by_lt_z}
use Rattle.text_core.specs.declared.name.Name.{Name}
use Rattle.source_kinds.specs.declared.kinds.ArithOp.TheVariants.{Add, Sub, Mul}
use Rattle.logic_term.specs.Ty.{Ty}
use Rattle.logic_term.specs.Value.{Value, Number, integer_of}
use Rattle.logic_term.specs.Term.{negated, denied, arith as by_op, less, at_most, equal, Term, lit, apply, no_terms, and_term}
use Rattle.logic_term.specs.Canonical.{canonical}
use Rattle.logic_term.specs.Same.{same_term}
use Rattle.logic_term.specs.Meaning.{Sure, Structure, Env, Means, Holds}
use Rattle.logic_term.proofs.Alike.{alike_exactly, sure_map, to}
use Rattle.logic_term.proofs.CanonicalLaw.{canonical_means}
use Rattle.logic_term.proofs.SameLaw.{same_term_equal, equal_same_term}
use Rattle.logic_term.proofs.Truth.{Exactly, holds_less, holds_at_most, holds_not, holds_equal_exactly}
use Rattle.logic_term.proofs.Unique.{single, has_value}
use Rattle.proof_kernel.specs.Sequent.{Sequent}
use Rattle.proof_kernel.specs.declared.step.Multiple.{Multiple}
use Rattle.proof_kernel.specs.declared.step.Reference.{Reference}
use Rattle.proof_kernel.specs.declared.step.Reference.TheVariants.{Goal, Hyp, Back}
use Rattle.proof_kernel.specs.Linear.{Difference, row_of, row_back, row_of_goal, row_if_found, referred, is_integer, AreRows, row_constant, Certifies}
use Rattle.proof_kernel.specs.Rules.{hypothesis}
use Rattle.proof_kernel.specs.Sequent.{AllHold, IsTrueAt}
use Rattle.proof_kernel.proofs.LinearTotal.{sum_at, row_at, total, total_is_constant}
use Rattle.proof_kernel.proofs.Sound.{held}

-- ---- atoms

abbrev atoms_of : Term → List Term
atoms_of (apply (by_op Add) (and_term a (and_term b no_terms))) = atoms_of a ++ atoms_of b
atoms_of (apply (by_op Sub) (and_term a (and_term b no_terms))) = atoms_of a ++ atoms_of b
atoms_of (apply (by_op Mul) (and_term a (and_term b no_terms))) = atoms_of a ++ atoms_of b
atoms_of (apply negated (and_term a no_terms)) = atoms_of a
atoms_of (lit z s) = []
atoms_of t = canonical t ∷ []

abbrev atoms_of_rows : List Difference → List Term
atoms_of_rows [] = []
atoms_of_rows (d ∷ ds) = (atoms_of d.upper ++ atoms_of d.lower) ++ atoms_of_rows ds

abbrev Each : (Term → Type 0) → List Term → Type 0
Each P [] = Unit {0}
Each P (t ∷ ts) = P t × Each P ts

each_both : (P : Term → Type 0) (xs ys : List Term) → Each P (xs ++ ys) → Each P xs × Each P ys
each_both P [] ys h = (tt, h)
each_both P (x ∷ xs) ys h = let r = each_both P xs ys h.1 in ((h.0, r.0), r.1)

each_map : (P Q : Term → Type 0) → ((t : Term) → P t → Q t) → (ts : List Term) → Each P ts → Each Q ts
each_map P Q f [] h = tt
each_map P Q f (t ∷ ts) h = (f t h.0, each_map P Q f ts h.1)

-- ---- comparisons

pub at_most_true : (x y : ℤ) → int_le x y ≡ true → x ≤ℤ y
at_most_true x y e = grind (arith, ints)

pub less_true : (x y : ℤ) → int_lt x y ≡ true → x <ℤ y
less_true x y e = grind (arith, ints)

pub true_at_most : (x y : ℤ) → x ≤ℤ y → int_le x y ≡ true
true_at_most x y e = grind (arith, ints)

pub true_less : (x y : ℤ) → x <ℤ y → int_lt x y ≡ true
true_less x y e = grind (arith, ints)

-- an order that cannot fail holds
stable_order : (x : ℤ) → Sure (pos 0 ≤ℤ x) → pos 0 ≤ℤ x
stable_order x s = by_lt_z x (pos 0) (λ l. absurd (s (λ h. clash l h))) (λ h. h)
  where
    clash : x <ℤ pos 0 → pos 0 ≤ℤ x → ⊥
    clash l h = omega (arith, ints)

from_some : (b : Bool) (x d : Difference) → cond b (Some x) None ≡ Some d → x ≡ d
from_some true x d e = cc
from_some false x d e = absurd (cc)

module _ (S : Structure) (ρ : Env) where
  -- the term has a value, with this integer
  abbrev pub IsAt : Term → ℤ → Type 0
  IsAt t z = (v : Value) × Means S t ρ v × (integer_of v ≡ z)

  of_canonical : (t : Term) (z : ℤ) → IsAt (canonical t) z → Sure (IsAt t z)
  of_canonical t z p = sure_map _ _ (λ m. (p.0, m, p.2)) (to _ _ (canonical_means S t ρ) p.0 p.1)

  sum_is : (ν : Term → ℤ) (t : Term) → Each (λ u. IsAt u (ν u)) (atoms_of t) → Sure (IsAt t (sum_at ν t))
  sum_is ν (apply (by_op Add) (and_term a (and_term b no_terms))) h =
      let p = each_both (λ u. IsAt u (ν u)) (atoms_of a) (atoms_of b) h in
      λ n. sum_is ν a p.0 (λ x. sum_is ν b p.1 (λ y.
      n (Number (integer_of x.0 +ℤ integer_of y.0), (x.0, y.0, x.1, y.1, refl), ap₂ (λ m n. m +ℤ n) x.2 y.2)))
  sum_is ν (apply (by_op Sub) (and_term a (and_term b no_terms))) h =
      let p = each_both (λ u. IsAt u (ν u)) (atoms_of a) (atoms_of b) h in
      λ n. sum_is ν a p.0 (λ x. sum_is ν b p.1 (λ y.
      n (Number (integer_of x.0 -ℤ integer_of y.0), (x.0, y.0, x.1, y.1, refl), ap₂ (λ m n. m -ℤ n) x.2 y.2)))
  sum_is ν (apply (by_op Mul) (and_term a (and_term b no_terms))) h =
      let p = each_both (λ u. IsAt u (ν u)) (atoms_of a) (atoms_of b) h in
      λ n. sum_is ν a p.0 (λ x. sum_is ν b p.1 (λ y.
      n (Number (integer_of x.0 *ℤ integer_of y.0), (x.0, y.0, x.1, y.1, refl), ap₂ (λ m n. m *ℤ n) x.2 y.2)))
  sum_is ν (apply negated (and_term a no_terms)) h =
      λ n. sum_is ν a h (λ x. n (Number (neg_ℤ (integer_of x.0)), (x.0, x.1, refl), ap neg_ℤ x.2))
  sum_is ν (lit z s) h = λ n. n (Number z, refl, refl)
  sum_is ν t h = of_canonical t (ν (canonical t)) h.0

  pub exact : (t : Term) (z : ℤ) (p : IsAt t z) → Exactly (Means S t ρ) p.0
  exact t z p = alike_exactly _ _ (λ v. ((λ q. single S t ρ v p.0 q p.1), (λ e. subst (Means S t ρ) (sym e) p.1)))

  -- ---- what a formula says of the integers

  pub at_most_is : (a b : Term) (x y : ℤ) → IsAt a x → IsAt b y → Holds S (apply at_most (and_term a (and_term b no_terms))) ρ → x ≤ℤ y
  at_most_is a b x y p q h =
      at_most_true x y (sym (ap₂ int_le p.2 q.2) ∙ (holds_at_most S a b ρ p.0 q.0 (exact a x p) (exact b y q)).0 h)

  less_is : (a b : Term) (x y : ℤ) → IsAt a x → IsAt b y → Holds S (apply less (and_term a (and_term b no_terms))) ρ → x <ℤ y
  less_is a b x y p q h =
      less_true x y (sym (ap₂ int_lt p.2 q.2) ∙ (holds_less S a b ρ p.0 q.0 (exact a x p) (exact b y q)).0 h)

  not_at_most_is : (a b : Term) (x y : ℤ) → IsAt a x → IsAt b y → (Holds S (apply at_most (and_term a (and_term b no_terms))) ρ → ⊥) → y <ℤ x
  not_at_most_is a b x y p q n =
      by_lt_z y x (λ l. l) (λ l. absurd (n ((holds_at_most S a b ρ p.0 q.0 (exact a x p) (exact b y q)).1 (ap₂ int_le p.2 q.2 ∙ true_at_most x y l))))

  not_less_is : (a b : Term) (x y : ℤ) → IsAt a x → IsAt b y → (Holds S (apply less (and_term a (and_term b no_terms))) ρ → ⊥) → y ≤ℤ x
  not_less_is a b x y p q n =
      by_lt_z x y (λ l. absurd (n ((holds_less S a b ρ p.0 q.0 (exact a x p) (exact b y q)).1 (ap₂ int_lt p.2 q.2 ∙ true_less x y l)))) (λ l. l)

  equal_is : (a b : Term) (x y : ℤ) → IsAt a x → IsAt b y → Holds S (apply equal (and_term a (and_term b no_terms))) ρ → Sure (x ≡ y)
  equal_is a b x y p q h =
      sure_map _ _ (λ (e : p.0 ≡ q.0). sym p.2 ∙ ap integer_of e ∙ q.2) ((holds_equal_exactly S a b ρ p.0 q.0 (exact a x p) (exact b y q)).0 h)

  -- ---- rows

  no_gap : (x y : ℤ) → y ≤ℤ x → pos 0 ≤ℤ ((x -ℤ y) -ℤ pos 0)
  no_gap x y l = omega (arith, ints)

  one_gap : (x y : ℤ) → y <ℤ x → pos 0 ≤ℤ ((x -ℤ y) -ℤ pos 1)
  one_gap x y l = omega (arith, ints)

  same_gap : (x y : ℤ) → x ≡ y → pos 0 ≤ℤ ((x -ℤ y) -ℤ pos 0)
  same_gap x y e = omega (arith, ints)

  abbrev Valued : (Term → ℤ) → Difference → Type 0
  Valued ν d = IsAt d.upper (sum_at ν d.upper) × IsAt d.lower (sum_at ν d.lower)

  abbrev IsRowAt : (Term → ℤ) → Difference → Type 0
  IsRowAt ν d = pos 0 ≤ℤ row_at ν d

  -- the row that a formula gives is true of the integers
  abbrev Gives : (Term → ℤ) → Option Difference → Type 0
  Gives ν r = (d : Difference) → r ≡ Some d → Valued ν d → IsRowAt ν d

  gives_none : (ν : Term → ℤ) → Gives ν None
  gives_none ν d e v = absurd (cc)

  gives_some : (ν : Term → ℤ) (x : Difference) → (Valued ν x → IsRowAt ν x) → Gives ν (Some x)
  gives_some ν x f d e v = let same : x ≡ d = cc in subst (λ (y : Difference). Valued ν y → IsRowAt ν y) same f v

  gives_if : (ν : Term → ℤ) (b : Bool) (x : Difference) → (Valued ν x → IsRowAt ν x) → Gives ν (cond b (Some x) None)
  gives_if ν true x f = gives_some ν x f
  gives_if ν false x f = gives_none ν

  row_of_gives : (ν : Term → ℤ) (vars : List (Name × Ty)) (t : Term) → Holds S t ρ → Gives ν (row_of vars t)
  row_of_gives ν vars (apply at_most (and_term a (and_term b no_terms))) h =
      gives_some ν _ (λ v. no_gap (sum_at ν b) (sum_at ν a) (at_most_is a b _ _ v.1 v.0 h))
  row_of_gives ν vars (apply less (and_term a (and_term b no_terms))) h =
      gives_some ν _ (λ v. one_gap (sum_at ν b) (sum_at ν a) (less_is a b _ _ v.1 v.0 h))
  row_of_gives ν vars (apply equal (and_term a (and_term b no_terms))) h =
      gives_if ν (is_integer vars a) _ (λ v. stable_order _ (sure_map _ _ (λ e. same_gap (sum_at ν b) (sum_at ν a) (sym e)) (equal_is a b _ _ v.1 v.0 h)))
  row_of_gives ν vars (apply denied (and_term (apply at_most (and_term a (and_term b no_terms))) no_terms)) h =
      gives_some ν _ (λ v. one_gap (sum_at ν a) (sum_at ν b) (not_at_most_is a b _ _ v.0 v.1 ((holds_not S (apply at_most (and_term a (and_term b no_terms))) ρ).0 h)))
  row_of_gives ν vars (apply denied (and_term (apply less (and_term a (and_term b no_terms))) no_terms)) h =
      gives_some ν _ (λ v. no_gap (sum_at ν a) (sum_at ν b) (not_less_is a b _ _ v.0 v.1 ((holds_not S (apply less (and_term a (and_term b no_terms))) ρ).0 h)))
  row_of_gives ν vars t h = gives_none ν

  row_back_gives : (ν : Term → ℤ) (vars : List (Name × Ty)) (t : Term) → Holds S t ρ → Gives ν (row_back vars t)
  row_back_gives ν vars (apply equal (and_term a (and_term b no_terms))) h =
      gives_if ν (is_integer vars a) _ (λ v. stable_order _ (sure_map _ _ (λ e. same_gap (sum_at ν a) (sum_at ν b) e) (equal_is a b _ _ v.0 v.1 h)))
  row_back_gives ν vars t h = gives_none ν

  row_of_goal_gives : (ν : Term → ℤ) (t : Term) → (Holds S t ρ → ⊥) → Gives ν (row_of_goal t)
  row_of_goal_gives ν (apply at_most (and_term a (and_term b no_terms))) n =
      gives_some ν _ (λ v. one_gap (sum_at ν a) (sum_at ν b) (not_at_most_is a b _ _ v.0 v.1 n))
  row_of_goal_gives ν (apply less (and_term a (and_term b no_terms))) n =
      gives_some ν _ (λ v. no_gap (sum_at ν a) (sum_at ν b) (not_less_is a b _ _ v.0 v.1 n))
  row_of_goal_gives ν t n = gives_none ν

  found_gives : (ν : Term → ℤ) (row : Term → Option Difference) → ((t : Term) → Holds S t ρ → Gives ν (row t)) → (o : Option Term) → ((t : Term) → o ≡ Some t → Holds S t ρ) → Gives ν (row_if_found row o)
  found_gives ν row f None h = gives_none ν
  found_gives ν row f (Some t) h = f t (h t refl)

  referred_gives : (ν : Term → ℤ) (q : Sequent) → AllHold S q.hyps ρ → (Holds S q.goal ρ → ⊥) → (r : Reference) → Gives ν (referred q r)
  referred_gives ν q h n Goal = row_of_goal_gives ν q.goal n
  referred_gives ν q h n (Hyp l) = found_gives ν (row_of q.vars) (row_of_gives ν q.vars) (hypothesis l q.hyps) (λ t e. held S l q.hyps t ρ e h)
  referred_gives ν q h n (Back l) = found_gives ν (row_back q.vars) (row_back_gives ν q.vars) (hypothesis l q.hyps) (λ t e. held S l q.hyps t ρ e h)

  -- ---- the certificate

  pub times_not_negative : (a b : ℤ) → pos 0 ≤ℤ a → pos 0 ≤ℤ b → pos 0 ≤ℤ (a *ℤ b)
  times_not_negative (pos m) (pos n) h g = omega (arith, ints)
  times_not_negative (pos m) (negsuc n) h g = absurd (omega (arith, ints))
  times_not_negative (negsuc m) b h g = absurd (omega (arith, ints))

  plus_not_negative : (a b : ℤ) → pos 0 ≤ℤ a → pos 0 ≤ℤ b → pos 0 ≤ℤ (a +ℤ b)
  plus_not_negative a b h g = omega (arith, ints)

  total_not_negative : (ν : Term → ℤ) (q : Sequent) → AllHold S q.hyps ρ → (Holds S q.goal ρ → ⊥) → (ms : List Multiple) (ds : List Difference) → AreRows q ms ds → All (λ m. pos 0 ≤ℤ m.by) ms → Each (λ u. IsAt u (ν u)) (atoms_of_rows ds) → pos 0 ≤ℤ total (row_at ν) ds ms
  total_not_negative ν q h n [] [] r g e = omega (arith, ints)
  total_not_negative ν q h n [] (d ∷ ds) r g e = absurd r
  total_not_negative ν q h n (m ∷ ms) [] r g e = absurd r
  total_not_negative ν q h n (m ∷ ms) (d ∷ ds) r g e =
      let P : Term → Type 0 = λ u. IsAt u (ν u) in
      let here = each_both P (atoms_of d.upper ++ atoms_of d.lower) (atoms_of_rows ds) e in
      let sides = each_both P (atoms_of d.upper) (atoms_of d.lower) here.0 in
      let row : pos 0 ≤ℤ row_at ν d = stable_order _ (λ k. sum_is ν d.upper sides.0 (λ x. sum_is ν d.lower sides.1 (λ y. k (referred_gives ν q h n m.of d r.0 (x, y))))) in
      plus_not_negative (row_at ν d *ℤ m.by) (total (row_at ν) ds ms)
      (times_not_negative (row_at ν d) m.by row (g 0 m (omega arith)))
      (total_not_negative ν q h n ms ds r.1 (λ k x l. g (suc k) x (omega arith)) here.1)

  -- integers for these atoms
  abbrev Valuation : List Term → Type 0
  Valuation us = (ν : Term → ℤ) × Each (λ u. IsAt u (ν u)) us

  -- another integer at one atom
  abbrev with_integer : (Term → ℤ) → Term → ℤ → Term → ℤ
  with_integer ν u z t = cond (same_term t u) z (ν t)

  still_is : (ν : Term → ℤ) (u : Term) (v : Value) → Means S u ρ v → (t : Term) → IsAt t (ν t) → IsAt t (with_integer ν u (integer_of v) t)
  still_is ν u v m t p = choose (same_term t u) refl
    where
      choose : (b : Bool) → same_term t u ≡ b → IsAt t (cond b (integer_of v) (ν t))
      choose true e = (v, subst (λ (x : Term). Means S x ρ v) (sym (same_term_equal t u e)) m, refl)
      choose false e = p

  now_is : (ν : Term → ℤ) (u : Term) (v : Value) → Means S u ρ v → IsAt u (with_integer ν u (integer_of v) u)
  now_is ν u v m = (v, m, ap (λ b. cond b (integer_of v) (ν u)) (sym (equal_same_term u u refl)))

  valuation : (us : List Term) → Sure (Valuation us)
  valuation [] k = k ((λ t. pos 0), tt)
  valuation (u ∷ us) k =
      valuation us (λ (p : Valuation us). has_value S u ρ (λ (w : (v : Value) × Means S u ρ v).
      let ν : Term → ℤ = with_integer p.0 u (integer_of w.0) in
      k (ν, (now_is p.0 u w.0 w.1, each_map (λ t. IsAt t (p.0 t)) (λ t. IsAt t (ν t)) (still_is p.0 u w.0 w.1) us p.1))))

clash : (a b : ℤ) → a ≡ b → pos 0 ≤ℤ a → b <ℤ pos 0 → ⊥
clash a b e h g = omega (arith, ints)

pub certifies_sound : (S : Structure) (q : Sequent) (ms : List Multiple) → Certifies q ms → IsTrueAt S q
certifies_sound S q ms c ρ sorts h n =
    valuation S ρ (atoms_of_rows c.rows) (λ (p : Valuation S ρ (atoms_of_rows c.rows)).
    clash (total (row_at p.0) c.rows ms) (total row_constant c.rows ms) (total_is_constant p.0 c.rows ms c.refutes.factors_vanish)
    (total_not_negative S ρ p.0 q h (λ g. g n) ms c.rows c.are_rows c.refutes.none_negative p.1) c.refutes.constant_negative)
