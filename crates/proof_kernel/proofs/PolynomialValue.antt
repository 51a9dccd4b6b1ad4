-- What polynomials come to at integers for monomials, and for atoms.
use Rattle.std.proofs.Common.{◌≡◌, ℕ, suc, ◌+◌, ◌||◌, Bool, true, false, cond, List, [], ◌∷◌, ◌++◌, refl, sym, ◌∙◌, ap, ap₂, arith, true≢false}
use Rattle.std.specs.Prelude.{ℤ, pos, neg_ℤ, ◌+ℤ◌, ◌-ℤ◌, ◌*ℤ◌}
use Rattle.std.proofs.lemmas.Int.{ints}
use Rattle.std.proofs.Math.IntN.{+ℤ_assoc, +ℤ_idl, +ℤ_idr, zero-*ℤ, *ℤ-zero, *ℤ_comm}
use Rattle.source_kinds.specs.declared.kinds.ArithOp.TheVariants.{Add, Sub, Mul}
use Rattle.logic_term.specs.Same.{same_term}
use Rattle.logic_term.specs.Term.{negated, arith as by_op, Term, lit, apply, no_terms, and_term}
use Rattle.logic_term.proofs.SameLaw.{same_term_equal, equal_same_term}
use Rattle.proof_kernel.specs.declared.polynomial.Summand.{Summand}
use Rattle.proof_kernel.specs.Polynomial.{Monomial, Polynomial, times, same_monomial, summand, coefficient, with_summand, plus, added, opposite, multiplied, products, polynomial}
use Rattle.proof_kernel.proofs.IntRing.{plus_times, neg_times, minus_times, one_times, times_assoc, times_plus, times_mix}
use Rattle.proof_kernel.proofs.Monomials.{same_comm, same_times, same_left}

-- ---- monomials at integers for atoms

abbrev pub monomial_at : (Term → ℤ) → Monomial → ℤ
monomial_at ν [] = pos 1
monomial_at ν (t ∷ m) = ν t *ℤ monomial_at ν m

pub monomial_at-append : (ν : Term → ℤ) (m n : Monomial) → monomial_at ν (m ++ n) ≡ monomial_at ν m *ℤ monomial_at ν n
monomial_at-append ν [] n = sym (one_times (monomial_at ν n))
monomial_at-append ν (t ∷ m) n = ap (λ x. ν t *ℤ x) (monomial_at-append ν m n) ∙ sym (times_assoc (ν t) (monomial_at ν m) (monomial_at ν n))

-- the monomial without one atom that stands in it
abbrev Without : (Term → ℤ) → Term → Monomial → Type 0
Without ν t n = (k : Monomial) × (monomial_at ν n ≡ ν t *ℤ monomial_at ν k) × ((u : Term) → times u n ≡ cond (same_term t u) 1 0 + times u k)

head_times : (b : Bool) (n : ℕ) → cond b (suc n) n ≡ cond b 1 0 + n
head_times true n = omega arith
head_times false n = omega arith

tail_times : (b c : Bool) (x y : ℕ) → x ≡ cond c 1 0 + y → cond b (suc x) x ≡ cond c 1 0 + cond b (suc y) y
tail_times true c x y e = omega arith
tail_times false c x y e = e

without : (ν : Term → ℤ) (t : Term) (n : Monomial) (k : ℕ) → times t n ≡ suc k → Without ν t n
without ν t [] k e = absurd (omega arith)
without ν t (b ∷ n) k e = choose (same_term b t) refl (λ f. without ν t n k f) e
  where
    moved : Without ν t n → Without ν t (b ∷ n)
    moved w = (
      b ∷ w.0,
      ap (λ x. ν b *ℤ x) w.1 ∙ sym (times_assoc (ν b) (ν t) (monomial_at ν w.0)) ∙ swapped (ν b) (ν t) (monomial_at ν w.0),
      λ u. tail_times (same_term b u) (same_term t u) (times u n) (times u w.0) (w.2 u),
    )
      where
        swapped : (x y z : ℤ) → (x *ℤ y) *ℤ z ≡ y *ℤ (x *ℤ z)
        swapped x y z = ap (λ v. v *ℤ z) (*ℤ_comm x y) ∙ times_assoc y x z

    choose : (c : Bool) → same_term b t ≡ c → (times t n ≡ suc k → Without ν t n) → cond c (suc (times t n)) (times t n) ≡ suc k → Without ν t (b ∷ n)
    choose true s later f = (
      n,
      ap (λ (x : Term). ν x *ℤ monomial_at ν n) (same_term_equal b t s),
      λ u. head_times (same_term b u) (times u n) ∙ ap (λ (x : Term). cond (same_term x u) 1 0 + times u n) (same_term_equal b t s),
    )
    choose false s later f = moved (later f)

none_left : (ν : Term → ℤ) (n : Monomial) → ((u : Term) → 0 ≡ times u n) → monomial_at ν n ≡ pos 1
none_left ν [] h = refl
none_left ν (t ∷ n) h = absurd (clash (same_term t t) (equal_same_term t t refl) (h t))
  where
    clash : (b : Bool) → b ≡ true → 0 ≡ cond b (suc (times t n)) (times t n) → ⊥
    clash true s z = absurd (omega arith)
    clash false s z = true≢false (sym s)

by_times : (ν : Term → ℤ) (m n : Monomial) → ((u : Term) → times u m ≡ times u n) → monomial_at ν m ≡ monomial_at ν n
by_times ν [] n h = sym (none_left ν n h)
by_times ν (t ∷ m) n h =
    let w : Without ν t n = without ν t n (times t m) (sym (h t) ∙ first (same_term t t) (equal_same_term t t refl)) in
    ap (λ x. ν t *ℤ x) (by_times ν m w.0 (λ u. same_rest (same_term t u) (times u m) (times u w.0) (h u ∙ w.2 u))) ∙ sym w.1
  where
    first : (b : Bool) → b ≡ true → cond b (suc (times t m)) (times t m) ≡ suc (times t m)
    first true s = refl
    first false s = absurd (true≢false (sym s))

    same_rest : (b : Bool) (x y : ℕ) → cond b (suc x) x ≡ cond b 1 0 + y → x ≡ y
    same_rest true x y e = omega arith
    same_rest false x y e = omega arith

-- the integers do not tell the same monomials apart
abbrev pub Respects : (Monomial → ℤ) → Type 0
Respects W = (m n : Monomial) → same_monomial m n ≡ true → W m ≡ W n

pub monomial_at-same : (ν : Term → ℤ) → Respects (monomial_at ν)
monomial_at-same ν m n e = by_times ν m n (same_times m n e)

-- ---- summands at integers for monomials

abbrev pub value_at : (Monomial → ℤ) → List Summand → ℤ
value_at W [] = pos 0
value_at W (s ∷ ss) = s.coefficient *ℤ W s.monomial +ℤ value_at W ss

value_at-append : (W : Monomial → ℤ) (xs ys : List Summand) → value_at W (xs ++ ys) ≡ value_at W xs +ℤ value_at W ys
value_at-append W [] ys = sym (+ℤ_idl (value_at W ys))
value_at-append W (x ∷ xs) ys =
    ap (λ z. x.coefficient *ℤ W x.monomial +ℤ z) (value_at-append W xs ys) ∙ sym (+ℤ_assoc (x.coefficient *ℤ W x.monomial) (value_at W xs) (value_at W ys))

pub value_at-opposite : (W : Monomial → ℤ) (ss : List Summand) → value_at W (opposite ss) ≡ neg_ℤ (value_at W ss)
value_at-opposite W [] = refl
value_at-opposite W (s ∷ ss) =
    ap₂ (λ x y. x +ℤ y) (neg_times s.coefficient (W s.monomial)) (value_at-opposite W ss) ∙ both (s.coefficient *ℤ W s.monomial) (value_at W ss)
  where
    both : (x y : ℤ) → neg_ℤ x +ℤ neg_ℤ y ≡ neg_ℤ (x +ℤ y)
    both x y = omega (arith, ints)

module _ (W : Monomial → ℤ) (multiplies : (m n : Monomial) → W (m ++ n) ≡ W m *ℤ W n) where
  value_at-multiplied : (s : Summand) (rs : List Summand) → value_at W (multiplied s rs) ≡ (s.coefficient *ℤ W s.monomial) *ℤ value_at W rs
  value_at-multiplied s [] = sym (*ℤ-zero (s.coefficient *ℤ W s.monomial))
  value_at-multiplied s (r ∷ rs) =
      ap₂ (λ x y. x +ℤ y)
      (ap (λ x. (s.coefficient *ℤ r.coefficient) *ℤ x) (multiplies s.monomial r.monomial) ∙ times_mix s.coefficient r.coefficient (W s.monomial) (W r.monomial))
      (value_at-multiplied s rs)
      ∙ sym (times_plus (s.coefficient *ℤ W s.monomial) (r.coefficient *ℤ W r.monomial) (value_at W rs))

  pub value_at-products : (ss rs : List Summand) → value_at W (products ss rs) ≡ value_at W ss *ℤ value_at W rs
  value_at-products [] rs = sym (zero-*ℤ (value_at W rs))
  value_at-products (s ∷ ss) rs =
      value_at-append W (multiplied s rs) (products ss rs)
      ∙ ap₂ (λ x y. x +ℤ y) (value_at-multiplied s rs) (value_at-products ss rs)
      ∙ sym (plus_times (s.coefficient *ℤ W s.monomial) (value_at W ss) (value_at W rs))

module _ (W : Monomial → ℤ) (respects : Respects W) where
  value_at-with : (s : Summand) (p : Polynomial) → value_at W (with_summand s p) ≡ value_at W p +ℤ (s.coefficient -ℤ coefficient s.monomial p) *ℤ W s.monomial
  value_at-with s [] = first s.coefficient (W s.monomial)
    where
      first : (c w : ℤ) → c *ℤ w +ℤ pos 0 ≡ pos 0 +ℤ (c -ℤ pos 0) *ℤ w
      first c w = +ℤ_idr (c *ℤ w) ∙ ap (λ x. x *ℤ w) (no_less c) ∙ sym (+ℤ_idl ((c -ℤ pos 0) *ℤ w))
        where
          no_less : (x : ℤ) → x ≡ x -ℤ pos 0
          no_less x = omega (arith, ints)
  value_at-with s (r ∷ p) = choose (same_monomial r.monomial s.monomial) refl (value_at-with s p)
    where
      swap : (a b x : ℤ) → a +ℤ x ≡ (b +ℤ x) +ℤ (a -ℤ b)
      swap a b x = omega (arith, ints)

      choose : (b : Bool) → same_monomial r.monomial s.monomial ≡ b → value_at W (with_summand s p) ≡ value_at W p +ℤ (s.coefficient -ℤ coefficient s.monomial p) *ℤ W s.monomial
          → value_at W (cond b (s ∷ p) (r ∷ with_summand s p)) ≡ (r.coefficient *ℤ W r.monomial +ℤ value_at W p) +ℤ (s.coefficient -ℤ cond b r.coefficient (coefficient s.monomial p)) *ℤ W s.monomial
      choose true e later =
          swap (s.coefficient *ℤ W s.monomial) (r.coefficient *ℤ W s.monomial) (value_at W p)
          ∙ ap₂ (λ x y. (r.coefficient *ℤ x +ℤ value_at W p) +ℤ y) (sym (respects r.monomial s.monomial e)) (sym (minus_times s.coefficient r.coefficient (W s.monomial)))
      choose false e later =
          ap (λ x. r.coefficient *ℤ W r.monomial +ℤ x) later
          ∙ sym (+ℤ_assoc (r.coefficient *ℤ W r.monomial) (value_at W p) ((s.coefficient -ℤ coefficient s.monomial p) *ℤ W s.monomial))

  value_at-plus : (p : Polynomial) (s : Summand) → value_at W (plus p s) ≡ value_at W p +ℤ s.coefficient *ℤ W s.monomial
  value_at-plus p s =
      value_at-with (summand (coefficient s.monomial p +ℤ s.coefficient) s.monomial) p
      ∙ ap (λ x. value_at W p +ℤ x *ℤ W s.monomial) (less (coefficient s.monomial p) s.coefficient)
    where
      less : (x y : ℤ) → (x +ℤ y) -ℤ x ≡ y
      less x y = omega (arith, ints)

  pub value_at-added : (ss : List Summand) (p : Polynomial) → value_at W (added p ss) ≡ value_at W p +ℤ value_at W ss
  value_at-added [] p = sym (+ℤ_idr (value_at W p))
  value_at-added (s ∷ ss) p =
      value_at-added ss (plus p s)
      ∙ ap (λ x. x +ℤ value_at W ss) (value_at-plus p s)
      ∙ +ℤ_assoc (value_at W p) (s.coefficient *ℤ W s.monomial) (value_at W ss)

-- ---- polynomials have each monomial once

abbrev has : Monomial → Polynomial → Bool
has m [] = false
has m (s ∷ p) = same_monomial s.monomial m || has m p

abbrev pub IsDistinct : Polynomial → Type 0
IsDistinct [] = Unit {0}
IsDistinct (s ∷ p) = (has s.monomial p ≡ false) × IsDistinct p

or_parts : (a b : Bool) → (a || b) ≡ false → (a ≡ false) × (b ≡ false)
or_parts true b e = absurd (true≢false e)
or_parts false b e = (refl, e)

or_false : (a b : Bool) → a ≡ false → b ≡ false → (a || b) ≡ false
or_false true b e f = e
or_false false b e f = f

has-same : (m n : Monomial) (p : Polynomial) → same_monomial m n ≡ true → has m p ≡ has n p
has-same m n [] e = refl
has-same m n (s ∷ p) e = ap₂ (λ x y. x || y) (same_left m n s.monomial e) (has-same m n p e)

has-with : (m : Monomial) (s : Summand) (p : Polynomial) → has m p ≡ false → same_monomial s.monomial m ≡ false → has m (with_summand s p) ≡ false
has-with m s [] h e = or_false (same_monomial s.monomial m) false e refl
has-with m s (r ∷ p) h e =
    let q = or_parts (same_monomial r.monomial m) (has m p) h in choose (same_monomial r.monomial s.monomial) q (has-with m s p q.1 e)
  where
    choose : (b : Bool) → (same_monomial r.monomial m ≡ false) × (has m p ≡ false) → has m (with_summand s p) ≡ false → has m (cond b (s ∷ p) (r ∷ with_summand s p)) ≡ false
    choose true q later = or_false (same_monomial s.monomial m) (has m p) e q.1
    choose false q later = or_false (same_monomial r.monomial m) (has m (with_summand s p)) q.0 later

distinct-with : (s : Summand) (p : Polynomial) → IsDistinct p → IsDistinct (with_summand s p)
distinct-with s [] d = (refl, tt)
distinct-with s (r ∷ p) d = choose (same_monomial r.monomial s.monomial) refl (distinct-with s p d.1)
  where
    choose : (b : Bool) → same_monomial r.monomial s.monomial ≡ b → IsDistinct (with_summand s p) → IsDistinct (cond b (s ∷ p) (r ∷ with_summand s p))
    choose true e later = (sym (has-same r.monomial s.monomial p e) ∙ d.0, d.1)
    choose false e later = (has-with r.monomial s p d.0 (same_comm s.monomial r.monomial ∙ e), later)

pub distinct-added : (ss : List Summand) (p : Polynomial) → IsDistinct p → IsDistinct (added p ss)
distinct-added [] p d = d
distinct-added (s ∷ ss) p d = distinct-added ss (plus p s) (distinct-with _ p d)

pub polynomial-distinct : (t : Term) → IsDistinct (polynomial t)
polynomial-distinct (apply (by_op Add) (and_term a (and_term b no_terms))) = distinct-added (polynomial b) (polynomial a) (polynomial-distinct a)
polynomial-distinct (apply (by_op Sub) (and_term a (and_term b no_terms))) = distinct-added (opposite (polynomial b)) (polynomial a) (polynomial-distinct a)
polynomial-distinct (apply (by_op Mul) (and_term a (and_term b no_terms))) = distinct-added (products (polynomial a) (polynomial b)) [] tt
polynomial-distinct (apply negated (and_term a no_terms)) = distinct-added (opposite (polynomial a)) [] tt
polynomial-distinct (lit z s) = (refl, tt)
polynomial-distinct t = (refl, tt)

-- ---- another integer at one monomial

abbrev pub changed : (Monomial → ℤ) → Monomial → ℤ → Monomial → ℤ
changed W u z m = cond (same_monomial m u) z (W m)

pub changed-respects : (W : Monomial → ℤ) (u : Monomial) (z : ℤ) → Respects W → Respects (changed W u z)
changed-respects W u z r m n e =
    ap₂ (λ b x. cond b z x) (same_comm m u ∙ same_left m n u e ∙ same_comm u n) (r m n e)

coefficient-absent : (m : Monomial) (p : Polynomial) → has m p ≡ false → coefficient m p ≡ pos 0
coefficient-absent m [] h = refl
coefficient-absent m (s ∷ p) h =
    let q = or_parts (same_monomial s.monomial m) (has m p) h in
    ap (λ b. cond b s.coefficient (coefficient m p)) q.0 ∙ coefficient-absent m p q.1

-- the change adds the monomial's coefficient times the difference
pub value_at-changed : (W : Monomial → ℤ) (u : Monomial) (z : ℤ) → Respects W → (p : Polynomial) → IsDistinct p → value_at (changed W u z) p ≡ value_at W p +ℤ coefficient u p *ℤ (z -ℤ W u)
value_at-changed W u z r [] d = sym (ap (λ x. pos 0 +ℤ x) (zero-*ℤ (z -ℤ W u)))
value_at-changed W u z r (s ∷ p) d = choose (same_monomial s.monomial u) refl (value_at-changed W u z r p d.1)
  where
    here : (c w v : ℤ) → c *ℤ z +ℤ v ≡ (c *ℤ w +ℤ v) +ℤ c *ℤ (z -ℤ w)
    here c w v = split (c *ℤ z) (c *ℤ w) v ∙ ap (λ x. (c *ℤ w +ℤ v) +ℤ x) (sym (times_minus c z w))
      where
        split : (x y t : ℤ) → x +ℤ t ≡ (y +ℤ t) +ℤ (x -ℤ y)
        split x y t = omega (arith, ints)

        times_minus : (x y t : ℤ) → x *ℤ (y -ℤ t) ≡ x *ℤ y -ℤ x *ℤ t
        times_minus x y t = *ℤ_comm x (y -ℤ t) ∙ minus_times y t x ∙ ap₂ (λ m n. m -ℤ n) (*ℤ_comm y x) (*ℤ_comm t x)

    choose : (b : Bool) → same_monomial s.monomial u ≡ b → value_at (changed W u z) p ≡ value_at W p +ℤ coefficient u p *ℤ (z -ℤ W u)
        → s.coefficient *ℤ cond b z (W s.monomial) +ℤ value_at (changed W u z) p ≡ (s.coefficient *ℤ W s.monomial +ℤ value_at W p) +ℤ cond b s.coefficient (coefficient u p) *ℤ (z -ℤ W u)
    choose true e later =
        ap (λ x. s.coefficient *ℤ z +ℤ x)
        (later ∙ ap (λ x. value_at W p +ℤ x *ℤ (z -ℤ W u)) (coefficient-absent u p (sym (has-same s.monomial u p e) ∙ d.0))
        ∙ ap (λ x. value_at W p +ℤ x) (zero-*ℤ (z -ℤ W u)) ∙ +ℤ_idr (value_at W p))
        ∙ here s.coefficient (W u) (value_at W p)
        ∙ ap (λ x. (s.coefficient *ℤ x +ℤ value_at W p) +ℤ s.coefficient *ℤ (z -ℤ W u)) (sym (r s.monomial u e))
    choose false e later =
        ap (λ x. s.coefficient *ℤ W s.monomial +ℤ x) later ∙ sym (+ℤ_assoc (s.coefficient *ℤ W s.monomial) (value_at W p) (coefficient u p *ℤ (z -ℤ W u)))
