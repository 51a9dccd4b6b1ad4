-- The table of monomials: it has each monomial of the forms but 1, and what it has not has no coefficient in them.
use Rattle.std.proofs.Common.{◌≡◌, ◌≢◌, ℕ, zero, suc, ◌<◌, ◌||◌, Bool, true, false, cond, List, [], ◌∷◌, ◌++◌, length, take, map, get_or, pos, refl, sym, ◌∙◌, ap, ap₂, arith, true≢false}
use Rattle.logic_term.proofs.FreeLaw.{or_cases}
use Rattle.proof_kernel.specs.declared.linear.Form.{Form}
use Rattle.proof_kernel.specs.declared.linear.Sides.{Sides}
use Rattle.proof_kernel.specs.declared.polynomial.Summand.{Summand}
use Rattle.proof_kernel.specs.Polynomial.{Monomial, Polynomial, same_monomial, coefficient}
use Rattle.proof_kernel.specs.LinearRows.{difference, is_one, is_in, with_monomial, with_monomials, with_all_monomials}
use Rattle.proof_kernel.proofs.Monomials.{same_left, same_refl, same_one}

-- ---- monomials that are the same

pub coefficient-same : (m n : Monomial) (p : Polynomial) → same_monomial m n ≡ true → coefficient m p ≡ coefficient n p
coefficient-same m n [] e = refl
coefficient-same m n (s ∷ p) e = ap₂ (λ b x. cond b s.coefficient x) (same_left m n s.monomial e) (coefficient-same m n p e)

is_in-same : (table : List Monomial) (m n : Monomial) → same_monomial m n ≡ true → is_in table m ≡ is_in table n
is_in-same [] m n e = refl
is_in-same (k ∷ ks) m n e = ap₂ (λ x y. x || y) (same_left m n k e) (is_in-same ks m n e)

-- ---- what the table has

-- the table has each monomial of the summands but 1
abbrev pub Covers : List Monomial → List Summand → Type 0
Covers table [] = Unit {0}
Covers table (s ∷ ss) = ((is_one s.monomial || is_in table s.monomial) ≡ true) × Covers table ss

-- and each of the forms
abbrev pub CoversAll : List Monomial → List Form → Type 0
CoversAll table [] = Unit {0}
CoversAll table (f ∷ fs) = Covers table f.polynomial × CoversAll table fs

-- the second table has what the first has
abbrev Grows : List Monomial → List Monomial → Type 0
Grows old new = (m : Monomial) → is_in old m ≡ true → is_in new m ≡ true

or_left : (a b : Bool) → a ≡ true → (a || b) ≡ true
or_left true b e = refl
or_left false b e = absurd (true≢false (sym e))

or_last : (a b : Bool) → b ≡ true → (a || b) ≡ true
or_last true b e = refl
or_last false b e = e

or_right : (a b c : Bool) → (b ≡ true → c ≡ true) → (a || b) ≡ true → (a || c) ≡ true
or_right true b c f e = refl
or_right false b c f e = f e

is_in-append : (table more : List Monomial) → Grows table (table ++ more)
is_in-append [] more m e = absurd (true≢false (sym e))
is_in-append (n ∷ ns) more m e = or_right (same_monomial n m) (is_in ns m) (is_in (ns ++ more) m) (is_in-append ns more m) e

is_in-last : (table : List Monomial) (m : Monomial) → is_in (table ++ m ∷ []) m ≡ true
is_in-last [] m = or_left (same_monomial m m) false (same_refl m)
is_in-last (n ∷ ns) m = or_last (same_monomial n m) (is_in (ns ++ m ∷ []) m) (is_in-last ns m)

with_monomial-grows : (table : List Monomial) (m : Monomial) (b : Bool) → Grows table (cond b table (table ++ m ∷ []))
with_monomial-grows table m true n e = e
with_monomial-grows table m false n e = is_in-append table (m ∷ []) n e

with_monomial-has : (table : List Monomial) (m : Monomial) (b : Bool) → (is_one m || is_in table m) ≡ b → (is_one m || is_in (cond b table (table ++ m ∷ [])) m) ≡ true
with_monomial-has table m true e = e
with_monomial-has table m false e = or_last (is_one m) (is_in (table ++ m ∷ []) m) (is_in-last table m)

with_monomials-grows : (ss : List Summand) (table : List Monomial) → Grows table (with_monomials table ss)
with_monomials-grows [] table m e = e
with_monomials-grows (s ∷ ss) table m e =
    with_monomials-grows ss (with_monomial table s.monomial) m (with_monomial-grows table s.monomial (is_one s.monomial || is_in table s.monomial) m e)

covers_more : (ss : List Summand) (old new : List Monomial) → Grows old new → Covers old ss → Covers new ss
covers_more [] old new g h = tt
covers_more (s ∷ ss) old new g h =
    (or_right (is_one s.monomial) (is_in old s.monomial) (is_in new s.monomial) (g s.monomial) h.0, covers_more ss old new g h.1)

with_monomials-covers : (ss : List Summand) (table : List Monomial) → Covers (with_monomials table ss) ss
with_monomials-covers [] table = tt
with_monomials-covers (s ∷ ss) table =
    let one : List Monomial = with_monomial table s.monomial in (
      or_right (is_one s.monomial) (is_in one s.monomial) (is_in (with_monomials one ss) s.monomial) (with_monomials-grows ss one s.monomial)
          (with_monomial-has table s.monomial (is_one s.monomial || is_in table s.monomial) refl),
      with_monomials-covers ss one,
    )

all_grows : (fs : List Form) (table : List Monomial) → Grows table (with_all_monomials table fs)
all_grows [] table m e = e
all_grows (f ∷ fs) table m e = all_grows fs (with_monomials table f.polynomial) m (with_monomials-grows f.polynomial table m e)

pub all_covered : (fs : List Form) (table : List Monomial) → CoversAll (with_all_monomials table fs) fs
all_covered [] table = tt
all_covered (f ∷ fs) table =
    let one : List Monomial = with_monomials table f.polynomial in
    (covers_more f.polynomial one (with_all_monomials one fs) (all_grows fs one) (with_monomials-covers f.polynomial table), all_covered fs one)

-- ---- 1 is not in it

abbrev pub NoOne : List Monomial → Type 0
NoOne [] = Unit {0}
NoOne (m ∷ ms) = (is_one m ≡ false) × NoOne ms

no_one-last : (table : List Monomial) (m : Monomial) → NoOne table → is_one m ≡ false → NoOne (table ++ m ∷ [])
no_one-last [] m h e = (e, tt)
no_one-last (n ∷ ns) m h e = (h.0, no_one-last ns m h.1 e)

or_first : (a b : Bool) → (a || b) ≡ false → a ≡ false
or_first true b e = e
or_first false b e = refl

no_one-with : (table : List Monomial) (m : Monomial) → NoOne table → (b : Bool) → (is_one m || is_in table m) ≡ b → NoOne (cond b table (table ++ m ∷ []))
no_one-with table m h true e = h
no_one-with table m h false e = no_one-last table m h (or_first (is_one m) (is_in table m) e)

no_one-monomials : (ss : List Summand) (table : List Monomial) → NoOne table → NoOne (with_monomials table ss)
no_one-monomials [] table h = h
no_one-monomials (s ∷ ss) table h =
    no_one-monomials ss (with_monomial table s.monomial) (no_one-with table s.monomial h (is_one s.monomial || is_in table s.monomial) refl)

pub no_one : (fs : List Form) (table : List Monomial) → NoOne table → NoOne (with_all_monomials table fs)
no_one [] table h = h
no_one (f ∷ fs) table h = no_one fs (with_monomials table f.polynomial) (no_one-monomials f.polynomial table h)

no_empty : (m : Monomial) → is_one m ≡ false → m ≢ []
no_empty m e q = true≢false (sym (ap is_one q) ∙ e)

pub not_one : (table : List Monomial) → NoOne table → (k : ℕ) (d : Monomial) → k < length table → get_or table k d ≢ []
not_one [] h k d l = absurd (omega arith)
not_one (m ∷ ms) h zero d l = no_empty m h.0
not_one (m ∷ ms) h (suc k) d l = not_one ms h.1 k d (omega arith)

-- ---- one more

pub map-more : (ss : List Sides) (i : ℕ) (s : Sides) → i < length ss → s ≡ get_or ss i s → map difference (take (suc i) ss) ≡ map difference (take i ss) ++ difference s ∷ []
map-more [] i s l e = absurd (omega arith)
map-more (a ∷ ss) zero s l e = ap (λ (x : Sides). difference x ∷ []) (sym e)
map-more (a ∷ ss) (suc i) s l e = ap (λ ds. difference a ∷ ds) (map-more ss i s (omega arith) e)

-- ---- a polynomial without the monomial

one_is : (m : Monomial) → is_one m ≡ true → m ≡ []
one_is [] e = refl
one_is (t ∷ m) e = absurd (true≢false (sym e))

pub uncovered : (table : List Monomial) (m : Monomial) → m ≢ [] → is_in table m ≡ false → (p : Polynomial) → Covers table p → coefficient m p ≡ pos 0
uncovered table m n out [] h = refl
uncovered table m n out (s ∷ p) h = choose (same_monomial s.monomial m) refl (uncovered table m n out p h.1)
  where
    clash : same_monomial s.monomial m ≡ true → ⊥
    clash e =
        or_cases (is_one s.monomial) (is_in table s.monomial) h.0
        (λ o. n (same_one m (ap (λ (k : Monomial). same_monomial k m) (sym (one_is s.monomial o)) ∙ e)))
        (λ i. true≢false (sym i ∙ is_in-same table s.monomial m e ∙ out))

    choose : (b : Bool) → same_monomial s.monomial m ≡ b → coefficient m p ≡ pos 0 → cond b s.coefficient (coefficient m p) ≡ pos 0
    choose true e later = absurd (clash e)
    choose false e later = later

-- ---- the number of a monomial

first_below : (n : ℕ) → 0 < suc n
first_below n = omega arith

next_below : (k n : ℕ) → k < n → suc k < suc n
next_below k n l = omega arith

abbrev pub Place : List Monomial → Monomial → Type 0
Place table m = (k : ℕ) × (k < length table) × ((d : Monomial) → same_monomial (get_or table k d) m ≡ true)

pub place_of : (table : List Monomial) (m : Monomial) → is_in table m ≡ true → Place table m
place_of [] m e = absurd (true≢false (sym e))
place_of (n ∷ ns) m e = choose (same_monomial n m) refl (λ h. place_of ns m h) e
  where
    choose : (b : Bool) → same_monomial n m ≡ b → (is_in ns m ≡ true → Place ns m) → (b || is_in ns m) ≡ true → Place (n ∷ ns) m
    choose true p later q = (0, first_below (length ns), λ d. p)
    choose false p later q = let r = later q in (suc r.0, next_below r.0 (length ns) r.1, r.2)
