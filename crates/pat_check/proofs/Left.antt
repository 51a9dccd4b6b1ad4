-- What is put where a pattern asks leaves fewer tests.
use Rattle.std.proofs.Common.{◌≡◌, refl, sym, ap, ◌∙◌, subst, ℕ, zero, suc, ◌+◌, ◌≤◌, ◌<◌, ℤ, Bool, true, false, cond, ◌||◌, Option, List, [], ◌∷◌, ⊎_elim, arith}
use Rattle.std.specs.Ordering.{int_eq}
use Rattle.source_kinds.specs.declared.kinds.IntKind.{IntKind}
use Rattle.logic_term.specs.Matches.{same_ctor, same_flag, variant_number}
use Rattle.logic_term.specs.Pattern.{Pat, Pats, wild, bound, literal, truth, shape, no_pats, and_pat}
use Rattle.logic_term.specs.declared.kinds.Ctor.{Ctor}
use Rattle.logic_term.specs.declared.pattern.PatStep.{PatStep}
use Rattle.pat_check.proofs.Spots.{also_asks, first_asks, later_asks, if_asks, asks_in, sure_asks, Unanswered}
use Rattle.pat_check.proofs.Tests.{int_self}
use Rattle.pat_check.specs.Known.{Known, Knowns, anything, other, number, flag, built, no_knowns, and_known, all_anything, among, nth_known, set_known, part_known, with_part, known_at, put, excluded}
use Rattle.pat_check.specs.Status.{asks, first, next_part, later, status, statuses}
use Rattle.pat_check.specs.declared.test.Test.{Test}
use Rattle.pat_check.specs.declared.test.Test.TheVariants as by

-- how many tests the pattern has
abbrev mutual
  pub tests : Pat → ℕ
  tests (wild u) = 0
  tests (bound u x m) = 0
  tests (literal u t z) = 1
  tests (truth u b) = 1
  tests (shape u c ps) = suc (tests_all ps)

  pub tests_all : Pats → ℕ
  tests_all no_pats = 0
  tests_all (and_pat p ps) = tests p + tests_all ps

-- how many of them have no answer yet
abbrev mutual
  pub left : Pat → Known → ℕ
  left (wild u) k = 0
  left (bound u x m) k = 0
  left (literal u t z) anything = 1
  left (literal u t z) (other j zs) = cond (among z zs) 0 1
  left (literal u t z) (number y) = 0
  left (literal u t z) (flag b) = 0
  left (literal u t z) (built c ks) = 0
  left (truth u b) anything = 1
  left (truth u b) (other j zs) = 0
  left (truth u b) (number y) = 0
  left (truth u b) (flag c) = 0
  left (truth u b) (built c ks) = 0
  left (shape u c ps) anything = suc (tests_all ps)
  left (shape u c ps) (other j zs) = 0
  left (shape u c ps) (number y) = 0
  left (shape u c ps) (flag b) = 0
  left (shape u c ps) (built e ks) = left_all ps ks

  pub left_all : Pats → Knowns → ℕ
  left_all no_pats ks = 0
  left_all (and_pat p ps) no_knowns = 0
  left_all (and_pat p ps) (and_known k ks) = left p k + left_all ps ks

-- no pattern has more tests left
abbrev pub NoMore : Known → Known → Type 0
NoMore x k = (q : Pat) → left q x ≤ left q k

no_more_set : (qs : Pats) (ks : Knowns) (n : ℕ) (x : Known) → NoMore x (nth_known ks n) → left_all qs (set_known ks n x) ≤ left_all qs ks
no_more_set no_pats ks n x h = omega arith
no_more_set (and_pat q qs) no_knowns n x h = omega arith
no_more_set (and_pat q qs) (and_known k ks) zero x h = omega (arith, h q)
no_more_set (and_pat q qs) (and_known k ks) (suc n) x h = omega (arith, no_more_set qs ks n x h)

no_more_with : (k : Known) (n : ℕ) (x : Known) → NoMore x (part_known k n) → NoMore (with_part k n x) k
no_more_with anything n x h q = omega arith
no_more_with (other t zs) n x h q = omega arith
no_more_with (number z) n x h q = omega arith
no_more_with (flag b) n x h q = omega arith
no_more_with (built c ks) n x h (wild u) = omega arith
no_more_with (built c ks) n x h (bound u y m) = omega arith
no_more_with (built c ks) n x h (literal u t z) = omega arith
no_more_with (built c ks) n x h (truth u b) = omega arith
no_more_with (built c ks) n x h (shape u e qs) = no_more_set qs ks n x h

pub no_more_put : (k : Known) (p : List PatStep) (x : Known) → NoMore x (known_at k p) → NoMore (put k p x) k
no_more_put k [] x h = h
no_more_put k (s ∷ p) x h = no_more_with k s.field (put (part_known k s.field) p x) (no_more_put (part_known k s.field) p x h)

-- ---- answers

-- x answers what was asked where k was known
abbrev pub Answers : Test → Known → Known → Type 0
Answers w k x = NoMore x k × ((q : Pat) → status q k ≡ asks [] w → left q x < left q k)

at_top : (q : Pat) (k : Known) (p : List PatStep) (w : Test) (x : Known) → [] ≡ p → status q k ≡ asks p w → Answers w (known_at k p) x → left q (put k p x) < left q k
at_top q k p w x e s a = subst (λ r. status q k ≡ asks r w → Answers w (known_at k r) x → left q (put k r x) < left q k) e (λ h b. b.1 q h) s a

asks_path : (q p : List PatStep) (x w : Test) → asks q x ≡ asks p w → q ≡ p
asks_path q p x w e = cc

-- where the pattern asks is a place of what is known, so that an answer there leaves it fewer tests
mutual
  pub fewer_put : (q : Pat) (k : Known) (p : List PatStep) (w : Test) (x : Known) → status q k ≡ asks p w → Answers w (known_at k p) x → left q (put k p x) < left q k
  fewer_put (wild u) k p w x s a = absurd (cc)
  fewer_put (bound u y m) k p w x s a = absurd (cc)
  fewer_put (literal u i z) anything p w x s a = at_top (literal u i z) anything p w x (asks_path _ _ _ _ s) s a
  fewer_put (literal u i z) (other j zs) p w x s a = at_top (literal u i z) (other j zs) p w x (asks_path _ _ _ _ (asks_in (among z zs) _ _ _ _ s).1) s a
  fewer_put (literal u i z) (number y) p w x s a = sure_asks (int_eq z y) _ _ s
  fewer_put (literal u i z) (flag b) p w x s a = absurd (cc)
  fewer_put (literal u i z) (built c ks) p w x s a = absurd (cc)
  fewer_put (truth u b) anything p w x s a = at_top (truth u b) anything p w x (asks_path _ _ _ _ s) s a
  fewer_put (truth u b) (other j zs) p w x s a = absurd (cc)
  fewer_put (truth u b) (number y) p w x s a = absurd (cc)
  fewer_put (truth u b) (flag c) p w x s a = sure_asks (same_flag b c) _ _ s
  fewer_put (truth u b) (built c ks) p w x s a = absurd (cc)
  fewer_put (shape u c qs) anything p w x s a = at_top (shape u c qs) anything p w x (asks_path _ _ _ _ s) s a
  fewer_put (shape u c qs) (other j zs) p w x s a = absurd (cc)
  fewer_put (shape u c qs) (number y) p w x s a = absurd (cc)
  fewer_put (shape u c qs) (flag b) p w x s a = absurd (cc)
  fewer_put (shape u c qs) (built e ks) p w x s a =
      let i = fewer_in (variant_number c) qs ks p w x (if_asks (same_ctor c e) (statuses (variant_number c) qs ks) p w s).1 in
      subst (λ r. Answers w (known_at (built e ks) r) x → left (shape u c qs) (put (built e ks) r x) < left_all qs ks) (sym i.2) i.3 a

  fewer_in : (n : ℕ) (qs : Pats) (ks : Knowns) (p : List PatStep) (w : Test) (x : Known) → statuses n qs ks ≡ asks p w
      → (at : ℕ) × (rest : List PatStep) × (p ≡ record { variant = n; field = at } ∷ rest) × (Answers w (known_at (nth_known ks at) rest) x → left_all qs (set_known ks at (put (nth_known ks at) rest x)) < left_all qs ks)
  fewer_in n no_pats no_knowns p w x s = absurd (cc)
  fewer_in n no_pats (and_known k ks) p w x s = absurd (cc)
  fewer_in n (and_pat q qs) no_knowns p w x s = absurd (cc)
  fewer_in n (and_pat q qs) (and_known k ks) p w x s =
      ⊎_elim
      (λ e.
      let f = first_asks n (status q k) p w e in
      (0, f.0, f.2, λ a. let g : left q (put k f.0 x) < left q k = fewer_put q k f.0 w x f.1 a in omega (arith, g)))
      (λ e.
      let f = later_asks (statuses n qs ks) p w e.1 in
      let i = fewer_in n qs ks f.0 w x f.1 in
      (suc i.0, i.1, f.2 ∙ ap next_part i.2, λ a. let g : left_all qs (set_known ks i.0 (put (nth_known ks i.0) i.1 x)) < left_all qs ks = i.3 a in omega (arith, g)))
      (also_asks (first n (status q k)) (later (statuses n qs ks)) p w s)

-- ---- the answers of a test

left_most : (q : Pat) → left q anything ≤ tests q
left_most (wild u) = omega arith
left_most (bound u x m) = omega arith
left_most (literal u t z) = omega arith
left_most (truth u b) = omega arith
left_most (shape u c qs) = omega arith

left_anything : (qs : Pats) (m : ℕ) → left_all qs (all_anything m) ≤ tests_all qs
left_anything no_pats m = omega arith
left_anything (and_pat q qs) zero = omega arith
left_anything (and_pat q qs) (suc m) = omega (arith, left_most q, left_anything qs m)

pub answers_built : (w : Test) (c : Ctor) (m : ℕ) → Answers w anything (built c (all_anything m))
answers_built w c m = (none, fewer)
  where
    none : (q : Pat) → left q (built c (all_anything m)) ≤ left q anything
    none (wild u) = omega arith
    none (bound u x m) = omega arith
    none (literal u t z) = omega arith
    none (truth u b) = omega arith
    none (shape u e qs) = omega (arith, left_anything qs m)

    fewer : (q : Pat) → status q anything ≡ asks [] w → left q (built c (all_anything m)) < left q anything
    fewer (wild u) s = absurd (cc)
    fewer (bound u x m) s = absurd (cc)
    fewer (literal u t z) s = omega arith
    fewer (truth u b) s = omega arith
    fewer (shape u e qs) s = omega (arith, left_anything qs m)

pub answers_flag : (w : Test) (b : Bool) → Answers w anything (flag b)
answers_flag w b = (none, fewer)
  where
    none : (q : Pat) → left q (flag b) ≤ left q anything
    none (wild u) = omega arith
    none (bound u x m) = omega arith
    none (literal u t z) = omega arith
    none (truth u c) = omega arith
    none (shape u e qs) = omega arith

    fewer : (q : Pat) → status q anything ≡ asks [] w → left q (flag b) < left q anything
    fewer (wild u) s = absurd (cc)
    fewer (bound u x m) s = absurd (cc)
    fewer (literal u t z) s = omega arith
    fewer (truth u c) s = omega arith
    fewer (shape u e qs) s = omega arith

number_any : (w : Test) (z : ℤ) → Answers w anything (number z)
number_any w z = (none, fewer)
  where
    none : (q : Pat) → left q (number z) ≤ left q anything
    none (wild u) = omega arith
    none (bound u x m) = omega arith
    none (literal u t y) = omega arith
    none (truth u c) = omega arith
    none (shape u e qs) = omega arith

    fewer : (q : Pat) → status q anything ≡ asks [] w → left q (number z) < left q anything
    fewer (wild u) s = absurd (cc)
    fewer (bound u x m) s = absurd (cc)
    fewer (literal u t y) s = omega arith
    fewer (truth u c) s = omega arith
    fewer (shape u e qs) s = omega arith

at_most_one : (b : Bool) → cond b 0 1 ≤ 1
at_most_one true = omega arith
at_most_one false = omega arith

or_less : (a b : Bool) → cond (a || b) 0 1 ≤ cond b 0 1
or_less true true = omega arith
or_less true false = omega arith
or_less false b = omega arith

named : (a b : Bool) → a ≡ true → b ≡ false → cond (a || b) 0 1 < cond b 0 1
named true true e f = absurd (cc)
named true false e f = omega arith
named false b e f = absurd (cc)

none_named : (b : Bool) → b ≡ false → 0 < cond b 0 1
none_named true e = absurd (cc)
none_named false e = omega arith

number_other : (w : Test) (z : ℤ) (j : Option IntKind) (zs : List ℤ) → Answers w (other j zs) (number z)
number_other w z j zs = (none, fewer)
  where
    none : (q : Pat) → left q (number z) ≤ left q (other j zs)
    none (wild u) = omega arith
    none (bound u x m) = omega arith
    none (literal u t y) = omega arith
    none (truth u c) = omega arith
    none (shape u e qs) = omega arith

    fewer : (q : Pat) → status q (other j zs) ≡ asks [] w → left q (number z) < left q (other j zs)
    fewer (wild u) s = absurd (cc)
    fewer (bound u x m) s = absurd (cc)
    fewer (literal u t y) s = none_named (among y zs) (asks_in (among y zs) _ _ _ _ s).0
    fewer (truth u c) s = absurd (cc)
    fewer (shape u e qs) s = absurd (cc)

same_literal : (t c : Option IntKind) (y z : ℤ) → asks [] (by.Number t y) ≡ asks [] (by.Number c z) → y ≡ z
same_literal t c y z e = cc

other_any : (c : Option IntKind) (z : ℤ) → Answers (by.Number c z) anything (other c (z ∷ []))
other_any c z = (none, fewer)
  where
    none : (q : Pat) → left q (other c (z ∷ [])) ≤ left q anything
    none (wild u) = omega arith
    none (bound u x m) = omega arith
    none (literal u t y) = at_most_one (among y (z ∷ []))
    none (truth u b) = omega arith
    none (shape u e qs) = omega arith

    fewer : (q : Pat) → status q anything ≡ asks [] (by.Number c z) → left q (other c (z ∷ [])) < left q anything
    fewer (wild u) s = absurd (cc)
    fewer (bound u x m) s = absurd (cc)
    fewer (literal u t y) s = named (int_eq y z) false (subst (λ u. int_eq y u ≡ true) (same_literal t c y z s) (int_self y)) refl
    fewer (truth u b) s = omega arith
    fewer (shape u e qs) s = omega arith

other_more : (c : Option IntKind) (z : ℤ) (j : Option IntKind) (zs : List ℤ) → Answers (by.Number c z) (other j zs) (other c (z ∷ zs))
other_more c z j zs = (none, fewer)
  where
    none : (q : Pat) → left q (other c (z ∷ zs)) ≤ left q (other j zs)
    none (wild u) = omega arith
    none (bound u x m) = omega arith
    none (literal u t y) = or_less (int_eq y z) (among y zs)
    none (truth u b) = omega arith
    none (shape u e qs) = omega arith

    fewer : (q : Pat) → status q (other j zs) ≡ asks [] (by.Number c z) → left q (other c (z ∷ zs)) < left q (other j zs)
    fewer (wild u) s = absurd (cc)
    fewer (bound u x m) s = absurd (cc)
    fewer (literal u t y) s =
        let a = asks_in (among y zs) _ _ _ _ s in
        named (int_eq y z) (among y zs) (subst (λ u. int_eq y u ≡ true) (same_literal t c y z a.1) (int_self y)) a.0
    fewer (truth u b) s = absurd (cc)
    fewer (shape u e qs) s = absurd (cc)

pub answers_number : (c : Option IntKind) (z : ℤ) (k : Known) → Unanswered (by.Number c z) k → Answers (by.Number c z) k (number z)
answers_number c z k u = ⊎_elim
    (λ e. subst (λ x. Answers (by.Number c z) x (number z)) (sym e) (number_any (by.Number c z) z))
    (λ e. subst (λ x. Answers (by.Number c z) x (number z)) (sym e.2) (number_other (by.Number c z) z e.0 e.1))
    u

pub answers_other : (c : Option IntKind) (z : ℤ) (k : Known) → Unanswered (by.Number c z) k → Answers (by.Number c z) k (other c (z ∷ excluded k))
answers_other c z k u = ⊎_elim
    (λ e. subst (λ x. Answers (by.Number c z) x (other c (z ∷ excluded x))) (sym e) (other_any c z))
    (λ e. subst (λ x. Answers (by.Number c z) x (other c (z ∷ excluded x))) (sym e.2) (other_more c z e.0 e.1))
    u
