-- What fails stays failing where more is known.
use Rattle.std.proofs.Common.{◌≡◌, refl, sym, ap, ◌∙◌, subst, ℕ, zero, suc, ℤ, Bool, true, false, cond, ◌||◌, Option, List, [], ◌∷◌, ⊎_elim}
use Rattle.std.specs.Ordering.{int_eq}
use Rattle.source_kinds.specs.declared.kinds.IntKind.{IntKind}
use Rattle.logic_term.specs.Matches.{same_ctor, variant_number}
use Rattle.logic_term.specs.Pattern.{Pat, Pats, wild, bound, literal, truth, shape, no_pats, and_pat}
use Rattle.logic_term.specs.declared.pattern.PatStep.{PatStep}
use Rattle.pat_check.proofs.Parts.{also_fail}
use Rattle.pat_check.proofs.Sound.{also_fails, first_fails, later_fails, if_fails, asked_fails}
use Rattle.pat_check.proofs.Spots.{Unanswered}
use Rattle.pat_check.proofs.Tests.{int_differ}
use Rattle.pat_check.specs.Known.{Known, Knowns, anything, other, number, flag, built, no_knowns, and_known, among, nth_known, set_known, part_known, with_part, known_at, put, excluded}
use Rattle.pat_check.specs.Rows.{AllFail}
use Rattle.pat_check.specs.Status.{Status, fails, sure, also, first, later, status, statuses}
use Rattle.pat_check.specs.declared.test.Test.TheVariants as by

-- x says no less than k: what fails stays failing
abbrev pub Refines : Known → Known → Type 0
Refines x k = (q : Pat) → status q k ≡ fails → status q x ≡ fails

if_fail : (b : Bool) (s : Status) → s ≡ fails → cond b s fails ≡ fails
if_fail true s e = e
if_fail false s e = refl

not_if : (b : Bool) (s : Status) → b ≡ false → cond b s fails ≡ fails
not_if true s e = absurd (cc)
not_if false s e = refl

fails_set : (n : ℕ) (ps : Pats) (ks : Knowns) (i : ℕ) (x : Known) → Refines x (nth_known ks i) → statuses n ps ks ≡ fails → statuses n ps (set_known ks i x) ≡ fails
fails_set n no_pats no_knowns i x r s = s
fails_set n no_pats (and_known k ks) zero x r s = refl
fails_set n no_pats (and_known k ks) (suc i) x r s = refl
fails_set n (and_pat p ps) no_knowns i x r s = refl
fails_set n (and_pat p ps) (and_known k ks) zero x r s = ⊎_elim
    (λ f. ap (λ y. also (first n y) (later (statuses n ps ks))) (r p (first_fails n (status p k) f)))
    (λ f. ap (also (first n (status p x))) f ∙ also_fail (first n (status p x)))
    (also_fails (first n (status p k)) (later (statuses n ps ks)) s)
fails_set n (and_pat p ps) (and_known k ks) (suc i) x r s = ⊎_elim
    (λ f. ap (λ y. also y (later (statuses n ps (set_known ks i x)))) f)
    (λ f. ap (λ y. also (first n (status p k)) (later y)) (fails_set n ps ks i x r (later_fails (statuses n ps ks) f)) ∙ also_fail (first n (status p k)))
    (also_fails (first n (status p k)) (later (statuses n ps ks)) s)

refines_with : (k : Known) (n : ℕ) (x : Known) → Refines x (part_known k n) → Refines (with_part k n x) k
refines_with anything n x r q s = s
refines_with (other t zs) n x r q s = s
refines_with (number z) n x r q s = s
refines_with (flag b) n x r q s = s
refines_with (built c ks) n x r (wild u) s = s
refines_with (built c ks) n x r (bound u y m) s = s
refines_with (built c ks) n x r (literal u t z) s = refl
refines_with (built c ks) n x r (truth u b) s = refl
refines_with (built c ks) n x r (shape u e qs) s = ⊎_elim
    (λ d. not_if (same_ctor e c) _ d)
    (λ f. if_fail (same_ctor e c) _ (fails_set (variant_number e) qs ks n x r f))
    (if_fails (same_ctor e c) (statuses (variant_number e) qs ks) s)

pub refines_put : (k : Known) (p : List PatStep) (x : Known) → Refines x (known_at k p) → Refines (put k p x) k
refines_put k [] x r = r
refines_put k (s ∷ p) x r = refines_with k s.field (put (part_known k s.field) p x) (refines_put (part_known k s.field) p x r)

-- ---- the answers of a test

pub refines_anything : (x : Known) → Refines x anything
refines_anything x (wild u) s = absurd (cc)
refines_anything x (bound u y m) s = absurd (cc)
refines_anything x (literal u t z) s = absurd (cc)
refines_anything x (truth u b) s = absurd (cc)
refines_anything x (shape u c qs) s = absurd (cc)

-- an integer that is none of these is not y, which is
differs : (y z : ℤ) (zs : List ℤ) → among y zs ≡ true → among z zs ≡ false → int_eq y z ≡ false
differs y z zs a n = int_differ y z (λ e. absurd (let f = subst (λ x. among x zs ≡ true) e a in cc))

or_right : (a b : Bool) → b ≡ true → a || b ≡ true
or_right true b e = refl
or_right false b e = e

among_if : (b : Bool) (s : Status) → b ≡ true → cond b fails s ≡ fails
among_if true s e = refl
among_if false s e = absurd (cc)

not_equal_if : (b : Bool) → b ≡ false → cond b sure fails ≡ fails
not_equal_if true e = absurd (cc)
not_equal_if false e = refl

pub refines_number : (z : ℤ) (j : Option IntKind) (zs : List ℤ) → among z zs ≡ false → Refines (number z) (other j zs)
refines_number z j zs n (wild u) s = s
refines_number z j zs n (bound u y m) s = s
refines_number z j zs n (literal u t y) s = not_equal_if (int_eq y z) (differs y z zs (asked_fails (among y zs) _ _ s) n)
refines_number z j zs n (truth u b) s = refl
refines_number z j zs n (shape u c qs) s = refl

pub refines_other : (z : ℤ) (i j : Option IntKind) (zs : List ℤ) → Refines (other i (z ∷ zs)) (other j zs)
refines_other z i j zs (wild u) s = s
refines_other z i j zs (bound u y m) s = s
refines_other z i j zs (literal u t y) s = among_if (among y (z ∷ zs)) _ (or_right (int_eq y z) (among y zs) (asked_fails (among y zs) _ _ s))
refines_other z i j zs (truth u b) s = refl
refines_other z i j zs (shape u c qs) s = refl

-- ---- what asked has an answer

pub refines_asked_number : (c : Option IntKind) (z : ℤ) (k : Known) → Unanswered (by.Number c z) k → Refines (number z) k
refines_asked_number c z k u = ⊎_elim
    (λ e. subst (Refines (number z)) (sym e) (refines_anything (number z)))
    (λ e. subst (Refines (number z)) (sym e.2) (refines_number z e.0 e.1 e.3))
    u

pub refines_asked_other : (c : Option IntKind) (z : ℤ) (k : Known) → Unanswered (by.Number c z) k → Refines (other c (z ∷ excluded k)) k
refines_asked_other c z k u = ⊎_elim
    (λ e. subst (λ x. Refines (other c (z ∷ excluded x)) x) (sym e) (refines_anything (other c (z ∷ []))))
    (λ e. subst (λ x. Refines (other c (z ∷ excluded x)) x) (sym e.2) (refines_other z c e.0 e.1))
    u

pub all_still_fail : (ps : List Pat) (k x : Known) → Refines x k → AllFail ps k → AllFail ps x
all_still_fail [] k x r h = tt
all_still_fail (p ∷ ps) k x r h = (r p h.0, all_still_fail ps k x r h.1)
