-- What an answer of a test leaves to do.
use Rattle.std.proofs.Common.{◌≡◌, refl, sym, ◌∙◌, subst, ℕ, suc, ◌+◌, ◌≤◌, ◌<◌, ℤ, Bool, Option, Some, List, [], ◌∷◌, arith}
use Rattle.source_kinds.specs.declared.kinds.IntKind.{IntKind}
use Rattle.logic_term.specs.Pattern.{Pat}
use Rattle.logic_term.specs.Sort.{Declarations}
use Rattle.logic_term.specs.Ty.{Ty, Tys}
use Rattle.logic_term.specs.declared.kinds.AdtId.{AdtId}
use Rattle.logic_term.specs.declared.kinds.Ctor.TheVariants.{Tuple, Variant}
use Rattle.logic_term.specs.declared.pattern.PatStep.{PatStep}
use Rattle.pat_check.proofs.Answered.{tuple_known, variant_known}
use Rattle.pat_check.proofs.Left.{left, no_more_put, Answers, fewer_put, answers_built, answers_flag, answers_number, answers_other}
use Rattle.pat_check.proofs.Refined.{Refines, refines_put, refines_anything, refines_asked_number, refines_asked_other}
use Rattle.pat_check.proofs.Spots.{Spot}
use Rattle.pat_check.specs.Known.{Known, anything, other, number, flag, built, all_anything, known_at, put, excluded}
use Rattle.pat_check.specs.KnownTypes.{SomeLeft, IsKnown}
use Rattle.pat_check.specs.Rows.{test, by_status, next}
use Rattle.pat_check.specs.Status.{Status, fails, sure, asks, status}
use Rattle.pat_check.specs.Typed.{count_tys}
use Rattle.pat_check.specs.declared.test.Test.{Test}
use Rattle.pat_check.specs.declared.test.Test.TheVariants as by

-- how many tests of the patterns have no answer yet
abbrev pub left_sum : List Pat → Known → ℕ
left_sum [] k = 0
left_sum (p ∷ ps) k = left p k + left_sum ps k

-- an answer leaves fewer tests
pub fewer_left : (n : ℕ) (ps : List Pat) (k : Known) (p : List PatStep) (w : Test) (x : Known) → next n ps k ≡ test p w → Answers w (known_at k p) x → left_sum ps (put k p x) < left_sum ps k
fewer_left n [] k p w x e a = absurd (cc)
fewer_left n (q ∷ qs) k p w x e a = by_case (λ f. fewer_left (suc n) qs k p w x f a) (no_more_all qs) (status q k) refl e
  where
    no_more_all : (rs : List Pat) → left_sum rs (put k p x) ≤ left_sum rs k
    no_more_all [] = omega arith
    no_more_all (r ∷ rs) = omega (arith, no_more_put k p x a.0 r, no_more_all rs)

    by_case : (next (suc n) qs k ≡ test p w → left_sum qs (put k p x) < left_sum qs k) → left_sum qs (put k p x) ≤ left_sum qs k → (s : Status) → status q k ≡ s
        → by_status s n q (next (suc n) qs k) ≡ test p w → left_sum (q ∷ qs) (put k p x) < left_sum (q ∷ qs) k
    by_case more rest fails s f = omega (arith, more f, no_more_put k p x a.0 q)
    by_case more rest sure s f = absurd (cc)
    by_case more rest (asks r y) s f =
        let g : r ≡ p = cc in
        let h : y ≡ w = cc in
        omega (arith, rest, fewer_put q k p w x (s ∙ (λ i. asks (g i) (h i))) a)

-- what is known after an answer is known of the type, leaves fewer tests, and lets fail what failed
pub record Goes (Δ : Declarations) (ps : List Pat) (t : Ty) (k x : Known) : Type 0 where
  pub known : IsKnown Δ x t
  pub fewer : left_sum ps x < left_sum ps k
  pub kept : Refines x k

goes : (Δ : Declarations) (ps : List Pat) (t : Ty) (k : Known) (p : List PatStep) (w : Test) (x : Known) (i : Spot Δ k t p w) → next 0 ps k ≡ test p w → IsKnown Δ x i.ty → Answers w (known_at k p) x
    → Refines x (known_at k p) → Goes Δ ps t k (put k p x)
goes Δ ps t k p w x i e h a r = record { known = i.may_put x h; fewer = fewer_left 0 ps k p w x e a; kept = refines_put k p x r }

-- where nothing is known, anything may be made
goes_new : (Δ : Declarations) (ps : List Pat) (t : Ty) (k : Known) (p : List PatStep) (w : Test) (x : Known) (i : Spot Δ k t p w) → next 0 ps k ≡ test p w → IsKnown Δ x i.ty → known_at k p ≡ anything
    → Answers w anything x → Goes Δ ps t k (put k p x)
goes_new Δ ps t k p w x i e h is a = goes Δ ps t k p w x i e h (subst (λ y. Answers w y x) (sym is) a) (subst (Refines x) (sym is) (refines_anything x))

pub goes_tuple : (Δ : Declarations) (ps : List Pat) (t : Ty) (k : Known) (p : List PatStep) (n : ℕ) (i : Spot Δ k t p (by.Made Tuple n)) → next 0 ps k ≡ test p (by.Made Tuple n) → Goes Δ ps t k (put k p (built Tuple (all_anything n)))
goes_tuple Δ ps t k p n i e = goes_new Δ ps t k p (by.Made Tuple n) (built Tuple (all_anything n)) i e (tuple_known Δ i.ty n i.asked) i.unanswered (answers_built (by.Made Tuple n) Tuple n)

pub goes_flag : (Δ : Declarations) (ps : List Pat) (t : Ty) (k : Known) (p : List PatStep) (c : Bool) (i : Spot Δ k t p by.Truth) → next 0 ps k ≡ test p by.Truth → Goes Δ ps t k (put k p (flag c))
goes_flag Δ ps t k p c i e = goes_new Δ ps t k p by.Truth (flag c) i e i.asked i.unanswered (answers_flag by.Truth c)

pub goes_number : (Δ : Declarations) (ps : List Pat) (t : Ty) (k : Known) (p : List PatStep) (c : Option IntKind) (z : ℤ) (i : Spot Δ k t p (by.Number c z)) → next 0 ps k ≡ test p (by.Number c z) → Goes Δ ps t k (put k p (number z))
goes_number Δ ps t k p c z i e = goes Δ ps t k p (by.Number c z) (number z) i e (c, i.asked.0, i.asked.1) (answers_number c z (known_at k p) i.unanswered) (refines_asked_number c z (known_at k p) i.unanswered)

pub goes_other : (Δ : Declarations) (ps : List Pat) (t : Ty) (k : Known) (p : List PatStep) (c : Option IntKind) (z : ℤ) (i : Spot Δ k t p (by.Number c z)) → next 0 ps k ≡ test p (by.Number c z)
    → SomeLeft c (z ∷ excluded (known_at k p)) → Goes Δ ps t k (put k p (other c (z ∷ excluded (known_at k p))))
goes_other Δ ps t k p c z i e l = goes Δ ps t k p (by.Number c z) (other c (z ∷ excluded (known_at k p))) i e (i.asked.0, l) (answers_other c z (known_at k p) i.unanswered) (refines_asked_other c z (known_at k p) i.unanswered)

pub goes_variant : (Δ : Declarations) (ps : List Pat) (t : Ty) (k : Known) (p : List PatStep) (d : AdtId) (l n j : ℕ) (fs : Tys) (i : Spot Δ k t p (by.Made (Variant d l) n))
    → next 0 ps k ≡ test p (by.Made (Variant d l) n) → Δ d j ≡ Some fs → Goes Δ ps t k (put k p (built (Variant d j) (all_anything (count_tys fs))))
goes_variant Δ ps t k p d l n j fs i e f = goes_new Δ ps t k p (by.Made (Variant d l) n) (built (Variant d j) (all_anything (count_tys fs))) i e
    (variant_known Δ i.ty d l n j fs i.asked f) i.unanswered (answers_built (by.Made (Variant d l) n) (Variant d j) (count_tys fs))
