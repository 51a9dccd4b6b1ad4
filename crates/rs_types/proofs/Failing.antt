-- Which check fails first, by settled cases.
use Rattle.std.proofs.Common.{◌≡◌, ℕ, zero, suc, ◌<◌, ◌≤◌, ◌&&◌, nat_lt, Bool, true, false, List, [], ◌∷◌, drop, get_or, length, Option, Some, None, slice_get, ◌⊎◌, inl, inr, if◌then◌else◌, refl, sym, ◌∙◌, subst, true≢false, MatchOption, arith}
use Rattle.std.proofs.lemmas.Bool.Decides.{nat_tests}
use Rattle.text_core.specs.declared.refusal.SourceError.{SourceError}
use Rattle.text_core.specs.declared.span.Span.{Span}
use Rattle.logic_term.specs.Sort.{HasSort, of_adt}
use Rattle.logic_term.specs.Theory.{fields_of, variant_of}
use Rattle.logic_term.specs.Ty.{Ty, Tys, adt}
use Rattle.logic_term.specs.Value.{Value}
use Rattle.logic_term.specs.declared.declaration.AdtDecl.{AdtDecl}
use Rattle.rs_types.specs.declared.checks.Check.{Check}
use Rattle.rs_types.specs.declared.checks.Check.TheVariants as check
use Rattle.rs_types.specs.declared.weighing.Case.{Case}
use Rattle.rs_types.specs.declared.weighing.Question.{Question}
use Rattle.rs_types.specs.declared.weighing.Question.TheVariants as question
use Rattle.rs_types.specs.Accepted.{nested_reference}
use Rattle.rs_types.specs.Checked.{Passes, IsRefusedBy, AllPass, IsFirst, at_once, later}
use Rattle.rs_types.specs.Endless.{IsBounded, IsEndless}
use Rattle.rs_types.specs.Growing.{declared_by}
use Rattle.rs_types.specs.Inhabited.{IsEmpty}
use Rattle.rs_types.specs.Refused.{failing_by, first_by, unless_failing, unless_good, CheckIsAsked, ChecksAreAsked}
use Rattle.rs_types.specs.Weighing.{known, weight, IsAsked, Settled}
use Rattle.rs_types.proofs.Bounds.{any_default}
use Rattle.rs_types.proofs.Cases.{order}
use Rattle.rs_types.proofs.Weighed.{empty_by, flat_by, inhabited_by, nested_by}

-- ---- checks that are asked, from the end

all_dropped : (xs : List Check) → drop (length xs) xs ≡ []
all_dropped [] = refl
all_dropped (x ∷ xs) = all_dropped xs

module _ (q : Question) (cs : List Case) where
  pub no_checks : (xs : List Check) → ChecksAreAsked q cs (drop (length xs) xs)
  no_checks xs = subst (ChecksAreAsked q cs) (sym (all_dropped xs)) tt

  pub next_check : (xs : List Check) (j : ℕ) (c : Check) → c ≡ get_or xs j c → j < length xs → CheckIsAsked q cs c → ChecksAreAsked q cs (drop (suc j) xs) → ChecksAreAsked q cs (drop j xs)
  next_check [] j c e l a h = absurd (omega arith)
  next_check (u ∷ xs) zero c e l a h = (subst (CheckIsAsked q cs) e a, h)
  next_check (u ∷ xs) (suc j) c e l a h = next_check xs j c e (omega arith) a h

-- ---- numbers past the end

-- nothing is declared there
past : (ds : List AdtDecl) (d k : ℕ) (fs : Tys) → length ds ≤ d → fields_of (variant_of (slice_get ds d) k) ≡ Some fs → ⊥
past [] zero k fs l e = grind (arith, e)
past [] (suc d) k fs l e = grind (arith, e)
past (c ∷ ds) zero k fs l e = omega arith
past (c ∷ ds) (suc d) k fs l e = past ds d k fs (omega arith) e

empty_past : (ds : List AdtDecl) (d : ℕ) → length ds ≤ d → IsEmpty ds d
empty_past ds d l rs ts v = by v.0 v.1
  where
    by : (w : Value) → HasSort (declared_by ds) w (adt (record { 0 = d }) rs ts) → ⊥
    by w (of_adt {k = k} {fs = fs} e h) = past ds d k fs l e

within : (bs : List Bool) (d : ℕ) → get_or bs d false ≡ true → d < length bs
within [] d e = absurd (true≢false (sym e))
within (b ∷ bs) zero e = omega arith
within (b ∷ bs) (suc d) e = omega (arith, within bs d e)

-- ---- what is said of each check

two : (n : ℕ) → nat_lt 1 n ≡ true → 2 ≤ n
two n e = let l : 1 < n = grind (arith, nat_tests) in omega arith

not_two : (n : ℕ) → nat_lt 1 n ≡ false → 2 ≤ n → ⊥
not_two n e l = let m : n ≤ 1 = grind (arith, nat_tests) in omega arith

some : (n : ℕ) → nat_lt 0 n ≡ true → n ≡ 0 → ⊥
some n t e = grind (arith, nat_tests)

none : (n : ℕ) → nat_lt 0 n ≡ false → n ≡ 0
none n t = grind (arith, nat_tests)

module _ (ds : List AdtDecl) (bounded : List Bool) (values cs : List Case) (long : length bounded ≡ length ds) (is_bounded : (d : ℕ) → get_or bounded d true ≡ true → IsBounded ds d)
    (is_endless : (d : ℕ) → get_or bounded d true ≡ false → IsEndless ds d) (v : Settled question.Value ds values) (s : Settled question.References ds cs) where
  abbrev Judges : Check → Option SourceError → Type 0
  Judges c None = Passes ds c
  Judges c (Some e) = IsRefusedBy ds c e

  plain_judged : (o : Option SourceError) → Judges (check.Plain o) o
  plain_judged None = tt
  plain_judged (Some e) = refl

  flat_judged : (p : Span) (t : Ty) → IsAsked question.References cs [] t → (b : Bool) → nat_lt 1 (weight question.References cs [] t) ≡ b → Judges (check.Flat p t) (if b then Some (nested_reference p) else None)
  flat_judged p t a true e = (nested_by ds cs s t (two (weight question.References cs [] t) e), refl)
  flat_judged p t a false e = flat_by ds cs s t a (not_two (weight question.References cs [] t) e)

  unbounded : (d : ℕ) → get_or bounded d false ≡ false → (d < length bounded) ⊎ (length bounded ≤ d) → IsEndless ds d ⊎ IsEmpty ds d
  unbounded d e (inl l) = inl (is_endless d (any_default bounded d true false l ∙ e))
  unbounded d e (inr l) = inr (empty_past ds d (omega arith))

  apart : (d : ℕ) → (length bounded ≤ d) ⊎ (d < length bounded) → (d < length bounded) ⊎ (length bounded ≤ d)
  apart d (inl l) = inr l
  apart d (inr l) = inl l

  finite_judged : (d : ℕ) (p : Span) (b m : Bool) → get_or bounded d false ≡ b → nat_lt 0 (known d [] values) ≡ m → Judges (check.Finite d p) (unless_good (b && m) p)
  finite_judged d p false m e f = (unbounded d e (apart d (order (length bounded) d)), refl)
  finite_judged d p true false e f = let l : d < length ds = omega (arith, within bounded d e) in (inr (empty_by ds values v d l (none (known d [] values) f)), refl)
  finite_judged d p true true e f =
      let m : d < length bounded = within bounded d e in
      let l : d < length ds = omega arith in
      (is_bounded d (any_default bounded d true false m ∙ e), inhabited_by ds values v d l (some (known d [] values) f))

  judged : (c : Check) → CheckIsAsked question.References cs c → Judges c (failing_by bounded values cs c)
  judged (check.Plain o) a = plain_judged o
  judged (check.Flat p t) a = flat_judged p t a (nat_lt 1 (weight question.References cs [] t)) refl
  judged (check.Finite d p) a = finite_judged d p (get_or bounded d false) (nat_lt 0 (known d [] values)) refl refl

  -- ---- one after another

  says : (left : List Check) → ChecksAreAsked question.References cs left → MatchOption (first_by bounded values cs left) (AllPass ds left) (λ e. IsFirst ds left e)
  says [] a = tt
  says (c ∷ left) a = by (failing_by bounded values cs c) (judged c a.0) (first_by bounded values cs left) (says left a.1)
    where
      by : (o : Option SourceError) → Judges c o → (m : Option SourceError) → MatchOption m (AllPass ds left) (λ e. IsFirst ds left e)
          → MatchOption (unless_failing o m) (AllPass ds (c ∷ left)) (λ e. IsFirst ds (c ∷ left) e)
      by (Some e) h m g = at_once h
      by None h None g = (h, g)
      by None h (Some e) g = later h g

  pub first_says : (checks : List Check) → ChecksAreAsked question.References cs checks → (o : Option SourceError) → o ≡ first_by bounded values cs checks
      → MatchOption o (AllPass ds checks) (λ e. IsFirst ds checks e)
  first_says checks a o e = subst (λ m. MatchOption m (AllPass ds checks) (λ r. IsFirst ds checks r)) (sym e) (says checks a)
