-- Lists of patterns and of what is known.
use Rattle.std.proofs.Common.{◌≡◌, refl, sym, ap, subst, ℕ, zero, suc, ◌+◌, ◌≤◌, ◌<◌, List, [], ◌∷◌, ◌++◌, length, get_or, slice_set, arith}
use Rattle.logic_term.specs.Pattern.{Pat}
use Rattle.logic_term.specs.PatternView.{pats_of}
use Rattle.logic_term.specs.declared.pattern.PatStep.{PatStep}
use Rattle.pat_check.specs.Known.{Known, Knowns, anything, and_known, all_anything, nth_known, set_known, known_at}
use Rattle.pat_check.specs.KnownView.{knowns_of}
use Rattle.pat_check.specs.Status.{count_pats}

pub count_listed : (ps : List Pat) → count_pats (pats_of ps) ≡ length ps
count_listed [] = refl
count_listed (p ∷ ps) = ap suc (count_listed ps)

pub one_more_anything : (ks : List Known) (n : ℕ) → knowns_of ks ≡ all_anything n → knowns_of (ks ++ anything ∷ []) ≡ all_anything (n + 1)
one_more_anything ks n e = subst (λ m. knowns_of (ks ++ anything ∷ []) ≡ all_anything m) (let f : suc n ≡ n + 1 = omega arith in f) (more ks n e)
  where
    front : (k : Known) (ks : Knowns) (m : ℕ) → and_known k ks ≡ all_anything (suc m) → (k ≡ anything) × (ks ≡ all_anything m)
    front k ks m f = (cc, cc)

    more : (ks : List Known) (n : ℕ) → knowns_of ks ≡ all_anything n → knowns_of (ks ++ anything ∷ []) ≡ all_anything (suc n)
    more [] zero e = refl
    more [] (suc n) e = absurd (cc)
    more (k ∷ ks) zero e = absurd (cc)
    more (k ∷ ks) (suc n) e = λ i. and_known ((front k (knowns_of ks) n e).0 i) (more ks n (front k (knowns_of ks) n e).1 i)

pub set_listed : (ks : List Known) (n : ℕ) (k : Known) → knowns_of (slice_set ks n k) ≡ set_known (knowns_of ks) n k
set_listed [] n k = refl
set_listed (x ∷ ks) zero k = refl
set_listed (x ∷ ks) (suc n) k = ap (and_known x) (set_listed ks n k)

pub nth_listed : (ks : List Known) (n : ℕ) (k : Known) → k ≡ get_or ks n k → n < length ks → nth_known (knowns_of ks) n ≡ k
nth_listed [] n k e l = absurd (omega arith)
nth_listed (x ∷ ks) zero k e l = sym e
nth_listed (x ∷ ks) (suc n) k e l = nth_listed ks n k e (omega arith)

pub set_past : (ks : List Known) (n : ℕ) (k : Known) → length ks ≤ n → set_known (knowns_of ks) n k ≡ knowns_of ks
set_past [] n k l = refl
set_past (x ∷ ks) zero k l = absurd (omega arith)
set_past (x ∷ ks) (suc n) k l = ap (and_known x) (set_past ks n k (omega arith))

pub nth_past : (ks : List Known) (n : ℕ) → length ks ≤ n → nth_known (knowns_of ks) n ≡ anything
nth_past [] n l = refl
nth_past (x ∷ ks) zero l = absurd (omega arith)
nth_past (x ∷ ks) (suc n) l = nth_past ks n (omega arith)

pub anything_at : (p : List PatStep) → known_at anything p ≡ anything
anything_at [] = refl
anything_at (s ∷ p) = anything_at p
