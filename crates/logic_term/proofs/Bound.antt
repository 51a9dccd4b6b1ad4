-- Lists of bound names in which the innermost stands last.
use Rattle.std.proofs.Common.{◌≡◌, ◌≢◌, ℕ, suc, ◌+◌, ◌-◌, ◌<◌, ◌≤◌, ◌==◌, ◌||◌, Bool, true, false, cond, max, List, [], ◌∷◌, ◌++◌, length, get_or, take, refl, sym, subst, ◌∙◌, ap, ap₂, add-one, arith, if◌then◌else◌}
use Rattle.std.proofs.lemmas.Bool.Decides.{nat_tests}
use Rattle.std.proofs.Math.Seq.{take-suc}
use Rattle.text_core.specs.declared.name.Name.{Name}
use Rattle.logic_term.specs.declared.subst.Renaming.{Renaming}
use Rattle.logic_term.specs.declared.subst.Replacement.{Replacement}
use Rattle.logic_term.specs.Canonical.{is_one_of, above_free, all_above_free}
use Rattle.logic_term.specs.Subst.{look, renaming, numbers_before, above_entries}
use Rattle.logic_term.specs.Term.{Term, Terms, var, lit, truth, apply, bind, no_terms, and_term}

-- ---- numbers for bound names

-- what was bound last counts first
pub last_first : (rs : List Renaming) (r : Renaming) (σ : List Replacement) → numbers_before (rs ++ r ∷ []) σ ≡ renaming r ∷ numbers_before rs σ
last_first [] r σ = refl
last_first (q ∷ rs) r σ = last_first rs r (renaming q ∷ σ)

one_more : (rs : List Renaming) (left : ℕ) (d : Renaming) → 0 < left → left ≤ length rs → take left rs ≡ take (left - 1) rs ++ get_or rs (left - 1) d ∷ []
one_more rs left d some fits = let n : suc (left - 1) ≡ left = omega arith in subst (λ m. take m rs ≡ take (left - 1) rs ++ get_or rs (left - 1) d ∷ []) n (take-suc rs (left - 1) d (omega arith))

looked : (rs : List Renaming) (left : ℕ) (d : Renaming) (σ : List Replacement) (x : Name) → 0 < left → left ≤ length rs
    → look (numbers_before (take left rs) σ) x ≡ cond (x.0 == (get_or rs (left - 1) d).from.0) (var (get_or rs (left - 1) d).to) (look (numbers_before (take (left - 1) rs) σ) x)
looked rs left d σ x some fits = ap (λ qs. look (numbers_before qs σ) x) (one_more rs left d some fits) ∙ ap (λ τ. look τ x) (last_first (take (left - 1) rs) (get_or rs (left - 1) d) σ)

-- the last of a name is the first from the end
pub found_here : (rs : List Renaming) (left : ℕ) (d : Renaming) (σ : List Replacement) (x : Name) → 0 < left → left ≤ length rs → x.0 ≡ (get_or rs (left - 1) d).from.0
    → look (numbers_before (take left rs) σ) x ≡ var (get_or rs (left - 1) d).to
found_here rs left d σ x some fits e = looked rs left d σ x some fits ∙ (let t : (x.0 == (get_or rs (left - 1) d).from.0) ≡ true = grind (arith, nat_tests) in rw t refl)

pub found_below : (rs : List Renaming) (left : ℕ) (d : Renaming) (σ : List Replacement) (x : Name) → 0 < left → left ≤ length rs → x.0 ≢ (get_or rs (left - 1) d).from.0
    → look (numbers_before (take (left - 1) rs) σ) x ≡ look (numbers_before (take left rs) σ) x
found_below rs left d σ x some fits e = sym (looked rs left d σ x some fits ∙ (let t : (x.0 == (get_or rs (left - 1) d).from.0) ≡ false = grind (arith, nat_tests) in rw t refl))

pub above_next : (rs : List Renaming) (i : ℕ) (d : Renaming) → i < length rs
    → above_entries (numbers_before (take (i + 1) rs) []) ≡ max (suc (get_or rs i d).to.0) (above_entries (numbers_before (take i rs) []))
above_next rs i d l =
    let taken : take (i + 1) rs ≡ take i rs ++ get_or rs i d ∷ [] = ap (λ n. take n rs) (add-one i) ∙ take-suc rs i d l in
    ap (λ qs. above_entries (numbers_before qs [])) taken ∙ ap above_entries (last_first (take i rs) (get_or rs i d) [])

-- ---- bound names

among_last : (ys : List Name) (x z : Name) → is_one_of z (ys ++ x ∷ []) ≡ (z.0 == x.0 || is_one_of z ys)
among_last [] x z = refl
among_last (y ∷ ys) x z = ap (λ b. z.0 == y.0 || b) (among_last ys x z) ∙ turned (z.0 == y.0) (z.0 == x.0) (is_one_of z ys)
  where
    turned : (a b c : Bool) → (a || (b || c)) ≡ (b || (a || c))
    turned true true c = refl
    turned true false c = refl
    turned false b c = refl

abbrev SameAmong : List Name → List Name → Type 0
SameAmong ys zs = (x : Name) → is_one_of x ys ≡ is_one_of x zs

mutual
  same_above : (ys zs : List Name) (t : Term) → SameAmong ys zs → above_free ys t ≡ above_free zs t
  same_above ys zs (var x) h = ap (λ b. if b then 0 else suc x.0) (h x)
  same_above ys zs (lit z s) h = refl
  same_above ys zs (truth b) h = refl
  same_above ys zs (apply op ts) h = all_same_above ys zs ts h
  same_above ys zs (bind q x s t) h = same_above (x ∷ ys) (x ∷ zs) t (λ y. ap (λ b. y.0 == x.0 || b) (h y))

  all_same_above : (ys zs : List Name) (ts : Terms) → SameAmong ys zs → all_above_free ys ts ≡ all_above_free zs ts
  all_same_above ys zs no_terms h = refl
  all_same_above ys zs (and_term t ts) h = ap₂ max (same_above ys zs t h) (all_same_above ys zs ts h)

pub bound_last : (ys : List Name) (x : Name) (t : Term) → above_free (ys ++ x ∷ []) t ≡ above_free (x ∷ ys) t
bound_last ys x t = same_above (ys ++ x ∷ []) (x ∷ ys) t (among_last ys x)

name_more : (ys : List Name) (left : ℕ) (d : Name) → 0 < left → left ≤ length ys → take left ys ≡ take (left - 1) ys ++ get_or ys (left - 1) d ∷ []
name_more ys left d some fits = let n : suc (left - 1) ≡ left = omega arith in subst (λ m. take m ys ≡ take (left - 1) ys ++ get_or ys (left - 1) d ∷ []) n (take-suc ys (left - 1) d (omega arith))

tested : (ys : List Name) (left : ℕ) (d x : Name) → 0 < left → left ≤ length ys → is_one_of x (take left ys) ≡ (x.0 == (get_or ys (left - 1) d).0 || is_one_of x (take (left - 1) ys))
tested ys left d x some fits = ap (is_one_of x) (name_more ys left d some fits) ∙ among_last (take (left - 1) ys) (get_or ys (left - 1) d) x

pub is_here : (ys : List Name) (left : ℕ) (d x : Name) → 0 < left → left ≤ length ys → x.0 ≡ (get_or ys (left - 1) d).0 → is_one_of x (take left ys) ≡ true
is_here ys left d x some fits e = tested ys left d x some fits ∙ (let t : (x.0 == (get_or ys (left - 1) d).0) ≡ true = grind (arith, nat_tests) in rw t refl)

pub is_below : (ys : List Name) (left : ℕ) (d x : Name) → 0 < left → left ≤ length ys → x.0 ≢ (get_or ys (left - 1) d).0 → is_one_of x (take (left - 1) ys) ≡ is_one_of x (take left ys)
is_below ys left d x some fits e = sym (tested ys left d x some fits ∙ (let t : (x.0 == (get_or ys (left - 1) d).0) ≡ false = grind (arith, nat_tests) in rw t refl))
