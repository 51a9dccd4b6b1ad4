-- A term in which subterms are exchanged for others of their values has its values, at environments that the names that it binds leave so.
use Rattle.std.proofs.Common.{◌≡◌, ℕ, zero, suc, ◌<◌, ◌≤◌, ◌==◌, Bool, true, false, cond, [], Option, Some, None, refl, ap, arith}
use Rattle.text_core.specs.declared.name.Name.{Name}
use Rattle.logic_term.specs.Canonical.{above_free}
use Rattle.logic_term.specs.Meaning.{Decided, Structure, Env, with_value, calls, Means, Argument, Holds}
use Rattle.logic_term.specs.Placed.{Placing, itself, put, name_at, placed, all_placed}
use Rattle.logic_term.specs.Subst.{subst as numbered}
use Rattle.logic_term.specs.Term.{Operator, choice, Term, Terms, var, lit, truth, apply, bind, no_terms, and_term, count}
use Rattle.logic_term.specs.Value.{Value}
use Rattle.logic_term.proofs.Alike.{Alike, alike_same, alike_back, alike_then, applied_alike_at, quantified_alike}
use Rattle.logic_term.proofs.CanonicalLaw.{free_below, reduced_means}
use Rattle.logic_term.proofs.Coincide.{agree_new}
use Rattle.logic_term.proofs.FreeLaw.{coincide_free}
use Rattle.logic_term.proofs.PlacedLaw.{itself_means}
use Rattle.logic_term.proofs.Truth.{choice_true, choice_false}
use Rattle.proof_kernel.specs.Exchanged.{Exchange, Instead, put as other, side, side_of, or_else, exchanged, all_exchanged, changed_from}

-- ---- bound names from a number on

abbrev mutual
  pub BindsFrom : ℕ → Term → Type 0
  BindsFrom n (var x) = Unit {0}
  BindsFrom n (lit z s) = Unit {0}
  BindsFrom n (truth b) = Unit {0}
  BindsFrom n (apply op ts) = AllBindFrom n ts
  BindsFrom n (bind q x s t) = (n ≤ x.0) × BindsFrom n t

  pub AllBindFrom : ℕ → Terms → Type 0
  AllBindFrom n no_terms = Unit {0}
  AllBindFrom n (and_term t ts) = BindsFrom n t × AllBindFrom n ts

-- what stands for names binds so
abbrev PutsFrom : ℕ → Placing → Type 0
PutsFrom m σ = (x : Name) (k : ℕ) → BindsFrom m (σ x k)

puts_more : (m n : ℕ) (x : Name) (σ : Placing) → PutsFrom m σ → PutsFrom m (put x (name_at n) σ)
puts_more m n x σ h y k = at (y.0 == x.0)
  where
    at : (b : Bool) → BindsFrom m (cond b (name_at n k) (σ y k))
    at true = tt
    at false = h y k

mutual
  pub placed_binds : (t : Term) (m n : ℕ) (σ : Placing) → m ≤ n → PutsFrom m σ → BindsFrom m (placed false n σ t)
  placed_binds (var x) m n σ l h = h x n
  placed_binds (lit z s) m n σ l h = tt
  placed_binds (truth b) m n σ l h = tt
  placed_binds (apply op ts) m n σ l h = all_placed_bind ts m n σ l h
  placed_binds (bind q x s t) m n σ l h = (l, placed_binds t m (suc n) (put x (name_at n) σ) (omega (arith, l)) (puts_more m n x σ h))

  all_placed_bind : (ts : Terms) (m n : ℕ) (σ : Placing) → m ≤ n → PutsFrom m σ → AllBindFrom m (all_placed false n σ ts)
  all_placed_bind no_terms m n σ l h = tt
  all_placed_bind (and_term t ts) m n σ l h = (placed_binds t m n σ l h, all_placed_bind ts m n σ l h)

-- ---- the values

-- the names that are numbered from n on have no say in the values of a term whose free names are below n
pub unused : (S : Structure) (u : Term) (n : ℕ) (ρ : Env) (x : Name) (w : Value) → above_free [] u ≤ n → n ≤ x.0 → Alike (Means S u ρ) (Means S u (with_value ρ x w))
unused S u n ρ x w l m = coincide_free S u ρ (with_value ρ x w) (λ y e. let f : y.0 < above_free [] u = free_below [] u y e refl in agree_new n ρ x w m y (omega (arith, f, l)))

pub numbered_alike : (S : Structure) (t : Term) (n : ℕ) (ρ : Env) → above_free [] t ≤ n → Alike (Means S (numbered n [] t) ρ) (Means S t ρ)
numbered_alike S t n ρ m = itself_means S false t n ρ (λ x f. let l : x.0 < above_free [] t = free_below [] t x f refl in omega (arith, l, m))

-- what takes the term's place has its values
abbrev pub Fits : Structure → Instead → Term → Env → Type 0
Fits S (other u) t ρ = Alike (Means S t ρ) (Means S u ρ)
Fits S (side first) (apply choice (and_term c (and_term a (and_term b no_terms)))) ρ = Decided first (Holds S c ρ)
Fits S (side first) t ρ = Unit {0}

-- E: the environments at which what is exchanged at a depth from n on has the values of what takes its place; no name from n on has a say in it
module _ (S : Structure) (h : Exchange) (n : ℕ) (E : Env → Type 0)
    (right : (ρ : Env) → E ρ → (k : ℕ) → n ≤ k → (t : Term) (i : Instead) → h k t ≡ Some i → Fits S i t ρ)
    (closed : (ρ : Env) (x : Name) (w : Value) → E ρ → n ≤ x.0 → E (with_value ρ x w)) where
  chosen : (k : ℕ) → n ≤ k → (t u : Term) (ρ : Env) → E ρ → Alike (Means S t ρ) (Means S u ρ) → ((first : Bool) → Fits S (side first) t ρ → Alike (Means S t ρ) (Means S (side_of first u) ρ))
      → Alike (Means S t ρ) (Means S (or_else (h k t) u) ρ)
  chosen k l t u ρ e m sides = at (h k t) refl
    where
      at : (o : Option Instead) → h k t ≡ o → Alike (Means S t ρ) (Means S (or_else o u) ρ)
      at None q = m
      at (Some (other w)) q = right ρ e k l t (other w) q
      at (Some (side first)) q = sides first (right ρ e k l t (side first) q)

  side_alike : (op : Operator) (ts : Terms) (k : ℕ) (ρ : Env) (first : Bool) → Fits S (side first) (apply op ts) ρ → ((j : ℕ) → Alike (Argument S ts ρ j) (Argument S (all_exchanged h k ts) ρ j))
      → Alike (Means S (apply op ts) ρ) (Means S (apply op (all_exchanged h k ts)) ρ) → Alike (Means S (apply op ts) ρ) (Means S (side_of first (apply op (all_exchanged h k ts))) ρ)
  side_alike choice (and_term c (and_term a (and_term b no_terms))) k ρ true fits parts whole = alike_then _ _ _ (choice_true S c a b ρ fits) (parts 1)
  side_alike choice (and_term c (and_term a (and_term b no_terms))) k ρ false fits parts whole = alike_then _ _ _ (choice_false S c a b ρ fits) (parts 2)
  side_alike op ts k ρ first fits parts whole = whole

  count_exchanged : (k : ℕ) (ts : Terms) → count ts ≡ count (all_exchanged h k ts)
  count_exchanged k no_terms = refl
  count_exchanged k (and_term t ts) = ap suc (count_exchanged k ts)

  mutual
    pub exchanged_means : (t : Term) (k : ℕ) (ρ : Env) → n ≤ k → E ρ → BindsFrom n t → Alike (Means S t ρ) (Means S (exchanged h k t) ρ)
    exchanged_means (var x) k ρ l e b = chosen k l (var x) (var x) ρ e (alike_same _) (λ first f. alike_same _)
    exchanged_means (lit z s) k ρ l e b = chosen k l (lit z s) (lit z s) ρ e (alike_same _) (λ first f. alike_same _)
    exchanged_means (truth c) k ρ l e b = chosen k l (truth c) (truth c) ρ e (alike_same _) (λ first f. alike_same _)
    exchanged_means (apply op ts) k ρ l e b =
        let parts : (j : ℕ) → Alike (Argument S ts ρ j) (Argument S (all_exchanged h k ts) ρ j) = λ j. all_exchanged_mean ts k ρ l e b j in
        let whole : Alike (Means S (apply op ts) ρ) (Means S (apply op (all_exchanged h k ts)) ρ) = applied_alike_at (calls S.theory) S.types op _ _ _ _ (count_exchanged k ts) parts in
        chosen k l (apply op ts) (apply op (all_exchanged h k ts)) ρ e whole (λ first f. side_alike op ts k ρ first f parts whole)
    exchanged_means (bind q x s t) k ρ l e b =
        let whole : Alike (Means S (bind q x s t) ρ) (Means S (bind q x s (exchanged h (suc k) t)) ρ) =
        quantified_alike q _ _ _ (λ w. exchanged_means t (suc k) (with_value ρ x w) (omega (arith, l)) (closed ρ x w e b.0) b.1) in
        chosen k l (bind q x s t) (bind q x s (exchanged h (suc k) t)) ρ e whole (λ first f. whole)

    all_exchanged_mean : (ts : Terms) (k : ℕ) (ρ : Env) → n ≤ k → E ρ → AllBindFrom n ts → (j : ℕ) → Alike (Argument S ts ρ j) (Argument S (all_exchanged h k ts) ρ j)
    all_exchanged_mean no_terms k ρ l e b j = alike_same _
    all_exchanged_mean (and_term t ts) k ρ l e b zero = exchanged_means t k ρ l e b.0
    all_exchanged_mean (and_term t ts) k ρ l e b (suc j) = all_exchanged_mean ts k ρ l e b.1 j

  -- so has its normal form, where its bound names are numbered first
  pub changed_means : (t : Term) (ρ : Env) → above_free [] t ≤ n → E ρ → Alike (Means S t ρ) (Means S (changed_from h n t) ρ)
  changed_means t ρ below e =
      let own : Alike (Means S (numbered n [] t) ρ) (Means S t ρ) = numbered_alike S t n ρ below in
      let binds : BindsFrom n (numbered n [] t) = placed_binds t n n itself (omega arith) (λ x k. tt) in
      let whole : Alike (Means S t ρ) (Means S (exchanged h n (numbered n [] t)) ρ) = alike_then _ _ _ (alike_back _ _ own) (exchanged_means (numbered n [] t) n ρ (omega arith) e binds) in
      alike_then _ _ _ whole (alike_back _ _ (reduced_means S (exchanged h n (numbered n [] t)) ρ))
