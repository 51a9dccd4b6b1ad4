-- Terms that are placed twice. What is placed in a placed term is placed in the term, where each name stands for what stands for it,
-- placed; so the normal form of a term is that of each term that has the same reduct at each depth.
use Rattle.std.proofs.Common.{◌≡◌, ℕ, zero, suc, ◌≤◌, ◌<◌, ◌==◌, ◌||◌, ◌&&◌, not, max, Bool, true, false, cond, List, [], ◌∷◌, refl, sym, ◌∙◌, ap, ap₂, true≢false, arith, subst as along}
use Rattle.std.proofs.lemmas.Bool.Decides.{nat_tests}
use Rattle.text_core.specs.declared.name.Name.{Name}
use Rattle.logic_term.specs.Canonical.{is_one_of, above_free, all_above_free, canonical}
use Rattle.logic_term.specs.Free.{free, free_in_some}
use Rattle.logic_term.specs.Normal.{reduced}
use Rattle.logic_term.specs.Placed.{Placing, itself, put, name_at, placed, all_placed}
use Rattle.logic_term.specs.Simplified.{nth_term, simplified, formed}
use Rattle.logic_term.specs.Subst.{above, placing, replaced}
use Rattle.logic_term.specs.Term.{Operator, modeled, field, choice, made, Term, Terms, var, lit, truth, apply, bind, no_terms, and_term}
use Rattle.logic_term.specs.Ty.{int}
use Rattle.logic_term.proofs.CanonicalLaw.{free_below}
use Rattle.logic_term.proofs.Coincide.{free_above}
use Rattle.logic_term.proofs.FreeLaw.{or_cases, or_left, or_right, same_test, same_name}

-- ---- tests

itself_is : (k : ℕ) → (k == k) ≡ true
itself_is k = grind (arith, nat_tests)

less_is_other : (x n : ℕ) → x < n → (x == n) ≡ false
less_is_other x n l = grind (arith, nat_tests)

both_of : (b c : Bool) → (not b && c) ≡ true → (b ≡ false) × (c ≡ true)
both_of true c e = absurd (true≢false (sym e))
both_of false c e = (refl, e)

and_of : (b c : Bool) → b ≡ false → c ≡ true → (not b && c) ≡ true
and_of b c e f = rw (e, f) refl

neither_of : (a b : Bool) → (a || b) ≡ false → (a ≡ false) × (b ≡ false)
neither_of true b e = absurd (true≢false e)
neither_of false b e = (refl, e)

-- ---- what is placed depends on the free names alone

-- the placings are the same at each of these names
abbrev pub Agree : (Name → Bool) → Placing → Placing → Type 0
Agree f σ τ = (x : Name) → f x ≡ true → (k : ℕ) → σ x k ≡ τ x k

agree_at : (p q r : Term) (b c : Bool) → ((not b && c) ≡ true → q ≡ r) → c ≡ true → cond b p q ≡ cond b p r
agree_at p q r true c h e = refl
agree_at p q r false c h e = h e

agree_under : (t : Term) (y : Name) (p : ℕ → Term) (σ τ : Placing) → Agree (λ x. not (x.0 == y.0) && free x t) σ τ → Agree (λ x. free x t) (put y p σ) (put y p τ)
agree_under t y p σ τ h x e k = agree_at (p k) (σ x k) (τ x k) (x.0 == y.0) (free x t) (λ g. h x g k) e

mutual
  pub coincide : (r : Bool) (t : Term) (n : ℕ) (σ τ : Placing) → Agree (λ x. free x t) σ τ → placed r n σ t ≡ placed r n τ t
  coincide r (var x) n σ τ h = h x (itself_is x.0) n
  coincide r (lit z s) n σ τ h = refl
  coincide r (truth b) n σ τ h = refl
  coincide r (apply op ts) n σ τ h = ap (formed r op) (coincides r ts n σ τ h)
  coincide r (bind q x s t) n σ τ h =
      ap (bind q (record { 0 = n }) s) (coincide r t (suc n) (put x (name_at n) σ) (put x (name_at n) τ) (agree_under t x (name_at n) σ τ h))

  coincides : (r : Bool) (ts : Terms) (n : ℕ) (σ τ : Placing) → Agree (λ x. free_in_some x ts) σ τ → all_placed r n σ ts ≡ all_placed r n τ ts
  coincides r no_terms n σ τ h = refl
  coincides r (and_term t ts) n σ τ h = ap₂ and_term
      (coincide r t n σ τ (λ x e. h x (or_left (free x t) (free_in_some x ts) e)))
      (coincides r ts n σ τ (λ x e. h x (or_right (free x t) (free_in_some x ts) e)))

-- ---- free names of a placed term

in_nth : (ts : Terms) (n : ℕ) (y : Name) → free y (nth_term ts n) ≡ true → free_in_some y ts ≡ true
in_nth no_terms n y e = absurd (true≢false (sym e))
in_nth (and_term t ts) zero y e = or_left (free y t) (free_in_some y ts) e
in_nth (and_term t ts) (suc n) y e = or_right (free y t) (free_in_some y ts) (in_nth ts n y e)

in_simplified : (op : Operator) (ts : Terms) (y : Name) → free y (simplified op ts) ≡ true → free_in_some y ts ≡ true
in_simplified modeled (and_term (lit z (int k)) no_terms) y e = absurd (true≢false (sym e))
in_simplified (field n) (and_term (apply (made c) ts) no_terms) y e = or_left (free_in_some y ts) false (in_nth ts n y e)
in_simplified choice (and_term (truth true) (and_term a (and_term b no_terms))) y e = or_left (free y a) (free y b || false) e
in_simplified choice (and_term (truth false) (and_term a (and_term b no_terms))) y e = or_right (free y a) (free y b || false) (or_left (free y b) false e)
in_simplified op ts y e = e

in_formed : (r : Bool) (op : Operator) (ts : Terms) (y : Name) → free y (formed r op ts) ≡ true → free_in_some y ts ≡ true
in_formed true op ts y e = in_simplified op ts y e
in_formed false op ts y e = e

-- the name is free in what stands for one of these names
abbrev pub ComesOf : (Name → Bool) → Placing → Name → Type 0
ComesOf f σ y = (x : Name) × (k : ℕ) × (f x ≡ true) × (free y (σ x k) ≡ true)

out_at : (b c : Bool) (u : Term) (y : Name) (n : ℕ) → (y.0 == n) ≡ false → c ≡ true → free y (cond b (var (record { 0 = n })) u) ≡ true → ((not b && c) ≡ true) × (free y u ≡ true)
out_at true c u y n d e f = absurd (true≢false (sym f ∙ d))
out_at false c u y n d e f = (e, f)

comes_out : (t : Term) (x y : Name) (n : ℕ) (σ : Placing) → (y.0 == n) ≡ false → ComesOf (λ z. free z t) (put x (name_at n) σ) y → ComesOf (λ z. not (z.0 == x.0) && free z t) σ y
comes_out t x y n σ d (z, k, e, f) = let o = out_at (z.0 == x.0) (free z t) (σ z k) y n d e f in (z, k, o.0, o.1)

mutual
  pub free_placed : (r : Bool) (t : Term) (n : ℕ) (σ : Placing) (y : Name) → free y (placed r n σ t) ≡ true → ComesOf (λ x. free x t) σ y
  free_placed r (var x) n σ y e = (x, n, itself_is x.0, e)
  free_placed r (lit z s) n σ y e = absurd (true≢false (sym e))
  free_placed r (truth b) n σ y e = absurd (true≢false (sym e))
  free_placed r (apply op ts) n σ y e = frees_placed r ts n σ y (in_formed r op (all_placed r n σ ts) y e)
  free_placed r (bind q x s t) n σ y e =
      let b = both_of (y.0 == n) (free y (placed r (suc n) (put x (name_at n) σ) t)) e in
      comes_out t x y n σ b.0 (free_placed r t (suc n) (put x (name_at n) σ) y b.1)

  frees_placed : (r : Bool) (ts : Terms) (n : ℕ) (σ : Placing) (y : Name) → free_in_some y (all_placed r n σ ts) ≡ true → ComesOf (λ x. free_in_some x ts) σ y
  frees_placed r no_terms n σ y e = absurd (true≢false (sym e))
  frees_placed r (and_term t ts) n σ y e = or_cases (free y (placed r n σ t)) (free_in_some y (all_placed r n σ ts)) e
      (λ f. let c = free_placed r t n σ y f in (c.0, c.1, or_left (free c.0 t) (free_in_some c.0 ts) c.2, c.3))
      (λ f. let c = frees_placed r ts n σ y f in (c.0, c.1, or_right (free c.0 t) (free_in_some c.0 ts) c.2, c.3))

-- a name that no number of a bound name reaches stays free
mutual
  free_stays : (t : Term) (n : ℕ) (σ : Placing) (x y : Name) → y.0 < n → ((k : ℕ) → free y (σ x k) ≡ true) → free x t ≡ true → free y (placed false n σ t) ≡ true
  free_stays (var z) n σ x y l h e = along (λ w. free y (σ w n) ≡ true) (same_name x z (same_test x.0 z.0 e)) (h n)
  free_stays (lit z s) n σ x y l h e = absurd (true≢false (sym e))
  free_stays (truth b) n σ x y l h e = absurd (true≢false (sym e))
  free_stays (apply op ts) n σ x y l h e = frees_stay ts n σ x y l h e
  free_stays (bind q z s t) n σ x y l h e =
      let b = both_of (x.0 == z.0) (free x t) e in
      let below : y.0 < suc n = omega arith in
      and_of (y.0 == n) (free y (placed false (suc n) (put z (name_at n) σ) t)) (less_is_other y.0 n l)
      (free_stays t (suc n) (put z (name_at n) σ) x y below (λ k. ap (λ c. free y (cond c (name_at n k) (σ x k))) b.0 ∙ h k) b.1)

  frees_stay : (ts : Terms) (n : ℕ) (σ : Placing) (x y : Name) → y.0 < n → ((k : ℕ) → free y (σ x k) ≡ true) → free_in_some x ts ≡ true → free_in_some y (all_placed false n σ ts) ≡ true
  frees_stay no_terms n σ x y l h e = absurd (true≢false (sym e))
  frees_stay (and_term t ts) n σ x y l h e = or_cases (free x t) (free_in_some x ts) e
      (λ f. or_left (free y (placed false n σ t)) (free_in_some y (all_placed false n σ ts)) (free_stays t n σ x y l h f))
      (λ f. or_right (free y (placed false n σ t)) (free_in_some y (all_placed false n σ ts)) (frees_stay ts n σ x y l h f))

-- ---- the first number past the free names

least_at : (b : Bool) (x : Name) (n : ℕ) → (b ≡ false → x.0 < n) → cond b 0 (suc x.0) ≤ n
least_at true x n h = omega arith
least_at false x n h = let l : x.0 < n = h refl in omega arith

mutual
  above_free_least : (ys : List Name) (t : Term) (n : ℕ) → ((x : Name) → free x t ≡ true → is_one_of x ys ≡ false → x.0 < n) → above_free ys t ≤ n
  above_free_least ys (var x) n h = least_at (is_one_of x ys) x n (λ e. h x (itself_is x.0) e)
  above_free_least ys (lit z s) n h = omega arith
  above_free_least ys (truth b) n h = omega arith
  above_free_least ys (apply op ts) n h = all_above_free_least ys ts n h
  above_free_least ys (bind q y s t) n h = above_free_least (y ∷ ys) t n
      (λ x e out. let o = neither_of (x.0 == y.0) (is_one_of x ys) out in h x (and_of (x.0 == y.0) (free x t) o.0 e) o.1)

  all_above_free_least : (ys : List Name) (ts : Terms) (n : ℕ) → ((x : Name) → free_in_some x ts ≡ true → is_one_of x ys ≡ false → x.0 < n) → all_above_free ys ts ≤ n
  all_above_free_least ys no_terms n h = omega arith
  all_above_free_least ys (and_term t ts) n h =
      let one : above_free ys t ≤ n = above_free_least ys t n (λ x e. h x (or_left (free x t) (free_in_some x ts) e)) in
      let others : all_above_free ys ts ≤ n = all_above_free_least ys ts n (λ x e. h x (or_right (free x t) (free_in_some x ts) e)) in
      omega arith

-- ---- placed twice

-- what stands for each of these names inside has free names below k, and placed by ν it is what τ says
abbrev pub Denotes : Bool → (Name → Bool) → ℕ → Placing → Placing → Placing → Type 0
Denotes r f k ρ ν τ = (x : Name) → f x ≡ true → (d : ℕ) → ((y : Name) → free y (ρ x d) ≡ true → y.0 < k) × ((n : ℕ) → placed r n ν (ρ x d) ≡ τ x n)

put_same : (k : ℕ) (p : ℕ → Term) (ν : Placing) (n : ℕ) → put (record { 0 = k }) p ν (record { 0 = k }) n ≡ p n
put_same k p ν n = ap (λ b. cond b (p n) (ν (record { 0 = k }) n)) (itself_is k)

put_other : (k : ℕ) (p : ℕ → Term) (ν : Placing) (x : Name) (n : ℕ) → x.0 < k → put (record { 0 = k }) p ν x n ≡ ν x n
put_other k p ν x n l = ap (λ b. cond b (p n) (ν x n)) (less_is_other x.0 k l)

pub denotes_at : (r : Bool) (k : ℕ) (u : Term) (ν : Placing) (p q : ℕ → Term) (b c : Bool) → ((not b && c) ≡ true → ((y : Name) → free y u ≡ true → y.0 < k) × ((n : ℕ) → placed r n ν u ≡ q n)) → c ≡ true
    → ((y : Name) → free y (cond b (var (record { 0 = k })) u) ≡ true → y.0 < suc k) × ((n : ℕ) → placed r n (put (record { 0 = k }) p ν) (cond b (var (record { 0 = k })) u) ≡ cond b (p n) (q n))
denotes_at r k u ν p q true c h e = (λ y f. let same : y.0 ≡ k = same_test y.0 k f in omega arith, λ n. put_same k p ν n)
denotes_at r k u ν p q false c h e =
    let is = h e in
    (λ y f. let l : y.0 < k = is.0 y f in omega arith, λ n. coincide r u n (put (record { 0 = k }) p ν) ν (λ x f i. put_other k p ν x i (is.0 x f)) ∙ is.1 n)

pub denotes_under : (r : Bool) (t : Term) (k : ℕ) (ρ ν τ : Placing) (y : Name) (p : ℕ → Term) → Denotes r (λ x. not (x.0 == y.0) && free x t) k ρ ν τ
    → Denotes r (λ x. free x t) (suc k) (put y (name_at k) ρ) (put (record { 0 = k }) p ν) (put y p τ)
denotes_under r t k ρ ν τ y p h x e d = denotes_at r k (ρ x d) ν p (τ x) (x.0 == y.0) (free x t) (λ g. h x g d) e

-- outside it is reduced where R holds, inside where r does, and so it is reduced at once where Q does
module _ (R r Q : Bool) (Fine : Placing → Type 0) (under : (ν : Placing) (y : Name) (n : ℕ) → Fine ν → Fine (put y (name_at n) ν))
    (rows : (ν : Placing) (n : ℕ) (op : Operator) (ts : Terms) → Fine ν → placed R n ν (formed r op ts) ≡ formed Q op (all_placed R n ν ts)) where
  mutual
    placed_again : (t : Term) (k : ℕ) (ρ ν τ : Placing) (n : ℕ) → Fine ν → Denotes R (λ x. free x t) k ρ ν τ → placed R n ν (placed r k ρ t) ≡ placed Q n τ t
    placed_again (var x) k ρ ν τ n f h = (h x (itself_is x.0) k).1 n
    placed_again (lit z s) k ρ ν τ n f h = refl
    placed_again (truth b) k ρ ν τ n f h = refl
    placed_again (apply op ts) k ρ ν τ n f h = rows ν n op (all_placed r k ρ ts) f ∙ ap (formed Q op) (all_placed_again ts k ρ ν τ n f h)
    placed_again (bind q x s t) k ρ ν τ n f h =
        ap (bind q (record { 0 = n }) s)
        (placed_again t (suc k) (put x (name_at k) ρ) (put (record { 0 = k }) (name_at n) ν) (put x (name_at n) τ) (suc n) (under ν (record { 0 = k }) n f) (denotes_under R t k ρ ν τ x (name_at n) h))

    all_placed_again : (ts : Terms) (k : ℕ) (ρ ν τ : Placing) (n : ℕ) → Fine ν → Denotes R (λ x. free_in_some x ts) k ρ ν τ → all_placed R n ν (all_placed r k ρ ts) ≡ all_placed Q n τ ts
    all_placed_again no_terms k ρ ν τ n f h = refl
    all_placed_again (and_term t ts) k ρ ν τ n f h = ap₂ and_term
        (placed_again t k ρ ν τ n f (λ x e. h x (or_left (free x t) (free_in_some x ts) e)))
        (all_placed_again ts k ρ ν τ n f (λ x e. h x (or_right (free x t) (free_in_some x ts) e)))

-- ---- reduced outside

placed_nth : (r : Bool) (ν : Placing) (n : ℕ) (ts : Terms) (k : ℕ) → placed r n ν (nth_term ts k) ≡ nth_term (all_placed r n ν ts) k
placed_nth r ν n no_terms k = refl
placed_nth r ν n (and_term t ts) zero = refl
placed_nth r ν n (and_term t ts) (suc k) = placed_nth r ν n ts k

placed_simplified : (ν : Placing) (n : ℕ) (op : Operator) (ts : Terms) → placed true n ν (simplified op ts) ≡ simplified op (all_placed true n ν ts)
placed_simplified ν n modeled (and_term (lit z (int k)) no_terms) = refl
placed_simplified ν n (field k) (and_term (apply (made c) ts) no_terms) = placed_nth true ν n ts k
placed_simplified ν n choice (and_term (truth true) (and_term a (and_term b no_terms))) = refl
placed_simplified ν n choice (and_term (truth false) (and_term a (and_term b no_terms))) = refl
placed_simplified ν n op ts = refl

placed_formed : (r : Bool) (ν : Placing) (n : ℕ) (op : Operator) (ts : Terms) → Unit {0} → placed true n ν (formed r op ts) ≡ formed true op (all_placed true n ν ts)
placed_formed true ν n op ts u = placed_simplified ν n op ts
placed_formed false ν n op ts u = refl

pub placed_twice : (r : Bool) (t : Term) (k : ℕ) (ρ ν τ : Placing) (n : ℕ) → Denotes true (λ x. free x t) k ρ ν τ → placed true n ν (placed r k ρ t) ≡ placed true n τ t
placed_twice r t k ρ ν τ n h = placed_again true r true (λ σ. Unit {0}) (λ σ y m u. tt) (placed_formed r) t k ρ ν τ n tt h

put_at : (m : ℕ) (u : Term) (σ : Placing) (y : Name) (b : Bool) → y.0 < m → above u ≤ m
    → ((z : Name) → free z (cond b u (var y)) ≡ true → z.0 < m) × ((n : ℕ) → placed true n σ (cond b u (var y)) ≡ cond b (placed true n σ u) (σ y n))
put_at m u σ y true l h = (λ z e. let below : z.0 < above u = free_above z u e in omega arith, λ n. refl)
put_at m u σ y false l h = (λ z e. let same : z.0 ≡ y.0 = same_test z.0 y.0 e in omega arith, λ n. refl)

-- a term put for a name is placed as the name that stands for the placed term
pub put_counts : (x : Name) (u t : Term) (σ : Placing) (n : ℕ) → placed true n σ (replaced x u t) ≡ placed true n (put x (λ k. placed true k σ u) σ) t
put_counts x u t σ n = placed_twice false t (max (above t) (above u)) (placing (record { name = x; by = u } ∷ [])) σ (put x (λ k. placed true k σ u) σ) n
    (λ y e d. let l : y.0 < above t = free_above y t e in put_at (max (above t) (above u)) u σ y (y.0 == x.0) (omega arith) (omega arith))

-- ---- names alone put in

-- names stand for names
abbrev AreNames : Placing → Type 0
AreNames ν = (x : Name) (k : ℕ) → (y : Name) × (ν x k ≡ var y)

name_or : (b : Bool) (n : ℕ) (u : Term) → (y : Name) × (u ≡ var y) → (y : Name) × (cond b (var (record { 0 = n })) u ≡ var y)
name_or true n u h = (record { 0 = n }, refl)
name_or false n u h = h

names_under : (ν : Placing) (y : Name) (n : ℕ) → AreNames ν → AreNames (put y (name_at n) ν)
names_under ν y n f x k = name_or (x.0 == y.0) n (ν x k) (f x k)

model_of_name : (u : Term) (y : Name) (ts : Terms) → u ≡ var y → apply modeled (and_term u ts) ≡ simplified modeled (and_term u ts)
model_of_name u y ts e = along (λ w. apply modeled (and_term w ts) ≡ simplified modeled (and_term w ts)) (sym e) refl

part_of_name : (k : ℕ) (u : Term) (y : Name) (ts : Terms) → u ≡ var y → apply (field k) (and_term u ts) ≡ simplified (field k) (and_term u ts)
part_of_name k u y ts e = along (λ w. apply (field k) (and_term w ts) ≡ simplified (field k) (and_term w ts)) (sym e) refl

choice_by_name : (u : Term) (y : Name) (ts : Terms) → u ≡ var y → apply choice (and_term u ts) ≡ simplified choice (and_term u ts)
choice_by_name u y ts e = along (λ w. apply choice (and_term w ts) ≡ simplified choice (and_term w ts)) (sym e) refl

renamed_simplified : (ν : Placing) (n : ℕ) (op : Operator) (ts : Terms) → AreNames ν → placed false n ν (simplified op ts) ≡ simplified op (all_placed false n ν ts)
renamed_simplified ν n modeled (and_term (lit z (int k)) no_terms) f = refl
renamed_simplified ν n modeled (and_term (var x) ts) f = let is = f x n in model_of_name (ν x n) is.0 (all_placed false n ν ts) is.1
renamed_simplified ν n (field k) (and_term (apply (made c) ts) no_terms) f = placed_nth false ν n ts k
renamed_simplified ν n (field k) (and_term (var x) ts) f = let is = f x n in part_of_name k (ν x n) is.0 (all_placed false n ν ts) is.1
renamed_simplified ν n choice (and_term (truth true) (and_term a (and_term b no_terms))) f = refl
renamed_simplified ν n choice (and_term (truth false) (and_term a (and_term b no_terms))) f = refl
renamed_simplified ν n choice (and_term (var x) ts) f = let is = f x n in choice_by_name (ν x n) is.0 (all_placed false n ν ts) is.1
renamed_simplified ν n op ts f = refl

-- a reduct whose bound names are numbered again
pub renumbered : (t : Term) (n m : ℕ) → above_free [] t ≤ n → placed false m itself (placed true n itself t) ≡ placed true m itself t
renumbered t n m l = placed_again false true true AreNames names_under renamed_simplified t n itself itself itself m (λ x k. (x, refl))
    (λ x e d. (λ y g. let same : y.0 ≡ x.0 = same_test y.0 x.0 g in let below : x.0 < above_free [] t = free_below [] t x e refl in omega arith, λ k. refl))

-- ---- the normal form

-- each free name of the one is one of the other
not_above : (t u : Term) → ((x : Name) → free x t ≡ true → free x u ≡ true) → above_free [] t ≤ above_free [] u
not_above t u h = above_free_least [] t (above_free [] u) (λ x e out. free_below [] u x (h x e) refl)

same_name_free : (t : Term) (y : Name) → ComesOf (λ x. free x t) itself y → free y t ≡ true
same_name_free t y (x, k, e, f) = along (λ z. free z t ≡ true) (sym (same_name y x (same_test y.0 x.0 f))) e

first_number : (t : Term) (m : ℕ) → above_free [] t ≤ m → above_free [] (placed false m itself t) ≡ above_free [] t
first_number t m l =
    let down : above_free [] (placed false m itself t) ≤ above_free [] t = not_above (placed false m itself t) t (λ x e. same_name_free t x (free_placed false t m itself x e)) in
    let up : above_free [] t ≤ above_free [] (placed false m itself t) =
    not_above t (placed false m itself t) (λ x e. let below : x.0 < above_free [] t = free_below [] t x e refl in free_stays t m itself x x (omega arith) (λ k. itself_is x.0) e) in
    omega arith

number_of_reduct : (t : Term) (n m : ℕ) → above_free [] t ≤ n → above_free [] t ≤ m → above_free [] (placed true n itself t) ≡ above_free [] (placed true m itself t)
number_of_reduct t n m l h =
    let within : above_free [] (placed true n itself t) ≤ above_free [] t = not_above (placed true n itself t) t (λ x e. same_name_free t x (free_placed true t n itself x e)) in
    sym (first_number (placed true n itself t) m (omega arith)) ∙ ap (above_free []) (renumbered t n m l)

-- the canonical form of a reduct does not depend on its first number
reduct_canonical : (t : Term) (n : ℕ) → above_free [] t ≤ n → canonical (placed true n itself t) ≡ placed true (above_free [] (placed true n itself t)) itself t
unfolding canonical
reduct_canonical t n l = renumbered t n (above_free [] (placed true n itself t)) l

pub reduced_at : (t : Term) (n : ℕ) → above_free [] t ≤ n → reduced t ≡ canonical (placed true n itself t)
unfolding reduced
reduced_at t n l =
    reduct_canonical t (above_free [] t) (omega arith)
    ∙ ap (λ k. placed true k itself t) (number_of_reduct t (above_free [] t) n (omega arith) l)
    ∙ sym (reduct_canonical t n l)

-- terms with the same reduct at each depth have one normal form
pub same_reducts : (t u : Term) → ((n : ℕ) → placed true n itself t ≡ placed true n itself u) → reduced t ≡ reduced u
same_reducts t u h =
    let n : ℕ = max (above_free [] t) (above_free [] u) in
    reduced_at t n (omega arith) ∙ ap canonical (h n) ∙ sym (reduced_at u n (omega arith))

-- ---- terms without free names

at_zero : (t : Term) → above_free [] t ≡ 0 → above_free [] (placed true 0 itself t) ≡ 0
at_zero t none =
    let within : above_free [] (placed true 0 itself t) ≤ above_free [] t = not_above (placed true 0 itself t) t (λ x e. same_name_free t x (free_placed true t 0 itself x e)) in
    omega arith

pub reduced_closed : (t : Term) → above_free [] t ≡ 0 → reduced t ≡ placed true 0 itself t
reduced_closed t none = reduced_at t 0 (omega arith) ∙ reduct_canonical t 0 (omega arith) ∙ ap (λ k. placed true k itself t) (at_zero t none)

pub closed_above : (t : Term) → above_free [] t ≡ 0 → above_free [] (reduced t) ≡ 0
closed_above t none = ap (above_free []) (reduced_closed t none) ∙ at_zero t none
