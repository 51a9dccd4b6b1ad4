-- What is free after a substitution, and in the invariants of heads.
use Rattle.std.proofs.Common.{◌≡◌, refl, ap, sym, ◌∙◌, subst as carry, ℕ, zero, suc, ◌+◌, ◌<◌, ◌==◌, ◌||◌, ◌&&◌, not, Bool, true, false, cond, List, [], ◌∷◌, map, length, Option, Some, None, slice_get, arith, true≢false}
use Rattle.std.proofs.lemmas.Bool.{eqb-true, eq-eqb}
use Rattle.text_core.specs.declared.name.Name.{Name}
use Rattle.logic_term.specs.declared.subst.Replacement.{Replacement}
use Rattle.logic_term.specs.Free.{free, free_in_some}
use Rattle.logic_term.specs.Subst.{look, subst, substs}
use Rattle.logic_term.specs.Term.{Term, Terms, var, lit, truth, apply, bind, no_terms, and_term}
use Rattle.logic_term.proofs.FreeLaw.{same_name}
use Rattle.mir_ir.specs.declared.body.Head.{Head}
use Rattle.mir_ir.specs.declared.place.Place.{Place}
use Rattle.mir_ir.specs.WellFormed.{Locals}
use Rattle.type_check.specs.declared.assertion.Assertion.{Assertion}
use Rattle.type_check.specs.VariableNames.{variable_name}
use Rattle.type_check.specs.WellTyped.{SpeaksOf, EachSpeaks}
use Rattle.mir_build.specs.Lowering.{Around, Formula, accepted, local_name, formula_span, held, places_for, invariant_of, head_of}
use Rattle.mir_build.proofs.LawLists.{Has, has_get}

-- ---- substitution

-- a name that is free after the substitution is free in what stands for a free name
pub record Comes (x : Name) (σ : List Replacement) (p : Name → Bool) : Type 0 where
  pub name : Name
  pub is_free : p name ≡ true
  pub in_term : free x (look σ name) ≡ true

split_or : (a b : Bool) → (a || b) ≡ true → (a ≡ true → ⊥) → b ≡ true
split_or true b e n = absurd (n refl)
split_or false b e n = e

-- under a binder
under : (x z : Name) (n : ℕ) (σ : List Replacement) (t : Term) → (x.0 == n) ≡ false → Comes x (record { name = z; by = var (record { 0 = n }) } ∷ σ) (λ y. free y t) → Comes x σ (λ y. not (y.0 == z.0) && free y t)
under x z n σ t other w = by_test (w.name.0 == z.0) refl w.in_term
  where
    by_test : (c : Bool) → (w.name.0 == z.0) ≡ c → free x (cond c (var (record { 0 = n })) (look σ w.name)) ≡ true → Comes x σ (λ y. not (y.0 == z.0) && free y t)
    by_test true e q = absurd (true≢false (sym q ∙ other))
    by_test false e q = record { name = w.name; is_free = ap (λ c. not c && free w.name t) e ∙ w.is_free; in_term = q }

mutual
  pub comes : (x : Name) (n : ℕ) (σ : List Replacement) (t : Term) → free x (subst n σ t) ≡ true → Comes x σ (λ y. free y t)
  comes x n σ (var y) e = record { name = y; is_free = eq-eqb y.0 y.0 refl; in_term = e }
  comes x n σ (lit z s) e = absurd (true≢false (sym e))
  comes x n σ (truth b) e = absurd (true≢false (sym e))
  comes x n σ (apply op ts) e = comes_some x n σ ts e
  comes x n σ (bind q z s t) e = by_test (x.0 == n) refl e (comes x (suc n) (record { name = z; by = var (record { 0 = n }) } ∷ σ) t)
    where
      by_test : (c : Bool) → (x.0 == n) ≡ c → (not c && free x (subst (suc n) (record { name = z; by = var (record { 0 = n }) } ∷ σ) t)) ≡ true
          → (free x (subst (suc n) (record { name = z; by = var (record { 0 = n }) } ∷ σ) t) ≡ true → Comes x (record { name = z; by = var (record { 0 = n }) } ∷ σ) (λ y. free y t))
          → Comes x σ (λ y. free y (bind q z s t))
      by_test true c g rec = absurd (true≢false (sym g))
      by_test false c g rec = under x z n σ t c (rec g)

  comes_some : (x : Name) (n : ℕ) (σ : List Replacement) (ts : Terms) → free_in_some x (substs n σ ts) ≡ true → Comes x σ (λ y. free_in_some y ts)
  comes_some x n σ no_terms e = absurd (true≢false (sym e))
  comes_some x n σ (and_term t ts) e = by_test (free x (subst n σ t)) refl e (comes x n σ t) (comes_some x n σ ts)
    where
      by_test : (c : Bool) → free x (subst n σ t) ≡ c → (c || free_in_some x (substs n σ ts)) ≡ true → (free x (subst n σ t) ≡ true → Comes x σ (λ y. free y t))
          → (free_in_some x (substs n σ ts) ≡ true → Comes x σ (λ y. free_in_some y ts)) → Comes x σ (λ y. free_in_some y (and_term t ts))
      by_test true c g rec recs = let w = rec c in record { name = w.name; is_free = ap (λ b. b || free_in_some w.name ts) w.is_free; in_term = w.in_term }
      by_test false c g rec recs = let w = recs g in record { name = w.name; is_free = or_true (free w.name t) w.is_free; in_term = w.in_term }
        where
          or_true : {d : Bool} (c : Bool) → d ≡ true → (c || d) ≡ true
          or_true true e = refl
          or_true false e = e

-- ---- places for variables

variable_number : (j i : ℕ) → (variable_name j).0 ≡ (variable_name i).0 → j ≡ i
unfolding variable_name
variable_number j i e = omega (arith, e)

-- what stands for a variable in scope is what its place holds
pub look_place : (j : ℕ) (scope : List Place) (i k : ℕ) → i < length scope → k ≡ j + i → (x : Place) × (slice_get scope i ≡ Some x) × (look (places_for j scope) (variable_name k) ≡ held x)
look_place j [] i k h e = absurd (omega arith)
look_place j (x ∷ xs) zero k h e =
    let q : k ≡ j = omega arith in
    (x, refl, ap (λ c. cond c (held x) (look (places_for (j + 1) xs) (variable_name k))) (eq-eqb (variable_name k).0 (variable_name j).0 (ap (λ n. (variable_name n).0) q)))
look_place j (x ∷ xs) (suc i) k h e =
    let w = look_place (j + 1) xs i k (omega arith) (omega arith) in
    (w.0, w.1, by_test ((variable_name k).0 == (variable_name j).0) refl ∙ w.2)
  where
    by_test : (c : Bool) → ((variable_name k).0 == (variable_name j).0) ≡ c → cond c (held x) (look (places_for (j + 1) xs) (variable_name k)) ≡ look (places_for (j + 1) xs) (variable_name k)
    by_test true q = let r : k ≡ j = variable_number k j (eqb-true (variable_name k).0 (variable_name j).0 q) in absurd (omega arith)
    by_test false q = refl

-- ---- heads

-- the set has each of these locals
abbrev pub HoldsAll : Locals → List ℕ → Type 0
HoldsAll set xs = (x : ℕ) → Has x xs → set x ≡ true

-- and the local of each of these places
abbrev pub HoldsPlaces : Locals → List Place → Type 0
HoldsPlaces set ps = (p : Place) → Has p ps → set p.local ≡ true

-- the name of a local of the set
abbrev pub IsLocalIn : Locals → Name → Type 0
IsLocalIn set x = (y : ℕ) × (set y ≡ true) × (x ≡ local_name y)

abbrev pub EachFree : Locals → List Term → Type 0
EachFree set [] = Unit {0}
EachFree set (t ∷ ts) = ((x : Name) → free x t ≡ true → IsLocalIn set x) × EachFree set ts

-- the invariants speak of locals of the set, and each has a span
abbrev pub HeadFits : Locals → Option Head → Type 0
HeadFits set None = Unit {0}
HeadFits set (Some h) = EachFree set h.invariants × (length h.spans ≡ length h.invariants)

free_at_places : (set : Locals) (scope : List Place) (a : Formula) → HoldsPlaces set scope → SpeaksOf (length scope) (accepted a) → (x : Name) → free x (invariant_of scope a) ≡ true → IsLocalIn set x
free_at_places set scope a holds h x f =
    let w = comes x _ (places_for 0 scope) a.term f in
    let v = h w.name w.is_free in
    let l = look_place 0 scope v.0 v.0 v.1 (omega arith) in
    let is : free x (held l.0) ≡ true = carry (λ u. free x u ≡ true) (ap (look (places_for 0 scope)) v.2 ∙ l.2) w.in_term in
    (l.0.local, holds l.0 (has_get scope v.0 l.0 l.1), same_name x (local_name l.0.local) (eqb-true x.0 (local_name l.0.local).0 is))

pub each_free : (set : Locals) (scope : List Place) (fs : List Formula) → HoldsPlaces set scope → EachSpeaks (length scope) (map accepted fs) → EachFree set (map (invariant_of scope) fs)
each_free set scope [] holds h = tt
each_free set scope (a ∷ fs) holds h = (free_at_places set scope a holds h.0, each_free set scope fs holds h.1)

lengths : (scope : List Place) (fs : List Formula) → length (map formula_span fs) ≡ length (map (invariant_of scope) fs)
lengths scope [] = refl
lengths scope (a ∷ fs) = ap suc (lengths scope fs)

pub head_fits : (set : Locals) (c : Around) (n : ℕ) (is : List Assertion) (fs : List Formula) → is ≡ map accepted fs → n ≡ length c.scope → HoldsPlaces set c.scope → EachSpeaks n is → HeadFits set (Some (head_of c fs))
head_fits set c n is fs q e holds h =
    let speaks : EachSpeaks (length c.scope) (map accepted fs) = carry (λ xs. EachSpeaks (length c.scope) xs) q (carry (λ m. EachSpeaks m is) e h) in
    (each_free set c.scope fs holds speaks, lengths c.scope fs)
