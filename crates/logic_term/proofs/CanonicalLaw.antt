-- A term in canonical form, and in normal form, has the values of the term.
use Rattle.std.proofs.Common.{◌≡◌, suc, ◌<◌, ◌==◌, ◌||◌, ◌&&◌, not, Bool, true, false, cond, List, [], ◌∷◌, refl, sym, ap, ◌∙◌, arith, true≢false}
use Rattle.std.specs.Prelude.{Result, Ok, Err, IfOk}
use Rattle.std.proofs.Common.{subst as subst_path}
use Rattle.text_core.specs.declared.name.Name.{Name}
use Rattle.logic_term.specs.Term.{Term, Terms, var, lit, truth, apply, bind, no_terms, and_term}
use Rattle.logic_term.specs.Meaning.{Structure, Env, Means}
use Rattle.logic_term.specs.Free.{free, free_in_some}
use Rattle.logic_term.specs.Laws.{HasValuesOf}
use Rattle.logic_term.specs.Normal.{reduced}
use Rattle.logic_term.specs.Placed.{itself, placed}
use Rattle.logic_term.specs.Canonical.{is_one_of, above_free, all_above_free, canonical, SameUpToNames}
use Rattle.logic_term.proofs.Alike.{Alike, alike_back, alike_then}
use Rattle.logic_term.proofs.FreeLaw.{or_cases, same_test, same_name}
use Rattle.logic_term.proofs.PlacedLaw.{itself_means}

-- ---- free names are below the first number

both_true : (b c : Bool) → (not b && c) ≡ true → (b ≡ false) × (c ≡ true)
both_true true c e = absurd (true≢false (sym e))
both_true false c e = (refl, e)

neither : (a b : Bool) → a ≡ false → b ≡ false → (a || b) ≡ false
neither true b e f = e
neither false b e f = f

self_below : (x : Name) (b : Bool) → b ≡ false → x.0 < cond b 0 (suc x.0)
self_below x true e = absurd (true≢false e)
self_below x false e = omega arith

mutual
  pub free_below : (ys : List Name) (t : Term) (x : Name) → free x t ≡ true → is_one_of x ys ≡ false → x.0 < above_free ys t
  free_below ys (var y) x e out =
      let same : x.0 ≡ y.0 = same_test x.0 y.0 e in
      let out_y : is_one_of y ys ≡ false = ap (λ z. is_one_of z ys) (sym (same_name x y same)) ∙ out in
      let below : y.0 < above_free ys (var y) = self_below y (is_one_of y ys) out_y in
      omega arith
  free_below ys (lit z s) x e out = absurd (true≢false (sym e))
  free_below ys (truth b) x e out = absurd (true≢false (sym e))
  free_below ys (apply op ts) x e out = free_below_all ys ts x e out
  free_below ys (bind q y s t) x e out =
      let p = both_true (x.0 == y.0) (free x t) e in
      free_below (y ∷ ys) t x p.1 (neither (x.0 == y.0) (is_one_of x ys) p.0 out)

  free_below_all : (ys : List Name) (ts : Terms) (x : Name) → free_in_some x ts ≡ true → is_one_of x ys ≡ false → x.0 < all_above_free ys ts
  free_below_all ys no_terms x e out = absurd (true≢false (sym e))
  free_below_all ys (and_term t ts) x e out =
      or_cases (free x t) (free_in_some x ts) e
      (λ f. let here : x.0 < above_free ys t = free_below ys t x f out in omega arith)
      (λ f. let later : x.0 < all_above_free ys ts = free_below_all ys ts x f out in omega arith)

pub canonical_means : (S : Structure) (t : Term) (ρ : Env) → Alike (Means S (canonical t) ρ) (Means S t ρ)
unfolding canonical
canonical_means S t ρ = itself_means S false t (above_free [] t) ρ (λ x e. free_below [] t x e refl)

-- terms that are equal up to the names that they bind have the same values
pub same_up_to_names_means : (S : Structure) (t u : Term) (ρ : Env) → SameUpToNames t u → Alike (Means S t ρ) (Means S u ρ)
same_up_to_names_means S t u ρ same =
    alike_then _ _ _ (alike_back _ _ (canonical_means S t ρ)) (subst_path (λ s. Alike (Means S s ρ) (Means S u ρ)) (sym same) (canonical_means S u ρ))

-- ---- the normal form

pub reduced_means : (S : Structure) (t : Term) (ρ : Env) → Alike (Means S (reduced t) ρ) (Means S t ρ)
unfolding reduced
reduced_means S t ρ =
    alike_then _ _ _ (canonical_means S (placed true (above_free [] t) itself t) ρ) (itself_means S true t (above_free [] t) ρ (λ x e. free_below [] t x e refl))

-- what is the normal form of a term has its values
pub normal_form_has_values : (r t : Term) → r ≡ reduced t → HasValuesOf r t
normal_form_has_values r t is = subst_path (λ u. HasValuesOf u t) (sym is) (λ S ρ. reduced_means S t ρ)

pub if_normal_form : {E : Type 0} (r : Result Term E) (t : Term) → IfOk r (λ u. u ≡ reduced t) → IfOk r (λ u. HasValuesOf u t)
if_normal_form (Ok u) t is = normal_form_has_values u t is
if_normal_form (Err e) t is = is
