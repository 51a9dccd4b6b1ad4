-- Equal unbounded integers of one machine type are of equal machine integers.
use Rattle.std.proofs.Common.{◌≡◌, Bool, true, false, List, Option, Some, None, refl, sym, ◌∙◌, ap, subst}
use Rattle.std.specs.Prelude.{ℤ}
use Rattle.text_core.specs.declared.name.Name.{Name}
use Rattle.logic_term.specs.Meaning.{Structure, Env, Means, Holds}
use Rattle.logic_term.specs.Sort.{HasSort, instance}
use Rattle.logic_term.specs.Term.{modeled, equal, Term, var, lit, apply, no_terms, and_term, model, is_equal}
use Rattle.logic_term.specs.Theory.{declared}
use Rattle.logic_term.specs.Ty.{Ty, int}
use Rattle.logic_term.specs.Value.{Value, Number, integer_of}
use Rattle.logic_term.proofs.Alike.{sure_map}
use Rattle.logic_term.proofs.SortLaw.{int_value}
use Rattle.logic_term.proofs.Truth.{holds_equal}
use Rattle.proof_kernel.specs.BackRule.{if_machine, machine_sort, is_one_sort, modeled_by, equated, back_of}
use Rattle.proof_kernel.specs.Rules.{sort_of}
use Rattle.proof_kernel.specs.Sequent.{InSorts}
use Rattle.proof_kernel.proofs.FormsFound.{same_some, picked}
use Rattle.proof_kernel.proofs.Sound.{sorted}

module _ (S : Structure) (vars : List (Name × Ty)) (ρ : Env) (z : InSorts S vars ρ) where
  abbrev IsNumber : Value → Type 0
  IsNumber v = (n : ℤ) × (v ≡ Number n)

  variable_value : (x : Name) (o : Option Ty) (s : Ty) → sort_of x vars ≡ o → if_machine o ≡ Some s → IsNumber (ρ x)
  variable_value x (Some (int k)) s e f = let v = int_value (declared S.theory) (ρ x) (int k) k (sorted S x vars (int k) ρ e z) refl in (v.0, v.1)
  variable_value x o s e f = absurd (cc)

  machine_value : (t : Term) (s : Ty) → machine_sort vars t ≡ Some s → (v : Value) → Means S t ρ v → IsNumber v
  machine_value (var x) s e v m = let p = variable_value x (sort_of x vars) s refl e in (p.0, m ∙ p.1)
  machine_value (lit n r) s e v m = (n, m)
  machine_value t s e v m = absurd (cc)

  machine_there : (o p : Option Ty) → is_one_sort o p ≡ true → ((s : Ty) × (o ≡ Some s)) × ((s : Ty) × (p ≡ Some s))
  machine_there (Some s) (Some t) e = ((s, refl), (t, refl))
  machine_there o p e = absurd (cc)

  equal_back : (a b : Term) → is_one_sort (machine_sort vars a) (machine_sort vars b) ≡ true → Holds S (is_equal (model a) (model b)) ρ → Holds S (is_equal a b) ρ
  equal_back a b e h =
      let there = machine_there (machine_sort vars a) (machine_sort vars b) e in
      (holds_equal S a b ρ).1 (λ x y p r.
      let left = machine_value a there.0.0 there.0.1 x p in
      let right = machine_value b there.1.0 there.1.1 y r in
      sure_map _ _ (λ (same : Number (integer_of x) ≡ Number (integer_of y)).
      left.1 ∙ ap Number (sym (ap integer_of left.1) ∙ ap integer_of same ∙ ap integer_of right.1) ∙ sym right.1)
      ((holds_equal S (model a) (model b) ρ).0 h (Number (integer_of x)) (Number (integer_of y)) (x, p, refl) (y, r, refl)))

  model_of : (t a : Term) → modeled_by t ≡ Some a → t ≡ model a
  model_of (apply modeled (and_term a no_terms)) b e = ap model (same_some a b e)
  model_of t b e = absurd (cc)

  equated_holds : (t u : Term) (o p : Option Term) (w : Term) → modeled_by t ≡ o → modeled_by u ≡ p → equated vars o p ≡ Some w → Holds S (is_equal t u) ρ → Holds S w ρ
  equated_holds t u (Some a) (Some b) w q r e h =
      let c = picked (is_one_sort (machine_sort vars a) (machine_sort vars b)) (is_equal a b) w e in
      let here : Holds S (is_equal (model a) (model b)) ρ = subst (λ (x : Term). Holds S (is_equal x (model b)) ρ) (model_of t a q) (subst (λ (y : Term). Holds S (is_equal t y) ρ) (model_of u b r) h) in
      subst (λ (x : Term). Holds S x ρ) c.1 (equal_back a b c.0 here)
  equated_holds t u o p w q r e h = absurd (cc)

  pub back_holds : (t w : Term) → back_of vars t ≡ Some w → Holds S t ρ → Holds S w ρ
  back_holds (apply equal (and_term t (and_term u no_terms))) w e h = equated_holds t u (modeled_by t) (modeled_by u) w refl refl e h
  back_holds t w e h = absurd (cc)
