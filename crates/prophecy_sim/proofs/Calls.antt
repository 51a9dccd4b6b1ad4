-- The operands of a call, and what its contract says of them.
use Rattle.std.proofs.Common.{◌≡◌, ◌∙◌, refl, sym, ap, ap₂, subst, ℕ, zero, suc, ◌≤◌, ◌==◌, max, Bool, true, false, cond, List, [], ◌∷◌, length, map, Some, slice_get, arith}
use Rattle.std.proofs.lemmas.Option.{same_Some}
use Rattle.text_core.specs.declared.name.Name.{Name}
use Rattle.text_core.specs.declared.span.Span.{Span}
use Rattle.text_core.specs.declared.refusal.Kind.{Kind}
use Rattle.logic_term.specs.declared.subst.Replacement.{Replacement}
use Rattle.logic_term.specs.Meaning.{Structure, Env, with_value, Means, Holds}
use Rattle.logic_term.specs.Subst.{above, look, above_entries, with_terms}
use Rattle.logic_term.specs.Term.{Term}
use Rattle.logic_term.specs.Ty.{Ty}
use Rattle.logic_term.specs.Value.{Value, Values, no_values, and_value}
use Rattle.logic_term.proofs.Alike.{Alike, alike_same}
use Rattle.logic_term.proofs.Coincide.{with_same}
use Rattle.logic_term.proofs.PlacedLaw.{Stands, subst_means}
use Rattle.logic_term.proofs.Truth.{Exactly}
use Rattle.mir_ir.specs.declared.place.Operand.{Operand}
use Rattle.mir_ir.specs.declared.body.Body.{Body}
use Rattle.mir_ir.specs.WellFormed.{OperandsHave}
use Rattle.mir_machine.specs.Good.{Each, named}
use Rattle.prophecy_logic.specs.Row.{value_name, name_of, operand_term}
use Rattle.prophecy_logic.specs.Walk.{entries, all_at}
use Rattle.prophecy_logic.proofs.Commands.{GoalsHold}
use Rattle.prophecy_sim.proofs.Operands.{operand_values, operand_means, new_value}

-- ---- values for names, all at once

-- the names have these values, the first of a name counting
abbrev pub overlay : List Name → Values → Env → Env
overlay [] vs ρ = ρ
overlay (x ∷ xs) no_values ρ = ρ
overlay (x ∷ xs) (and_value v vs) ρ = with_value (overlay xs vs ρ) x v

-- one value for each name
abbrev pub AsMany : List Name → Values → Type 0
AsMany [] no_values = Unit {0}
AsMany (x ∷ xs) (and_value v vs) = AsMany xs vs
AsMany _ _ = ⊥

-- a name that has a value has that which it has in the environment of these names alone
pub overlay_named : (xs : List Name) (vs : Values) (ρ : Env) (i : ℕ) (x : Name) → slice_get xs i ≡ Some x → AsMany xs vs → overlay xs vs ρ x ≡ named xs vs x
overlay_named [] vs ρ i x e h = absurd (cc)
overlay_named (y ∷ xs) no_values ρ i x e h = absurd h
overlay_named (y ∷ xs) (and_value v vs) ρ zero x e h =
    let same : y ≡ x = same_Some _ _ e in
    subst (λ z. with_value (overlay xs vs ρ) y v z ≡ with_value (named xs vs) y v z) same (with_same (overlay xs vs ρ) y v ∙ sym (with_same (named xs vs) y v))
overlay_named (y ∷ xs) (and_value v vs) ρ (suc i) x e h = ap (λ u. cond (x.0 == y.0) v u) (overlay_named xs vs ρ i x e h)

pub as_many : (b : Body) (ρ : Env) (xs : List Name) (os : List Operand) → length xs ≡ length os → AsMany xs (operand_values b ρ os)
as_many b ρ [] [] e = tt
as_many b ρ [] (o ∷ os) e = absurd (omega arith)
as_many b ρ (x ∷ xs) [] e = absurd (omega arith)
as_many b ρ (x ∷ xs) (o ∷ os) e = as_many b ρ xs os (omega arith)

pub as_many_operands : (b : Body) (os : List Operand) (tys : List Ty) → OperandsHave b os tys → length os ≡ length tys
as_many_operands b [] [] have = refl
as_many_operands b [] (ty ∷ tys) have = absurd have
as_many_operands b (o ∷ os) [] have = absurd have
as_many_operands b (o ∷ os) (ty ∷ tys) have = ap suc (as_many_operands b os tys have.1)

-- a new value changes no operand, where no local has its name
pub new_values : (b : Body) → ((x : ℕ) (ty : Ty) → slice_get b.locals x ≡ Some ty → (name_of b x).0 ≡ value_name.0 → ⊥) → (ρ : Env) (w : Value) (os : List Operand) (tys : List Ty) →
    OperandsHave b os tys → operand_values b (with_value ρ value_name w) os ≡ operand_values b ρ os
new_values b not_new ρ w [] tys have = refl
new_values b not_new ρ w (o ∷ os) [] have = absurd have
new_values b not_new ρ w (o ∷ os) (ty ∷ tys) have = ap₂ and_value (new_value b not_new ρ w o ty have.0) (new_values b not_new ρ w os tys have.1)

-- ---- terms for names, all at once

module _ (S : Structure) where
  abbrev pub AreExactly : List Term → Values → Env → Type 0
  AreExactly [] no_values ρ = Unit {0}
  AreExactly (t ∷ ts) (and_value v vs) ρ = Exactly (Means S t ρ) v × AreExactly ts vs ρ
  AreExactly _ _ ρ = ⊥

  stands_next : (n : ℕ) (u : Term) (σ : List Replacement) (ρ τ : Env) (v : Value) (x : Name) (b : Bool) → above u ≤ n → Exactly (Means S u ρ) v →
      (above (look σ x) ≤ n) × Alike (Means S (look σ x) ρ) (λ w. w ≡ τ x) →
      (above (cond b u (look σ x)) ≤ n) × Alike (Means S (cond b u (look σ x)) ρ) (λ w. w ≡ cond b v (τ x))
  stands_next n u σ ρ τ v x true l e h = (l, e)
  stands_next n u σ ρ τ v x false l e h = h

  stand_all : (m n : ℕ) (xs : List Name) (ts : List Term) (vs : Values) (ρ : Env) → AreExactly ts vs ρ → above_entries (entries xs ts) ≤ n → m ≤ n → Stands S m n ρ (entries xs ts) (overlay xs vs ρ)
  stand_all m n [] ts vs ρ e l k x b = (omega arith, alike_same _)
  stand_all m n (y ∷ xs) [] no_values ρ e l k x b = (omega arith, alike_same _)
  stand_all m n (y ∷ xs) [] (and_value v vs) ρ e l k x b = absurd e
  stand_all m n (y ∷ xs) (t ∷ ts) no_values ρ e l k x b = absurd e
  stand_all m n (y ∷ xs) (t ∷ ts) (and_value v vs) ρ e l k x b =
      stands_next n t (entries xs ts) ρ (overlay xs vs ρ) v x (x.0 == y.0) (omega arith) e.0 (stand_all m n xs ts vs ρ e.1 (omega arith) k x b)

  -- the formula with terms for names is true where it is true of their values
  pub with_terms_mean : (xs : List Name) (ts : List Term) (vs : Values) (ρ : Env) (t : Term) → AreExactly ts vs ρ → Alike (Means S (with_terms (entries xs ts) t) ρ) (Means S t (overlay xs vs ρ))
  with_terms_mean xs ts vs ρ t e =
      let n = max (above t) (above_entries (entries xs ts)) in
      subst_means S n t n ρ (overlay xs vs ρ) (entries xs ts) (omega arith) (stand_all n n xs ts vs ρ e (omega arith) (omega arith))

  -- formulas at one span
  pub all_hold : (kind : Kind) (at : Span) (ts : List Term) (ρ : Env) → GoalsHold S ρ (all_at kind at ts) → Each (λ t. Holds S t ρ) ts
  all_hold kind at [] ρ h = tt
  all_hold kind at (t ∷ ts) ρ h = (h.0, all_hold kind at ts ρ h.1)

  -- each operand's term has the operand's value
  pub all_exactly : (b : Body) (ρ : Env) (os : List Operand) → AreExactly (map (operand_term b) os) (operand_values b ρ os) ρ
  all_exactly b ρ [] = tt
  all_exactly b ρ (o ∷ os) = (operand_means S b ρ o, all_exactly b ρ os)
