-- The commands at the entry of a body lead from the environment of the contract to one in which the parameters' locals have the
-- arguments' values.
use Rattle.std.proofs.Common.{◌≡◌, ◌∙◌, inl, inr, refl, sym, ap, subst, ℕ, zero, suc, ◌+◌, ◌<◌, List, [], ◌∷◌, length, Some, slice_get, arith}
use Rattle.text_core.specs.declared.name.Name.{Name}
use Rattle.logic_term.specs.Meaning.{Structure, Env, with_value, Holds}
use Rattle.logic_term.specs.Sort.{HasSort, instance}
use Rattle.logic_term.specs.Theory.{declared}
use Rattle.logic_term.specs.Term.{Term}
use Rattle.logic_term.specs.Ty.{Ty}
use Rattle.logic_term.proofs.Alike.{alike_same}
use Rattle.logic_term.proofs.Coincide.{with_same, with_other}
use Rattle.logic_term.proofs.FreeLaw.{same_name}
use Rattle.mir_ir.specs.declared.body.Body.{Body}
use Rattle.mir_machine.specs.Good.{Each}
use Rattle.prophecy_logic.specs.Command.{by_set, by_fresh, by_assume, MovesAll, none, more}
use Rattle.prophecy_logic.specs.Row.{name_of}
use Rattle.prophecy_logic.specs.Command.{assumed}
use Rattle.prophecy_logic.specs.Walk.{parameters, stored}
use Rattle.prophecy_sim.proofs.Lists.{decide}

module _ (S : Structure) where
  same_point : (ρ : Env) (x y : Name) → with_value ρ x (ρ x) y ≡ ρ y
  same_point ρ x y = elim (decide y.0 x.0) [
    | inl e ↦ let same : y ≡ x = same_name y x e in ap (λ z. with_value ρ x (ρ x) z) same ∙ with_same ρ x (ρ x) ∙ sym (ap ρ same)
    | inr d ↦ with_other ρ x y (ρ x) d
  ]

  -- the values that names have are of their types
  abbrev pub AreSorted : Env → List Name → List Ty → Type 0
  AreSorted ρ xs tys = (i : ℕ) (x : Name) (ty : Ty) → slice_get xs i ≡ Some x → slice_get tys i ≡ Some ty → HasSort (declared S.theory) (ρ x) (instance S.types ty)

  -- each parameter has the value that it has
  pub parameters_move : (xs : List Name) (tys : List Ty) (ρ : Env) → AreSorted ρ xs tys → (σ : Env) × MovesAll S (parameters xs tys) ρ σ × ((y : Name) → σ y ≡ ρ y)
  parameters_move [] tys ρ sorted = (ρ, none, λ y. refl)
  parameters_move (x ∷ xs) [] ρ sorted = (ρ, none, λ y. refl)
  parameters_move (x ∷ xs) (ty ∷ tys) ρ sorted =
      let ρ₁ : Env = with_value ρ x (ρ x) in
      let rest = parameters_move xs tys ρ₁ (λ i y t e f. subst (λ v. HasSort (declared S.theory) v (instance S.types t)) (sym (same_point ρ x y)) (sorted (suc i) y t e f)) in
      (rest.0, more (by_fresh (ρ x) (sorted 0 x ty refl refl)) rest.1, λ y. rest.2 y ∙ same_point ρ x y)

  pub assumed_move : (ts : List Term) (ρ : Env) → Each (λ t. Holds S t ρ) ts → MovesAll S (assumed ts) ρ ρ
  assumed_move [] ρ h = none
  assumed_move (t ∷ ts) ρ h = more (by_assume h.0) (assumed_move ts ρ h.1)

  -- ---- the parameters' locals

  module _ (b : Body) where
    -- none of the parameters has the name of a local from number m on
    abbrev pub NoLocals : ℕ → List Name → Type 0
    NoLocals m xs = (i j : ℕ) (x : Name) → slice_get xs i ≡ Some x → j < length xs → x.0 ≡ (name_of b (m + j)).0 → ⊥

    -- the locals from number m on have names of their own
    abbrev pub LocalsApart : ℕ → ℕ → Type 0
    LocalsApart m n = (i j : ℕ) → i < n → j < n → (name_of b (m + i)).0 ≡ (name_of b (m + j)).0 → i ≡ j

    pub record Stored (m : ℕ) (xs : List Name) (ρ : Env) : Type 0 where
      pub env : Env
      pub moves : MovesAll S (stored b m xs) ρ env
      pub here : (i : ℕ) (x : Name) → slice_get xs i ≡ Some x → env (name_of b (m + i)) ≡ ρ x
      pub kept : (n : Name) → ((j : ℕ) → j < length xs → n.0 ≡ (name_of b (m + j)).0 → ⊥) → env n ≡ ρ n

    one_on : (m i : ℕ) → (m + 1) + i ≡ m + suc i
    one_on m i = omega arith

    no_more : (m : ℕ) → m + 0 ≡ m
    no_more m = omega arith

    pub stored_move : (m : ℕ) (xs : List Name) (ρ : Env) → NoLocals m xs → LocalsApart m (length xs) → Stored m xs ρ
    stored_move m [] ρ none_is apart = record { env = ρ; moves = none; here = λ i x e. absurd (cc); kept = λ n h. refl }
    stored_move m (x ∷ xs) ρ none_is apart =
        let at_m : Name = name_of b m in
        let ρ₁ : Env = with_value ρ at_m (ρ x) in
        let rest = stored_move (m + 1) xs ρ₁
        (λ i j y e l q. none_is (suc i) (suc j) y e (omega arith) (q ∙ ap (λ k. (name_of b k).0) (one_on m j)))
        (λ i j l k q. pred (apart (suc i) (suc j) (omega arith) (omega arith) (sym (ap (λ k. (name_of b k).0) (one_on m i)) ∙ q ∙ ap (λ k. (name_of b k).0) (one_on m j))))
        in
        record {
          env = rest.env;
          moves = more (by_set (ρ x) (alike_same _)) rest.moves;
          here = λ i y e. at_index rest i y e;
          kept = λ n h. rest.kept n (λ j l q. h (suc j) (omega arith) (q ∙ ap (λ k. (name_of b k).0) (one_on m j))) ∙ with_other ρ at_m n (ρ x)
              (λ q. h 0 (omega arith) (q ∙ sym (ap (λ k. (name_of b k).0) (no_more m))));
        }
      where
        pred : {k l : ℕ} → suc k ≡ suc l → k ≡ l
        pred p = omega arith

        -- no later local has the name of local m
        alone : (j : ℕ) → j < length xs → (name_of b m).0 ≡ (name_of b ((m + 1) + j)).0 → ⊥
        alone j l q = no_zero j (apart (suc j) 0 (omega arith) (omega arith) (sym (ap (λ k. (name_of b k).0) (one_on m j)) ∙ sym q ∙ sym (ap (λ k. (name_of b k).0) (no_more m))))
          where
            no_zero : (j : ℕ) → suc j ≡ 0 → ⊥
            no_zero j p = absurd (omega arith)

        -- the parameter has not the name of local m
        not_it : (i : ℕ) (y : Name) → slice_get xs i ≡ Some y → y.0 ≡ (name_of b m).0 → ⊥
        not_it i y e q = none_is (suc i) 0 y e (omega arith) (q ∙ sym (ap (λ k. (name_of b k).0) (no_more m)))

        at_index : (rest : Stored (m + 1) xs (with_value ρ (name_of b m) (ρ x))) (i : ℕ) (y : Name) → slice_get (x ∷ xs) i ≡ Some y → rest.env (name_of b (m + i)) ≡ ρ y
        at_index rest zero y e =
            let same : x ≡ y = cc in
            ap (λ k. rest.env (name_of b k)) (no_more m) ∙ rest.kept (name_of b m) alone ∙ with_same ρ (name_of b m) (ρ x) ∙ ap ρ same
        at_index rest (suc i) y e =
            ap (λ k. rest.env (name_of b k)) (sym (one_on m i)) ∙ rest.here i y e ∙ with_other ρ (name_of b m) y (ρ x) (not_it i y e)
