-- The arguments of a call in the environment of the contract.
use Rattle.std.proofs.Common.{◌≡◌, refl, sym, subst, ℕ, zero, suc, List, [], ◌∷◌, Some, slice_get, arith}
use Rattle.std.proofs.lemmas.Option.{same_Some}
use Rattle.text_core.specs.declared.name.Name.{Name}
use Rattle.logic_term.specs.Meaning.{with_value}
use Rattle.logic_term.specs.Value.{Values, no_values, and_value}
use Rattle.logic_term.proofs.Coincide.{with_same, with_other}
use Rattle.mir_machine.specs.Tree.{Tree}
use Rattle.mir_machine.specs.Good.{named}
use Rattle.prophecy_sim.proofs.Owned.{Shows, AllShow}

-- the names are different
abbrev pub AreApart : List Name → Type 0
AreApart xs = (i j : ℕ) (x y : Name) → slice_get xs i ≡ Some x → slice_get xs j ≡ Some y → x.0 ≡ y.0 → i ≡ j

rest_apart : (x : Name) (xs : List Name) → AreApart (x ∷ xs) → AreApart xs
rest_apart x xs h i j y z e f q = pred (h (suc i) (suc j) y z e f q)
  where
    pred : {m n : ℕ} → suc m ≡ suc n → m ≡ n
    pred p = omega arith

-- the tree of an argument shows the value of its parameter's name
pub argument_shows : {K : Type 0} (xs : List Name) (ts : List (Tree K)) (vs : Values) → AreApart xs → AllShow ts vs → (i : ℕ) (x : Name) (t : Tree K) → slice_get xs i ≡ Some x →
    slice_get ts i ≡ Some t → Shows t (named xs vs x)
argument_shows [] ts vs apart h i x t e q = absurd (cc)
argument_shows (y ∷ xs) [] vs apart h i x t e q = absurd (cc)
argument_shows (y ∷ xs) (u ∷ ts) no_values apart h i x t e q = absurd h
argument_shows {K} (y ∷ xs) (u ∷ ts) (and_value v vs) apart h zero x t e q =
    let same : y ≡ x = same_Some _ _ e in
    let first : Shows t v = subst (λ (w : Tree K). Shows w v) (same_Some _ _ q) h.0 in
    subst (λ z. Shows t (with_value (named xs vs) y v z)) same (subst (Shows t) (sym (with_same (named xs vs) y v)) first)
argument_shows (y ∷ xs) (u ∷ ts) (and_value v vs) apart h (suc i) x t e q =
    subst (Shows t) (sym (with_other (named xs vs) y x v (λ r. no_zero i (apart (suc i) 0 x y e refl r)))) (argument_shows xs ts vs (rest_apart y xs apart) h.1 i x t e q)
  where
    no_zero : (i : ℕ) → suc i ≡ 0 → ⊥
    no_zero i r = absurd (omega arith)
