-- What settled cases say of the declared types.
use Rattle.std.proofs.Common.{◌≡◌, ℕ, zero, suc, ◌+◌, ◌<◌, ◌≤◌, ◌==◌, ◌&&◌, ◌||◌, Bool, true, false, List, [], ◌∷◌, ◌++◌, get_or, length, map, refl, sym, ap, ◌∙◌, subst, true≢false, arith}
use Rattle.std.proofs.lemmas.Bool.Decides.{nat_tests}
use Rattle.logic_term.specs.Sort.{nth_ty, instance}
use Rattle.logic_term.specs.Ty.{Ty, adt}
use Rattle.logic_term.specs.declared.declaration.AdtDecl.{AdtDecl}
use Rattle.rs_types.specs.declared.weighing.Case.{Case}
use Rattle.rs_types.specs.declared.weighing.Question.{Question}
use Rattle.rs_types.specs.declared.weighing.Question.TheVariants as question
use Rattle.rs_types.specs.Growing.{declared_by}
use Rattle.rs_types.specs.Inhabited.{HasValue, IsInhabited, IsEmpty}
use Rattle.rs_types.specs.Nesting.{Nests, no_nests, IsFlat, IsNested}
use Rattle.rs_types.specs.Weighing.{is_case, known, is_among, weight, variants_at, reweighed, IsAsked, AllAsked, EachAsked, roots_from, ComesOf, at_first, round, Settled}
use Rattle.rs_types.proofs.Cases.{Each, found}
use Rattle.rs_types.proofs.Nested as nested
use Rattle.rs_types.proofs.Tests.{or_left, or_right}
use Rattle.rs_types.proofs.Valued as valued

-- ---- each declared type has its case

module _ (q : Question) (ds : List AdtDecl) where
  among_again : (old : List Case) (d : ℕ) (ws : List ℕ) (cs : List Case) → is_among d ws (map (reweighed q ds old) cs) ≡ is_among d ws cs
  among_again old d ws [] = refl
  among_again old d ws (c ∷ cs) = ap (λ b. is_case d ws c || b) (among_again old d ws cs)

  among_more : (d : ℕ) (ws : List ℕ) (cs more : List Case) → is_among d ws cs ≡ true → is_among d ws (cs ++ more) ≡ true
  among_more d ws [] more e = absurd (true≢false (sym e))
  among_more d ws (c ∷ cs) more e = by (is_case d ws c) refl (λ f. among_more d ws cs more f)
    where
      by : (b : Bool) → is_case d ws c ≡ b → (is_among d ws cs ≡ true → is_among d ws (cs ++ more) ≡ true) → is_among d ws (c ∷ cs ++ more) ≡ true
      by true f g = or_left (is_case d ws c) (is_among d ws (cs ++ more)) f
      by false f g = or_right (is_case d ws c) (is_among d ws (cs ++ more)) (g (sym (ap (λ b. b || is_among d ws cs) f) ∙ e))

  root_there : (n i m : ℕ) (left : List AdtDecl) → n + i ≡ m → i < length left → is_among m [] (roots_from n left) ≡ true
  root_there n i m [] e l = absurd (omega arith)
  root_there n zero m (c ∷ left) e l =
      let same : (n == m) ≡ true = grind (arith, nat_tests) in
      ap (λ b. (b && true) || is_among m [] (roots_from (suc n) left)) same
  root_there n (suc i) m (c ∷ left) e l =
      or_right (is_case m [] (record { adt = n; given = []; weight = 0 })) (is_among m [] (roots_from (suc n) left)) (root_there (suc n) i m left (omega arith) (omega arith))

  pub comes_among : (cs : List Case) → ComesOf q ds cs → (d : ℕ) → d < length ds → is_among d [] cs ≡ true
  comes_among cs at_first d l = root_there 0 d d ds (omega arith) l
  comes_among cs (round {cs = before} c grows) d l =
      subst (λ x. is_among d [] x ≡ true) (sym grows.is)
      (among_more d [] (map (reweighed q ds before) before) grows.more (among_again before d [] before ∙ comes_among before c d l))

  -- what is asked of a case
  abbrev IsAskedOf : List Case → Case → Type 0
  IsAskedOf cs c = AllAsked q cs c.given (variants_at ds c.adt)

  each_asked : (cs left : List Case) → EachAsked q ds cs left → Each (IsAskedOf cs) left
  each_asked cs [] a = tt
  each_asked cs (c ∷ left) a = (a.0, each_asked cs left a.1)

  pub root_asked : (cs : List Case) → Settled q ds cs → (d : ℕ) → d < length ds → AllAsked q cs [] (variants_at ds d)
  root_asked cs s d l =
      let c = found (IsAskedOf cs) d [] cs (each_asked cs cs s.asked) (comes_among cs s.comes d l) in
      subst (λ n. AllAsked q cs [] (variants_at ds n)) c.1 (subst (λ g. AllAsked q cs g (variants_at ds c.0.adt)) c.2 c.4)

-- ---- values

module _ (ds : List AdtDecl) (cs : List Case) (s : Settled question.Value ds cs) (d : ℕ) (l : d < length ds) where
  pub inhabited_by : (known d [] cs ≡ 0 → ⊥) → IsInhabited ds d
  inhabited_by some rs ts h =
      let c = found (valued.IsReached ds) d [] cs (valued.all_reached ds cs s.comes) (comes_among question.Value ds cs s.comes d l) in
      let at_c = c.4 (record { 0 = d }) rs ts (sym c.1) (λ i. subst (λ g. valued.IsValued (declared_by ds) (get_or g i 1) (nth_ty ts i)) (sym c.2) (h i)) in
      by (known d [] cs) some (subst (λ n. valued.IsValued (declared_by ds) n (adt (record { 0 = d }) rs ts)) (sym c.3) at_c)
    where
      by : (n : ℕ) → (n ≡ 0 → ⊥) → valued.IsValued (declared_by ds) n (adt (record { 0 = d }) rs ts) → HasValue (declared_by ds) (adt (record { 0 = d }) rs ts)
      by zero other v = absurd (other refl)
      by (suc n) other v = v

  pub empty_by : known d [] cs ≡ 0 → IsEmpty ds d
  empty_by none rs ts v =
      let b = valued.depth v.0 in
      let c = found (valued.IsWhole ds b) d [] cs (valued.all_whole ds cs s.same s.asked b) (comes_among question.Value ds cs s.comes d l) in
      let one : 1 ≤ c.0.weight = c.4 (record { 0 = d }) rs ts (sym c.1) (λ i w p k. subst (λ g. 1 ≤ get_or g i 1) (sym c.2) (omega arith)) v.0 v.1 (omega arith) in
      let same : known d [] cs ≡ c.0.weight = c.3 in
      omega arith

-- ---- references

module _ (ds : List AdtDecl) (cs : List Case) (s : Settled question.References ds cs) (f : Ty) where
  pub nested_by : 2 ≤ weight question.References cs [] f → IsNested (declared_by ds) f
  nested_by l ts = nested.lower (declared_by ds) (weight question.References cs [] f) 2 (instance ts f) l (nested.nests_type ds cs (nested.all_reached ds cs s.comes) [] ts (λ i. no_nests) f)

  pub flat_by : IsAsked question.References cs [] f → (2 ≤ weight question.References cs [] f → ⊥) → IsFlat (declared_by ds) f
  flat_by a less ts none p =
      let b = nested.height ds p in
      less (nested.type_nests ds b cs (nested.all_whole ds cs s.same s.asked b) [] ts (λ i w r k m. no_more i w r) f a 2 p (omega arith) (omega arith))
    where
      no_more : (i w : ℕ) → Nests (declared_by ds) w (nth_ty ts i) → w ≤ 0
      no_more i zero r = omega arith
      no_more i (suc w) r = absurd (none i (nested.lower (declared_by ds) (suc w) 1 (nth_ty ts i) (omega arith) r))
