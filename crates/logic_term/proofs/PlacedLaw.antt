-- The values of a placed term are those of the term where its free names have the values of what stands for them: the one law of
-- substitution, of canonical forms and of the normal form.
use Rattle.std.proofs.Common.{◌≡◌, ℕ, zero, suc, ◌≤◌, ◌<◌, ◌==◌, ◌&&◌, not, max, Bool, true, false, cond, List, [], ◌∷◌, refl, sym, ◌∙◌, ap, true≢false, arith}
use Rattle.std.proofs.lemmas.Bool.Decides.{nat_tests}
use Rattle.text_core.specs.declared.name.Name.{Name}
use Rattle.logic_term.specs.declared.kinds.Ctor.{Ctor}
use Rattle.logic_term.specs.declared.kinds.TermBinary.{TermBinary}
use Rattle.logic_term.specs.declared.kinds.TermBinary.TheVariants as binary
use Rattle.logic_term.specs.declared.subst.Replacement.{Replacement}
use Rattle.logic_term.specs.Free.{free, free_in_some}
use Rattle.logic_term.specs.Meaning.{Calls, Structure, Env, with_value, Each, MeansBy, ArgumentBy, calls, Means}
use Rattle.logic_term.specs.Placed.{Placing, itself, put, name_at, placed, all_placed}
use Rattle.logic_term.specs.Simplified.{nth_term, simplified, formed}
use Rattle.logic_term.specs.Subst.{above, look, placing, subst, above_entries, with_terms, replaced}
use Rattle.logic_term.specs.Term.{Operator, modeled, field, choice, made, Term, Terms, var, lit, truth, apply, bind, no_terms, and_term, two, part, count}
use Rattle.logic_term.specs.TermOperator.{binary_operator}
use Rattle.logic_term.specs.Ty.{int}
use Rattle.logic_term.specs.Value.{Value, Values, Number, Flag, Made, flag_of, integer_of, nth_value, nth_part}
use Rattle.logic_term.proofs.Alike.{alike, alike_exactly, Alike, alike_same, alike_back, alike_then, chosen_true, chosen_false, applied_alike_at, quantified_alike}
use Rattle.logic_term.proofs.Coincide.{Agree, agree_new, coincide, with_same, free_above}
use Rattle.logic_term.proofs.FreeLaw.{or_left, or_right}
use Rattle.logic_term.proofs.Unique.{single_by, have_values_by, each_some}

pub count_placed : (r : Bool) (n : ℕ) (σ : Placing) (ts : Terms) → count (all_placed r n σ ts) ≡ count ts
count_placed r n σ no_terms = refl
count_placed r n σ (and_term t ts) = ap suc (count_placed r n σ ts)

two_simplified : (op : TermBinary) (a b : Term) → simplified (binary_operator op) (and_term a (and_term b no_terms)) ≡ two (binary_operator op) a b
two_simplified (binary.Arith op) a b = refl
two_simplified binary.Less a b = refl
two_simplified binary.AtMost a b = refl
two_simplified binary.Equal a b = refl
two_simplified binary.And a b = refl
two_simplified binary.Or a b = refl
two_simplified binary.Implies a b = refl

pub two_formed : (r : Bool) (op : TermBinary) (a b : Term) → formed r (binary_operator op) (and_term a (and_term b no_terms)) ≡ two (binary_operator op) a b
two_formed true op a b = two_simplified op a b
two_formed false op a b = refl

pub made_formed : (r : Bool) (c : Ctor) (ts : Terms) → formed r (made c) ts ≡ apply (made c) ts
made_formed true c ts = refl
made_formed false c ts = refl

-- whatever calls mean
module _ (C : Calls) (S : Structure) where
  -- a part of what is made of parts
  nth_means : (ts : Terms) (k : ℕ) (ρ : Env) (vs : Values) → Each (count ts) (λ j. ArgumentBy C S ts ρ j) vs → MeansBy C S (nth_term ts k) ρ (nth_value vs k)
  nth_means no_terms k ρ vs p = rw p refl
  nth_means (and_term t ts) zero ρ vs p = rw p.4 p.2
  nth_means (and_term t ts) (suc k) ρ vs p = rw p.4 (nth_means ts k ρ p.1 p.3)

  part_means : (c : Ctor) (ts : Terms) (k : ℕ) (ρ : Env) → Alike (MeansBy C S (nth_term ts k) ρ) (MeansBy C S (part k (apply (made c) ts)) ρ)
  part_means c ts k ρ = alike _ _
      (λ v p n. each_some (count ts) (λ j. ArgumentBy C S ts ρ j) (λ j. have_values_by C S ts ρ j)
      (λ q. n (Made c q.0, (q.0, q.1, refl), single_by C S (nth_term ts k) ρ v (nth_value q.0 k) p (nth_means ts k ρ q.0 q.1))))
      (λ v p n. n (rw (p.2 ∙ ap (nth_part k) p.1.2) (nth_means ts k ρ p.1.0 p.1.1)))

  false_is_not_true : Flag true ≡ Flag false → ⊥
  false_is_not_true e = true≢false (ap flag_of e)

  simplified_means : (op : Operator) (ts : Terms) (ρ : Env) → Alike (MeansBy C S (simplified op ts) ρ) (MeansBy C S (apply op ts) ρ)
  simplified_means modeled (and_term (lit z (int k)) no_terms) ρ = alike_exactly _ _ (λ v. ((λ p. (Number z, refl, p)), (λ p. p.2 ∙ ap (λ x. Number (integer_of x)) p.1)))
  simplified_means (field k) (and_term (apply (made c) ts) no_terms) ρ = part_means c ts k ρ
  simplified_means choice (and_term (truth true) (and_term a (and_term b no_terms))) ρ = alike_back _ _ (chosen_true (MeansBy C S (truth true) ρ) (MeansBy C S a ρ) (MeansBy C S b ρ) (λ n. n refl))
  simplified_means choice (and_term (truth false) (and_term a (and_term b no_terms))) ρ = alike_back _ _ (chosen_false (MeansBy C S (truth false) ρ) (MeansBy C S a ρ) (MeansBy C S b ρ) (λ y. y false_is_not_true))
  simplified_means op ts ρ = alike_same _

  formed_means : (r : Bool) (op : Operator) (ts : Terms) (ρ : Env) → Alike (MeansBy C S (formed r op ts) ρ) (MeansBy C S (apply op ts) ρ)
  formed_means true op ts ρ = simplified_means op ts ρ
  formed_means false op ts ρ = alike_same _

  -- what stands for each of these names, at any depth from n on, has the value that τ gives the name, wherever names below n are as in ρ
  abbrev pub StandsForBy : (Name → Bool) → ℕ → Env → Placing → Env → Type 0
  StandsForBy f n ρ σ τ = (x : Name) → f x ≡ true → (k : ℕ) → n ≤ k → (μ : Env) → Agree n μ ρ → Alike (MeansBy C S (σ x k) μ) (λ v. v ≡ τ x)

  -- ---- under a binder

  less : (n : ℕ) (μ ρ : Env) (w : Value) → Agree (suc n) μ (with_value ρ (record { 0 = n }) w) → Agree n μ ρ
  less n μ ρ w a x l = a x (omega arith) ∙ sym (agree_new n ρ (record { 0 = n }) w (omega arith) x l)

  stands_at : (n : ℕ) (ρ : Env) (u : ℕ → Term) (w v : Value) (b c : Bool) → ((not b && c) ≡ true → (k : ℕ) → n ≤ k → (μ : Env) → Agree n μ ρ → Alike (MeansBy C S (u k) μ) (λ a. a ≡ v)) → c ≡ true
      → (k : ℕ) → suc n ≤ k → (μ : Env) → Agree (suc n) μ (with_value ρ (record { 0 = n }) w) → Alike (MeansBy C S (cond b (name_at n k) (u k)) μ) (λ a. a ≡ cond b w v)
  stands_at n ρ u w v true c h e k l μ a =
      let same : μ (record { 0 = n }) ≡ w = a (record { 0 = n }) (omega arith) ∙ with_same ρ (record { 0 = n }) w in
      alike_exactly _ _ (λ x. ((λ p. p ∙ same), (λ p. p ∙ sym same)))
  stands_at n ρ u w v false c h e k l μ a = h e k (omega arith) μ (less n μ ρ w a)

  stands_under : (t : Term) (n : ℕ) (ρ τ : Env) (σ : Placing) (y : Name) (w : Value) → StandsForBy (λ x. not (x.0 == y.0) && free x t) n ρ σ τ
      → StandsForBy (λ x. free x t) (suc n) (with_value ρ (record { 0 = n }) w) (put y (name_at n) σ) (with_value τ y w)
  stands_under t n ρ τ σ y w h x e = stands_at n ρ (σ x) w (τ x) (x.0 == y.0) (free x t) (h x) e

  mutual
    pub placed_means_by : (r : Bool) (t : Term) (n : ℕ) (ρ τ : Env) (σ : Placing) → StandsForBy (λ x. free x t) n ρ σ τ → Alike (MeansBy C S (placed r n σ t) ρ) (MeansBy C S t τ)
    placed_means_by r (var x) n ρ τ σ h v = h x (self x.0) n (omega arith) ρ (λ y l. refl) v
      where
        self : (k : ℕ) → (k == k) ≡ true
        self k = grind (arith, nat_tests)
    placed_means_by r (lit z s) n ρ τ σ h v = ((λ p. p), (λ p. p))
    placed_means_by r (truth c) n ρ τ σ h v = ((λ p. p), (λ p. p))
    placed_means_by r (apply op ts) n ρ τ σ h v =
        alike_then _ _ _ (formed_means r op (all_placed r n σ ts) ρ) (applied_alike_at C S.types op _ _ _ _ (count_placed r n σ ts) (λ k. all_placed_mean r ts n ρ τ σ h k)) v
    placed_means_by r (bind q x s t) n ρ τ σ h v =
        quantified_alike q _ _ _ (λ w. placed_means_by r t (suc n) (with_value ρ (record { 0 = n }) w) (with_value τ x w) (put x (name_at n) σ) (stands_under t n ρ τ σ x w h)) v

    pub all_placed_mean : (r : Bool) (ts : Terms) (n : ℕ) (ρ τ : Env) (σ : Placing) → StandsForBy (λ x. free_in_some x ts) n ρ σ τ → (k : ℕ) → Alike (ArgumentBy C S (all_placed r n σ ts) ρ k) (ArgumentBy C S ts τ k)
    all_placed_mean r no_terms n ρ τ σ h k = alike_same _
    all_placed_mean r (and_term t ts) n ρ τ σ h zero = placed_means_by r t n ρ τ σ (λ x e. h x (or_left (free x t) (free_in_some x ts) e))
    all_placed_mean r (and_term t ts) n ρ τ σ h (suc k) = all_placed_mean r ts n ρ τ σ (λ x e. h x (or_right (free x t) (free_in_some x ts) e)) k

module _ (S : Structure) where
  abbrev pub StandsFor : (Name → Bool) → ℕ → Env → Placing → Env → Type 0
  StandsFor f n ρ σ τ = StandsForBy (calls S.theory) S f n ρ σ τ

  pub placed_means : (r : Bool) (t : Term) (n : ℕ) (ρ τ : Env) (σ : Placing) → StandsFor (λ x. free x t) n ρ σ τ → Alike (Means S (placed r n σ t) ρ) (Means S t τ)
  placed_means r t n ρ τ σ h = placed_means_by (calls S.theory) S r t n ρ τ σ h

  -- ---- entries

  -- for each of these names, the entries' term is below n and has, at ρ, the value that τ gives the name
  abbrev pub StandOn : (Name → Bool) → ℕ → Env → List Replacement → Env → Type 0
  StandOn f n ρ σ τ = (x : Name) → f x ≡ true → (above (look σ x) ≤ n) × Alike (Means S (look σ x) ρ) (λ v. v ≡ τ x)

  stand_for : (f : Name → Bool) (n : ℕ) (ρ : Env) (σ : List Replacement) (τ : Env) → StandOn f n ρ σ τ → StandsFor f n ρ (placing σ) τ
  stand_for f n ρ σ τ h x e k l μ a = let is = h x e in alike_then _ _ _ (coincide S n (look σ x) μ ρ is.0 a) is.1

  pub entries_mean : (r : Bool) (t : Term) (n : ℕ) (ρ τ : Env) (σ : List Replacement) → StandOn (λ x. free x t) n ρ σ τ → Alike (Means S (placed r n (placing σ) t) ρ) (Means S t τ)
  entries_mean r t n ρ τ σ h = placed_means r t n ρ τ (placing σ) (stand_for (λ x. free x t) n ρ σ τ h)

  -- all names of the term below m, and the entries' terms for names below m below n
  abbrev pub Stands : ℕ → ℕ → Env → List Replacement → Env → Type 0
  Stands m n ρ σ τ = (x : Name) → x.0 < m → (above (look σ x) ≤ n) × Alike (Means S (look σ x) ρ) (λ v. v ≡ τ x)

  pub subst_means : (m : ℕ) (t : Term) (n : ℕ) (ρ τ : Env) (σ : List Replacement) → above t ≤ m → Stands m n ρ σ τ → Alike (Means S (subst n σ t) ρ) (Means S t τ)
  subst_means m t n ρ τ σ b h = entries_mean false t n ρ τ σ (λ x e. let l : x.0 < above t = free_above x t e in h x (omega arith))

  -- all at once, and the entries' terms have the values that τ gives their names
  entry_below : (x : Name) (σ : List Replacement) → above (look σ x) ≤ max (suc x.0) (above_entries σ)
  entry_below x [] = omega arith
  entry_below x (e ∷ σ) = by (x.0 == e.name.0) (entry_below x σ)
    where
      by : (b : Bool) → above (look σ x) ≤ max (suc x.0) (above_entries σ) → above (cond b e.by (look σ x)) ≤ max (suc x.0) (max (above e.by) (above_entries σ))
      by true l = omega arith
      by false l = omega arith

  pub with_terms_means : (t : Term) (ρ τ : Env) (σ : List Replacement) → ((x : Name) → free x t ≡ true → Alike (Means S (look σ x) ρ) (λ v. v ≡ τ x)) → Alike (Means S (with_terms σ t) ρ) (Means S t τ)
  with_terms_means t ρ τ σ h = entries_mean false t (max (above t) (above_entries σ)) ρ τ σ
      (λ x e. let l : x.0 < above t = free_above x t e in let k : above (look σ x) ≤ max (suc x.0) (above_entries σ) = entry_below x σ in (omega arith, h x e))

  -- the term with u for x, where u has exactly the value w
  one_entry : (u : Term) (ρ : Env) (w : Value) (y : Name) (b : Bool) → Alike (Means S u ρ) (λ v. v ≡ w) → Alike (Means S (cond b u (var y)) ρ) (λ v. v ≡ cond b w (ρ y))
  one_entry u ρ w y true h = h
  one_entry u ρ w y false h = alike_same _

  at_most_both : (u : Term) (n : ℕ) (y : Name) (b : Bool) → above u ≤ n → y.0 < n → above (cond b u (var y)) ≤ n
  at_most_both u n y true l k = l
  at_most_both u n y false l k = omega arith

  pub replaced_means : (x : Name) (u t : Term) (ρ : Env) (w : Value) → Alike (Means S u ρ) (λ v. v ≡ w) → Alike (Means S (replaced x u t) ρ) (Means S t (with_value ρ x w))
  replaced_means x u t ρ w h = entries_mean false t (max (above t) (above u)) ρ (with_value ρ x w) (record { name = x; by = u } ∷ [])
      (λ y e. let l : y.0 < above t = free_above y t e in (at_most_both u (max (above t) (above u)) y (y.0 == x.0) (omega arith) (omega arith), one_entry u ρ w y (y.0 == x.0) h))

  -- each name for itself, where the term's free names are below n
  pub itself_means : (r : Bool) (t : Term) (n : ℕ) (ρ : Env) → ((x : Name) → free x t ≡ true → x.0 < n) → Alike (Means S (placed r n itself t) ρ) (Means S t ρ)
  itself_means r t n ρ below = placed_means r t n ρ ρ itself (λ x e k l μ a. let same : μ x ≡ ρ x = a x (below x e) in alike_exactly _ _ (λ v. ((λ p. p ∙ same), (λ p. p ∙ sym same))))
