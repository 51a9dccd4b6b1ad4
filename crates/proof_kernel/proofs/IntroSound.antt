-- Taking off what leads a goal is sound. Names that are new may get other values, and hypotheses and sorts of variables stay; so the values that the
-- quantifiers go over are given to the names one after the other.
use Rattle.std.proofs.Common.{◌≡◌, ℕ, suc, ◌==◌, ◌||◌, ◌&&◌, not, Bool, true, false, cond, List, [], ◌∷◌, ◌++◌, Some, None, refl, sym, ◌∙◌, ap, subst, arith, true≢false}
use Rattle.std.proofs.lemmas.Bool.Decides.{nat_tests}
use Rattle.text_core.specs.declared.name.Name.{Name}
use Rattle.logic_term.specs.declared.kinds.Label2.{Label2}
use Rattle.logic_term.specs.declared.subst.Renaming.{Renaming}
use Rattle.logic_term.specs.declared.subst.Replacement.{Replacement}
use Rattle.logic_term.specs.Canonical.{is_one_of}
use Rattle.logic_term.specs.Free.{free}
use Rattle.logic_term.specs.Meaning.{Structure, Env, with_value, Means, Holds}
use Rattle.logic_term.specs.Sort.{HasSort, instance}
use Rattle.logic_term.specs.Subst.{look, renaming, numbers_before, renamed}
use Rattle.logic_term.specs.Term.{implied, every, Term, var, apply, bind, no_terms, and_term}
use Rattle.logic_term.specs.Theory.{declared}
use Rattle.logic_term.specs.Ty.{Ty}
use Rattle.logic_term.specs.Value.{Value}
use Rattle.logic_term.proofs.Alike.{Alike, alike_same, yes_alike}
use Rattle.logic_term.proofs.Coincide.{with_same}
use Rattle.logic_term.proofs.FreeLaw.{coincide_free, same_name, same_test, or_left, or_right}
use Rattle.logic_term.proofs.PlacedLaw.{with_terms_means}
use Rattle.logic_term.proofs.Truth.{holds_implies, holds_forall}
use Rattle.proof_kernel.specs.Sequent.{Sequent}
use Rattle.proof_kernel.specs.Sequent.{InSorts, AllHold, IsTrueAt}
use Rattle.proof_kernel.specs.Intro.{assuming, declaring, taken}
use Rattle.proof_kernel.specs.Rules.{label, sort_of, free_in_hyps, with_goal, IsNew, AreNew, Intros}
use Rattle.proof_kernel.proofs.Sound.{sorts_more, hyps_more}
use Rattle.proof_kernel.proofs.Taken.{takes_off_computed}

-- ---- the names that stand for names

abbrev named : List Renaming → (Name → Name) → Name → Name
named [] f z = f z
named (r ∷ rs) f z = named rs (λ y. cond (y.0 == r.from.0) r.to (f y)) z

abbrev pub name_in : List Renaming → Name → Name
name_in rs z = named rs (λ y. y) z

looked : (rs : List Renaming) (σ : List Replacement) (f : Name → Name) → ((y : Name) → look σ y ≡ var (f y)) → (z : Name) → look (numbers_before rs σ) z ≡ var (named rs f z)
looked [] σ f h z = h z
looked (r ∷ rs) σ f h z = looked rs (renaming r ∷ σ) (λ y. cond (y.0 == r.from.0) r.to (f y)) (λ y. by (y.0 == r.from.0) y) z
  where
    by : (b : Bool) (y : Name) → cond b (var r.to) (look σ y) ≡ var (cond b r.to (f y))
    by true y = refl
    by false y = h y

last_named : (rs : List Renaming) (r : Renaming) (f : Name → Name) (z : Name) → named (rs ++ r ∷ []) f z ≡ cond (z.0 == r.from.0) r.to (named rs f z)
last_named [] r f z = refl
last_named (q ∷ rs) r f z = last_named rs r (λ y. cond (y.0 == q.from.0) q.to (f y)) z

-- ---- names among others

pub either_false : (a b : Bool) → (a || b) ≡ false → (a ≡ false) × (b ≡ false)
either_false false b e = (refl, e)
either_false true b e = absurd (true≢false e)

pub not_both : (b : Bool) → b ≡ true → b ≡ false → ⊥
not_both true e f = true≢false f
not_both false e f = true≢false (sym e)

-- what is so of each of the names is so of one that is among them
pub among_new : (names : List Name) (q : Sequent) (z : Name) → AreNew names q → is_one_of z names ≡ true → IsNew z q
among_new [] q z new e = absurd (true≢false (sym e))
among_new (x ∷ xs) q z new e = by (z.0 == x.0) refl (λ h. among_new xs q z new.2 h)
  where
    by : (b : Bool) → (z.0 == x.0) ≡ b → (is_one_of z xs ≡ true → IsNew z q) → IsNew z q
    by true t later = subst (λ y. IsNew y q) (same_name x z (sym (same_test z.0 x.0 t))) new.0
    by false t later = later (sym (ap (λ b. b || is_one_of z xs) t) ∙ e)

-- a name that no new one is, as what is so of it is so of no new one
pub apart : (names : List Name) (z : Name) → (is_one_of z names ≡ true → ⊥) → is_one_of z names ≡ false
apart names z n = by (is_one_of z names) refl
  where
    by : (b : Bool) → is_one_of z names ≡ b → b ≡ false
    by true e = absurd (n e)
    by false e = refl

abbrev pub AreApart : List Name → Type 0
AreApart [] = Unit {0}
AreApart (x ∷ xs) = (is_one_of x xs ≡ false) × AreApart xs

pub new_apart : (names : List Name) (q : Sequent) → AreNew names q → AreApart names
new_apart [] q new = tt
new_apart (x ∷ xs) q new = (new.1, new_apart xs q new.2)

module _ (S : Structure) where
  -- the environments differ at these names alone
  abbrev pub Off : List Name → Env → Env → Type 0
  Off names ρ σ = (z : Name) → is_one_of z names ≡ false → σ z ≡ ρ z

  -- so it is, whatever the values of the names
  abbrev Always : (Env → Type 0) → List Name → Env → Type 0
  Always P names ρ = (σ : Env) → Off names ρ σ → P σ

  -- no name that is to be given stands for a free name of the term
  abbrev Fresh : List Name → List Renaming → Term → Type 0
  Fresh names bound t = (z : Name) → free z t ≡ true → is_one_of (name_in bound z) names ≡ false

  pub renamed_means : (bound : List Renaming) (t : Term) (ρ : Env) → Alike (Means S (renamed bound t) ρ) (Means S t (λ z. ρ (name_in bound z)))
  renamed_means bound t ρ = with_terms_means S t ρ (λ z. ρ (name_in bound z)) (numbers_before bound [])
      (λ x e. subst (λ u. Alike (Means S u ρ) (λ v. v ≡ ρ (name_in bound x))) (sym (looked bound [] (λ y. y) (λ y. refl) x)) (alike_same _))

  ended_sound : (bound : List Renaming) (t : Term) (q r : Sequent) (ρ : Env) → Some (with_goal q (renamed bound t)) ≡ Some r → IsTrueAt S r → InSorts S q.vars ρ → AllHold S q.hyps ρ → Holds S t (λ z. ρ (name_in bound z))
  ended_sound bound t q r ρ e true_r sorts hyps =
      let is : with_goal q (renamed bound t) ≡ r = cc in
      (yes_alike _ _ (renamed_means bound t ρ)).0 (subst (IsTrueAt S) (sym is) true_r ρ sorts hyps)

  -- a premise that is true stays so
  premise_stays : (names : List Name) (bound : List Renaming) (a : Term) (ρ : Env) → Fresh names bound a → Holds S a (λ z. ρ (name_in bound z)) → Always (Holds S (renamed bound a)) names ρ
  premise_stays names bound a ρ fresh h σ off =
      (yes_alike _ _ (renamed_means bound a σ)).1 ((yes_alike _ _ (coincide_free S a (λ z. ρ (name_in bound z)) (λ z. σ (name_in bound z)) (λ z e. sym (off (name_in bound z) (fresh z e))))).0 h)

  -- the environment with one value more, and others at names behind it
  pub off_more : (x : Name) (xs : List Name) (ρ : Env) (w : Value) (σ : Env) → Off xs (with_value ρ x w) σ → Off (x ∷ xs) ρ σ
  off_more x xs ρ w σ off z e = let n = either_false (z.0 == x.0) (is_one_of z xs) e in off z n.1 ∙ ap (λ b. cond b w (ρ z)) n.0

  in_body : (x y z : Name) (xs : List Name) (bound : List Renaming) (ρ : Env) (w : Value) (b : Bool) → (b ≡ false → is_one_of (name_in bound z) (x ∷ xs) ≡ false)
      → with_value ρ x w (cond b x (name_in bound z)) ≡ cond b w (ρ (name_in bound z))
  in_body x y z xs bound ρ w true apart' = with_same ρ x w
  in_body x y z xs bound ρ w false apart' = ap (λ c. cond c w (ρ (name_in bound z))) (either_false ((name_in bound z).0 == x.0) (is_one_of (name_in bound z) xs) (apart' refl)).0

  fresh_body : (x z : Name) (xs : List Name) (bound : List Renaming) (b : Bool) → is_one_of x xs ≡ false → (b ≡ false → is_one_of (name_in bound z) (x ∷ xs) ≡ false) → is_one_of (cond b x (name_in bound z)) xs ≡ false
  fresh_body x z xs bound true own apart' = own
  fresh_body x z xs bound false own apart' = (either_false ((name_in bound z).0 == x.0) (is_one_of (name_in bound z) xs) (apart' refl)).1

  pub under_binder : (b c : Bool) → b ≡ false → c ≡ true → (not b && c) ≡ true
  under_binder true c e f = absurd (true≢false e)
  under_binder false c e f = f

  taken_sound : (s k : ℕ) (names : List Name) (bound : List Renaming) (t : Term) (q r : Sequent) → taken s k names bound t q ≡ Some r → IsTrueAt S r → AreApart names → Fresh names bound t
      → (ρ : Env) → Always (InSorts S q.vars) names ρ → Always (AllHold S q.hyps) names ρ → Holds S t (λ z. ρ (name_in bound z))
  taken_sound s k names bound (apply implied (and_term a (and_term b no_terms))) q r e true_r others fresh ρ sorts hyps =
      (holds_implies S a b (λ z. ρ (name_in bound z))).1 (λ h.
      taken_sound s (suc k) names bound b (assuming q (label s k) (renamed bound a)) r e true_r others
      (λ z f. fresh z (or_right (free z a) (free z b || false) (or_left (free z b) false f))) ρ sorts
      (λ σ off. hyps_more S q.hyps ((label s k, renamed bound a) ∷ []) σ (hyps σ off) (premise_stays names bound a ρ (λ z f. fresh z (or_left (free z a) (free z b || false) f)) h σ off, tt)))
  taken_sound s k names bound (apply implied ts) q r e true_r others fresh ρ sorts hyps = absurd (cc)
  taken_sound s k [] bound (bind every y u b) q r e true_r others fresh ρ sorts hyps = ended_sound bound (bind every y u b) q r ρ e true_r (sorts ρ (λ z f. refl)) (hyps ρ (λ z f. refl))
  taken_sound s k (x ∷ xs) bound (bind every y u b) q r e true_r others fresh ρ sorts hyps =
      (holds_forall S y u b (λ z. ρ (name_in bound z))).1 (λ w sort.
      let ρ' : Env = with_value ρ x w in
      let more : List Renaming = bound ++ record { from = y; to = x } ∷ [] in
      let apart_in : (z : Name) → free z b ≡ true → (z.0 == y.0) ≡ false → is_one_of (name_in bound z) (x ∷ xs) ≡ false = λ z f n. fresh z (under_binder (z.0 == y.0) (free z b) n f) in
      let named_so : (z : Name) → name_in more z ≡ cond (z.0 == y.0) x (name_in bound z) = λ z. last_named bound (record { from = y; to = x }) (λ y'. y') z in
      let body : Holds S b (λ z. ρ' (name_in more z)) = taken_sound s k xs more b (declaring q x u) r e true_r others.1
      (λ z f. ap (λ v. is_one_of v xs) (named_so z) ∙ fresh_body x z xs bound (z.0 == y.0) others.0 (apart_in z f)) ρ'
      (λ σ off. sorts_more S q.vars (x, u) σ (sorts σ (off_more x xs ρ w σ off))
      (subst (λ v. HasSort (declared S.theory) v (instance S.types u)) (sym (off x others.0 ∙ with_same ρ x w)) sort))
      (λ σ off. hyps σ (off_more x xs ρ w σ off)) in
      (yes_alike _ _ (coincide_free S b (λ z. ρ' (name_in more z)) (with_value (λ z. ρ (name_in bound z)) y w)
      (λ z f. ap ρ' (named_so z) ∙ in_body x y z xs bound ρ w (z.0 == y.0) (apart_in z f)))).0 body)
  taken_sound s k [] bound t q r e true_r others fresh ρ sorts hyps = ended_sound bound t q r ρ e true_r (sorts ρ (λ z f. refl)) (hyps ρ (λ z f. refl))
  taken_sound s k (x ∷ xs) bound t q r e true_r others fresh ρ sorts hyps = absurd (cc)

  -- ---- at the start

  pub sorts_off : (names : List Name) (vs : List (Name × Ty)) (ρ σ : Env) → ((z : Name) → is_one_of z names ≡ true → sort_of z vs ≡ None) → Off names ρ σ → InSorts S vs ρ → InSorts S vs σ
  sorts_off names [] ρ σ new off h = tt
  sorts_off names (v ∷ vs) ρ σ new off h = (
    subst (λ u. HasSort (declared S.theory) u (instance S.types v.1)) (sym (off v.0 (apart names v.0 (λ e. at_itself v vs (new v.0 e))))) h.0,
    sorts_off names vs ρ σ (λ z e. behind z v vs (new z e)) off h.1,
  )
    where
      at_itself : (v : Name × Ty) (vs : List (Name × Ty)) → sort_of v.0 (v ∷ vs) ≡ None → ⊥
      at_itself v vs e = by (v.0.0 == v.0.0) (itself v.0.0) e
        where
          itself : (n : ℕ) → (n == n) ≡ true
          itself n = grind (arith, nat_tests)

          by : (b : Bool) → b ≡ true → cond b (Some v.1) (sort_of v.0 vs) ≡ None → ⊥
          by true t e = cc
          by false t e = true≢false (sym t)

      behind : (z : Name) (v : Name × Ty) (vs : List (Name × Ty)) → sort_of z (v ∷ vs) ≡ None → sort_of z vs ≡ None
      behind z v vs e = by (z.0 == v.0.0) e
        where
          by : (b : Bool) → cond b (Some v.1) (sort_of z vs) ≡ None → sort_of z vs ≡ None
          by true e = absurd (cc)
          by false e = e

  pub hyps_off : (names : List Name) (hs : List (Label2 × Term)) (ρ σ : Env) → ((z : Name) → is_one_of z names ≡ true → free_in_hyps z hs ≡ false) → Off names ρ σ → AllHold S hs ρ → AllHold S hs σ
  hyps_off names [] ρ σ new off h = tt
  hyps_off names (g ∷ hs) ρ σ new off h = (
    (yes_alike _ _ (coincide_free S g.1 ρ σ (λ z f. sym (off z (apart names z (λ e. not_both (free z g.1) f (either_false (free z g.1) (free_in_hyps z hs) (new z e)).0)))))).0 h.0,
    hyps_off names hs ρ σ (λ z e. (either_false (free z g.1) (free_in_hyps z hs) (new z e)).1) off h.1,
  )

  pub intros_sound : (s : ℕ) (names : List Name) (q r : Sequent) → Intros s names q r → IsTrueAt S r → IsTrueAt S q
  intros_sound s names q r i true_r = λ ρ sorts hyps.
      taken_sound s 1 names [] q.goal q r (takes_off_computed s names q r i.takes) true_r (new_apart names q i.new)
      (λ z f. apart names z (λ e. not_both (free z q.goal) f (among_new names q z i.new e).in_goal)) ρ
      (λ σ off. sorts_off names q.vars ρ σ (λ z e. (among_new names q z i.new e).in_vars) off sorts)
      (λ σ off. hyps_off names q.hyps ρ σ (λ z e. (among_new names q z i.new e).in_hyps) off hyps)
