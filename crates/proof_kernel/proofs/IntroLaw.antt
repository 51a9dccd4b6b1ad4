-- Taking off what leads a goal.
use Rattle.std.proofs.Common.{◌≡◌, ℕ, ◌+◌, ◌<◌, ◌≤◌, Bool, true, false, List, [], ◌∷◌, length, get_or, drop, drop-cons, Some, None, refl, sym, ◌∙◌, ap, ap₂, subst, add-one, arith, true≢false}
use Rattle.std.proofs.lemmas.List.{drop_all}
use Rattle.std.specs.Prelude.{◌↔◌, Option, Result, Ok, Err, IfOk, MatchOption}
use Rattle.text_core.specs.declared.name.Name.{Name}
use Rattle.text_core.specs.declared.fault.NoMemory.{NoMemory}
use Rattle.logic_term.specs.declared.subst.Renaming.{Renaming}
use Rattle.logic_term.specs.Canonical.{is_one_of, above_free}
use Rattle.logic_term.specs.Free.{free}
use Rattle.logic_term.specs.Subst.{renamed}
use Rattle.logic_term.specs.Term.{Term, two, implies, is_implication, is_quantified}
use Rattle.logic_term.specs.TermOperator.{binary_operator}
use Rattle.logic_term.specs.declared.kinds.TermBinary.{TermBinary}
use Rattle.logic_term.specs.declared.kinds.TermBinary.TheVariants.{Implies}
use Rattle.logic_term.proofs.CanonicalLaw.{free_below}
use Rattle.proof_kernel.specs.Sequent.{Sequent}
use Rattle.proof_kernel.specs.Rules.{label, with_goal, IsNew, AreNew, TakesOff, TakesSome, Intros}
use Rattle.proof_kernel.specs.Intro.{assuming, taken}
use Rattle.proof_kernel.proofs.Taken.{other_ends, none_left, takes_off_computed, computed_takes_off}

-- ---- names that are new

not_true : (b : Bool) → (b ≡ true → ⊥) → b ≡ false
not_true true n = absurd (n refl)
not_true false n = refl

pub not_free_above : (x : Name) (t : Term) → above_free [] t ≤ x.0 → free x t ≡ false
not_free_above x t l = not_true (free x t) (λ e. let k : x.0 < above_free [] t = free_below [] t x e refl in absurd (omega arith))

-- ---- one name after the other

pub new_next : (names : List Name) (i : ℕ) (d : Name) (q : Sequent) → i < length names
    → AreNew (drop i names) q ↔ (IsNew (get_or names i d) q × (is_one_of (get_or names i d) (drop (i + 1) names) ≡ false) × AreNew (drop (i + 1) names) q)
new_next names i d q l =
    let e : drop i names ≡ get_or names i d ∷ drop (i + 1) names = rw (add-one, drop-cons names i d) refl in
    subst (λ ns. AreNew ns q ↔ (IsNew (get_or names i d) q × (is_one_of (get_or names i d) (drop (i + 1) names) ≡ false) × AreNew (drop (i + 1) names) q)) (sym e) ((λ p. p), (λ p. p))

pub all_new : (names : List Name) (i : ℕ) (q : Sequent) → length names ≤ i → AreNew (drop i names) q
all_new names i q l = subst (λ ns. AreNew ns q) (sym (drop_all i names l)) tt

-- ---- the loop

abbrev pub turn : Bool → ℕ
turn true = 1
turn false = 0

-- what is left to be taken off gives what the whole gives; in the end nothing leads, or no name is left for what does
pub record Taking (s : ℕ) (names : List Name) (first : Sequent) (used k : ℕ) (bound : List Renaming) (t : Term) (q : Sequent) (leads : Bool) : Type 0 where
  pub within : used ≤ length names
  pub same : taken s 1 names [] first.goal first ≡ taken s k (drop used names) bound t q
  pub ends : leads ≡ false → (is_implication t ≡ false) × (used < length names → is_quantified t ≡ false)

pub premise_leads : (op : TermBinary) (t a b : Term) → op ≡ Implies → two (binary_operator op) a b ≡ t → t ≡ implies a b
premise_leads op t a b is e = sym e ∙ ap (λ o. two (binary_operator o) a b) is

-- one more premise is taken off
pub premise_taken : (s : ℕ) (names : List Name) (first : Sequent) (used k j : ℕ) (bound more : List Renaming) (t a b : Term) (q r : Sequent) (leads on : Bool) → Taking s names first used k bound t q leads → t ≡ implies a b
    → r ≡ assuming q (label s k) (renamed bound a) → more ≡ bound → j ≡ k + 1 → on ≡ true → Taking s names first used j more b r on
premise_taken s names first used k j bound more t a b q r leads on h is assumes same next goes_on = record {
  within = h.within;
  same = h.same ∙ ap (λ g. taken s k (drop used names) bound g q) is ∙ ap₂ (λ i p. taken s i (drop used names) bound b p) (sym (next ∙ add-one k)) (sym assumes) ∙ ap (λ bs. taken s j (drop used names) bs b r) (sym same);
  ends = λ e. absurd (true≢false (sym goes_on ∙ e));
}

-- a name is left, and nothing leads for which it could be: so no result is
pub none_taken : (s : ℕ) (names : List Name) (first : Sequent) (used k : ℕ) (bound : List Renaming) (t : Term) (q : Sequent) (leads : Bool) (d : Name) → Taking s names first used k bound t q leads → leads ≡ false → used < length names
    → (r : Sequent) → TakesOff s names first r → ⊥
none_taken s names first used k bound t q leads d h ended l r takes =
    let e : drop used names ≡ get_or names used d ∷ drop (used + 1) names = rw (add-one, drop-cons names used d) refl in
    let none : taken s 1 names [] first.goal first ≡ None =
    h.same ∙ ap (λ ns. taken s k ns bound t q) e ∙ other_ends s k (get_or names used d ∷ drop (used + 1) names) bound t q (h.ends ended).0 ((h.ends ended).1 l) in
    let some : None ≡ Some r = sym none ∙ takes_off_computed s names first r takes in
    absurd (cc)

-- no name is left, and no premise leads: so the sequent with what is left of the goal is the result
pub all_taken : (s : ℕ) (names : List Name) (first : Sequent) (used k : ℕ) (bound : List Renaming) (t : Term) (q r : Sequent) (leads : Bool) → Taking s names first used k bound t q leads → leads ≡ false → length names ≤ used
    → r ≡ with_goal q (renamed bound t) → TakesOff s names first r
all_taken s names first used k bound t q r leads h ended l e =
    computed_takes_off s names first r
    (h.same ∙ ap (λ ns. taken s k ns bound t q) (drop_all used names l) ∙ none_left s k bound t q (h.ends ended).0 ∙ ap (λ p. Some p) (sym e))

-- ---- the step

-- what is taken off of a goal is what the step gives, where something is to be taken off and the names are new
pub step_gives : (s : ℕ) (names : List Name) (q : Sequent) (r : Result (Option Sequent) NoMemory) → TakesSome names q → AreNew names q
    → IfOk r (λ o. MatchOption o ((p : Sequent) → TakesOff s names q p → ⊥) (λ p. TakesOff s names q p))
    → IfOk r (λ o. MatchOption o ((p : Sequent) → TakesSome names q → Intros s names q p → ⊥) (λ p. TakesSome names q × Intros s names q p))
step_gives s names q (Err e) some new h = h
step_gives s names q (Ok None) some new h = λ p t i. h p i.takes
step_gives s names q (Ok (Some p)) some new h = (some, record { new = new; takes = h })
