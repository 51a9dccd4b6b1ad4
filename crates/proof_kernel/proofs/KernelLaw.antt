-- What the kernel finds and does, on lists.
use Rattle.std.proofs.Common.{◌≡◌, ℕ, List, [], ◌∷◌, ◌++◌, ◌+◌, map, true, reverse, Option, Some, None, refl, sym, ◌∙◌, ap, subst, false}
use Rattle.std.specs.Global.{Vec}
use Rattle.text_core.specs.declared.name.Name.{Name}
use Rattle.logic_term.specs.declared.kinds.Label2.{Label2}
use Rattle.logic_term.specs.Term.{Term, is_conjunction}
use Rattle.logic_term.specs.Canonical.{SameUpToNames}
use Rattle.proof_kernel.specs.declared.step.Multiple.{Multiple}
use Rattle.proof_kernel.specs.Sequent.{Sequent}
use Rattle.proof_kernel.specs.declared.step.Step.{Step}
use Rattle.proof_kernel.specs.declared.step.Step.TheVariants.{Intro, Hyp, Split, Lin, OnGoal, OnHypothesis, OnTwo, Rewrite, Decide, OnTerm, Divide, Instantiate, Unpack, ByVariants, Induct}
use Rattle.proof_kernel.specs.declared.kernel.Made.{Made}
use Rattle.proof_kernel.specs.declared.kernel.Made.TheVariants.{Premises, TooWide, Nothing}
use Rattle.proof_kernel.specs.Setting.{Setting}
use Rattle.proof_kernel.specs.Progress.{Progress}
use Rattle.proof_kernel.proofs.Once.{given}
use Rattle.proof_kernel.specs.Derivation.{Gives, by_intro, by_hyp, by_split, by_lin, by_goal, by_hypothesis, by_two, by_rewriting, by_deciding, by_term, by_division, by_instance, by_unpacking, by_variants, by_induction}
use Rattle.proof_kernel.specs.Linear.{Certifies}
use Rattle.proof_kernel.specs.declared.step.GoalRule.{GoalRule}
use Rattle.proof_kernel.specs.declared.step.HypothesisRule.{HypothesisRule}
use Rattle.proof_kernel.specs.declared.step.PairRule.{PairRule}
use Rattle.proof_kernel.specs.declared.step.Rewriting.{Rewriting}
use Rattle.proof_kernel.specs.declared.step.Target.{Target}
use Rattle.proof_kernel.specs.declared.step.TermRule.{TermRule}
use Rattle.source_trees.specs.Pterm.{Pterm}
use Rattle.proof_kernel.specs.GoalRules.{goal_rule}
use Rattle.proof_kernel.specs.HypothesisRules.{hypothesis_rule}
use Rattle.proof_kernel.specs.PairRules.{pair_rule}
use Rattle.proof_kernel.specs.RewriteRules.{rewrite_rule}
use Rattle.proof_kernel.specs.DecideRule.{decide_rule}
use Rattle.proof_kernel.specs.UnpackRule.{unpack_rule}
use Rattle.proof_kernel.specs.TermRules.{term_rule, division_rule}
use Rattle.proof_kernel.specs.Instances.{instance_rule}
use Rattle.proof_kernel.specs.Rules.{Finds, hypothesis, with_goal, conjuncts, IsNew, Intros, TakesSome, free_in_hyps}
use Rattle.proof_kernel.specs.VariantRules.{AllNew, variants_rule, induction_rule}
use Rattle.proof_kernel.specs.Kernel.{Applies, IsWide}
use Rattle.proof_kernel.specs.Made.{IsMadeFirst, PassesWidthAt, others_of}

abbrev pub at : Setting → ℕ → List Sequent → Progress
at w s left = record { setting = w; step = s; left = left }

wide_at : (w : Setting) (q : Sequent) (qs : List Sequent) (step : Step) (s : ℕ) → PassesWidthAt q step → IsWide (at w s (q ∷ qs)) step
wide_at w q qs (Intro names) s p = absurd p
wide_at w q qs (Hyp l) s p = absurd p
wide_at w q qs Split s p = absurd p
wide_at w q qs (OnGoal r) s p = absurd p
wide_at w q qs (OnHypothesis r l) s p = absurd p
wide_at w q qs (OnTwo r l m) s p = absurd p
wide_at w q qs (Rewrite r) s p = absurd p
wide_at w q qs (Decide l to) s p = absurd p
wide_at w q qs (OnTerm r t) s p = absurd p
wide_at w q qs (Divide t u) s p = absurd p
wide_at w q qs (Instantiate l ts) s p = absurd p
wide_at w q qs (Unpack l x) s p = absurd p
wide_at w q qs (ByVariants t names) s p = absurd p
wide_at w q qs (Induct x names) s p = absurd p
wide_at w q qs (Lin ms) s p = record { first = q; others = qs; multiples = ms; was = refl; is_lin = refl; passes = p }

is_wide : (w : Setting) (left : List Sequent) (step : Step) (s : ℕ) → IsMadeFirst w s left step TooWide → IsWide (at w s left) step
is_wide w [] step s m = absurd (cc)
is_wide w (q ∷ qs) step s m = wide_at w q qs step s m

applied_with : (w : Setting) (s : ℕ) (left : List Sequent) (step : Step) (premises : Vec Sequent) → IsMadeFirst w s left step (Premises premises) → Applies (at w s left) step (at w (s + 1) (premises.items ++ others_of left))
applied_with w s [] step premises m = absurd (cc)
applied_with w s (q ∷ qs) step premises m = record { first = q; others = qs; premises = premises.items; was = refl; gives = m; is = refl }

applied_at : (w : Setting) (s : ℕ) (left : List Sequent) (step : Step) (found : Made) → IsMadeFirst w s left step found
    → (found ≡ TooWide → ⊥) → (found ≡ Nothing → ⊥) → (after : Progress) × Applies (at w s left) step after
applied_at w s left step TooWide m t n = absurd (t refl)
applied_at w s left step Nothing m t n = absurd (n refl)
applied_at w s left step (Premises found) m t n = (at w (s + 1) (found.items ++ others_of left), applied_with w s left step found m)

-- what is made of the first of the sequents that stand in the stack, the first one last
module _ (w : Setting) (s : ℕ) (stack items : List Sequent) (step : Step) (found : Made) (before : Progress) (is : items ≡ stack) (made : IsMadeFirst w s (reverse items) step found) (seen : at w s (reverse stack) ≡ before) where
  -- the certificate is too wide there
  pub wide_found : found ≡ TooWide → IsWide before step
  wide_found f =
      let wide : IsMadeFirst w s (reverse stack) step TooWide = subst (λ l. IsMadeFirst w s (reverse l) step TooWide) is (subst (λ x. IsMadeFirst w s (reverse items) step x) f made) in
      subst (λ p. IsWide p step) seen (is_wide w (reverse stack) step s wide)

  -- the step can be done there
  pub done_found : (found ≡ TooWide → ⊥) → (found ≡ Nothing → ⊥) → (after : Progress) × Applies before step after
  done_found t n =
      subst (λ p. (after : Progress) × Applies p step after) seen (applied_at w s (reverse stack) step found (subst (λ l. IsMadeFirst w s (reverse l) step found) is made) t n)

  -- and leaves these sequents, its premises standing in the place of the first
  pub step_found : (premises : Vec Sequent) (left : List Sequent) → found ≡ Premises premises → left ≡ premises.items ++ others_of (reverse stack) → Applies before step (at w (s + 1) left)
  step_found premises left f e =
      let there : IsMadeFirst w s (reverse stack) step (Premises premises) = subst (λ l. IsMadeFirst w s (reverse l) step (Premises premises)) is (subst (λ x. IsMadeFirst w s (reverse items) step x) f made) in
      subst (λ p. Applies p step (at w (s + 1) left)) seen
      (subst (λ l. Applies (at w s (reverse stack)) step (at w (s + 1) l)) (sym e) (applied_with w s (reverse stack) step premises there))

pub same_step : (w : Setting) (s : ℕ) (left : List Sequent) (before : Progress) → at w s left ≡ before → s ≡ before.step
same_step w s left before e = ap (λ p. p.step) e

-- ---- what each rule gives

pub intro_given : (w : Setting) (s : ℕ) (q r : Sequent) (ns names : List Name) (ps : List Sequent) → ns ≡ names → TakesSome ns q × Intros s ns q r → ps ≡ r ∷ [] → Gives w s q (Intro names) ps
intro_given w s q r ns names ps n p e = subst (λ l. Gives w s q (Intro names) l) (sym e) (subst (λ l. Gives w s q (Intro l) (r ∷ [])) n (by_intro p.0 p.1))

pub no_intro : (w : Setting) (s : ℕ) (q : Sequent) (ns names : List Name) → ns ≡ names → ((r : Sequent) → TakesSome ns q → Intros s ns q r → ⊥) → (ps : List Sequent) → Gives w s q (Intro names) ps → ⊥
no_intro w s q ns names e none ps g = let has = given w s q (Intro names) ps g in let at : (r : Sequent) → TakesSome names q → Intros s names q r → ⊥ = subst (λ l. (r : Sequent) → TakesSome l q → Intros s l q r → ⊥) e none in at has.1.0 has.0 has.1.1

pub hyp_given : (w : Setting) (s : ℕ) (q : Sequent) (l : Label2) (ps : List Sequent) → (h : Term) × (hypothesis l q.hyps ≡ Some h) × SameUpToNames h q.goal → ps ≡ [] → Gives w s q (Hyp l) ps
hyp_given w s q l ps p e = subst (λ ps. Gives w s q (Hyp l) ps) (sym e) (by_hyp p.1 p.2)

pub split_given : (w : Setting) (s : ℕ) (q : Sequent) (ps : List Sequent) → is_conjunction q.goal ≡ true → ps ≡ map (with_goal q) (conjuncts q.goal) → Gives w s q Split ps
split_given w s q ps c e = subst (λ ps. Gives w s q Split ps) (sym e) (by_split c)

pub lin_given : (w : Setting) (s : ℕ) (q : Sequent) (ns ms : List Multiple) (ps : List Sequent) → ns ≡ ms → Certifies q ns → ps ≡ [] → Gives w s q (Lin ms) ps
lin_given w s q ns ms ps n c e = subst (λ l. Gives w s q (Lin ms) l) (sym e) (subst (λ l. Gives w s q (Lin l) []) n (by_lin c))

-- ---- what is found by the form of the goal or of hypotheses

found_is : (r : Option (List Sequent)) (o : Option (Vec Sequent)) (v : Vec Sequent) → o ≡ Some v → Finds r o → r ≡ Some v.items
found_is r None v e f = absurd (cc)
found_is r (Some w) v e f = let same : w ≡ v = cc in f ∙ ap (λ (u : Vec Sequent). Some u.items) same

none_is : (r : Option (List Sequent)) (o : Option (Vec Sequent)) (ps : List Sequent) → o ≡ None → Finds r o → r ≡ Some ps → ⊥
none_is r None ps e f g = absurd (cc)
none_is r (Some w) ps e f g = absurd (cc)

module _ (w : Setting) (s : ℕ) (q : Sequent) (o : Option (Vec Sequent)) where
  pub goal_given : (r : GoalRule) (v : Vec Sequent) → o ≡ Some v → Finds (goal_rule r s q) o → Gives w s q (OnGoal r) v.items
  goal_given r v e f = by_goal (found_is (goal_rule r s q) o v e f)

  pub no_goal : (r : GoalRule) → o ≡ None → Finds (goal_rule r s q) o → (ps : List Sequent) → Gives w s q (OnGoal r) ps → ⊥
  no_goal r e f ps g = none_is (goal_rule r s q) o ps e f (given w s q (OnGoal r) ps g)

  pub hypothesis_given : (r : HypothesisRule) (l : Label2) (v : Vec Sequent) → o ≡ Some v → Finds (hypothesis_rule r s l q) o → Gives w s q (OnHypothesis r l) v.items
  hypothesis_given r l v e f = by_hypothesis (found_is (hypothesis_rule r s l q) o v e f)

  pub no_hypothesis : (r : HypothesisRule) (l : Label2) → o ≡ None → Finds (hypothesis_rule r s l q) o → (ps : List Sequent) → Gives w s q (OnHypothesis r l) ps → ⊥
  no_hypothesis r l e f ps g = none_is (hypothesis_rule r s l q) o ps e f (given w s q (OnHypothesis r l) ps g)

  pub two_given : (r : PairRule) (l m : Label2) (v : Vec Sequent) → o ≡ Some v → Finds (pair_rule r s l m q) o → Gives w s q (OnTwo r l m) v.items
  two_given r l m v e f = by_two (found_is (pair_rule r s l m q) o v e f)

  pub no_two : (r : PairRule) (l m : Label2) → o ≡ None → Finds (pair_rule r s l m q) o → (ps : List Sequent) → Gives w s q (OnTwo r l m) ps → ⊥
  no_two r l m e f ps g = none_is (pair_rule r s l m q) o ps e f (given w s q (OnTwo r l m) ps g)

  pub rewriting_given : (r : Rewriting) (v : Vec Sequent) → o ≡ Some v → Finds (rewrite_rule r s q) o → Gives w s q (Rewrite r) v.items
  rewriting_given r v e f = by_rewriting (found_is (rewrite_rule r s q) o v e f)

  pub no_rewriting : (r : Rewriting) → o ≡ None → Finds (rewrite_rule r s q) o → (ps : List Sequent) → Gives w s q (Rewrite r) ps → ⊥
  no_rewriting r e f ps g = none_is (rewrite_rule r s q) o ps e f (given w s q (Rewrite r) ps g)

  pub decide_given : (l : Label2) (to : Target) (v : Vec Sequent) → o ≡ Some v → Finds (decide_rule s q l to) o → Gives w s q (Decide l to) v.items
  decide_given l to v e f = by_deciding (found_is (decide_rule s q l to) o v e f)

  pub no_decision : (l : Label2) (to : Target) → o ≡ None → Finds (decide_rule s q l to) o → (ps : List Sequent) → Gives w s q (Decide l to) ps → ⊥
  no_decision l to e f ps g = none_is (decide_rule s q l to) o ps e f (given w s q (Decide l to) ps g)

  pub term_given : (r : TermRule) (t : Pterm) (v : Vec Sequent) → o ≡ Some v → Finds (term_rule w.tables.adts r s q t) o → Gives w s q (OnTerm r t) v.items
  term_given r t v e f = by_term (found_is (term_rule w.tables.adts r s q t) o v e f)

  pub no_term : (r : TermRule) (t : Pterm) → o ≡ None → Finds (term_rule w.tables.adts r s q t) o → (ps : List Sequent) → Gives w s q (OnTerm r t) ps → ⊥
  no_term r t e f ps g = none_is (term_rule w.tables.adts r s q t) o ps e f (given w s q (OnTerm r t) ps g)

  pub division_given : (t u : Pterm) (v : Vec Sequent) → o ≡ Some v → Finds (division_rule w.tables.adts s q t u) o → Gives w s q (Divide t u) v.items
  division_given t u v e f = by_division (found_is (division_rule w.tables.adts s q t u) o v e f)

  pub no_division : (t u : Pterm) → o ≡ None → Finds (division_rule w.tables.adts s q t u) o → (ps : List Sequent) → Gives w s q (Divide t u) ps → ⊥
  no_division t u e f ps g = none_is (division_rule w.tables.adts s q t u) o ps e f (given w s q (Divide t u) ps g)

  pub instance_given : (l : Label2) (ts : List Pterm) (v : Vec Sequent) → o ≡ Some v → Finds (instance_rule w.tables.adts s q l ts) o → Gives w s q (Instantiate l ts) v.items
  instance_given l ts v e f = by_instance (found_is (instance_rule w.tables.adts s q l ts) o v e f)

  pub no_instance : (l : Label2) (ts : List Pterm) → o ≡ None → Finds (instance_rule w.tables.adts s q l ts) o → (ps : List Sequent) → Gives w s q (Instantiate l ts) ps → ⊥
  no_instance l ts e f ps g = none_is (instance_rule w.tables.adts s q l ts) o ps e f (given w s q (Instantiate l ts) ps g)

  pub unpack_given : (l : Label2) (x : Name) (v : Vec Sequent) → IsNew x q → o ≡ Some v → Finds (unpack_rule s q l x) o → Gives w s q (Unpack l x) v.items
  unpack_given l x v new e f = by_unpacking new (found_is (unpack_rule s q l x) o v e f)

  pub no_unpacking : (l : Label2) (x : Name) → o ≡ None → Finds (unpack_rule s q l x) o → (ps : List Sequent) → Gives w s q (Unpack l x) ps → ⊥
  no_unpacking l x e f ps g = none_is (unpack_rule s q l x) o ps e f (given w s q (Unpack l x) ps g).1

  -- ---- by variants

  pub variants_given : (t : Pterm) (ns names : List (List Name)) (v : Vec Sequent) → ns ≡ names → AllNew ns q → o ≡ Some v → Finds (variants_rule w.tables.adts s q t ns) o → Gives w s q (ByVariants t names) v.items
  variants_given t ns names v n new e f = subst (λ l. Gives w s q (ByVariants t l) v.items) n (by_variants new (found_is (variants_rule w.tables.adts s q t ns) o v e f))

  pub no_variants : (t : Pterm) (ns names : List (List Name)) → ns ≡ names → o ≡ None → Finds (variants_rule w.tables.adts s q t ns) o → (ps : List Sequent) → Gives w s q (ByVariants t names) ps → ⊥
  no_variants t ns names n e f ps g = none_is (variants_rule w.tables.adts s q t ns) o ps e f (given w s q (ByVariants t ns) ps (subst (λ l. Gives w s q (ByVariants t l) ps) (sym n) g)).1

  pub induction_given : (x : Name) (ns names : List (List Name)) (v : Vec Sequent) → ns ≡ names → AllNew ns q × (free_in_hyps x q.hyps ≡ false) → o ≡ Some v → Finds (induction_rule w.tables.adts s q x ns) o → Gives w s q (Induct x names) v.items
  induction_given x ns names v n new e f = subst (λ l. Gives w s q (Induct x l) v.items) n (by_induction new.0 new.1 (found_is (induction_rule w.tables.adts s q x ns) o v e f))

  pub no_induction : (x : Name) (ns names : List (List Name)) → ns ≡ names → o ≡ None → Finds (induction_rule w.tables.adts s q x ns) o → (ps : List Sequent) → Gives w s q (Induct x names) ps → ⊥
  no_induction x ns names n e f ps g = none_is (induction_rule w.tables.adts s q x ns) o ps e f (given w s q (Induct x ns) ps (subst (λ l. Gives w s q (Induct x l) ps) (sym n) g)).2
