-- What each step makes of the first sequent in a setting, one case a kind of step, and proofs.
use Rattle.std.specs.Prelude.{◌≡◌, ℕ, suc, true, false, List, [], ◌∷◌, ◌++◌, map, Some}
use Rattle.text_core.specs.declared.name.Name.{Name}
use Rattle.logic_term.specs.declared.kinds.Label2.{Label2}
use Rattle.logic_term.specs.declared.obligation.Obligation.{Obligation}
use Rattle.logic_term.specs.Term.{Term, is_conjunction}
use Rattle.logic_term.specs.Canonical.{SameUpToNames}
use Rattle.logic_term.specs.Meaning.{Structure}
use Rattle.proof_kernel.specs.Sequent.{Sequent}
use Rattle.proof_kernel.specs.declared.setting.Tables.{Tables}
use Rattle.proof_kernel.specs.declared.step.Multiple.{Multiple}
use Rattle.proof_kernel.specs.declared.step.Step.{Step}
use Rattle.proof_kernel.specs.declared.step.GoalRule.{GoalRule}
use Rattle.proof_kernel.specs.declared.step.HypothesisRule.{HypothesisRule}
use Rattle.proof_kernel.specs.declared.step.PairRule.{PairRule}
use Rattle.proof_kernel.specs.declared.step.Rewriting.{Rewriting}
use Rattle.proof_kernel.specs.declared.step.Target.{Target}
use Rattle.proof_kernel.specs.declared.step.TermRule.{TermRule}
use Rattle.proof_kernel.specs.declared.step.Step.TheVariants.{Intro, Hyp, Split, Lin, OnGoal, OnHypothesis, OnTwo, Rewrite, Decide, OnTerm, Divide, Instantiate, Unpack, ByVariants, Induct}
use Rattle.proof_kernel.specs.Sequent.{sequent_of}
use Rattle.proof_kernel.specs.Setting.{Setting, setting_of}
use Rattle.proof_kernel.specs.Linear.{Certifies}
use Rattle.proof_kernel.specs.GoalRules.{goal_rule}
use Rattle.proof_kernel.specs.HypothesisRules.{hypothesis_rule}
use Rattle.proof_kernel.specs.PairRules.{pair_rule}
use Rattle.proof_kernel.specs.RewriteRules.{rewrite_rule}
use Rattle.proof_kernel.specs.DecideRule.{decide_rule}
use Rattle.proof_kernel.specs.TermRules.{term_rule, division_rule}
use Rattle.proof_kernel.specs.Instances.{instance_rule}
use Rattle.proof_kernel.specs.UnpackRule.{unpack_rule}
use Rattle.source_trees.specs.Pterm.{Pterm}
use Rattle.proof_kernel.specs.VariantRules.{AllNew, variants_rule, induction_rule}
use Rattle.proof_kernel.specs.Rules.{hypothesis, free_in_hyps, with_goal, IsNew, Intros, TakesSome, conjuncts}

-- step number s makes these premises of the sequent
pub data Gives (w : Setting) (s : ℕ) (q : Sequent) : Step → List Sequent → Type 0 where
  by_intro : {names : List Name} {r : Sequent} → TakesSome names q → Intros s names q r → Gives w s q (Intro names) (r ∷ [])
  by_hyp : {l : Label2} {h : Term} → hypothesis l q.hyps ≡ Some h → SameUpToNames h q.goal → Gives w s q (Hyp l) []
  by_split : is_conjunction q.goal ≡ true → Gives w s q Split (map (with_goal q) (conjuncts q.goal))
  by_lin : {ms : List Multiple} → Certifies q ms → Gives w s q (Lin ms) []
  by_goal : {r : GoalRule} {ps : List Sequent} → goal_rule r s q ≡ Some ps → Gives w s q (OnGoal r) ps
  by_hypothesis : {r : HypothesisRule} {l : Label2} {ps : List Sequent} → hypothesis_rule r s l q ≡ Some ps → Gives w s q (OnHypothesis r l) ps
  by_two : {r : PairRule} {l m : Label2} {ps : List Sequent} → pair_rule r s l m q ≡ Some ps → Gives w s q (OnTwo r l m) ps
  by_rewriting : {r : Rewriting} {ps : List Sequent} → rewrite_rule r s q ≡ Some ps → Gives w s q (Rewrite r) ps
  by_deciding : {l : Label2} {to : Target} {ps : List Sequent} → decide_rule s q l to ≡ Some ps → Gives w s q (Decide l to) ps
  by_term : {r : TermRule} {t : Pterm} {ps : List Sequent} → term_rule w.tables.adts r s q t ≡ Some ps → Gives w s q (OnTerm r t) ps
  by_division : {t u : Pterm} {ps : List Sequent} → division_rule w.tables.adts s q t u ≡ Some ps → Gives w s q (Divide t u) ps
  by_instance : {l : Label2} {ts : List Pterm} {ps : List Sequent} → instance_rule w.tables.adts s q l ts ≡ Some ps → Gives w s q (Instantiate l ts) ps
  by_unpacking : {l : Label2} {x : Name} {ps : List Sequent} → IsNew x q → unpack_rule s q l x ≡ Some ps → Gives w s q (Unpack l x) ps
  by_variants : {t : Pterm} {names : List (List Name)} {ps : List Sequent} → AllNew names q → variants_rule w.tables.adts s q t names ≡ Some ps → Gives w s q (ByVariants t names) ps
  by_induction : {x : Name} {names : List (List Name)} {ps : List Sequent} → AllNew names q → free_in_hyps x q.hyps ≡ false → induction_rule w.tables.adts s q x names ≡ Some ps → Gives w s q (Induct x names) ps

-- what the step cites besides hypotheses is true in the structure; no step cites anything else yet
abbrev pub CitedAreTrue : Setting → Structure → Step → Type 0
CitedAreTrue w S (Intro names) = Unit {0}
CitedAreTrue w S (Hyp l) = Unit {0}
CitedAreTrue w S Split = Unit {0}
CitedAreTrue w S (Lin ms) = Unit {0}
CitedAreTrue w S (OnGoal r) = Unit {0}
CitedAreTrue w S (OnHypothesis r l) = Unit {0}
CitedAreTrue w S (OnTwo r l m) = Unit {0}
CitedAreTrue w S (Rewrite r) = Unit {0}
CitedAreTrue w S (Decide l to) = Unit {0}
CitedAreTrue w S (OnTerm r t) = Unit {0}
CitedAreTrue w S (Divide t u) = Unit {0}
CitedAreTrue w S (Instantiate l ts) = Unit {0}
CitedAreTrue w S (Unpack l x) = Unit {0}
CitedAreTrue w S (ByVariants t names) = Unit {0}
CitedAreTrue w S (Induct x names) = Unit {0}

-- the steps, numbered from s, lead from the first sequents to the second; each acts on the first and puts its premises there
pub data Derives (w : Setting) : ℕ → List Sequent → List Step → List Sequent → Type 0 where
  no_step : {s : ℕ} {qs : List Sequent} → Derives w s qs [] qs
  one_step : {s : ℕ} {q : Sequent} {ps qs rs : List Sequent} {step : Step} {steps : List Step} → Gives w s q step ps → Derives w (suc s) (ps ++ qs) steps rs → Derives w s (q ∷ qs) (step ∷ steps) rs

-- the steps are a proof of the obligation, with these tables
abbrev pub IsProof : Tables → Obligation → List Step → Type 0
IsProof T o steps = Derives (setting_of T o) 1 (sequent_of o ∷ []) steps []
