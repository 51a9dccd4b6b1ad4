-- What a step by the form of the goal or of hypotheses cites is there, and what it adds is its own.
use Rattle.std.proofs.Common.{◌≡◌, ℕ, suc, Bool, true, false, cond, List, [], ◌∷◌, map, Option, Some, None, refl, subst}
use Rattle.std.specs.Option.{option_map}
use Rattle.text_core.specs.declared.name.Name.{Name}
use Rattle.logic_term.specs.declared.kinds.Label2.{Label2}
use Rattle.logic_term.specs.Normal.{reduced}
use Rattle.logic_term.specs.Term.{some, Term, bind, not}
use Rattle.logic_term.specs.declared.declaration.AdtDecl.{AdtDecl}
use Rattle.logic_term.specs.Ty.{Ty}
use Rattle.logic_elab.specs.declared.sorted.SortedTerm.{SortedTerm}
use Rattle.proof_kernel.specs.Sequent.{Sequent}
use Rattle.proof_kernel.specs.declared.step.GoalRule.{GoalRule}
use Rattle.proof_kernel.specs.declared.step.GoalRule.TheVariants.{Refl, Truth, Left, Right, Contra, ByContradiction, Iff, Antisymmetry}
use Rattle.proof_kernel.specs.declared.step.HypothesisRule.{HypothesisRule}
use Rattle.proof_kernel.specs.declared.step.HypothesisRule.TheVariants.{Cases, Absurd, Drop, Revert, Back, Inject, Differ}
use Rattle.proof_kernel.specs.declared.step.PairRule.{PairRule}
use Rattle.proof_kernel.specs.declared.step.PairRule.TheVariants.{ModusPonens, Contradiction, Product}
use Rattle.proof_kernel.specs.declared.step.Rewriting.{Rewriting}
use Rattle.proof_kernel.specs.declared.step.Step.TheVariants.{Rewrite}
use Rattle.proof_kernel.specs.declared.step.Target.{Target}
use Rattle.proof_kernel.specs.declared.step.Target.TheVariants as targets
use Rattle.proof_kernel.specs.GoalRules.{is_reflexive, is_true, left_of, right_of, denied_of, both_ways, both_orders, to_show, to_show_all, to_refute, goal_rule}
use Rattle.proof_kernel.specs.BackRule.{back_of}
use Rattle.proof_kernel.specs.ConstructorRules.{injected, equates_apart}
use Rattle.proof_kernel.specs.HypothesisRules.{is_false, cases_of, in_cases, together, on_hypothesis, hypothesis_rule}
use Rattle.proof_kernel.specs.PairRules.{concluded, is_denied_by, distance, product, adding, on_two, pair_rule}
use Rattle.source_trees.specs.Pterm.{Pterm}
use Rattle.proof_kernel.specs.declared.step.TermRule.{TermRule}
use Rattle.proof_kernel.specs.declared.step.TermRule.TheVariants.{Cut, On, Range, Witness, Eta}
use Rattle.proof_kernel.specs.TermRules.{term_at, witnessed, assuming_all, formula, shown_first, true_or_false, bounds_at, by_term, by_term_if, term_rule, number_if, division_of, division_rule}
use Rattle.proof_kernel.specs.DecideRule.{decided, decide_by, decide_rule}
use Rattle.proof_kernel.specs.EtaRule.{eta_at}
use Rattle.proof_kernel.specs.Instances.{instance_if, instance_rule}
use Rattle.proof_kernel.specs.UnpackRule.{under_name, unpacking, unpack_rule}
use Rattle.proof_kernel.specs.RewriteRules.{rewritten, changing, rewrite_rule}
use Rattle.proof_kernel.specs.Rules.{label, same_label, hypothesis, without, labelled, with_goal, with_hyps, closed_if}
use Rattle.proof_kernel.specs.Steps.{label_of_target, labels_of, IsLabelOf}
use Rattle.proof_kernel.proofs.Each.{Each, Has, each_and}
use Rattle.proof_kernel.proofs.FormsFound.{same_some, one_found, both_found, rewriting_found}

-- ---- what is cited

pub hypothesis_there : (s : ℕ) (q : Sequent) (ps : List Sequent) (r : HypothesisRule) (l : Label2) → hypothesis_rule r s l q ≡ Some ps → IsLabelOf q l
hypothesis_there s q ps r l e = let f = one_found r s l q (hypothesis l q.hyps) ps e in (f.0, f.1)

pub pair_there : (s : ℕ) (q : Sequent) (ps : List Sequent) (r : PairRule) (l m : Label2) → pair_rule r s l m q ≡ Some ps → IsLabelOf q l × IsLabelOf q m
pair_there s q ps r l m e = let f = both_found r s q (hypothesis l q.hyps) (hypothesis m q.hyps) ps e in ((f.0, f.2), (f.1, f.3))

target_there : (s : ℕ) (q : Sequent) (ps : List Sequent) (to : Target) (f : Term → Term) → changing s q to f ≡ Some ps → Each (IsLabelOf q) (label_of_target to)
target_there s q ps targets.Goal f e = tt
target_there s q ps (targets.Hyp l) f e = (added_there (hypothesis l q.hyps) e, tt)
  where
    added_there : (o : Option Term) → adding s q (option_map f o) ≡ Some ps → (t : Term) × (o ≡ Some t)
    added_there None g = absurd (cc)
    added_there (Some t) g = (t, refl)

pub rewriting_there : (s : ℕ) (q : Sequent) (ps : List Sequent) (r : Rewriting) → rewrite_rule r s q ≡ Some ps → Each (IsLabelOf q) (labels_of (Rewrite r))
rewriting_there s q ps r e = let f = rewriting_found r s q ps e in ((f.0, f.2), target_there s q ps r.target (rewritten f.1.0 f.1.1) f.4)

pub decide_there : (s : ℕ) (q : Sequent) (ps : List Sequent) (l : Label2) (to : Target) → decide_rule s q l to ≡ Some ps → Each (IsLabelOf q) (l ∷ label_of_target to)
decide_there s q ps l to e = at (hypothesis l q.hyps) refl e
  where
    at : (o : Option Term) → hypothesis l q.hyps ≡ o → decide_by s q to o ≡ Some ps → Each (IsLabelOf q) (l ∷ label_of_target to)
    at None is f = absurd (cc)
    at (Some t) is f = ((t, is), target_there s q ps to (decided t) f)

pub unpack_there : (s : ℕ) (q : Sequent) (ps : List Sequent) (l : Label2) (x : Name) → unpack_rule s q l x ≡ Some ps → IsLabelOf q l
unpack_there s q ps l x e = at (hypothesis l q.hyps) e
  where
    at : (o : Option Term) → unpacking s q x o ≡ Some ps → (t : Term) × (o ≡ Some t)
    at None f = absurd (cc)
    at (Some t) f = (t, refl)

pub instance_there : (adts : List AdtDecl) (s : ℕ) (q : Sequent) (ps : List Sequent) (l : Label2) (ts : List Pterm) → instance_rule adts s q l ts ≡ Some ps → IsLabelOf q l
instance_there adts s q ps l ts e = at (hypothesis l q.hyps) e
  where
    at : (o : Option Term) → assuming_all s q (instance_if adts q ts o) ≡ Some ps → (t : Term) × (o ≡ Some t)
    at None f = absurd (cc)
    at (Some t) f = (t, refl)

-- ---- what is added

-- P is so of the labels
abbrev pub Labels : (Label2 → Type 0) → List (Label2 × Term) → Type 0
Labels P hs = Each (λ (h : Label2 × Term). P h.0) hs

without_each : (P : Label2 → Type 0) (l : Label2) (hs : List (Label2 × Term)) → Labels P hs → Labels P (without l hs)
without_each P l [] e = tt
without_each P l (h ∷ hs) e = kept (same_label l h.0) (without_each P l hs e.1)
  where
    kept : (b : Bool) → Labels P (without l hs) → Labels P (cond b (without l hs) (h ∷ without l hs))
    kept true r = r
    kept false r = (e.0, r)

module _ (P : Label2 → Type 0) (N : Name → Type 0) (s : ℕ) (own : (k : ℕ) → P (label s k)) (q : Sequent) (has : Has P N q) (ps : List Sequent) where
  pub labels_own : (k : ℕ) (ts : List Term) → Labels P (labelled s k ts)
  labels_own k [] = tt
  labels_own k (t ∷ ts) = (own k, labels_own (suc k) ts)

  pub more_has : (ts : List Term) → Has P N (with_hyps s q ts)
  more_has ts = (each_and (λ (h : Label2 × Term). P h.0) q.hyps (labelled s 1 ts) has.0 (labels_own 1 ts), has.1)

  pub these_have : (rs : List Sequent) → Some rs ≡ Some ps → Each (Has P N) rs → Each (Has P N) ps
  these_have rs e h = subst (Each (Has P N)) (same_some rs ps e) h

  closed_has : (b : Bool) → closed_if b ≡ Some ps → Each (Has P N) ps
  closed_has true e = these_have [] e tt
  closed_has false e = absurd (cc)

  to_show_has : (o : Option Term) → to_show q o ≡ Some ps → Each (Has P N) ps
  to_show_has None e = absurd (cc)
  to_show_has (Some t) e = these_have _ e (has, tt)

  each_goal_has : (ts : List Term) → Each (Has P N) (map (with_goal q) ts)
  each_goal_has [] = tt
  each_goal_has (t ∷ ts) = (has, each_goal_has ts)

  to_show_all_has : (o : Option (List Term)) → to_show_all q o ≡ Some ps → Each (Has P N) ps
  to_show_all_has None e = absurd (cc)
  to_show_all_has (Some ts) e = these_have _ e (each_goal_has ts)

  to_refute_has : (o : Option Term) → to_refute s q o ≡ Some ps → Each (Has P N) ps
  to_refute_has None e = absurd (cc)
  to_refute_has (Some t) e = these_have _ e (more_has (t ∷ []), tt)

  pub goal_has : (r : GoalRule) → goal_rule r s q ≡ Some ps → Each (Has P N) ps
  goal_has Refl e = closed_has (is_reflexive q.goal) e
  goal_has Truth e = closed_has (is_true q.goal) e
  goal_has Left e = to_show_has (left_of q.goal) e
  goal_has Right e = to_show_has (right_of q.goal) e
  goal_has Contra e = to_refute_has (denied_of q.goal) e
  goal_has ByContradiction e = these_have _ e (more_has (not q.goal ∷ []), tt)
  goal_has Iff e = to_show_all_has (both_ways q.vars q.goal) e
  goal_has Antisymmetry e = to_show_all_has (both_orders q.vars q.goal) e

  all_have : (tss : List (List Term)) → Each (Has P N) (map (with_hyps s q) tss)
  all_have [] = tt
  all_have (ts ∷ tss) = (more_has ts, all_have tss)

  in_cases_has : (o : Option (List (List Term))) → in_cases s q o ≡ Some ps → Each (Has P N) ps
  in_cases_has None e = absurd (cc)
  in_cases_has (Some tss) e = these_have _ e (all_have tss)

  adding_has : (o : Option Term) → adding s q o ≡ Some ps → Each (Has P N) ps
  adding_has None e = absurd (cc)
  adding_has (Some t) e = these_have _ e (more_has (t ∷ []), tt)

  one_has : (r : HypothesisRule) (l : Label2) (h : Term) → on_hypothesis r s l q h ≡ Some ps → Each (Has P N) ps
  one_has Cases l h e = in_cases_has (cases_of q.vars h) e
  one_has Absurd l h e = closed_has (is_false h) e
  one_has Drop l h e = these_have _ e ((without_each P l q.hyps has.0, has.1), tt)
  one_has Revert l h e = these_have _ e ((without_each P l q.hyps has.0, has.1), tt)
  one_has Back l h e = adding_has (back_of q.vars h) e
  one_has Inject l h e = in_cases_has (together (injected h)) e
  one_has Differ l h e = closed_has (equates_apart h) e

  pub hypothesis_has : (r : HypothesisRule) (l : Label2) → hypothesis_rule r s l q ≡ Some ps → Each (Has P N) ps
  hypothesis_has r l e = let f = one_found r s l q (hypothesis l q.hyps) ps e in one_has r l f.0 f.2

  two_have : (r : PairRule) (h k : Term) → on_two r s q h k ≡ Some ps → Each (Has P N) ps
  two_have ModusPonens h k e = adding_has (concluded h k) e
  two_have Contradiction h k e = closed_has (is_denied_by h k) e
  two_have Product h k e = adding_has (product (distance h) (distance k)) e

  pub pair_has : (r : PairRule) (l m : Label2) → pair_rule r s l m q ≡ Some ps → Each (Has P N) ps
  pair_has r l m e = let f = both_found r s q (hypothesis l q.hyps) (hypothesis m q.hyps) ps e in two_have r f.0 f.1 f.4

  changing_has : (to : Target) (f : Term → Term) → changing s q to f ≡ Some ps → Each (Has P N) ps
  changing_has targets.Goal f e = these_have _ e (has, tt)
  changing_has (targets.Hyp l) f e = adding_has (option_map f (hypothesis l q.hyps)) e

  pub rewriting_has : (r : Rewriting) → rewrite_rule r s q ≡ Some ps → Each (Has P N) ps
  rewriting_has r e = let f = rewriting_found r s q ps e in changing_has r.target (rewritten f.1.0 f.1.1) f.4

  pub decide_has : (l : Label2) (to : Target) → decide_rule s q l to ≡ Some ps → Each (Has P N) ps
  decide_has l to e = at (hypothesis l q.hyps) e
    where
      at : (o : Option Term) → decide_by s q to o ≡ Some ps → Each (Has P N) ps
      at None f = absurd (cc)
      at (Some t) f = changing_has to (decided t) f

  pub unpack_has : (l : Label2) (x : Name) → N x → unpack_rule s q l x ≡ Some ps → Each (Has P N) ps
  unpack_has l x new e = at (hypothesis l q.hyps) e
    where
      at : (o : Option Term) → unpacking s q x o ≡ Some ps → Each (Has P N) ps
      at None f = absurd (cc)
      at (Some (bind some y r t)) f = these_have _ f (
        (
          each_and (λ (h : Label2 × Term). P h.0) q.hyps _ has.0 (labels_own 1 (under_name y x t ∷ [])),
          each_and (λ (v : Name × Ty). N v.0) q.vars ((x, r) ∷ []) has.1 (new, tt),
        ),
        tt,
      )
      at (Some t) f = absurd (cc)

  shown_has : (o : Option Term) → option_map (shown_first s q) o ≡ Some ps → Each (Has P N) ps
  shown_has None e = absurd (cc)
  shown_has (Some f) e = these_have _ e (has, (more_has (f ∷ []), tt))

  true_or_false_has : (o : Option Term) → option_map (true_or_false s q) o ≡ Some ps → Each (Has P N) ps
  true_or_false_has None e = absurd (cc)
  true_or_false_has (Some f) e = these_have _ e (more_has (f ∷ []), (more_has (not f ∷ []), tt))

  assuming_all_has : (o : Option (List Term)) → assuming_all s q o ≡ Some ps → Each (Has P N) ps
  assuming_all_has None e = absurd (cc)
  assuming_all_has (Some ts) e = these_have _ e (more_has (map reduced ts), tt)

  by_term_has : (adts : List AdtDecl) (r : TermRule) (a : SortedTerm) → by_term adts r s q a ≡ Some ps → Each (Has P N) ps
  by_term_has adts Cut a e = shown_has (formula a) e
  by_term_has adts On a e = true_or_false_has (formula a) e
  by_term_has adts Range a e = assuming_all_has (bounds_at a.sort a.term) e
  by_term_has adts Witness a e = to_show_has (witnessed a q.goal) e
  by_term_has adts Eta a e = assuming_all_has (eta_at adts a) e

  by_term_if_has : (adts : List AdtDecl) (r : TermRule) (o : Option SortedTerm) → by_term_if adts r s q o ≡ Some ps → Each (Has P N) ps
  by_term_if_has adts r None e = absurd (cc)
  by_term_if_has adts r (Some a) e = by_term_has adts r a e

  pub term_has : (adts : List AdtDecl) (r : TermRule) (t : Pterm) → term_rule adts r s q t ≡ Some ps → Each (Has P N) ps
  term_has adts r t e = by_term_if_has adts r (term_at adts q t) e

  pub division_has : (adts : List AdtDecl) (t u : Pterm) → division_rule adts s q t u ≡ Some ps → Each (Has P N) ps
  division_has adts t u e = assuming_all_has (division_of (number_if (term_at adts q t)) (number_if (term_at adts q u))) e

  pub instance_has : (adts : List AdtDecl) (l : Label2) (ts : List Pterm) → instance_rule adts s q l ts ≡ Some ps → Each (Has P N) ps
  instance_has adts l ts e = assuming_all_has (instance_if adts q ts (hypothesis l q.hyps)) e
