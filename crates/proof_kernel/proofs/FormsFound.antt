-- What a step by the form of hypotheses finds.
use Rattle.std.proofs.Common.{◌≡◌, ℕ, Bool, true, false, cond, List, Option, Some, None, refl}
use Rattle.std.specs.Option.{option_map}
use Rattle.logic_term.specs.declared.kinds.Label2.{Label2}
use Rattle.logic_term.specs.Term.{Term}
use Rattle.proof_kernel.specs.Sequent.{Sequent}
use Rattle.proof_kernel.specs.declared.step.HypothesisRule.{HypothesisRule}
use Rattle.proof_kernel.specs.declared.step.PairRule.{PairRule}
use Rattle.proof_kernel.specs.declared.step.Direction.{Direction}
use Rattle.proof_kernel.specs.declared.step.Rewriting.{Rewriting}
use Rattle.proof_kernel.specs.declared.step.Target.{Target}
use Rattle.proof_kernel.specs.HypothesisRules.{on_hypothesis, if_there}
use Rattle.proof_kernel.specs.PairRules.{on_two, if_both_there}
use Rattle.proof_kernel.specs.RewriteRules.{rewritten, sides, sides_of, changing, by_sides, rewrite_rule}
use Rattle.proof_kernel.specs.Rules.{hypothesis}

pub same_some : {A : Type 0} (x y : A) → Some x ≡ Some y → x ≡ y
same_some x y e = cc

pub picked : {A : Type 0} (b : Bool) (x y : A) → cond b (Some x) None ≡ Some y → (b ≡ true) × (x ≡ y)
picked true x y e = (refl, same_some x y e)
picked false x y e = absurd (cc)

pub mapped : {A B : Type 0} (f : A → B) (o : Option A) (y : B) → option_map f o ≡ Some y → (x : A) × (o ≡ Some x) × (f x ≡ y)
mapped f None y e = absurd (cc)
mapped f (Some x) y e = (x, refl, same_some (f x) y e)

pub one_found : (r : HypothesisRule) (s : ℕ) (l : Label2) (q : Sequent) (o : Option Term) (ps : List Sequent) → if_there r s l q o ≡ Some ps
    → (h : Term) × (o ≡ Some h) × (on_hypothesis r s l q h ≡ Some ps)
one_found r s l q None ps e = absurd (cc)
one_found r s l q (Some h) ps e = (h, refl, e)

pub both_found : (r : PairRule) (s : ℕ) (q : Sequent) (o p : Option Term) (ps : List Sequent) → if_both_there r s q o p ≡ Some ps
    → (h : Term) × (k : Term) × (o ≡ Some h) × (p ≡ Some k) × (on_two r s q h k ≡ Some ps)
both_found r s q None p ps e = absurd (cc)
both_found r s q (Some h) None ps e = absurd (cc)
both_found r s q (Some h) (Some k) ps e = (h, k, refl, refl, e)

sides_found : (s : ℕ) (q : Sequent) (d : Direction) (to : Target) (o : Option Term) (ps : List Sequent) → by_sides s q to (sides_of d o) ≡ Some ps
    → (h : Term) × (ab : Term × Term) × (o ≡ Some h) × (sides d h ≡ Some ab) × (changing s q to (rewritten ab.0 ab.1) ≡ Some ps)
sides_found s q d to None ps e = absurd (cc)
sides_found s q d to (Some h) ps e = at (sides d h) refl e
  where
    at : (o : Option (Term × Term)) → sides d h ≡ o → by_sides s q to o ≡ Some ps → (g : Term) × (ab : Term × Term) × (Some h ≡ Some g) × (sides d g ≡ Some ab) × (changing s q to (rewritten ab.0 ab.1) ≡ Some ps)
    at None c f = absurd (cc)
    at (Some ab) c f = (h, ab, refl, c, f)

-- the equation, with its sides, and what they give
pub rewriting_found : (r : Rewriting) (s : ℕ) (q : Sequent) (ps : List Sequent) → rewrite_rule r s q ≡ Some ps
    → (h : Term) × (ab : Term × Term) × (hypothesis r.equation q.hyps ≡ Some h) × (sides r.direction h ≡ Some ab) × (changing s q r.target (rewritten ab.0 ab.1) ≡ Some ps)
rewriting_found r s q ps e = sides_found s q r.direction r.target (hypothesis r.equation q.hyps) ps e
