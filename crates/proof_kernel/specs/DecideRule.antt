-- What a step gives that decides the conditions of terms by a hypothesis.
use Rattle.std.specs.Prelude.{ℕ, max, Bool, true, false, List, [], Option, Some, None, if◌then◌else◌}
use Rattle.logic_term.specs.declared.kinds.Label2.{Label2}
use Rattle.logic_term.specs.Canonical.{above_free}
use Rattle.logic_term.specs.Same.{same_term}
use Rattle.logic_term.specs.Subst.{subst}
use Rattle.logic_term.specs.Term.{denied, choice, Term, apply, no_terms, and_term}
use Rattle.proof_kernel.specs.Sequent.{Sequent}
use Rattle.proof_kernel.specs.declared.step.Target.{Target}
use Rattle.proof_kernel.specs.Exchanged.{Exchange, Instead, side, changed_from}
use Rattle.proof_kernel.specs.RewriteRules.{changing}
use Rattle.proof_kernel.specs.Rules.{hypothesis}

-- the second term denies the first
abbrev pub is_denial : Term → Term → Bool
is_denial c (apply denied (and_term a no_terms)) = same_term c a
is_denial c t = false

-- which side counts where l is true: the first where l is the condition, the second where l denies it
abbrev pub side_where : Term → Term → Option Instead
side_where l c = if same_term c l then Some (side true) else if is_denial c l then Some (side false) else None

-- that of the term at depth n, the names that l binds being numbered from n on
abbrev pub deciding : Term → Exchange
deciding l n (apply choice (and_term c (and_term a (and_term b no_terms)))) = side_where (subst n [] l) c
deciding l n t = None

-- the normal form of t with the side that counts for each `if` whose condition l decides. As where an equation is put (`rewritten` of
-- `RewriteRules`) the names that t binds are first numbered from past all free names on, so that each condition that is found is free.
abbrev pub decided : Term → Term → Term
decided l t = changed_from (deciding l) (max (above_free [] t) (above_free [] l)) t

-- ---- what step s gives

abbrev pub decide_by : ℕ → Sequent → Target → Option Term → Option (List Sequent)
decide_by s q to None = None
decide_by s q to (Some l) = changing s q to (decided l)

abbrev pub decide_rule : ℕ → Sequent → Label2 → Target → Option (List Sequent)
decide_rule s q l to = decide_by s q to (hypothesis l q.hyps)
