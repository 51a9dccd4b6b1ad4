-- What a step gives that takes an existential hypothesis apart (Gentzen 1935, the elimination of the existential quantifier).
use Rattle.std.specs.Prelude.{ℕ, List, [], ◌∷◌, Option, Some, None}
use Rattle.text_core.specs.declared.name.Name.{Name}
use Rattle.logic_term.specs.declared.kinds.Label2.{Label2}
use Rattle.logic_term.specs.declared.subst.Renaming.{Renaming}
use Rattle.logic_term.specs.Subst.{renamed}
use Rattle.logic_term.specs.Term.{some, Term, bind}
use Rattle.proof_kernel.specs.Intro.{declaring}
use Rattle.proof_kernel.specs.Rules.{hypothesis, with_hyps}
use Rattle.proof_kernel.specs.Sequent.{Sequent}

-- the body at the name for the bound variable
abbrev pub under_name : Name → Name → Term → Term
under_name x y t = renamed (record { from = x; to = y } ∷ []) t

-- one more variable, of this name, and the body at it as the hypothesis of step s
abbrev pub unpacking : ℕ → Sequent → Name → Option Term → Option (List Sequent)
unpacking s q y (Some (bind some x r t)) = Some (with_hyps s (declaring q y r) (under_name x y t ∷ []) ∷ [])
unpacking s q y o = None

abbrev pub unpack_rule : ℕ → Sequent → Label2 → Name → Option (List Sequent)
unpack_rule s q l y = unpacking s q y (hypothesis l q.hyps)
