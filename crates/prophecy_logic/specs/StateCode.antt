-- A code for states.
use Rattle.std.specs.Prelude.{ℕ, List}
use Rattle.std.proofs.Common.{refl}
use Rattle.std.specs.Coded.{Coded, code_by, coded×, coded_ℕ, coded_list}
use Rattle.logic_term.specs.contracts.subst.Replacement as replacements
use Rattle.logic_term.specs.declared.subst.Replacement.{Replacement}
use Rattle.logic_term.specs.contracts.context.Entry as entries
use Rattle.logic_term.specs.declared.context.Entry.{Entry}
use Rattle.prophecy_logic.specs.State.{State}

abbrev pub coded_state : Coded State
coded_state =
    code_by (List Replacement × (ℕ × List Entry)) (coded× (coded_list replacements.the_row.coded) (coded× coded_ℕ (coded_list entries.the_row.coded)))
    (λ s. (s.terms, (s.next, s.context))) (λ p. record { terms = p.0; next = p.1.0; context = p.1.1 }) (λ _. refl)
