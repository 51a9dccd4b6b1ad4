-- A code for sequents, by which the logic tells them apart.
use Rattle.std.specs.Prelude.{List, refl}
use Rattle.std.specs.Coded.{Coded, code_by, coded×, coded_list}
use Rattle.text_core.specs.contracts.name.Name as name
use Rattle.text_core.specs.declared.name.Name.{Name}
use Rattle.logic_term.specs.contracts.kinds.Label2 as label
use Rattle.logic_term.specs.declared.kinds.Label2.{Label2}
use Rattle.logic_term.specs.Ty.{Ty}
use Rattle.logic_term.specs.TyCode.{coded_ty}
use Rattle.logic_term.specs.Term.{Term}
use Rattle.logic_term.specs.TermCode.{coded_term}
use Rattle.proof_kernel.specs.Sequent.{Sequent}

abbrev pub coded_sequent : Coded Sequent
coded_sequent =
    code_by (List (Name × Ty) × (List (Label2 × Term) × Term))
    (coded× (coded_list (coded× name.the_row.coded coded_ty)) (coded× (coded_list (coded× label.the_row.coded coded_term)) coded_term))
    (λ q. (q.vars, (q.hyps, q.goal)))
    (λ p. record { vars = p.0; hyps = p.1.0; goal = p.1.1 })
    (λ _. refl)
