-- A code for frames, by which the logic tells them apart.
use Rattle.std.specs.Prelude.{ℕ, List, refl}
use Rattle.std.specs.Coded.{Coded, code_by, coded×, coded_ℕ, coded_list}
use Rattle.logic_term.specs.declared.kinds.Label.{Label}
use Rattle.logic_term.specs.contracts.kinds.Label as label
use Rattle.logic_term.specs.Ty.{Tys}
use Rattle.logic_term.specs.TyCode.{tys_code, tys_injective}
use Rattle.mir_machine.specs.Tree.{Tree}
use Rattle.mir_machine.specs.TreeCode.{coded_tree}
use Rattle.mir_machine.specs.Frame.{Frame}

abbrev pub coded_tys : Coded Tys
coded_tys = record { code = tys_code; inj = tys_injective }

-- where a frame stands, and the rest of it
abbrev pub Stored : Type 0
Stored = (ℕ × Tys) × ((Label × ℕ) × List (Tree (Unit {0})))

abbrev pub coded_stored : Coded Stored
coded_stored = coded× (coded× coded_ℕ coded_tys) (coded× (coded× label.the_row.coded coded_ℕ) (coded_list coded_tree))

abbrev pub coded_frame : Coded (Frame (Unit {0}))
coded_frame =
    code_by Stored coded_stored
    (λ f. ((f.function, f.types), ((f.label, f.statement), f.locals)))
    (λ p. record { function = p.0.0; types = p.0.1; label = p.1.0.0; statement = p.1.0.1; locals = p.1.1 })
    (λ _. refl)
