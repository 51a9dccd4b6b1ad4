-- A code for proofs under way, by which the logic tells them apart.
use Rattle.std.specs.Prelude.{ℕ, List, Option, refl}
use Rattle.std.specs.Coded.{Coded, code_by, coded×, coded_ℕ, coded_list, coded_option}
use Rattle.text_core.specs.contracts.name.Name as name
use Rattle.text_core.specs.declared.name.Name.{Name}
use Rattle.logic_term.specs.contracts.obligation.Bounds as bounds
use Rattle.logic_term.specs.declared.obligation.Bounds.{Bounds}
use Rattle.proof_kernel.specs.SequentCode.{coded_sequent}
use Rattle.proof_kernel.specs.Sequent.{Sequent}
use Rattle.proof_kernel.specs.contracts.setting.Tables as tables
use Rattle.proof_kernel.specs.declared.setting.Tables.{Tables}
use Rattle.proof_kernel.specs.Setting.{Setting}
use Rattle.proof_kernel.specs.Progress.{Progress}

abbrev pub coded_setting : Coded Setting
coded_setting =
    code_by ((Tables × List (Name × Bounds)) × Option ℕ)
    (coded× (coded× tables.the_row.coded (coded_list (coded× name.the_row.coded bounds.the_row.coded))) (coded_option coded_ℕ))
    (λ w. ((w.tables, w.params), w.from))
    (λ p. record { tables = p.0.0; params = p.0.1; from = p.1 })
    (λ _. refl)

abbrev pub coded_progress : Coded Progress
coded_progress =
    code_by ((Setting × ℕ) × List Sequent) (coded× (coded× coded_setting coded_ℕ) (coded_list coded_sequent))
    (λ k. ((k.setting, k.step), k.left))
    (λ p. record { setting = p.0.0; step = p.0.1; left = p.1 })
    (λ _. refl)
