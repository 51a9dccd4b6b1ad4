-- What a program declares: its types, as steps of proofs look them up, and as terms speak of them.
use Rattle.logic_term.specs.Theory.{Theory}
use Rattle.proof_kernel.specs.declared.setting.Tables.{Tables}
use Rattle.proof_kernel.specs.Setting.{theory_of}
use Rattle.verify_core.specs.declared.program.Program.{Program}

abbrev pub tables_of : Program → Tables
tables_of p = record { adts = p.bodies.decls }

abbrev pub declared_of : Program → Theory
declared_of p = theory_of (tables_of p)
