use Rattle.std.proofs.Common.{◌≡◌, ◌+◌, ◌^◌, ◌<◌, ℕ, List, [], ◌∷◌, ◌++◌, ◌⊎◌, length, Some, Result, Ok, Err, arith}
use Rattle.std.specs.Prelude.{IfOk, OnOk}
use Rattle.text_core.specs.Names.{text_of}
use Rattle.text_core.specs.declared.fault.NoMemory.{NoMemory}
use Rattle.text_core.specs.declared.name.Name.{Name}
use Rattle.name_tables.specs.NameTables.{with_name}
use Rattle.name_tables.proofs.Tables.{interned}
use Rattle.proof_text.proofs.texts.one_name.Goals as goal

grown_by_one : (old new : List (List ℕ)) (text : List ℕ) (r : Result Name NoMemory) → length old + 1 < 2 ^ 32 → IfOk r (λ name. text_of new name ≡ Some text)
    → IfOk r (λ name. (other : Name) → text_of new other ≡ Some text → other ≡ name) → OnOk r ((new ≡ old) ⊎ (new ≡ old ++ text ∷ [])) → OnOk r (new ≡ with_name old text)
grown_by_one old new text (Ok name) few named one grown = interned _ _ _ _ named one grown (omega (arith, few))
grown_by_one old new text (Err e) few named one grown = tt

pub returns-clause-table : goal.returns-clause-table
returns-clause-table c = grown_by_one c.args.names.now c.intern.new.self c.args.text.now c.intern.result c.requires c.intern.ensures.named c.intern.ensures.one c.intern.ensures.grown
