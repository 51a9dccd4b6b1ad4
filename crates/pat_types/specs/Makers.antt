-- What the code of constructors answers, as the definition has it. Contracts of the code alone speak of it.
use Rattle.std.specs.Prelude.{Option, Some, None}
use Rattle.logic_term.specs.TyView.{tys_of}
use Rattle.constructors.specs.declared.finding.Constructor.{Constructor as RustConstructor}
use Rattle.constructors.specs.Constructors.{Constructor, constructor_by}
use Rattle.pat_types.specs.declared.fields.FieldPatterns.{FieldPatterns}
use Rattle.pat_types.specs.declared.parts.Maker.{Maker as RustMaker}
use Rattle.pat_types.specs.PatternTyping.{Fields, Maker}

abbrev pub maker_by : RustMaker → Maker
maker_by m = (m.ctor, tys_of m.types.items)

abbrev pub constructors_as : Option RustConstructor → Option Constructor
constructors_as None = None
constructors_as (Some c) = Some (constructor_by c)

abbrev pub fields_by : FieldPatterns → Fields
fields_by f = record { made = f.made.items; given = f.given.items }
