-- What the code of struct literals works with, as the definitions have it. Contracts of the code alone speak of it.
use Rattle.std.specs.Prelude.{Option, Some, None}
use Rattle.std.proofs.Common.{Vec, Global}
use Rattle.logic_term.specs.Ty.{Ty, Tys}
use Rattle.logic_term.specs.TyView.{tys_of}
use Rattle.type_check.specs.declared.calling.Called.{Called as RustCalled}
use Rattle.type_check.specs.declared.calling.Called.TheVariants as rust
use Rattle.type_check.specs.declared.making.Maker.{Maker as RustMaker}
use Rattle.type_check.specs.Makers.{Maker}
use Rattle.type_check.specs.Typing.{Called, of_function, of_maker}

abbrev pub arguments_as : Option (Vec Ty Global) → Option Tys
arguments_as None = None
arguments_as (Some ts) = Some (tys_of ts.items)

abbrev pub made_by : RustMaker → Maker
made_by m = record { number = m.id; variant = m.variant; arguments = tys_of m.arguments.items; fields = m.fields.now }

abbrev pub called_by : RustCalled → Called
called_by (rust.Function f) = of_function f
called_by (rust.Constructor m) = of_maker (made_by m)
