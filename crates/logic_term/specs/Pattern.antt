-- Patterns, as contracts see them: one constructor for each form of `PatNode`, each with the type of the values at its place.
use Rattle.std.specs.Prelude.{ℤ, Bool, Option}
use Rattle.text_core.specs.declared.name.Name.{Name}
use Rattle.source_kinds.specs.declared.kinds.IntKind.{IntKind}
use Rattle.logic_term.specs.declared.kinds.Ctor.{Ctor}
use Rattle.logic_term.specs.declared.pattern.BindingKind.{BindingKind}
use Rattle.logic_term.specs.Ty.{Ty}

mutual
  pub data Pat : Type 0 where
    -- `_`
    wild : Ty → Pat
    bound : Ty → Name → BindingKind → Pat
    -- an integer; none: of the unbounded integers
    literal : Ty → Option IntKind → ℤ → Pat
    truth : Ty → Bool → Pat
    -- a constructor, with a pattern for each part
    shape : Ty → Ctor → Pats → Pat

  pub data Pats : Type 0 where
    no_pats : Pats
    and_pat : Pat → Pats → Pats
