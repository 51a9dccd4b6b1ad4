-- How the code's answers stand for what a part of a step comes to.
use Rattle.std.specs.Prelude.{◌≡◌, Result, Ok, Err}
use Rattle.mir_machine.specs.declared.halt.Halt.{Halt}
use Rattle.mir_machine.specs.declared.halt.Halt.TheVariants as halt
use Rattle.mir_machine.specs.Try.{Try, Yields, Panics, Sticks}

-- for want of memory nothing is known
abbrev pub Stops : {A : Type 0} → Halt → Try A → Type 0
Stops halt.Stuck m = m ≡ Sticks
Stops (halt.Panics cause span) m = m ≡ Panics cause span
Stops halt.NoMemory m = Unit {0}

-- value: what the step yields, from what the code answers
abbrev pub Comes : {T A : Type 0} → Result T Halt → Try A → (T → A) → Type 0
Comes (Ok t) m value = m ≡ Yields (value t)
Comes (Err h) m value = Stops h m
