-- The code's answers along a step: one part after another.
use Rattle.std.proofs.Common.{◌≡◌, ◌∙◌, ap, Result, Ok, Err}
use Rattle.mir_machine.specs.declared.halt.Halt.{Halt}
use Rattle.mir_machine.specs.declared.halt.Halt.TheVariants as halt
use Rattle.mir_machine.specs.Try.{Try, Yields, ◌>>=◌}
use Rattle.mir_machine.specs.Halt.{Stops, Comes}

pub stops_then : {A B : Type 0} (h : Halt) (m : Try A) (k : A → Try B) → Stops h m → Stops h (m >>= k)
stops_then halt.Stuck m k e = ap (λ n. n >>= k) e
stops_then (halt.Panics c s) m k e = ap (λ n. n >>= k) e
stops_then halt.NoMemory m k e = tt

-- where the part after it only makes something of the value
pub comes_then : {T A B : Type 0} (r : Result T Halt) (m : Try A) (value : T → A) (f : A → B) → Comes r m value → Comes r (m >>= λ a. Yields (f a)) (λ t. f (value t))
comes_then (Ok t) m value f e = ap (λ n. n >>= λ a. Yields (f a)) e
comes_then (Err h) m value f e = stops_then h m (λ a. Yields (f a)) e

pub comes_along : {T A : Type 0} (r : Result T Halt) (m n : Try A) (value : T → A) → m ≡ n → Comes r n value → Comes r m value
comes_along (Ok t) m n value e h = e ∙ h
comes_along (Err halt.Stuck) m n value e h = e ∙ h
comes_along (Err (halt.Panics c s)) m n value e h = e ∙ h
comes_along (Err halt.NoMemory) m n value e h = tt
