use Rattle.std.proofs.Common.{◌≢◌, ℕ, ◌<◌, Some, map, slice_get}
use Rattle.text_core.proofs.names.index_in.Given as goal

abbrev pub invariant-loop-at : goal.invariant-loop-at
invariant-loop-at l = (k : ℕ) → k < l.at → slice_get (map (λ word. word.now) l.list) k ≢ Some l.text
