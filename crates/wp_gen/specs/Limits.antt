-- Bodies with too many paths or obligations.
use Rattle.std.specs.Prelude.{ℕ, ◌<◌, ◌≤◌, ◌+◌, List, [], length}
use Rattle.text_core.specs.declared.fault.PassError.{PassError}
use Rattle.text_core.specs.declared.fault.PassError.TheVariants as errors
use Rattle.text_core.specs.declared.refusal.Limit.{Limit}
use Rattle.text_core.specs.declared.refusal.LimitKind.TheVariants.{Paths, Obligations}
use Rattle.logic_term.specs.declared.obligation.Obligation.{Obligation}
use Rattle.wp_gen.specs.Count.{AreSomeObligations}
use Rattle.wp_gen.specs.Paths.{HasMorePaths}
use Rattle.prophecy_logic.specs.Graph.{Setting, AreObligations}
use Rattle.prophecy_logic.specs.Walk.{paths}

abbrev pub most_paths : ℕ
most_paths = 1024

abbrev pub most_obligations : ℕ
most_obligations = 1000000

-- these are the obligations of the body from a number on, and neither they nor its paths are too many
pub record HasFewObligations (w : Setting) (first : ℕ) (os : List Obligation) : Type 0 where
  pub are : AreObligations w first os
  pub few_paths : paths are.walk ≤ most_paths
  pub few : length os ≤ most_obligations

-- the body has too many paths, or whatever obligations it has are too many
pub data IsPastWalk (w : Setting) : Limit → Type 0 where
  by_paths : HasMorePaths w.body [] w.body.entry (most_paths + 1) → IsPastWalk w (record { kind = Paths; counted = most_paths + 1; bound = most_paths })
  by_obligations : ((os : List Obligation) → AreSomeObligations w os → most_obligations < length os) → IsPastWalk w (record { kind = Obligations; counted = most_obligations + 1; bound = most_obligations })

abbrev pub RefusesWalk : Setting → PassError → Type 0
RefusesWalk w (errors.Limit limit) = IsPastWalk w limit
RefusesWalk w (errors.Source error) = ⊥
RefusesWalk w errors.NoMemory = Unit {0}
