-- Laws of walks: there is one, and only one; its goals, by prefixes and as they are seen from where it begins.
use Rattle.std.specs.Prelude.{◌≡◌, List, []}
use Rattle.logic_term.specs.declared.kinds.Label.{Label}
use Rattle.prophecy_logic.specs.declared.command.Command.{Command}
use Rattle.prophecy_logic.specs.Graph.{Setting, Arrives}
use Rattle.prophecy_logic.specs.Prefix.{HasGoalsOfPrefixes}
use Rattle.prophecy_logic.specs.Walk.{Walk, owed, met, seen_before}
use Rattle.prophecy_logic.specs.Walkable.{CanWalk}

-- the goals of the body's walk are those of its prefixes
abbrev pub PrefixesHaveGoals : Type 0
PrefixesHaveGoals = (w : Setting) (v : Walk) → Arrives w [] w.body.entry v → HasGoalsOfPrefixes w v

-- the goals of a walk behind commands are the goals that are met on it, as they are seen from before the commands
abbrev pub GoalsAreSeenBefore : Type 0
GoalsAreSeenBefore = (cs : List Command) (v : Walk) → owed cs v ≡ seen_before cs (met v)

-- from an arrival on there is at most one walk
abbrev pub WalksAreOne : Type 0
WalksAreOne = (w : Setting) (heads : List Label) (l : Label) (u v : Walk) → Arrives w heads l u → Arrives w heads l v → u ≡ v

-- each body that can be walked has a walk
abbrev pub WalksExist : Type 0
WalksExist = (w : Setting) → CanWalk w → (v : Walk) × Arrives w [] w.body.entry v
