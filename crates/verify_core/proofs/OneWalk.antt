-- A body has one walk, and so one list of obligations.
use Rattle.std.proofs.Common.{◌∙◌, sym, ap, []}
use Rattle.prophecy_logic.specs.Graph.{numbered, goals_of_walk}
use Rattle.prophecy_logic.proofs.OneWalk.{walks_are_one}
use Rattle.verify_core.specs.Laws.{ObligationsAreOne}

pub obligations_once : ObligationsAreOne
obligations_once w start os others one other =
    let same = walks_are_one w [] w.body.entry one.walk other.walk one.arrives other.arrives in
    (one.are_numbered ∙ ap (λ v. numbered w.body.owner start (goals_of_walk w v)) same ∙ sym other.are_numbered, same)
