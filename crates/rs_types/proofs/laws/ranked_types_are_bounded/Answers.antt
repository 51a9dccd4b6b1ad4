use Rattle.rs_types.proofs.Ranked.{ranked_bounded}
use Rattle.rs_types.proofs.laws.ranked_types_are_bounded.Goals as goal

pub returns : goal.returns
returns c = λ Δ rank held ranked d rs m. ranked_bounded Δ rank held ranked d rs m
