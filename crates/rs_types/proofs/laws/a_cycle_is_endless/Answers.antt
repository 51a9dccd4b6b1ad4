use Rattle.std.proofs.Common.{◌≡◌, true}
use Rattle.rs_types.proofs.Endless.{cycle_unbounded}
use Rattle.rs_types.proofs.laws.a_cycle_is_endless.Goals as goal

pub returns : goal.returns
returns c = λ Δ set more d in_set rs ts bounded. cycle_unbounded Δ (λ e. set e ≡ true) more d in_set rs ts bounded
