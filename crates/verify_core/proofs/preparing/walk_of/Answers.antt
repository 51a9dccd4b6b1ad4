use Rattle.std.proofs.Common.{refl}
use Rattle.verify_core.proofs.PassLaws.{read_at, setting_at}
use Rattle.verify_core.proofs.preparing.walk_of.Goals as goal

pub returns : goal.returns
returns c =
    setting_at c.args.lowered.now c.args.place c.index-as_slice-place.result c.args.lowered.now.contracts c.index-as_slice-place-2.result c.index-as_slice-place-3.result
    c.args.resolves.now c.as_slice-4.result.now
    (read_at _ _ _ _ c.as_slice.ensures c.index-as_slice-place.is c.requires.bodies) refl
    (read_at _ _ _ _ c.as_slice-2.ensures c.index-as_slice-place-2.is c.requires.contracts) (read_at _ _ _ _ c.as_slice-3.ensures c.index-as_slice-place-3.is c.requires.gone) c.requires.none c.as_slice-4.ensures
