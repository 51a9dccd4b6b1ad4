-- What an accepted chain of parts has come through.
pub use Rattle.logic_elab.proofs.Accepted.{bound, held, yes, same_ok}
