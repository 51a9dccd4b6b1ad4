use Rattle.std.proofs.Common.{◌≡◌, drop}
use Rattle.verify_core.specs.Built.{first_token}
use Rattle.verify_core.proofs.built.first_token.Given as goal

abbrev pub invariant-loop-token : goal.invariant-loop-token
invariant-loop-token l = first_token l.tokens l.end l.start ≡ first_token (drop l.token-index l.tokens) l.end l.start
