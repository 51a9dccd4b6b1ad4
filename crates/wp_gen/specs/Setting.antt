-- What a walk looks up, as its definitions see it.
use Rattle.wp_gen.specs.declared.walk.Walk.{Walk}
use Rattle.prophecy_logic.specs.Graph.{Setting}

abbrev pub setting : Walk → Setting
setting w = record { body = w.body.now; contracts = w.contracts.now; contract = w.contract.now; init = w.init.now; resolves = w.resolves.now; decls = w.decls.now }
