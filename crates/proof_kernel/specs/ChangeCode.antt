-- What the code has for what is changed in a term.
use Rattle.std.specs.Prelude.{ℕ, max, []}
use Rattle.logic_term.specs.Canonical.{above_free}
use Rattle.logic_term.specs.Term.{Term}
use Rattle.proof_kernel.specs.declared.exchange.Change.{Change}
use Rattle.proof_kernel.specs.declared.exchange.Change.TheVariants.{Put, Decide}
use Rattle.proof_kernel.specs.DecideRule.{deciding}
use Rattle.proof_kernel.specs.Exchanged.{Exchange, changed_from}
use Rattle.proof_kernel.specs.RewriteRules.{for_each}

abbrev pub exchange_of : Change → Exchange
exchange_of (Put of by) = for_each of.now by.now
exchange_of (Decide l) = deciding l.now

-- past all names that are free in its terms
abbrev pub past_change : Change → ℕ
past_change (Put of by) = max (above_free [] of.now) (above_free [] by.now)
past_change (Decide l) = above_free [] l.now

abbrev pub changed_by : Change → Term → Term
changed_by change t = changed_from (exchange_of change) (max (above_free [] t) (past_change change)) t
