-- What a loop does to locals, and so what is known at its head: the locals that it touches have new values, of which the invariants
-- are true (Hoare 1969; "havoc" of the written variables: Barnett and Leino 2005; Creusot).
use Rattle.std.specs.Prelude.{ℕ, ◌+◌, ◌==◌, ◌||◌, ◌&&◌, Bool, false, List, [], ◌∷◌, ◌++◌, length, cond}
use Rattle.std.specs.List.{list_any}
use Rattle.logic_term.specs.declared.kinds.Label.{Label}
use Rattle.logic_term.specs.Ty.{Ty}
use Rattle.mir_ir.specs.declared.place.Place.{Place}
use Rattle.mir_ir.specs.declared.statement.StatementKind.{StatementKind}
use Rattle.mir_ir.specs.declared.terminator.TerminatorKind.{TerminatorKind}
use Rattle.mir_ir.specs.declared.body.Block.{Block}
use Rattle.mir_ir.specs.declared.body.Body.{Body}
use Rattle.mir_ir.specs.declared.body.Head.{Head}
use Rattle.mir_ir.specs.declared.body.Initialised.{Initialised}
use Rattle.mir_ir.specs.Acts.{Act, reads, takes, writes, dies, acts_of, acts_of_end, acts_along}
use Rattle.mir_ir.specs.Layout.{among}
use Rattle.prophecy_logic.specs.declared.command.Command.{Command}
use Rattle.prophecy_logic.specs.declared.command.Command.TheVariants.{Fresh}
use Rattle.prophecy_logic.specs.declared.touch.Touch.{Touch}
use Rattle.prophecy_logic.specs.declared.touch.Touch.TheVariants.{Untouched, Whole}
use Rattle.prophecy_logic.specs.Command.{assumed}
use Rattle.prophecy_logic.specs.Row.{name_of}

-- ---- what a loop does to a local

-- the block belongs to the loop of the head
abbrev pub is_in_loop : Label → Block → Bool
is_in_loop l k = among l k.nest

-- the act leaves another value in the local, or, as a move does, none
abbrev pub touches : ℕ → Act → Bool
touches x (reads p) = false
touches x (takes p) = p.local == x
touches x (writes p) = p.local == x
touches x (dies y) = false

-- one of the acts does
abbrev pub one_touches : ℕ → List Act → Bool
one_touches x acts = list_any (touches x) acts

-- what a statement does to the local, and a block's end with an edge from it
abbrev pub statement_touches : ℕ → StatementKind → Bool
statement_touches x kind = one_touches x (acts_of kind)

abbrev pub end_touches : ℕ → TerminatorKind → Bool
end_touches x kind = one_touches x (acts_of_end kind ++ acts_along kind)

abbrev pub block_writes : ℕ → Block → Bool
block_writes x k = list_any (λ st. statement_touches x st.kind) k.statements || end_touches x k.end.kind

-- some block of the loop writes the local, or moves out of it
abbrev pub loop_writes : Body → Label → ℕ → Bool
loop_writes b l x = list_any (λ e. is_in_loop l e.1 && block_writes x e.1) b.blocks

-- what the loop does to the local
abbrev pub touched : Body → Label → ℕ → Touch
touched b l x = cond (loop_writes b l x) Whole Untouched

-- ---- what is known at a head

-- the place is the whole of the local
abbrev pub is_whole : ℕ → Place → Bool
is_whole x p = p.local == x && length p.path == 0

-- the local may be wholly gone where the block of the label begins
abbrev pub is_gone : Initialised → Label → ℕ → Bool
is_gone init l x = list_any (λ e. (e.0.label.0 == l.0 && e.0.statement == 0) && list_any (is_whole x) e.1) init.gone

-- what the loop does to the local, as far as it is there at the head
abbrev pub touched_there : Body → Initialised → Label → ℕ → Touch
touched_there b init l x = cond (is_gone init l x) Untouched (touched b l x)

-- what a head does to a local of the type by it
abbrev pub renewal : Body → Touch → ℕ → Ty → List Command
renewal b Untouched x t = []
renewal b Whole x t = Fresh (name_of b x) t ∷ []

-- what it does to the locals from number n on
abbrev pub renewals : Body → (ℕ → Touch) → ℕ → List Ty → List Command
renewals b f n [] = []
renewals b f n (t ∷ ts) = renewal b (f n) n t ++ renewals b f (n + 1) ts

-- then each invariant is known
abbrev pub head_commands : Body → Initialised → Label → Head → List Command
head_commands b init l h = renewals b (touched_there b init l) 0 b.locals ++ assumed h.invariants
