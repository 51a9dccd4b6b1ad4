-- Bodies that can be walked, and what the walk looks up.
use Rattle.std.specs.Prelude.{◌≡◌, true, false, List, Some, slice_get}
use Rattle.logic_term.specs.declared.kinds.Label.{Label}
use Rattle.logic_term.specs.declared.obligation.Contract.{Contract}
use Rattle.logic_term.specs.Ty.{Ty}
use Rattle.mir_ir.specs.declared.place.Operand.{Operand}
use Rattle.mir_ir.specs.declared.place.Place.{Place}
use Rattle.mir_ir.specs.declared.terminator.Callee.{Callee}
use Rattle.mir_ir.specs.declared.terminator.TerminatorKind.TheVariants.{Call}
use Rattle.mir_ir.specs.declared.body.Block.{Block}
use Rattle.mir_ir.specs.declared.body.Head.{Head}
use Rattle.mir_ir.specs.Body.{block_in}
use Rattle.mir_ir.specs.Callees.{contract_at}
use Rattle.mir_ir.specs.Layout.{among, around, IsLaidOut}
use Rattle.prophecy_logic.specs.Graph.{Setting}

-- the callee has a contract, and the place a type
pub record IsKnown (w : Setting) (callee : Callee) (p : Place) : Type 0 where
  pub contract : (d : Contract) × (contract_at w.contracts callee ≡ Some d)
  pub answer : (t : Ty) × (slice_get w.body.locals p.local ≡ Some t)

pub record CanWalk (w : Setting) : Type 0 where
  pub laid_out : IsLaidOut w.body
  pub calls : (l : Label) (k : Block) (p : Place) (callee : Callee) (types : List Ty) (args : List Operand) (m : Label) → block_in w.body.blocks l ≡ Some k → k.end.kind ≡ Call p callee types args m → IsKnown w callee p

-- each of the first is one of the second
abbrev pub AllAmong : List Label → List Label → Type 0
AllAmong ls ms = (l : Label) → among l ls ≡ true → among l ms ≡ true

-- the labels are those of loop heads
abbrev pub AreHeads : Setting → List Label → Type 0
AreHeads w heads = (l : Label) → among l heads ≡ true → (k : Block) × (h : Head) × (block_in w.body.blocks l ≡ Some k) × (k.head ≡ Some h)

-- the walk may come to the block of the label, where these heads were passed
pub record MayArrive (w : Setting) (heads : List Label) (l : Label) : Type 0 where
  pub block : Block
  pub is_block : block_in w.body.blocks l ≡ Some block
  pub passed : among l heads ≡ false → (outer : List Label) × around l block outer × AllAmong outer heads
  pub are_heads : AreHeads w heads

-- the walk is in the block of the label
pub record MayWalk (w : Setting) (heads : List Label) (l : Label) (k : Block) : Type 0 where
  pub is_block : block_in w.body.blocks l ≡ Some k
  pub passed : AllAmong k.nest heads
  pub are_heads : AreHeads w heads
