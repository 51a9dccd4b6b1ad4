-- Programs of functions whose values hold no references, and what true obligations are worth.
use Rattle.std.specs.Prelude.{◌≡◌, ℕ, Bool, true, List, Some, slice_get, false}
use Rattle.logic_term.specs.declared.kinds.Label.{Label}
use Rattle.logic_term.specs.declared.obligation.Contract.{Contract}
use Rattle.logic_term.specs.declared.obligation.Obligation.{Obligation}
use Rattle.logic_term.specs.declared.declaration.AdtDecl.{AdtDecl}
use Rattle.logic_term.specs.declared.kinds.AdtId.{AdtId}
use Rattle.logic_term.specs.Sort.{HasSort, instance}
use Rattle.logic_term.specs.Theory.{Theory, declared}
use Rattle.logic_term.specs.Value.{Value}
use Rattle.logic_term.specs.Obligations.{IsTrueObligation}
use Rattle.logic_term.specs.Ty.{Ty, Tys, int, bool, math_int, tuple, adt, boxed, param, no_tys, and_ty}
use Rattle.mir_ir.specs.declared.place.Operand.{Operand}
use Rattle.mir_ir.specs.declared.place.Place.{Place}
use Rattle.mir_ir.specs.declared.terminator.Callee.{Callee}
use Rattle.mir_ir.specs.declared.terminator.TerminatorKind.TheVariants.{Call}
use Rattle.mir_ir.specs.declared.body.Block.{Block}
use Rattle.mir_ir.specs.declared.body.Body.{Body}
use Rattle.mir_ir.specs.declared.body.Contracts.{Contracts}
use Rattle.mir_ir.specs.Body.{no_resolves}
use Rattle.mir_ir.specs.Callees.{callee_of}
use Rattle.mir_ir.specs.Declares.{theory_in}
use Rattle.mir_ir.specs.WellFormed.{IsTyped, Labelling, MeetsMoveRows}
use Rattle.mir_machine.specs.Good.{Each, Good}
use Rattle.prophecy_logic.specs.Graph.{Setting, AreObligations}
use Rattle.prophecy_logic.specs.Loop.{is_gone}
use Rattle.mir_ir.specs.declared.body.Initialised.{Initialised}
use Rattle.mir_ir.specs.Layout.{IsLaidOut}
use Rattle.mir_ir.specs.declared.body.Bodies.{Bodies}
use Rattle.mir_ir.specs.Names.{LocalsAreNamed, ContractSpeaks, HeadsSpeak}
use Rattle.prophecy_sim.specs.declared.node.Node.{Node}
use Rattle.prophecy_sim.specs.declared.node.Node.TheVariants.{Function}

-- no value of the type has a reference or a closure in it, where none of these declared types has: integers, truth values, tuples, boxes, and those
-- types, which the bodies declare. (No tree of the machine is of an unbounded integer's type, or of a parameter's)
abbrev mutual
  pub IsOwned : Bodies → (AdtId → Bool) → Ty → Type 0
  IsOwned bodies owns (int k) = Unit {0}
  IsOwned bodies owns bool = Unit {0}
  IsOwned bodies owns math_int = Unit {0}
  IsOwned bodies owns (tuple ts) = AreOwned bodies owns ts
  IsOwned bodies owns (adt d rs ts) = (owns d ≡ true) × ((decl : AdtDecl) × (slice_get bodies.decls d.0 ≡ Some decl)) × AreOwned bodies owns ts
  IsOwned bodies owns (boxed t) = IsOwned bodies owns t
  IsOwned bodies owns (param n) = Unit {0}
  IsOwned bodies owns _ = ⊥

  pub AreOwned : Bodies → (AdtId → Bool) → Tys → Type 0
  AreOwned bodies owns no_tys = Unit {0}
  AreOwned bodies owns (and_ty t ts) = IsOwned bodies owns t × AreOwned bodies owns ts

-- these declared types have none: so are their fields
abbrev pub HaveOwnedFields : Bodies → (AdtId → Bool) → Type 0
HaveOwnedFields bodies owns = (d : AdtId) (k : ℕ) (fs : Tys) → owns d ≡ true → declared (theory_in bodies) d k ≡ Some fs → AreOwned bodies owns fs

-- the values of locals hold no references, each local's type has a value, and loops are entered at their heads
pub record IsSimple (bodies : Bodies) (b : Body) : Type 0 where
  pub names : LocalsAreNamed b
  pub owns : AdtId → Bool
  pub fields : HaveOwnedFields bodies owns
  pub owned : (x : ℕ) (ty : Ty) → slice_get b.locals x ≡ Some ty → IsOwned bodies owns ty
  pub valued : (x : ℕ) (ty : Ty) → slice_get b.locals x ≡ Some ty → (v : Value) × HasSort (declared (theory_in bodies)) v (instance no_tys ty)
  pub laid_out : IsLaidOut b

-- an invariant speaks of parameters, and of locals that are initialised at its head; what is initialised there is not gone
pub record HeadsSpeakOf (b : Body) (c : Contract) (gone : Initialised) (at : Labelling) : Type 0 where
  pub over : HeadsSpeak b c.params at
  pub there : (l : Label) (x : ℕ) → at l 0 x ≡ true → is_gone gone l x ≡ false

-- ---- programs

-- bodies with a contract for each, and what may be gone where in each
pub record Program : Type 0 where
  pub bodies : Bodies
  pub contracts : Contracts
  pub gone : ℕ → Initialised

-- what the walk of function n looks up; so far there are no references
abbrev pub setting : Program → ℕ → Body → Contract → Setting
setting p n b c = record { body = b; contracts = p.contracts; contract = c; init = p.gone n; resolves = no_resolves; decls = p.bodies.decls }

-- body n has its place as its number, is typed and, by this labelling, initialised, and speaks of what is there
pub record IsFunction (p : Program) (at : Labelling) (n : ℕ) (b : Body) : Type 0 where
  pub number : b.id ≡ n
  pub typed : IsTyped p.bodies b
  pub moves : MeetsMoveRows b at
  pub contract : Contract
  pub is_contract : slice_get p.contracts.of n ≡ Some contract
  pub simple : IsSimple p.bodies b
  pub speaks : ContractSpeaks b contract
  pub heads : HeadsSpeakOf b contract (p.gone n) at

-- each body is such a function, by the labelling that is given for it
abbrev pub AreFunctions : Program → (ℕ → Labelling) → Type 0
AreFunctions p labelling = (n : ℕ) (b : Body) → slice_get p.bodies.bodies n ≡ Some b → IsFunction p (labelling n) n b

-- the obligations of the body with the contract are true
pub record HasTrueObligations (Θ : Theory) (w : Setting) : Type 0 where
  pub first : ℕ
  pub obligations : List Obligation
  pub are : AreObligations w first obligations
  pub all_true : Each (IsTrueObligation Θ) obligations

-- ---- what may be reached

-- some block of body n ends with a call of function m
pub record Calls (bodies : Bodies) (n m : ℕ) : Type 0 where
  pub body : Body
  pub is_body : slice_get bodies.bodies n ≡ Some body
  pub at : ℕ
  pub label : Label
  pub block : Block
  pub is_block : slice_get body.blocks at ≡ Some (label, block)
  pub place : Place
  pub callee : Callee
  pub types : List Ty
  pub operands : List Operand
  pub next : Label
  pub is_call : block.end.kind ≡ Call place callee types operands next
  pub is_callee : callee_of bodies callee ≡ Some m

-- the first node uses the second, so it rests on what the second owes
pub data Uses (bodies : Bodies) : Node → Node → Type 0 where
  by_call : {n m : ℕ} → Calls bodies n m → Uses bodies (Function n) (Function m)

-- what may be reached from a node: the least set with it that is closed under uses
pub data Reaches (bodies : Bodies) (from : Node) : Node → Type 0 where
  itself : Reaches bodies from from
  by_use : {n m : Node} → Reaches bodies from n → Uses bodies n m → Reaches bodies from m

-- the obligations of each function that may be reached from the node are true
abbrev pub AreProvedFrom : Theory → Program → Node → Type 0
AreProvedFrom Θ p from = (n : ℕ) (b : Body) (d : Contract) → Reaches p.bodies from (Function n) → slice_get p.bodies.bodies n ≡ Some b → slice_get p.contracts.of n ≡ Some d
    → HasTrueObligations Θ (setting p n b d)

-- a function is good where all obligations of the functions that it may reach are true, whatever the declared types are
abbrev pub TrueObligationsMakeGood : Type 0
TrueObligationsMakeGood = (Θ : Theory) (p : Program) (labelling : ℕ → Labelling) → AreFunctions p labelling
    → (f : ℕ) (c : Contract) → slice_get p.contracts.of f ≡ Some c → AreProvedFrom Θ p (Function f) → Good Θ p.bodies f c
