-- What the names in a body and in its contract stand for: each local, each parameter, the answer and each new value has a name of its
-- own, and a formula speaks of what is there where it is looked at.
use Rattle.std.specs.Prelude.{◌≡◌, ℕ, ◌+◌, ◌<◌, ◌^◌, ◌⊎◌, true, List, length, Some, slice_get}
use Rattle.text_core.specs.declared.name.Name.{Name}
use Rattle.logic_term.specs.declared.kinds.Label.{Label}
use Rattle.logic_term.specs.declared.obligation.Contract.{Contract}
use Rattle.logic_term.specs.Free.{free}
use Rattle.logic_term.specs.Term.{Term}
use Rattle.mir_ir.specs.declared.body.Block.{Block}
use Rattle.mir_ir.specs.declared.body.Body.{Body}
use Rattle.mir_ir.specs.declared.body.Head.{Head}
use Rattle.mir_ir.specs.Body.{block_in}
use Rattle.mir_ir.specs.WellFormed.{Labelling, Locals}

-- the number of the first name that new values have: those of locals and of parameters are before it
abbrev pub new_number : ℕ
new_number = 2 ^ 63 + 2 ^ 62

-- no two locals have one name, and none has one of new values
pub record LocalsAreNamed (b : Body) : Type 0 where
  pub apart : (x y : ℕ) (n m : Name) → slice_get b.names x ≡ Some n → slice_get b.names y ≡ Some m → n.0 ≡ m.0 → x ≡ y
  pub none_is_new : (x : ℕ) (n : Name) → slice_get b.names x ≡ Some n → n.0 < new_number

-- one of these names
abbrev pub IsOneOf : Name → List Name → Type 0
IsOneOf x xs = (i : ℕ) × (slice_get xs i ≡ Some x)

-- the name of a local of the set
abbrev pub IsNameIn : Body → Locals → Name → Type 0
IsNameIn b set x = (y : ℕ) × (set y ≡ true) × (slice_get b.names y ≡ Some x)

-- the contract has a name for each parameter, all apart from one another, from those of locals and from those of new values; a `requires`
-- speaks of the parameters alone, and an `ensures` of the answer as well
pub record ContractSpeaks (b : Body) (c : Contract) : Type 0 where
  pub count : length c.params ≡ b.params
  pub apart : (i j : ℕ) (x y : Name) → slice_get c.params i ≡ Some x → slice_get c.params j ≡ Some y → x.0 ≡ y.0 → i ≡ j
  pub no_local : (i x : ℕ) (n m : Name) → slice_get c.params i ≡ Some n → slice_get b.names x ≡ Some m → n.0 ≡ m.0 → ⊥
  pub none_is_new : (i : ℕ) (n : Name) → slice_get c.params i ≡ Some n → n.0 < new_number
  pub before : (j : ℕ) (t : Term) → slice_get c.pre j ≡ Some t → (x : Name) → free x t ≡ true → IsOneOf x c.params
  pub over : (j : ℕ) (t : Term) → slice_get c.post j ≡ Some t → (x : Name) → free x t ≡ true → (x.0 ≡ c.answer.0 → ⊥) → IsOneOf x c.params

-- the invariants speak of these names, and of locals that are initialised at their heads
abbrev pub HeadsSpeak : Body → List Name → Labelling → Type 0
HeadsSpeak b xs at =
    (l : Label) (k : Block) (h : Head) → block_in b.blocks l ≡ Some k → k.head ≡ Some h
    → (j : ℕ) (t : Term) → slice_get h.invariants j ≡ Some t → (x : Name) → free x t ≡ true → IsOneOf x xs ⊎ IsNameIn b (at l 0) x
