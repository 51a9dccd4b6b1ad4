-- What the simulation is about: a program on the machine, and one of its functions.
use Rattle.std.proofs.Common.{◌≡◌, ◌∙◌, sym, ap, ℕ, suc, ◌<◌, Some, slice_get, take, drop, arith, true}
use Rattle.std.proofs.lemmas.Option.{slice_get_within, same_Some}
use Rattle.text_core.specs.declared.name.Name.{Name}
use Rattle.logic_term.specs.declared.obligation.Contract.{Contract}
use Rattle.logic_term.specs.Meaning.{Structure, structure_of}
use Rattle.logic_term.specs.Sort.{Declarations, instance}
use Rattle.logic_term.specs.Theory.{Theory, declared}
use Rattle.logic_term.specs.Free.{free}
use Rattle.logic_term.specs.Term.{Term}
use Rattle.logic_term.specs.Ty.{Ty, no_tys}
use Rattle.logic_term.specs.Value.{Value}
use Rattle.mir_ir.specs.declared.body.Bodies.{Bodies}
use Rattle.mir_ir.specs.declared.body.Body.{Body}
use Rattle.mir_ir.specs.declared.body.Contracts.{Contracts}
use Rattle.mir_ir.specs.declared.body.Initialised.{Initialised}
use Rattle.mir_ir.specs.declared.terminator.Callee.{Callee}
use Rattle.mir_ir.specs.declared.terminator.Callee.TheVariants.{Function}
use Rattle.mir_ir.specs.declared.terminator.FnId.TheVariants.{Body as OfBody}
use Rattle.mir_ir.specs.Callees.{callee_of, contract_at}
use Rattle.mir_ir.specs.Declares.{Declares}
use Rattle.mir_ir.specs.Names.{IsOneOf, new_number}
use Rattle.mir_ir.proofs.Taking.{RowByRow, row_by_row}
use Rattle.mir_ir.specs.WellFormed.{AreSound, Labelling}
use Rattle.mir_machine.specs.Code.{Code}
use Rattle.mir_machine.specs.declared.spot.Spot.{Spot}
use Rattle.mir_machine.specs.Frame.{State}
use Rattle.mir_machine.specs.Invariant.{HasType}
use Rattle.mir_machine.specs.Tree.{Tree}
use Rattle.prophecy_logic.specs.Row.{value_name, part_name, or_value_name, name_of}
use Rattle.prophecy_logic.specs.Graph.{Setting}
use Rattle.prophecy_sim.specs.Programs.{Program, setting, IsFunction, AreFunctions}
use Rattle.prophecy_sim.proofs.Lists.{get_first, get_taken, get_behind}
use Rattle.prophecy_sim.proofs.Owned.{AllOwned, Fits, fits}

-- the code of a machine whose mutable references have marks, a contract and a labelling for each body, and the last value of what each
-- mutable reference refers to
pub record Setup (K : Type 0) : Type 0 where
  pub theory : Theory
  pub code : Code K
  pub contracts : Contracts
  pub gone : ℕ → Initialised
  pub labelling : ℕ → Labelling
  pub functions : AreFunctions (record { bodies = code.program; contracts = contracts; gone = gone }) labelling
  -- the theory declares what the bodies declare
  pub declares : Declares (declared theory) code.program
  pub final : K → Spot → Value

-- a name that is not that of new values is not that of the walk's
pub not_value_name : (n : Name) → n.0 < new_number → n.0 ≡ value_name.0 → ⊥
unfolding value_name
not_value_name n below e = omega (arith, e)

pub not_part_name : (n : Name) (k : ℕ) → n.0 < new_number → n.0 ≡ (part_name k).0 → ⊥
unfolding part_name
not_part_name n k below e = omega (arith, e)

pub named_as : (b : Body) (x : ℕ) (n : Name) → slice_get b.names x ≡ Some n → name_of b x ≡ n
named_as b x n e = ap or_value_name e

-- what a `requires` speaks of, and what an `ensures` speaks of
abbrev pub OverParams : Contract → Term → Type 0
OverParams c t = (x : Name) → free x t ≡ true → IsOneOf x c.params

abbrev pub OverAnswer : Contract → Term → Type 0
OverAnswer c t = (x : Name) → free x t ≡ true → (x.0 ≡ c.answer.0 → ⊥) → IsOneOf x c.params

-- the name is of no local, and not one of new values
abbrev pub IsOutside : Body → Name → Type 0
IsOutside b n = ((x : ℕ) (m : Name) → slice_get b.names x ≡ Some m → n.0 ≡ m.0 → ⊥) × (n.0 ≡ value_name.0 → ⊥) × ((k : ℕ) → n.0 ≡ (part_name k).0 → ⊥)

module _ {K : Type 0} (s : Setup K) where
  abbrev pub program : Program
  program = record { bodies = s.code.program; contracts = s.contracts; gone = s.gone }

  abbrev pub bodies : Bodies
  bodies = s.code.program

  -- so far bodies have no type parameters
  abbrev pub S : Structure
  S = structure_of s.theory no_tys

  abbrev pub declarations : Declarations
  declarations = declared s.theory

  abbrev pub sound : AreSound bodies
  sound n b is_body = let f = s.functions n b is_body in (f.typed, (s.labelling n, f.moves), f.number)

  -- a function of the program
  pub record FunctionOf : Type 0 where
    pub number : ℕ
    pub body : Body
    pub is_body : slice_get bodies.bodies number ≡ Some body

  module _ (f : FunctionOf) where
    abbrev pub own : IsFunction program (s.labelling f.number) f.number f.body
    own = s.functions f.number f.body f.is_body

    -- its rows on moves, form by form
    pub move_rows : RowByRow f.body (s.labelling f.number)
    move_rows = row_by_row f.body (s.labelling f.number) own.moves

    -- the contract by which a call is reasoned about, where the call runs the function
    pub contract_of : (callee : Callee) → callee_of bodies callee ≡ Some f.number → contract_at s.contracts callee ≡ Some own.contract
    contract_of (Function (OfBody n)) e = ap (slice_get s.contracts.of) (same_Some _ _ e) ∙ own.is_contract

    -- what the walk of the function looks up
    abbrev pub walked : Setting
    walked = setting program f.number f.body own.contract

    -- each local has a name
    pub local_named : (x : ℕ) (ty : Ty) → slice_get f.body.locals x ≡ Some ty → slice_get f.body.names x ≡ Some (name_of f.body x)
    local_named x ty e =
        let n = get_first f.body.names x (omega (arith, slice_get_within f.body.locals x ty e, own.typed.named)) in
        n.1 ∙ ap (λ m. Some m) (sym (named_as f.body x n.0 n.1))

    -- a name of the body is that of a local
    pub local_of : (x : ℕ) (n : Name) → slice_get f.body.names x ≡ Some n → (ty : Ty) × (slice_get f.body.locals x ≡ Some ty)
    local_of x n e = get_first f.body.locals x (omega (arith, slice_get_within f.body.names x n e, own.typed.named))

    pub owned_params : AllOwned bodies own.simple.owns (take f.body.params (drop 1 f.body.locals))
    owned_params i ty e = own.simple.owned (suc i) ty (get_behind f.body.locals i ty (get_taken (drop 1 f.body.locals) f.body.params i ty e))

    -- what is of a local's type is so in every state
    pub local_fits : {st : State K} (x : ℕ) (ty : Ty) (t : Tree K) → slice_get f.body.locals x ≡ Some ty → HasType declarations st (instance no_tys ty) t → Fits declarations t (instance no_tys ty)
    local_fits x ty t is_x h = fits bodies own.simple.owns declarations s.declares own.simple.fields ty t (own.simple.owned x ty is_x) h

    -- a local of another number has another name, and not that of new values
    pub apart_from : (x y : ℕ) (t u : Ty) → slice_get f.body.locals x ≡ Some t → slice_get f.body.locals y ≡ Some u → (y ≡ x → ⊥) → (name_of f.body y).0 ≡ (name_of f.body x).0 → ⊥
    apart_from x y t u is_x is_y other q = other (own.simple.names.apart y x (name_of f.body y) (name_of f.body x) (local_named y u is_y) (local_named x t is_x) q)

    pub not_new : (x : ℕ) (t : Ty) → slice_get f.body.locals x ≡ Some t → (name_of f.body x).0 ≡ value_name.0 → ⊥
    not_new x t is_x = not_value_name (name_of f.body x) (own.simple.names.none_is_new x (name_of f.body x) (local_named x t is_x))

    pub not_part : (x : ℕ) (t : Ty) → slice_get f.body.locals x ≡ Some t → (k : ℕ) → (name_of f.body x).0 ≡ (part_name k).0 → ⊥
    not_part x t is_x k = not_part_name (name_of f.body x) k (own.simple.names.none_is_new x (name_of f.body x) (local_named x t is_x))

    pub params_outside : (x : Name) → IsOneOf x own.contract.params → IsOutside f.body x
    params_outside x one = ((λ y n e q. own.speaks.no_local one.0 y x n one.1 e q), not_value_name x (own.speaks.none_is_new one.0 x one.1), λ k. not_part_name x k (own.speaks.none_is_new one.0 x one.1))
