-- Proper calls, contracts over states, and good functions. Contracts with mutable references are read as in RustHorn
-- (Matsushita, Tsukada and Kobayashi 2020).
use Rattle.std.specs.Prelude.{◌≡◌, ℕ, ◌==◌, Bool, true, false, ◌&&◌, cond, List, [], ◌∷◌, Option, Some, None, slice_get}
use Rattle.text_core.specs.declared.name.Name.{Name}
use Rattle.logic_term.specs.declared.obligation.Contract.{Contract}
use Rattle.logic_term.specs.Meaning.{Env, Holds, structure_of, with_value}
use Rattle.logic_term.specs.Obligations.{IsInstance}
use Rattle.logic_term.specs.Sort.{HasSort}
use Rattle.logic_term.specs.Term.{Term}
use Rattle.logic_term.specs.Theory.{Theory, declared}
use Rattle.logic_term.specs.Ty.{Ty, Tys}
use Rattle.logic_term.specs.Value.{Value, Values, nothing, no_values, and_value}
use Rattle.mir_ir.specs.declared.body.Body.{Body}
use Rattle.mir_machine.specs.declared.spot.Spot.{Spot}
use Rattle.mir_machine.specs.Try.{Yields}
use Rattle.mir_machine.specs.Tree.{Tree, trees_of}
use Rattle.mir_machine.specs.Frame.{State}
use Rattle.mir_ir.specs.Body.{param_tys, answer_ty}
use Rattle.mir_ir.specs.Declares.{Declares}
use Rattle.mir_machine.specs.Memory.{tree_at}
use Rattle.mir_machine.specs.Step.{Outcome, Running, Returned, Panicked, Stuck, after, entered, outside}
use Rattle.mir_machine.specs.Typed.{Met, Typed, AreTyped}
use Rattle.mir_machine.specs.Reads.{View, Owner, Plain, Reads, ReadsAll}
use Rattle.mir_ir.specs.declared.body.Bodies.{Bodies}
use Rattle.mir_machine.specs.Code.{code_of}

abbrev pub Each : {A : Type 0} → (A → Type 0) → List A → Type 0
Each P [] = Unit {0}
Each P (x ∷ xs) = P x × Each P xs

-- ---- proper calls

-- the path of one begins the path of the other
abbrev pub begins : List ℕ → List ℕ → Bool
begins [] q = true
begins (n ∷ p) [] = true
begins (n ∷ p) (m ∷ q) = (n == m) && begins p q

abbrev pub overlap : Spot → Spot → Bool
overlap a b = (a.frame == b.frame) && (a.local == b.local) && begins a.path b.path

-- the call of a body as it begins, with these arguments and these trees outside
abbrev pub called : {K : Type 0} → Body → ℕ → Tys → List (Tree K) → List (Tree K) → State K
called b f θ args held = entered b f θ args ∷ outside held ∷ []

-- the call of function f with these arguments and these trees outside; met: the references met from the arguments
pub record IsProper {K : Type 0} (Θ : Theory) (bodies : Bodies) (f : ℕ) (θ : Tys) (args held : List (Tree K)) (b : Body) (met : List Met) : Type 0 where
  pub of : slice_get bodies.bodies f ≡ Some b
  -- so far bodies have no type parameters
  pub ground : IsInstance Θ [] θ
  -- types are those that the bodies declare
  pub declares : Declares (declared Θ) bodies
  pub outside_typed : Each (λ t. (ty : Ty) × (rs : List Met) × Typed (declared Θ) (called b f θ args held) t ty rs) held
  pub typed : AreTyped (declared Θ) (called b f θ args held) (trees_of args) (param_tys b θ) met
  -- they refer to places of frame 0
  pub outer : Each (λ r. r.place.frame ≡ 0) met
  -- the place of a mutable one overlaps that of no other
  pub apart : (i j : ℕ) (r q : Met) → slice_get met i ≡ Some r → slice_get met j ≡ Some q → r.mutable ≡ true → overlap r.place q.place ≡ true → i ≡ j

-- ---- contracts over states

-- the environment of a contract: these names have these values; all others have one that is fixed
abbrev pub named : List Name → Values → Env
named [] vs = λ x. nothing
named (x ∷ xs) no_values = λ x. nothing
named (x ∷ xs) (and_value v vs) = with_value (named xs vs) x v

abbrev pub AllHold : Theory → Tys → Env → List Term → Type 0
AllHold Θ θ ρ ts = Each (λ t. Holds (structure_of Θ θ) t ρ) ts

-- a value for each place
abbrev pub Supply : Type 0
Supply = Spot → Value

-- each place that a mutable reference was met to has a value of its type
abbrev pub Supplies : Theory → Supply → List Met → Type 0
Supplies Θ final met = Each (λ r. r.mutable ≡ true → HasSort (declared Θ) (final r.place) r.of) met

abbrev pub not_lent : {K : Type 0} → View K → Spot → Option Value
not_lent w at = None

-- a spot for trees that stand at none
abbrev pub here : Spot
here = record { frame = 0; local = 0; path = [] }

-- each `requires` is true of the arguments as they read, at every supply of final values
abbrev pub MeetsRequires : {K : Type 0} → Theory → Tys → Contract → State K → List (Tree K) → List Met → Type 0
MeetsRequires {K} Θ θ c s args met =
    (final : Supply) (vs : Values) → Supplies Θ final met → ReadsAll {K = K} false s (λ k. final) not_lent Plain here 0 (trees_of args) vs → AllHold Θ θ (named c.params vs) c.pre

abbrev pub same_path : List ℕ → List ℕ → Bool
same_path [] [] = true
same_path (n ∷ p) (m ∷ q) = (n == m) && same_path p q
same_path _ _ = false

abbrev pub same_spot : Spot → Spot → Bool
same_spot a b = (a.frame == b.frame) && (a.local == b.local) && same_path a.path b.path

-- a filling stands in each place that the result refers to mutably
abbrev pub filled : List Met → Supply → Spot → Option Value
filled [] fill at = None
filled (r ∷ rs) fill at = cond (r.mutable && same_spot r.place at) (Some (fill at)) (filled rs fill at)

-- the final value of each mutable argument is what its place reads as at the return, with the fillings
abbrev pub AreFinal : {K : Type 0} → State K → Supply → List Met → Supply → List Met → Type 0
AreFinal {K} s' fill returned final met =
    Each (λ r. r.mutable ≡ true → (t : Tree K) × (tree_at s' r.place ≡ Yields t) × Reads false s' (λ k. fill) (λ w. filled returned fill) Owner r.place t (final r.place)) met

-- s, args: the state and the arguments as the call began; s', t: the state and the answer at the return; returned: the
-- references met from the answer
pub record MeetsEnsures {K : Type 0} (Θ : Theory) (θ : Tys) (c : Contract) (s : State K) (args : List (Tree K)) (met : List Met) (s' : State K) (t : Tree K) (returned : List Met) (fill : Supply) : Type 0 where
  pub final : Supply
  pub values : Values
  pub result : Value
  pub finals : AreFinal s' fill returned final met
  pub reads : ReadsAll false s (λ k. final) not_lent Plain here 0 (trees_of args) values
  pub result_reads : Reads false s' (λ k. fill) not_lent Plain here t result
  pub holds : AllHold Θ θ (with_value (named c.params values) c.answer result) c.post

-- ---- good functions

-- no panic and no stuck state; at a return the answer has its type, and the postcondition holds at every filling
abbrev pub IsFine : {K : Type 0} → Theory → Tys → Contract → Ty → State K → List (Tree K) → List Met → Outcome K → Type 0
IsFine Θ θ c answer s args met (Running s') = Unit {0}
IsFine Θ θ c answer s args met (Returned s' t) =
    (returned : List Met) × Typed (declared Θ) s' t answer returned × ((fill : Supply) → Supplies Θ fill returned → MeetsEnsures Θ θ c s args met s' t returned fill)
IsFine Θ θ c answer s args met (Panicked cause span) = ⊥
IsFine Θ θ c answer s args met Stuck = ⊥

-- function f is good for the contract: at every instance, each proper call that meets the `requires` is fine, however many
-- steps it is run
abbrev pub Good : Theory → Bodies → ℕ → Contract → Type 0
Good Θ bodies f c =
    (θ : Tys) (args held : List (Tree (Unit {0}))) (b : Body) (met : List Met) →
    IsProper Θ bodies f θ args held b met →
    MeetsRequires Θ θ c (called b f θ args held) args met →
    (n : ℕ) → IsFine Θ θ c (answer_ty b θ) (called b f θ args held) args met (after (code_of bodies) n (called b f θ args held))
