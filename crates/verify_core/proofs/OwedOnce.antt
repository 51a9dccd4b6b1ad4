-- So many of the first functions owe one list, and few obligations are not many.
use Rattle.std.proofs.Common.{◌≡◌, ◌∙◌, refl, sym, ap, subst, ℕ, suc, ◌+◌, ◌<◌, ◌≤◌, ◌⊎◌, inl, inr, List, [], ◌++◌, length, length-append, append-nil, append_assoc, Some, arith}
use Rattle.std.proofs.lemmas.Bool.{cases_lt}
use Rattle.logic_term.specs.declared.obligation.Contract.{Contract}
use Rattle.logic_term.specs.declared.obligation.Obligation.{Obligation}
use Rattle.mir_ir.specs.declared.body.Contracts.{Contracts}
use Rattle.mir_ir.specs.declared.body.Bodies.{Bodies}
use Rattle.mir_ir.specs.declared.body.Body.{Body}
use Rattle.mir_ir.specs.declared.body.Initialised.{Initialised}
use Rattle.prophecy_sim.specs.declared.node.Node.TheVariants.{Function}
use Rattle.prophecy_logic.specs.Graph.{Setting}
use Rattle.verify_core.specs.declared.owed.Owed.{Owed}
use Rattle.verify_core.specs.Laws.{OwedIsOne, FewerAreFront, FewerOweFewer, OwedIsOfBodies, FewObligationsAreNotMany}
use Rattle.verify_core.specs.Owed.{owing}
use Rattle.verify_core.specs.Prepared.{setting_of, AreOfWalk, FunctionOwes, FunctionsOwe}
use Rattle.verify_core.proofs.OneWalk.{obligations_once}
use Rattle.verify_core.proofs.ReachLaws.{within}
use Rattle.verify_core.proofs.Basics.{some_same}

-- ---- one function

of_walk_once : (w : Setting) (os others : List Obligation) → AreOfWalk w os → AreOfWalk w others → os ≡ others
of_walk_once w os others one other = (obligations_once w 1 os others one other).0

module _ (bs : Bodies) (cs : Contracts) (gones : List Initialised) where
  abbrev walk_setting : ℕ → Body → Contract → Setting
  walk_setting = setting_of bs cs gones

  function_owes_once : (n : ℕ) (os others : List Obligation) → FunctionOwes bs cs gones n os → FunctionOwes bs cs gones n others → os ≡ others
  function_owes_once n os others one other =
      let body : other.body ≡ one.body = some_same (sym other.is_body ∙ one.is_body) in
      let contract : other.contract ≡ one.contract = some_same (sym other.is_contract ∙ one.is_contract) in
      let moved : AreOfWalk (walk_setting n one.body one.contract) others = subst (λ (c : Contract). AreOfWalk (walk_setting n one.body c) others) contract
      (subst (λ (b : Body). AreOfWalk (walk_setting n b other.contract) others) body other.of_walk) in
      of_walk_once (walk_setting n one.body one.contract) os others one.of_walk moved

  -- ---- the first functions

  owed_once : {n : ℕ} {os others : List Owed} → FunctionsOwe bs cs gones n os → FunctionsOwe bs cs gones n others → os ≡ others
  owed_once FunctionsOwe.none FunctionsOwe.none = refl
  owed_once (FunctionsOwe.and_function {n = n} {owed = first} {os = own} a x) (FunctionsOwe.and_function {owed = second} {os = new} b y) =
      ap (λ (qs : List Owed). qs ++ owing (Function n) own) (owed_once a b) ∙ ap (λ (qs : List Obligation). second ++ owing (Function n) qs) (function_owes_once n own new x y)

  of_bodies : {n : ℕ} {os : List Owed} → FunctionsOwe bs cs gones n os → n ≤ length bs.bodies
  of_bodies FunctionsOwe.none = omega arith
  of_bodies (FunctionsOwe.and_function {n = n} first own) = omega (arith, within bs.bodies n own.body own.is_body)

  front_of : {m : ℕ} {others : List Owed} → FunctionsOwe bs cs gones m others → (n : ℕ) (os : List Owed) → FunctionsOwe bs cs gones n os → n ≤ m → (rest : List Owed) × (others ≡ os ++ rest)
  front_of FunctionsOwe.none n os owe fewer =
      let same : n ≡ 0 = omega arith in
      ([], owed_once FunctionsOwe.none (subst (λ (k : ℕ). FunctionsOwe bs cs gones k os) same owe) ∙ sym (append-nil os))
  front_of (FunctionsOwe.and_function {n = m} {owed = first} {os = own} a x) n os owe fewer = which (cases_lt m n) (λ earlier. front_of a n os owe earlier)
    where
      Front : List Owed → Type 0
      Front qs = (rest : List Owed) × (qs ≡ os ++ rest)

      which : (m < n) ⊎ (n ≤ m) → (n ≤ m → Front first) → Front (first ++ owing (Function m) own)
      which (inl last) earlier =
          let same : n ≡ suc m = omega arith in
          ([], owed_once (FunctionsOwe.and_function a x) (subst (λ (k : ℕ). FunctionsOwe bs cs gones k os) same owe) ∙ sym (append-nil os))
      which (inr before) earlier =
          let r = earlier before in
          (r.0 ++ owing (Function m) own, ap (λ (qs : List Owed). qs ++ owing (Function m) own) r.1 ∙ append_assoc os r.0 (owing (Function m) own))

-- ---- the laws

pub owed_is_one : OwedIsOne
owed_is_one bs cs gones n os others one other = owed_once bs cs gones one other

pub fewer_are_front : FewerAreFront
fewer_are_front bs cs gones n m os others one other fewer = front_of bs cs gones other n os one fewer

pub fewer_owe_fewer : FewerOweFewer
fewer_owe_fewer bs cs gones n m os others one other fewer =
    let f = fewer_are_front bs cs gones n m os others one other fewer in
    omega (arith, ap length f.1, length-append os f.0)

pub owed_is_of_bodies : OwedIsOfBodies
owed_is_of_bodies bs cs gones n os owe = of_bodies bs cs gones owe

pub few_obligations_are_not_many : FewObligationsAreNotMany
few_obligations_are_not_many bs cs gones n os firsts all few some many =
    let fewer = fewer_owe_fewer bs cs gones n (length bs.bodies) firsts os some all (owed_is_of_bodies bs cs gones n firsts some) in
    omega (arith, few, many, fewer)
