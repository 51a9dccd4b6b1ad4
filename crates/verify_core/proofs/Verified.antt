-- What is derived is true; and each function that is verified is good.
use Rattle.std.proofs.Common.{◌≡◌, refl, sym, subst, ℕ, Bool, true, false, List, [], ◌∷◌, Some, slice_get, ◌∙◌, true≢false}
use Rattle.logic_term.specs.declared.declaration.AdtDecl.{AdtDecl}
use Rattle.logic_term.specs.declared.obligation.Contract.{Contract}
use Rattle.logic_term.specs.declared.obligation.Obligation.{Obligation}
use Rattle.mir_ir.specs.declared.body.Body.{Body}
use Rattle.logic_term.specs.Obligations.{IsTrueObligation}
use Rattle.logic_term.specs.Theory.{Theory}
use Rattle.logic_term.specs.Ty.{Tys}
use Rattle.mir_machine.specs.Good.{Each, IsProper, called}
use Rattle.mir_machine.specs.Step.{Stuck, after as state_after}
use Rattle.mir_machine.specs.Tree.{Tree}
use Rattle.mir_machine.specs.Typed.{Met}
use Rattle.mir_machine.proofs.NeverStuck.{never_stuck}
use Rattle.declared_types.specs.DeclaredTypes.{declared_types}
use Rattle.mir_build.specs.Laws.{Lowers}
use Rattle.prophecy_sim.specs.Programs as sim
use Rattle.prophecy_sim.proofs.GoodBody.{good as true_makes_good}
use Rattle.proof_kernel.specs.declared.setting.Tables.{Tables}
use Rattle.proof_kernel.specs.Setting.{theory_of}
use Rattle.proof_kernel.proofs.Derived.{proof_is_sound}
use Rattle.proof_text.specs.declared.proof.Proof.{Proof}
use Rattle.report_out.specs.declared.verdict.Verdict.{Verdict}
use Rattle.source_trees.specs.declared.item.Item.{Item}
use Rattle.type_check.specs.declared.program.TypedProgram.{TypedProgram}
use Rattle.type_check.specs.Checked.{checked}
use Rattle.type_check.specs.WellTyped.{ProgramFits}
use Rattle.runnable.proofs.Unrun.{each_is_plain}
use Rattle.type_check.proofs.Whole.{answered_fits}
use Rattle.std.specs.Prelude.{Ok}
use Rattle.prophecy_sim.specs.declared.node.Node.TheVariants.{Function}
use Rattle.verify_core.specs.declared.program.Program.{Program}
use Rattle.verify_core.specs.Declarations.{declared_of}
use Rattle.verify_core.specs.OnSource.{AreGood}
use Rattle.verify_core.specs.Owed.{owed_by, HaveOwners}
use Rattle.prophecy_logic.specs.Graph.{Setting}
use Rattle.verify_core.specs.Prepared.{IsPrepared, AreOfWalk, program_of, setting_of}
use Rattle.verify_core.specs.Verdict.{steps_of, HasDerivation, Tells, IsVerified, IsVerdict}
use Rattle.verify_core.proofs.Assembly.{sound, labelling, functions}
use Rattle.verify_core.proofs.OwedLaws.{have_owners, function_owes}
use Rattle.verify_core.proofs.ReachLaws.{within}
use Rattle.mir_machine.specs.Code.{code_of}
use Rattle.verify_core.proofs.Basics.{some_same}

-- what passes the types fits
pub typed_program_fits : (ds : List AdtDecl) (items : List Item) (p : TypedProgram) → checked ds items ≡ Ok p → ProgramFits ds p
typed_program_fits ds items p e = answered_fits ds items (Ok p) e

-- ---- what true obligations are worth

true_goals : (T : Tables) (ps : List Proof) (os : List Obligation) → Each (HasDerivation T ps) os → Each (IsTrueObligation (theory_of T)) os
true_goals T ps [] each = tt
true_goals T ps (o ∷ os) (has, each) = (proof_is_sound T o (steps_of has.proof.steps) has.derives, true_goals T ps os each)

verified_at : (ps : List Proof) (p : Program) (f : ℕ) (flag : Bool) → Tells flag (IsVerified ps p f) → flag ≡ true → IsVerified ps p f
verified_at ps p f true tells e = tells
verified_at ps p f false tells e = absurd (true≢false (sym e))

lowering : (source : List ℕ) (p : Program) → (prepared : IsPrepared source p) → Lowers p.names (declared_types prepared.is_typed.items) prepared.typed.functions p.bodies p.contracts prepared.gones
lowering source p prepared =
    let t = prepared.is_typed in
    record { lowers = prepared.lowers; fits = typed_program_fits (declared_types t.items) t.items prepared.typed t.is_typed; plain = each_is_plain (declared_types t.items) prepared.typed.functions t.all_run }

-- no proper call of a function of an accepted source is stuck
pub accepted_is_never_stuck : (source : List ℕ) (p : Program) → IsPrepared source p → (Θ : Theory) (f : ℕ) (θ : Tys) (args held : List (Tree (Unit {0}))) (b : Body) (met : List Met) → IsProper Θ p.bodies f θ args held b met
    → (n : ℕ) → state_after (code_of p.bodies) n (called b f θ args held) ≡ Stuck → ⊥
accepted_is_never_stuck source p prepared Θ f θ args held b met proper n =
    never_stuck Θ (code_of p.bodies) (sound p.names (declared_types prepared.is_typed.items) prepared.typed.functions p.bodies p.contracts prepared.gones (lowering source p prepared)) f θ args held b met proper n

-- each obligation of an accepted source is owed by a function that has a body
pub owners_of_prepared : (source : List ℕ) (p : Program) → IsPrepared source p → HaveOwners p.bodies p.obligations
owners_of_prepared source p prepared = have_owners p.bodies p.contracts prepared.gones prepared.owed

module _ (source : List ℕ) (p : Program) (prepared : IsPrepared source p) where
  abbrev walk_setting : ℕ → Body → Contract → Setting
  walk_setting = setting_of p.bodies p.contracts prepared.gones

  -- what function n owes is of the walk of its body
  owed_of_walk : (n : ℕ) (b : Body) (c : Contract) → slice_get p.bodies.bodies n ≡ Some b → slice_get p.contracts.of n ≡ Some c → AreOfWalk (walk_setting n b c) (owed_by (Function n) p.obligations)
  owed_of_walk n b c is_b is_c =
      let own = function_owes p.bodies p.contracts prepared.gones prepared.owed n (within p.bodies.bodies n b is_b) in
      let same_body : own.body ≡ b = some_same (sym own.is_body ∙ is_b) in
      let same_contract : own.contract ≡ c = some_same (sym own.is_contract ∙ is_c) in
      subst (λ (d : Contract). AreOfWalk (walk_setting n b d) (owed_by (Function n) p.obligations)) same_contract
      (subst (λ (a : Body). AreOfWalk (walk_setting n a own.contract) (owed_by (Function n) p.obligations)) same_body own.of_walk)

  -- and true, where it is proved
  owed_are_true : (ps : List Proof) (n : ℕ) (b : Body) (c : Contract) → slice_get p.bodies.bodies n ≡ Some b → slice_get p.contracts.of n ≡ Some c → Each (HasDerivation p.tables ps) (owed_by (Function n) p.obligations)
      → sim.HasTrueObligations (declared_of p) (walk_setting n b c)
  owed_are_true ps n b c is_b is_c proved =
      let of_walk = owed_of_walk n b c is_b is_c in
      record {
        first = 1;
        obligations = owed_by (Function n) p.obligations;
        are = of_walk;
        all_true = subst (λ (T : Tables). Each (IsTrueObligation (theory_of T)) (owed_by (Function n) p.obligations)) prepared.tables (true_goals p.tables ps (owed_by (Function n) p.obligations) proved);
      }

  -- each function that the verdict lists as verified is good for its contract
  pub verified_is_good : (ps : List Proof) (v : Verdict) → IsVerdict ps p v → AreGood p v
  verified_is_good ps v verdict f line c is_line verified is_contract =
      let lowers = lowering source p prepared in
      let all : IsVerified ps p f = verified_at ps p f line.verified (verdict.lines.told f line is_line) verified in
      true_makes_good (declared_of p) (program_of p.bodies p.contracts prepared.gones) (labelling p.names (declared_types prepared.is_typed.items) prepared.typed.functions p.bodies p.contracts prepared.gones lowers)
      (functions p.names (declared_types prepared.is_typed.items) prepared.typed.functions p.bodies p.contracts prepared.gones lowers prepared.is_typed.items refl prepared.is_typed.in_order) f c is_contract
      (λ n b d reaches is_body is_d. owed_are_true ps n b d is_body is_d (all (Function n) reaches))
