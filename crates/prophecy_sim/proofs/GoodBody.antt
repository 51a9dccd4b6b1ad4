-- A function is good where all obligations of the functions that it may reach are true.
use Rattle.std.proofs.Common.{◌≡◌, ◌∙◌, refl, sym, subst, ℕ, false, List, [], ◌∷◌, length, take, drop, Some, slice_get, arith}
use Rattle.std.proofs.lemmas.Option.{same_Some}
use Rattle.logic_term.specs.declared.obligation.Contract.{Contract}
use Rattle.logic_term.specs.Meaning.{Env}
use Rattle.logic_term.specs.Sort.{instance}
use Rattle.logic_term.specs.Ty.{Ty, Tys, no_tys}
use Rattle.logic_term.specs.Value.{Values, nothing}
use Rattle.mir_ir.specs.declared.body.Body.{Body}
use Rattle.mir_ir.specs.Body.{answer_ty}
use Rattle.mir_machine.specs.Tree.{Tree}
use Rattle.mir_machine.specs.Frame.{State}
use Rattle.mir_machine.specs.Reads.{Plain}
use Rattle.mir_machine.specs.Step.{Outcome, Running, Returned, Panicked, Stuck, after, outside}
use Rattle.mir_machine.specs.Typed.{Met, Typed}
use Rattle.mir_machine.specs.Good.{IsProper, IsFine, MeetsRequires, MeetsEnsures, Supply, named, called, here}
use Rattle.mir_machine.specs.Code.{code_of}
use Rattle.mir_machine.specs.Invariant.{from_outside}
use Rattle.mir_machine.proofs.NeverStuck.{never_stuck, no_types_for_none}
use Rattle.mir_machine.proofs.Stacks.{typed_args}
use Rattle.prophecy_sim.specs.Programs.{itself, AreProvedFrom, TrueObligationsMakeGood}
use Rattle.prophecy_sim.specs.declared.node.Node.TheVariants.{Function}
use Rattle.prophecy_sim.proofs.Lists.{get_first}
use Rattle.prophecy_sim.proofs.Setup.{Setup, FunctionOf, program as program_of, bodies, sound, declarations, own, owned_params, local_fits}
use Rattle.prophecy_sim.proofs.Owned.{AllFit, all_fit, AllShow, all_values, all_read, fit_shows, none_met_all, owned_list}
use Rattle.prophecy_sim.proofs.Waits.{first_ty, IsAnswer}
use Rattle.prophecy_sim.proofs.Ends.{Begun}
use Rattle.prophecy_sim.proofs.Begins.{begins}
use Rattle.prophecy_sim.proofs.States.{OutcomeFine, run_fine}

module _ {K : Type 0} (s : Setup K) (f : FunctionOf s) (proved : AreProvedFrom s.theory (program_of s) (Function f.number)) where
  abbrev b : Body
  b = f.body

  abbrev c : Contract
  c = (own s f).contract

  abbrev param_list : List Ty
  param_list = take b.params (drop 1 b.locals)

  -- the call as it begins
  abbrev start : Tys → List (Tree K) → List (Tree K) → State K
  start θ args held = called b f.number θ args held

  module _ (args held : List (Tree K)) (proper : IsProper s.theory (bodies s) f.number no_tys args held b []) (meets : MeetsRequires s.theory no_tys c (start no_tys args held) args []) where
    abbrev fit : (length args ≡ length param_list) × AllFit (declarations s) args param_list
    fit = all_fit (bodies s) (own s f).simple.owns (declarations s) s.declares (own s f).simple.fields (owned_params s f) (typed_args (declarations s) (start no_tys args held) no_tys args param_list [] proper.typed proper.outer)

    abbrev values : (vs : Values) × AllShow args vs
    values = all_values (declarations s) args param_list fit.0 fit.1

    abbrev ρ₀ : Env
    ρ₀ = named c.params values.0

    abbrev Fine : Outcome K → Type 0
    Fine = OutcomeFine s f proved ρ₀

    begun : Begun s (start no_tys args held) f ρ₀ args
    begun = record {
      typed = proper.typed;
      values = values.0;
      reads = all_read false (start no_tys args held) s.final Plain here 0 args values.0 values.1;
      is_env = refl;
      pre = meets (λ at. nothing) values.0 tt (all_read false (start no_tys args held) (λ k at. nothing) Plain here 0 args values.0 values.1);
    }

    starts : Fine (Running (start no_tys args held))
    starts = record {
      call = record { function = f; env = ρ₀ };
      reached = itself;
      standing = begins s f (proved f.number b c itself f.is_body (own s f).is_contract) ρ₀ args (outside held ∷ []) begun;
      behind = from_outside;
    }

    answer : (ty : Ty) × (slice_get b.locals 0 ≡ Some ty)
    answer = get_first b.locals 0 (omega (arith, (own s f).typed.answers))

    ensures_met : (st : State K) (t : Tree K) (fill : Supply) → IsAnswer s st f ρ₀ t → MeetsEnsures s.theory no_tys c (start no_tys args held) args [] st t [] fill
    ensures_met st t fill a =
        let typed : Typed (declarations s) st t (instance no_tys answer.0) [] = subst (λ ty. Typed (declarations s) st t (instance no_tys ty) []) (first_ty b.locals answer.0 answer.1) a.typed in
        record {
          final = λ at. nothing;
          values = values.0;
          result = a.value;
          finals = tt;
          reads = all_read false (start no_tys args held) (λ k at. nothing) Plain here 0 args values.0 values.1;
          result_reads = fit_shows (declarations s) (instance no_tys answer.0) t a.value (local_fits s f 0 answer.0 t answer.1 (record { met = []; typed = typed; outer = tt })) a.reads false st
              (λ k. fill) Plain here;
          holds = a.posts;
        }

    fine_of : (o : Outcome K) → Fine o → (o ≡ Stuck → ⊥) → IsFine s.theory no_tys c (answer_ty b no_tys) (start no_tys args held) args [] o
    fine_of (Running st) h alive = tt
    fine_of (Panicked cause span) h alive = absurd h
    fine_of Stuck h alive = absurd (alive refl)
    fine_of (Returned st t) a alive = ([], a.typed, λ fill sup. ensures_met st t fill a)

    call_fine : (n : ℕ) → IsFine s.theory no_tys c (answer_ty b no_tys) (start no_tys args held) args [] (after s.code n (start no_tys args held))
    call_fine n = fine_of (after s.code n (start no_tys args held)) (run_fine s f proved ρ₀ n (Running (start no_tys args held)) starts)
        (never_stuck s.theory s.code (sound s) f.number no_tys args held b [] proper n)

  -- ---- every proper call

  abbrev CallIsFine : Tys → List (Tree K) → List (Tree K) → List Met → ℕ → Type 0
  CallIsFine θ args held met n =
      IsProper s.theory (bodies s) f.number θ args held b met → MeetsRequires s.theory θ c (start θ args held) args met → IsFine s.theory θ c (answer_ty b θ) (start θ args held) args met
      (after s.code n (start θ args held))

  at_none : (args held : List (Tree K)) (met : List Met) (n : ℕ) → CallIsFine no_tys args held met n
  at_none args held met n proper meets =
      let none : met ≡ [] = none_met_all (bodies s) (own s f).simple.owns (declarations s) s.declares (own s f).simple.fields proper.typed (owned_list (bodies s) (own s f).simple.owns param_list (owned_params s f)) in
      subst (λ ms. CallIsFine no_tys args held ms n) (sym none) (λ p q. call_fine args held p q n) proper meets

  -- so far bodies have no type parameters
  pub calls_are_fine : (θ : Tys) (args held : List (Tree K)) (met : List Met) (n : ℕ) → CallIsFine θ args held met n
  calls_are_fine θ args held met n proper meets = subst (λ τ. CallIsFine τ args held met n) (sym (no_types_for_none θ proper.ground)) (at_none args held met n) proper meets

-- on the machine whose mutable references have no marks
pub good : TrueObligationsMakeGood
good Θ program labelling functions fn c is_contract proved θ args held b met proper meets n =
    let s : Setup (Unit {0}) = record { theory = Θ; code = code_of program.bodies; contracts = program.contracts; gone = program.gone; labelling = labelling; functions = functions; declares = proper.declares; final = λ k at. nothing } in
    let f : FunctionOf s = record { number = fn; body = b; is_body = proper.of } in
    let same : (own s f).contract ≡ c = same_Some _ _ (sym (own s f).is_contract ∙ is_contract) in
    let Fine : Contract → Type 0 = λ d. MeetsRequires Θ θ d (called b fn θ args held) args met → IsFine Θ θ d (answer_ty b θ) (called b fn θ args held) args met (after (code_of program.bodies) n (called b fn θ args held)) in
    subst Fine same (λ q. calls_are_fine s f proved θ args held met n proper q) meets
