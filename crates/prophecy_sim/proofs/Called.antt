-- A call: the frame waits at it, and the callee's frame begins as the callee's contract says.
use Rattle.std.proofs.Common.{◌≡◌, ◌∙◌, refl, sym, ap, subst, ℕ, suc, arith, false, List, [], ◌∷◌, ◌++◌, length, drop, take, map, Some, slice_get}
use Rattle.std.proofs.lemmas.Option.{same_Some}
use Rattle.text_core.specs.declared.name.Name.{Name}
use Rattle.text_core.specs.declared.refusal.Kind.TheVariants.{Requires}
use Rattle.text_core.specs.declared.span.Span.{Span}
use Rattle.logic_term.specs.declared.kinds.Label.{Label}
use Rattle.logic_term.specs.declared.obligation.Contract.{Contract}
use Rattle.logic_term.specs.Term.{Term}
use Rattle.logic_term.specs.Meaning.{Env, Holds}
use Rattle.logic_term.specs.Ty.{Ty, no_tys}
use Rattle.logic_term.specs.Value.{Values}
use Rattle.logic_term.proofs.Alike.{yes_alike}
use Rattle.logic_term.proofs.FreeLaw.{coincide_free}
use Rattle.mir_ir.specs.declared.place.Operand.{Operand}
use Rattle.mir_ir.specs.declared.place.Place.{Place}
use Rattle.mir_ir.specs.declared.terminator.Callee.{Callee}
use Rattle.mir_ir.specs.Callees.{callee_of, contract_at}
use Rattle.mir_ir.specs.declared.terminator.TerminatorKind.TheVariants.{Call}
use Rattle.mir_ir.specs.declared.body.Body.{Body}
use Rattle.mir_ir.specs.Declares.{theory_in}
use Rattle.mir_ir.specs.WellFormed.{EndIsTyped, Locals, Labelling, OperandsHave}
use Rattle.mir_ir.proofs.Paths.{AllUsed, operands_used}
use Rattle.mir_ir.proofs.Taking.{CanEnd, CanTakeAll, all_taken}
use Rattle.mir_machine.specs.Tree.{Tree}
use Rattle.mir_machine.specs.Frame.{Frame, State}
use Rattle.mir_machine.specs.Good.{Each, named, here}
use Rattle.mir_machine.specs.Reads.{Plain}
use Rattle.mir_machine.specs.Step.{Outcome, entered, end_step}
use Rattle.mir_machine.specs.Invariant.{Stop, stop_of, stops, local_at}
use Rattle.mir_machine.proofs.EndRows.{callee_found, call-row}
use Rattle.mir_machine.proofs.Stacks.{held_moved}
use Rattle.mir_machine.proofs.TypedRows.{take_all_yields}
use Rattle.mir_machine.proofs.Tried.{Quiet}
use Rattle.mir_machine.proofs.Writes.{same_behind, stops_length}
use Rattle.prophecy_logic.specs.declared.goal.Goal.{Goal}
use Rattle.prophecy_logic.specs.Row.{operand_term}
use Rattle.prophecy_logic.specs.Graph.{Arrives}
use Rattle.prophecy_logic.specs.Prefix.{within}
use Rattle.prophecy_logic.specs.Walk.{seen_before, at_arguments, goals_of_call, call_commands, Walk, met}
use Rattle.prophecy_logic.proofs.Commands.{GoalsHold, goals_first, goals_rest}
use Rattle.prophecy_sim.proofs.Lists.{found_block, each_of}
use Rattle.prophecy_sim.proofs.Setup.{Setup, FunctionOf, move_rows, S, bodies, declarations, own, contract_of, walked, owned_params, OverParams}
use Rattle.prophecy_sim.proofs.Owned.{AllFit, all_fit, AllShow, all_read, all_typed}
use Rattle.prophecy_sim.proofs.Operands.{operand_values, all_taken_before, Agree, agree_moved, took_all_agree, took_all_show}
use Rattle.prophecy_sim.proofs.Calls.{overlay, overlay_named, AsMany, as_many, as_many_operands, with_terms_mean, all_hold, all_exactly}
use Rattle.prophecy_sim.proofs.Memories.{AreBehind, Came, Memories, memories_kept}
use Rattle.prophecy_logic.specs.Walkable.{AllAmong}
use Rattle.prophecy_sim.proofs.Stands.{Holding, they_stand}
use Rattle.prophecy_sim.proofs.Standing.{point_of, Standing}
use Rattle.prophecy_sim.proofs.Ends.{with_call, CallsFine, Continues}
use Rattle.prophecy_sim.proofs.Waits.{params_length}

module _ {K : Type 0} (s : Setup K) (f : FunctionOf s) (ρ₀ : Env) (fr : Frame K) (fs : State K) (inside : length (stops fs) ≡ 0 → ⊥) (st : Standing s f ρ₀ (fr ∷ fs) (length (stops fs)) (stop_of fr))
    (Fine : Outcome K → Type 0) (continues : Continues s f ρ₀ Fine fr fs) where
  abbrev b : Body
  b = f.body

  abbrev now : State K
  now = fr ∷ fs

  abbrev g : Stop
  g = stop_of fr

  abbrev frame : ℕ
  frame = length (stops fs)

  abbrev initialised : Labelling
  initialised = s.labelling f.number

  abbrev ρ : Env
  ρ = st.env

  abbrev end_set : Locals
  end_set = initialised g.label (length st.block.statements)

  module _ {heads : List Label} {v : Walk} (p : Place) (target : Callee) (types : List Ty) (os : List Operand) (l : Label) (d : Contract) (t : Ty) (at : Span)
      (kind : st.block.end.kind ≡ Call p target types os l)
      (is_d : contract_at s.contracts target ≡ Some d) (is_t : slice_get b.locals p.local ≡ Some t) (arrives : Arrives (walked s f) heads l v)
      (came : Came s f ρ₀ (walked s f) heads (within (point_of g)) ρ) (is_last : g.statement ≡ length st.block.statements)
      (hold : GoalsHold (S s) ρ (goals_of_call b d at os ++ seen_before (call_commands b d p.local t os) (met v)))
      (held : Holding s f now frame end_set) (agrees : Agree b now frame end_set ρ) (nested : Memories s f ρ₀ end_set ρ st.block.nest) (enclosing : AllAmong st.block.nest heads)
      (behind : AreBehind s f ρ₀ heads g.label) where
    abbrev ended : EndIsTyped (bodies s) b (Call p target types os l)
    ended = subst (EndIsTyped (bodies s) b) kind ((own s f).typed.ends g.label st.block st.is_block)

    abbrev found : (m : ℕ) × (callee_of (bodies s) target ≡ Some m) × (slice_get (bodies s).bodies m ≡ Some ended.0.0)
    found = callee_found (bodies s) target ended.0.0 ended.0.2

    abbrev callee : FunctionOf s
    callee = record { number = found.0; body = ended.0.0; is_body = found.2 }

    abbrev can : CanTakeAll end_set os
    can = subst (CanEnd end_set) kind ((move_rows s f).ends g.label st.block st.is_block)

    abbrev param_types : List Ty
    param_types = take callee.body.params (drop 1 callee.body.locals)

    abbrev have : OperandsHave b os param_types
    have = ended.0.3

    used : AllUsed (theory_in (bodies s)) b os param_types
    used = operands_used (theory_in (bodies s)) b os param_types have

    abbrev values : Values
    values = operand_values b ρ os

    abbrev set : Locals
    set = all_taken os end_set

    same_contract : d ≡ (own s callee).contract
    same_contract = same_Some _ _ (sym is_d ∙ contract_of s callee target found.1)

    goals_here : GoalsHold (S s) ρ (goals_of_call b (own s callee).contract at os ++ seen_before (call_commands b (own s callee).contract p.local t os) (met v))
    goals_here = subst (λ (e : Contract). GoalsHold (S s) ρ (goals_of_call b e at os ++ seen_before (call_commands b e p.local t os) (met v))) same_contract hold

    -- the environment in which the callee is called
    abbrev called_in : Env
    called_in = named (own s callee).contract.params values

    -- the goals of what is left, behind the call
    abbrev behind_goals : List Goal
    behind_goals = seen_before (call_commands b (own s callee).contract p.local t os) (met v)

    abbrev entered_frame : List (Tree K) → Frame K
    entered_frame args = entered callee.body callee.number no_tys args

    count : AsMany (own s callee).contract.params values
    count = as_many b ρ (own s callee).contract.params os ((own s callee).speaks.count ∙ sym (params_length callee.body (own s callee).typed.answers) ∙ sym (as_many_operands b os param_types have))

    pre_hold : (ts : List Term) → Each (OverParams (own s callee).contract) ts →
        Each (λ q. Holds (S s) q ρ) (map (at_arguments b (own s callee).contract os) ts) → Each (λ q. Holds (S s) q called_in) ts
    pre_hold [] over h = tt
    pre_hold (q ∷ ts) over h =
        let params : List Name = (own s callee).contract.params in
        let there : Holds (S s) q (overlay params values ρ) = (yes_alike _ _ (with_terms_mean (S s) params (map (operand_term b) os) values ρ q (all_exactly (S s) b ρ os))).0 h.0 in
        ((yes_alike _ _ (coincide_free (S s) q (overlay params values ρ) called_in (λ x e. let one = over.0 x e in overlay_named params values ρ one.0 x one.1 count))).0 there, pre_hold ts over.1 h.1)

    here_is : (i : ℕ) × (m : Label) × (slice_get b.blocks i ≡ Some (m, st.block))
    here_is = found_block b.blocks g.label st.block st.is_block

    calls_fine : (u : State K) (args : List (Tree K)) → length u ≡ suc frame → Holding s f u frame set → (length args ≡ length param_types) × AllFit (declarations s) args param_types → Agree b u frame set ρ → AllShow args values →
        CallsFine s f ρ₀ u frame g
    calls_fine u args more held' fit agreed shows = record {
      callee = callee;
      calls = record {
        body = b;
        is_body = f.is_body;
        at = here_is.0;
        label = here_is.1;
        block = st.block;
        is_block = here_is.2;
        place = p;
        callee = target;
        types = types;
        operands = os;
        next = l;
        is_call = kind;
        is_callee = found.1;
      };
      env = called_in;
      args = args;
      begun = record {
        typed = all_typed (declarations s) (with_call s callee args u) args param_types fit.0 fit.1;
        values = values;
        reads = all_read false (with_call s callee args u) s.final Plain here 0 args values shows;
        is_env = refl;
        pre = pre_hold (own s callee).contract.pre
            (each_of (OverParams (own s callee).contract) (own s callee).contract.pre (own s callee).speaks.before)
            (all_hold (S s) Requires at (map (at_arguments b (own s callee).contract os) (own s callee).contract.pre) ρ (goals_first (S s) ρ (goals_of_call b (own s callee).contract at os) behind_goals goals_here));
      };
      waiting = record {
        call = record {
          function = st.function;
          types = st.types;
          block = st.block;
          is_block = st.is_block;
          is_last = is_last;
          place = p;
          type_arguments = types;
          operands = os;
          next = l;
          target = target;
          is_call = kind;
          is_target = found.1;
          answer = t;
          is_answer = is_t;
          env = ρ;
          keeps = st.keeps;
          begun = refl;
          heads = heads;
          came = came;
          walk = v;
          arrives = arrives;
          hold = goals_rest (S s) ρ (goals_of_call b (own s callee).contract at os) behind_goals goals_here;
          nested = memories_kept s f ρ₀ nested (λ h a x ty e inside is_x. (all_taken_before os end_set x inside, refl));
          enclosing = enclosing;
          behind = behind;
        };
        stands = they_stand s f (with_call s callee args u) frame
            (held_moved (declarations s) (λ x. same_behind (entered_frame args) u (local_at frame x) not_last) (λ at e. same_behind (entered_frame args) u at (λ q. not_first (sym q ∙ e))) held')
            (agree_moved b u (with_call s callee args u) frame set ρ (λ x. same_behind (entered_frame args) u (local_at frame x) not_last) agreed);
      };
    }
      where
        not_last : frame ≡ length u → ⊥
        not_last e = omega (arith, more, e)

        not_first : length u ≡ 0 → ⊥
        not_first e = omega (arith, more, e)

    pub call_comes : Quiet Fine (end_step s.code now at (Call p target types os l))
    unfolding calls_fine
    call_comes =
        let takes = take_all_yields (declarations s) b no_tys frame inside (bodies s) s.declares now end_set os param_types (sym (stops_length fs)) held used can in
        let more : length takes.after ≡ suc frame = sym (stops_length takes.after) ∙ ap length takes.stay in
        let shows : AllShow takes.trees values = took_all_show b (theory_in (bodies s)) ρ param_types used can agrees takes.took in
        subst (Quiet Fine) (sym (call-row s.code now takes.after at p target types os l takes.trees callee.number callee.body takes.yields found.1 callee.is_body))
        (continues.calls takes.after takes.stay takes.elsewhere
        (calls_fine takes.after takes.trees more takes.held (all_fit (bodies s) (own s callee).simple.owns (declarations s) s.declares (own s callee).simple.fields (owned_params s callee) takes.typed) (took_all_agree b ρ agrees takes.took) shows))
