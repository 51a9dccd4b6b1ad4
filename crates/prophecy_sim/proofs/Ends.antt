-- The end of a block: a frame that stands there goes on along an edge, or answers as its contract says.
use Rattle.std.proofs.Common.{◌≡◌, ◌∙◌, ◌⊎◌, inl, inr, refl, sym, ap, subst, ℕ, Bool, true, false, cond, List, [], ◌∷◌, ◌++◌, length, drop, map, Some, slice_get, arith}
use Rattle.text_core.specs.declared.name.Name.{Name}
use Rattle.text_core.specs.declared.refusal.Kind.TheVariants.{Ensures}
use Rattle.text_core.specs.declared.span.Span.{Span}
use Rattle.logic_term.specs.declared.kinds.Label.{Label}
use Rattle.logic_term.specs.Free.{free}
use Rattle.logic_term.specs.Term.{Term, var}
use Rattle.logic_term.specs.Term as terms
use Rattle.logic_term.specs.Meaning.{Env, Means, Holds, with_value}
use Rattle.logic_term.specs.Sort.{instance}
use Rattle.logic_term.specs.Ty.{Ty, bool, no_tys}
use Rattle.logic_term.specs.Value.{Value, Values, Flag}
use Rattle.logic_term.proofs.Alike.{yes_alike, alike_same}
use Rattle.logic_term.proofs.Coincide.{with_same, with_other}
use Rattle.logic_term.proofs.FreeLaw.{coincide_free, same_name}
use Rattle.logic_term.proofs.PlacedLaw.{replaced_means}
use Rattle.logic_term.proofs.Truth.{Exactly, yes_flag, holds_not}
use Rattle.mir_ir.specs.declared.place.Operand.{Operand}
use Rattle.mir_ir.specs.declared.terminator.TerminatorKind.TheVariants.{If, Return}
use Rattle.mir_ir.specs.declared.body.Body.{Body}
use Rattle.mir_ir.specs.Body.{param_tys}
use Rattle.mir_ir.specs.Layout.{among, targets}
use Rattle.mir_ir.specs.Declares.{theory_in}
use Rattle.mir_ir.specs.WellFormed.{UsedHas, EndIsTyped, Locals, Labelling, Within as Within_set}
use Rattle.mir_ir.proofs.Paths.{operand_used}
use Rattle.mir_ir.proofs.Taking.{taken, CanEnd, Carries}
use Rattle.mir_machine.specs.Tree.{Tree, trees_of}
use Rattle.mir_machine.specs.Frame.{Frame, State}
use Rattle.mir_machine.specs.Good.{Each, named, here, not_lent}
use Rattle.mir_machine.specs.Reads.{Plain, ReadsAll}
use Rattle.mir_machine.specs.Typed.{Typed, AreTyped}
use Rattle.mir_machine.specs.Memory.{running, tree_at}
use Rattle.mir_machine.specs.Step.{Outcome, Running, entered, end_step, come_back}
use Rattle.mir_machine.specs.Try.{Yields}
use Rattle.mir_machine.specs.Invariant.{Stop, stop_of, stops, local_at}
use Rattle.mir_machine.proofs.EndRows.{if-row, return-row}
use Rattle.mir_machine.proofs.Stacks.{held_moved}
use Rattle.mir_machine.proofs.TypedRows.{Takes, take_yields, held_within, local_read}
use Rattle.mir_machine.proofs.TypedTrees.{Shape, has_shape}
use Rattle.mir_machine.proofs.Tried.{Quiet}
use Rattle.mir_machine.proofs.Writes.{SameElsewhere, at_start, stops_length}
use Rattle.prophecy_logic.specs.Command.{by_assume, none, more, MovesAll}
use Rattle.prophecy_logic.specs.Row.{operand_term, name_of}
use Rattle.prophecy_logic.specs.Graph.{IsAtEnd, Arrives}
use Rattle.prophecy_logic.specs.Prefix.{arrival, within, to_true_side, to_false_side}
use Rattle.prophecy_logic.specs.Walk.{seen_before, goals_at_return, where_true, where_false, at_answer, Walk, met}
use Rattle.prophecy_logic.proofs.Commands.{GoalsHold, goals_moved, goals_first, goals_rest}
use Rattle.prophecy_sim.specs.Programs.{Calls as CallsBody}
use Rattle.prophecy_sim.proofs.Lists.{get_first, each_of, decide}
use Rattle.prophecy_sim.proofs.Setup.{Setup, FunctionOf, move_rows, S, bodies, declarations, own, walked, params_outside, local_fits, OverAnswer}
use Rattle.prophecy_sim.proofs.Owned.{Shows, shows_truth}
use Rattle.prophecy_sim.proofs.Operands.{operand_value, operand_means, taken_before, Agree, agree_within, agree_moved, took_shows, took_agrees}
use Rattle.prophecy_sim.proofs.Memories.{among_first, among_second, KeepsOutside, Came, came_on, Reached}
use Rattle.prophecy_sim.proofs.Standing.{point_of, Standing, arrived, each_holds}
use Rattle.prophecy_sim.proofs.Stands.{Holding}
use Rattle.prophecy_sim.proofs.Waits.{first_ty, IsAnswer, Waiting}

not_true : false ≡ true → ⊥
not_true e = cc

module _ {K : Type 0} (s : Setup K) where
  -- in the state a call of the function with these arguments begins: they are of their types and read as the values that are named in the
  -- environment, of which each `requires` is true
  pub record Begun (st : State K) (f : FunctionOf s) (ρ : Env) (args : List (Tree K)) : Type 0 where
    pub typed : AreTyped (declarations s) st (trees_of args) (param_tys f.body no_tys) []
    pub values : Values
    pub reads : ReadsAll false st s.final not_lent Plain here 0 (trees_of args) values
    pub is_env : ρ ≡ named (own s f).contract.params values
    pub pre : Each (λ (t : Term). Holds (S s) t ρ) (own s f).contract.pre

  -- the state in which a call of the function begins
  abbrev pub with_call : FunctionOf s → List (Tree K) → State K → State K
  with_call f args u = entered f.body f.number no_tys args ∷ u

  module _ (f : FunctionOf s) (ρ₀ : Env) where
    abbrev b : Body
    b = f.body

    abbrev initialised : Labelling
    initialised = s.labelling f.number

    -- before the state stands a call that begins, and the frame of this number waits for its answer
    pub record CallsFine (u : State K) (frame : ℕ) (g : Stop) : Type 0 where
      pub callee : FunctionOf s
      pub calls : CallsBody (bodies s) f.number callee.number
      pub env : Env
      pub args : List (Tree K)
      pub begun : Begun (with_call callee args u) callee env args
      pub waiting : Waiting s f ρ₀ (with_call callee args u) frame g callee env

    -- what the step of the first frame may come to, so that the outcome is fine: the frame stands again, or waits at a call that begins, or
    -- answers
    pub record Continues (Fine : Outcome K → Type 0) (fr : Frame K) (fs : State K) : Type 0 where
      pub stays : (v : State K) (h : Stop) → stops v ≡ h ∷ stops fs → SameElsewhere (length (stops fs)) (fr ∷ fs) v → Standing s f ρ₀ v (length (stops fs)) h → Fine (Running v)
      pub calls : (u : State K) → stops u ≡ stop_of fr ∷ stops fs → SameElsewhere (length (stops fs)) (fr ∷ fs) u → (c : CallsFine u (length (stops fs)) (stop_of fr)) → Fine (Running (with_call c.callee c.args u))
      pub answers : (t : Tree K) → IsAnswer s fs f ρ₀ t → Quiet Fine (come_back (bodies s) t fs)

    module _ (fr : Frame K) (fs : State K) (inside : length (stops fs) ≡ 0 → ⊥) (st : Standing s f ρ₀ (fr ∷ fs) (length (stops fs)) (stop_of fr)) where
      abbrev now : State K
      now = fr ∷ fs

      abbrev g : Stop
      g = stop_of fr

      abbrev n : ℕ
      n = length (stops fs)

      is_n : running now ≡ n
      is_n = sym (stops_length fs)

      abbrev ρ : Env
      ρ = st.env

      abbrev end_set : Locals
      end_set = initialised g.label (length st.block.statements)

      -- the frame stands at the end of its block
      pub here_ends : g.statement ≡ length st.block.statements → IsAtEnd b (point_of g) st.block.end
      here_ends is_last = record { block = st.block; is_block = st.is_block; is_last = is_last; is_end = refl }

      -- ---- edges

      -- in the environment the names of locals have the values that they had
      abbrev pub SameLocals : Env → Type 0
      SameLocals σ = (x : ℕ) (ty : Ty) → slice_get b.locals x ≡ Some ty → σ (name_of b x) ≡ ρ (name_of b x)

      -- the ways on from the block, where no more is initialised than at its end, and locals are as they were
      abbrev pub Ways : List Label → Type 0
      Ways heads = (σ : Env) → SameLocals σ → (l : Label) → among l (targets st.block.end.kind) ≡ true → Within_set (initialised l 0) end_set → Reached s f ρ₀ (initialised l 0) σ heads l

      -- the frame goes on at the block, in this state
      pub goes_on : {heads : List Label} {w : Walk} (σ : Env) → KeepsOutside s f ρ₀ σ → (l : Label) (set : Locals) (v : State K) → Arrives (walked s f) heads l w → Came s f ρ₀ (walked s f) heads (arrival l) σ →
          GoalsHold (S s) σ (met w) → Holding s f v n set → Agree b v n set σ → Within_set (initialised l 0) set →
          Reached s f ρ₀ (initialised l 0) σ heads l → Standing s f ρ₀ v n (at_start l g)
      goes_on σ keeps l set v arrives came hold held agrees w way =
          arrived s f ρ₀ arrives v n g st.function st.types
          (record { held = held_within (declarations s) b no_tys n inside (initialised l 0) set w held; env = σ; agrees = agree_within b (initialised l 0) set v n σ w agrees; keeps = keeps; came = came })
          way hold

      module _ (Fine : Outcome K → Type 0) (continues : Continues Fine fr fs) where
        pub branch_comes : {heads : List Label} {u v : Walk} (at : Span) (o : Operand) (l r : Label) → st.block.end.kind ≡ If o l r → Arrives (walked s f) heads l u → Arrives (walked s f) heads r v →
            Came s f ρ₀ (walked s f) heads (within (point_of g)) ρ → IsAtEnd b (point_of g) st.block.end →
            GoalsHold (S s) ρ (seen_before (where_true b o) (met u) ++ seen_before (where_false b o) (met v)) → Holding s f now n end_set → Agree b now n end_set ρ → Ways heads → Quiet Fine (end_step s.code now at (If o l r))
        branch_comes {heads} {u} {v} at o l r kind to_l to_r came at_end hold held agrees ways = by_truth (has_shape takes.typed)
          where
            has : EndIsTyped (bodies s) b (If o l r)
            has = subst (EndIsTyped (bodies s) b) kind ((own s f).typed.ends g.label st.block st.is_block)

            can : CanEnd end_set (If o l r)
            can = subst (CanEnd end_set) kind ((move_rows s f).ends g.label st.block st.is_block)

            carries : Carries (λ m. initialised m 0) end_set (If o l r)
            carries = subst (Carries (λ m. initialised m 0) end_set) kind ((move_rows s f).edges g.label st.block st.is_block)

            used : UsedHas (theory_in (bodies s)) b o bool
            used = operand_used (theory_in (bodies s)) b o bool has.0

            takes : Takes (declarations s) b no_tys n inside now end_set o bool
            takes = take_yields (declarations s) b no_tys n inside (bodies s) s.declares now end_set o bool is_n held used can

            value : Value
            value = operand_value b ρ o

            exactly : Exactly (Means (S s) (operand_term b o) ρ) value
            exactly = operand_means (S s) b ρ o

            to_end : (m : Label) → Within_set (initialised m 0) (taken o end_set) → Within_set (initialised m 0) end_set
            to_end m w x inside = taken_before o end_set x (w x inside)

            first_goals : GoalsHold (S s) ρ (seen_before (where_true b o) (met u))
            first_goals = goals_first (S s) ρ (seen_before (where_true b o) (met u)) (seen_before (where_false b o) (met v)) hold

            rest_goals : GoalsHold (S s) ρ (seen_before (where_false b o) (met v))
            rest_goals = goals_rest (S s) ρ (seen_before (where_true b o) (met u)) (seen_before (where_false b o) (met v)) hold

            of_truth : (now' : State K) (c : Bool) → Holding s f now' n (taken o end_set) → Agree b now' n (taken o end_set) ρ → value ≡ Flag c → Standing s f ρ₀ now' n (at_start (cond c l r) g)
            of_truth now' true held' agreed is =
                let known : Holds (S s) (operand_term b o) ρ = (yes_flag (Means (S s) (operand_term b o) ρ) true (subst (λ w. Exactly (Means (S s) (operand_term b o) ρ) w) is exactly)).1 refl in
                let moves : MovesAll (S s) (where_true b o) ρ ρ = more (by_assume known) none in
                goes_on ρ st.keeps l (taken o end_set) now' to_l (came_on s f ρ₀ came (where_true b o) (to_true_side st.block.end o l r came.prefix at_end kind) moves)
                (goals_moved (S s) (met u) moves first_goals) held' agreed carries.0
                (ways ρ (λ x ty e. refl) l (subst (λ x. among l (targets x) ≡ true) (sym kind) (among_first l (r ∷ []))) (to_end l carries.0))
            of_truth now' false held' agreed is =
                let denied : Holds (S s) (operand_term b o) ρ → ⊥ = λ h. not_true ((yes_flag (Means (S s) (operand_term b o) ρ) false (subst (λ w. Exactly (Means (S s) (operand_term b o) ρ) w) is exactly)).0 h) in
                let known : Holds (S s) (terms.not (operand_term b o)) ρ = (holds_not (S s) (operand_term b o) ρ).1 denied in
                let moves : MovesAll (S s) (where_false b o) ρ ρ = more (by_assume known) none in
                goes_on ρ st.keeps r (taken o end_set) now' to_r (came_on s f ρ₀ came (where_false b o) (to_false_side st.block.end o l r came.prefix at_end kind) moves)
                (goals_moved (S s) (met v) moves rest_goals) held' agreed carries.1
                (ways ρ (λ x ty e. refl) r (subst (λ x. among r (targets x) ≡ true) (sym kind) (among_second l r)) (to_end r carries.1))

            by_truth : Shape bool takes.tree → Quiet Fine (end_step s.code now at (If o l r))
            by_truth (there, (c, is)) =
                let (after, is_after, stay, same) = if-row s.code now takes.after at o c l r g (stops fs) (takes.yields ∙ ap (λ (t : Tree K). Yields (takes.after, t)) is) takes.took.stay in
                let shows : Shows takes.tree value = took_shows b (theory_in (bodies s)) ρ o bool used can agrees takes.took in
                let is_flag : value ≡ Flag c = shows_truth c value (subst (λ (u : Tree K). Shows u value) is shows) in
                let held' : Holding s f after n (taken o end_set) = held_moved (declarations s) (λ x. same (local_at n x)) (λ at e. same at) takes.held in
                let agreed : Agree b after n (taken o end_set) ρ = agree_moved b takes.after after n (taken o end_set) ρ (λ x. same (local_at n x)) (took_agrees b ρ o agrees takes.took) in
                subst (Quiet Fine) (sym is_after) (continues.stays after (at_start (cond c l r) g) stay (λ at d. same at ∙ takes.took.elsewhere at d) (of_truth after c held' agreed is_flag))

        -- ---- the return

        answer : (ty : Ty) × (slice_get b.locals 0 ≡ Some ty)
        answer = get_first b.locals 0 (omega (arith, (own s f).typed.answers))

        posts_hold : (ts : List Term) → Each (OverAnswer (own s f).contract) ts →
            Each (λ t. Holds (S s) t ρ) (map (at_answer b (own s f).contract) ts) → Each (λ t. Holds (S s) t (with_value ρ₀ (own s f).contract.answer (ρ (name_of b 0)))) ts
        posts_hold [] over h = tt
        posts_hold (t ∷ ts) over h =
            let v : Value = ρ (name_of b 0) in
            let at_env : Env = with_value ρ (own s f).contract.answer v in
            let there : Holds (S s) t at_env = (yes_alike _ _ (replaced_means (S s) (own s f).contract.answer (var (name_of b 0)) t ρ v (alike_same _))).0 h.0 in
            ((yes_alike _ _ (coincide_free (S s) t at_env (with_value ρ₀ (own s f).contract.answer v) (λ x q. at_name x q (decide x.0 (own s f).contract.answer.0)))).0 there, posts_hold ts over.1 h.1)
          where
            at_name : (x : Name) → free x t ≡ true → (x.0 ≡ (own s f).contract.answer.0) ⊎ (x.0 ≡ (own s f).contract.answer.0 → ⊥) →
                with_value ρ (own s f).contract.answer (ρ (name_of b 0)) x ≡ with_value ρ₀ (own s f).contract.answer (ρ (name_of b 0)) x
            at_name x q (inl e) =
                let is : x ≡ (own s f).contract.answer = same_name x (own s f).contract.answer e in
                ap (λ y. with_value ρ (own s f).contract.answer (ρ (name_of b 0)) y) is ∙ with_same ρ (own s f).contract.answer (ρ (name_of b 0))
                ∙ sym (with_same ρ₀ (own s f).contract.answer (ρ (name_of b 0))) ∙ sym (ap (λ y. with_value ρ₀ (own s f).contract.answer (ρ (name_of b 0)) y) is)
            at_name x q (inr d) =
                with_other ρ (own s f).contract.answer x (ρ (name_of b 0)) d ∙ st.keeps x (params_outside s f x (over.0 x q d)) ∙ sym (with_other ρ₀ (own s f).contract.answer x (ρ (name_of b 0)) d)

        pub return_comes : (at : Span) → GoalsHold (S s) ρ (goals_at_return b (own s f).contract) → Holding s f now n end_set → Agree b now n end_set ρ → end_set 0 ≡ true → Quiet Fine (end_step s.code now at Return)
        return_comes at hold held agrees can =
            let (t, is_t, there, typed) = local_read (declarations s) b no_tys n inside now end_set 0 answer.0 held answer.1 can in
            let shows : Shows t (ρ (name_of b 0)) = agrees 0 answer.0 t can answer.1 is_t in
            subst (Quiet Fine) (sym (return-row s.code fr fs at t (ap (λ i. tree_at now (local_at i 0)) is_n ∙ is_t) there))
            (continues.answers t (record {
              typed = subst (λ ty. Typed (declarations s) fs t ty []) (sym (ap (instance no_tys) (first_ty b.locals answer.0 answer.1)))
                  (local_fits s f 0 answer.0 t answer.1 typed fs);
              value = ρ (name_of b 0);
              reads = shows false fs s.final Plain here;
              posts = posts_hold (own s f).contract.post
                  (each_of (OverAnswer (own s f).contract) (own s f).contract.post (own s f).speaks.over)
                  (each_holds (S s) Ensures (map (at_answer b (own s f).contract) (own s f).contract.post) (drop (length (own s f).contract.pre) (own s f).contract.spans) ρ hold);
            }))
