-- A frame that stands makes its next step without a panic: it stands again, or waits at a call that begins as the callee's contract says,
-- or answers as its own contract says.
use Rattle.std.proofs.Common.{◌≡◌, ◌∙◌, refl, sym, ap, subst, ℕ, ◌+◌, Bool, true, false, List, [], ◌∷◌, ◌++◌, length, Option, Some, None, slice_get, true≢false, arith}
use Rattle.std.proofs.lemmas.Option.{slice_get_within}
use Rattle.logic_term.specs.declared.kinds.Label.{Label}
use Rattle.logic_term.specs.Meaning.{Env}
use Rattle.logic_term.specs.Ty.{no_tys}
use Rattle.logic_term.proofs.Truth.{holds_false}
use Rattle.mir_ir.specs.declared.statement.Statement.{Statement}
use Rattle.mir_ir.specs.declared.terminator.Terminator.{Terminator}
use Rattle.mir_ir.specs.declared.terminator.TerminatorKind.TheVariants.{Goto, Return}
use Rattle.mir_ir.specs.declared.body.Body.{Body}
use Rattle.mir_ir.specs.Layout.{among, targets}
use Rattle.mir_ir.specs.WellFormed.{Locals, Labelling, Within as Within_set}
use Rattle.mir_ir.proofs.Taking.{CanEnd, Carries, run}
use Rattle.mir_machine.specs.Frame.{Frame, State}
use Rattle.mir_machine.specs.Step.{Outcome, Running, statement_step, end_step, row, try_step}
use Rattle.mir_machine.specs.Try.{Yields, ◌>>=◌}
use Rattle.mir_machine.specs.Invariant.{Stop, stop_of, stops, local_at}
use Rattle.mir_machine.proofs.EndRows.{goto-row, step-row}
use Rattle.mir_machine.proofs.Stacks.{held_moved, get_past}
use Rattle.mir_machine.proofs.TypedRows.{held_within}
use Rattle.mir_machine.proofs.Tried.{Quiet, quiet_then}
use Rattle.mir_machine.proofs.Writes.{at_next, at_start, stops_length}
use Rattle.prophecy_logic.specs.declared.goal.Goal.{Goal}
use Rattle.prophecy_logic.specs.Row.{goals_of, commands_of}
use Rattle.prophecy_logic.specs.Graph.{IsBefore, Ends, goto, branch, switch, call, return, panic}
use Rattle.prophecy_logic.specs.Prefix.{within, over_statement, along_goto}
use Rattle.prophecy_logic.specs.Loop.{loop_writes, statement_touches}
use Rattle.prophecy_logic.specs.Walk.{seen_before, goals_at_return, Walk, met}
use Rattle.prophecy_logic.proofs.Commands.{GoalsHold, goals_moved, goals_first, goals_rest}
use Rattle.prophecy_logic.proofs.Steps.{over_statement as passes, to_end}
use Rattle.prophecy_sim.proofs.Setup.{Setup, FunctionOf, move_rows, S, bodies, declarations, own, walked}
use Rattle.prophecy_sim.proofs.Operands.{Agree, agree_within, agree_moved}
use Rattle.prophecy_sim.proofs.Heads.{loop_writes_statement}
use Rattle.prophecy_sim.proofs.Memories.{among_first, AreBehind, Came, came_on, Memories, memories_kept, reached}
use Rattle.prophecy_logic.specs.Walkable.{AllAmong}
use Rattle.prophecy_sim.proofs.Stands.{Holding, stands_agree, they_stand}
use Rattle.prophecy_sim.proofs.Standing.{point_of, Standing}
use Rattle.prophecy_sim.proofs.Steps.{After, statement_quiet}
use Rattle.prophecy_sim.proofs.Ends.{Continues, Ways, here_ends, goes_on, branch_comes, return_comes}
use Rattle.prophecy_sim.proofs.Called.{call_comes}
use Rattle.prophecy_sim.proofs.Switches.{switch_comes}

module _ {K : Type 0} (s : Setup K) (f : FunctionOf s) (ρ₀ : Env) (fr : Frame K) (fs : State K) (inside : length (stops fs) ≡ 0 → ⊥) (st : Standing s f ρ₀ (fr ∷ fs) (length (stops fs)) (stop_of fr))
    (Fine : Outcome K → Type 0) (continues : Continues s f ρ₀ Fine fr fs) where
  abbrev b : Body
  b = f.body

  abbrev now : State K
  now = fr ∷ fs

  abbrev g : Stop
  g = stop_of fr

  abbrev n : ℕ
  n = length (stops fs)

  abbrev initialised : Labelling
  initialised = s.labelling f.number

  abbrev ρ : Env
  ρ = st.env

  abbrev end_set : Locals
  end_set = initialised g.label (length st.block.statements)

  -- ---- the end of a block, where its statements are done

  end_comes : {heads : List Label} {end : Terminator} {v : Walk} → Ends (walked s f) heads end v → end ≡ st.block.end → g.statement ≡ length st.block.statements →
      Came s f ρ₀ (walked s f) heads (within (point_of g)) ρ → GoalsHold (S s) ρ (met v) →
      Holding s f now n end_set → Agree b now n end_set ρ → Memories s f ρ₀ end_set ρ st.block.nest → AllAmong st.block.nest heads → AreBehind s f ρ₀ heads g.label → Ways s f ρ₀ fr fs inside st heads → Quiet Fine (end_step s.code now end.span end.kind)
  end_comes {end = end} (goto l q arrives) is is_last came hold held agrees nested enclosing behind ways =
      let kind : st.block.end.kind ≡ Goto l = ap (λ (x : Terminator). x.kind) (sym is) ∙ q in
      let carries : Within_set (initialised l 0) end_set = subst (Carries (λ m. initialised m 0) end_set) kind ((move_rows s f).edges g.label st.block st.is_block) in
      let (v, is_v, stay, same) = goto-row s.code now end.span l g (stops fs) refl in
      subst (λ k. Quiet Fine (end_step s.code now end.span k)) (sym q) (subst (Quiet Fine) (sym is_v)
      (continues.stays v (at_start l g) stay (λ at d. same at)
      (goes_on s f ρ₀ fr fs inside st ρ st.keeps l end_set v arrives (record { commands = came.commands; prefix = along_goto st.block.end l came.prefix (here_ends s f ρ₀ fr fs inside st is_last) kind; moves = came.moves }) hold
      (held_moved (declarations s) (λ x. same (local_at n x)) (λ at e. same at) held) (agree_moved b now v n end_set ρ (λ x. same (local_at n x)) agrees) carries
      (ways ρ (λ x ty e. refl) l (subst (λ x. among l (targets x) ≡ true) (sym kind) (among_first l [])) carries))))
  end_comes {end = end} (branch o l r q to_l to_r) is is_last came hold held agrees nested enclosing behind ways =
      subst (λ k. Quiet Fine (end_step s.code now end.span k)) (sym q) (branch_comes s f ρ₀ fr fs inside st Fine continues end.span o l r (ap (λ (x : Terminator). x.kind) (sym is) ∙ q) to_l to_r came (here_ends s f ρ₀ fr fs inside st is_last) hold held agrees ways)
  end_comes {end = end} (switch p ls q sides) is is_last came hold held agrees nested enclosing behind ways =
      subst (λ k. Quiet Fine (end_step s.code now end.span k)) (sym q)
      (switch_comes s f ρ₀ fr fs inside st Fine continues end.span p ls (ap (λ (x : Terminator). x.kind) (sym is) ∙ q) sides came (here_ends s f ρ₀ fr fs inside st is_last) hold held agrees ways)
  end_comes {end = end} (call p callee types os l d t q is_d is_t arrives) is is_last came hold held agrees nested enclosing behind ways =
      subst (λ k. Quiet Fine (end_step s.code now end.span k)) (sym q)
      (call_comes s f ρ₀ fr fs inside st Fine continues p callee types os l d t end.span (ap (λ (x : Terminator). x.kind) (sym is) ∙ q) is_d is_t arrives came is_last hold held agrees nested enclosing behind)
  end_comes {end = end} (return q) is is_last came hold held agrees nested enclosing behind ways =
      let kind : st.block.end.kind ≡ Return = ap (λ (x : Terminator). x.kind) (sym is) ∙ q in
      let can : end_set 0 ≡ true = subst (CanEnd end_set) kind ((move_rows s f).ends g.label st.block st.is_block) in
      subst (λ k. Quiet Fine (end_step s.code now end.span k)) (sym q) (return_comes s f ρ₀ fr fs inside st Fine continues end.span (goals_first (S s) ρ (goals_at_return b (own s f).contract) [] hold) held agrees can)
  -- the goal at a panic is false
  end_comes (panic cause q) is is_last came hold held agrees nested enclosing behind ways = absurd (holds_false (S s) ρ hold.0)

  at_end : slice_get st.block.statements g.statement ≡ None → Quiet Fine (row s.code b fr.types now st.block.end None)
  at_end e =
      let here : g.statement ≡ length st.block.statements = omega (arith, get_past st.block.statements g.statement e, st.in_block) in
      let nested : Memories s f ρ₀ end_set ρ st.block.nest = subst (λ i. Memories s f ρ₀ (initialised g.label i) ρ st.block.nest) here st.nested in
      end_comes (to_end st.walks st.block.end (here_ends s f ρ₀ fr fs inside st here)) refl here st.came st.hold
      (subst (λ i. Holding s f now n (initialised g.label i)) here st.stands.held)
      (subst (λ i. Agree b now n (initialised g.label i) ρ) here (stands_agree s f st.stands))
      nested st.enclosing st.behind
      (λ σ same l a w. reached s f ρ₀ (initialised l 0) σ st.heads g.label l st.block (memories_kept s f ρ₀ nested (λ h i x ty u inside is_x. (w x inside, same x ty is_x))) st.enclosing st.behind ((own s f).simple.laid_out.edges g.label l st.block st.is_block a))

  -- ---- statements

  at_statement : (x : Statement) → slice_get st.block.statements g.statement ≡ Some x → Quiet Fine (row s.code b fr.types now st.block.end (Some x))
  at_statement x e =
      let before : IsBefore b (point_of g) x = record { block = st.block; is_block = st.is_block; is_statement = e } in
      let split = passes st.walks x before in
      let after : List Goal = seen_before (commands_of b x.kind) (met split.rest) in
      let hold : GoalsHold (S s) ρ (goals_of b x.span x.kind ++ after) = subst (λ u. GoalsHold (S s) ρ (met u)) split.is st.hold in
      let rows = (move_rows s f).statements g.label st.block g.statement x st.is_block e in
      let set = initialised g.label g.statement in
      let next = initialised g.label (g.statement + 1) in
      let P : State K → Type 0 = After s f n inside now x.kind set ρ (at_next g ∷ stops fs) in
      subst (λ θ. Quiet Fine (statement_step b θ now x.span x.kind >>= λ v. Yields (Running v))) (sym st.types)
      (quiet_then P Fine (statement_step b no_tys now x.span x.kind) (λ v. Yields (Running v))
      (statement_quiet s f n inside now x.kind set ρ x.span g (stops fs) (sym (stops_length fs)) refl ((own s f).typed.statements g.label st.block g.statement x st.is_block e) rows.0 st.stands.held (stands_agree s f st.stands)
      (goals_first (S s) ρ (goals_of b x.span x.kind) after hold))
      (λ v a. continues.stays v (at_next g) a.ran.stay a.ran.elsewhere (record {
        function = st.function;
        types = st.types;
        block = st.block;
        is_block = st.is_block;
        in_block = omega (arith, slice_get_within st.block.statements g.statement x e);
        env = a.env;
        stands = they_stand s f v n (held_within (declarations s) b no_tys n inside next (run x.kind set) rows.1 a.ran.held) (agree_within b next (run x.kind set) v n a.env rows.1 a.agrees);
        keeps = λ n outside. a.elsewhere n outside ∙ st.keeps n outside;
        heads = st.heads;
        came = came_on s f ρ₀ st.came (commands_of b x.kind) (over_statement x st.came.prefix before) a.moves;
        walk = split.rest;
        walks = split.walks;
        hold = goals_moved (S s) (met split.rest) a.moves (goals_rest (S s) ρ (goals_of b x.span x.kind) after hold);
        nested = memories_kept s f ρ₀ st.nested (λ h inside y ty unwritten is_in is_y. a.others y ty (not_written h y inside unwritten) (rows.1 y is_in) is_y);
        enclosing = st.enclosing;
        behind = st.behind;
      })))
    where
      not_written : (h : Label) (y : ℕ) → among h st.block.nest ≡ true → loop_writes b h y ≡ false → statement_touches y x.kind ≡ false
      not_written h y inside unwritten = by_test (statement_touches y x.kind) refl
        where
          by_test : (t : Bool) → statement_touches y x.kind ≡ t → statement_touches y x.kind ≡ false
          by_test true q = absurd (true≢false (sym (loop_writes_statement b h g.label st.block g.statement x y st.is_block inside e q) ∙ unwritten))
          by_test false q = q

  row_comes : (o : Option Statement) → slice_get st.block.statements g.statement ≡ o → Quiet Fine (row s.code b fr.types now st.block.end o)
  row_comes (Some x) e = at_statement x e
  row_comes None e = at_end e

  pub first_comes : Quiet Fine (try_step s.code now)
  first_comes =
      subst (Quiet Fine) (sym (step-row s.code fr fs b st.block (subst (λ m. slice_get (bodies s).bodies m ≡ Some b) (sym st.function) f.is_body) st.is_block))
      (row_comes (slice_get st.block.statements g.statement) refl)
