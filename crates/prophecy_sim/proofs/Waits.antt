-- A frame that waits for the answer of a call, what a call may answer, and what comes of an answer.
use Rattle.std.proofs.Common.{◌≡◌, ◌∙◌, ◌⊎◌, inl, inr, refl, sym, ap, subst, ℕ, ◌+◌, ◌≤◌, ◌==◌, Bool, true, false, List, [], ◌∷◌, length, drop, take, map, Some, slice_get, true≢false, eq-eqb, arith}
use Rattle.std.specs.Prelude.{option_and_then}
use Rattle.std.proofs.lemmas.List.{length-take, length-drop}
use Rattle.std.proofs.lemmas.Option.{same_Some}
use Rattle.text_core.specs.declared.name.Name.{Name}
use Rattle.logic_term.specs.declared.kinds.Label.{Label}
use Rattle.logic_term.specs.declared.obligation.Contract.{Contract}
use Rattle.logic_term.specs.Free.{free}
use Rattle.logic_term.specs.Term.{Term, var}
use Rattle.logic_term.specs.Meaning.{Env, Means, Holds, with_value}
use Rattle.logic_term.specs.Sort.{HasSort, instance, nth_ty}
use Rattle.logic_term.specs.Ty.{Ty, no_tys}
use Rattle.logic_term.specs.TyView.{tys_of}
use Rattle.logic_term.specs.Value.{Value, Values, and_value}
use Rattle.logic_term.proofs.Alike.{yes_alike, alike_same}
use Rattle.logic_term.proofs.Coincide.{with_same, with_other}
use Rattle.logic_term.proofs.FreeLaw.{coincide_free, same_name}
use Rattle.logic_term.proofs.Truth.{Exactly}
use Rattle.mir_ir.specs.declared.place.Operand.{Operand}
use Rattle.mir_ir.specs.declared.place.Place.{Place}
use Rattle.mir_ir.specs.declared.terminator.Callee.{Callee}
use Rattle.mir_ir.specs.Callees.{callee_of}
use Rattle.mir_ir.specs.declared.terminator.TerminatorKind.TheVariants.{Call}
use Rattle.mir_ir.specs.declared.body.Block.{Block}
use Rattle.mir_ir.specs.declared.body.Body.{Body}
use Rattle.mir_ir.specs.Body.{block_in, answer_ty}
use Rattle.mir_ir.specs.Layout.{among, targets}
use Rattle.mir_ir.specs.WellFormed.{OperandsHave, EndIsTyped, Locals, Labelling, Within, with}
use Rattle.mir_ir.proofs.Taking.{Carries, all_taken}
use Rattle.mir_machine.specs.Tree.{Tree}
use Rattle.mir_machine.specs.Frame.{Frame, State}
use Rattle.mir_machine.specs.Good.{Each, named, here, not_lent}
use Rattle.mir_machine.specs.Reads.{Plain, Reads}
use Rattle.mir_machine.specs.Typed.{Typed}
use Rattle.mir_machine.specs.Try.{Try, Yields, ◌>>=◌}
use Rattle.mir_machine.specs.Memory.{tree_at}
use Rattle.mir_machine.specs.Step.{Outcome, Running, at_label, come_back}
use Rattle.mir_machine.specs.Invariant.{Stop, stop_of, stops, local_at, HasType}
use Rattle.mir_machine.proofs.EndRows.{back-row}
use Rattle.mir_machine.proofs.TypedRows.{write_then, held_within, held_set}
use Rattle.mir_machine.proofs.TypedTrees.{SameOutside}
use Rattle.mir_machine.proofs.Writes.{SameElsewhere, at_start, label_yields, written_elsewhere, stops_length}
use Rattle.prophecy_logic.specs.Command.{by_fresh, by_set, none, more, MovesAll}
use Rattle.prophecy_logic.specs.Row.{operand_term, value_name, name_of}
use Rattle.prophecy_logic.specs.Graph.{Arrives}
use Rattle.prophecy_logic.specs.Prefix.{within, over_call}
use Rattle.prophecy_logic.specs.Loop.{loop_writes, end_touches}
use Rattle.prophecy_logic.proofs.Loops.{is_written}
use Rattle.mir_ir.specs.Acts.{acts_of_operands}
use Rattle.prophecy_logic.specs.Walk.{seen_before, call_commands, at_arguments_and_answer, Walk, met}
use Rattle.prophecy_logic.specs.Walkable.{AllAmong}
use Rattle.prophecy_logic.proofs.Commands.{GoalsHold, goals_moved, then_moves}
use Rattle.prophecy_sim.proofs.Lists.{decide, each_of}
use Rattle.prophecy_sim.proofs.Setup.{Setup, FunctionOf, move_rows, S, bodies, declarations, own, contract_of, walked, local_named, apart_from, not_new, OverAnswer, local_fits}
use Rattle.prophecy_sim.proofs.Owned.{Shows, Fits, fit_shows, fit_sort}
use Rattle.prophecy_sim.proofs.Operands.{operand_values, Agree, agree_within, agree_set, with_before}
use Rattle.prophecy_sim.proofs.Calls.{overlay, overlay_named, AsMany, as_many, as_many_operands, new_values, AreExactly, with_terms_mean, all_exactly}
use Rattle.prophecy_sim.proofs.Entries.{assumed_move}
use Rattle.prophecy_sim.proofs.Heads.{loop_writes_end}
use Rattle.prophecy_sim.proofs.Memories.{among_first, KeepsOutside, AreBehind, Came, came_on, Memories, memories_kept, Reached, reached}
use Rattle.prophecy_sim.proofs.Stands.{Holding, Stands, stands_agree, stands_elsewhere}
use Rattle.prophecy_sim.proofs.Standing.{point_of, Standing, arrived}
use Rattle.prophecy_sim.proofs.Steps.{other_number}

pub first_ty : (ts : List Ty) (ty : Ty) → slice_get ts 0 ≡ Some ty → nth_ty (tys_of ts) 0 ≡ ty
first_ty [] ty e = absurd (cc)
first_ty (t ∷ ts) ty e = same_Some _ _ e

pub params_length : (c : Body) → c.params + 1 ≤ length c.locals → length (take c.params (drop 1 c.locals)) ≡ c.params
params_length c l = grind (arith, length-take, length-drop, l)

module _ {K : Type 0} (s : Setup K) where
  -- in the state the tree is an answer of the function to a call that began in the environment: it is of its type, and each `ensures` is
  -- true of what it reads as
  pub record IsAnswer (st : State K) (f : FunctionOf s) (ρ : Env) (t : Tree K) : Type 0 where
    pub typed : Typed (declarations s) st t (answer_ty f.body no_tys) []
    pub value : Value
    pub reads : Reads false st s.final not_lent Plain here t value
    pub posts : Each (λ p. Holds (S s) p (with_value ρ (own s f).contract.answer value)) (own s f).contract.post

  module _ (f : FunctionOf s) (ρ₀ : Env) where
    abbrev b : Body
    b = f.body

    abbrev initialised : Labelling
    initialised = s.labelling f.number

    -- frame g has called a function, which took the operands; the call began in ρ
    pub record HasCalled (g : Stop) (callee : FunctionOf s) (ρ : Env) : Type 0 where
      pub function : g.function ≡ f.number
      pub types : g.types ≡ no_tys
      pub block : Block
      pub is_block : block_in b.blocks g.label ≡ Some block
      pub is_last : g.statement ≡ length block.statements
      pub place : Place
      pub type_arguments : List Ty
      pub operands : List Operand
      pub next : Label
      pub target : Callee
      pub is_call : block.end.kind ≡ Call place target type_arguments operands next
      pub is_target : callee_of (bodies s) target ≡ Some callee.number
      pub answer : Ty
      pub is_answer : slice_get b.locals place.local ≡ Some answer
      pub env : Env
      pub keeps : KeepsOutside s f ρ₀ env
      -- the call began with the values of the operands
      pub begun : ρ ≡ named (own s callee).contract.params (operand_values b env operands)
      -- a prefix leads to the call, and behind the call's commands the goals of what is left hold
      pub heads : List Label
      pub came : Came s f ρ₀ (walked s f) heads (within (point_of g)) env
      pub walk : Walk
      pub arrives : Arrives (walked s f) heads next walk
      pub hold : GoalsHold (S s) env (seen_before (call_commands b (own s callee).contract place.local answer operands) (met walk))
      pub nested : Memories s f ρ₀ (all_taken operands (initialised g.label (length block.statements))) env block.nest
      pub enclosing : AllAmong block.nest heads
      pub behind : AreBehind s f ρ₀ heads g.label

    -- it waits for the answer: in the state, where it has this number, its locals stand in the environment
    pub record Waiting (st : State K) (frame : ℕ) (g : Stop) (callee : FunctionOf s) (ρ : Env) : Type 0 where
      pub call : HasCalled g callee ρ
      pub stands : Stands s f st frame (all_taken call.operands (initialised g.label (length call.block.statements))) call.env

    -- it waits in each state in which its locals and the outside are the same
    pub waiting_elsewhere : {st : State K} {frame : ℕ} {g : Stop} {callee : FunctionOf s} {ρ : Env} (u : State K) → ((x : ℕ) → tree_at u (local_at frame x) ≡ tree_at st (local_at frame x)) → SameOutside st u →
        Waiting st frame g callee ρ → Waiting u frame g callee ρ
    waiting_elsewhere u same outside w = record { call = w.call; stands = stands_elsewhere s f u same outside w.stands }

    -- ---- an answer

    -- what came of the first frame: it stands, and what is not its own is as it was
    pub record GoesOn (st : State K) (frame : ℕ) (gs : List Stop) (m : Try (Outcome K)) : Type 0 where
      pub after : State K
      pub stop : Stop
      pub yields : m ≡ Yields (Running after)
      pub stay : stops after ≡ stop ∷ gs
      pub elsewhere : SameElsewhere frame st after
      pub standing : Standing s f ρ₀ after frame stop

    module _ (fr h : Frame K) (us : State K) (callee : FunctionOf s) (ρ : Env) (w : Waiting (fr ∷ h ∷ us) (length (stops (h ∷ us))) (stop_of fr) callee ρ) (t : Tree K) (a : IsAnswer (fr ∷ h ∷ us) callee ρ t) where
      abbrev st : State K
      st = fr ∷ h ∷ us

      abbrev g : Stop
      g = stop_of fr

      abbrev frame : ℕ
      frame = length (stops (h ∷ us))

      abbrev c : Body
      c = callee.body

      abbrev d : Contract
      d = (own s callee).contract

      abbrev os : List Operand
      os = w.call.operands

      abbrev p : Place
      p = w.call.place

      abbrev v : Value
      v = a.value

      abbrev set : Locals
      set = all_taken os (initialised g.label (length w.call.block.statements))

      abbrev operand_terms : List Term
      operand_terms = map (operand_term b) os

      abbrev with_new : Env
      with_new = with_value w.call.env value_name v

      abbrev with_place : Env
      with_place = with_value with_new (name_of b p.local) v

      abbrev ended : EndIsTyped (bodies s) b (Call p w.call.target w.call.type_arguments os w.call.next)
      ended = subst (EndIsTyped (bodies s) b) w.call.is_call ((own s f).typed.ends g.label w.call.block w.call.is_block)

      -- the callee's body is that which the call's types speak of
      same_body : ended.0.0 ≡ c
      same_body = same_Some _ _ (sym ended.0.2 ∙ ap (option_and_then (slice_get (bodies s).bodies)) w.call.is_target ∙ callee.is_body)

      have : OperandsHave b os (take c.params (drop 1 c.locals))
      have = subst (λ (x : Body). OperandsHave b os (take x.params (drop 1 x.locals))) same_body ended.0.3

      first_local : slice_get c.locals 0 ≡ Some w.call.answer
      first_local = subst (λ (x : Body). slice_get x.locals 0 ≡ Some w.call.answer) same_body (ended.0.4 ∙ sym ended.0.5.1 ∙ w.call.is_answer)

      typed_answer : Typed (declarations s) st t (instance no_tys w.call.answer) []
      typed_answer = subst (λ ty. Typed (declarations s) st t (instance no_tys ty) []) (first_ty c.locals w.call.answer first_local) a.typed

      fit : Fits (declarations s) t (instance no_tys w.call.answer)
      fit = local_fits s f p.local w.call.answer t w.call.is_answer (record { met = []; typed = typed_answer; outer = tt })

      not_outside : frame ≡ 0 → ⊥
      not_outside e = omega (arith, e)

      shows : Shows t v
      shows = fit_shows (declarations s) (instance no_tys w.call.answer) t v fit a.reads

      sort : HasSort (declarations s) v (instance no_tys w.call.answer)
      sort = fit_sort (declarations s) (instance no_tys w.call.answer) t v fit shows

      -- ---- the commands of the call

      count : AsMany d.params (operand_values b w.call.env os)
      count = as_many b w.call.env d.params os ((own s callee).speaks.count ∙ sym (params_length c (own s callee).typed.answers) ∙ sym (as_many_operands b os (take c.params (drop 1 c.locals)) have))

      new_exactly : Exactly (Means (S s) (var value_name) with_new) v
      new_exactly = subst (λ x. Exactly (Means (S s) (var value_name) with_new) x) (with_same w.call.env value_name v) (alike_same _)

      all_new : AreExactly (S s) (var value_name ∷ operand_terms) (and_value v (operand_values b w.call.env os)) with_new
      all_new = (new_exactly, subst (λ vs. AreExactly (S s) operand_terms vs with_new) (new_values b (not_new s f) w.call.env v os (take c.params (drop 1 c.locals)) have) (all_exactly (S s) b with_new os))

      posts_there : (ts : List Term) → Each (OverAnswer d) ts → Each (λ q. Holds (S s) q (with_value ρ d.answer v)) ts → Each (λ q. Holds (S s) q with_new) (map (at_arguments_and_answer b d os) ts)
      posts_there [] over h = tt
      posts_there (q ∷ ts) over h =
          let vs : Values = and_value v (operand_values b w.call.env os) in
          let before : Holds (S s) q (overlay (d.answer ∷ d.params) vs with_new) =
          (yes_alike _ _ (coincide_free (S s) q (with_value ρ d.answer v) (overlay (d.answer ∷ d.params) vs with_new) (λ x e. at_name x e (decide x.0 d.answer.0)))).0 h.0 in
          ((yes_alike _ _ (with_terms_mean (S s) (d.answer ∷ d.params) (var value_name ∷ operand_terms) vs with_new q all_new)).1 before, posts_there ts over.1 h.1)
        where
          at_name : (x : Name) → free x q ≡ true → (x.0 ≡ d.answer.0) ⊎ (x.0 ≡ d.answer.0 → ⊥) →
              with_value ρ d.answer v x ≡ with_value (overlay d.params (operand_values b w.call.env os) with_new) d.answer v x
          at_name x e (inl r) =
              let is : x ≡ d.answer = same_name x d.answer r in
              ap (λ y. with_value ρ d.answer v y) is ∙ with_same ρ d.answer v ∙ sym (with_same (overlay d.params (operand_values b w.call.env os) with_new) d.answer v)
              ∙ sym (ap (λ y. with_value (overlay d.params (operand_values b w.call.env os) with_new) d.answer v y) is)
          at_name x e (inr r) =
              let one = over.0 x e r in
              with_other ρ d.answer x v r ∙ ap (λ (σ : Env). σ x) w.call.begun ∙ sym (overlay_named d.params (operand_values b w.call.env os) with_new one.0 x one.1 count)
              ∙ sym (with_other (overlay d.params (operand_values b w.call.env os) with_new) d.answer x v r)

      moves : MovesAll (S s) (call_commands b d p.local w.call.answer os) w.call.env with_place
      moves = more (by_fresh v sort) (then_moves (S s) (assumed_move (S s) (map (at_arguments_and_answer b d os) d.post) with_new (posts_there d.post
          (each_of (OverAnswer d) d.post (own s callee).speaks.over) a.posts)) (more (by_set v new_exactly) none))

      -- ---- the frame goes on

      other_name : (y : ℕ) (ty : Ty) → slice_get b.locals y ≡ Some ty → (y ≡ p.local → ⊥) → with_place (name_of b y) ≡ w.call.env (name_of b y)
      other_name y ty is_y other =
          with_other with_new (name_of b p.local) (name_of b y) v (apart_from s f p.local y w.call.answer ty w.call.is_answer is_y other) ∙ with_other w.call.env value_name (name_of b y) v
          (not_new s f y ty is_y)

      unwritten : (l : Label) → among l w.call.block.nest ≡ true → (x : ℕ) (ty : Ty) → loop_writes b l x ≡ false → with p.local set x ≡ true → slice_get b.locals x ≡ Some ty →
          (set x ≡ true) × (with_place (name_of b x) ≡ w.call.env (name_of b x))
      unwritten l inside x ty not_there is_in is_x = by_test (p.local == x) refl
        where
          by_test : (e : Bool) → (p.local == x) ≡ e → (set x ≡ true) × (with_place (name_of b x) ≡ w.call.env (name_of b x))
          by_test true e = absurd (true≢false (sym (loop_writes_end b l g.label w.call.block x w.call.is_block inside (ap (end_touches x) w.call.is_call ∙ is_written x (acts_of_operands os) p e)) ∙ not_there))
          by_test false e = (with_before p.local set x (other_number p.local x e) is_in, other_name x ty is_x (λ q. true≢false (sym (eq-eqb p.local x (sym q)) ∙ e)))

      abbrev carried : Within (initialised w.call.next 0) (with p.local set)
      carried = subst (Carries (λ l. initialised l 0) (initialised g.label (length w.call.block.statements))) w.call.is_call ((move_rows s f).edges g.label w.call.block w.call.is_block)

      way : Reached s f ρ₀ (initialised w.call.next 0) with_place w.call.heads w.call.next
      way = reached s f ρ₀ (initialised w.call.next 0) with_place w.call.heads g.label w.call.next w.call.block
          (memories_kept s f ρ₀ w.call.nested (λ l inside x ty e is_in is_x. unwritten l inside x ty e (carried x is_in) is_x)) w.call.enclosing w.call.behind
          ((own s f).simple.laid_out.edges g.label w.call.next w.call.block w.call.is_block (subst (λ k. among w.call.next (targets k) ≡ true) (sym w.call.is_call) (among_first w.call.next [])))

      after : (v : State K) → Holding s f v frame (with p.local set) → Agree b v frame (with p.local set) with_place → Standing s f ρ₀ v frame (at_start w.call.next g)
      after v held agrees =
          arrived s f ρ₀ w.call.arrives v frame g w.call.function w.call.types
          (record {
            held = held_within (declarations s) b no_tys frame not_outside (initialised w.call.next 0) (with p.local set) carried held;
            env = with_place;
            agrees = agree_within b (initialised w.call.next 0) (with p.local set) v frame with_place carried agrees;
            keeps = λ n out. with_other with_new (name_of b p.local) n a.value (out.0 p.local (name_of b p.local) (local_named s f p.local w.call.answer w.call.is_answer))
                ∙ with_other w.call.env value_name n a.value out.1 ∙ w.call.keeps n out;
            came = came_on s f ρ₀ w.call.came (call_commands b d p.local w.call.answer os)
                (over_call w.call.block.end p w.call.target w.call.type_arguments os w.call.next d w.call.answer w.call.came.prefix
                (record { block = w.call.block; is_block = w.call.is_block; is_last = w.call.is_last; is_end = refl }) w.call.is_call (contract_of s callee w.call.target w.call.is_target) w.call.is_answer) moves;
          })
          way
          (goals_moved (S s) (met w.call.walk) moves w.call.hold)

      -- with an answer that meets the callee's contract the frame stands again
      pub answer_comes : GoesOn st frame (stops (h ∷ us)) (come_back (bodies s) t st)
      answer_comes =
          let slot = w.stands.held.slot p.local w.call.answer w.call.is_answer in
          let of_type : HasType (declarations s) st (instance no_tys w.call.answer) t = record { met = []; typed = typed_answer; outer = tt } in
          let (v₁, is_v, written) = write_then st frame p t slot.0 (at_label w.call.next) (at_start w.call.next g ∷ stops (h ∷ us)) (sym (stops_length (h ∷ us))) ended.0.5.0 slot.1
          (λ x stay. label_yields x w.call.next g (stops (h ∷ us)) stay) in
          record {
            after = v₁;
            stop = at_start w.call.next g;
            yields = back-row (bodies s) t fr h us b w.call.block p w.call.target w.call.type_arguments os w.call.next (subst (λ n. slice_get (bodies s).bodies n ≡ Some b) (sym w.call.function) f.is_body)
                w.call.is_block w.call.is_call ∙ ap (λ (m : Try (State K)). m >>= λ x. Yields (Running x)) is_v;
            stay = written.stay;
            elsewhere = written_elsewhere frame refl written;
            standing = after v₁ (held_set (declarations s) b no_tys frame not_outside p.local w.call.answer written w.call.is_answer of_type w.stands.held)
                (agree_set b set w.call.env with_place p.local written (stands_agree s f w.stands) (subst (Shows t) (sym (with_same with_new (name_of b p.local) v)) shows) other_name);
          }
