-- Progress and preservation: a proper call of typed, initialised bodies is never stuck.
use Rattle.std.proofs.Common.{◌≡◌, ◌∙◌, refl, sym, ap, subst, ℕ, zero, suc, ◌+◌, ◌≤◌, ◌<◌, ◌==◌, ◌||◌, Bool, true, false, cond, List, [], ◌∷◌, length, take, drop, Option, Some, None, slice_get, arith}
use Rattle.std.proofs.lemmas.Bool.{eq-eqb}
use Rattle.std.proofs.lemmas.Option.{slice_get_within, same_Some}
use Rattle.logic_term.specs.declared.kinds.Label.{Label}
use Rattle.logic_term.specs.Ty.{Ty, Tys, bool, adt, no_tys, and_ty}
use Rattle.logic_term.specs.Obligations.{how_many}
use Rattle.logic_term.specs.Sort.{Declarations, instance, instances}
use Rattle.logic_term.specs.Theory.{Theory, declared}
use Rattle.mir_ir.specs.declared.place.Place.{Place}
use Rattle.mir_ir.specs.declared.place.Operand.{Operand}
use Rattle.mir_ir.specs.declared.statement.Statement.{Statement}
use Rattle.mir_ir.specs.declared.terminator.Callee.{Callee}
use Rattle.mir_ir.specs.declared.terminator.TerminatorKind.{TerminatorKind}
use Rattle.mir_ir.specs.declared.terminator.TerminatorKind.TheVariants.{Goto, If, Switch, Call, Return, Panic}
use Rattle.mir_ir.specs.declared.body.Block.{Block}
use Rattle.mir_ir.specs.declared.body.Body.{Body}
use Rattle.mir_ir.specs.declared.body.Bodies.{Bodies}
use Rattle.mir_ir.specs.Acts.{acts_of_end}
use Rattle.mir_ir.specs.Body.{answer_ty}
use Rattle.mir_ir.specs.Declares.{Declares, theory_in}
use Rattle.mir_ir.specs.Layout.{among}
use Rattle.mir_ir.specs.WellFormed.{HasBlock, EndIsTyped, Locals, Labelling, Within, with, MeetsMoveRows, all_done, AreSound}
use Rattle.mir_ir.proofs.Declared.{variant_counts}
use Rattle.mir_ir.proofs.Paths.{operand_used, operands_used}
use Rattle.mir_ir.proofs.Taking.{RowByRow, row_by_row, taken, all_taken, operands_done, run, CanEnd, Carries}
use Rattle.mir_machine.specs.Try.{Try, Yields, Panics, Sticks, ◌>>=◌, need}
use Rattle.mir_machine.specs.Tree.{Tree}
use Rattle.mir_machine.specs.Frame.{Frame, State}
use Rattle.mir_machine.specs.Memory.{running, tree_at, write}
use Rattle.mir_machine.specs.Code.{Code, code_of}
use Rattle.mir_machine.specs.Step.{Outcome, Running, Returned, Panicked, Stuck, outcome_of, statement_step, variant_of, switched, entered, outside, at_label, come_back, end_step, row, try_step, step, next, after_from, after}
use Rattle.mir_machine.specs.Typed.{Met}
use Rattle.mir_machine.specs.Good.{called, IsProper}
use Rattle.mir_machine.specs.Run.{IsSafe}
use Rattle.mir_machine.specs.Invariant.{Stop, stop_of, stops, local_at, HasType, HoldsLocals, Behind, from_outside, one_waits, AreLabelled, RunsAt, WaitsAt, StandTyped, IsAnswerOf, IsTypedRun}
use Rattle.mir_machine.proofs.Tried.{Goes, goes_then}
use Rattle.mir_machine.proofs.TypedTrees.{Shape, has_type_kept, has_shape, adt_shape}
use Rattle.mir_machine.proofs.TypedRows.{Held, held_within, held_set, Takes, take_yields, take_all_yields, AreOf, are_of_kept, local_read, read_yields, write_then, Ran, run_goes}
use Rattle.mir_machine.proofs.Stacks.{behind_some, behind_to, outside_is, Waited, waits_are, held_moved, waits_kept, typed_args, entered_held, get_first, get_past, answer_is}
use Rattle.mir_machine.proofs.Writes.{SameTrees, SameElsewhere, written_elsewhere, at_next, at_start, label_yields, same_behind, stops_length}
use Rattle.mir_machine.proofs.EndRows.{callee_found, step-row, goto-row, if-row, switch-row, call-row, return-row, back-row}

-- ---- a labelling for each body

module _ (bodies : Bodies) (sound : AreSound bodies) where
  chosen : (f : ℕ) (o : Option Body) → slice_get bodies.bodies f ≡ o → Labelling
  chosen f (Some b) e = (sound f b e).1.0
  chosen f None e = λ l i x. false

  chosen_meets : (f : ℕ) (b : Body) (o : Option Body) (e : slice_get bodies.bodies f ≡ o) → o ≡ Some b → MeetsMoveRows b (chosen f o e)
  unfolding chosen
  chosen_meets f b (Some c) e is = subst (λ x. MeetsMoveRows x (sound f c e).1.0) (same_Some _ _ is) (sound f c e).1.1
  chosen_meets f b None e is = absurd (cc)

  pub labelling_of : ℕ → Labelling
  labelling_of f = chosen f (slice_get bodies.bodies f) refl

  pub are_labelled : AreLabelled bodies labelling_of
  unfolding labelling_of
  are_labelled f b is_body = ((sound f b is_body).0, chosen_meets f b (slice_get bodies.bodies f) refl is_body)

-- a label of a list is among it
pub is_among : (ls : List Label) (i : ℕ) (l : Label) → slice_get ls i ≡ Some l → among l ls ≡ true
is_among [] i l e = absurd (cc)
is_among (m ∷ ms) zero l e = ap (λ t. t || among l ms) (eq-eqb m.0 l.0 (ap (λ (n : Label). n.0) (same_Some _ _ e)))
is_among (m ∷ ms) (suc i) l e = by (m.0 == l.0) (is_among ms i l e)
  where
    by : (t : Bool) → among l ms ≡ true → (t || among l ms) ≡ true
    by true h = refl
    by false h = h

-- where there are no type parameters there are no types for them
pub no_types_for_none : (θ : Tys) → how_many θ ≡ 0 → θ ≡ no_tys
no_types_for_none no_tys e = refl
no_types_for_none (and_ty t ts) e = absurd (omega arith)

-- top: the function that is called from outside
module _ {K : Type 0} (Δ : Declarations) (code : Code K) (labelling : ℕ → Labelling) (labelled : AreLabelled code.program labelling) (declares : Declares Δ code.program) (top : ℕ) where
  abbrev bodies : Bodies
  bodies = code.program

  abbrev Waits : State K → ℕ → Stop → ℕ → ℕ → Type 0
  Waits s = WaitsAt Δ bodies labelling s

  abbrev Runs : State K → ℕ → Stop → Type 0
  Runs s = RunsAt Δ bodies labelling s

  abbrev Fine : Outcome K → Type 0
  Fine = IsTypedRun Δ bodies labelling top

  move_rows : (f : ℕ) (b : Body) → slice_get bodies.bodies f ≡ Some b → RowByRow b (labelling f)
  move_rows f b is_body = row_by_row b (labelling f) (labelled f b is_body).1

  stand_typed : (s : State K) (g : Stop) (gs : List Stop) → stops s ≡ g ∷ gs → Runs s (length gs) g → Behind (Waits s) top g.function gs → Fine (Running s)
  stand_typed s g gs e runs behind = subst (StandTyped Δ bodies labelling top s) (sym e) (runs, behind)

  -- frames wait in a state in which no frame but one was changed that is not among them
  waiting_in : {s u : State K} {d : ℕ} {gs : List Stop} (n : ℕ) → (n ≡ 0 → ⊥) → length gs ≤ n → SameElsewhere n s u → Behind (Waits s) top d gs → Behind (Waits u) top d gs
  waiting_in n inside fewer same behind = behind_to n (λ m g c d less w. waits_kept Δ bodies labelling n m g c d inside (λ e. omega (arith, less, e)) same w) fewer behind

  -- ---- an answer

  -- the frame that waits has the answer put, and goes on
  resumed : (u : State K) (d : ℕ) (t : Tree K) (f h : Frame K) (us : State K) → u ≡ f ∷ h ∷ us → IsAnswerOf Δ bodies labelling u d t → Waited (Waits u) top d (stop_of f) (stops (h ∷ us)) → Goes Fine (come_back bodies t u)
  resumed u d t f h us is_u answer waited =
      let w = waited.waits in
      let g : Stop = stop_of f in
      let gs : List Stop = stops (h ∷ us) in
      let n : ℕ = length gs in
      let b : Body = w.in_body.body in
      let k : Block = w.in_body.block in
      let p : Place = w.place in
      let both = labelled g.function b w.in_body.is_body in
      let end_set : Locals = labelling g.function g.label (length k.statements) in
      let set : Locals = all_taken w.operands end_set in
      let inside : n ≡ 0 → ⊥ = λ e. omega (arith, e) in
      let typed : EndIsTyped bodies b (Call p w.callee w.types w.operands w.next) = subst (EndIsTyped bodies b) w.is_call (both.0.ends g.label k w.in_body.is_block) in
      let carries : Within (labelling g.function w.next 0) (with p.local set) =
      subst (Carries (λ l. labelling g.function l 0) end_set) w.is_call ((move_rows g.function b w.in_body.is_body).edges g.label k w.in_body.is_block) in
      let found = callee_found bodies w.callee typed.0.0 typed.0.2 in
      let number : found.0 ≡ d = same_Some _ _ (sym found.1 ∙ w.is_callee) in
      let same_body : answer.body ≡ typed.0.0 = same_Some _ _ (sym answer.is_body ∙ ap (slice_get bodies.bodies) (sym number) ∙ found.2) in
      let ty : Ty = typed.0.1 in
      let of_ty : HasType Δ u (instance no_tys ty) t =
      subst (λ q. HasType Δ u (instance no_tys q) t) (answer_is typed.0.0.locals ty typed.0.4) (subst (λ x. HasType Δ u (answer_ty x no_tys) t) same_body answer.typed) in
      let here : HasType Δ u (instance g.types ty) t = subst (λ θ. HasType Δ u (instance θ ty) t) (sym w.in_body.ground) of_ty in
      let held : Held Δ b g.types n inside u set =
      subst (Held Δ b g.types n inside u) (operands_done w.operands end_set) (subst (λ e. Held Δ b g.types n inside u (all_done (acts_of_end e) end_set)) w.is_call w.locals) in
      let slot = held.slot p.local ty typed.0.5.1 in
      let is_n : running u ≡ n = ap running is_u ∙ sym (stops_length (h ∷ us)) in
      let (v, is_v, written) = write_then u n p t slot.0 (at_label w.next) (at_start w.next g ∷ gs) is_n typed.0.5.0 slot.1
      (λ x stay. label_yields x w.next g gs (stay ∙ ap stops is_u)) in
      let elsewhere : SameElsewhere n u v = written_elsewhere n refl written in
      let runs : Runs v n (at_start w.next g) = record {
        in_body = record { body = b; is_body = w.in_body.is_body; ground = w.in_body.ground; block = typed.1.0; is_block = typed.1.1 };
        within = omega arith;
        locals = held_within Δ b g.types n inside (labelling g.function w.next 0) (with p.local set) carries (held_set Δ b g.types n inside p.local ty written typed.0.5.1 here held);
      } in
      let row_is : come_back bodies t u ≡ Yields (Running v) = ap (come_back bodies t) is_u ∙ back-row bodies t f h us b k p w.callee w.types w.operands w.next w.in_body.is_body w.in_body.is_block w.is_call
      ∙ ap (λ s. (write s p t >>= at_label w.next) >>= λ x. Yields (Running x)) (sym is_u) ∙ ap (λ (m : Try (State K)). m >>= λ x. Yields (Running x)) is_v in
      subst (Goes Fine) (sym row_is)
      (stand_typed v (at_start w.next g) gs written.stay runs (waiting_in n inside (omega arith) elsewhere (subst (λ c. Behind (Waits u) top c gs) (sym w.is_caller) waited.behind)))

  back_goes : (u : State K) (d : ℕ) (t : Tree K) → IsAnswerOf Δ bodies labelling u d t → Behind (Waits u) top d (stops u) → Goes Fine (come_back bodies t u)
  back_goes [] d t answer behind = absurd (behind_some behind refl)
  back_goes (out ∷ []) d t answer behind = subst (λ m. IsAnswerOf Δ bodies labelling (out ∷ []) m t) (outside_is behind) answer
  back_goes (f ∷ h ∷ us) d t answer behind = resumed (f ∷ h ∷ us) d t f h us refl answer (waits_are behind)

  -- ---- a step of the first frame

  module _ (f : Frame K) (fs : State K) (runs : Runs (f ∷ fs) (length (stops fs)) (stop_of f)) (behind : Behind (Waits (f ∷ fs)) top f.function (stops fs)) where
    abbrev s : State K
    s = f ∷ fs

    abbrev g : Stop
    g = stop_of f

    abbrev gs : List Stop
    gs = stops fs

    abbrev n : ℕ
    n = length gs

    abbrev b : Body
    b = runs.in_body.body

    abbrev k : Block
    k = runs.in_body.block

    inside : n ≡ 0 → ⊥
    inside e = behind_some behind e

    is_n : running s ≡ n
    is_n = sym (stops_length fs)

    abbrev Hold : State K → Locals → Type 0
    Hold u set = HoldsLocals Δ u n b g.types set

    abbrev end_set : Locals
    end_set = labelling f.function f.label (length k.statements)

    typed_end : EndIsTyped bodies b k.end.kind
    typed_end = (labelled f.function b runs.in_body.is_body).0.ends f.label k runs.in_body.is_block

    -- the first frame goes on at a stop of its function
    goes_on : (u : State K) (h : Stop) → h.function ≡ f.function → stops u ≡ h ∷ gs → SameElsewhere n s u → Runs u n h → Fine (Running u)
    goes_on u h same stay elsewhere runs' =
        stand_typed u h gs stay runs' (subst (λ m. Behind (Waits u) top m gs) (sym same) (waiting_in n inside (omega arith) elsewhere behind))

    starts_at : (u : State K) (l : Label) (set : Locals) → HasBlock b l → Within (labelling f.function l 0) set → stops u ≡ at_start l g ∷ gs → SameElsewhere n s u → Hold u set → Fine (Running u)
    starts_at u l set leads w stay elsewhere held = goes_on u (at_start l g) refl stay elsewhere (record {
      in_body = record { body = b; is_body = runs.in_body.is_body; ground = runs.in_body.ground; block = leads.0; is_block = leads.1 };
      within = omega arith;
      locals = held_within Δ b g.types n inside (labelling f.function l 0) set w held;
    })

    -- with the same trees
    hold_same : {u v : State K} {set : Locals} → SameTrees u v → Hold u set → Hold v set
    hold_same same held = held_moved Δ (λ x. same (local_at n x)) (λ at e. same at) held

    statement_goes : (st : Statement) → slice_get k.statements f.statement ≡ Some st → Goes Fine (statement_step b f.types s st.span st.kind >>= λ u. Yields (Running u))
    statement_goes st e =
        let rows = (move_rows f.function b runs.in_body.is_body).statements f.label k f.statement st runs.in_body.is_block e in
        let set : Locals = labelling f.function f.label f.statement in
        goes_then (Ran Δ b g.types n inside s set st.kind (at_next g ∷ gs)) Fine (statement_step b f.types s st.span st.kind) (λ u. Yields (Running u))
        (run_goes Δ b g.types n inside bodies declares s set st.span st.kind g gs is_n refl runs.locals ((labelled f.function b runs.in_body.is_body).0.statements f.label k f.statement st runs.in_body.is_block e) rows.0)
        (λ u ran. goes_on u (at_next g) refl ran.stay ran.elsewhere (record {
          in_body = record { body = b; is_body = runs.in_body.is_body; ground = runs.in_body.ground; block = k; is_block = runs.in_body.is_block };
          within = omega (arith, slice_get_within k.statements f.statement st e);
          locals = held_within Δ b g.types n inside (labelling f.function f.label (f.statement + 1)) (run st.kind set) rows.1 ran.held;
        }))

    abbrev Ends : TerminatorKind → Type 0
    Ends end = Goes Fine (end_step code s k.end.span end)

    goto_goes : (l : Label) → Hold s end_set → EndIsTyped bodies b (Goto l) → Carries (λ m. labelling f.function m 0) end_set (Goto l) → Ends (Goto l)
    goto_goes l held typed carries =
        let (u, is_u, stay, same) = goto-row code s k.end.span l g gs refl in
        subst (Goes Fine) (sym is_u) (starts_at u l end_set typed carries stay (λ at d. same at) (hold_same same held))

    if_goes : (o : Operand) (l r : Label) → Hold s end_set → EndIsTyped bodies b (If o l r) → CanEnd end_set (If o l r) → Carries (λ m. labelling f.function m 0) end_set (If o l r) → Ends (If o l r)
    if_goes o l r held typed can carries = on_truth (has_shape takes.typed)
      where
        takes : Takes Δ b g.types n inside s end_set o bool
        takes = take_yields Δ b g.types n inside bodies declares s end_set o bool is_n held (operand_used (theory_in bodies) b o bool typed.0) can

        leads : (c : Bool) → HasBlock b (cond c l r) × Within (labelling f.function (cond c l r) 0) (taken o end_set)
        leads true = (typed.1, carries.0)
        leads false = (typed.2, carries.1)

        on_truth : Shape bool takes.tree → Ends (If o l r)
        on_truth (there, (c, is)) =
            let (u, is_u, stay, same) = if-row code s takes.after k.end.span o c l r g gs (takes.yields ∙ ap (λ t. Yields (takes.after, t)) is) takes.took.stay in
            let to = leads c in
            subst (Goes Fine) (sym is_u) (starts_at u (cond c l r) (taken o end_set) to.0 to.1 stay (λ at d. same at ∙ takes.took.elsewhere at d) (hold_same same takes.held))

    switch_goes : (p : Place) (ls : List Label) → Hold s end_set → EndIsTyped bodies b (Switch p ls) → CanEnd end_set (Switch p ls) → Carries (λ m. labelling f.function m 0) end_set (Switch p ls) → Ends (Switch p ls)
    switch_goes p ls held typed can carries =
        let (t, is_t, there, has) = local_read Δ b g.types n inside s end_set p.local (adt typed.number typed.regions typed.types) held typed.place.1 can in
        let (v, fs, us, is_made, is_v, are) = adt_shape Δ s t typed.number typed.regions (instances g.types typed.types) has.met has.typed in
        let within : v < length ls = omega (arith, typed.count, variant_counts Δ bodies declares typed.number typed.declaration v fs typed.is_declared is_v) in
        let (l, is_l) = get_first ls v within in
        let to : switched s p ls ≡ Yields l =
        ap (λ (m : Try (Tree K)). m >>= λ t. variant_of t >>= λ v. need (slice_get ls v)) (read_yields Δ b g.types n inside s p t is_n typed.place.0 is_t there ∙ ap Yields is_made) ∙ ap need is_l in
        let (u, is_u, stay, same) = switch-row code s k.end.span p ls l g gs to refl in
        subst (Goes Fine) (sym is_u) (starts_at u l end_set (typed.blocks v l is_l) (carries l (is_among ls v l is_l)) stay (λ at d. same at) (hold_same same held))

    call_goes : (p : Place) (callee : Callee) (types : List Ty) (os : List Operand) (l : Label) → f.statement ≡ length k.statements → k.end.kind ≡ Call p callee types os l → Hold s end_set → EndIsTyped bodies b (Call p callee types os l)
        → CanEnd end_set (Call p callee types os l) → Ends (Call p callee types os l)
    call_goes p callee types os l is_last is held ((c, ty, is_c, have, first, place, as_many), to) can =
        let (m, is_m, is_body) = callee_found bodies callee c is_c in
        let takes = take_all_yields Δ b g.types n inside bodies declares s end_set os (take c.params (drop 1 c.locals)) is_n held (operands_used (theory_in bodies) b os (take c.params (drop 1 c.locals)) have) can in
        let u : State K = takes.after in
        let h : Frame K = entered c m no_tys takes.trees in
        let v : State K = h ∷ u in
        let more : length u ≡ suc n = sym (stops_length u) ∙ ap length takes.stay in
        let same : SameElsewhere (length u) u v = same_behind h u in
        let other : length u ≡ 0 → ⊥ = λ e. omega (arith, more, e) in
        let args : AreOf Δ v no_tys takes.trees (take c.params (drop 1 c.locals)) =
        are_of_kept v (λ at e. same at (λ q. other (sym q ∙ e))) (subst (λ θ. AreOf Δ u θ takes.trees (take c.params (drop 1 c.locals))) runs.in_body.ground takes.typed) in
        let both = labelled m c is_body in
        let waiting : Waits v n g f.function m = record {
          is_caller = refl;
          in_body = runs.in_body;
          is_last = is_last;
          place = p;
          callee = callee;
          types = types;
          operands = os;
          next = l;
          is_call = is;
          is_callee = is_m;
          locals = subst (λ e. Hold v (all_done (acts_of_end e) end_set)) (sym is) (subst (Hold v) (sym (operands_done os end_set))
              (held_moved Δ (λ x. same (local_at n x) (λ e. omega (arith, more, e))) (λ at e. same at (λ q. other (sym q ∙ e))) takes.held));
        } in
        let begins : Runs v (suc n) (stop_of h) = record {
          in_body = record { body = c; is_body = is_body; ground = refl; block = both.0.begins.0; is_block = both.0.begins.1 };
          within = omega arith;
          locals = held_moved Δ {s = v} (λ x. refl) (λ at e. refl) (subst (λ i. HoldsLocals Δ v i c no_tys (labelling m c.entry 0)) more
              (let of_entry = entered_held Δ bodies c m no_tys takes.trees u both.0 args in record { slot = of_entry.slot; typed = λ x q t is_in. of_entry.typed x q t (both.1.entry x is_in) }));
        } in
        subst (Goes Fine) (sym (call-row code s u k.end.span p callee types os l takes.trees m c takes.yields is_m is_body))
        (stand_typed v (stop_of h) (g ∷ gs) (ap (λ ks. stop_of h ∷ ks) takes.stay) begins
        (one_waits waiting (waiting_in (length u) other (omega (arith, more)) same (waiting_in n inside (omega arith) takes.elsewhere behind))))

    return_goes : Hold s end_set → end_set 0 ≡ true → Ends Return
    return_goes held can =
        let answer = get_first b.locals 0 (omega (arith, (labelled f.function b runs.in_body.is_body).0.answers)) in
        let (t, is_t, there, typed) = local_read Δ b g.types n inside s end_set 0 answer.0 held answer.1 can in
        let same : SameElsewhere (length fs) s fs = λ at d. sym (same_behind f fs at d) in
        let as_long : length fs ≡ n = is_n in
        let other : length fs ≡ 0 → ⊥ = λ e. inside (sym as_long ∙ e) in
        let typed_there : HasType Δ fs (answer_ty b no_tys) t =
        subst (λ q. HasType Δ fs (instance no_tys q) t) (sym (answer_is b.locals answer.0 answer.1))
        (has_type_kept fs (λ at e. same at (λ q. other (sym q ∙ e))) (subst (λ θ. HasType Δ s (instance θ answer.0) t) runs.in_body.ground typed)) in
        subst (Goes Fine) (sym (return-row code f fs k.end.span t (ap (λ i. tree_at s (local_at i 0)) as_long ∙ is_t) there))
        (back_goes fs f.function t (record { body = b; is_body = runs.in_body.is_body; typed = typed_there }) (waiting_in (length fs) other (omega (arith, as_long)) same behind))

    end_goes : f.statement ≡ length k.statements → (end : TerminatorKind) → k.end.kind ≡ end → Hold s end_set → EndIsTyped bodies b end → CanEnd end_set end → Carries (λ m. labelling f.function m 0) end_set end → Ends end
    end_goes last (Goto l) is held typed can carries = goto_goes l held typed carries
    end_goes last (If o l r) is held typed can carries = if_goes o l r held typed can carries
    end_goes last (Switch p ls) is held typed can carries = switch_goes p ls held typed can carries
    end_goes last (Call p callee types os l) is held typed can carries = call_goes p callee types os l last is held typed can
    end_goes last Return is held typed can carries = return_goes held can
    end_goes last (Panic cause) is held typed can carries = tt

    row_goes : (o : Option Statement) → slice_get k.statements f.statement ≡ o → Goes Fine (row code b f.types s k.end o)
    row_goes (Some st) e = statement_goes st e
    row_goes None e =
        let rows = move_rows f.function b runs.in_body.is_body in
        let last : f.statement ≡ length k.statements = omega (arith, get_past k.statements f.statement e, runs.within) in
        end_goes last k.end.kind refl (subst (λ i. Hold s (labelling f.function f.label i)) last runs.locals) typed_end (rows.ends f.label k runs.in_body.is_block) (rows.edges f.label k runs.in_body.is_block)

    pub first_goes : Goes Fine (try_step code s)
    first_goes = subst (Goes Fine) (sym (step-row code f fs b k runs.in_body.is_body runs.in_body.is_block)) (row_goes (slice_get k.statements f.statement) refl)

  -- ---- runs

  of_goes : (m : Try (Outcome K)) → Goes Fine m → Fine (outcome_of m)
  of_goes (Yields o) h = h
  of_goes (Panics c s) h = tt
  of_goes Sticks h = absurd h

  step_typed : (s : State K) → Fine (Running s) → Fine (step code s)
  step_typed [] h = absurd h
  step_typed (f ∷ fs) h = of_goes (try_step code (f ∷ fs)) (first_goes f fs h.0 h.1)

  next_typed : (o : Outcome K) → Fine o → Fine (next code o)
  next_typed (Running s) h = step_typed s h
  next_typed (Returned s t) h = h
  next_typed (Panicked c s) h = tt
  next_typed Stuck h = absurd h

  pub run_typed : (n : ℕ) (o : Outcome K) → Fine o → Fine (after_from code n o)
  run_typed zero o h = h
  run_typed (suc n) o h = next_typed (after_from code n o) (run_typed n o h)

-- ---- proper calls

-- a proper call begins typed
pub call_typed : {K : Type 0} (Θ : Theory) (code : Code K) (labelling : ℕ → Labelling) → AreLabelled code.program labelling → (f : ℕ) (θ : Tys) (args held : List (Tree K)) (b : Body) (met : List Met)
    → IsProper Θ code.program f θ args held b met
    → IsTypedRun (declared Θ) code.program labelling f (Running (called b f θ args held))
call_typed {K} Θ code labelling labelled f θ args held b met proper =
    let none : θ ≡ no_tys = no_types_for_none θ proper.ground in
    let both = labelled f b proper.of in
    let params : List Ty = take b.params (drop 1 b.locals) in
    let of_args : AreOf (declared Θ) (called b f no_tys args held) no_tys args params =
    subst (λ types. AreOf (declared Θ) (called b f types args held) types args params) none (typed_args (declared Θ) (called b f θ args held) θ args params met proper.typed proper.outer) in
    let entry = entered_held (declared Θ) code.program b f no_tys args (outside held ∷ []) both.0 of_args in
    subst (λ types. IsTypedRun (declared Θ) code.program labelling f (Running (called b f types args held))) (sym none) (
      record {
        in_body = record { body = b; is_body = proper.of; ground = refl; block = both.0.begins.0; is_block = both.0.begins.1 };
        within = omega arith;
        locals = record { slot = entry.slot; typed = λ x ty t is_in. entry.typed x ty t (both.1.entry x is_in) };
      },
      from_outside,
    )

-- what a proper call of typed, initialised bodies comes to
pub call_stays_typed : {K : Type 0} (Θ : Theory) (code : Code K) (labelling : ℕ → Labelling) → AreLabelled code.program labelling → (f : ℕ) (θ : Tys) (args held : List (Tree K)) (b : Body) (met : List Met)
    → IsProper Θ code.program f θ args held b met
    → (n : ℕ) → IsTypedRun (declared Θ) code.program labelling f (after code n (called b f θ args held))
call_stays_typed Θ code labelling labelled f θ args held b met proper n =
    let start = Running (called b f θ args held) in
    run_typed (declared Θ) code labelling labelled proper.declares f n start (call_typed Θ code labelling labelled f θ args held b met proper)

typed_free : {K : Type 0} (Δ : Declarations) (bodies : Bodies) (labelling : ℕ → Labelling) (top : ℕ) (o : Outcome K) → IsTypedRun Δ bodies labelling top o → o ≡ Stuck → ⊥
typed_free Δ bodies labelling top o h e = subst (IsTypedRun Δ bodies labelling top) e h

-- it is never stuck
pub never_stuck : {K : Type 0} (Θ : Theory) (code : Code K) → AreSound code.program → (f : ℕ) (θ : Tys) (args held : List (Tree K)) (b : Body) (met : List Met) → IsProper Θ code.program f θ args held b met
    → (n : ℕ) → after code n (called b f θ args held) ≡ Stuck → ⊥
never_stuck Θ code sound f θ args held b met proper n =
    typed_free (declared Θ) code.program (labelling_of code.program sound) f (after code n (called b f θ args held)) (call_stays_typed Θ code (labelling_of code.program sound) (are_labelled code.program sound) f θ args held b met proper n)

pub safe_call : (Θ : Theory) (bodies : Bodies) → AreSound bodies → (f : ℕ) (θ : Tys) (args held : List (Tree (Unit {0}))) (b : Body) (met : List Met) → IsProper Θ bodies f θ args held b met
    → IsSafe (record { bodies = bodies; outcome = Running (called b f θ args held) })
safe_call Θ bodies sound f θ args held b met proper = never_stuck Θ (code_of bodies) sound f θ args held b met proper
