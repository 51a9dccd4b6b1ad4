-- The frame of a call as it begins: the goals of its walk hold there.
use Rattle.std.proofs.Common.{◌≡◌, ◌∙◌, refl, sym, ap, subst, ℕ, zero, suc, ◌+◌, ◌-◌, ◌<◌, nat_lt, ◌&&◌, Bool, true, false, List, [], ◌∷◌, length, take, drop, replicate, Some, slice_get, arith}
use Rattle.std.proofs.lemmas.Bool.{ltb-true}
use Rattle.std.proofs.lemmas.Option.{same_Some, slice_get_within}
use Rattle.text_core.specs.declared.name.Name.{Name}
use Rattle.logic_term.specs.declared.obligation.Contract.{Contract}
use Rattle.logic_term.specs.declared.obligation.Obligation.{Obligation}
use Rattle.logic_term.specs.Meaning.{Structure, Env, Holds}
use Rattle.logic_term.specs.Obligations.{how_many, IsTrueObligation}
use Rattle.logic_term.specs.Term.{Term}
use Rattle.logic_term.specs.Sort.{instance}
use Rattle.logic_term.specs.Ty.{Ty, no_tys}
use Rattle.logic_term.specs.Value.{Values}
use Rattle.logic_term.proofs.Alike.{yes_alike}
use Rattle.logic_term.proofs.FreeLaw.{coincide_free}
use Rattle.logic_term.proofs.CanonicalLaw.{reduced_means}
use Rattle.mir_ir.specs.declared.body.Body.{Body}
use Rattle.mir_ir.specs.WellFormed.{Labelling, parameters as parameter_locals}
use Rattle.mir_machine.specs.Tree.{Tree, Gone}
use Rattle.mir_machine.specs.Frame.{Frame, State}
use Rattle.mir_machine.specs.Step.{entered}
use Rattle.mir_machine.specs.Good.{Each, named}
use Rattle.mir_machine.specs.Invariant.{stop_of}
use Rattle.mir_machine.proofs.Stacks.{typed_args, entered_held}
use Rattle.mir_machine.proofs.TypedRows.{AreOf}
use Rattle.mir_machine.proofs.Writes.{first_local}
use Rattle.mir_machine.proofs.Undoing.{needed}
use Rattle.prophecy_logic.specs.declared.goal.Goal.{Goal}
use Rattle.prophecy_logic.specs.Command.{MovesAll}
use Rattle.prophecy_logic.specs.Row.{name_of}
use Rattle.prophecy_logic.specs.Graph.{numbered, goals_of_walk}
use Rattle.prophecy_logic.specs.Prefix.{entry}
use Rattle.prophecy_logic.specs.Walk.{entry_commands, parameters, met}
use Rattle.prophecy_logic.proofs.Commands.{GoalsHold, goals_moved, then_moves}
use Rattle.prophecy_logic.proofs.Prefixes.{goals_are_seen_before}
use Rattle.prophecy_sim.specs.Programs.{HasTrueObligations}
use Rattle.prophecy_sim.proofs.Lists.{get_append, get_first}
use Rattle.prophecy_sim.proofs.Setup.{Setup, FunctionOf, S, bodies, declarations, own, walked, local_named, owned_params}
use Rattle.prophecy_sim.proofs.Owned.{Shows, AllFit, all_fit, AllShow, all_shown, fit_sort}
use Rattle.prophecy_sim.proofs.Arguments.{argument_shows}
use Rattle.prophecy_sim.proofs.Operands.{Agree, agree_within}
use Rattle.prophecy_sim.proofs.Entries.{AreSorted, parameters_move, assumed_move, Stored, stored_move}
use Rattle.prophecy_sim.proofs.Memories.{Reached, onward, none_around}
use Rattle.prophecy_sim.proofs.Standing.{Standing, Coming, arrived}
use Rattle.prophecy_sim.proofs.Waits.{params_length}
use Rattle.prophecy_sim.proofs.Ends.{Begun, with_call}

and_right : (p q : Bool) → (p && q) ≡ true → q ≡ true
and_right true q e = e
and_right false q e = absurd (cc)

module _ (S : Structure) where
  same_hold : (ts : List Term) (ρ σ : Env) → ((x : Name) → ρ x ≡ σ x) → Each (λ t. Holds S t ρ) ts → Each (λ t. Holds S t σ) ts
  same_hold [] ρ σ same h = tt
  same_hold (t ∷ ts) ρ σ same h = ((yes_alike _ _ (coincide_free S t ρ σ (λ x f. same x))).0 h.0, same_hold ts ρ σ same h.1)

  goals_hold : (owner : List ℕ) (m : ℕ) (gs : List Goal) (ρ : Env) → how_many S.types ≡ 0 → ((o : List Obligation) → o ≡ numbered owner m gs → Each (IsTrueObligation S.theory) o) → GoalsHold S ρ gs
  goals_hold owner m [] ρ none h = tt
  goals_hold owner m (g ∷ gs) ρ none h =
      let all = h (numbered owner m (g ∷ gs)) refl in
      ((yes_alike _ _ (reduced_means S g.formula ρ)).0 (all.0 S.types none ρ), goals_hold owner (m + 1) gs ρ none (λ o e. subst (Each (IsTrueObligation S.theory)) (sym e) all.1))

module _ {K : Type 0} (s : Setup K) (f : FunctionOf s) (proved : HasTrueObligations s.theory (walked s f)) where
  abbrev b : Body
  b = f.body

  abbrev c : Contract
  c = (own s f).contract

  abbrev initialised : Labelling
  initialised = s.labelling f.number

  abbrev param_list : List Ty
  param_list = take b.params (drop 1 b.locals)

  -- ---- names

  room : (i : ℕ) → i < length c.params → 1 + i < length b.locals
  room i l = omega (arith, (own s f).speaks.count, (own s f).typed.answers, l)

  -- local x has a name
  name_at : (x : ℕ) → x < length b.locals → slice_get b.names x ≡ Some (name_of b x)
  name_at x l = let t = get_first b.locals x l in local_named s f x t.0 t.1

  param_is_no_local : (i j : ℕ) (x : Name) → slice_get c.params i ≡ Some x → j < length c.params → x.0 ≡ (name_of b (1 + j)).0 → ⊥
  param_is_no_local i j x e l q = (own s f).speaks.no_local i (1 + j) x (name_of b (1 + j)) e (name_at (1 + j) (room j l)) q

  locals_apart : (i j : ℕ) → i < length c.params → j < length c.params → (name_of b (1 + i)).0 ≡ (name_of b (1 + j)).0 → i ≡ j
  locals_apart i j l k q = less ((own s f).simple.names.apart (1 + i) (1 + j) (name_of b (1 + i)) (name_of b (1 + j)) (name_at (1 + i) (room i l)) (name_at (1 + j) (room j k)) q)
    where
      less : {i j : ℕ} → 1 + i ≡ 1 + j → i ≡ j
      less p = omega arith

  -- ---- the entry

  module _ (args : List (Tree K)) (count : length args ≡ length param_list) (fit : AllFit (declarations s) args param_list) (values : Values) (shows : AllShow args values)
      (pre : Each (λ t. Holds (S s) t (named c.params values)) c.pre) where
    abbrev ρ₀ : Env
    ρ₀ = named c.params values

    sorted : AreSorted (S s) ρ₀ c.params (drop 1 b.locals)
    sorted i x ty e q =
        let below : i < b.params = omega (arith, slice_get_within c.params i x e, (own s f).speaks.count) in
        let taken : slice_get param_list i ≡ Some ty = taken_is (drop 1 b.locals) b.params i ty q below in
        let t = fit i ty taken in
        fit_sort (declarations s) (instance no_tys ty) t.0 (ρ₀ x) t.2 (argument_shows c.params args values (own s f).speaks.apart shows i x t.0 e t.1)
      where
        taken_is : (xs : List Ty) (p n : ℕ) (t : Ty) → slice_get xs n ≡ Some t → n < p → slice_get (take p xs) n ≡ Some t
        taken_is [] p n t q l = absurd (cc)
        taken_is (y ∷ xs) zero n t q l = absurd (omega arith)
        taken_is (y ∷ xs) (suc p) zero t q l = q
        taken_is (y ∷ xs) (suc p) (suc n) t q l = taken_is xs p n t q (omega arith)

    abbrev given : (σ : Env) × MovesAll (S s) (parameters c.params (drop 1 b.locals)) ρ₀ σ × ((y : Name) → σ y ≡ ρ₀ y)
    given = parameters_move (S s) c.params (drop 1 b.locals) ρ₀ sorted

    abbrev set : Stored (S s) b 1 c.params given.0
    set = stored_move (S s) b 1 c.params given.0 param_is_no_local locals_apart

    enters : MovesAll (S s) (entry_commands b c) ρ₀ set.env
    enters = then_moves (S s) (then_moves (S s) given.1 (assumed_move (S s) c.pre given.0 (same_hold (S s) c.pre ρ₀ given.0 (λ x. sym (given.2 x)) pre))) set.moves

    goals_there : GoalsHold (S s) set.env (met proved.are.walk)
    goals_there =
        let before : GoalsHold (S s) ρ₀ (goals_of_walk (walked s f) proved.are.walk) =
        goals_hold (S s) b.owner proved.first (goals_of_walk (walked s f) proved.are.walk) ρ₀ refl
        (λ o e. subst (Each (IsTrueObligation s.theory)) (proved.are.are_numbered ∙ sym e) proved.all_true) in
        goals_moved (S s) (met proved.are.walk) enters (subst (GoalsHold (S s) ρ₀) (goals_are_seen_before (entry_commands b c) proved.are.walk) before)

    abbrev at_entry : Frame K
    at_entry = entered b f.number no_tys args

    entry_shows : (x : ℕ) (ty : Ty) (t : Tree K) → (parameter_locals b) x ≡ true → slice_get b.locals x ≡ Some ty → slice_get at_entry.locals x ≡ Some t → Shows t (set.env (name_of b x))
    entry_shows zero ty t inside is_ty is_t = absurd (no inside)
      where
        no : (parameter_locals b) 0 ≡ true → ⊥
        no q = cc
    entry_shows (suc i) ty t inside is_ty is_t =
        let below : i < b.params = is_below inside in
        let x = get_first c.params i (omega (arith, below, (own s f).speaks.count)) in
        let u = get_first args i (omega (arith, below, count, params_length b (own s f).typed.answers)) in
        let same : u.0 ≡ t = same_Some _ _ (sym (get_append args (replicate (length b.locals - 1 - length args) Gone) i u.0 u.1) ∙ is_t) in
        let value : set.env (name_of b (suc i)) ≡ ρ₀ x.0 = ap (λ k. set.env (name_of b k)) (one_more i) ∙ set.here i x.0 x.1 ∙ given.2 x.0 in
        subst (Shows t) (sym value) (subst (λ (w : Tree K). Shows w (ρ₀ x.0)) same (argument_shows c.params args values (own s f).speaks.apart shows i x.0 u.0 x.1 u.1))
      where
        one_more : (i : ℕ) → suc i ≡ 1 + i
        one_more i = omega arith

        is_below : (parameter_locals b) (suc i) ≡ true → i < b.params
        is_below q = let h = ltb-true (suc i) (b.params + 1) (and_right (nat_lt 0 (suc i)) (nat_lt (suc i) (b.params + 1)) q) in omega arith

    module _ (u : State K) (of_args : AreOf (declarations s) (with_call s f args u) no_tys args param_list) where
      abbrev st : State K
      st = with_call s f args u

      entry_agrees : Agree b st (length u) (parameter_locals b) set.env
      entry_agrees x ty t inside is_ty is_t = entry_shows x ty t inside is_ty (needed (slice_get at_entry.locals x) t (sym (first_local at_entry u x) ∙ is_t))

      comes : Coming s f ρ₀ [] b.entry st (length u)
      comes = record {
        held = let entry = entered_held (declarations s) (bodies s) b f.number no_tys args u (own s f).typed of_args in
            record { slot = entry.slot; typed = λ x ty t inside. entry.typed x ty t ((own s f).moves.entry x inside) };
        env = set.env;
        agrees = agree_within b (initialised b.entry 0) (parameter_locals b) st (length u) set.env (own s f).moves.entry entry_agrees;
        keeps = λ n out. set.kept n (λ j l q. out.0 (1 + j) (name_of b (1 + j)) (name_at (1 + j) (room j l)) q) ∙ given.2 n;
        came = record { commands = entry_commands b c; prefix = entry; moves = enters };
      }

      way : Reached s f ρ₀ (initialised b.entry 0) comes.env [] b.entry
      unfolding comes
      way = onward (own s f).simple.laid_out.entry [] (own s f).simple.laid_out.is_entry (own s f).simple.laid_out.at_entry none_around (λ h a. a) (λ h a. absurd (cc)) (λ a. absurd (cc))

      entry_stands : Standing s f ρ₀ st (length u) (stop_of at_entry)
      unfolding comes
      entry_stands = arrived s f ρ₀ proved.are.arrives st (length u) (stop_of at_entry) refl refl comes way goals_there

  -- the frame of a call that begins stands, where its `requires` are true
  pub begins : (ρ : Env) (args : List (Tree K)) (u : State K) → Begun s (with_call s f args u) f ρ args → Standing s f ρ (with_call s f args u) (length u) (stop_of (entered b f.number no_tys args))
  begins ρ args u begun =
      let st : State K = with_call s f args u in
      let of_args : AreOf (declarations s) st no_tys args param_list = typed_args (declarations s) st no_tys args param_list [] begun.typed tt in
      let fit = all_fit (bodies s) (own s f).simple.owns (declarations s) s.declares (own s f).simple.fields (owned_params s f) of_args in
      let pre = subst (λ σ. Each (λ t. Holds (S s) t σ) c.pre) begun.is_env begun.pre in
      subst (λ σ. Standing s f σ st (length u) (stop_of (entered b f.number no_tys args))) (sym begun.is_env)
      (entry_stands args fit.0 fit.1 begun.values (all_shown (declarations s) args param_list fit.0 fit.1 begun.reads) pre u of_args)
