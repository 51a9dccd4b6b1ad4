-- A switch: the frame goes on at the label of its place's variant, where the place's local is known to be made of some values.
use Rattle.std.proofs.Common.{◌≡◌, ◌∙◌, inl, inr, refl, sym, ap, subst, ℕ, zero, suc, ◌+◌, ◌<◌, true, List, [], ◌∷◌, length, map, Option, Some, None, slice_get, arith}
use Rattle.std.proofs.lemmas.Option.{same_Some}
use Rattle.text_core.specs.declared.name.Name.{Name}
use Rattle.text_core.specs.declared.span.Span.{Span}
use Rattle.logic_term.specs.declared.declaration.AdtDecl.{AdtDecl}
use Rattle.logic_term.specs.declared.declaration.FieldDecl.{FieldDecl}
use Rattle.logic_term.specs.declared.declaration.VariantDecl.{VariantDecl}
use Rattle.logic_term.specs.declared.kinds.AdtId.{AdtId}
use Rattle.logic_term.specs.declared.kinds.Ctor.{Ctor}
use Rattle.logic_term.specs.declared.kinds.Ctor.TheVariants.{Variant}
use Rattle.logic_term.specs.declared.kinds.Label.{Label}
use Rattle.logic_term.specs.Laws.{HaveExactly}
use Rattle.logic_term.specs.Meaning.{Structure, Env, Means, with_value}
use Rattle.logic_term.specs.Sort.{HasSort, HaveSorts, instance, instances}
use Rattle.logic_term.specs.Term.{Terms, var}
use Rattle.logic_term.specs.TermView.{terms_of}
use Rattle.logic_term.specs.Theory.{declared, field_ty, fields_of, variant_of}
use Rattle.logic_term.specs.Ty.{Ty, Tys, adt, no_tys, and_ty}
use Rattle.logic_term.specs.TyView.{tys_of}
use Rattle.logic_term.specs.Value.{Value, Values, Made, no_values, and_value}
use Rattle.logic_term.proofs.Alike.{alike_same}
use Rattle.logic_term.proofs.Coincide.{with_same, with_other}
use Rattle.logic_term.proofs.FreeLaw.{same_name}
use Rattle.logic_term.proofs.Made.{made_exactly}
use Rattle.logic_term.proofs.SortParts.{parts, all_parts, instances_instances}
use Rattle.logic_term.proofs.Truth.{Exactly, holds_equal_exactly}
use Rattle.mir_ir.specs.declared.place.Place.{Place}
use Rattle.mir_ir.specs.declared.terminator.TerminatorKind.TheVariants.{Switch}
use Rattle.mir_ir.specs.declared.body.Body.{Body}
use Rattle.mir_ir.specs.Layout.{among, targets}
use Rattle.mir_ir.specs.WellFormed.{EndIsTyped, Locals, Labelling, Within as Within_set}
use Rattle.mir_ir.proofs.Declared.{variant_counts}
use Rattle.mir_ir.proofs.Taking.{CanEnd, Carries}
use Rattle.mir_machine.specs.Tree.{Tree, Trees}
use Rattle.mir_machine.specs.Tree as tree
use Rattle.mir_machine.specs.Frame.{Frame, State}
use Rattle.mir_machine.specs.Memory.{running}
use Rattle.mir_machine.specs.Step.{Outcome, variant_of as variant_of_tree, switched, end_step}
use Rattle.mir_machine.specs.Try.{Try, Yields, ◌>>=◌, need}
use Rattle.mir_machine.specs.Invariant.{Stop, stop_of, stops, local_at}
use Rattle.mir_machine.proofs.EndRows.{switch-row}
use Rattle.mir_machine.proofs.NeverStuck.{is_among}
use Rattle.mir_machine.proofs.Stacks.{held_moved}
use Rattle.mir_machine.proofs.TypedRows.{local_read, read_yields}
use Rattle.mir_machine.proofs.TypedTrees.{adt_shape}
use Rattle.mir_machine.proofs.Tried.{Quiet}
use Rattle.mir_machine.proofs.Writes.{at_start, stops_length}
use Rattle.prophecy_logic.specs.Command.{by_set, by_fresh, by_assume, none, more, MovesAll}
use Rattle.prophecy_logic.specs.Row.{part_name, part_names, name_of}
use Rattle.prophecy_logic.specs.Graph.{Setting, IsAtEnd, Arrives, Sides, no_side, last_side, one_side}
use Rattle.prophecy_logic.specs.Prefix.{within, to_variant}
use Rattle.prophecy_logic.specs.Walk.{seen_before, parameters, types_at, of_parts, of_variant, variant_commands, where_variant, Walk, met}
use Rattle.prophecy_logic.proofs.Commands.{GoalsHold, goals_moved, goals_first, goals_rest, then_moves}
use Rattle.prophecy_sim.proofs.Lists.{get_first, decide}
use Rattle.prophecy_sim.proofs.Setup.{Setup, FunctionOf, move_rows, S, bodies, declarations, own, walked, not_part}
use Rattle.prophecy_sim.proofs.Owned.{Shows, made_shown}
use Rattle.prophecy_sim.proofs.Operands.{Agree, agree_moved}
use Rattle.prophecy_sim.proofs.Memories.{Came, came_on}
use Rattle.prophecy_sim.proofs.Standing.{point_of, Standing}
use Rattle.prophecy_sim.proofs.Stands.{Holding, local_sort}
use Rattle.prophecy_sim.proofs.Ends.{Continues, SameLocals, Ways, goes_on}

-- ---- new values

part_number : (j k : ℕ) → (part_name j).0 ≡ (part_name k).0 → j ≡ k
unfolding part_name
part_number j k e = omega (arith, e)

no_parts : (v : Value) (vs : Values) → and_value v vs ≡ no_values → ⊥
no_parts v vs e = cc

module _ (S : Structure) where
  -- the names of parts from number k on have these values, all other names what they had
  record PartsMoved (k : ℕ) (tys : List Ty) (vs : Values) (ρ : Env) : Type 0 where
    env : Env
    moves : MovesAll S (parameters (part_names k tys) tys) ρ env
    are : HaveExactly S (terms_of (map var (part_names k tys))) env vs
    before : (j : ℕ) → j < k → env (part_name j) ≡ ρ (part_name j)
    others : (n : Name) → ((j : ℕ) → n.0 ≡ (part_name j).0 → ⊥) → env n ≡ ρ n

  parts_move : (k : ℕ) (tys : List Ty) (vs : Values) (ρ : Env) → HaveSorts (declared S.theory) vs (instances S.types (tys_of tys)) → PartsMoved k tys vs ρ
  parts_move k [] no_values ρ sorts = record { env = ρ; moves = none; are = tt; before = λ j l. refl; others = λ n o. refl }
  parts_move k [] (and_value v vs) ρ sorts = absurd (no_parts v vs (all_parts (declared S.theory) (and_value v vs) no_tys sorts))
  parts_move k (t ∷ ts) vs ρ sorts =
      let p = all_parts (declared S.theory) vs (and_ty (instance S.types t) (instances S.types (tys_of ts))) sorts in
      let ρ₁ : Env = with_value ρ (part_name k) p.0 in
      let rest = parts_move (k + 1) ts p.1 ρ₁ p.4 in
      let here : rest.env (part_name k) ≡ p.0 = rest.before k (omega arith) ∙ with_same ρ (part_name k) p.0 in
      record {
        env = rest.env;
        moves = more (by_fresh p.0 p.3) rest.moves;
        are = subst (HaveExactly S (terms_of (map var (part_names k (t ∷ ts)))) rest.env) (sym p.2)
            (subst (λ u. Exactly (Means S (var (part_name k)) rest.env) u) here (alike_same _), rest.are);
        before = λ j l. rest.before j (omega (arith, l)) ∙ with_other ρ (part_name k) (part_name j) p.0 (λ e. let same : j ≡ k = part_number j k e in omega (arith, l, same));
        others = λ n o. rest.others n o ∙ with_other ρ (part_name k) n p.0 (o k);
      }

  -- the name's value is made of parts of these types: so it is known, and nothing else is changed
  pub record VariantMoved (b : Body) (x : ℕ) (c : Ctor) (tys : List Ty) (ρ : Env) : Type 0 where
    pub env : Env
    pub moves : MovesAll S (of_variant b x c tys) ρ env
    pub others : (n : Name) → ((j : ℕ) → n.0 ≡ (part_name j).0 → ⊥) → env n ≡ ρ n

  pub variant_moves : (b : Body) (x : ℕ) (c : Ctor) (tys : List Ty) (vs : Values) (ρ : Env) → ((j : ℕ) → (name_of b x).0 ≡ (part_name j).0 → ⊥) → ρ (name_of b x) ≡ Made c vs → HaveSorts (declared S.theory) vs (instances S.types (tys_of tys))
      → VariantMoved b x c tys ρ
  variant_moves b x c tys vs ρ not_new is sorts =
      let n : Name = name_of b x in
      let w : Value = Made c vs in
      let p = parts_move 0 tys vs ρ sorts in
      let here : p.env n ≡ w = p.others n not_new ∙ is in
      let of_name : Exactly (Means S (var n) p.env) w = subst (λ u. Exactly (Means S (var n) p.env) u) here (alike_same _) in
      let ts : Terms = terms_of (map var (part_names 0 tys)) in
      let exactly : Exactly (Means S (of_parts c tys) p.env) w = made_exactly S c ts p.env vs p.are in
      record {
        env = with_value p.env n w;
        moves = then_moves S p.moves (more (by_assume ((holds_equal_exactly S (var n) (of_parts c tys) p.env w w of_name exactly).1 (λ no. no refl))) (more (by_set w exactly) none));
        others = λ m o. elim (decide m.0 n.0) [
          | inl e ↦ let same : m ≡ n = same_name m n e in ap (with_value p.env n w) same ∙ with_same p.env n w ∙ sym is ∙ ap ρ (sym same)
          | inr d ↦ with_other p.env n m w d ∙ p.others m o
        ];
      }

-- ---- types of fields

fields_at : (ts : Tys) (fs : List FieldDecl) → tys_of (map (λ (f : FieldDecl). instance ts f.ty) fs) ≡ instances ts (tys_of (map field_ty fs))
fields_at ts [] = refl
fields_at ts (f ∷ fs) = ap (and_ty (instance ts f.ty)) (fields_at ts fs)

types_are : (o : Option VariantDecl) (ts fs : Tys) → fields_of o ≡ Some fs → tys_of (types_at ts o) ≡ instances ts fs
types_are (Some v) ts fs e = fields_at ts v.fields ∙ ap (instances ts) (same_Some _ _ e)
types_are None ts fs e = absurd (cc)

same_variant : (d e : AdtId) (j k : ℕ) (vs ws : Values) → Made (Variant d j) vs ≡ Made (Variant e k) ws → j ≡ k
same_variant d e j k vs ws q = cc

-- ---- sides

-- the side of variant n, and its goals
side_holds : (S : Structure) (w : Setting) (heads : List Label) (q : Place) (j : ℕ) (ls : List Label) (v : Walk) (ρ : Env) (k n : ℕ) (l : Label) → Sides w heads q j ls v → slice_get ls k ≡ Some l → n ≡ j + k → GoalsHold S ρ (met v)
    → (u : Walk) × Arrives w heads l u × GoalsHold S ρ (seen_before (where_variant w.body w.decls q n) (met u))
side_holds S w heads q j ls v ρ k n l no_side e is h = absurd (let gone : None ≡ Some l = e in cc)
side_holds S w heads q j ls v ρ zero n l (last_side {u = u} a) e is h =
    let same : j ≡ n = omega (arith, is) in
    (u, subst (λ x. Arrives w heads x u) (same_Some _ _ e) a, subst (λ i. GoalsHold S ρ (seen_before (where_variant w.body w.decls q i) (met u))) same h)
side_holds S w heads q j ls v ρ (suc k) n l (last_side a) e is h = absurd (let gone : None ≡ Some l = e in cc)
side_holds S w heads q j ls v ρ zero n l (one_side {u = u} {v = x} a s) e is h =
    let same : j ≡ n = omega (arith, is) in (
      u,
      subst (λ y. Arrives w heads y u) (same_Some _ _ e) a,
      subst (λ i. GoalsHold S ρ (seen_before (where_variant w.body w.decls q i) (met u))) same (goals_first S ρ (seen_before (where_variant w.body w.decls q j) (met u)) (met x) h),
    )
side_holds S w heads q j ls v ρ (suc k) n l (one_side {m = m} {ms = ms} {u = u} {v = x} a s) e is h =
    side_holds S w heads q (j + 1) (m ∷ ms) x ρ k n l s e (omega (arith, is)) (goals_rest S ρ (seen_before (where_variant w.body w.decls q j) (met u)) (met x) h)

module _ {K : Type 0} (s : Setup K) (f : FunctionOf s) (ρ₀ : Env) (fr : Frame K) (fs : State K) (inside : length (stops fs) ≡ 0 → ⊥) (st : Standing s f ρ₀ (fr ∷ fs) (length (stops fs)) (stop_of fr))
    (Fine : Outcome K → Type 0) (continues : Continues s f ρ₀ Fine fr fs) where
  abbrev b : Body
  b = f.body

  abbrev now : State K
  now = fr ∷ fs

  abbrev g : Stop
  g = stop_of fr

  abbrev n : ℕ
  n = length (stops fs)

  abbrev initialised : Labelling
  initialised = s.labelling f.number

  abbrev ρ : Env
  ρ = st.env

  abbrev end_set : Locals
  end_set = initialised g.label (length st.block.statements)

  module _ {heads : List Label} {v : Walk} (at : Span) (p : Place) (ls : List Label) (kind : st.block.end.kind ≡ Switch p ls) (sides : Sides (walked s f) heads p 0 ls v)
      (came : Came s f ρ₀ (walked s f) heads (within (point_of g)) ρ) (at_end : IsAtEnd b (point_of g) st.block.end) (hold : GoalsHold (S s) ρ (met v))
      (held : Holding s f now n end_set) (agrees : Agree b now n end_set ρ) (ways : Ways s f ρ₀ fr fs inside st heads) where
    has : EndIsTyped (bodies s) b (Switch p ls)
    has = subst (EndIsTyped (bodies s) b) kind ((own s f).typed.ends g.label st.block st.is_block)

    can : CanEnd end_set (Switch p ls)
    can = subst (CanEnd end_set) kind ((move_rows s f).ends g.label st.block st.is_block)

    carries : Carries (λ m. initialised m 0) end_set (Switch p ls)
    carries = subst (Carries (λ m. initialised m 0) end_set) kind ((move_rows s f).edges g.label st.block st.is_block)

    -- where the value of the place's name is of variant k
    variant_known : (k : ℕ) (vs : Values) → ρ (name_of b p.local) ≡ Made (Variant has.number k) vs → VariantMoved (S s) b p.local (Variant has.number k) (types_at has.types (variant_of (slice_get (bodies s).decls has.number.0) k)) ρ
    variant_known k vs is =
        let sort : HasSort (declarations s) (ρ (name_of b p.local)) (adt has.number has.regions (instances no_tys has.types)) =
        local_sort s f now n end_set ρ held agrees p.local (adt has.number has.regions has.types) has.place.1 can in
        let q = parts (declarations s) (ρ (name_of b p.local)) (adt has.number has.regions (instances no_tys has.types)) sort in
        let same : q.0 ≡ k = same_variant has.number has.number q.0 k q.2 vs (sym q.3 ∙ is) in
        let tys : List Ty = types_at has.types (variant_of (slice_get (bodies s).decls has.number.0) k) in
        let fields : fields_of (variant_of (slice_get (bodies s).decls has.number.0) k) ≡ Some q.1 =
        ap (λ (o : Option AdtDecl). fields_of (variant_of o k)) has.is_declared ∙ sym (s.declares has.number has.declaration has.is_declared k) ∙ ap (declarations s has.number) (sym same) ∙ q.4 in
        let of_types : tys_of tys ≡ instances has.types q.1 = types_are (variant_of (slice_get (bodies s).decls has.number.0) k) has.types q.1 fields in
        let sorts : HaveSorts (declarations s) q.2 (instances no_tys (tys_of tys)) =
        subst (HaveSorts (declarations s) q.2) (sym (ap (instances no_tys) of_types ∙ instances_instances no_tys has.types q.1)) q.5 in
        variant_moves (S s) b p.local (Variant has.number k) tys q.2 ρ (not_part s f p.local (adt has.number has.regions has.types) has.place.1) (q.3 ∙ ap (λ i. Made (Variant has.number i) q.2) same) sorts

    -- the frame goes on at the label of the variant
    side_stands : (u : State K) (k : ℕ) (l : Label) (vs : Values) → slice_get ls k ≡ Some l → ρ (name_of b p.local) ≡ Made (Variant has.number k) vs → Holding s f u n end_set → Agree b u n end_set ρ → Standing s f ρ₀ u n (at_start l g)
    side_stands u k l vs is_l is held' agreed =
        let moved = variant_known k vs is in
        let σ : Env = moved.env in
        let same : SameLocals s f ρ₀ fr fs inside st σ = λ x ty e. moved.others (name_of b x) (not_part s f x ty e) in
        let commands : where_variant b (bodies s).decls p k ≡ of_variant b p.local (Variant has.number k) (types_at has.types (variant_of (slice_get (bodies s).decls has.number.0) k)) =
        ap (variant_commands b (bodies s).decls p.local k) has.place.1 in
        let moves : MovesAll (S s) (where_variant b (bodies s).decls p k) ρ σ = subst (λ cs. MovesAll (S s) cs ρ σ) (sym commands) moved.moves in
        let side = side_holds (S s) (walked s f) heads p 0 ls v ρ k k l sides is_l (omega arith) hold in
        let w : Within_set (initialised l 0) end_set = carries l (is_among ls k l is_l) in
        goes_on s f ρ₀ fr fs inside st σ (λ m out. moved.others m out.2 ∙ st.keeps m out) l end_set u side.1
        (came_on s f ρ₀ came (where_variant b (bodies s).decls p k) (to_variant st.block.end p ls k l came.prefix at_end kind is_l) moves)
        (goals_moved (S s) (met side.0) moves side.2) held' (λ x ty t is_in is_ty e. subst (Shows t) (sym (same x ty is_ty)) (agreed x ty t is_in is_ty e)) w
        (ways σ same l (subst (λ x. among l (targets x) ≡ true) (sym kind) (is_among ls k l is_l)) w)

    pub switch_comes : Quiet Fine (end_step s.code now at (Switch p ls))
    switch_comes =
        let is_n : running now ≡ n = sym (stops_length fs) in
        let (t, is_t, there, typed) = local_read (declarations s) b no_tys n inside now end_set p.local (adt has.number has.regions has.types) held has.place.1 can in
        let (k, fields, us, is_made, is_k, are) = adt_shape (declarations s) now t has.number has.regions (instances no_tys has.types) typed.met typed.typed in
        let within_list : k < length ls = omega (arith, has.count, variant_counts (declarations s) (bodies s) s.declares has.number has.declaration k fields has.is_declared is_k) in
        let (l, is_l) = get_first ls k within_list in
        let to : switched now p ls ≡ Yields l =
        ap (λ (m : Try (Tree K)). m >>= λ t. variant_of_tree t >>= λ v. need (slice_get ls v)) (read_yields (declarations s) b no_tys n inside now p t is_n has.place.0 is_t there ∙ ap Yields is_made) ∙ ap need is_l in
        let (u, is_u, stay, same) = switch-row s.code now at p ls l g (stops fs) to refl in
        let shows : Shows (tree.Made (Variant has.number k) us) (ρ (name_of b p.local)) =
        subst (λ (x : Tree K). Shows x (ρ (name_of b p.local))) is_made (agrees p.local (adt has.number has.regions has.types) t can has.place.1 is_t) in
        let (vs, is) = made_shown (declarations s) (Variant has.number k) us (ρ (name_of b p.local)) shows in
        subst (Quiet Fine) (sym is_u) (continues.stays u (at_start l g) stay (λ at d. same at)
        (side_stands u k l vs is_l is (held_moved (declarations s) (λ x. same (local_at n x)) (λ at e. same at) held) (agree_moved b now u n end_set ρ (λ x. same (local_at n x)) agrees)))
