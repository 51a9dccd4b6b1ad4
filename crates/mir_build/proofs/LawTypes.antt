-- Each lowered text is typed.
use Rattle.std.proofs.Common.{◌≡◌, refl, ap, sym, ◌∙◌, subst, ℕ, Bool, true, false, List, [], ◌∷◌, ◌++◌, map, take, drop, length, Option, Some, None, slice_get}
use Rattle.logic_term.specs.declared.declaration.AdtDecl.{AdtDecl}
use Rattle.logic_term.specs.declared.kinds.Ctor.{Ctor}
use Rattle.logic_term.specs.declared.kinds.Label.{Label}
use Rattle.logic_term.specs.Sorted.{FieldSort, MadeSort}
use Rattle.logic_term.specs.Ty.{Ty, bool}
use Rattle.logic_term.specs.TyView.{tys_of}
use Rattle.text_core.specs.declared.span.Span.{Span}
use Rattle.mir_ir.specs.declared.body.Bodies.{Bodies}
use Rattle.mir_ir.specs.declared.body.Body.{Body}
use Rattle.mir_ir.specs.declared.place.Operand.TheVariants.{Copy}
use Rattle.mir_ir.specs.declared.place.Place.{Place}
use Rattle.mir_ir.specs.declared.statement.Rvalue.{Rvalue}
use Rattle.mir_ir.specs.declared.statement.Rvalue.TheVariants.{Use, Binary}
use Rattle.mir_ir.specs.Declares.{theory_in}
use Rattle.mir_ir.specs.WellFormed.{OperandsHave, PartHas, PlaceHas, RvalueHas}
use Rattle.mir_ir.proofs.Paths.{whole_part}
use Rattle.source_kinds.specs.declared.kinds.BinaryOp.{BinaryOp}
use Rattle.source_kinds.specs.declared.kinds.BinaryOp.TheVariants.{Eq}
use Rattle.type_check.specs.declared.program.Signature.{Signature}
use Rattle.type_check.specs.TypedExpr.{TypedExpr}
use Rattle.type_check.specs.TypedExprView.{ty_of}
use Rattle.runnable.specs.Runs.{Runs, AllRun}
use Rattle.runnable.proofs.RunTypes.{int_runs, bool_runs, unit_runs}
use Rattle.type_check.specs.WellTyped.{Surroundings, within_loop, EachSpeaks, MakesOf, operation_ty, part_ty, unit}
use Rattle.mir_ir.specs.declared.terminator.TerminatorKind.TheVariants.{Goto}
use Rattle.mir_build.specs.Text.{Line, Leaves, made}
use Rattle.mir_build.specs.Lowering.{Around, Formula, accepted, whole, part_place, looping, binds, moved, ends, dies, dies_in, die_from, puts, puts_at, put_unit, made_by, test, fork, split, met, calls, turning, spinning, circling, IntoBody}
use Rattle.mir_build.proofs.LawNames.{head_fits}
use Rattle.mir_build.proofs.LawTyped.{operation_has, operation_runs, signed, runs_more, runs_at, is_local, AreTyped, typed-append, MadeFits, made_first, made_rest, made_left, made_right, ScopeFits, scope_at, scope_more, scope_length, scope_holds, scope_has}
use Rattle.mir_build.proofs.LawLists.{Has, here, there}
use Rattle.mir_build.proofs.Jumps.{deaths, first_dies_last, has_drop}
use Rattle.mir_build.proofs.TypedShapes.{Takes, of_number, of_bool, of_unit, of_copy, of_minus, of_not, of_widening, of_operation, Asked, truth_asked, number_asked, KeepsTyped, of_typed_body}
use Rattle.mir_build.proofs.PartSorts.{leads_further, made_sort, part_sort}
use Rattle.mir_build.proofs.PlainTyping.{IsPlainlyTyped}

-- the body of a callee has the types of its signature
pub record Callee (bodies : Bodies) (n : ℕ) (g : Signature) : Type 0 where
  pub body : Body
  pub is_body : slice_get bodies.bodies n ≡ Some body
  pub ground : body.types ≡ []
  pub params : take body.params (drop 1 body.locals) ≡ g.params
  pub answer : slice_get body.locals 0 ≡ Some g.answer

-- the types of the variables in scope
pub record Known (ds : List AdtDecl) (b : Body) (c : Around) (Γ : List Ty) : Type 0 where
  pub scope : ScopeFits b c.scope Γ
  pub types_run : AllRun ds Γ

-- the types of temporaries run
abbrev pub EachRuns : List AdtDecl → List (ℕ × Ty) → Type 0
EachRuns ds [] = Unit {0}
EachRuns ds (x ∷ ts) = Runs ds x.1 × EachRuns ds ts

-- the temporaries are locals of their types
abbrev pub EachAt : Body → List (ℕ × Ty) → Type 0
EachAt b [] = Unit {0}
EachAt b (x ∷ ts) = (slice_get b.locals x.0 ≡ Some x.1) × EachAt b ts

-- the text writes a typed value of a type that runs
pub record WritesTyped (ds : List AdtDecl) (bodies : Bodies) (b : Body) (c : Around) (Γ : List Ty) (ts : List (ℕ × Ty)) (d : ℕ) (T : Ty) (xs : List Line) : Type 0 where
  pub runs : AllRun ds Γ → EachRuns ds ts → Runs ds T
  pub typed : Known ds b c Γ → EachRuns ds ts → EachAt b ts → slice_get b.locals d ≡ Some T → MadeFits b (made xs) → AreTyped ds bodies b xs

abbrev pub NamesTyped : List AdtDecl → Bodies → Body → Around → List Ty → Place → Ty → List Line → Type 0
NamesTyped ds bodies b c Γ p T xs = Known ds b c Γ → MadeFits b (made xs) → AreTyped ds bodies b xs × PlaceHas b p T

abbrev pub PartsTyped : List AdtDecl → Bodies → Body → Around → List Ty → Place → Ty → List Line → Type 0
PartsTyped ds bodies b c Γ p T xs = Known ds b c Γ → MadeFits b (made xs) → AreTyped ds bodies b xs × PartHas (theory_in bodies) b p T

abbrev pub PassesTyped : List AdtDecl → Bodies → Body → Around → List Ty → List ℕ → List Ty → List Line → Type 0
PassesTyped ds bodies b c Γ ts Ts xs = Known ds b c Γ → MadeFits b (made xs) → AreTyped ds bodies b xs × OperandsHave b (map moved ts) Ts

-- where the place has a type that runs, the text writes a typed value of one
pub record AsksTyped (ds : List AdtDecl) (bodies : Bodies) (b : Body) (c : Around) (Γ : List Ty) (p : Place) (T : Ty) (to : Option Label) (d : ℕ) (U : Ty) (xs : List Line) : Type 0 where
  pub runs : AllRun ds Γ → Runs ds T → Runs ds U
  pub typed : Known ds b c Γ → Runs ds T → PlaceHas b p T → slice_get b.locals d ≡ Some U → MadeFits b (made xs) → AreTyped ds bodies b xs

module _ (σ : Surroundings) (bodies : Bodies) (decls : bodies.decls ≡ σ.types) (b : Body) (callees : (n : ℕ) (g : Signature) → slice_get σ.signatures n ≡ Some g → Callee bodies n g)
    (answers : (n : ℕ) (g : Signature) → slice_get σ.signatures n ≡ Some g → Runs σ.types g.answer) (own_answer : slice_get b.locals 0 ≡ Some σ.answer) where
  -- local x has the type
  abbrev At : ℕ → Ty → Type 0
  At x t = slice_get b.locals x ≡ Some t

  abbrev Writes : Around → List Ty → List (ℕ × Ty) → ℕ → Ty → List Line → Type 0
  Writes c Γ ts d T xs = WritesTyped σ.types bodies b c Γ ts d T xs

  at_type : (x : ℕ) (t u : Ty) → At x t → t ≡ u → At x u
  at_type x t u h e = h ∙ ap Some e

  inner : (c : Around) (Γ : List Ty) (head after : Label) → Known σ.types b c Γ → Known σ.types b (looping c head after) Γ
  inner c Γ head after k = record { scope = k.scope; types_run = k.types_run }

  one_more : (c : Around) (Γ : List Ty) (t : ℕ) (T : Ty) → Known σ.types b c Γ → At t T → Runs σ.types T → Known σ.types b (binds c t) (Γ ++ T ∷ [])
  one_more c Γ t T k h g = record { scope = scope_more b c.scope Γ (whole t) T k.scope (refl, h); types_run = runs_more σ.types Γ T k.types_run g }

  is_unit : (T : Ty) → T ≡ unit → Runs σ.types T
  is_unit T e = subst (Runs σ.types) (sym e) (unit_runs σ.types)

  part_has : (p : Place) (U : Ty) (n : ℕ) (T : Ty) → part_ty σ.types U n ≡ Some T → PartHas (theory_in bodies) b p U → PartHas (theory_in bodies) b (part_place p n) T
  part_has p U n T e h = (h.0, h.1, leads_further (theory_in bodies) h.0 p.path U n T h.2 (subst (λ (ds : List AdtDecl). FieldSort (record { adts = ds }) U n T) (sym decls) (part_sort σ.types U n T e)))

  made_has : (k : Ctor) (Ts : List Ty) (T : Ty) → MakesOf σ.types k (tys_of Ts) T → MadeSort (theory_in bodies) k (tys_of Ts) T
  made_has k Ts T h = subst (λ (ds : List AdtDecl). MadeSort (record { adts = ds }) k (tys_of Ts) T) (sym decls) (made_sort σ.types k (tys_of Ts) T h)

  -- ---- the shapes

  value_runs : (c : Around) (Γ : List Ty) (ts : List (ℕ × Ty)) (r : Rvalue) (T : Ty) → Takes c Γ ts r T → AllRun σ.types Γ → Runs σ.types T
  value_runs c Γ ts r T (of_number {k = k} h) g = subst (Runs σ.types) (sym h.0) (int_runs σ.types k)
  value_runs c Γ ts r T (of_bool h) g = subst (Runs σ.types) (sym h) (bool_runs σ.types)
  value_runs c Γ ts r T (of_unit h) g = is_unit T h
  value_runs c Γ ts r T (of_copy v p q h) g = runs_at σ.types Γ v T g h
  value_runs c Γ ts r T (of_minus i h g' e) g = subst (Runs σ.types) (sym g') (int_runs σ.types i)
  value_runs c Γ ts r T (of_not h e) g = subst (Runs σ.types) (sym h) (bool_runs σ.types)
  value_runs c Γ ts r T (of_widening j k h g' e) g = subst (Runs σ.types) (sym g') (int_runs σ.types k)
  value_runs c Γ ts r T (of_operation {op = op} {T = U} h e) g = operation_runs σ.types op U T h

  value_typed : (c : Around) (Γ : List Ty) (ts : List (ℕ × Ty)) (r : Rvalue) (T : Ty) → Takes c Γ ts r T → Known σ.types b c Γ → EachAt b ts → RvalueHas bodies b r T
  value_typed c Γ ts r T (of_number h) k a = h
  value_typed c Γ ts r T (of_bool h) k a = h
  value_typed c Γ ts r T (of_unit h) k a = ([], tt, h)
  value_typed c Γ ts r T (of_copy v p q h) k a = whole_part (theory_in bodies) b p T (scope_at b c.scope Γ v p T k.scope q h)
  value_typed c Γ ts r T (of_minus {t = t} i h e q) k a = (i, signed i h, (refl, at_type t _ _ a.0 q), e)
  value_typed c Γ ts r T (of_not {t = t} h q) k a = ((refl, at_type t _ _ a.0 q), h)
  value_typed c Γ ts r T (of_widening {t = t} j i h e q) k a = (j, h, (refl, at_type t _ _ a.0 q), e)
  value_typed c Γ ts r T (of_operation {u = u} {op = op} {T = U} h e) k a = (U, (refl, a.1.0), (refl, at_type u _ _ a.0 e), operation_has op U T h)

  typed_dies : (outer : Bool) (s : Span) (t : ℕ) (T : Ty) → At t T → AreTyped σ.types bodies b (dies_in outer s t)
  typed_dies true s t T h = tt
  typed_dies false s t T h = ((T, h), tt)

  unit_typed : (T : Ty) (d : ℕ) (s : Span) → T ≡ unit → At d T → AreTyped σ.types bodies b (put_unit s d ∷ [])
  unit_typed T d s e a = ((T, (refl, a), ([], tt, e)), tt)

  then_made : (t : ℕ) (T : Ty) (xs ys : List Line) → Runs σ.types T → (At t T → MadeFits b (made xs) → AreTyped σ.types bodies b xs) → (At t T → MadeFits b (made ys) → AreTyped σ.types bodies b ys)
      → MadeFits b (made (made_by t T xs ++ ys)) → AreTyped σ.types bodies b (made_by t T xs ++ ys)
  then_made t T xs ys g p q m =
      let at_t = made_first b t _ _ m in
      let rest = made_rest b t _ _ m in
      (g, typed-append σ.types bodies b xs ys (p at_t (made_left b xs ys rest)) (q at_t (made_right b xs ys rest)))

  typed_test : (c : Around) (s : Span) (t : ℕ) (yes' no' after : Label) (ys zs : List Line) → At t bool → (MadeFits b (made ys) → AreTyped σ.types bodies b ys) → (MadeFits b (made zs) → AreTyped σ.types bodies b zs)
      → MadeFits b (made (test c s t yes' no' after ys zs)) → AreTyped σ.types bodies b (test c s t yes' no' after ys zs)
  typed_test c s t yes' no' after ys zs h p q m =
      ((refl, h), tt, typed-append σ.types bodies b ys _ (p (made_left b ys _ m)) (tt, tt, typed-append σ.types bodies b zs _ (q (made_left b zs _ (made_right b ys _ m))) (tt, tt, tt)))

  typed_fork : (c : Around) (s : Span) (t : ℕ) (yes' no' : Label) (ys zs : List Line) → At t bool → (MadeFits b (made ys) → AreTyped σ.types bodies b ys) → (MadeFits b (made zs) → AreTyped σ.types bodies b zs)
      → MadeFits b (made (fork c s t yes' no' ys zs)) → AreTyped σ.types bodies b (fork c s t yes' no' ys zs)
  typed_fork c s t yes' no' ys zs h p q m = ((refl, h), tt, typed-append σ.types bodies b ys _ (p (made_left b ys _ m)) (tt, tt, q (made_right b ys _ m)))

  abbrev Asks : Around → List Ty → Place → Ty → Option Label → ℕ → Ty → List Line → Type 0
  Asks c Γ p T to d U xs = AsksTyped σ.types bodies b c Γ p T to d U xs

  asked_typed : (T : Ty) (p : Place) (r : Rvalue) → Asked T p r → PlaceHas b p T → RvalueHas bodies b r bool
  asked_typed T p r (truth_asked e) w = whole_part (theory_in bodies) b p bool (subst (PlaceHas b p) e w)
  asked_typed T p r (number_asked k e f) w = (T, w, (e, f), operation_has Eq T bool (ap (operation_ty Eq) e))

  typed_asked : (c : Around) (Γ : List Ty) (s : Span) (p : Place) (T : Ty) (to : Option Label) (u : ℕ) (r : Rvalue) (yes' no' : Label) (d : ℕ) (U : Ty) (xs ys : List Line) → Asked T p r → Asks c Γ p T to d U xs → Asks c Γ p T to d U ys
      → Asks c Γ p T to d U (made_by u bool (puts s u r ∷ []) ++ split c s u yes' no' to xs ys)
  typed_asked c Γ s p T to u r yes' no' d U xs ys e q q' = record {
    runs = q.runs;
    typed = λ k g w a m.
        let at_u = made_first b u _ _ m in
        let rest = made_rest b u _ _ m in (
          bool_runs σ.types,
          (
            (bool, (refl, at_u), asked_typed T p r e w),
            ((refl, at_u), tt, typed-append σ.types bodies b xs _ (q.typed k g w a (made_left b xs _ rest)) (tt, tt, q'.typed k g w a (made_right b xs _ rest))),
          ),
        );
  }

  typed_met : (c : Around) (s : Span) (to : Option Label) → AreTyped σ.types bodies b (met c s to)
  typed_met c s None = tt
  typed_met c s (Some l) = (tt, tt, tt)

  typed_turning : (c : Around) (Γ : List Ty) (s : Span) (head body after : Label) (fs : List Formula) (t : ℕ) (T : Ty) (xs : List Line) (u : ℕ) (U : Ty) (ys : List Line) (d : ℕ) (V : Ty) → T ≡ bool → V ≡ unit → EachSpeaks (length Γ) (map accepted fs)
      → Writes (looping c head after) Γ [] t T xs → Writes (looping c head after) Γ [] u U ys → Known σ.types b c Γ → At d V → MadeFits b (made (turning c s head body after fs t T xs u U ys (put_unit s d ∷ [])))
      → AreTyped σ.types bodies b (turning c s head body after fs t T xs u U ys (put_unit s d ∷ []))
  typed_turning c Γ s head body after fs t T xs u U ys d V e v h p q k a m =
      let inside = inner c Γ head after k in (
        tt,
        head_fits (is_local b) c (length Γ) (map accepted fs) fs refl (scope_length b c.scope Γ k.scope) (scope_holds b c.scope Γ k.scope) h,
        then_made t T xs _ (p.runs k.types_run tt) (p.typed inside tt tt) (λ at_t n. (
          (refl, at_type t _ _ at_t e),
          tt,
          then_made u U ys _ (q.runs k.types_run tt) (q.typed inside tt tt) (λ at_u l. (tt, tt, unit_typed V d s v a)) n,
        )) m,
      )

  typed_circling : (c : Around) (Γ : List Ty) (s : Span) (head : Label) (fs : List Formula) (u : ℕ) (U : Ty) (ys : List Line) → EachSpeaks (length Γ) (map accepted fs) → Writes (looping c head head) Γ [] u U ys → Known σ.types b c Γ
      → MadeFits b (made (circling c s head fs u U ys)) → AreTyped σ.types bodies b (circling c s head fs u U ys)
  typed_circling c Γ s head fs u U ys h q k m =
      let rest = made_rest b u _ _ m in (
        tt,
        head_fits (is_local b) c (length Γ) (map accepted fs) fs refl (scope_length b c.scope Γ k.scope) (scope_holds b c.scope Γ k.scope) h,
        (q.runs k.types_run tt, typed-append σ.types bodies b ys _ (q.typed (inner c Γ head head k) tt tt (made_first b u _ _ m) (made_left b ys _ rest)) (tt, tt)),
      )

  typed_spinning : (c : Around) (Γ : List Ty) (s : Span) (head after : Label) (fs : List Formula) (u : ℕ) (U : Ty) (ys : List Line) (d : ℕ) (V : Ty) → V ≡ unit → EachSpeaks (length Γ) (map accepted fs)
      → Writes (looping c head after) Γ [] u U ys → Known σ.types b c Γ → At d V → MadeFits b (made (spinning c s head after fs u U ys (put_unit s d ∷ []))) → AreTyped σ.types bodies b (spinning c s head after fs u U ys (put_unit s d ∷ []))
  typed_spinning c Γ s head after fs u U ys d V v h q k a m = (
    tt,
    head_fits (is_local b) c (length Γ) (map accepted fs) fs refl (scope_length b c.scope Γ k.scope) (scope_holds b c.scope Γ k.scope) h,
    then_made u U ys _ (q.runs k.types_run tt) (q.typed (inner c Γ head after k) tt tt) (λ at_u l. (tt, tt, unit_typed V d s v a)) m,
  )

  typed_deaths : (s : Span) (ps : List Place) → ((p : Place) → Has p ps → (T : Ty) × At p.local T) → AreTyped σ.types bodies b (deaths s ps)
  typed_deaths s [] h = tt
  typed_deaths s (p ∷ ps) h =
      subst (AreTyped σ.types bodies b) (sym (first_dies_last s p ps)) (typed-append σ.types bodies b (deaths s ps) (dies s p.local ∷ []) (typed_deaths s ps (λ q k. h q (there k))) (h p here, tt))

  -- what is bound inside of a loop ends, and an edge leads on
  typed_jump : (c : Around) (Γ : List Ty) (s : Span) (depth : ℕ) (to : Label) → Known σ.types b c Γ → AreTyped σ.types bodies b (die_from s depth c.scope ++ Leaves (ends s (Goto to)) ∷ [])
  typed_jump c Γ s depth to k =
      typed-append σ.types bodies b (die_from s depth c.scope) (Leaves (ends s (Goto to)) ∷ []) (typed_deaths s (drop depth c.scope) (λ p h. scope_has b c.scope Γ k.scope p (has_drop depth c.scope h))) (tt, tt)

  typed_call : (c : Around) (Γ : List Ty) (s : Span) (f : ℕ) (g : Signature) (ts : List ℕ) (after : Label) (d : ℕ) (T : Ty) (xs : List Line) → slice_get σ.signatures f ≡ Some g → T ≡ g.answer → PassesTyped σ.types bodies b c Γ ts g.params xs
      → Known σ.types b c Γ → At d T → MadeFits b (made (xs ++ calls c s f d ts after ∷ [])) → AreTyped σ.types bodies b (xs ++ calls c s f d ts after ∷ [])
  typed_call c Γ s f g ts after d T xs e q p k a m =
      let w = callees f g e in
      let v = p k (made_left b xs _ m) in
      typed-append σ.types bodies b xs _ v.0
      ((w.body, T, w.is_body, subst (OperandsHave b (map moved ts)) (sym w.params) v.1, w.answer ∙ ap Some (sym q), (refl, a), sym (ap length w.ground)), tt, tt)

  typed_updated : (c : Around) (Γ : List Ty) (s : Span) (op : BinaryOp) (t u : ℕ) (T : Ty) (p : Place) (U : Ty) (d : ℕ) (V : Ty) (xs : List Line) → operation_ty op T ≡ Some T → T ≡ U → V ≡ unit → NamesTyped σ.types bodies b c Γ p U xs
      → Known σ.types b c Γ → Runs σ.types T → At t T → At d V → MadeFits b (made (xs ++ (made_by u T (puts s u (Binary op (Copy p) (moved t)) ∷ []) ++ puts_at s p (Use (moved u)) ∷ put_unit s d ∷ [])))
      → AreTyped σ.types bodies b (xs ++ (made_by u T (puts s u (Binary op (Copy p) (moved t)) ∷ []) ++ puts_at s p (Use (moved u)) ∷ put_unit s d ∷ []))
  typed_updated c Γ s op t u T p U d V xs h e v q k g at_t a m =
      let w = q k (made_left b xs _ m) in
      let at_u = made_first b u _ _ (made_right b xs _ m) in
      typed-append σ.types bodies b xs _ w.0 (
        g,
        (
          (T, (refl, at_u), (T, subst (PlaceHas b p) (sym e) w.1, (refl, at_t), operation_has op T T h)),
          ((U, w.1, (refl, at_type u _ _ at_u e)), unit_typed V d s v a),
        ),
      )

  keeps_typed : KeepsTyped σ Writes (NamesTyped σ.types bodies b) (PartsTyped σ.types bodies b) (PassesTyped σ.types bodies b) Asks
  keeps_typed = record {
    put = λ c Γ ts s d r T h. record { runs = λ g ts'. value_runs c Γ ts r T h g; typed = λ k g at a m. ((T, (refl, a), value_typed c Γ ts r T h k at), tt) };
    made = λ c Γ ts t T xs d U ys p q. record {
      runs = λ g h. q.runs g (p.runs g tt, h);
      typed = λ k g at a m. let h = p.runs k.types_run tt in then_made t T xs ys h (p.typed k tt tt) (λ at_t. q.typed k (h, g) (at_t, at) a) m;
    };
    left = λ c Γ t T d U xs p. record { runs = λ g h. p.runs g tt; typed = λ k g at a m. p.typed k tt tt a m };
    leaving = λ c Γ t T d U xs p q. record { runs = q.runs; typed = λ k g at a m. (p.runs k.types_run tt, q.typed k tt tt a (made_rest b t T (made xs) m)) };
    panicked = λ c Γ s k d T h. record { runs = λ g ts. h; typed = λ k g at a m. (tt, tt) };
    returned = λ c Γ s xs d T h p. record { runs = λ g ts. h; typed = λ k g at a m. typed-append σ.types bodies b xs _ (p.typed k tt tt own_answer (made_left b xs _ m)) (tt, tt) };
    circled = λ c Γ s head fs u U ys d T h f q. record { runs = λ g ts. h; typed = λ k g at a m. typed_circling c Γ s head fs u U ys f q k m };
    broken = λ c Γ s l d T h e. record { runs = λ g ts. h; typed = λ k g at a m. typed_jump c Γ s l.depth l.after k };
    gone_on = λ c Γ s l d T h e. record { runs = λ g ts. h; typed = λ k g at a m. typed_jump c Γ s l.depth l.head k };
    spun = λ c Γ s head after fs u U ys d V v h q. record { runs = λ g ts. is_unit V v; typed = λ k g at a m. typed_spinning c Γ s head after fs u U ys d V v h q k a m };
    bound = λ outer c Γ s t T d U xs p. record {
      runs = λ g h. p.runs (runs_more σ.types Γ T g h.0) tt;
      typed = λ k g at a m. typed-append σ.types bodies b xs _ (p.typed (one_more c Γ t T k at.0 g.0) tt tt a (made_left b xs _ m)) (typed_dies outer s t T at.0);
    };
    tested = λ c Γ s t T yes' no' after d U xs ys e p q. record {
      runs = λ g h. p.runs g tt;
      typed = λ k g at a m. typed_test c s t yes' no' after xs ys (at_type t _ _ at.0 e) (p.typed k tt tt a) (q.typed k tt tt a) m;
    };
    forked = λ c Γ s t T yes' no' d U xs ys e p q. record {
      runs = λ g h. p.runs g tt;
      typed = λ k g at a m. typed_fork c s t yes' no' xs ys (at_type t _ _ at.0 e) (p.typed k tt tt a) (q.typed k tt tt a) m;
    };
    armed = λ c Γ p T to d U xs q. record { runs = λ g h. q.runs g tt; typed = λ k g w a m. q.typed k tt tt a m };
    named_there = λ c Γ s p T to x d U xs q. record {
      runs = λ g h. q.runs g (h, tt);
      typed = λ k g w a m. let at_x = made_first b x _ _ m in (g, ((T, (refl, at_x), whole_part (theory_in bodies) b p T w), q.typed k (g, tt) (at_x, tt) a (made_rest b x _ _ m)));
    };
    asked = typed_asked;
    matched = λ c Γ s p T to d U xs ys g n q. record {
      runs = λ h ts. q.runs h g;
      typed = λ k ts at a m.
          let w = n k (made_left b xs _ m) in
          typed-append σ.types bodies b xs _ w.0 (typed-append σ.types bodies b ys _ (q.typed k g w.1 a (made_left b ys _ (made_right b xs _ m))) (typed_met c s to));
    };
    turned = λ c Γ s head body after fs t T xs u U ys d V e v h p q. record { runs = λ g ts. is_unit V v; typed = λ k g at a m. typed_turning c Γ s head body after fs t T xs u U ys d V e v h p q k a m };
    named = λ c Γ v p T q h k m. (tt, scope_at b c.scope Γ v p T k.scope q h);
    temporary = λ c Γ t T xs p k m. let at_t = made_first b t _ _ m in ((p.runs k.types_run tt, p.typed k tt tt at_t (made_rest b t _ _ m)), (refl, at_t));
    assigned = λ c Γ s t T p U d V xs e v q. record {
      runs = λ g ts. is_unit V v;
      typed = λ k g at a m. let w = q k (made_left b xs _ m) in typed-append σ.types bodies b xs _ w.0 ((U, w.1, (refl, at_type t _ _ at.0 e)), unit_typed V d s v a);
    };
    updated = λ c Γ s op t u T p U d V xs h e v q. record { runs = λ g ts. is_unit V v; typed = λ k g at a m. typed_updated c Γ s op t u T p U d V xs h e v q k g.0 at.0 a m };
    rooted = λ c Γ p T xs q k m. let w = q k m in (w.0, whole_part (theory_in bodies) b p T w.1);
    further = λ c Γ p U n T xs e q k m. let w = q k m in (w.0, part_has p U n T e w.1);
    taken = λ c Γ s p d T xs h q. record { runs = λ g ts. h; typed = λ k g at a m. let w = q k (made_left b xs _ m) in typed-append σ.types bodies b xs _ w.0 ((T, (refl, a), w.1), tt) };
    no_arguments = λ c Γ k m. (tt, tt);
    argument = λ c Γ t T U xs ts Ts ys e p q k m.
        let at_t = made_first b t _ _ m in
        let rest = made_rest b t _ _ m in
        let w = q k (made_right b xs ys rest) in
        ((p.runs k.types_run tt, typed-append σ.types bodies b xs ys (p.typed k tt tt at_t (made_left b xs ys rest)) w.0), ((refl, at_type t _ _ at_t e), w.1));
    constructed = λ c Γ s n ts Ts d T xs h e p. record { runs = λ g us. h; typed = λ k g at a m. let w = p k (made_left b xs _ m) in typed-append σ.types bodies b xs _ w.0 ((T, (refl, a), (Ts, w.1, made_has n Ts T e)), tt) };
    called = λ c Γ s f g ts after d T xs e q p. record { runs = λ g' ts'. subst (Runs σ.types) (sym q) (answers f g e); typed = λ k g' at a m. typed_call c Γ s f g ts after d T xs e q p k a m };
  }

  pub text_typed : (i : Bool) (c : Around) → c.types ≡ σ.types → (e : TypedExpr) (xs : List Line) → IntoBody c e xs → (Γ : List Ty) → Known σ.types b c Γ → IsPlainlyTyped (within_loop i σ) Γ e → At 0 (ty_of e) → MadeFits b (made xs) → AreTyped σ.types bodies b xs
  text_typed i c o e xs p Γ k h a m = (of_typed_body σ Writes (NamesTyped σ.types bodies b) (PartsTyped σ.types bodies b) (PassesTyped σ.types bodies b) Asks keeps_typed i c o e xs p Γ h).typed k tt tt a m
