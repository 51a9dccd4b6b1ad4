-- The arms of a match fit: each is of the type that is asked, or leaves.
use Rattle.std.proofs.Common.{◌≡◌, ◌∙◌, ◌||◌, ◌⊎◌, inl, inr, length, Bool, true, false, List, [], ◌∷◌, ◌++◌, map, Option, Some, None, Result, Ok, refl, ap, sym, subst, append-nil}
use Rattle.std.specs.Prelude.{if◌then◌else◌}
use Rattle.text_core.specs.declared.refusal.SourceError.{SourceError}
use Rattle.text_core.specs.declared.span.Span.{Span}
use Rattle.logic_term.specs.declared.declaration.AdtDecl.{AdtDecl}
use Rattle.logic_term.specs.declared.pattern.BindingKind.TheVariants.{Value}
use Rattle.logic_term.specs.Pattern.{wild}
use Rattle.logic_term.specs.Ty.{Ty}
use Rattle.source_trees.specs.Pat.{Pat as Written}
use Rattle.pat_types.specs.declared.names.BoundName.{BoundName}
use Rattle.pat_types.specs.PatternTyping.{pattern_typed}
use Rattle.pat_types.proofs.Alone.{names_alone}
use Rattle.pat_types.proofs.Fitting.{fits}
use Rattle.pat_types.proofs.Listed.{lists}
use Rattle.type_check.specs.declared.scope.Variable.{Variable}
use Rattle.type_check.specs.Answers.{absent}
use Rattle.type_check.specs.Arms.{Binding, TypedArm, arm_of, arm_from, variable_of, in_arm, unbuilt_name, with_built_names, pattern_at, and_arm, or_else_arm}
use Rattle.type_check.specs.declared.assertion.Assertion.{Assertion}
use Rattle.type_check.specs.Breaks.{breaks}
use Rattle.type_check.specs.Leaves.{leaves}
use Rattle.type_check.specs.Setting.{Setting, looping, outside}
use Rattle.type_check.specs.TypedExpr.{TypedExpr, TypedArms}
use Rattle.type_check.specs.TypedExpr as tree
use Rattle.type_check.specs.TypedExprView.{ty_of}
use Rattle.type_check.specs.Types.{is_built}
use Rattle.type_check.specs.Typing.{fit, asked, given, matched, chosen_by, repeated_by, nothing}
use Rattle.type_check.specs.WellTyped.{unit, EachSpeaks, AllBuilt, IsOfOrLeaves, IsWellTyped, ArmsFit, PatternFits, tys_bound}
use Rattle.type_check.proofs.Bound.{bound, same_ok}
use Rattle.type_check.proofs.BuiltTypes.{built_is_built}
use Rattle.type_check.proofs.InLoops.{looped}
use Rattle.type_check.proofs.Lookups.{types, surroundings}
use Rattle.type_check.proofs.Sound.{Meets, Sound, MayAsk, Around, fit_sound, asked_built, given_built}

-- ---- patterns

no_span : (o : Option Span) (z : Unit {0}) → absent o ≡ Ok z → o ≡ None
no_span None z p = refl
no_span (Some s) z p = absurd (cc)

typed_at : (ds : List AdtDecl) (u : Ty) (w : Written) (b : Binding) → pattern_at ds u w ≡ Ok b → (pattern_typed ds w u ≡ Ok b) × (unbuilt_name ds b.1 ≡ None)
unfolding pattern_at
typed_at ds u w b p =
    let a = bound (pattern_typed ds w u) (with_built_names ds) b p in
    let z = bound (absent (unbuilt_name ds a.0.1)) _ b a.2 in
    let same = same_ok a.0 b z.2 in
    (a.1 ∙ ap Ok same, subst (λ (c : Binding). unbuilt_name ds c.1 ≡ None) same (no_span (unbuilt_name ds a.0.1) z.0 z.1))

pub pattern_fits : (ds : List AdtDecl) (u : Ty) (w : Written) (b : Binding) → pattern_at ds u w ≡ Ok b → PatternFits ds u b.0 b.1
pattern_fits ds u w b p =
    let h = (typed_at ds u w b p).0 in
    let l = lists ds Value [] w u b tt h in
    record { matches = fits ds Value [] w u b h; binds = l.binds; distinct = l.distinct; alone = names_alone ds Value w u b h }

-- ---- the scope of an arm

none_of : (k : Bool) (o : Option Span) (s : Span) → (if k then o else Some s) ≡ None → (k ≡ true) × (o ≡ None)
none_of true o s p = (refl, p)
none_of false o s p = absurd (cc)

names_are_built : (ds : List AdtDecl) (xs : List BoundName) → unbuilt_name ds xs ≡ None → AllBuilt (tys_bound xs)
names_are_built ds [] p = tt
names_are_built ds (x ∷ xs) p = let c = none_of (is_built ds x.ty) (unbuilt_name ds xs) x.span p in (built_is_built ds x.ty c.0, names_are_built ds xs c.1)

types_bound : (xs : List BoundName) → types (map variable_of xs) ≡ tys_bound xs
types_bound [] = refl
types_bound (x ∷ xs) = ap (λ ts. x.ty ∷ ts) (types_bound xs)

types_in_arm : (Γ : List Variable) (xs : List BoundName) → types (in_arm Γ xs) ≡ types Γ ++ tys_bound xs
types_in_arm [] xs = types_bound xs
types_in_arm (v ∷ Γ) xs = ap (λ ts. v.ty ∷ ts) (types_in_arm Γ xs)

all_built : (ts us : List Ty) → AllBuilt ts → AllBuilt us → AllBuilt (ts ++ us)
all_built [] us h k = k
all_built (t ∷ ts) us h k = (h.0, all_built ts us h.1 k)

pub names_built : (σ : Setting) (Γ : List Variable) (u : Ty) (w : Written) (b : Binding) → Around σ Γ → pattern_at σ.types u w ≡ Ok b → Around σ (in_arm Γ b.1)
names_built σ Γ u w b h p = record {
  functions = h.functions;
  variables = subst AllBuilt (sym (types_in_arm Γ b.1)) (all_built (types Γ) (tys_bound b.1) h.variables (names_are_built σ.types b.1 (typed_at σ.types u w b p).1));
  answer = h.answer;
}

-- ---- arms

-- an arm of which t was asked
pub record Meeting (σ : Setting) (Γ : List Variable) (u : Ty) (t : Option Ty) (x : TypedArm) : Type 0 where
  pub pattern : PatternFits σ.types u x.pattern x.names
  pub body : Sound σ (in_arm Γ x.names) t x.body

-- the type of the first arm that has a value is what is asked behind it
abbrev pub GivesOrLeaves : Option Ty → TypedExpr → Type 0
GivesOrLeaves t e = (t ≡ Some (ty_of e)) ⊎ (leaves e ≡ true)

abbrev pub AllMeet : Setting → List Variable → Ty → Option Ty → TypedArms → Type 0
AllMeet σ Γ u t tree.no_arms = Unit {0}
AllMeet σ Γ u t (tree.with_arm p xs e as') = PatternFits σ.types u p xs × GivesOrLeaves t e × IsWellTyped (surroundings σ) (types Γ ++ tys_bound xs) e × AllMeet σ Γ u t as'

of_asked : (t : Option Ty) (e : TypedExpr) → MayAsk t → GivesOrLeaves t e → IsOfOrLeaves (asked t) e
of_asked t e h g = elim g as (λ _. IsOfOrLeaves (asked t) e) [
  | inl p ↦ inl (sym (ap asked p))
  | inr q ↦ inr (q, asked_built t h)
]

pub arms_fit : (σ : Setting) (Γ : List Variable) (u : Ty) (t : Option Ty) (as' : TypedArms) → MayAsk t → AllMeet σ Γ u t as' → ArmsFit (surroundings σ) (types Γ) u (asked t) as'
arms_fit σ Γ u t tree.no_arms h m = asked_built t h
arms_fit σ Γ u t (tree.with_arm p xs e as') h m = (m.0, of_asked t e h m.1, m.2, arms_fit σ Γ u t as' h m.3)

still : (k : Bool) (t : Option Ty) (y e : TypedExpr) → Meets t y → GivesOrLeaves t e → GivesOrLeaves (if k then t else Some (ty_of y)) e
still true t y e h g = g
still false None y e h g = elim g as (λ _. GivesOrLeaves (Some (ty_of y)) e) [
  | inl p ↦ absurd (cc)
  | inr q ↦ inr q
]
still false (Some v) y e h g = elim g as (λ _. GivesOrLeaves (Some (ty_of y)) e) [
  | inl p ↦ inl (ap Some h ∙ p)
  | inr q ↦ inr q
]

itself : (k : Bool) (t : Option Ty) (y : TypedExpr) → leaves y ≡ k → GivesOrLeaves (if k then t else Some (ty_of y)) y
itself true t y q = inr q
itself false t y q = inl refl

pub arm_meets : (σ : Setting) (Γ : List Variable) (u : Ty) (t : Option Ty) (made : TypedArms) (x : TypedArm) → AllMeet σ Γ u t made → Meeting σ Γ u t x → AllMeet σ Γ u (given t x.body) (and_arm made x)
arm_meets σ Γ u t tree.no_arms x h m = (m.pattern, itself (leaves x.body) t x.body refl, subst (λ ts. IsWellTyped (surroundings σ) ts x.body) (types_in_arm Γ x.names) m.body.well, tt)
arm_meets σ Γ u t (tree.with_arm p xs e as') x h m = (h.0, still (leaves x.body) t x.body e m.body.meets h.1, h.2, arm_meets σ Γ u t as' x h.3 m)

pub arm_sound : (σ : Setting) (Γ : List Variable) (u : Ty) (t : Option Ty) (w : Written) (body : Binding → Result TypedExpr SourceError) (r : TypedArm) → Around σ Γ
    → ((b : Binding) (y : TypedExpr) → Around σ (in_arm Γ b.1) → body b ≡ Ok y → Sound σ (in_arm Γ b.1) t y) → arm_from (pattern_at σ.types u w) body ≡ Ok r → Meeting σ Γ u t r
arm_sound σ Γ u t w body r ho each p =
    let b = bound (pattern_at σ.types u w) _ r p in
    let y = bound (body b.0) _ r b.2 in
    subst (Meeting σ Γ u t) (same_ok (arm_of b.0 y.0) r y.2)
    (record { pattern = pattern_fits σ.types u w b.0 b.1; body = each b.0 y.0 (names_built σ Γ u w b.0 ho b.1) y.1 })

-- ---- wholes

pub matched_sound : (σ : Setting) (Γ : List Variable) (t : Option Ty) (s : Span) (a : TypedExpr) (q : TypedArms × Option Ty) (r : TypedExpr) → IsWellTyped (surroundings σ) (types Γ) a → AllMeet σ Γ (ty_of a) q.1 q.0 → MayAsk q.1 → matched t s a q ≡ Ok r → Sound σ Γ t r
matched_sound σ Γ t s a q r w m h p = fit_sound σ Γ t s (tree.matched (asked q.1) s a q.0) r (w, arms_fit σ Γ (ty_of a) q.1 q.0 h m) (asked_built q.1 h) p

-- anything else
abbrev anything : Ty → TypedExpr → TypedArm
anything u e = record { pattern = wild u; names = []; body = e }

anything_meets : (σ : Setting) (Γ : List Variable) (u : Ty) (t : Option Ty) (e : TypedExpr) → Sound σ Γ t e → Meeting σ Γ u t (anything u e)
anything_meets σ Γ u t e h = record {
  pattern = record { matches = tt; binds = tt; distinct = tt; alone = refl };
  body = subst (λ Δ. Sound σ Δ t e) (sym (append-nil Γ)) h;
}

either_meets : (σ : Setting) (Γ : List Variable) (u : Ty) (t : Option Ty) (x : TypedArm) (z : TypedExpr) → Meeting σ Γ u t x → Sound σ Γ (given t x.body) z → AllMeet σ Γ u (given (given t x.body) z) (or_else_arm u x z)
either_meets σ Γ u t x z m h = arm_meets σ Γ u (given t x.body) (and_arm tree.no_arms x) (anything u z) (arm_meets σ Γ u t tree.no_arms x tt m) (anything_meets σ Γ u (given t x.body) z h)

pub chosen_sound : (σ : Setting) (Γ : List Variable) (t : Option Ty) (s : Span) (a : TypedExpr) (x : TypedArm) (z r : TypedExpr) → MayAsk t → IsWellTyped (surroundings σ) (types Γ) a → Meeting σ Γ (ty_of a) t x → Sound σ Γ (given t x.body) z
    → chosen_by t s a x z ≡ Ok r → Sound σ Γ t r
chosen_sound σ Γ t s a x z r h w m sz p =
    let first : MayAsk (given t x.body) = given_built (leaves x.body) t (ty_of x.body) h m.body.built in
    matched_sound σ Γ t s a (or_else_arm (ty_of a) x z, given (given t x.body) z) r w (either_meets σ Γ (ty_of a) t x z m sz) (given_built (leaves z) (given t x.body) (ty_of z) first sz.built) p

nothing_meets : (k : Bool) (y : TypedExpr) (s : Span) → Meets (Some unit) y → Meets (if k then Some unit else Some (ty_of y)) (nothing s)
nothing_meets true y s h = refl
nothing_meets false y s h = sym h

pub branched_sound : (σ : Setting) (Γ : List Variable) (t : Option Ty) (s : Span) (a : TypedExpr) (x : TypedArm) (r : TypedExpr) → IsWellTyped (surroundings σ) (types Γ) a → Meeting σ Γ (ty_of a) (Some unit) x
    → fit t s (tree.matched unit s a (or_else_arm (ty_of a) x (nothing s))) ≡ Ok r → Sound σ Γ t r
branched_sound σ Γ t s a x r w m p =
    let other : Sound σ Γ (given (Some unit) x.body) (nothing s) = record { well = refl; meets = nothing_meets (leaves x.body) x.body s m.body.meets; built = tt } in
    fit_sound σ Γ t s (tree.matched unit s a (or_else_arm (ty_of a) x (nothing s))) r
    (w, arms_fit σ Γ (ty_of a) (Some unit) (or_else_arm (ty_of a) x (nothing s)) tt (either_meets σ Γ (ty_of a) (Some unit) x (nothing s) m other)) tt p

-- ---- `while let`

other_is_unit : (k : Bool) (y : TypedExpr) → Meets (Some unit) y → asked (if k then Some unit else Some (ty_of y)) ≡ unit
other_is_unit true y h = refl
other_is_unit false y h = h

leaving_meets : (k : Bool) (y : TypedExpr) (s : Span) → Meets (Some unit) y → Meets (if k then Some unit else Some (ty_of y)) (tree.break_off unit s)
leaving_meets true y s h = refl
leaving_meets false y s h = sym h

or_at_last : (a b : Bool) → (a || (b || true)) ≡ true
or_at_last true b = refl
or_at_last false true = refl
or_at_last false false = refl

pub repeated_sound : (σ : Setting) (Γ : List Variable) (t : Option Ty) (s : Span) (is : List Assertion) (a : TypedExpr) (x : TypedArm) (r : TypedExpr) → EachSpeaks (length (types Γ)) is
    → IsWellTyped (surroundings (outside σ)) (types Γ) a → Meeting (looping σ) Γ (ty_of a) (Some unit) x → fit t s (repeated_by s is a x) ≡ Ok r → Sound σ Γ t r
repeated_sound σ Γ t s is a x r speaks w m p =
    let off = tree.break_off unit s in
    let other : Sound (looping σ) Γ (given (Some unit) x.body) off = record { well = (tt, refl); meets = leaving_meets (leaves x.body) x.body s m.body.meets; built = tt } in
    let asks : MayAsk (given (Some unit) x.body) = given_built (leaves x.body) (Some unit) (ty_of x.body) tt m.body.built in
    let arms = arms_fit (looping σ) Γ (ty_of a) (given (Some unit) x.body) (or_else_arm (ty_of a) x off) asks (either_meets (looping σ) Γ (ty_of a) (Some unit) x off m other) in
    let fitting = subst (λ u. ArmsFit (surroundings (looping σ)) (types Γ) (ty_of a) u (or_else_arm (ty_of a) x off)) (other_is_unit (leaves x.body) x.body m.body.meets) arms in
    fit_sound σ Γ t s (repeated_by s is a x) r (refl, or_at_last (breaks a) (breaks x.body), speaks, refl, (looped (surroundings σ) (types Γ) a w, fitting)) tt p
