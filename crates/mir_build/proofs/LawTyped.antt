-- Texts whose statements and ends are typed.
use Rattle.std.proofs.Common.{◌≡◌, refl, ap, sym, subst, ℕ, zero, suc, Bool, true, false, List, [], ◌∷◌, ◌++◌, length, Some, slice_get, if◌then◌else◌, true≢false}
use Rattle.std.specs.Option.{is_some}
use Rattle.source_kinds.specs.declared.kinds.BinaryOp.{BinaryOp}
use Rattle.source_kinds.specs.declared.kinds.BinaryOp.TheVariants.{Add, Sub, Mul, Div, Rem, Eq, Ne, Lt, Le, Gt, Ge}
use Rattle.source_kinds.specs.declared.kinds.IntKind.{IntKind}
use Rattle.source_kinds.specs.declared.kinds.IntKind.TheVariants.{I8, I16, I32, I64, Isize}
use Rattle.logic_term.specs.declared.declaration.AdtDecl.{AdtDecl}
use Rattle.logic_term.specs.Ty.{Ty, int, bool}
use Rattle.mir_ir.specs.declared.body.Body.{Body}
use Rattle.mir_ir.specs.declared.place.Place.{Place}
use Rattle.mir_ir.specs.declared.terminator.TerminatorKind.{TerminatorKind}
use Rattle.mir_ir.specs.declared.terminator.TerminatorKind.TheVariants.{Goto, If, Switch, Call, Return, Panic}
use Rattle.mir_ir.specs.WellFormed.{IsSigned, PlaceHas, OperandHas, OperationHas, StatementIsTyped, CallIsTyped, Locals}
use Rattle.mir_ir.specs.WellFormed as mir
use Rattle.runnable.specs.Runs.{Runs, AllRun}
use Rattle.runnable.proofs.RunTypes.{int_runs, bool_runs}
use Rattle.type_check.specs.WellTyped.{operation_ty, is_signed}
use Rattle.mir_build.specs.Text.{Line, Puts, Makes, Turns, Leaves, Owns, made}
use Rattle.mir_build.proofs.LawLists.{Has, here, there, has_left, has_right, made-append}
use Rattle.mir_build.proofs.LawNames.{HoldsPlaces, HeadFits}
use Rattle.mir_ir.specs.declared.body.Bodies.{Bodies}
use Rattle.mir_build.proofs.Basics.{some_same}

-- ---- operators

operation_on_ints : (op : BinaryOp) (k : IntKind) (t : Ty) → operation_ty op (int k) ≡ Some t → t ≡ mir.operation_ty op k
operation_on_ints Add k t e = cc
operation_on_ints Sub k t e = cc
operation_on_ints Mul k t e = cc
operation_on_ints Div k t e = cc
operation_on_ints Rem k t e = cc
operation_on_ints Eq k t e = cc
operation_on_ints Ne k t e = cc
operation_on_ints Lt k t e = cc
operation_on_ints Le k t e = cc
operation_on_ints Gt k t e = cc
operation_on_ints Ge k t e = cc

operation_on_bools : (op : BinaryOp) (t : Ty) → operation_ty op bool ≡ Some t → mir.IsEquality op × (t ≡ bool)
operation_on_bools Eq t e = (tt, sym (some_same e))
operation_on_bools Ne t e = (tt, sym (some_same e))
operation_on_bools Add t e = absurd (cc)
operation_on_bools Sub t e = absurd (cc)
operation_on_bools Mul t e = absurd (cc)
operation_on_bools Div t e = absurd (cc)
operation_on_bools Rem t e = absurd (cc)
operation_on_bools Lt t e = absurd (cc)
operation_on_bools Le t e = absurd (cc)
operation_on_bools Gt t e = absurd (cc)
operation_on_bools Ge t e = absurd (cc)

pub operation_has : (op : BinaryOp) (s t : Ty) → operation_ty op s ≡ Some t → OperationHas op s t
operation_has op (int k) t e = operation_on_ints op k t e
operation_has op bool t e = operation_on_bools op t e
operation_has op _ t e = absurd (cc)

pub signed : (k : IntKind) → is_signed k ≡ true → IsSigned k
signed I8 e = tt
signed I16 e = tt
signed I32 e = tt
signed I64 e = tt
signed Isize e = tt
signed _ e = absurd (true≢false (sym e))

-- ---- types that run

module _ (ds : List AdtDecl) where
  -- the type of an operation does
  pub operation_runs : (op : BinaryOp) (s t : Ty) → operation_ty op s ≡ Some t → Runs ds t
  operation_runs op (int k) t e = by_test _ (some_same e)
    where
      by_test : (c : Bool) → (if c then int k else bool) ≡ t → Runs ds t
      by_test true q = subst (Runs ds) q (int_runs ds k)
      by_test false q = subst (Runs ds) q (bool_runs ds)
  operation_runs op bool t e = subst (Runs ds) (sym (operation_on_bools op t e).1) (bool_runs ds)
  operation_runs op _ t e = absurd (cc)

  pub runs_more : (ts : List Ty) (t : Ty) → AllRun ds ts → Runs ds t → AllRun ds (ts ++ t ∷ [])
  runs_more [] t h g = (g, tt)
  runs_more (u ∷ ts) t h g = (h.0, runs_more ts t h.1 g)

  pub runs_at : (ts : List Ty) (i : ℕ) (t : Ty) → AllRun ds ts → slice_get ts i ≡ Some t → Runs ds t
  runs_at [] i t h e = absurd (cc)
  runs_at (u ∷ ts) zero t h e = subst (Runs ds) (some_same e) h.0
  runs_at (u ∷ ts) (suc i) t h e = runs_at ts i t h.1 e

-- ---- what is typed

-- what a block's end owes besides that its labels have blocks. So far nothing lowers to a switch
abbrev pub EndFits : Bodies → Body → TerminatorKind → Type 0
EndFits bodies b (Goto l) = Unit {0}
EndFits bodies b (If o l m) = OperandHas b o bool
EndFits bodies b (Switch p ls) = ⊥
EndFits bodies b (Call p f types os l) = CallIsTyped bodies b p f types os
EndFits bodies b Return = Unit {0}
EndFits bodies b (Panic cause) = Unit {0}

-- the locals of the body
abbrev pub is_local : Body → Locals
is_local b x = is_some (slice_get b.locals x)

-- the statements and ends of the text are typed, and what it makes is of a type that runs
abbrev pub AreTyped : List AdtDecl → Bodies → Body → List Line → Type 0
AreTyped ds bodies b [] = Unit {0}
AreTyped ds bodies b (Puts s ∷ xs) = StatementIsTyped bodies b s.kind × AreTyped ds bodies b xs
AreTyped ds bodies b (Makes x t ∷ xs) = Runs ds t × AreTyped ds bodies b xs
AreTyped ds bodies b (Turns t k ∷ xs) = EndFits bodies b t.kind × HeadFits (is_local b) k.head × AreTyped ds bodies b xs
AreTyped ds bodies b (Leaves t ∷ xs) = EndFits bodies b t.kind × AreTyped ds bodies b xs
AreTyped ds bodies b (Owns l ys ∷ xs) = AreTyped ds bodies b xs

pub typed-append : (ds : List AdtDecl) (bodies : Bodies) (b : Body) (xs ys : List Line) → AreTyped ds bodies b xs → AreTyped ds bodies b ys → AreTyped ds bodies b (xs ++ ys)
typed-append ds bodies b [] ys p q = q
typed-append ds bodies b (Puts s ∷ xs) ys p q = (p.0, typed-append ds bodies b xs ys p.1 q)
typed-append ds bodies b (Makes x t ∷ xs) ys p q = (p.0, typed-append ds bodies b xs ys p.1 q)
typed-append ds bodies b (Turns t k ∷ xs) ys p q = (p.0, p.1, typed-append ds bodies b xs ys p.2 q)
typed-append ds bodies b (Leaves t ∷ xs) ys p q = (p.0, typed-append ds bodies b xs ys p.1 q)
typed-append ds bodies b (Owns l zs ∷ xs) ys p q = typed-append ds bodies b xs ys p q

-- locals with their types
pub record MadeFits (b : Body) (ms : List (ℕ × Ty)) : Type 0 where
  pub fits : (x : ℕ) (t : Ty) → Has (x, t) ms → slice_get b.locals x ≡ Some t

pub made_first : (b : Body) (x : ℕ) (t : Ty) (ms : List (ℕ × Ty)) → MadeFits b ((x, t) ∷ ms) → slice_get b.locals x ≡ Some t
made_first b x t ms m = m.fits x t here

pub made_rest : (b : Body) (x : ℕ) (t : Ty) (ms : List (ℕ × Ty)) → MadeFits b ((x, t) ∷ ms) → MadeFits b ms
made_rest b x t ms m = record { fits = λ y u h. m.fits y u (there h) }

pub made_left : (b : Body) (xs ys : List Line) → MadeFits b (made (xs ++ ys)) → MadeFits b (made xs)
made_left b xs ys m = record { fits = λ y u h. m.fits y u (subst (λ ms. Has (y, u) ms) (sym (made-append xs ys)) (has_left (made xs) (made ys) h)) }

pub made_right : (b : Body) (xs ys : List Line) → MadeFits b (made (xs ++ ys)) → MadeFits b (made ys)
made_right b xs ys m = record { fits = λ y u h. m.fits y u (subst (λ ms. Has (y, u) ms) (sym (made-append xs ys)) (has_right (made xs) (made ys) h)) }

-- ---- scopes

-- the places have the types of the variables, one for each
abbrev pub ScopeFits : Body → List Place → List Ty → Type 0
ScopeFits b [] [] = Unit {0}
ScopeFits b (p ∷ ps) (t ∷ ts) = PlaceHas b p t × ScopeFits b ps ts
ScopeFits b _ _ = ⊥

pub scope_at : (b : Body) (ps : List Place) (ts : List Ty) (v : ℕ) (p : Place) (t : Ty) → ScopeFits b ps ts → slice_get ps v ≡ Some p → slice_get ts v ≡ Some t → PlaceHas b p t
scope_at b [] [] v p t h e f = absurd (cc)
scope_at b [] (u ∷ ts) v p t h e f = absurd h
scope_at b (q ∷ ps) [] v p t h e f = absurd h
scope_at b (q ∷ ps) (u ∷ ts) zero p t h e f = subst (λ x. PlaceHas b x t) (some_same e) (subst (PlaceHas b q) (some_same f) h.0)
scope_at b (q ∷ ps) (u ∷ ts) (suc v) p t h e f = scope_at b ps ts v p t h.1 e f

pub scope_more : (b : Body) (ps : List Place) (ts : List Ty) (p : Place) (t : Ty) → ScopeFits b ps ts → PlaceHas b p t → ScopeFits b (ps ++ p ∷ []) (ts ++ t ∷ [])
scope_more b [] [] p t h e = (e, tt)
scope_more b [] (u ∷ ts) p t h e = absurd h
scope_more b (q ∷ ps) [] p t h e = absurd h
scope_more b (q ∷ ps) (u ∷ ts) p t h e = (h.0, scope_more b ps ts p t h.1 e)

pub scope_length : (b : Body) (ps : List Place) (ts : List Ty) → ScopeFits b ps ts → length ts ≡ length ps
scope_length b [] [] h = refl
scope_length b [] (u ∷ ts) h = absurd h
scope_length b (q ∷ ps) [] h = absurd h
scope_length b (q ∷ ps) (u ∷ ts) h = ap suc (scope_length b ps ts h.1)

-- the type of a place in scope
pub scope_has : (b : Body) (ps : List Place) (ts : List Ty) → ScopeFits b ps ts → (p : Place) → Has p ps → (t : Ty) × (slice_get b.locals p.local ≡ Some t)
scope_has b [] [] h p g = elim g [ ]
scope_has b [] (u ∷ ts) h p g = absurd h
scope_has b (q ∷ ps) [] h p g = absurd h
scope_has b (q ∷ ps) (u ∷ ts) h p here = (u, h.0.1)
scope_has b (q ∷ ps) (u ∷ ts) h p (there g) = scope_has b ps ts h.1 p g

pub scope_holds : (b : Body) (ps : List Place) (ts : List Ty) → ScopeFits b ps ts → HoldsPlaces (is_local b) ps
scope_holds b [] [] h p g = elim g [ ]
scope_holds b [] (u ∷ ts) h p g = absurd h
scope_holds b (q ∷ ps) [] h p g = absurd h
scope_holds b (q ∷ ps) (u ∷ ts) h p here = ap is_some h.0.1
scope_holds b (q ∷ ps) (u ∷ ts) h p (there g) = scope_holds b ps ts h.1 p g
