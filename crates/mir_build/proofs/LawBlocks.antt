-- The blocks of a typed text are typed.
use Rattle.std.proofs.Common.{◌≡◌, refl, ap, subst, ℕ, zero, suc, ◌==◌, ◌||◌, Bool, true, false, List, [], ◌∷◌, ◌++◌, Some, slice_get}
use Rattle.std.proofs.lemmas.Bool.{eq-eqb}
use Rattle.text_core.specs.declared.span.Span.{Span}
use Rattle.logic_term.specs.declared.kinds.Label.{Label}
use Rattle.mir_ir.specs.declared.body.Block.{Block}
use Rattle.mir_ir.specs.declared.body.Body.{Body}
use Rattle.mir_ir.specs.declared.statement.Statement.{Statement}
use Rattle.mir_ir.specs.declared.terminator.TerminatorKind.{TerminatorKind}
use Rattle.mir_ir.specs.declared.terminator.TerminatorKind.TheVariants.{Goto, If, Switch, Call, Return, Panic}
use Rattle.mir_ir.specs.Layout.{among, targets, Leads, on, back}
use Rattle.mir_ir.specs.WellFormed.{StatementIsTyped, EndIsTyped, HasBlock}
use Rattle.mir_build.specs.Text.{Line, Puts, Makes, Turns, Leaves, Owns, Front, Stands, Nowhere, fresh, longer}
use Rattle.mir_build.specs.Lowering.{ends}
use Rattle.mir_build.proofs.LawNames.{HeadFits}
use Rattle.logic_term.specs.declared.declaration.AdtDecl.{AdtDecl}
use Rattle.mir_build.proofs.LawTyped.{EndFits, is_local, AreTyped}
use Rattle.mir_build.proofs.LawLayout.{blocks_of}
use Rattle.mir_build.proofs.LawInit.{EachBlock}
use Rattle.mir_ir.specs.declared.body.Bodies.{Bodies}
use Rattle.mir_build.proofs.Basics.{some_same}

abbrev pub AllTyped : Bodies → Body → List Statement → Type 0
AllTyped bodies b [] = Unit {0}
AllTyped bodies b (s ∷ sts) = StatementIsTyped bodies b s.kind × AllTyped bodies b sts

all_typed_more : (bodies : Bodies) (b : Body) (sts : List Statement) (s : Statement) → AllTyped bodies b sts → StatementIsTyped bodies b s.kind → AllTyped bodies b (sts ++ s ∷ [])
all_typed_more bodies b [] s h g = (g, tt)
all_typed_more bodies b (u ∷ sts) s h g = (h.0, all_typed_more bodies b sts s h.1 g)

pub typed_at : (bodies : Bodies) (b : Body) (sts : List Statement) (i : ℕ) (s : Statement) → AllTyped bodies b sts → slice_get sts i ≡ Some s → StatementIsTyped bodies b s.kind
typed_at bodies b [] i s h e = absurd (cc)
typed_at bodies b (u ∷ sts) zero s h e = subst (λ (z : Statement). StatementIsTyped bodies b z.kind) (some_same e) h.0
typed_at bodies b (u ∷ sts) (suc i) s h e = typed_at bodies b sts i s h.1 e

pub record BlockTyped (bodies : Bodies) (b : Body) (e : Label × Block) : Type 0 where
  pub statements : AllTyped bodies b e.1.statements
  pub end : EndFits bodies b e.1.end.kind
  pub head : HeadFits (is_local b) e.1.head

-- where no block is open, nothing has to be typed
abbrev pub FrontTyped : Bodies → Body → Front → Type 0
FrontTyped bodies b (Stands o) = AllTyped bodies b o.statements × HeadFits (is_local b) o.title.head
FrontTyped bodies b Nowhere = Unit {0}

pub typed_blocks : (ds : List AdtDecl) (bodies : Bodies) (b : Body) (s : Span) (xs : List Line) (o : Front) → AreTyped ds bodies b xs → FrontTyped bodies b o → EachBlock (BlockTyped bodies b) (blocks_of o xs (ends s Return))
typed_blocks ds bodies b s [] (Stands o) p h = (record { statements = h.0; end = tt; head = h.1 }, tt)
typed_blocks ds bodies b s [] Nowhere p h = tt
typed_blocks ds bodies b s (Puts st ∷ xs) (Stands o) p h = typed_blocks ds bodies b s xs (longer (Stands o) st) p.1 (all_typed_more bodies b o.statements st h.0 p.0, h.1)
typed_blocks ds bodies b s (Puts st ∷ xs) Nowhere p h = typed_blocks ds bodies b s xs Nowhere p.1 tt
typed_blocks ds bodies b s (Makes x t ∷ xs) o p h = typed_blocks ds bodies b s xs o p.1 h
typed_blocks ds bodies b s (Turns t k ∷ xs) (Stands o) p h = (record { statements = h.0; end = p.0; head = h.1 }, typed_blocks ds bodies b s xs (fresh k) p.2 (tt, p.1))
typed_blocks ds bodies b s (Turns t k ∷ xs) Nowhere p h = typed_blocks ds bodies b s xs (fresh k) p.2 (tt, p.1)
typed_blocks ds bodies b s (Leaves t ∷ xs) (Stands o) p h = (record { statements = h.0; end = p.0; head = h.1 }, typed_blocks ds bodies b s xs Nowhere p.1 tt)
typed_blocks ds bodies b s (Leaves t ∷ xs) Nowhere p h = typed_blocks ds bodies b s xs Nowhere p.1 tt
typed_blocks ds bodies b s (Owns l ys ∷ xs) o p h = typed_blocks ds bodies b s xs o p h

pub has_block : (b : Body) (l : Label) (k : Block) (m : Label) → Leads b l k m → HasBlock b m
has_block b l k m (on to e p n) = (to, e)
has_block b l k m (back to h e q a) = (to, e)

first_among : (l : Label) (ls : List Label) → among l (l ∷ ls) ≡ true
first_among l ls = ap (λ t. t || among l ls) (eq-eqb l.0 l.0 refl)

second_among : (l m : Label) → among m (l ∷ m ∷ []) ≡ true
second_among l m = by_test (l.0 == m.0) (first_among m [])
  where
    by_test : (t : Bool) → among m (m ∷ []) ≡ true → (t || among m (m ∷ [])) ≡ true
    by_test true e = refl
    by_test false e = e

pub end_typed : (bodies : Bodies) (b : Body) (k : TerminatorKind) → EndFits bodies b k → ((m : Label) → among m (targets k) ≡ true → HasBlock b m) → EndIsTyped bodies b k
end_typed bodies b (Goto l) h g = g l (first_among l [])
end_typed bodies b (If o l m) h g = (h, g l (first_among l (m ∷ [])), g m (second_among l m))
end_typed bodies b (Switch p ls) h g = absurd h
end_typed bodies b (Call p f types os l) h g = (h, g l (first_among l []))
end_typed bodies b Return h g = tt
end_typed bodies b (Panic cause) h g = tt
