-- The blocks of a text along which sets of locals are surely initialised.
use Rattle.std.proofs.Common.{◌≡◌, refl, ap, sym, ◌∙◌, subst, ℕ, zero, suc, ◌+◌, ◌≤◌, ◌==◌, Bool, true, false, cond, List, [], ◌∷◌, ◌++◌, length, Option, Some, None, slice_get, arith, add-one}
use Rattle.std.proofs.lemmas.Bool.{eqb-true, eq-eqb}
use Rattle.logic_term.specs.declared.kinds.Label.{Label}
use Rattle.mir_ir.specs.declared.body.Block.{Block}
use Rattle.mir_ir.specs.declared.body.Body.{Body}
use Rattle.mir_ir.specs.declared.statement.Statement.{Statement}
use Rattle.mir_ir.specs.declared.terminator.Terminator.{Terminator}
use Rattle.mir_ir.specs.declared.terminator.TerminatorKind.TheVariants.{Return}
use Rattle.mir_ir.specs.Body.{block_in}
use Rattle.mir_ir.specs.WellFormed.{Locals, Within, parameters, Labelling, MeetsMoveRows}
use Rattle.mir_ir.proofs.Taking.{rows_together, CanRun, run, CanEnd, Carries}
use Rattle.mir_build.specs.Text.{Title, Line, Open, Front, Stands, Nowhere, fresh, more_of, longer, finished, owned}
use Rattle.mir_build.specs.Lowering.{ends}
use Rattle.text_core.specs.declared.span.Span.{Span}
use Rattle.mir_build.proofs.Numbers.{count}
use Rattle.mir_build.proofs.LawLists.{Has, here, there, differs, count_self}
use Rattle.mir_build.proofs.LawNames.{HeadFits}
use Rattle.mir_build.proofs.LawRuns.{HasNone, everything, Runs, stops, puts, makes, turns, leaves, owns, Agree, labels_in}
use Rattle.mir_build.proofs.LawLayout.{blocks_of, Once, rest_once}
use Rattle.mir_build.proofs.Basics.{some_same}

-- ---- the set of a label

abbrev pub set_of : List (Label × Locals) → Label → Locals
set_of [] l = λ x. false
set_of (e ∷ es) l = cond (e.0.0 == l.0) e.1 (set_of es l)

agree_more : (f g : Label → Locals) (es : List (Label × Locals)) → ((l : Label) → 1 ≤ count l.0 (labels_in es) → g l ≡ f l) → Agree f es → Agree g es
agree_more f g [] h a = tt
agree_more f g (e ∷ es) h a = (h e.0 (count_self e.0.0 (labels_in es)) ∙ a.0, agree_more f g es (λ l k. h l (omega arith)) a.1)

-- each label has its set
pub agree : (es : List (Label × Locals)) → Once (labels_in es) → Agree (set_of es) es
agree [] h = tt
agree (e ∷ es) h = (
  ap (λ t. cond t e.1 (set_of es e.0)) (eq-eqb e.0.0 e.0.0 refl),
  agree_more (set_of es) (set_of (e ∷ es)) es (λ l k. ap (λ t. cond t e.1 (set_of es l)) (differs l.0 e.0.0 (labels_in es) (h l.0) k)) (agree es (rest_once e.0.0 (labels_in es) h)),
)

-- ---- the sets along a block

-- after the first n statements
abbrev pub after_some : ℕ → List Statement → Locals → Locals
after_some zero sts set = set
after_some (suc n) [] set = set
after_some (suc n) (st ∷ sts) set = after_some n sts (run st.kind set)

abbrev pub after_all : List Statement → Locals → Locals
after_all [] set = set
after_all (st ∷ sts) set = after_all sts (run st.kind set)

abbrev pub CanRunAll : Locals → List Statement → Type 0
CanRunAll set [] = Unit {0}
CanRunAll set (st ∷ sts) = CanRun set st.kind × CanRunAll (run st.kind set) sts

after_one_more : (sts : List Statement) (st : Statement) (set : Locals) → after_all (sts ++ st ∷ []) set ≡ run st.kind (after_all sts set)
after_one_more [] st set = refl
after_one_more (s ∷ sts) st set = after_one_more sts st (run s.kind set)

can_run_more : (sts : List Statement) (st : Statement) (set : Locals) → CanRunAll set sts → CanRun (after_all sts set) st.kind → CanRunAll set (sts ++ st ∷ [])
can_run_more [] st set h g = (g, tt)
can_run_more (s ∷ sts) st set h g = (h.0, can_run_more sts st (run s.kind set) h.1 g)

all_is_some : (sts : List Statement) (set : Locals) → after_some (length sts) sts set ≡ after_all sts set
all_is_some [] set = refl
all_is_some (st ∷ sts) set = all_is_some sts (run st.kind set)

can_run_at : (sts : List Statement) (i : ℕ) (st : Statement) (set : Locals) → CanRunAll set sts → slice_get sts i ≡ Some st → CanRun (after_some i sts set) st.kind
can_run_at [] i st set h e = absurd (cc)
can_run_at (s ∷ sts) zero st set h e = subst (λ (z : Statement). CanRun set z.kind) (some_same e) h.0
can_run_at (s ∷ sts) (suc i) st set h e = can_run_at sts i st (run s.kind set) h.1 e

after_next : (sts : List Statement) (i : ℕ) (st : Statement) (set : Locals) → slice_get sts i ≡ Some st → after_some (suc i) sts set ≡ run st.kind (after_some i sts set)
after_next [] i st set e = absurd (cc)
after_next (s ∷ sts) zero st set e = ap (λ (z : Statement). run z.kind set) (some_same e)
after_next (s ∷ sts) (suc i) st set e = after_next sts i st (run s.kind set) e

-- ---- blocks

pub record BlockFits (start : Label → Locals) (e : Label × Block) : Type 0 where
  pub can_run : CanRunAll (start e.0) e.1.statements
  pub can_end : CanEnd (after_all e.1.statements (start e.0)) e.1.end.kind
  pub carries : Carries start (after_all e.1.statements (start e.0)) e.1.end.kind
  pub head : HeadFits (start e.0) e.1.head

-- the open block, whose statements have come to the set
record OpenFits (start : Label → Locals) (o : Open) (set : Locals) : Type 0 where
  now : set ≡ after_all o.statements (start o.title.label)
  can_run : CanRunAll (start o.title.label) o.statements
  head : HeadFits (start o.title.label) o.title.head

abbrev pub EachBlock : (Label × Block → Type 0) → List (Label × Block) → Type 0
EachBlock P [] = Unit {0}
EachBlock P (e ∷ es) = P e × EachBlock P es

-- where no block is open, nothing has to fit
abbrev FrontFits : (Label → Locals) → Front → Locals → Type 0
FrontFits start (Stands o) set = OpenFits start o set
FrontFits start Nowhere set = Unit {0}

module _ (start : Label → Locals) where
  more_fits : (o : Open) (set : Locals) (s : Statement) → OpenFits start o set → CanRun set s.kind → OpenFits start (more_of o s) (run s.kind set)
  more_fits o set s f h = record {
    now = ap (run s.kind) f.now ∙ sym (after_one_more o.statements s (start o.title.label));
    can_run = can_run_more o.statements s (start o.title.label) f.can_run (subst (λ S. CanRun S s.kind) f.now h);
    head = f.head;
  }

  fresh_fits : (b : Title) → HeadFits (start b.label) b.head → FrontFits start (fresh b) (start b.label)
  fresh_fits b h = record { now = refl; can_run = tt; head = h }

  -- the open block with its end
  ended_fits : (o : Open) (set : Locals) (t : Terminator) → OpenFits start o set → CanEnd set t.kind → Carries start set t.kind → BlockFits start (finished o t)
  ended_fits o set t f h g = record { can_run = f.can_run; can_end = subst (λ S. CanEnd S t.kind) f.now h; carries = subst (λ S. Carries start S t.kind) f.now g; head = f.head }

  -- where the text ends with the answer initialised, each block fits
  blocks_fit : (s : Span) (to : Locals) → to 0 ≡ true → (set : Locals) (xs : List Line) → Runs start set xs to → (o : Front) → FrontFits start o set → EachBlock (BlockFits start) (blocks_of o xs (ends s Return))
  blocks_fit s to z set xs (stops w) (Stands o) f = (ended_fits o set (ends s Return) f (w 0 z) tt, tt)
  blocks_fit s to z set xs (stops w) Nowhere f = tt
  blocks_fit s to z set xs (puts {s = st} h p) (Stands o) f = blocks_fit s to z (run st.kind set) _ p (longer (Stands o) st) (more_fits o set st f h)
  blocks_fit s to z set xs (puts {s = st} h p) Nowhere f = blocks_fit s to z (run st.kind set) _ p Nowhere tt
  blocks_fit s to z set xs (makes p) o f = blocks_fit s to z set _ p o f
  blocks_fit s to z set xs (turns {t = t} {b = b} h g k p) (Stands o) f = (ended_fits o set t f h g, blocks_fit s to z (start b.label) _ p (fresh b) (fresh_fits b k))
  blocks_fit s to z set xs (turns {t = t} {b = b} h g k p) Nowhere f = blocks_fit s to z (start b.label) _ p (fresh b) (fresh_fits b k)
  blocks_fit s to z set xs (leaves {t = t} h g p) (Stands o) f = (ended_fits o set t f h g, blocks_fit s to z everything _ p Nowhere tt)
  blocks_fit s to z set xs (leaves {t = t} h g p) Nowhere f = blocks_fit s to z everything _ p Nowhere tt
  blocks_fit s to z set xs (owns h p) o f = blocks_fit s to z set _ p o f

  pub begun_fits : (s : Span) (to : Locals) → to 0 ≡ true → (b : Title) (xs : List Line) → Runs start (start b.label) xs to → HeadFits (start b.label) b.head → EachBlock (BlockFits start) (blocks_of (fresh b) xs (ends s Return))
  begun_fits s to z b xs p h = blocks_fit s to z (start b.label) xs p (fresh b) (fresh_fits b h)

  -- the loops' own locals are not in the sets of their heads
  pub owned_not_there : (to set : Locals) (xs : List Line) → Runs start set xs to → (e : Label × List ℕ) → Has e (owned xs) → HasNone (start e.0) e.1
  owned_not_there to set xs (stops w) e h = elim h [ ]
  owned_not_there to set xs (puts {s = st} g p) e h = owned_not_there to (run st.kind set) _ p e h
  owned_not_there to set xs (makes p) e h = owned_not_there to set _ p e h
  owned_not_there to set xs (turns {b = b} g k f p) e h = owned_not_there to (start b.label) _ p e h
  owned_not_there to set xs (leaves g k p) e h = owned_not_there to everything _ p e h
  owned_not_there to set xs (owns {l = l} {ys = ys} {xs = zs} n p) e h = by_case e (owned zs) h (owned_not_there to set zs p e)
    where
      by_case : (e : Label × List ℕ) (es : List (Label × List ℕ)) → Has e ((l, ys) ∷ es) → (Has e es → HasNone (start e.0) e.1) → HasNone (start e.0) e.1
      by_case e es here rest = n
      by_case e es (there g) rest = rest g

pub block_at : (P : Label × Block → Type 0) (bs : List (Label × Block)) (l : Label) (k : Block) → EachBlock P bs → block_in bs l ≡ Some k → P (l, k)
block_at P [] l k h e = absurd (cc)
block_at P (b ∷ bs) l k h e = by_test (block_at P bs l k h.1) (b.0.0 == l.0) refl e
  where
    by_test : (block_in bs l ≡ Some k → P (l, k)) → (t : Bool) → (b.0.0 == l.0) ≡ t → cond t (Some b.1) (block_in bs l) ≡ Some k → P (l, k)
    by_test rest true same q =
        let is_l : b.0 ≡ l = ap (λ n. let r : Label = record { 0 = n } in r) (eqb-true b.0.0 l.0 same) in
        subst (λ (m : Label). P (m, k)) is_l (subst (λ (j : Block). P (b.0, j)) (some_same q) h.0)
    by_test rest false other q = rest q

-- ---- the labelling

abbrev pub statements_of : Option Block → List Statement
statements_of None = []
statements_of (Some k) = k.statements

-- a labelling whose sets at labels are these
pub record IsLabelled (b : Body) (start : Label → Locals) : Type 0 where
  pub at : Labelling
  pub moves : MeetsMoveRows b at
  pub starts : (l : Label) → at l 0 ≡ start l

module _ (b : Body) (start : Label → Locals) (fits : EachBlock (BlockFits start) b.blocks) (entry : Within (start b.entry) (parameters b)) where
  sets : Label → ℕ → Locals
  sets l n = after_some n (statements_of (block_in b.blocks l)) (start l)

  at_block : (l : Label) (k : Block) (n : ℕ) → block_in b.blocks l ≡ Some k → sets l n ≡ after_some n k.statements (start l)
  unfolding sets
  at_block l k n e = ap (λ o. after_some n (statements_of o) (start l)) e

  at_end : (l : Label) (k : Block) → block_in b.blocks l ≡ Some k → after_all k.statements (start l) ≡ sets l (length k.statements)
  at_end l k e = sym (at_block l k (length k.statements) e ∙ all_is_some k.statements (start l))

  fit : (l : Label) (k : Block) → block_in b.blocks l ≡ Some k → BlockFits start (l, k)
  fit l k e = block_at (BlockFits start) b.blocks l k fits e

  one_on : (l : Label) (k : Block) (i : ℕ) (st : Statement) → block_in b.blocks l ≡ Some k → slice_get k.statements i ≡ Some st → sets l (i + 1) ≡ run st.kind (sets l i)
  one_on l k i st e f =
      at_block l k (i + 1) e ∙ ap (λ n. after_some n k.statements (start l)) (add-one i) ∙ after_next k.statements i st (start l) f ∙ ap (run st.kind) (sym (at_block l k i e))

  pub labelling : IsLabelled b start
  unfolding sets
  labelling = record {
    at = sets;
    moves = rows_together b sets (record {
      entry = entry;
      statements = λ l k i st e f. (
        subst (λ S. CanRun S st.kind) (sym (at_block l k i e)) (can_run_at k.statements i st (start l) (fit l k e).can_run f),
        λ x h. subst (λ (S : Locals). S x ≡ true) (one_on l k i st e f) h,
      );
      ends = λ l k e. subst (λ S. CanEnd S k.end.kind) (at_end l k e) (fit l k e).can_end;
      edges = λ l k e. subst (λ S. Carries start S k.end.kind) (at_end l k e) (fit l k e).carries;
    });
    starts = λ l. refl;
  }
