-- The bodies that tests use can be walked.
use Rattle.std.proofs.Common.{◌≡◌, refl, sym, ap, subst, ◌==◌, ◌||◌, Bool, true, false, cond, true≢false, List, [], ◌∷◌, Some, arith}
use Rattle.std.proofs.lemmas.Option.{same_Some}
use Rattle.std.proofs.lemmas.Bool.{eqb-true}
use Rattle.std.specs.Prelude.{slice_get}
use Rattle.text_core.specs.declared.refusal.Cause.{Cause}
use Rattle.logic_term.specs.declared.kinds.Label.{Label}
use Rattle.logic_term.specs.declared.obligation.Contract.{Contract}
use Rattle.logic_term.specs.Ty.{Ty}
use Rattle.mir_ir.specs.declared.place.Operand.{Operand}
use Rattle.mir_ir.specs.declared.statement.Statement.{Statement}
use Rattle.mir_ir.specs.declared.terminator.TerminatorKind.{TerminatorKind}
use Rattle.mir_ir.specs.declared.terminator.TerminatorKind.TheVariants.{Call}
use Rattle.mir_ir.specs.declared.body.Block.{Block}
use Rattle.mir_ir.specs.declared.body.Body.{Body}
use Rattle.mir_ir.specs.declared.body.Head.{Head}
use Rattle.mir_ir.specs.Body.{block_in}
use Rattle.mir_ir.specs.Layout.{among, targets, around, Leads, on, back}
use Rattle.prophecy_logic.specs.Graph.{Setting}
use Rattle.prophecy_logic.specs.Walkable.{IsKnown, CanWalk}
use Rattle.machine_tests.specs.Walked.{label, straight, panicking, branching, switching, looping, calling, forking, IsForking}

same_label : (l m : Label) → (l.0 == m.0) ≡ true → l ≡ m
same_label l m e = ap (λ n. let r : Label = record { 0 = n } in r) (eqb-true l.0 m.0 e)

-- ---- a fact of each block, and of each label

abbrev EachBlock : (Label → Block → Type 0) → List (Label × Block) → Type 0
EachBlock P [] = Unit {0}
EachBlock P (b ∷ bs) = P b.0 b.1 × EachBlock P bs

block_found : (P : Label → Block → Type 0) (bs : List (Label × Block)) (l : Label) (k : Block) → EachBlock P bs → block_in bs l ≡ Some k → P l k
block_found P [] l k h e = absurd (cc)
block_found P (b ∷ bs) l k h e = by_test (block_found P bs l k h.1) (b.0.0 == l.0) refl e
  where
    by_test : (block_in bs l ≡ Some k → P l k) → (t : Bool) → (b.0.0 == l.0) ≡ t → cond t (Some b.1) (block_in bs l) ≡ Some k → P l k
    by_test rest true same q = subst (P l) (same_Some _ _ q) (subst (λ (m : Label). P m b.1) (same_label b.0 l same) h.0)
    by_test rest false other q = rest q

abbrev EachLabel : (Label → Type 0) → List Label → Type 0
EachLabel P [] = Unit {0}
EachLabel P (l ∷ ls) = P l × EachLabel P ls

label_found : (P : Label → Type 0) (ls : List Label) (m : Label) → EachLabel P ls → among m ls ≡ true → P m
label_found P [] m h e = absurd (true≢false (sym e))
label_found P (l ∷ ls) m h e = by_test (label_found P ls m h.1) (l.0 == m.0) refl e
  where
    by_test : (among m ls ≡ true → P m) → (t : Bool) → (l.0 == m.0) ≡ t → (t || among m ls) ≡ true → P m
    by_test rest true same q = subst P (same_label l m same) h.0
    by_test rest false other q = rest q

-- ---- the conditions of the walk, block by block

-- a call at the block's end has all that the walk looks up
abbrev EndIsKnown : Setting → TerminatorKind → Type 0
EndIsKnown w (Call p callee types args l) = IsKnown w callee p
EndIsKnown w _ = Unit {0}

record BlockIsLaidOut (w : Setting) (l : Label) (k : Block) : Type 0 where
  leads : EachLabel (Leads w.body l k) (targets k.end.kind)
  known : EndIsKnown w k.end.kind

can_walk : (w : Setting) (entry : Block) → block_in w.body.blocks w.body.entry ≡ Some entry → around w.body.entry entry [] → EachBlock (BlockIsLaidOut w) w.body.blocks → CanWalk w
can_walk w entry is_entry at_entry each = record {
  laid_out = record {
    entry = entry;
    is_entry = is_entry;
    at_entry = at_entry;
    edges = λ l m k is named. label_found (Leads w.body l k) (targets k.end.kind) m (found l k is).leads named;
  };
  calls = λ l k p callee types args m is ends. subst (EndIsKnown w) ends (found l k is).known;
}
  where
    found : (l : Label) (k : Block) → block_in w.body.blocks l ≡ Some k → BlockIsLaidOut w l k
    found l k is = block_found (BlockIsLaidOut w) w.body.blocks l k each is

-- ---- the samples

with_body : (w : Setting) (b : Body) → w.body ≡ b → CanWalk (record w { body = b }) → CanWalk w
with_body w b is can = subst (λ (c : Body). CanWalk (record w { body = c })) (sym is) can

pub straight_can_walk : (w : Setting) (tys : List Ty) (sts : List Statement) → w.body ≡ straight tys sts → CanWalk w
straight_can_walk w tys sts is =
    with_body w (straight tys sts) is
    (can_walk (record w { body = straight tys sts }) _ refl refl (record { leads = tt; known = tt }, tt))

pub panicking_can_walk : (w : Setting) (tys : List Ty) (cause : Cause) → w.body ≡ panicking tys cause → CanWalk w
panicking_can_walk w tys cause is =
    with_body w (panicking tys cause) is
    (can_walk (record w { body = panicking tys cause }) _ refl refl (record { leads = tt; known = tt }, tt))

pub branching_can_walk : (w : Setting) (tys : List Ty) (o : Operand) (first second : List Statement) → w.body ≡ branching tys o first second → CanWalk w
branching_can_walk w tys o first second is =
    with_body w (branching tys o first second) is
    (can_walk (record w { body = branching tys o first second }) _ refl refl (
      record {
        leads = (
          on _ refl (omega arith) (record { outer = []; inner = []; is_around = refl; within = refl }),
          (on _ refl (omega arith) (record { outer = []; inner = []; is_around = refl; within = refl }), tt),
        );
        known = tt;
      },
      (record { leads = tt; known = tt }, (record { leads = tt; known = tt }, tt)),
    ))

pub switching_can_walk : (w : Setting) (tys : List Ty) (first second : List Statement) → w.body ≡ switching tys first second → CanWalk w
switching_can_walk w tys first second is =
    with_body w (switching tys first second) is
    (can_walk (record w { body = switching tys first second }) _ refl refl (
      record {
        leads = (
          on _ refl (omega arith) (record { outer = []; inner = []; is_around = refl; within = refl }),
          (on _ refl (omega arith) (record { outer = []; inner = []; is_around = refl; within = refl }), tt),
        );
        known = tt;
      },
      (record { leads = tt; known = tt }, (record { leads = tt; known = tt }, tt)),
    ))

pub looping_can_walk : (w : Setting) (tys : List Ty) (h : Head) (o : Operand) (sts : List Statement) → w.body ≡ looping tys h o sts → CanWalk w
looping_can_walk w tys h o sts is =
    with_body w (looping tys h o sts) is
    (can_walk (record w { body = looping tys h o sts }) _ refl refl (
      record { leads = (on _ refl (omega arith) (record { outer = []; inner = []; is_around = refl; within = refl }), tt); known = tt },
      (
        record {
          leads = (
            on _ refl (omega arith) (record { outer = label 1 ∷ []; inner = []; is_around = refl; within = refl }),
            (on _ refl (omega arith) (record { outer = []; inner = label 1 ∷ []; is_around = refl; within = refl }), tt),
          );
          known = tt;
        },
        (record { leads = (back _ h refl refl refl, tt); known = tt }, (record { leads = tt; known = tt }, tt)),
      ),
    ))

pub calling_can_walk : (w : Setting) (ty : Ty) (tys : List Ty) (args : List Operand) (c : Contract) → w.body ≡ calling ty tys args → slice_get w.contracts.of 0 ≡ Some c → CanWalk w
calling_can_walk w ty tys args c is has =
    with_body w (calling ty tys args) is
    (can_walk (record w { body = calling ty tys args }) _ refl refl (
      record {
        leads = (on _ refl (omega arith) (record { outer = []; inner = []; is_around = refl; within = refl }), tt);
        known = record { contract = (c, has); answer = (ty, refl) };
      },
      (record { leads = tt; known = tt }, tt),
    ))

forking_walks : (w : Setting) (tys : List Ty) (first second third : Operand) → w.body ≡ forking tys first second third → CanWalk w
forking_walks w tys first second third is =
    with_body w (forking tys first second third) is
    (can_walk (record w { body = forking tys first second third }) _ refl refl (
      record { leads = (on _ refl (omega arith) (record { outer = []; inner = []; is_around = refl; within = refl }), (on _ refl (omega arith) (record { outer = []; inner = []; is_around = refl; within = refl }), tt)); known = tt },
      (
        record { leads = (on _ refl (omega arith) (record { outer = []; inner = []; is_around = refl; within = refl }), (on _ refl (omega arith) (record { outer = []; inner = []; is_around = refl; within = refl }), tt)); known = tt },
        (record { leads = (on _ refl (omega arith) (record { outer = []; inner = []; is_around = refl; within = refl }), (on _ refl (omega arith) (record { outer = []; inner = []; is_around = refl; within = refl }), tt)); known = tt }, (record { leads = tt; known = tt }, tt)),
      ),
    ))

pub forking_can_walk : (w : Setting) → IsForking w.body → CanWalk w
forking_can_walk w forks = forking_walks w forks.locals forks.first forks.second forks.third forks.is
