-- What a walk does next: by the statement or the end at a point, by the kind of an end, and by the head of a block.
use Rattle.std.proofs.Common.{◌≡◌, ◌∙◌, refl, sym, ap, subst, ℕ, suc, zero, ◌+◌, Bool, true, false, List, [], ◌∷◌, length, Option, Some, None, slice_get, arith}
use Rattle.logic_term.specs.declared.kinds.Label.{Label}
use Rattle.logic_term.specs.declared.obligation.Contract.{Contract}
use Rattle.logic_term.specs.Ty.{Ty}
use Rattle.mir_ir.specs.declared.place.Place.{Place}
use Rattle.mir_ir.specs.declared.statement.Statement.{Statement}
use Rattle.mir_ir.specs.declared.terminator.Terminator.{Terminator}
use Rattle.mir_ir.specs.declared.terminator.TerminatorKind.{TerminatorKind}
use Rattle.mir_ir.specs.declared.terminator.TerminatorKind.TheVariants.{Goto, If, Switch, Call, Return, Panic}
use Rattle.mir_ir.specs.declared.body.Block.{Block}
use Rattle.mir_ir.specs.declared.body.Body.{Body}
use Rattle.mir_ir.specs.declared.body.Head.{Head}
use Rattle.mir_ir.specs.declared.body.Point.{Point}
use Rattle.mir_ir.specs.Body.{block_in}
use Rattle.mir_ir.specs.Callees.{contract_at}
use Rattle.mir_ir.specs.Layout.{among}
use Rattle.prophecy_logic.specs.Graph.{Setting, start_of, behind, IsBefore, IsAtEnd, Within, by_statement, by_end, Ends, goto, branch, switch, call, return, panic, Sides, no_side, last_side, one_side, Arrives, plain, first, again}
use Rattle.prophecy_logic.specs.Loop.{head_commands}
use Rattle.prophecy_logic.specs.Row.{goals_of, commands_of}
use Rattle.prophecy_logic.specs.Walk.{goals_at_return, goals_at_panic, where_true, where_false, where_variant, goals_at_entry, goals_after_turn, goals_of_call, call_commands, Walk, stop, row, fork}

pub some_same : {A : Type 0} {a b : A} → Some a ≡ Some b → a ≡ b
some_same e = cc

-- ---- points

past_end : {A : Type 0} (xs : List A) (i : ℕ) (x : A) → slice_get xs i ≡ Some x → i ≡ length xs → ⊥
past_end [] i x e f = cc
past_end (y ∷ ys) zero x e f = omega (arith, f)
past_end (y ∷ ys) (suc i) x e f = past_end ys i x e (omega (arith, f))

pub same_statement : {b : Body} {p : Point} {st st' : Statement} → IsBefore b p st → IsBefore b p st' → st ≡ st'
same_statement {p = p} {st = st} g h =
    let same : g.block ≡ h.block = some_same (sym g.is_block ∙ h.is_block) in
    some_same (sym g.is_statement ∙ ap (λ (k : Block). slice_get k.statements p.statement) same ∙ h.is_statement)

pub same_end : {b : Body} {p : Point} {end end' : Terminator} → IsAtEnd b p end → IsAtEnd b p end' → end ≡ end'
same_end g h =
    let same : g.block ≡ h.block = some_same (sym g.is_block ∙ h.is_block) in
    sym g.is_end ∙ ap (λ (k : Block). k.end) same ∙ h.is_end

pub not_both_there : {b : Body} {p : Point} {st : Statement} {end : Terminator} → IsBefore b p st → IsAtEnd b p end → ⊥
not_both_there {p = p} {st = st} g h =
    let same : g.block ≡ h.block = some_same (sym g.is_block ∙ h.is_block) in
    past_end h.block.statements p.statement st (ap (λ (k : Block). slice_get k.statements p.statement) (sym same) ∙ g.is_statement) h.is_last

-- ---- within a block

-- the row of the statement at the point, and what is left behind it
pub record Passes (w : Setting) (heads : List Label) (p : Point) (st : Statement) (v : Walk) : Type 0 where
  pub rest : Walk
  pub walks : Within w heads (behind p) rest
  pub is : v ≡ row (goals_of w.body st.span st.kind) (commands_of w.body st.kind) rest

pub over_statement : {w : Setting} {heads : List Label} {p : Point} {v : Walk} → Within w heads p v → (st : Statement) → IsBefore w.body p st → Passes w heads p st v
over_statement {w} (by_statement {v = u} st' at r) st here = record {
  rest = u;
  walks = r;
  is = ap (λ (s : Statement). row (goals_of w.body s.span s.kind) (commands_of w.body s.kind) u) (same_statement at here);
}
over_statement (by_end end at e) st here = absurd (not_both_there here at)

pub to_end : {w : Setting} {heads : List Label} {p : Point} {v : Walk} → Within w heads p v → (end : Terminator) → IsAtEnd w.body p end → Ends w heads end v
to_end (by_statement st at r) end here = absurd (not_both_there at here)
to_end {w} {heads} {p} {v} (by_end end' at e) end here = subst (λ (t : Terminator). Ends w heads t v) (same_end at here) e

-- ---- a block's end

-- what a walk is from the end on, which is of this kind
abbrev pub EndsBy : Setting → List Label → Terminator → TerminatorKind → Walk → Type 0
EndsBy w heads end (Goto l) v = Arrives w heads l v
EndsBy w heads end (If o on_true on_false) v = (a : Walk) × Arrives w heads on_true a × (b : Walk) × Arrives w heads on_false b × (v ≡ fork (row [] (where_true w.body o) a) (row [] (where_false w.body o) b))
EndsBy w heads end (Switch p ls) v = Sides w heads p 0 ls v
EndsBy w heads end (Call p callee types args l) v = (u : Walk) × Arrives w heads l u × (d : Contract) × (t : Ty) × (contract_at w.contracts callee ≡ Some d) × (slice_get w.body.locals p.local ≡ Some t)
    × (v ≡ row (goals_of_call w.body d end.span args) (call_commands w.body d p.local t args) u)
EndsBy w heads end Return v = v ≡ row (goals_at_return w.body w.contract) [] stop
EndsBy w heads end (Panic cause) v = v ≡ row (goals_at_panic end.span) [] stop

at_end : {w : Setting} {heads : List Label} {end : Terminator} {v : Walk} → Ends w heads end v → EndsBy w heads end end.kind v
at_end {w} {heads} {end} {v} (goto l e a) = subst (λ k. EndsBy w heads end k v) (sym e) a
at_end {w} {heads} {end} {v} (branch {u = a} {v = b} o on_true on_false e to_a to_b) = subst (λ k. EndsBy w heads end k v) (sym e) (a, to_a, b, to_b, refl)
at_end {w} {heads} {end} {v} (switch p ls e s) = subst (λ k. EndsBy w heads end k v) (sym e) s
at_end {w} {heads} {end} {v} (call {v = u} p callee types args l d t e is_d is_t a) = subst (λ k. EndsBy w heads end k v) (sym e) (u, a, d, t, is_d, is_t, refl)
at_end {w} {heads} {end} {v} (return e) = subst (λ k. EndsBy w heads end k v) (sym e) refl
at_end {w} {heads} {end} {v} (panic cause e) = subst (λ k. EndsBy w heads end k v) (sym e) refl

pub ends_by : {w : Setting} {heads : List Label} {end : Terminator} {v : Walk} → Ends w heads end v → (kind : TerminatorKind) → end.kind ≡ kind → EndsBy w heads end kind v
ends_by {w} {heads} {end} {v} ends kind e = subst (λ k. EndsBy w heads end k v) e (at_end ends)

-- what a walk is from a switch on, for the variants from k on, by the labels
abbrev pub SidesBy : Setting → List Label → Place → ℕ → List Label → Walk → Type 0
SidesBy w heads p k [] v = v ≡ stop
SidesBy w heads p k (l ∷ []) v = (u : Walk) × Arrives w heads l u × (v ≡ row [] (where_variant w.body w.decls p k) u)
SidesBy w heads p k (l ∷ m ∷ ms) v = (u : Walk) × Arrives w heads l u × (x : Walk) × Sides w heads p (k + 1) (m ∷ ms) x × (v ≡ fork (row [] (where_variant w.body w.decls p k) u) x)

pub sides_by : {w : Setting} {heads : List Label} {p : Place} {k : ℕ} {ls : List Label} {v : Walk} → Sides w heads p k ls v → SidesBy w heads p k ls v
sides_by no_side = refl
sides_by (last_side {u = u} a) = (u, a, refl)
sides_by (one_side {u = u} {v = x} a s) = (u, a, x, s, refl)

-- ---- arrivals

-- what a walk is from the arrival on at a block with this head, which was passed or not
abbrev pub Comes : Setting → List Label → Label → Option Head → Bool → Walk → Type 0
Comes w heads l None was_passed v = Within w heads (start_of l) v
Comes w heads l (Some h) false v = (u : Walk) × Within w (l ∷ heads) (start_of l) u × (v ≡ row (goals_at_entry h) (head_commands w.body w.init l h) u)
Comes w heads l (Some h) true v = v ≡ row (goals_after_turn h) [] stop

by_head : (w : Setting) (heads : List Label) (l : Label) (v : Walk) (g h : Option Head) (p q : Bool) → g ≡ h → p ≡ q → Comes w heads l g p v → Comes w heads l h q v
by_head w heads l v g h p q e f comes = subst (λ r. Comes w heads l h r v) f (subst (λ o. Comes w heads l o p v) e comes)

at_block : {w : Setting} {heads : List Label} {l : Label} {v : Walk} → Arrives w heads l v → (k : Block) × (block_in w.body.blocks l ≡ Some k) × Comes w heads l k.head (among l heads) v
at_block {w} {heads} {l} {v} (plain k is e walks) = (k, is, by_head w heads l v None k.head (among l heads) (among l heads) (sym e) refl walks)
at_block {w} {heads} {l} {v} (first {v = u} k h is e new walks) = (k, is, by_head w heads l v (Some h) k.head false (among l heads) (sym e) (sym new) (u, walks, refl))
at_block {w} {heads} {l} {v} (again k h is e there) = (k, is, by_head w heads l v (Some h) k.head true (among l heads) (sym e) (sym there) refl)

pub comes_by : {w : Setting} {heads : List Label} {l : Label} {v : Walk} → Arrives w heads l v → (k : Block) (h : Option Head) (was_passed : Bool) → block_in w.body.blocks l ≡ Some k → k.head ≡ h → among l heads ≡ was_passed → Comes w heads l h was_passed v
comes_by {w} {heads} {l} {v} arrives k h was_passed is e f =
    let a = at_block arrives in
    let same : a.0 ≡ k = some_same (sym a.1 ∙ is) in
    by_head w heads l v a.0.head h (among l heads) was_passed (ap (λ (j : Block). j.head) same ∙ e) f a.2
