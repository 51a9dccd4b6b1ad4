-- A program with a loop and a call meets the conditions of the law.
use Rattle.std.proofs.Common.{◌≡◌, ◌∙◌, inl, inr, refl, sym, ap, subst, ℕ, zero, suc, ◌+◌, ◌<◌, ◌≤◌, ◌==◌, ◌⊎◌, ◌||◌, ◌&&◌, Bool, true, false, cond, true≢false, List, Some, None, [], ◌∷◌, length, slice_get, arith}
use Rattle.std.proofs.lemmas.Option.{same_Some}
use Rattle.std.proofs.lemmas.Bool.{eqb-true}
use Rattle.std.proofs.lemmas.Bool.Decides.{nat_tests}
use Rattle.text_core.specs.declared.name.Name.{Name}
use Rattle.logic_term.specs.declared.kinds.Label.{Label}
use Rattle.logic_term.specs.Free.{free}
use Rattle.logic_term.specs.Term.{Term}
use Rattle.logic_term.specs.Sort.{HasSort, instance, of_bool}
use Rattle.logic_term.specs.Theory.{declared}
use Rattle.logic_term.specs.Ty.{Ty, Tys, bool, no_tys}
use Rattle.logic_term.specs.Value.{Value, Flag}
use Rattle.logic_term.proofs.FreeLaw.{same_name}
use Rattle.mir_ir.specs.declared.statement.Statement.{Statement}
use Rattle.mir_ir.specs.declared.body.Block.{Block}
use Rattle.mir_ir.specs.declared.body.Body.{Body}
use Rattle.mir_ir.specs.declared.body.Head.{Head}
use Rattle.mir_ir.specs.Body.{block_in}
use Rattle.mir_ir.specs.Declares.{theory_in}
use Rattle.mir_ir.specs.Layout.{among, targets, Leads, on, back}
use Rattle.mir_ir.specs.Paths.{at_end}
use Rattle.mir_ir.specs.WellFormed.{HasBlock, StatementIsTyped, EndIsTyped, IsTyped, Locals, with, Within, parameters, Labelling, MeetsMoveRows}
use Rattle.mir_ir.proofs.Taking.{rows_together, CanRun, run, CanEnd, Carries}
use Rattle.prophecy_logic.specs.Loop.{is_gone}
use Rattle.mir_machine.specs.Good.{Each}
use Rattle.prophecy_sim.specs.Programs.{IsOwned, IsSimple, HeadsSpeakOf, AreFunctions, IsFunction}
use Rattle.prophecy_sim.specs.Sample.{label, name, head, cleared, caller, is_false, program, SampleIsSound}
use Rattle.mir_ir.specs.Names.{IsOneOf, IsNameIn, ContractSpeaks, new_number}

same_label : (l m : Label) → (l.0 == m.0) ≡ true → l ≡ m
same_label l m e = ap (λ n. let r : Label = record { 0 = n } in r) (eqb-true l.0 m.0 e)

-- ---- a fact of each block, of each label and of each statement

abbrev EachBlock : (Label → Block → Type 0) → List (Label × Block) → Type 0
EachBlock P [] = Unit {0}
EachBlock P (b ∷ bs) = P b.0 b.1 × EachBlock P bs

block_found : (P : Label → Block → Type 0) (bs : List (Label × Block)) (l : Label) (k : Block) → EachBlock P bs → block_in bs l ≡ Some k → P l k
block_found P [] l k h e = absurd (cc)
block_found P (b ∷ bs) l k h e = by_test (block_found P bs l k h.1) (b.0.0 == l.0) refl e
  where
    by_test : (block_in bs l ≡ Some k → P l k) → (t : Bool) → (b.0.0 == l.0) ≡ t → cond t (Some b.1) (block_in bs l) ≡ Some k → P l k
    by_test rest true same q = subst (P l) (same_Some _ _ q) (subst (λ (m : Label). P m b.1) (same_label b.0 l same) h.0)
    by_test rest false other q = rest q

abbrev EachLabel : (Label → Type 0) → List Label → Type 0
EachLabel P [] = Unit {0}
EachLabel P (l ∷ ls) = P l × EachLabel P ls

label_found : (P : Label → Type 0) (ls : List Label) (m : Label) → EachLabel P ls → among m ls ≡ true → P m
label_found P [] m h e = absurd (true≢false (sym e))
label_found P (l ∷ ls) m h e = by_test (label_found P ls m h.1) (l.0 == m.0) refl e
  where
    by_test : (among m ls ≡ true → P m) → (t : Bool) → (l.0 == m.0) ≡ t → (t || among m ls) ≡ true → P m
    by_test rest true same q = subst P (same_label l m same) h.0
    by_test rest false other q = rest q

-- the statements from number i on
abbrev EachStatement : (ℕ → Statement → Type 0) → ℕ → List Statement → Type 0
EachStatement P i [] = Unit {0}
EachStatement P i (st ∷ sts) = P i st × EachStatement P (i + 1) sts

statement_found : (P : ℕ → Statement → Type 0) (i : ℕ) (sts : List Statement) (j : ℕ) (st : Statement) → EachStatement P i sts → slice_get sts j ≡ Some st → P (i + j) st
statement_found P i [] j st h e = absurd (cc)
statement_found P i (s ∷ sts) zero st h e = subst (P (i + 0)) (same_Some _ _ e) (subst (λ n. P n s) (here i) h.0)
  where
    here : (i : ℕ) → i ≡ i + 0
    here i = omega arith
statement_found P i (s ∷ sts) (suc j) st h e = subst (λ n. P n st) (there i j) (statement_found P (i + 1) sts j st h.1 e)
  where
    there : (i j : ℕ) → (i + 1) + j ≡ i + suc j
    there i j = omega arith

-- ---- types and what is initialised

abbrev by_number : (ℕ → ℕ → Locals) → Labelling
by_number sets l i = sets l.0 i

abbrev IsSoundAt : Body → (ℕ → ℕ → Locals) → Label → ℕ → Statement → Type 0
IsSoundAt b sets l i st = StatementIsTyped program.bodies b st.kind × CanRun (sets l.0 i) st.kind × Within (sets l.0 (i + 1)) (run st.kind (sets l.0 i))

record BlockIsSound (b : Body) (sets : ℕ → ℕ → Locals) (l : Label) (k : Block) : Type 0 where
  statements : EachStatement (IsSoundAt b sets l) 0 k.statements
  typed : EndIsTyped program.bodies b k.end.kind
  can_end : CanEnd (sets l.0 (length k.statements)) k.end.kind
  carries : Carries (λ l'. sets l'.0 0) (sets l.0 (length k.statements)) k.end.kind

module _ (b : Body) (sets : ℕ → ℕ → Locals) (blocks_sound : EachBlock (BlockIsSound b sets) b.blocks) where
  sound_at : (l : Label) (k : Block) → block_in b.blocks l ≡ Some k → BlockIsSound b sets l k
  sound_at l k is = block_found (BlockIsSound b sets) b.blocks l k blocks_sound is

  statement_sound : (l : Label) (k : Block) (i : ℕ) (st : Statement) → block_in b.blocks l ≡ Some k → slice_get k.statements i ≡ Some st → IsSoundAt b sets l i st
  statement_sound l k i st is at = subst (λ n. IsSoundAt b sets l n st) (from_zero i) (statement_found (IsSoundAt b sets l) 0 k.statements i st (sound_at l k is).statements at)
    where
      from_zero : (i : ℕ) → 0 + i ≡ i
      from_zero i = omega arith

  typed_of : length b.names ≡ length b.locals → b.params + 1 ≤ length b.locals → HasBlock b b.entry → b.types ≡ [] → IsTyped program.bodies b
  typed_of named answers begins ground = record {
    ground = ground;
    named = named;
    answers = answers;
    begins = begins;
    statements = λ l k i st is at. (statement_sound l k i st is at).0;
    ends = λ l k is. (sound_at l k is).typed;
  }

  moves_of : Within (sets b.entry.0 0) (parameters b) → MeetsMoveRows b (by_number sets)
  moves_of entry = rows_together b (by_number sets) (record {
    entry = entry;
    statements = λ l k i st is at. ((statement_sound l k i st is at).1, (statement_sound l k i st is at).2);
    ends = λ l k is. (sound_at l k is).can_end;
    edges = λ l k is. (sound_at l k is).carries;
  })

-- both locals
abbrev both : Locals
both = with 0 (parameters cleared)

abbrev sets : ℕ → ℕ → Locals
sets zero zero = parameters cleared
sets zero (suc i) = both
sets (suc (suc zero)) (suc i) = with 0 both
sets _ _ = both

abbrev caller_sets : ℕ → ℕ → Locals
caller_sets zero i = parameters caller
caller_sets (suc n) i = both

more : (set : Locals) → Within set (with 0 set)
more set x inside = by_test (x == 0)
  where
    by_test : (t : Bool) → cond t true (set x) ≡ true
    by_test true = refl
    by_test false = inside

blocks_sound : EachBlock (BlockIsSound cleared sets) cleared.blocks
blocks_sound = (
  record { statements = (((bool, (refl, refl), (bool, refl, at_end)), refl, λ x h. h), tt); typed = (_, refl); can_end = tt; carries = λ x h. h },
  (
    record { statements = tt; typed = ((refl, refl), (_, refl), (_, refl)); can_end = refl; carries = (λ x h. h, λ x h. h) },
    (
      record { statements = (((bool, (refl, refl), refl), tt, λ x h. h), tt); typed = (_, refl); can_end = tt; carries = more both },
      (record { statements = tt; typed = tt; can_end = refl; carries = tt }, tt),
    ),
  ),
)

caller_blocks_sound : EachBlock (BlockIsSound caller caller_sets) caller.blocks
caller_blocks_sound = (
  record { statements = tt; typed = ((cleared, bool, refl, ((refl, refl), tt), refl, (refl, refl), refl), (_, refl)); can_end = (refl, tt); carries = λ x h. h },
  (record { statements = tt; typed = tt; can_end = refl; carries = tt }, tt),
)

typed : IsTyped program.bodies cleared
typed = typed_of cleared sets blocks_sound refl (omega arith) (_, refl) refl

caller_typed : IsTyped program.bodies caller
caller_typed = typed_of caller caller_sets caller_blocks_sound refl (omega arith) (_, refl) refl

moves : MeetsMoveRows cleared (by_number sets)
moves = moves_of cleared sets blocks_sound (λ x h. h)

caller_moves : MeetsMoveRows caller (by_number caller_sets)
caller_moves = moves_of caller caller_sets caller_blocks_sound (λ x h. h)

-- ---- names

local_number : (x : ℕ) (n : Name) → slice_get cleared.names x ≡ Some n → (n.0 ≡ 100 + x) × (x < 2)
local_number zero n e = (ap (λ (m : Name). m.0) (sym (same_Some _ _ e)), omega arith)
local_number (suc zero) n e = (ap (λ (m : Name). m.0) (sym (same_Some _ _ e)), omega arith)
local_number (suc (suc x)) n e = absurd (cc)

param_number : (i : ℕ) (n : Name) → slice_get is_false.params i ≡ Some n → (n.0 ≡ 10) × (i ≡ 0)
param_number zero n e = (ap (λ (m : Name). m.0) (sym (same_Some _ _ e)), refl)
param_number (suc i) n e = absurd (cc)

is_below_new : (n : Name) → n.0 < 200 → n.0 < new_number
is_below_new n l = omega arith

below : (m n : ℕ) → m ≡ 100 + n → n < 2 → m < 200
below m n e l = omega arith

abbrev LeadsOn : Label → Block → Type 0
LeadsOn l k = EachLabel (Leads cleared l k) (targets k.end.kind)

leads_on : EachBlock LeadsOn cleared.blocks
leads_on = (
  (on _ refl (omega arith) (record { outer = []; inner = []; is_around = refl; within = refl }), tt),
  (
    (
      on _ refl (omega arith) (record { outer = label 1 ∷ []; inner = []; is_around = refl; within = refl }),
      (on _ refl (omega arith) (record { outer = []; inner = label 1 ∷ []; is_around = refl; within = refl }), tt),
    ),
    ((back _ head refl refl refl, tt), (tt, tt)),
  ),
)

simple : IsSimple program.bodies cleared
simple = record {
  names = record {
    apart = λ x y n m e f q. apart x y n m (local_number x n e).0 (local_number y m f).0 q;
    none_is_new = λ x n e. is_below_new n (below n.0 x (local_number x n e).0 (local_number x n e).1);
  };
  owns = λ d. false;
  fields = λ d k fs own e. absurd (no_fields fs e);
  owned = owned;
  valued = valued;
  laid_out = record {
    entry = _;
    is_entry = refl;
    at_entry = refl;
    edges = λ l m k is named. label_found (Leads cleared l k) (targets k.end.kind) m (block_found LeadsOn cleared.blocks l k leads_on is) named;
  };
}
  where
    apart : (x y : ℕ) (n m : Name) → n.0 ≡ 100 + x → m.0 ≡ 100 + y → n.0 ≡ m.0 → x ≡ y
    apart x y n m e f q = omega arith

    owned : (x : ℕ) (ty : Ty) → slice_get cleared.locals x ≡ Some ty → IsOwned program.bodies (λ d. false) ty
    owned zero ty e = subst (IsOwned program.bodies (λ d. false)) (same_Some _ _ e) tt
    owned (suc zero) ty e = subst (IsOwned program.bodies (λ d. false)) (same_Some _ _ e) tt
    owned (suc (suc x)) ty e = absurd (cc)

    no_fields : (fs : Tys) → None ≡ Some fs → ⊥
    no_fields fs e = cc

    valued : (x : ℕ) (ty : Ty) → slice_get cleared.locals x ≡ Some ty → (v : Value) × HasSort (declared (theory_in program.bodies)) v (instance no_tys ty)
    valued zero ty e = subst (λ q. (v : Value) × HasSort (declared (theory_in program.bodies)) v (instance no_tys q)) (same_Some _ _ e) (Flag false, of_bool)
    valued (suc zero) ty e = subst (λ q. (v : Value) × HasSort (declared (theory_in program.bodies)) v (instance no_tys q)) (same_Some _ _ e) (Flag false, of_bool)
    valued (suc (suc x)) ty e = absurd (cc)

caller_leads_on : EachBlock (λ l k. EachLabel (Leads caller l k) (targets k.end.kind)) caller.blocks
caller_leads_on = ((on _ refl (omega arith) (record { outer = []; inner = []; is_around = refl; within = refl }), tt), (tt, tt))

caller_simple : IsSimple program.bodies caller
caller_simple = record {
  names = record { apart = simple.names.apart; none_is_new = simple.names.none_is_new };
  owns = simple.owns;
  fields = simple.fields;
  owned = simple.owned;
  valued = simple.valued;
  laid_out = record {
    entry = _;
    is_entry = refl;
    at_entry = refl;
    edges = λ l m k is named. label_found (Leads caller l k) (targets k.end.kind) m (block_found (λ l k. EachLabel (Leads caller l k) (targets k.end.kind)) caller.blocks l k caller_leads_on is) named;
  };
}

-- ---- the contract and the head

speaks : ContractSpeaks cleared is_false
speaks = record {
  count = refl;
  apart = λ i j x y e f q. same i j (param_number i x e).1 (param_number j y f).1;
  no_local = λ i x n m e f q. no_local x n m (param_number i n e).0 (local_number x m f).0 q;
  none_is_new = λ i n e. is_below_new n (is_below n.0 (param_number i n e).0);
  before = λ j t e. absurd (cc);
  over = post_over;
}
  where
    same : (i j : ℕ) → i ≡ 0 → j ≡ 0 → i ≡ j
    same i j e f = omega arith

    no_local : (x : ℕ) (n m : Name) → n.0 ≡ 10 → m.0 ≡ 100 + x → n.0 ≡ m.0 → ⊥
    no_local x n m e f q = absurd (omega arith)

    is_below : (m : ℕ) → m ≡ 10 → m < 200
    is_below m e = omega arith

    at_answer : (x : Name) → Each (λ t. free x t ≡ true → x.0 ≡ 11) is_false.post
    at_answer x = ((λ f. grind (arith, nat_tests, f)), tt)

    post_over : (j : ℕ) (t : Term) → slice_get is_false.post j ≡ Some t → (x : Name) → free x t ≡ true → (x.0 ≡ 11 → ⊥) → IsOneOf x is_false.params
    post_over zero t e x f d = absurd (d ((at_answer x).0 (subst (λ (u : Term). free x u ≡ true) (sym (same_Some _ _ e)) f)))
    post_over (suc j) t e x f d = absurd (cc)

caller_speaks : ContractSpeaks caller is_false
caller_speaks = record {
  count = refl;
  apart = speaks.apart;
  no_local = speaks.no_local;
  none_is_new = speaks.none_is_new;
  before = speaks.before;
  over = speaks.over;
}

abbrev SpeaksThere : Label → Block → Type 0
SpeaksThere l k = (h : Head) → k.head ≡ Some h → (j : ℕ) (t : Term) → slice_get h.invariants j ≡ Some t → (x : Name) → free x t ≡ true → IsOneOf x is_false.params ⊎ IsNameIn cleared (sets l.0 0) x

zero_apart : (n : ℕ) → (0 == suc n) ≡ false
zero_apart n = grind (arith, nat_tests)

-- what holds something before a block is not gone there, where the answer holds nothing at the entry
not_gone : (sets : ℕ → ℕ → Locals) → sets 0 0 0 ≡ false → (n x : ℕ) → sets n 0 x ≡ true → is_gone (program.gone 0) (label n) x ≡ false
not_gone sets empty zero zero inside = absurd (true≢false (sym inside ∙ empty))
not_gone sets empty zero (suc x) inside = ap (λ t. (t && true || false) || false) (zero_apart x)
not_gone sets empty (suc n) x inside = ap (λ t. (t && true) && ((0 == x) && true || false) || false) (zero_apart n)

heads_speak : HeadsSpeakOf cleared is_false (program.gone 0) (by_number sets)
heads_speak = record {
  over = λ l k h is is_head. block_found SpeaksThere cleared.blocks l k ((λ h e. absurd (cc)), (speaks_there, ((λ h e. absurd (cc)), ((λ h e. absurd (cc)), tt)))) is h is_head;
  there = λ l x inside. not_gone sets refl l.0 x inside;
}
  where
    one_of : (x : Name) (s t : Bool) → (x.0 == 100) ≡ s → (x.0 == 10) ≡ t → (s || (t || false)) ≡ true → IsOneOf x is_false.params ⊎ IsNameIn cleared (sets 1 0) x
    one_of x true t e f q = inr (0, refl, ap Some (sym (same_name x (name 100) (eqb-true x.0 100 e))))
    one_of x false true e f q = inl (0, ap Some (sym (same_name x (name 10) (eqb-true x.0 10 f))))
    one_of x false false e f q = absurd (true≢false (sym q))

    of_head : (j : ℕ) (t : Term) → slice_get head.invariants j ≡ Some t → (x : Name) → free x t ≡ true → IsOneOf x is_false.params ⊎ IsNameIn cleared (sets 1 0) x
    of_head zero t e x f = one_of x (x.0 == 100) (x.0 == 10) refl refl (subst (λ (u : Term). free x u ≡ true) (sym (same_Some _ _ e)) f)
    of_head (suc j) t e x f = absurd (cc)

    speaks_there : (h : Head) → Some head ≡ Some h → (j : ℕ) (t : Term) → slice_get h.invariants j ≡ Some t → (x : Name) → free x t ≡ true → IsOneOf x is_false.params ⊎ IsNameIn cleared (sets 1 0) x
    speaks_there h e = subst (λ (g : Head). (j : ℕ) (t : Term) → slice_get g.invariants j ≡ Some t → (x : Name) → free x t ≡ true → IsOneOf x is_false.params ⊎ IsNameIn cleared (sets 1 0) x)
        (same_Some _ _ e) of_head

caller_heads_speak : HeadsSpeakOf caller is_false (program.gone 1) (by_number caller_sets)
caller_heads_speak = record {
  over = λ l k h is is_head j t e x f. absurd (no_head l k h is is_head);
  there = λ l x inside. not_gone caller_sets refl l.0 x inside;
}
  where
    no_head : (l : Label) (k : Block) (h : Head) → block_in caller.blocks l ≡ Some k → k.head ≡ Some h → ⊥
    no_head l k h is is_head = block_found (λ l k. (h : Head) → k.head ≡ Some h → ⊥) caller.blocks l k ((λ h e. absurd (cc)), ((λ h e. absurd (cc)), tt)) is h is_head

pub no_more : (f : ℕ) (b : Body) → slice_get program.bodies.bodies (suc (suc f)) ≡ Some b → ⊥
no_more f b e = absurd (cc)

abbrev pub labelling : ℕ → Labelling
labelling zero = by_number sets
labelling (suc n) = by_number caller_sets

first_function : IsFunction program (labelling 0) 0 cleared
first_function = record { number = refl; typed = typed; moves = moves; contract = is_false; is_contract = refl; simple = simple; speaks = speaks; heads = heads_speak }

second_function : IsFunction program (labelling 1) 1 caller
second_function = record { number = refl; typed = caller_typed; moves = caller_moves; contract = is_false; is_contract = refl; simple = caller_simple; speaks = caller_speaks; heads = caller_heads_speak }

pub functions : AreFunctions program labelling
functions zero b e = subst (IsFunction program (labelling 0) 0) (same_Some _ _ e) first_function
functions (suc zero) b e = subst (IsFunction program (labelling 1) 1) (same_Some _ _ e) second_function
functions (suc (suc n)) b e = absurd (no_more n b e)

pub sample_sound : SampleIsSound
sample_sound = (labelling, functions)
