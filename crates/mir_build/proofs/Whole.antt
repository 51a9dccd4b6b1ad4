-- What the builder has written is a lowered body.
use Rattle.std.proofs.Common.{◌≡◌, refl, ap, sym, ◌∙◌, ℕ, zero, suc, ◌+◌, ◌^◌, ◌<◌, ◌≤◌, List, [], ◌∷◌, ◌++◌, map, get_or, length, Option, Some, None, append_assoc, append-nil, subst, arith}
use Rattle.std.specs.List.{slice_get}
use Rattle.std.proofs.lemmas.List.{length-map}
use Rattle.std.proofs.lemmas.Option.{slice_get_read}
use Rattle.text_core.specs.Names.{text_of}
use Rattle.logic_term.specs.declared.declaration.AdtDecl.{AdtDecl}
use Rattle.logic_term.specs.declared.kinds.Label.{Label}
use Rattle.logic_term.specs.declared.obligation.Contract.{Contract}
use Rattle.logic_term.specs.Ty.{Ty}
use Rattle.text_core.specs.declared.fault.PassError.{PassError}
use Rattle.text_core.specs.declared.fault.PassError.TheVariants as errors
use Rattle.mir_ir.specs.declared.body.Block.{Block as BasicBlock}
use Rattle.mir_ir.specs.declared.body.Body.{Body}
use Rattle.mir_ir.specs.declared.body.Initialised.{Initialised}
use Rattle.mir_ir.specs.declared.body.Point.{Point}
use Rattle.mir_ir.specs.declared.place.Place.{Place}
use Rattle.mir_ir.specs.declared.statement.Statement.{Statement}
use Rattle.mir_ir.specs.declared.terminator.Terminator.{Terminator}
use Rattle.mir_ir.specs.declared.terminator.TerminatorKind.TheVariants.{Return}
use Rattle.type_check.specs.declared.program.Signature.{Signature}
use Rattle.type_check.specs.declared.program.TypedFunction.{TypedFunction}
use Rattle.type_check.specs.TypedExprView.{span_of}
use Rattle.type_check.specs.declared.program.TypedProgram.{TypedProgram}
use Rattle.type_check.specs.Checked.{AllGood}
use Rattle.type_check.specs.FirstBad.{bad_in, bad_clause, bad_in_function, first_bad}
use Rattle.type_check.specs.WellTyped.{FunctionFits, EachFits, ProgramFits, signatures, surroundings_of}
use Rattle.mir_build.specs.declared.builder.BodyText.{BodyText}
use Rattle.mir_build.specs.declared.builder.Front.{Front as BuiltFront}
use Rattle.mir_build.specs.declared.builder.Front.TheVariants.{Block, Nowhere as BuiltNowhere}
use Rattle.mir_build.specs.Text.{Line, Puts, Makes, Turns, Leaves, Owns, Front, Stands, Nowhere, fresh, longer, close, closed, made, owned}
use Rattle.mir_build.specs.Lowering.{numbers, counted, named_body, entry_title, paired, all_locals, gone_at, around_body, whole, LowersTo, EachLowersTo, no_functions, and_function, HasContract, HasMoreBlocks, ends, blocks_in}
use Rattle.mir_build.specs.Numbered.{labels, label}
use Rattle.mir_build.specs.Built.{written, grown, ended}
use Rattle.mir_build.specs.Whole.{text_of_body, built, body_of, FailsFor}
use Rattle.mir_build.proofs.Accepted.{first_none, second_none}
use Rattle.mir_build.proofs.Numbers.{turns}
use Rattle.mir_build.proofs.Following.{From, range_from, paired_from}
use Rattle.mir_build.proofs.Order.{InOrder}
use Rattle.mir_build.proofs.Rows.{lowers_body, outside_loops}
use Rattle.mir_build.proofs.Fills.{body_fills}

-- ---- the parts of what is written

abbrev as_front : Front → BuiltFront
as_front (Stands o) = Block (record { label = o.title.label; nest = o.title.nest; head = o.title.head; statements = o.statements })
as_front Nowhere = BuiltNowhere

-- a text with this front
abbrev text_at : List (Label × BasicBlock) → Front → List Ty → List (Point × List Place) → BodyText
text_at bs o ts gs = record { blocks = bs; front = as_front o; locals = ts; gone = gs }

as_longer : (o : Front) (s : Statement) → grown (as_front o) s ≡ as_front (longer o s)
as_longer (Stands o) s = refl
as_longer Nowhere s = refl

as_ended : (o : Front) (t : Terminator) → ended (as_front o) t ≡ close o t
as_ended (Stands o) t = refl
as_ended Nowhere t = refl

-- the front behind a text
abbrev behind : Front → List Line → Front
behind o [] = o
behind o (Puts s ∷ xs) = behind (longer o s) xs
behind o (Makes x t ∷ xs) = behind o xs
behind o (Turns t b ∷ xs) = behind (fresh b) xs
behind o (Leaves t ∷ xs) = behind Nowhere xs
behind o (Owns l ys ∷ xs) = behind o xs

-- the end of the front is the last of the blocks
closed_end : (xs : List Line) (o : Front) (t : Terminator) → closed o (xs ++ Leaves t ∷ []) ≡ closed o xs ++ close (behind o xs) t
closed_end [] o t = append-nil (close o t)
closed_end (Puts s ∷ xs) o t = closed_end xs (longer o s) t
closed_end (Makes x u ∷ xs) o t = closed_end xs o t
closed_end (Turns u b ∷ xs) o t = ap (λ bs. close o u ++ bs) (closed_end xs (fresh b) t) ∙ sym (append_assoc (close o u) (closed (fresh b) xs) (close (behind (fresh b) xs) t))
closed_end (Leaves u ∷ xs) o t = ap (λ bs. close o u ++ bs) (closed_end xs Nowhere t) ∙ sym (append_assoc (close o u) (closed Nowhere xs) (close (behind Nowhere xs) t))
closed_end (Owns l ys ∷ xs) o t = closed_end xs o t

abbrev pub types : List Line → List Ty
types xs = map (λ (x : ℕ × Ty). x.1) (made xs)

written_parts : (xs : List Line) (bs : List (Label × BasicBlock)) (o : Front) (ts : List Ty) (gs : List (Point × List Place))
    → written xs (text_at bs o ts gs) ≡ text_at (bs ++ closed o xs) (behind o xs) (ts ++ types xs) (gs ++ map gone_at (owned xs))
written_parts [] bs o ts gs = λ i. text_at (sym (append-nil bs) i) o (sym (append-nil ts) i) (sym (append-nil gs) i)
written_parts (Puts s ∷ xs) bs o ts gs = (λ i. written xs (record { blocks = bs; front = as_longer o s i; locals = ts; gone = gs })) ∙ written_parts xs bs (longer o s) ts gs
written_parts (Makes n t ∷ xs) bs o ts gs = written_parts xs bs o (ts ++ t ∷ []) gs ∙ ap (λ us. text_at (bs ++ closed o xs) (behind o xs) us (gs ++ map gone_at (owned xs))) (append_assoc ts (t ∷ []) (types xs))
written_parts (Turns e b ∷ xs) bs o ts gs =
    (λ i. written xs (record { blocks = bs ++ as_ended o e i; front = as_front (fresh b); locals = ts; gone = gs })) ∙ written_parts xs (bs ++ close o e) (fresh b) ts gs
    ∙ ap (λ cs. text_at cs (behind (fresh b) xs) (ts ++ types xs) (gs ++ map gone_at (owned xs))) (append_assoc bs (close o e) (closed (fresh b) xs))
written_parts (Leaves e ∷ xs) bs o ts gs =
    (λ i. written xs (record { blocks = bs ++ as_ended o e i; front = BuiltNowhere; locals = ts; gone = gs })) ∙ written_parts xs (bs ++ close o e) Nowhere ts gs
    ∙ ap (λ cs. text_at cs (behind Nowhere xs) (ts ++ types xs) (gs ++ map gone_at (owned xs))) (append_assoc bs (close o e) (closed Nowhere xs))
written_parts (Owns l ys ∷ xs) bs o ts gs = written_parts xs bs o ts (gs ++ gone_at (l, ys) ∷ []) ∙ ap (λ hs. text_at (bs ++ closed o xs) (behind o xs) (ts ++ types xs) hs) (append_assoc gs (gone_at (l, ys) ∷ []) (map gone_at (owned xs)))

-- ---- locals

made_paired : (n : ℕ) (xs : List Line) → InOrder n xs → made xs ≡ paired n (types xs)
made_paired n [] h = refl
made_paired n (Puts s ∷ xs) h = made_paired n xs h
made_paired n (Makes x t ∷ xs) h = ap (λ y. (y, t) ∷ made xs) h.0 ∙ ap (λ ys. (n, t) ∷ ys) (made_paired (n + 1) xs h.1)
made_paired n (Turns e b ∷ xs) h = made_paired n xs h
made_paired n (Leaves e ∷ xs) h = made_paired n xs h
made_paired n (Owns l ys ∷ xs) h = made_paired n xs h

paired-append : (n m : ℕ) (ss ts : List Ty) → m ≡ n + length ss → paired n (ss ++ ts) ≡ paired n ss ++ paired m ts
paired-append n m [] ts q = let e : n ≡ m = omega (arith, q) in ap (λ k. paired k ts) e
paired-append n m (s ∷ ss) ts q = ap (λ xs. (n, s) ∷ xs) (paired-append (n + 1) m ss ts (omega (arith, q)))

-- all locals of a body by number
pub locals_paired : (f : TypedFunction) (xs : List Line) → InOrder (1 + length f.signature.params) xs → all_locals f xs ≡ paired 0 (f.signature.answer ∷ (f.signature.params ++ types xs))
locals_paired f xs h = ap (λ ys. (0, f.signature.answer) ∷ ys) (ap (λ ys. paired 1 f.signature.params ++ ys) (made_paired _ xs h) ∙ sym (paired-append 1 (1 + length f.signature.params) f.signature.params (types xs) refl))

pub length-paired : (n : ℕ) (ts : List Ty) → length (paired n ts) ≡ length ts
length-paired n [] = refl
length-paired n (t ∷ ts) = ap suc (length-paired (n + 1) ts)

abbrev value_or : {A : Type 0} → A → Option A → A
value_or d None = d
value_or d (Some x) = x

none_is_none : {A : Type 0} {x : A} → None ≡ Some x → ⊥
none_is_none h = cc

get_paired : (n : ℕ) (ts : List Ty) (i x : ℕ) (t : Ty) → slice_get (paired n ts) i ≡ Some (x, t) → (x ≡ n + i) × (slice_get ts i ≡ Some t)
get_paired n [] i x t h = absurd (none_is_none h)
get_paired n (s ∷ ts) zero x t h = let e : (n, s) ≡ (x, t) = ap (λ o. value_or (n, s) o) h in (omega (arith, ap (λ (p : ℕ × Ty). p.0) e), ap (λ (p : ℕ × Ty). Some p.1) e)
get_paired n (s ∷ ts) (suc i) x t h = let r = get_paired (n + 1) ts i x t h in (omega (arith, r.0), r.1)

get_at : (ts : List Ty) (i x : ℕ) (t : Ty) → slice_get (paired 0 ts) i ≡ Some (x, t) → slice_get ts x ≡ Some t
get_at ts i x t h = let r = get_paired 0 ts i x t h in let e : x ≡ i = omega (arith, r.0) in rw e r.1

-- ---- a whole body

length-counted : {A : Type 0} (n : ℕ) (xs : List A) → length (counted n xs) ≡ length xs
length-counted n [] = refl
length-counted n (x ∷ xs) = ap suc (length-counted (n + 1) xs)

is_for : (ds : List AdtDecl) (f : TypedFunction) → length f.signature.params ≡ length (around_body ds f).scope
is_for ds f = sym (length-map (counted 1 f.signature.params) whole ∙ length-counted 1 f.signature.params)

built_parts : (ds : List AdtDecl) (f : TypedFunction) → built ds f
    ≡ text_at (closed (fresh (entry_title (label 0))) (text_of_body ds f)) (behind (fresh (entry_title (label 0))) (text_of_body ds f)) (f.signature.answer ∷ (f.signature.params ++ types (text_of_body ds f))) (map gone_at (owned (text_of_body ds f)))
built_parts ds f = written_parts (text_of_body ds f) [] (fresh (entry_title (label 0))) (f.signature.answer ∷ f.signature.params) []

-- the blocks of what is built, when it has left
blocks_are : (ds : List AdtDecl) (f : TypedFunction) (t : Terminator) → (built ds f).blocks ++ ended (built ds f).front t ≡ closed (fresh (entry_title (label 0))) (text_of_body ds f ++ Leaves t ∷ [])
blocks_are ds f t =
    let o = fresh (entry_title (label 0)) in
    let text = text_of_body ds f in
    ap (λ (x : BodyText). x.blocks ++ ended x.front t) (built_parts ds f) ∙ ap (λ bs. closed o text ++ bs) (as_ended (behind o text) t) ∙ sym (closed_end text o t)

pub lowered : (ds : List AdtDecl) (σ : List Signature) (id : ℕ) (owner : List ℕ) (f : TypedFunction) → FunctionFits ds σ f → bad_in f.body ≡ None → length (built ds f).locals < 2 ^ 32 → LowersTo ds σ owner f (body_of σ id owner f (built ds f)) (record { gone = (built ds f).gone })
lowered ds σ id owner f w g few =
    let text = text_of_body ds f in
    let parts = built_parts ds f in
    let order = (body_fills f.body (around_body ds f) 1 (1 + length f.signature.params)).order in
    let row = lowers_body (surroundings_of ds σ f.signature) f.signature.params f.body (around_body ds f) 1 (1 + length f.signature.params) (is_for ds f) (λ e. absurd (outside_loops e)) w.body g in
    let all = locals_paired f text order in
    let ts : List Ty = f.signature.answer ∷ (f.signature.params ++ types text) in
    let same : (built ds f).locals ≡ ts = ap (λ (x : BodyText). x.locals) parts in
    record {
      text = text;
      into = row.0;
      blocks = blocks_are ds f (ends (span_of f.body) Return);
      labels_in_order = range_from 0 (0 ∷ named_body row.0) (refl, row.1);
      locals_in_order = range_from 0 (numbers (all_locals f text)) (subst (λ ms. From 0 (numbers ms)) (sym all) (paired_from 0 ts));
      locals = λ i x t h. ap (λ us. slice_get us x) same ∙ get_at ts i x t (sym (ap (λ ys. slice_get ys i) all) ∙ h);
      all = ap length same ∙ (sym (length-paired 0 ts) ∙ sym (ap length all));
      few = omega (arith, few);
      owner_is = refl;
      types = refl;
      outlives = refl;
      calls = refl;
      params = refl;
      names = refl;
      span = refl;
      types_at = refl;
      holds_nothing = ap (λ (x : BodyText). x.gone) parts;
    }

-- ---- how many blocks

abbrev pub standing : Front → ℕ
standing (Stands o) = 1
standing Nowhere = 0

close_count : (o : Front) (t : Terminator) (bs : List (Label × BasicBlock)) → length (close o t ++ bs) ≡ standing o + length bs
close_count (Stands o) t bs = omega arith
close_count Nowhere t bs = omega arith

standing_on : (o : Front) (s : Statement) → standing (longer o s) ≡ standing o
standing_on (Stands o) s = refl
standing_on Nowhere s = refl

pub closed_turns : (xs : List Line) (o : Front) (t : Terminator) → length (closed o (xs ++ Leaves t ∷ [])) ≡ standing o + turns xs
closed_turns [] o t = omega (arith, close_count o t [])
closed_turns (Puts s ∷ xs) o t = omega (arith, closed_turns xs (longer o s) t, standing_on o s)
closed_turns (Makes n u ∷ xs) o t = closed_turns xs o t
closed_turns (Turns e b ∷ xs) o t = omega (arith, close_count o e (closed (fresh b) (xs ++ Leaves t ∷ [])), closed_turns xs (fresh b) t)
closed_turns (Leaves e ∷ xs) o t = omega (arith, close_count o e (closed Nowhere (xs ++ Leaves t ∷ [])), closed_turns xs Nowhere t)
closed_turns (Owns l ys ∷ xs) o t = closed_turns xs o t

pub blocks_of : (ds : List AdtDecl) (σ : List Signature) (id : ℕ) (owner : List ℕ) (f : TypedFunction) → length (body_of σ id owner f (built ds f)).blocks ≡ 1 + labels f.body
blocks_of ds σ id owner f =
    let end = ends (span_of f.body) Return in
    omega (arith, ap length (blocks_are ds f end), closed_turns (text_of_body ds f) (fresh (entry_title (label 0))) end, (body_fills f.body (around_body ds f) 1 (1 + length f.signature.params)).turned)

pub more_blocks : (ds : List AdtDecl) (f : TypedFunction) → 4096 < 1 + labels f.body → 4096 < blocks_in (text_of_body ds f)
more_blocks ds f h = omega (arith, h, (body_fills f.body (around_body ds f) 1 (1 + length f.signature.params)).turned)

-- ---- programs

-- the function at the place fits
pub fits_at : (ds : List AdtDecl) (σ : List Signature) (fs : List TypedFunction) (i : ℕ) (f : TypedFunction) → EachFits ds σ fs → f ≡ get_or fs i f → i < length fs → FunctionFits ds σ f
fits_at ds σ [] i f w q h = absurd (omega arith)
fits_at ds σ (g ∷ fs) zero f w q h = rw q w.0
fits_at ds σ (g ∷ fs) (suc i) f w q h = fits_at ds σ fs i f w.1 q (omega arith)

-- none of its formulas is refused
pub good_at : (fs : List TypedFunction) (i : ℕ) (f : TypedFunction) → first_bad fs ≡ None → f ≡ get_or fs i f → i < length fs → bad_in_function f ≡ None
good_at [] i f w q h = absurd (omega arith)
good_at (g ∷ fs) zero f w q h = rw q (first_none (bad_in_function g) (first_bad fs) w)
good_at (g ∷ fs) (suc i) f w q h = good_at fs i f (second_none (bad_in_function g) (first_bad fs) w) q (omega arith)

pub clauses_good : (f : TypedFunction) → bad_in_function f ≡ None → bad_clause f.clauses ≡ None
clauses_good f e = first_none (bad_clause f.clauses) (bad_in f.body) e

pub body_good : (f : TypedFunction) → bad_in_function f ≡ None → bad_in f.body ≡ None
body_good f e = second_none (bad_clause f.clauses) (bad_in f.body) e

-- one function more
pub then_lower : (table : List (List ℕ)) (ds : List AdtDecl) (σ : List Signature) (n : ℕ) (fs : List TypedFunction) (bs : List Body) (cs : List Contract) (gs : List Initialised) (f : TypedFunction) (b : Body) (c : Contract) (g : Initialised) (owner : List ℕ)
    → EachLowersTo table ds σ n fs bs cs gs → text_of table f.name ≡ Some owner → LowersTo ds σ owner f b g → HasContract f c → b.id ≡ n + length bs → EachLowersTo table ds σ n (fs ++ f ∷ []) (bs ++ b ∷ []) (cs ++ c ∷ []) (gs ++ g ∷ [])
then_lower table ds σ n fs bs cs gs f b c g owner no_functions q w k i = and_function owner q w k (omega (arith, i)) no_functions
then_lower table ds σ n (h ∷ fs) bs cs gs f b c g owner (and_function {bs = ks} other p v l d rest) q w k i =
    and_function other p v l d (then_lower table ds σ (suc n) fs ks _ _ f b c g owner rest q w k (omega (arith, i)))

-- the function at the place has too many blocks
pub too_many : (ds : List AdtDecl) (p : TypedProgram) (i : ℕ) (f : TypedFunction) → f ≡ get_or p.functions i f → i < length p.functions → 4096 < 1 + labels f.body → ProgramFits ds p → AllGood p → HasMoreBlocks p 4096
too_many ds p i f q h more w g =
    let σ = signatures p.functions in
    let fits = fits_at ds σ p.functions i f w q h in
    record {
      function = f;
      place = i;
      is_function = slice_get_read p.functions (length p.functions) i f refl h q;
      types = ds;
      text = text_of_body ds f;
      into = (lowers_body (surroundings_of ds σ f.signature) f.signature.params f.body (around_body ds f) 1 (1 + length f.signature.params) (is_for ds f) (λ e. absurd (outside_loops e)) fits.body (body_good f (good_at p.functions i f g q h))).0;
      more = more_blocks ds f more;
    }

pub fails_for : (P Q : Type 0) (e : PassError) → (P → Q) → FailsFor P e → FailsFor Q e
fails_for P Q errors.NoMemory f h = tt
fails_for P Q (errors.Limit l) f h = (h.0, f h.1)
fails_for P Q (errors.Source e) f h = h

-- ---- what is answered

pub answered : (ds : List AdtDecl) (σ : List Signature) (id : ℕ) (owner : List ℕ) (f : TypedFunction) (x : BodyText) (b : Body) (g : Initialised) → x ≡ built ds f → b ≡ body_of σ id owner f x → g ≡ record { gone = x.gone }
    → length x.locals < 2 ^ 32 → FunctionFits ds σ f → bad_in f.body ≡ None → LowersTo ds σ b.owner f b g
answered ds σ id owner f x b g p q r few w k =
    let small : length (built ds f).locals < 2 ^ 32 = omega (arith, few, ap (λ (y : BodyText). length y.locals) p) in
    rw (q, r, p) (lowered ds σ id owner f w k small)

pub few_blocks : (ds : List AdtDecl) (σ : List Signature) (id : ℕ) (owner : List ℕ) (f : TypedFunction) (x : BodyText) (b : Body) → x ≡ built ds f → b ≡ body_of σ id owner f x → 1 + labels f.body ≤ 4096 → length b.blocks ≤ 4096
few_blocks ds σ id owner f x b p q few = rw (q, p) (omega (arith, few, blocks_of ds σ id owner f))
