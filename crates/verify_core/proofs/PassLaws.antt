-- What each pass needs, it is given; and where a pass refuses, the source is refused for a cause.
use Rattle.std.proofs.Common.{◌≡◌, ◌∙◌, refl, sym, ap, subst, ℕ, zero, suc, ◌+◌, ◌<◌, ◌≤◌, ◌⊎◌, inl, inr, List, [], ◌++◌, length, get_or, Some, None, Ok, Err, slice_get, add-one, arith}
use Rattle.std.proofs.lemmas.Bool.{cases_lt}
use Rattle.std.proofs.lemmas.List.{length-append, length-map}
use Rattle.std.proofs.lemmas.Option.{slice_get_read}
use Rattle.text_core.specs.declared.refusal.Limit.{Limit}
use Rattle.text_core.specs.declared.refusal.SourceError.{SourceError}
use Rattle.text_core.specs.declared.span.Span.{Span}
use Rattle.logic_term.specs.declared.declaration.AdtDecl.{AdtDecl}
use Rattle.logic_term.specs.declared.kinds.Label.{Label}
use Rattle.logic_term.specs.declared.obligation.Contract.{Contract}
use Rattle.logic_term.specs.declared.obligation.Obligation.{Obligation}
use Rattle.logic_term.specs.Ty.{Ty}
use Rattle.mir_ir.specs.declared.body.Contracts.{Contracts}
use Rattle.mir_ir.specs.declared.body.Body.{Body}
use Rattle.mir_ir.specs.declared.body.Initialised.{Initialised}
use Rattle.mir_ir.specs.declared.body.Resolves.{Resolves}
use Rattle.mir_ir.specs.Body.{no_resolves}
use Rattle.mir_ir.specs.declared.place.Operand.{Operand}
use Rattle.mir_ir.specs.declared.place.Place.{Place}
use Rattle.mir_ir.specs.declared.terminator.FnId.TheVariants.{Body as OfBody}
use Rattle.mir_ir.specs.declared.terminator.Callee.TheVariants.{Function}
use Rattle.mir_ir.specs.declared.terminator.TerminatorKind.{TerminatorKind}
use Rattle.mir_ir.specs.declared.terminator.TerminatorKind.TheVariants.{Call}
use Rattle.mir_ir.specs.WellFormed.{EndIsTyped}
use Rattle.proof_kernel.specs.declared.setting.Tables.{Tables}
use Rattle.text_core.specs.declared.fault.PassError.{PassError}
use Rattle.text_core.specs.declared.fault.PassError.TheVariants as errors
use Rattle.source_words.specs.Words.{GivesNames}
use Rattle.source_trees.specs.declared.item.Item.{Item}
use Rattle.rs_syntax.specs.Parsed.{functions_among, most_functions}
use Rattle.rs_types.specs.Checked.{IsFirst}
use Rattle.type_check.specs.declared.program.Signature.{Signature}
use Rattle.type_check.specs.declared.program.TypedFunction.{TypedFunction}
use Rattle.type_check.specs.declared.program.TypedProgram.{TypedProgram}
use Rattle.type_check.specs.Answers.{unbuilt, Refuses as TypesRefuse}
use Rattle.type_check.specs.Checked.{checked}
use Rattle.declared_types.specs.DeclaredTypes.{declared_types}
use Rattle.declared_types.specs.Declaring.{checks}
use Rattle.runnable.specs.Plain.{EachIsPlain}
use Rattle.runnable.specs.Unrun.{first_unrun}
use Rattle.runnable.proofs.Unrun.{each_is_plain}
use Rattle.type_check.specs.WellTyped.{ProgramFits, signatures}
use Rattle.mir_build.specs.declared.lowered.Lowered.{Lowered}
use Rattle.mir_build.specs.Laws.{Lowers}
use Rattle.mir_build.specs.Lowering.{EachLowersTo, IsLowered, HasMoreBlocks, no_functions, and_function}
use Rattle.mir_build.specs.Whole.{FailsFor, HaveFewBlocks}
use Rattle.mir_build.proofs.LawsOfPrograms.{bodies_are_laid_out}
use Rattle.wp_gen.specs.Paths.{HasPaths, HasMorePaths}
use Rattle.wp_gen.specs.Count.{LeavesRoom, AreSomeObligations}
use Rattle.prophecy_logic.specs.Graph.{Setting}
use Rattle.wp_gen.proofs.CountLaws.{have_obligations}
use Rattle.prophecy_logic.specs.Walkable.{CanWalk}
use Rattle.verify_core.specs.declared.fault.Refusal.{Refusal}
use Rattle.verify_core.specs.declared.fault.Refusal.TheVariants as refusals
use Rattle.prophecy_sim.specs.declared.node.Node.TheVariants.{Function as OfFunction}
use Rattle.verify_core.specs.declared.owed.Owed.{Owed}
use Rattle.verify_core.specs.Built.{SpellsBuilt, IsSourceError}
use Rattle.verify_core.specs.OnSource.{IsPastSomeLimit, RefusesProofs, Refuses}
use Rattle.verify_core.specs.Passes.{IsChecked, CanWalkAt, CanWalkAll, AddsOwed, AreLaidOut, HaveFewGoals, IsSettingAt, AreTooMany, IsGoalsError, IsPathsError}
use Rattle.verify_core.specs.declared.program.Program.{Program}
use Rattle.verify_core.specs.Prepared.{AreInOrder, HasItems, IsPrepared, IsTypedAs, setting_of, AreOfWalk, FunctionOwes, FunctionsOwe, HasManyPaths, HaveFewPaths, IsPastLimit, IsRefused, RefusesSource, most_paths, most_obligations}
use Rattle.verify_core.specs.Refusals.{refusal_of}
use Rattle.verify_core.specs.Owed.{owing}
use Rattle.verify_core.proofs.Assembly.{sound, gone_at}
use Rattle.verify_core.proofs.ReachLaws.{within, got}
use Rattle.verify_core.proofs.Verified.{typed_program_fits}
use Rattle.mir_ir.specs.declared.body.Bodies.{Bodies}
use Rattle.mir_ir.specs.Callees.{contract_at}
use Rattle.mir_ir.specs.declared.terminator.Callee.{Callee}
use Rattle.verify_core.proofs.Basics.{some_same}

-- ---- refusals

pub items_refused : (source : List ℕ) (table : List (List ℕ)) (e : PassError) → table ≡ [] → IsSourceError table source e → RefusesSource source (refusal_of e)
items_refused source table (errors.Source e) same is = IsRefused.by_form (subst (λ (t : List (List ℕ)). IsSourceError t source (errors.Source e)) same is)
items_refused source table (errors.Limit l) same is = IsPastLimit.functions (subst (λ (t : List (List ℕ)). IsSourceError t source (errors.Limit l)) same is)
items_refused source table errors.NoMemory same is = tt

pub has_items : (source : List ℕ) (old table : List (List ℕ)) (items : List Item) → old ≡ [] → SpellsBuilt old source items → functions_among items ≤ most_functions → GivesNames old source table → HasItems source table items
has_items source old table items same spelled few gives = record {
  spelled = subst (λ (t : List (List ℕ)). SpellsBuilt t source items) same spelled;
  few = few;
  gives = subst (λ (t : List (List ℕ)). GivesNames t source table) same gives;
}

-- for want of memory, or for the first check that does not hold
abbrev pub DeclarationsRefuse : List Item → PassError → Type 0
DeclarationsRefuse items e = (e ≡ errors.NoMemory) ⊎ ((r : SourceError) × (e ≡ errors.Source r) × IsFirst (declared_types items) (checks items) r)

pub declarations_refused : (source : List ℕ) (table : List (List ℕ)) (items : List Item) (e : PassError) → HasItems source table items → DeclarationsRefuse items e → RefusesSource source (refusal_of e)
declarations_refused source table items e has (inl is) = rw is tt
declarations_refused source table items e has (inr (r, is, first)) = rw is (IsRefused.by_declarations has first)

pub types_refused : (source : List ℕ) (table : List (List ℕ)) (items : List Item) (ds : List AdtDecl) (e : PassError) → HasItems source table items → (ds ≡ declared_types items) × AreInOrder items → TypesRefuse e (checked ds items) → RefusesSource source (refusal_of e)
types_refused source table items ds (errors.Source e) has (same, order) is = IsRefused.by_types has order (subst (λ (x : List AdtDecl). checked x items ≡ Err e) same is)
types_refused source table items ds (errors.Limit l) has declares is = absurd is
types_refused source table items ds errors.NoMemory has declares is = tt

pub typed_as : (source : List ℕ) (table : List (List ℕ)) (items : List Item) (typed : TypedProgram) (ds : List AdtDecl) → HasItems source table items → (ds ≡ declared_types items) × AreInOrder items → checked ds items ≡ Ok typed
    → first_unrun ds typed ≡ None → IsChecked source table typed ds
typed_as source table items typed ds has (same, order) is run = record {
  typed_as = record { items = items; has = has; in_order = order; is_typed = subst (λ (x : List AdtDecl). checked x items ≡ Ok typed) same is; all_run = subst (λ (x : List AdtDecl). first_unrun x typed ≡ None) same run };
  declares = same;
}

pub running_refused : (source : List ℕ) (table : List (List ℕ)) (items : List Item) (typed : TypedProgram) (ds : List AdtDecl) (place : Span) → HasItems source table items → (ds ≡ declared_types items) × AreInOrder items → checked ds items ≡ Ok typed
    → first_unrun ds typed ≡ Some place
    → RefusesSource source (refusals.Source (unbuilt place))
running_refused source table items typed ds place has (same, order) is stops = IsRefused.by_running has order (subst (λ (x : List AdtDecl). checked x items ≡ Ok typed) same is) (subst (λ (x : List AdtDecl). first_unrun x typed ≡ Some place) same stops) refl

pub lowered_with : (table : List (List ℕ)) (ds es : List AdtDecl) (typed : TypedProgram) (l : Lowered) → ds ≡ es → IsLowered table ds typed l → IsLowered table es typed l
lowered_with table ds es typed l same lowered = subst (λ (x : List AdtDecl). IsLowered table x typed l) same lowered

-- what is lowered with the types that the source declares
abbrev pub lowered_as : (source : List ℕ) (table : List (List ℕ)) (typed : TypedProgram) (ds : List AdtDecl) (l : Lowered) (h : IsChecked source table typed ds) → IsLowered table ds typed l → IsLowered table (declared_types h.typed_as.items) typed l
lowered_as source table typed ds l h = subst (λ (x : List AdtDecl). IsLowered table x typed l) h.declares

pub fits_of : (source : List ℕ) (table : List (List ℕ)) (typed : TypedProgram) → (t : IsTypedAs source table typed) → ProgramFits (declared_types t.items) typed
fits_of source table typed t = typed_program_fits (declared_types t.items) t.items typed t.is_typed

pub plain_of : (source : List ℕ) (table : List (List ℕ)) (typed : TypedProgram) (ds : List AdtDecl) → IsChecked source table typed ds → EachIsPlain ds typed.functions
plain_of source table typed ds h =
    let t = h.typed_as in
    subst (λ (x : List AdtDecl). EachIsPlain x typed.functions) (sym h.declares) (each_is_plain (declared_types t.items) typed.functions t.all_run)

pub lowering_refused : (source : List ℕ) (table : List (List ℕ)) (typed : TypedProgram) (e : PassError) → IsTypedAs source table typed → FailsFor (HasMoreBlocks typed 4096) e → RefusesSource source (refusal_of e)
lowering_refused source table typed (errors.Source e) t fails = absurd fails
lowering_refused source table typed (errors.Limit l) t (is, more) = subst (λ (m : Limit). IsPastLimit source m) (sym is) (IsPastLimit.blocks t more)
lowering_refused source table typed errors.NoMemory t fails = tt

pub obligations_refused : (source : List ℕ) (table : List (List ℕ)) (typed : TypedProgram) (ds : List AdtDecl) (l : Lowered) (limit : Limit) → IsChecked source table typed ds → IsLowered table ds typed l → HaveFewBlocks l.bodies → HaveFewPaths l.bodies → IsGoalsError l limit
    → IsPastLimit source limit
obligations_refused source table typed ds l limit h lowered blocks paths (many, is) =
    subst (λ (m : Limit). IsPastLimit source m) (sym is) (IsPastLimit.obligations h.typed_as (lowered_as source table typed ds l h lowered) blocks paths many.owe many.many)

-- ---- declarations

abbrev with_types : List AdtDecl → Tables
with_types adts = record { adts = adts }

-- the tables have the declared types of the program
pub tables_are : (table : List (List ℕ)) (ds : List AdtDecl) (typed : TypedProgram) (l : Lowered) (adts : List AdtDecl) → IsLowered table ds typed l → adts ≡ ds → with_types adts ≡ with_types l.bodies.decls
tables_are table ds typed l adts lowered is = ap with_types (is ∙ sym lowered.decls)

-- ---- bodies that can be walked

module _ (table : List (List ℕ)) where
  as_many : (ds : List AdtDecl) (σ : List Signature) (n : ℕ) (fs : List TypedFunction) (bs : List Body) (cs : List Contract) (gones : List Initialised) → EachLowersTo table ds σ n fs bs cs gones → (length cs ≡ length bs) × (length gones ≡ length bs)
  as_many _ _ _ _ _ _ _ no_functions = (refl, refl)
  as_many _ _ _ _ _ _ _ (and_function owner named lowers contract numbered rest) = let r = as_many _ _ _ _ _ _ _ rest in (ap suc r.0, ap suc r.1)

  known : (bs : Bodies) (cs : Contracts) (b : Body) (p : Place) (callee : Callee) (types : List Ty) (args : List Operand) (m : Label) (kind : TerminatorKind) → length cs.of ≡ length bs.bodies → EndIsTyped bs b kind → kind ≡ Call p callee types args m
      → ((d : Contract) × (contract_at cs callee ≡ Some d)) × ((t : Ty) × (slice_get b.locals p.local ≡ Some t))
  known bs cs b p (Function (OfBody f)) types args m kind same typed is =
      let call : EndIsTyped bs b (Call p (Function (OfBody f)) types args m) = subst (λ (k : TerminatorKind). EndIsTyped bs b k) is typed in
      let inside : f < length cs.of = subst (λ (k : ℕ). f < k) (sym same) (within bs.bodies f call.0.0 call.0.2) in
      (got cs.of f inside, (call.0.1, call.0.5.1))

  pub walkable : (ds : List AdtDecl) (typed : TypedProgram) (l : Lowered) → IsLowered table ds typed l → ProgramFits ds typed → EachIsPlain ds typed.functions → CanWalkAll l
  walkable ds typed l lowered fits plain =
      let lowers : Lowers table ds typed.functions l.bodies l.contracts l.gone = record { lowers = lowered; fits = fits; plain = plain } in
      let sizes = as_many ds (signatures typed.functions) 0 typed.functions l.bodies.bodies l.contracts.of l.gone lowered.each in
      record {
        contracts = sizes.0;
        gone = sizes.1;
        numbered = λ n b is_body. (sound table ds typed.functions l.bodies l.contracts l.gone lowers n b is_body).2;
        walk = λ n b c is_body is_contract. record {
          laid_out = bodies_are_laid_out table ds typed.functions l.bodies l.contracts l.gone lowers n b is_body;
          calls = λ label k p callee types args m is_block ends.
              let found = known l.bodies l.contracts b p callee types args m k.end.kind sizes.0 ((sound table ds typed.functions l.bodies l.contracts l.gone lowers n b is_body).0.ends label k is_block) ends in
              record { contract = found.0; answer = found.1 };
        };
      }

  pub laid_out : (ds : List AdtDecl) (typed : TypedProgram) (l : Lowered) → IsLowered table ds typed l → ProgramFits ds typed → EachIsPlain ds typed.functions → AreLaidOut l.bodies
  laid_out ds typed l lowered fits plain n b is = bodies_are_laid_out table ds typed.functions l.bodies l.contracts l.gone (record { lowers = lowered; fits = fits; plain = plain }) n b is

-- ---- one function

pub read_at : {A : Type 0} (ys xs : List A) (n : ℕ) (x : A) → ys ≡ xs → x ≡ get_or ys n x → n < length xs → slice_get xs n ≡ Some x
read_at {A} ys xs n x e is inside = slice_get_read xs (length xs) n x refl inside (subst (λ (zs : List A). x ≡ get_or zs n x) e is)

pub setting_at : (l : Lowered) (n : ℕ) (b : Body) (cs : Contracts) (c : Contract) (g : Initialised) (r : Resolves) (ds : List AdtDecl) → slice_get l.bodies.bodies n ≡ Some b → cs ≡ l.contracts → slice_get l.contracts.of n ≡ Some c → slice_get l.gone n ≡ Some g
    → r ≡ no_resolves → ds ≡ l.bodies.decls → IsSettingAt l n (record { body = b; contracts = cs; contract = c; init = g; resolves = r; decls = ds })
setting_at l n b cs c g r ds is_body same is_contract is_gone is_none are_decls = record {
  body = is_body;
  contract = is_contract;
  contracts = same;
  gone = sym (gone_at l.gone n g is_gone);
  resolves = is_none;
  decls = are_decls;
}

same_setting : (l : Lowered) (n : ℕ) (w : Setting) → IsSettingAt l n w → w ≡ setting_of l.bodies l.contracts l.gone n w.body w.contract
same_setting l n w at = λ i. record {
  body = w.body;
  contracts = at.contracts i;
  contract = w.contract;
  init = at.gone i;
  resolves = at.resolves i;
  decls = at.decls i;
}

pub walk_at : (l : Lowered) (n : ℕ) (w : Setting) → CanWalkAt l n → IsSettingAt l n w → CanWalk w
walk_at l n w can at = subst CanWalk (sym (same_setting l n w at)) (can w.body w.contract at.body at.contract)

-- obligations of the walk are those of the function, and the other way round
function_owes : (l : Lowered) (n : ℕ) (w : Setting) (os : List Obligation) → IsSettingAt l n w → AreOfWalk w os → FunctionOwes l.bodies l.contracts l.gone n os
function_owes l n w os at are = record {
  body = w.body;
  is_body = at.body;
  contract = w.contract;
  is_contract = at.contract;
  of_walk = subst (λ (v : Setting). AreOfWalk v os) (same_setting l n w at) are;
}

of_walk_at : (l : Lowered) (n : ℕ) (w : Setting) (os : List Obligation) → IsSettingAt l n w → FunctionOwes l.bodies l.contracts l.gone n os → AreOfWalk w os
of_walk_at l n w os at owes =
    let of : Body → Contract → Setting = setting_of l.bodies l.contracts l.gone n in
    let with_body = subst (λ (b : Body). AreOfWalk (of b owes.contract) os) (some_same (sym owes.is_body ∙ at.body)) owes.of_walk in
    let with_contract = subst (λ (c : Contract). AreOfWalk (of w.body c) os) (some_same (sym owes.is_contract ∙ at.contract)) with_body in
    subst (λ (v : Setting). AreOfWalk v os) (sym (same_setting l n w at)) with_contract

-- the walk's obligations, as those of the function that has this number
pub adds_owed : (l : Lowered) (n : ℕ) (w : Setting) (os : List Obligation) (before after : List Owed) → CanWalkAll l → IsSettingAt l n w → AreOfWalk w os → after ≡ before ++ owing (OfFunction w.body.id) os → AddsOwed l n before after
adds_owed l n w os before after can at are is =
    (os, function_owes l n w os at are, is ∙ ap (λ (k : ℕ). before ++ owing (OfFunction k) os) (can.numbered n w.body at.body))

-- ---- paths

abbrev pub FewBefore : Bodies → ℕ → Type 0
FewBefore bs i = (n : ℕ) (b : Body) → slice_get bs.bodies n ≡ Some b → n < i → (m : ℕ) × HasPaths b [] b.entry m × (m ≤ most_paths)

pub few_at_first : (bs : Bodies) (i : ℕ) → i ≡ 0 → FewBefore bs i
few_at_first bs i z n b is inside = absurd (omega arith)

pub few_more : (bs : Bodies) (i : ℕ) (b : Body) → slice_get bs.bodies i ≡ Some b → (m : ℕ) × HasPaths b [] b.entry m × (m ≤ most_paths) → FewBefore bs i → FewBefore bs (i + 1)
few_more bs i b is few before n c is_c inside = either (cases_lt n i)
  where
    Few : Type 0
    Few = (m : ℕ) × HasPaths c [] c.entry m × (m ≤ most_paths)

    either : (n < i) ⊎ (i ≤ n) → Few
    either (inl below) = before n c is_c below
    either (inr above) =
        let last : n ≡ i = omega arith in
        let same : b ≡ c = some_same (sym is ∙ subst (λ (k : ℕ). slice_get bs.bodies k ≡ Some c) last is_c) in
        subst (λ (x : Body). (m : ℕ) × HasPaths x [] x.entry m × (m ≤ most_paths)) same few

pub few_in_all : (bs : Bodies) (i : ℕ) → length bs.bodies ≤ i → FewBefore bs i → HaveFewPaths bs
few_in_all bs i past before n b is = before n b is (omega (arith, within bs.bodies n b is))

pub many_at : (bs : Bodies) (i : ℕ) (b : Body) → slice_get bs.bodies i ≡ Some b → HasMorePaths b [] b.entry 1025 → HasManyPaths bs
many_at bs i b is more = record { place = i; body = b; is_body = is; more = more }

pub paths_refused : (source : List ℕ) (table : List (List ℕ)) (typed : TypedProgram) (ds : List AdtDecl) (l : Lowered) (limit : Limit) → IsChecked source table typed ds → IsLowered table ds typed l → HaveFewBlocks l.bodies → IsPathsError l.bodies limit → IsPastLimit source limit
paths_refused source table typed ds l limit h lowered blocks (many, is) =
    subst (λ (m : Limit). IsPastLimit source m) (sym is) (IsPastLimit.paths h.typed_as (lowered_as source table typed ds l h lowered) blocks many)

-- ---- sources and proofs

pub source_refused : (source proofs : List ℕ) (r : Refusal) → RefusesSource source r → Refuses source proofs r
source_refused source proofs (refusals.Source e) is = is
source_refused source proofs (refusals.Proof n) is = absurd is
source_refused source proofs (refusals.Limit l) is = IsPastSomeLimit.of_source is
source_refused source proofs refusals.NoMemory is = tt

pub proofs_refused : (source proofs : List ℕ) (p : Program) (r : Refusal) → IsPrepared source p → RefusesProofs proofs r → Refuses source proofs r
proofs_refused source proofs p (refusals.Source e) prepared is = absurd is
proofs_refused source proofs p (refusals.Proof n) prepared is = ((p, prepared), is)
proofs_refused source proofs p (refusals.Limit l) prepared (many, is) = subst (λ (m : Limit). IsPastSomeLimit source proofs m) (sym is) (IsPastSomeLimit.of_proofs p prepared many)
proofs_refused source proofs p refusals.NoMemory prepared is = tt

-- ---- one function more

pub one_more_owes : (l : Lowered) (n : ℕ) (before after : List Owed) → FunctionsOwe l.bodies l.contracts l.gone n before → AddsOwed l n before after → FunctionsOwe l.bodies l.contracts l.gone (n + 1) after
one_more_owes l n before after owe (os, own, is) = rw (add-one, is) (FunctionsOwe.and_function owe own)

pub all_owe : (l : Lowered) (n : ℕ) (owed : List Owed) → length l.bodies.bodies ≤ n → n ≤ length l.bodies.bodies → FunctionsOwe l.bodies l.contracts l.gone n owed → FunctionsOwe l.bodies l.contracts l.gone (length l.bodies.bodies) owed
all_owe l n owed past within_all owe =
    let same : n ≡ length l.bodies.bodies = omega arith in
    subst (λ (k : ℕ). FunctionsOwe l.bodies l.contracts l.gone k owed) same owe

-- ---- the room for obligations

-- what is left after whatever obligations the first functions have
abbrev pub RoomBefore : Lowered → ℕ → ℕ → Type 0
RoomBefore l n left = (owed : List Owed) → FunctionsOwe l.bodies l.contracts l.gone n owed → left + length owed ≡ most_obligations

pub all_room : (l : Lowered) → RoomBefore l 0 most_obligations
all_room l _ FunctionsOwe.none = omega arith

more_in : (front : List Owed) (n : ℕ) (os : List Obligation) → length (front ++ owing (OfFunction n) os) ≡ length front + length os
more_in front n os = length-append front (owing (OfFunction n) os) ∙ ap (λ (k : ℕ). length front + k) (length-map os (λ (o : Obligation). record { by = OfFunction n; obligation = o }))

some_obligations : (w : Setting) (os : List Obligation) → AreOfWalk w os → AreSomeObligations w os
some_obligations w os are = (1, are)

room_behind : (l : Lowered) (n : ℕ) (w : Setting) (left rest : ℕ) → IsSettingAt l n w → RoomBefore l n left → LeavesRoom (AreSomeObligations w) left (Some rest) → RoomBefore l (suc n) rest
room_behind l n w left rest at before leaves _ (FunctionsOwe.and_function {owed} {os} first own) =
    omega (arith, more_in owed n os, before owed first, leaves os (some_obligations w os (of_walk_at l n w os at own)))

pub room_before_next : (l : Lowered) (n : ℕ) (w : Setting) (left rest : ℕ) → IsSettingAt l n w → RoomBefore l n left → LeavesRoom (AreSomeObligations w) left (Some rest) → RoomBefore l (n + 1) rest
room_before_next l n w left rest at before leaves = rw add-one (room_behind l n w left rest at before leaves)

-- the function of this place owes something
owes_some : (l : Lowered) (n : ℕ) (w : Setting) → CanWalkAll l → IsSettingAt l n w → (os : List Obligation) × AreOfWalk w os
owes_some l n w can at =
    let o = have_obligations w 1 (walk_at l n w (can.walk n) at) in
    (o.0, o.1)

-- the first functions owe something
owe_some : (l : Lowered) (n : ℕ) → CanWalkAll l → n ≤ length l.bodies.bodies → (owed : List Owed) × FunctionsOwe l.bodies l.contracts l.gone n owed
owe_some l zero can within = ([], FunctionsOwe.none)
owe_some l (suc n) can inside =
    let r = owe_some l n can (omega (arith, inside)) in
    let b = got l.bodies.bodies n (omega (arith, inside)) in
    let c = got l.contracts.of n (omega (arith, inside, can.contracts)) in
    let w : Setting = setting_of l.bodies l.contracts l.gone n b.0 c.0 in
    let at : IsSettingAt l n w = record { body = b.1; contract = c.1; contracts = refl; gone = refl; resolves = refl; decls = refl } in
    let o = owes_some l n w can at in
    (r.0 ++ owing (OfFunction n) o.0, FunctionsOwe.and_function r.1 (function_owes l n w o.0 at o.1))

pub too_many : (l : Lowered) (n : ℕ) (w : Setting) (left : ℕ) → CanWalkAll l → n < length l.bodies.bodies → IsSettingAt l n w → RoomBefore l n left → LeavesRoom (AreSomeObligations w) left None → AreTooMany l
too_many l n w left can inside at before leaves =
    let r = owe_some l n can (omega (arith, inside)) in
    let o = owes_some l n w can at in
    record {
      functions = suc n;
      owed = r.0 ++ owing (OfFunction n) o.0;
      owe = FunctionsOwe.and_function r.1 (function_owes l n w o.0 at o.1);
      many = omega (arith, more_in r.0 n o.0, before r.0 r.1, leaves o.0 (some_obligations w o.0 o.1));
    }

pub few_goals : (l : Lowered) (n left : ℕ) → length l.bodies.bodies ≤ n → n ≤ length l.bodies.bodies → RoomBefore l n left → HaveFewGoals l
few_goals l n left past within_all before owed are =
    let same : length l.bodies.bodies ≡ n = omega arith in
    omega (arith, before owed (subst (λ (k : ℕ). FunctionsOwe l.bodies l.contracts l.gone k owed) same are))
