-- A checked program fits, and no formula of it is refused.
use Rattle.std.proofs.Common.{◌≡◌, ◌∙◌, ℕ, zero, suc, false, List, [], ◌∷◌, length, map, Option, Some, None, Result, Ok, Err, refl, ap, ap₂, sym, subst}
use Rattle.std.specs.Prelude.{IfOk, slice_get}
use Rattle.text_core.specs.declared.refusal.SourceError.{SourceError}
use Rattle.text_core.specs.declared.span.Span.{Span}
use Rattle.logic_term.specs.declared.declaration.AdtDecl.{AdtDecl}
use Rattle.logic_term.specs.Ty.{Ty}
use Rattle.text_core.specs.declared.fault.PassError.{PassError}
use Rattle.source_trees.specs.declared.attribute.Attribute.{Attribute}
use Rattle.source_trees.specs.declared.attribute.AttributeNode.{AttributeNode}
use Rattle.source_trees.specs.declared.attribute.AttributeNode.TheVariants as A
use Rattle.source_trees.specs.declared.attribute.ClauseKind.TheVariants as clause
use Rattle.source_trees.specs.declared.item.Body.{Body}
use Rattle.source_trees.specs.declared.item.Body.TheVariants as body
use Rattle.source_trees.specs.declared.item.Function.{Function}
use Rattle.source_trees.specs.declared.item.Item.{Item}
use Rattle.source_trees.specs.declared.item.ItemNode.{ItemNode}
use Rattle.source_trees.specs.declared.item.ItemNode.TheVariants as item
use Rattle.source_trees.specs.declared.param.Param.{Param}
use Rattle.source_trees.specs.declared.param.ParamNode.{ParamNode}
use Rattle.source_trees.specs.declared.param.ParamNode.TheVariants as param
use Rattle.source_trees.specs.Pterm.{Pterm}
use Rattle.type_check.specs.declared.heading.Heading.{Heading}
use Rattle.type_check.specs.declared.program.ClauseKind.{ClauseKind}
use Rattle.type_check.specs.declared.program.ClauseKind.TheVariants.{Requires, Ensures}
use Rattle.type_check.specs.declared.program.Signature.{Signature}
use Rattle.type_check.specs.declared.program.TypedClause.{TypedClause}
use Rattle.type_check.specs.declared.program.TypedFunction.{TypedFunction}
use Rattle.type_check.specs.declared.program.TypedProgram.{TypedProgram}
use Rattle.type_check.specs.declared.scope.Variable.{Variable}
use Rattle.type_check.specs.Answers.{◌>>=◌, Answers, absent, each, with_some, gather}
use Rattle.type_check.specs.Checked.{type_of, signature_by, heading_of, skipped, declares_by, declares, heard, clause_by, clause_of, typed_body, typed_function, typed_by, typed_item, types_at, unless, program_of, typed_items, checked, AllGood}
use Rattle.type_check.specs.FirstBad.{first_bad}
use Rattle.type_check.specs.Setting.{Setting}
use Rattle.type_check.specs.Terms.{assertion}
use Rattle.type_check.specs.TypedExpr.{TypedExpr}
use Rattle.type_check.specs.WellTyped.{IsBuilt, AllBuilt, ClauseSpeaksOf, ClausesSpeak, FunctionFits, EachFits, ProgramFits, signatures}
use Rattle.type_check.specs.Written.{answer_ty, param_by, param_of, written_type}
use Rattle.type_check.proofs.Bound.{bound, yes, same_ok}
use Rattle.type_check.proofs.Fits.{Sound, Around, MayAsk, typed_sound}
use Rattle.type_check.proofs.Lookups.{types, signatures_at}
use Rattle.type_check.proofs.Speaking.{assertion_speaks, assertion_speaks_of_answer}
use Rattle.type_check.proofs.WrittenTypes.{type_built, answer_built}

-- ---- signatures

param_is_built : (ds : List AdtDecl) (s : Span) (n : ParamNode) (v : Variable) → param_by ds s n ≡ Ok v → IsBuilt v.ty
param_is_built ds s (param.Named m x w) v p =
    let t = bound (written_type ds w) _ v p in
    let u : Variable = record { name = x.name; ty = t.0; mutable = m } in
    let q : u ≡ v = same_ok _ _ t.2 in
    subst (λ (v : Variable). IsBuilt v.ty) q (type_built ds w t.0 t.1)
param_is_built ds s n v p = absurd (cc)

of_param : (ds : List AdtDecl) (q : Param) (v : Variable) → param_of ds q ≡ Ok v → IsBuilt v.ty
unfolding param_of
of_param ds q v p = param_is_built ds q.span q.node v p

all_built : (ds : List AdtDecl) (ps : List Param) (Γ : List Variable) → each (param_of ds) ps ≡ Ok Γ → AllBuilt (map type_of Γ)
all_built ds [] Γ p = subst (λ (Γ : List Variable). AllBuilt (map type_of Γ)) (same_ok _ _ p) tt
all_built ds (q ∷ ps) Γ p =
    let v = bound (param_of ds q) _ Γ p in
    let Δ = bound (each (param_of ds) ps) _ Γ v.2 in
    subst (λ (Γ : List Variable). AllBuilt (map type_of Γ)) (same_ok _ _ Δ.2) (of_param ds q v.0 v.1, all_built ds ps Δ.0 Δ.1)

lengths : (Γ : List Variable) → length Γ ≡ length (types Γ)
lengths [] = refl
lengths (v ∷ Γ) = ap suc (lengths Γ)

-- ---- clauses

abbrev SomeSpeaks : Option TypedClause → List Variable → Type 0
SomeSpeaks None Γ = Unit {0}
SomeSpeaks (Some c) Γ = ClauseSpeaksOf (length Γ) c.kind c.formula

same_some : (o p : Option TypedClause) → yes o ≡ Ok p → o ≡ p
same_some o p q = same_ok _ _ q

kind_speaks : (ds : List AdtDecl) (u : Ty) (Γ : List Variable) (k : ClauseKind) (t : Pterm) → ClauseSpeaksOf (length Γ) k (assertion ds (heard k (Some u)) Γ t)
kind_speaks ds u Γ Requires t = assertion_speaks ds Γ t
kind_speaks ds u Γ Ensures t = assertion_speaks_of_answer ds u Γ t

clause_speaks : (ds : List AdtDecl) (u : Ty) (Γ : List Variable) (s : Span) (n : AttributeNode) (o : Option TypedClause) → clause_by ds (Some u) Γ s n ≡ Ok o → SomeSpeaks o Γ
clause_speaks ds u Γ s (A.Clause clause.Requires t) o p = subst (λ o. SomeSpeaks o Γ) (same_some _ o p) (kind_speaks ds u Γ Requires t)
clause_speaks ds u Γ s (A.Clause clause.Ensures t) o p = subst (λ o. SomeSpeaks o Γ) (same_some _ o p) (kind_speaks ds u Γ Ensures t)
clause_speaks ds u Γ s A.Skipped o p = subst (λ o. SomeSpeaks o Γ) (same_some None o p) tt
clause_speaks ds u Γ s n o p = absurd (cc)

attribute_speaks : (ds : List AdtDecl) (u : Ty) (Γ : List Variable) (a : Attribute) (o : Option TypedClause) → clause_of ds (Some u) Γ a ≡ Ok o → SomeSpeaks o Γ
unfolding clause_of
attribute_speaks ds u Γ a o p = clause_speaks ds u Γ a.span a.node o p

joined_speak : (Γ : List Variable) (o : Option TypedClause) (rest : List TypedClause) → SomeSpeaks o Γ → ClausesSpeak (length Γ) rest → ClausesSpeak (length Γ) (with_some o rest)
joined_speak Γ None rest h k = k
joined_speak Γ (Some c) rest h k = (h, k)

clauses_speak : (ds : List AdtDecl) (u : Ty) (Γ : List Variable) (as' : List Attribute) (cs : List TypedClause) → gather (clause_of ds (Some u) Γ) as' ≡ Ok cs → ClausesSpeak (length Γ) cs
clauses_speak ds u Γ [] cs p = subst (ClausesSpeak (length Γ)) (same_ok _ _ p) tt
clauses_speak ds u Γ (a ∷ as') cs p =
    let o = bound (clause_of ds (Some u) Γ a) _ cs p in
    let rest = bound (gather (clause_of ds (Some u) Γ) as') _ cs o.2 in
    subst (ClausesSpeak (length Γ)) (same_ok _ _ rest.2) (joined_speak Γ o.0 rest.0 (attribute_speaks ds u Γ a o.0 o.1) (clauses_speak ds u Γ as' rest.0 rest.1))

-- ---- functions

body_sound : (σ : Setting) (Γ : List Variable) (t : Option Ty) (own : Span) (b : Body) (e : TypedExpr) → Around σ Γ → MayAsk t → typed_body σ Γ t own b ≡ Ok e → Sound σ Γ t e
body_sound σ Γ t own (body.Block a) e h k p = typed_sound σ Γ a t e h k p
body_sound σ Γ t own b e h k p = absurd (cc)

-- the types of a function are built
abbrev HasBuilt : Signature → Type 0
HasBuilt g = AllBuilt g.params × IsBuilt g.answer

abbrev HeadsBuilt : List Heading → Type 0
HeadsBuilt [] = Unit {0}
HeadsBuilt (h ∷ hs) = HasBuilt h.signature × HeadsBuilt hs

heads_at : (hs : List Heading) (j : ℕ) (g : Signature) → HeadsBuilt hs → slice_get (signatures_at hs) j ≡ Some g → HasBuilt g
heads_at [] j g h p = absurd (cc)
heads_at (k ∷ hs) zero g h p = let q : k.signature ≡ g = cc in subst HasBuilt q h.0
heads_at (k ∷ hs) (suc j) g h p = heads_at hs j g h.1 p

module _ (ds : List AdtDecl) where
  -- what a function is typed as fits, and has the signature of the parameters and the answer that are written
  abbrev IsOf : Function → Signature → Type 0
  IsOf f g = (Γ : List Variable) × (t : Ty) × (each (param_of ds) f.params ≡ Ok Γ) × (answer_ty ds f.answer ≡ Ok t) × (g ≡ signature_by Γ t)

  function_fits : (σ : List Heading) (own : Span) (as' : List Attribute) (f : Function) (g : TypedFunction) → HeadsBuilt σ → typed_function ds σ own as' f ≡ Ok g → FunctionFits ds (signatures_at σ) g × IsOf f g.signature
  unfolding typed_function
  function_fits σ own as' f g hs p =
      let Γ = bound (each (param_of ds) f.params) _ g p in
      let t = bound (answer_ty ds f.answer) _ g Γ.2 in
      let cs = bound (gather (clause_of ds (Some t.0) Γ.0) as') _ g t.2 in
      let here : Setting = record { types = ds; headings = σ; answer = t.0; in_loop = false } in
      let e = bound (typed_body here Γ.0 (Some t.0) own f.body) _ g cs.2 in
      let params = all_built ds f.params Γ.0 Γ.1 in
      let answer = answer_built ds f.answer t.0 t.1 in
      let s = body_sound here Γ.0 (Some t.0) own f.body e.0 (record { functions = λ j g q. heads_at σ j g hs q; variables = params; answer = answer }) answer e.1 in
      let h : TypedFunction = record { name = f.name.name; span = f.name.span; signature = signature_by Γ.0 t.0; types_at = types_at f; clauses = cs.0; body = e.0 } in
      let q : h ≡ g = same_ok _ _ e.2 in
      let fits : FunctionFits ds (signatures_at σ) h = record {
        params = params;
        answer = answer;
        clauses = subst (λ n. ClausesSpeak n cs.0) (lengths Γ.0) (clauses_speak ds t.0 Γ.0 as' cs.0 cs.1);
        body = s.well;
        of_answer = s.meets;
      } in
      (subst (FunctionFits ds (signatures_at σ)) q fits, (Γ.0, t.0, Γ.1, t.1, ap (λ (h : TypedFunction). h.signature) (sym q)))

  heading_is : (f : Function) (h : Heading) → heading_of ds f ≡ Ok h → IsOf f h.signature
  unfolding heading_of
  heading_is f h p =
      let a = bound (absent f.generics_span) _ h p in
      let Γ = bound (each (param_of ds) f.params) _ h a.2 in
      let t = bound (answer_ty ds f.answer) _ h Γ.2 in
      let b = bound (absent f.conditions_span) _ h t.2 in
      let made : Heading = record { name = f.name.name; signature = signature_by Γ.0 t.0 } in
      let q : made ≡ h = same_ok _ _ b.2 in
      (Γ.0, t.0, Γ.1, t.1, ap (λ (h : Heading). h.signature) (sym q))

  same_signature : (f : Function) (g h : Signature) → IsOf f g → IsOf f h → g ≡ h
  same_signature f g h a b =
      let Γ : a.0 ≡ b.0 = same_ok _ _ (sym a.2 ∙ b.2) in
      let t : a.1 ≡ b.1 = same_ok _ _ (sym a.3 ∙ b.3) in
      a.4 ∙ ap₂ signature_by Γ t ∙ sym b.4

  -- the types of a heading are built
  signature_built : (f : Function) (g : Signature) → IsOf f g → HasBuilt g
  signature_built f g h = subst HasBuilt (sym h.4) (all_built ds f.params h.0 h.2, answer_built ds f.answer h.1 h.3)

  abbrev SomeBuilt : Option Heading → Type 0
  SomeBuilt None = Unit {0}
  SomeBuilt (Some h) = HasBuilt h.signature

  nothing_built : (m : Result (Unit {0}) SourceError) (o : Option Heading) → (m >>= λ nothing. yes {A = Option Heading} None) ≡ Ok o → SomeBuilt o
  nothing_built (Ok u) o p = subst SomeBuilt (same_ok None o p) tt
  nothing_built (Err e) o p = absurd (cc)

  -- ---- items

  -- an item that declares this heading is typed as this function, which fits
  abbrev ItemFits : List Heading → Option Heading → Option TypedFunction → Type 0
  ItemFits σ (Some h) (Some g) = FunctionFits ds (signatures_at σ) g × (g.signature ≡ h.signature)
  ItemFits σ None None = Unit {0}
  ItemFits σ _ _ = ⊥

  both_none : (σ : List Heading) (m : Result (Unit {0}) SourceError) (o : Option Heading) (g : Option TypedFunction) → (m >>= λ nothing. yes {A = Option Heading} None) ≡ Ok o → yes {A = Option TypedFunction} None ≡ Ok g → ItemFits σ o g
  both_none σ (Ok u) o g p q =
      let e : None ≡ o = same_ok _ _ p in
      let k : None ≡ g = same_ok _ _ q in
      subst (λ o. ItemFits σ o g) e (subst (ItemFits σ None) k tt)
  both_none σ (Err e) o g p q = absurd (cc)

  none_declared : {A : Type 0} (m : Result (Unit {0}) SourceError) (e : SourceError) (o : A) → (m >>= λ nothing. Err e) ≡ Ok o → ⊥
  none_declared (Ok u) e o p = cc
  none_declared (Err f) e o p = cc

  item_by_fits : (σ : List Heading) (own : Span) (as' : List Attribute) (n : ItemNode) (o : Option Heading) (g : Option TypedFunction) → HeadsBuilt σ → declares_by ds own as' n ≡ Ok o → typed_by ds σ own as' n ≡ Ok g → ItemFits σ o g
  item_by_fits σ own as' (item.Function f) o g hs p q =
      let h = bound (heading_of ds f) _ o p in
      let k = bound (typed_function ds σ own as' f) _ g q in
      let e : Some h.0 ≡ o = same_ok _ _ h.2 in
      let d : Some k.0 ≡ g = same_ok _ _ k.2 in
      let fits = function_fits σ own as' f k.0 hs k.1 in
      subst (λ o. ItemFits σ o g) e (subst (ItemFits σ (Some h.0)) d (fits.0, same_signature f k.0.signature h.0.signature fits.1 (heading_is f h.0 h.1)))
  item_by_fits σ own as' (item.Struct s) o g hs p q = both_none σ (Ok tt) o g p q
  item_by_fits σ own as' (item.Enum e) o g hs p q = both_none σ (Ok tt) o g p q
  item_by_fits σ own as' item.Use o g hs p q = both_none σ (skipped as') o g p q
  item_by_fits σ own as' item.ExternCrate o g hs p q = both_none σ (skipped as') o g p q
  item_by_fits σ own as' n o g hs p q = absurd (none_declared (skipped as') _ o p)

  item_fits : (σ : List Heading) (i : Item) (o : Option Heading) (g : Option TypedFunction) → HeadsBuilt σ → declares ds i ≡ Ok o → typed_item ds σ i ≡ Ok g → ItemFits σ o g
  unfolding declares
  item_fits σ i o g hs p q = item_by_fits σ i.own i.attributes i.node o g hs p q

  declared_built : (own : Span) (as' : List Attribute) (n : ItemNode) (o : Option Heading) → declares_by ds own as' n ≡ Ok o → SomeBuilt o
  declared_built own as' (item.Function f) o p =
      let h = bound (heading_of ds f) _ o p in
      subst SomeBuilt (same_ok (Some h.0) o h.2) (signature_built f h.0.signature (heading_is f h.0 h.1))
  declared_built own as' (item.Struct s) o p = nothing_built (Ok tt) o p
  declared_built own as' (item.Enum e) o p = nothing_built (Ok tt) o p
  declared_built own as' item.Use o p = nothing_built (skipped as') o p
  declared_built own as' item.ExternCrate o p = nothing_built (skipped as') o p
  declared_built own as' n o p = absurd (none_declared (skipped as') _ o p)

  one_more_built : (o : Option Heading) (hs : List Heading) → SomeBuilt o → HeadsBuilt hs → HeadsBuilt (with_some o hs)
  one_more_built None hs h k = k
  one_more_built (Some g) hs h k = (h, k)

  heads_built : (is : List Item) (hs : List Heading) → gather (declares ds) is ≡ Ok hs → HeadsBuilt hs
  unfolding declares
  heads_built [] hs p = subst HeadsBuilt (same_ok [] hs p) tt
  heads_built (i ∷ is) hs p =
      let o = bound (declares ds i) _ hs p in
      let os = bound (gather (declares ds) is) _ hs o.2 in
      subst HeadsBuilt (same_ok (with_some o.0 os.0) hs os.2) (one_more_built o.0 os.0 (declared_built i.own i.attributes i.node o.0 o.1) (heads_built is os.0 os.1))

  abbrev AllFit : List Heading → List Heading → List TypedFunction → Type 0
  AllFit σ hs gs = EachFits ds (signatures_at σ) gs × (signatures gs ≡ signatures_at hs)

  joined_fit : (σ : List Heading) (o : Option Heading) (g : Option TypedFunction) (hs : List Heading) (gs : List TypedFunction) → ItemFits σ o g → AllFit σ hs gs → AllFit σ (with_some o hs) (with_some g gs)
  joined_fit σ (Some h) (Some g) hs gs a b = ((a.0, b.0), ap₂ (λ (s : Signature) (ss : List Signature). s ∷ ss) a.1 b.1)
  joined_fit σ None None hs gs a b = b
  joined_fit σ o g hs gs a b = absurd a

  items_fit : (σ : List Heading) (is : List Item) (hs : List Heading) (gs : List TypedFunction) → HeadsBuilt σ → gather (declares ds) is ≡ Ok hs → gather (typed_item ds σ) is ≡ Ok gs → AllFit σ hs gs
  items_fit σ [] hs gs b p q = subst (λ hs. AllFit σ hs gs) (same_ok _ _ p) (subst (AllFit σ []) (same_ok _ _ q) (tt, refl))
  items_fit σ (i ∷ is) hs gs b p q =
      let o = bound (declares ds i) _ hs p in
      let os = bound (gather (declares ds) is) _ hs o.2 in
      let g = bound (typed_item ds σ i) _ gs q in
      let rest = bound (gather (typed_item ds σ) is) _ gs g.2 in
      subst (λ hs. AllFit σ hs gs) (same_ok _ _ os.2) (subst (AllFit σ (with_some o.0 os.0)) (same_ok _ _ rest.2)
      (joined_fit σ o.0 g.0 os.0 rest.0 (item_fits σ i o.0 g.0 b o.1 g.1) (items_fit σ is os.0 rest.0 b os.1 rest.1)))

  -- ---- the whole

  accepted : {A : Type 0} (o : Option SourceError) (m : Result A SourceError) (a : A) → unless o m ≡ Ok a → (o ≡ None) × (m ≡ Ok a)
  accepted (Some e) m a p = absurd (cc)
  accepted None m a p = (refl, p)

  abbrev whole : List TypedFunction → TypedProgram
  whole gs = record { functions = gs }

  pub fits_program : (is : List Item) (p : TypedProgram) → checked ds is ≡ Ok p → ProgramFits ds p
  unfolding checked
  fits_program is p h =
      let g = bound (gather (declares ds) is >>= typed_items ds is) program_of p h in
      let σ = bound (gather (declares ds) is) (typed_items ds is) g.0 g.1 in
      let d = accepted (first_bad g.0) (yes (whole g.0)) p g.2 in
      let f = items_fit σ.0 is σ.0 g.0 (heads_built is σ.0 σ.1) σ.1 σ.2 in
      subst (ProgramFits ds) (same_ok _ _ d.1) (subst (λ σ. EachFits ds σ g.0) (sym f.1) f.0)

  pub good_program : (is : List Item) (p : TypedProgram) → checked ds is ≡ Ok p → AllGood p
  unfolding checked
  good_program is p h =
      let g = bound (gather (declares ds) is >>= typed_items ds is) program_of p h in
      let d = accepted (first_bad g.0) (yes (whole g.0)) p g.2 in
      subst AllGood (same_ok _ _ d.1) d.0

  pub answered_fits : (is : List Item) (r : Result TypedProgram PassError) → Answers r (checked ds is) → IfOk r (ProgramFits ds)
  answered_fits is (Ok p) h = fits_program is p h
  answered_fits is (Err f) h = tt

  pub answered_good : (is : List Item) (r : Result TypedProgram PassError) → Answers r (checked ds is) → IfOk r AllGood
  answered_good is (Ok p) h = good_program is p h
  answered_good is (Err f) h = tt
