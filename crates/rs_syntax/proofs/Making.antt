-- What is made of a line that has what it asks is of the family of its action.
use Rattle.std.proofs.Common.{◌≡◌, ℕ, ◌+◌, ◌-◌, Bool, true, false, List, [], ◌∷◌, ◌++◌, map, reverse, Some, None, refl, sym, ap, subst, ◌∙◌, true≢false, if◌then◌else◌}
use Rattle.std.specs.Prelude.{Option, IsSome, fold}
use Rattle.std.proofs.lemmas.List.{reverse-append, reverse-reverse}
use Rattle.grammar_tables.specs.First.{is_in}
use Rattle.source_grammar.specs.Terminals.{KwPub, KwCrate, WordLogic, WordLaw}
use Rattle.source_grammar.specs.declared.action.Action.TheVariants.{Keep, Shape, Code}
use Rattle.source_grammar.specs.declared.action.CodeAction.{CodeAction}
use Rattle.source_grammar.specs.declared.action.CodeAction.TheVariants as codes
use Rattle.source_grammar.specs.declared.action.ShapeAction.{ShapeAction}
use Rattle.source_grammar.specs.declared.action.ShapeAction.TheVariants as shapes
use Rattle.source_words.specs.declared.word.Word.{Word}
use Rattle.source_trees.specs.TypeTree.{TypeTree}
use Rattle.source_trees.specs.declared.attribute.AttributeNode.TheVariants as A
use Rattle.source_trees.specs.declared.item.Body.{Body}
use Rattle.source_trees.specs.declared.item.ImplItem.TheVariants as M
use Rattle.source_trees.specs.declared.item.ItemNode.{ItemNode}
use Rattle.source_trees.specs.declared.item.ItemNode.TheVariants as I
use Rattle.source_trees.specs.declared.param.ParamNode.TheVariants as P
use Rattle.source_trees.specs.declared.item.Visibility.TheVariants.{Public, Crate}
use Rattle.pearlite.specs.declared.part.Part.{Part as ShapePart}
use Rattle.pearlite.specs.declared.part.Value.{Value as ShapeValue}
use Rattle.pearlite.specs.declared.part.Value.TheVariants as S
use Rattle.pearlite.specs.Asked.{a_type, asks_of, family_made}
use Rattle.pearlite.specs.Asked as terms
use Rattle.pearlite.specs.MakeTypes.{named_type_made}
use Rattle.pearlite.specs.Parts.{is_at, segment_at, span_from, this_or, as_type}
use Rattle.pearlite.specs.Served.{Among, this, further, AreAll, AreThere}
use Rattle.pearlite.specs.Shapes.{shape_made}
use Rattle.pearlite.proofs.Asked.{made_of_family}
use Rattle.pearlite.proofs.Serving.{is_within, all_within}
use Rattle.rs_syntax.specs.declared.make_functions.ImplParts.{ImplParts}
use Rattle.rs_syntax.specs.declared.make_items.ItemParts.{ItemParts}
use Rattle.rs_syntax.specs.declared.part.Part.{Part}
use Rattle.rs_syntax.specs.declared.part.Value.{Value}
use Rattle.rs_syntax.specs.declared.part.Value.TheVariants as V
use Rattle.rs_syntax.specs.Gathered.{first_of, made_of, type_of, term_of}
use Rattle.rs_syntax.specs.Make.{code_made, expr_made}
use Rattle.rs_syntax.specs.MakeAttributes.{clause_of, clause_made, derive_made}
use Rattle.rs_syntax.specs.MakeExpressions as expressions
use Rattle.rs_syntax.specs.MakeExpressions.{arguments_made, attributed_made, break_made, closure_made, continue_made, ghost_made, integer_made, member_made, panic_made, parens_made, path_made, prefix_made, return_made, self_made, truth_made}
use Rattle.rs_syntax.specs.MakeFields.{field_name, field_made, tuple_field_made, variant_made, struct_made, enum_made}
use Rattle.rs_syntax.specs.MakeFunctions.{function_made, trait_made, impl_with, impl_with_value, with_target, impl_of, impl_made, begins_with_type, is_type, trait_head, type_head, impl_head_made, view_type_made, shape_part, before_shapes, shape_parts}
use Rattle.rs_syntax.specs.MakeGenerics.{generics_made, lifetime_param_made, type_param_made, where_made, type_condition_made, lifetime_condition_made, trait_bound_made, call_bound_made}
use Rattle.rs_syntax.specs.MakeGenerics.{param_made, named_param_made, mut_named_param_made, mut_receiver_made, receiver_param_made, borrowed_param_made}
use Rattle.rs_syntax.specs.MakeItems.{with_attribute, item_with, item_with_value, item_with_shape, item_with_token, bare_item, with_body, item_made, method_by, method_made}
use Rattle.rs_syntax.specs.MakeOperators.{assignment_made, operation_made}
use Rattle.rs_syntax.specs.MakeStatements.{block_made, blocklike_made, forever_made, if_made, let_condition_made, let_made, match_made, while_made}
use Rattle.rs_syntax.specs.Asked.{a_function, an_impl_head, a_method, family_of, family_in, code_asks, code_family, EachLineIsMade, ShapesAreThere}
use Rattle.rs_syntax.proofs.Finding.{type_there, term_there}

-- ---- types, patterns, paths and terms

abbrev shape_families : List ℕ
shape_families = 0 ∷ 1 ∷ 2 ∷ 3 ∷ 4 ∷ 5 ∷ 6 ∷ 7 ∷ 8 ∷ 9 ∷ 10 ∷ []

one_shape : (value : Value) (from to : ℕ) (others : List ShapePart) → is_in (Some (family_of value)) shape_families ≡ true → map terms.family_in (before_shapes (shape_part value from to) others) ≡ family_of value ∷ map terms.family_in others
one_shape (V.Shape shape) from to others i = refl
one_shape value from to others i = absurd (true≢false (sym i))

same_shapes : (parts : List Part) → AreAll shape_families (map family_in parts) → map terms.family_in (shape_parts parts) ≡ map family_in parts
same_shapes [] a = refl
same_shapes (p ∷ ps) a = one_shape p.value p.from p.to (shape_parts ps) a.0 ∙ ap (λ (fs : List ℕ). family_of p.value ∷ fs) (same_shapes ps a.1)

within_shapes : (action : ShapeAction) → is_within (asks_of action).families shape_families ≡ true
within_shapes shapes.NamedType = refl
within_shapes action = refl

pub shapes_there : ShapesAreThere
shapes_there action parts h = same_shapes parts (all_within (asks_of action).families shape_families (map family_in parts) (within_shapes action) h.families)

shape_of_family : (action : ShapeAction) (words : List Word) (from to : ℕ) (parts : List Part) → AreThere (asks_of action) (map family_in parts) → terms.family_of (shape_made action words from to (shape_parts parts)) ≡ family_made action
shape_of_family action words from to parts h = made_of_family action words from to (shape_parts parts) (subst (λ (fs : List ℕ). AreThere (asks_of action) fs) (sym (shapes_there action parts h)) h)

-- ---- what is made of one part

made_one : {A : Type 0} (o : Option A) (make : A → Value) (f : ℕ) → IsSome o → ((x : A) → family_of (make x) ≡ f) → family_of (made_of o make) ≡ f
made_one None make f i h = absurd (true≢false (sym i))
made_one (Some x) make f i h = h x

-- ---- heads of impls

type_last : (parts : List Part) (p : Part) → is_type p.value ≡ true → IsSome (first_of type_of (parts ++ p ∷ []))
unfolding as_type
type_last [] p e = one p.value e
  where
    one : (value : Value) → is_type value ≡ true → IsSome (this_or (type_of value) None)
    one (V.Shape (S.Type ty)) e = refl
    one value e = absurd (true≢false (sym e))
type_last (q ∷ qs) p e = by (type_of q.value) (type_last qs p e)
  where
    by : (o : Option TypeTree) → IsSome (first_of type_of (qs ++ p ∷ [])) → IsSome (this_or o (first_of type_of (qs ++ p ∷ [])))
    by None h = h
    by (Some ty) h = refl

type_behind : (last_first : List Part) → begins_with_type last_first ≡ true → IsSome (first_of type_of (reverse last_first))
type_behind [] e = absurd (true≢false (sym e))
type_behind (p ∷ ps) e = rw (reverse-append (p ∷ []) ps) (type_last (reverse ps) p e)

head_of_family : (words : List Word) (from to : ℕ) (parts : List Part) → family_of (impl_head_made words from to parts) ≡ an_impl_head
unfolding impl_head_made shape_made named_type_made as_type
head_of_family words from to parts = by (begins_with_type (reverse parts)) refl
  where
    by : (b : Bool) → begins_with_type (reverse parts) ≡ b → family_of (if b then trait_head words from parts else type_head words from to parts) ≡ an_impl_head
    by false e = refl
    by true e = made_one (first_of type_of parts) (λ ty. V.ImplHead (Some (segment_at words from)) ty) an_impl_head (subst (λ (ps : List Part). IsSome (first_of type_of ps)) (reverse-reverse parts) (type_behind (reverse parts) e)) (λ ty. refl)

-- ---- impls

abbrev heads : List ℕ
heads = a_type ∷ an_impl_head ∷ []

target_keeps : (i : ImplParts) (o : Option TypeTree) → IsSome i.head → IsSome (with_target i o).head
target_keeps i None h = h
target_keeps i (Some ty) h = refl

head_keeps : (i : ImplParts) (value : Value) → IsSome i.head → IsSome (impl_with_value i value).head
head_keeps i (V.ImplHead of target) h = refl
head_keeps i (V.Shape shape) h = target_keeps i (as_type shape) h
head_keeps i value h = h

head_there : (i : ImplParts) (value : Value) → is_in (Some (family_of value)) heads ≡ true → IsSome (impl_with_value i value).head
unfolding as_type
head_there i (V.ImplHead of target) e = refl
head_there i (V.Shape (S.Type ty)) e = refl
head_there i value e = absurd (true≢false (sym e))

heads_keep : (words : List Word) (i : ImplParts) (parts : List Part) → IsSome i.head → IsSome (fold (impl_with words) i parts).head
heads_keep words i [] h = h
heads_keep words i (p ∷ ps) h = heads_keep words (impl_with words i p) ps (head_keeps i p.value h)

has_head : (words : List Word) (i : ImplParts) (parts : List Part) → Among (heads ∷ []) (map family_in parts) → IsSome (fold (impl_with words) i parts).head
has_head words i [] h = elim h [ ]
has_head words i (p ∷ ps) (this e h) = heads_keep words (impl_with words i p) ps (head_there i p.value e)
has_head words i (p ∷ ps) (further h) = has_head words (impl_with words i p) ps h

abbrev bare_impl : ImplParts
bare_impl = record { generics = []; head = None; conditions = []; items = [] }

-- ---- methods

abbrev is_function : ItemNode → Bool
is_function (I.Function function) = true
is_function node = false

abbrev of_methods : List ℕ
of_methods = (code_asks codes.Method).families

token_keeps : (words : List Word) (i : ItemParts) (from to : ℕ) → is_function i.node ≡ true → is_function (item_with_token words i from to).node ≡ true
token_keeps words i from to h = by (is_at WordLogic words from) (is_at WordLaw words from) (is_at KwPub words from) (is_at KwCrate words from)
  where
    by : (c d e f : Bool) → is_function (if c then with_attribute words i from to A.Logic else (if d then with_attribute words i from to A.Law
        else (if e then record i { visibility = Public } else (if f then record i { visibility = Crate } else i)))).node ≡ true
    by true d e f = h
    by false true e f = h
    by false false true f = h
    by false false false true = h
    by false false false false = h

shape_keeps : (words : List Word) (i : ItemParts) (from to : ℕ) (shape : ShapeValue) → is_function i.node ≡ true → is_function (item_with_shape words i from to shape).node ≡ true
shape_keeps words i from to S.Token h = token_keeps words i from to h
shape_keeps words i from to shape h = h

function_keeps : (words : List Word) (i : ItemParts) (from to : ℕ) (value : Value) → is_in (Some (family_of value)) of_methods ≡ true → is_function i.node ≡ true → is_function (item_with_value words i from to value).node ≡ true
function_keeps words i from to (V.Shape shape) e h = shape_keeps words i from to shape h
function_keeps words i from to (V.Function function) e h = refl
function_keeps words i from to (V.ItemNode node) e h = absurd (true≢false (sym e))
function_keeps words i from to value e h = h

function_there : (words : List Word) (i : ItemParts) (from to : ℕ) (value : Value) → is_in (Some (family_of value)) (a_function ∷ []) ≡ true → is_function (item_with_value words i from to value).node ≡ true
function_there words i from to (V.Function function) e = refl
function_there words i from to (V.Shape S.Token) e = absurd (true≢false (sym e))
function_there words i from to (V.Shape shape) e = absurd (true≢false (sym e))
function_there words i from to value e = absurd (true≢false (sym e))

functions_keep : (words : List Word) (i : ItemParts) (parts : List Part) → AreAll of_methods (map family_in parts) → is_function i.node ≡ true → is_function (fold (item_with words) i parts).node ≡ true
functions_keep words i [] a h = h
functions_keep words i (p ∷ ps) a h = functions_keep words (item_with words i p) ps a.1 (function_keeps words i p.from p.to p.value a.0 h)

has_function : (words : List Word) (i : ItemParts) (parts : List Part) → AreAll of_methods (map family_in parts) → Among ((a_function ∷ []) ∷ []) (map family_in parts) → is_function (fold (item_with words) i parts).node ≡ true
has_function words i [] a h = elim h [ ]
has_function words i (p ∷ ps) a (this e h) = functions_keep words (item_with words i p) ps a.1 (function_there words i p.from p.to p.value e)
has_function words i (p ∷ ps) a (further h) = has_function words (item_with words i p) ps a.1 h

method_of_family : (words : List Word) (from to : ℕ) (i : ItemParts) (body : Body) (node : ItemNode) → is_function node ≡ true → family_of (method_by words from to i (with_body body node)) ≡ a_method
method_of_family words from to i body (I.Function function) e = refl
method_of_family words from to i body node e = absurd (true≢false (sym e))

-- ---- lines

code_of_family : (action : CodeAction) (words : List Word) (from to : ℕ) (parts : List Part) → AreThere (code_asks action) (map family_in parts) → family_of (code_made action words from to parts) ≡ code_family action
unfolding code_made expr_made clause_made derive_made arguments_made attributed_made break_made closure_made continue_made ghost_made integer_made member_made panic_made
    parens_made path_made prefix_made return_made self_made truth_made expressions.field_made field_made tuple_field_made variant_made struct_made enum_made function_made
    trait_made impl_made view_type_made generics_made lifetime_param_made type_param_made where_made type_condition_made lifetime_condition_made trait_bound_made call_bound_made
    param_made named_param_made mut_named_param_made mut_receiver_made receiver_param_made borrowed_param_made item_made method_made assignment_made operation_made block_made
    blocklike_made forever_made if_made let_condition_made let_made match_made while_made
code_of_family codes.Clause words from to parts h = made_one (first_of term_of parts) (λ term. V.Attribute (A.Clause (clause_of words from) term)) (code_family codes.Clause) (term_there [] parts h.parts) (λ x. refl)
code_of_family codes.NamedParam words from to parts h = made_one (first_of type_of parts) (λ ty. param_made words from to (P.Named false (segment_at words from) ty)) (code_family codes.NamedParam) (type_there [] parts h.parts) (λ x. refl)
code_of_family codes.MutNamedParam words from to parts h = made_one (first_of type_of parts) (λ ty. param_made words (from - 1) to (P.Named true (segment_at words from) ty)) (code_family codes.MutNamedParam) (type_there [] parts h.parts) (λ x. refl)
code_of_family codes.Field words from to parts h = made_one (first_of type_of parts) (λ ty. V.Field (record { span = span_from words from to; public = is_at KwPub words from; name = Some (field_name words from); ty = ty })) (code_family codes.Field) (type_there [] parts h.parts) (λ x. refl)
code_of_family codes.TupleField words from to parts h = made_one (first_of type_of parts) (λ ty. V.Field (record { span = span_from words from to; public = is_at KwPub words from; name = None; ty = ty })) (code_family codes.TupleField) (type_there [] parts h.parts) (λ x. refl)
code_of_family codes.ViewType words from to parts h = made_one (first_of type_of parts) (λ ty. V.ImplItem (M.ViewType (span_from words from to) (segment_at words (from + 1)) ty)) (code_family codes.ViewType) (type_there [] parts h.parts) (λ x. refl)
code_of_family codes.Method words from to parts h = (let i : ItemParts = fold (item_with words) (bare_item from) parts in method_of_family words from to i i.body i.node (has_function words (bare_item from) parts h.families h.parts))
code_of_family codes.Impl words from to parts h = (let i : ImplParts = fold (impl_with words) bare_impl parts in made_one i.head (impl_of i) (code_family codes.Impl) (has_head words bare_impl parts h.parts) (λ x. refl))
code_of_family codes.ImplHead words from to parts h = head_of_family words from to parts
code_of_family action words from to parts h = refl

pub each_line_is_made : EachLineIsMade
each_line_is_made Keep words from to parts h = refl
each_line_is_made (Shape action) words from to parts h = shape_of_family action words from to parts h
each_line_is_made (Code action) words from to parts h = code_of_family action words from to parts h
