-- What is asked among the parts of a line is found there.
use Rattle.std.proofs.Common.{◌≡◌, ℕ, suc, ◌+◌, ◌-◌, ◌≤◌, Bool, true, false, List, [], ◌∷◌, length, map, Some, None, inl, inr, refl, sym, ap, subst, true≢false, arith, if◌then◌else◌}
use Rattle.std.specs.Prelude.{Option, IsSome, fold}
use Rattle.std.proofs.lemmas.List.{length-append}
use Rattle.text_core.specs.declared.span.Span.{Span}
use Rattle.grammar_tables.specs.First.{is_in, first_some}
use Rattle.source_grammar.specs.Terminals.{Semicolon, KwPub, KwCrate, WordLogic, WordLaw}
use Rattle.source_words.specs.declared.word.Word.{Word}
use Rattle.pearlite.specs.declared.part.Value.{Value as ShapeValue}
use Rattle.pearlite.specs.declared.part.Value.TheVariants as S
use Rattle.pearlite.specs.Asked.{a_token, a_type, a_pattern, a_path, a_term}
use Rattle.pearlite.specs.Parts.{this_or, is_at, as_type, as_term}
use Rattle.pearlite.specs.Served.{Among, this, further, last_of}
use Rattle.pearlite.proofs.Finding.{first_or_later}
use Rattle.pearlite.proofs.Serving.{within, is_within}
use Rattle.source_trees.specs.Pat.{Pat}
use Rattle.source_trees.specs.declared.attribute.AttributeNode.TheVariants as A
use Rattle.source_trees.specs.declared.item.Visibility.TheVariants.{Public, Crate}
use Rattle.rs_syntax.specs.declared.element.Element.{Element}
use Rattle.rs_syntax.specs.declared.element.Element.TheVariants as L
use Rattle.rs_syntax.specs.declared.found.Found.{Found}
use Rattle.rs_syntax.specs.declared.make_blocks.Statements.{Statements}
use Rattle.rs_syntax.specs.declared.make_items.ItemParts.{ItemParts}
use Rattle.rs_syntax.specs.declared.make_matches.Matching.{Matching}
use Rattle.rs_syntax.specs.declared.part.Part.{Part}
use Rattle.rs_syntax.specs.declared.part.Value.{Value}
use Rattle.rs_syntax.specs.declared.part.Value.TheVariants as V
use Rattle.rs_syntax.specs.Gathered.{first_of, type_of, term_of, generic_of, bound_of, condition_of, field_of, method_of, item_of}
use Rattle.rs_syntax.specs.MakeItems.{with_attribute, item_with, item_with_value, item_with_shape, item_with_token}
use Rattle.rs_syntax.specs.MakeOperators.{as_expr, suffix_by}
use Rattle.rs_syntax.specs.MakeStatements.{no_statements, with_element, statements_in, with_body, with_part, arms_in, no_arms}
use Rattle.rs_syntax.specs.Parts.{attribute_from, joined, found_of, found_in, element_of_token, element_by, element_of, part_span}
use Rattle.rs_syntax.specs.Asked.{an_expression, a_let_condition, a_generic, a_bound, a_condition, a_field, a_method, an_item, a_function, an_item_node, condition_or_expression}
use Rattle.rs_syntax.specs.Asked.{family_of, family_in, IsSeen, IsFound, places_for, AreFound, OperationsAreSeen, AreSameNodes, OperandIsThere, MatchedIsThere, NodeIsThere}

-- ---- values of a family

type_seen : IsSeen type_of a_type
unfolding as_type
type_seen (V.Shape (S.Type ty)) e = refl
type_seen value e = absurd (omega arith)

term_seen : IsSeen term_of a_term
unfolding as_term
term_seen (V.Shape (S.Term term)) e = refl
term_seen value e = absurd (omega arith)

pub expression_seen : IsSeen as_expr an_expression
unfolding as_expr
expression_seen (V.Expr expr) e = refl
expression_seen (V.Shape S.Token) e = absurd (omega arith)
expression_seen (V.Shape shape) e = absurd (omega arith)
expression_seen value e = absurd (omega arith)

pub generic_seen : IsSeen generic_of a_generic
generic_seen (V.GenericParam param) e = refl
generic_seen (V.Shape S.Token) e = absurd (omega arith)
generic_seen (V.Shape shape) e = absurd (omega arith)
generic_seen value e = absurd (omega arith)

pub bound_seen : IsSeen bound_of a_bound
bound_seen (V.Bound bound) e = refl
bound_seen (V.Shape S.Token) e = absurd (omega arith)
bound_seen (V.Shape shape) e = absurd (omega arith)
bound_seen value e = absurd (omega arith)

pub condition_seen : IsSeen condition_of a_condition
condition_seen (V.WhereCondition condition) e = refl
condition_seen (V.Shape S.Token) e = absurd (omega arith)
condition_seen (V.Shape shape) e = absurd (omega arith)
condition_seen value e = absurd (omega arith)

pub field_seen : IsSeen field_of a_field
field_seen (V.Field field) e = refl
field_seen (V.Shape S.Token) e = absurd (omega arith)
field_seen (V.Shape shape) e = absurd (omega arith)
field_seen value e = absurd (omega arith)

pub method_seen : IsSeen method_of a_method
method_seen (V.Method method) e = refl
method_seen (V.Shape S.Token) e = absurd (omega arith)
method_seen (V.Shape shape) e = absurd (omega arith)
method_seen value e = absurd (omega arith)

pub item_seen : IsSeen item_of an_item
item_seen (V.Item item) e = refl
item_seen (V.Shape S.Token) e = absurd (omega arith)
item_seen (V.Shape shape) e = absurd (omega arith)
item_seen value e = absurd (omega arith)

pub operation_seen : OperationsAreSeen
unfolding suffix_by
operation_seen word (V.Expr expr) i = refl
operation_seen word (V.Shape (S.Type ty)) i = refl
operation_seen word (V.Suffix suffix) i = refl
operation_seen word (V.Arguments exprs) i = refl
operation_seen word value i = absurd (true≢false (sym i))

-- ---- the first of a family

found : {A : Type 0} (seen : Value → Option A) (f : ℕ) → IsSeen seen f → IsFound seen f
found seen f sees places [] h = elim h [ ]
found {A} seen f sees places (p ∷ ps) h = by (seen p.value) refl (found seen f sees places ps)
  where
    by : (o : Option A) → seen p.value ≡ o → (Among ((f ∷ []) ∷ places) (map family_in ps) → IsSome (first_of seen ps)) → IsSome (this_or o (first_of seen ps))
    by (Some x) e others = refl
    by None e others = elim (first_or_later h) [ inl s ↦ absurd (true≢false (sym (subst (λ (o : Option A). IsSome o) e (sees p.value s)))) | inr a ↦ others a ]

pub type_there : IsFound type_of a_type
type_there = found type_of a_type type_seen

pub term_there : IsFound term_of a_term
term_there = found term_of a_term term_seen

-- ---- all of several families

found_many : {A : Type 0} (pick : Found → List A) (these : List ℕ) → ((a b : Found) → length (pick (joined a b)) ≡ length (pick a) + length (pick b))
    → ((value : Value) → is_in (Some (family_of value)) these ≡ true → 1 ≤ length (pick (found_of value))) → AreFound pick these
unfolding found_in
found_many pick these adds one [] parts h = omega arith
found_many pick these adds one (place ∷ places) [] h = elim h [ ]
found_many pick these adds one (place ∷ places) (p ∷ ps) (further h) =
    let i = found_many pick these adds one (place ∷ places) ps h in
    let k = adds (found_of p.value) (found_in ps) in omega (arith, i, k)
found_many pick these adds one (place ∷ places) (p ∷ ps) (this i h) = by (is_within place these) refl (found_many pick these adds one places ps h) (adds (found_of p.value) (found_in ps))
  where
    by : (b : Bool) → is_within place these ≡ b → places_for these places ≤ length (pick (found_in ps)) → length (pick (joined (found_of p.value) (found_in ps))) ≡ length (pick (found_of p.value)) + length (pick (found_in ps))
        → (if b then suc (places_for these places) else places_for these places) ≤ length (pick (joined (found_of p.value) (found_in ps)))
    by true w others k = (let here = one p.value (within place these (family_in p) w i) in omega (arith, others, k, here))
    by false w others k = omega (arith, others, k)

pub expressions_found : AreFound (λ found. found.exprs) condition_or_expression
unfolding found_of
expressions_found = found_many (λ found. found.exprs) condition_or_expression (λ a b. length-append a.exprs b.exprs) one
  where
    one : (value : Value) → is_in (Some (family_of value)) condition_or_expression ≡ true → 1 ≤ length (found_of value).exprs
    one (V.Expr expr) i = omega arith
    one (V.Condition pattern expr) i = omega arith
    one (V.Shape S.Token) i = absurd (true≢false (sym i))
    one (V.Shape shape) i = absurd (true≢false (sym i))
    one value i = absurd (true≢false (sym i))

pub patterns_found : AreFound (λ found. found.patterns) (a_pattern ∷ a_let_condition ∷ [])
unfolding found_of
patterns_found = found_many (λ found. found.patterns) (a_pattern ∷ a_let_condition ∷ []) (λ a b. length-append a.patterns b.patterns) one
  where
    one : (value : Value) → is_in (Some (family_of value)) (a_pattern ∷ a_let_condition ∷ []) ≡ true → 1 ≤ length (found_of value).patterns
    one (V.Shape (S.Pattern pattern)) i = omega arith
    one (V.Condition pattern expr) i = omega arith
    one value i = absurd (true≢false (sym i))

pub paths_found : AreFound (λ found. found.paths) (a_path ∷ [])
unfolding found_of
paths_found = found_many (λ found. found.paths) (a_path ∷ []) (λ a b. length-append a.paths b.paths) one
  where
    one : (value : Value) → is_in (Some (family_of value)) (a_path ∷ []) ≡ true → 1 ≤ length (found_of value).paths
    one (V.Shape (S.Path path)) i = omega arith
    one value i = absurd (true≢false (sym i))

pub terms_found : AreFound (λ found. found.terms) (a_term ∷ [])
unfolding found_of
terms_found = found_many (λ found. found.terms) (a_term ∷ []) (λ a b. length-append a.terms b.terms) one
  where
    one : (value : Value) → is_in (Some (family_of value)) (a_term ∷ []) ≡ true → 1 ≤ length (found_of value).terms
    one (V.Shape (S.Term term)) i = omega arith
    one value i = absurd (true≢false (sym i))

-- ---- what attributes stand before

-- an expression is the last statement so far
expression_last : (words : List Word) (state : Statements) (span : Span) (from to : ℕ) (value : Value) → is_in (Some (family_of value)) (an_expression ∷ []) ≡ true → IsSome (with_element state span (element_by words from to value)).last
unfolding with_element element_by
expression_last words state span from to (V.Expr expr) i = refl
expression_last words state span from to (V.Shape S.Token) i = absurd (true≢false (sym i))
expression_last words state span from to (V.Shape shape) i = absurd (true≢false (sym i))
expression_last words state span from to value i = absurd (true≢false (sym i))

ends : (words : List Word) (state : Statements) (p : Part) (ps : List Part) → ((f : ℕ) → last_of (map family_in (p ∷ ps)) ≡ Some f → is_in (Some f) (an_expression ∷ []) ≡ true) → IsSome (statements_in words state (p ∷ ps)).last
unfolding statements_in
ends words state p [] h = expression_last words state (part_span words p) p.from p.to p.value (h (family_in p) refl)
ends words state p (q ∷ ps) h = ends words (with_element state (part_span words p) (element_of words p)) q ps (λ f e. h f (ap (λ (o : Option ℕ). first_some o (Some (family_in p))) e))

pub operand_there : OperandIsThere
operand_there words [] h = elim h.parts [ ]
operand_there words (p ∷ ps) h = ends words no_statements p ps h.last

-- ---- what is matched

-- no token begins an arm
token_keeps : (words : List Word) (from to : ℕ) (span : Span) → (with_part no_arms span (element_of_token words from to)).pattern ≡ None
unfolding with_part element_of_token
token_keeps words from to span = by (is_at Semicolon words from) (is_at WordLogic words from) (is_at WordLaw words from)
  where
    by : (a b c : Bool) → (with_part no_arms span (if a then L.Semicolon else (if b then L.Attribute (attribute_from words (from - 2) to A.Logic) else (if c then L.Attribute (attribute_from words (from - 2) to A.Law) else L.Other)))).pattern ≡ None
    by true b c = refl
    by false true c = refl
    by false false true = refl
    by false false false = refl

opening_keeps : (words : List Word) (span : Span) (from to : ℕ) (value : Value) → is_in (Some (family_of value)) (a_token ∷ []) ≡ true → (with_part no_arms span (element_by words from to value)).pattern ≡ None
unfolding element_by
opening_keeps words span from to (V.Shape S.Token) i = token_keeps words from to span
opening_keeps words span from to value i = absurd (true≢false (sym i))

expression_matched : (words : List Word) (state : Matching) (span : Span) (from to : ℕ) (value : Value) → state.pattern ≡ None → is_in (Some (family_of value)) (an_expression ∷ []) ≡ true
    → IsSome (with_part state span (element_by words from to value)).matched
unfolding with_part element_by with_body
expression_matched words state span from to (V.Expr expr) e i = rw e refl
expression_matched words state span from to (V.Shape S.Token) e i = absurd (true≢false (sym i))
expression_matched words state span from to (V.Shape shape) e i = absurd (true≢false (sym i))
expression_matched words state span from to value e i = absurd (true≢false (sym i))

part_keeps : (state : Matching) (span : Span) (element : Element) → IsSome state.matched → IsSome (with_part state span element).matched
unfolding with_part with_body
part_keeps state span (L.Expr expr) h = by state.pattern
  where
    by : (o : Option Pat) → IsSome (with_body state span expr o).matched
    by None = refl
    by (Some pattern) = h
part_keeps state span element h = h

arms_keep : (words : List Word) (state : Matching) (parts : List Part) → IsSome state.matched → IsSome (arms_in words state parts).matched
unfolding arms_in
arms_keep words state [] h = h
arms_keep words state (p ∷ ps) h = arms_keep words (with_part state (part_span words p) (element_of words p)) ps (part_keeps state (part_span words p) (element_of words p) h)

pub matched_there : MatchedIsThere
unfolding arms_in
matched_there words [] h = absurd h.first
matched_there words (p ∷ []) h = absurd h.first.1
matched_there words (p ∷ q ∷ ps) h =
    let before : Matching = with_part no_arms (part_span words p) (element_of words p) in
    arms_keep words (with_part before (part_span words q) (element_of words q)) ps
    (expression_matched words before (part_span words q) q.from q.to q.value (opening_keeps words (part_span words p) p.from p.to p.value h.first.0) h.first.1.0)

-- ---- what an item is

abbrev node_families : List ℕ
node_families = a_function ∷ an_item_node ∷ []

-- an item with a token, by which of four it is
abbrev changed : List Word → ℕ → ℕ → Bool → Bool → Bool → Bool → ItemParts → ItemParts
changed words from to c d e f i = if c then with_attribute words i from to A.Logic else (if d then with_attribute words i from to A.Law else (if e then record i { visibility = Public } else (if f then record i { visibility = Crate } else i)))

same_by_token : (words : List Word) (a b : ItemParts) (from to : ℕ) → AreSameNodes a b → AreSameNodes (item_with_token words a from to) (item_with_token words b from to)
same_by_token words a b from to s = by (is_at WordLogic words from) (is_at WordLaw words from) (is_at KwPub words from) (is_at KwCrate words from)
  where
    by : (c d e f : Bool) → AreSameNodes (changed words from to c d e f a) (changed words from to c d e f b)
    by true d e f = s
    by false true e f = s
    by false false true f = s
    by false false false true = s
    by false false false false = s

same_by_shape : (words : List Word) (a b : ItemParts) (from to : ℕ) (shape : ShapeValue) → AreSameNodes a b → AreSameNodes (item_with_shape words a from to shape) (item_with_shape words b from to shape)
same_by_shape words a b from to S.Token s = same_by_token words a b from to s
same_by_shape words a b from to shape s = s

same_by_value : (words : List Word) (a b : ItemParts) (from to : ℕ) (value : Value) → AreSameNodes a b → AreSameNodes (item_with_value words a from to value) (item_with_value words b from to value)
same_by_value words a b from to (V.Shape shape) s = same_by_shape words a b from to shape s
same_by_value words a b from to (V.Function function) s = (refl, refl)
same_by_value words a b from to (V.ItemNode node) s = (refl, refl)
same_by_value words a b from to value s = s

same_by_parts : (words : List Word) (a b : ItemParts) (parts : List Part) → AreSameNodes a b → AreSameNodes (fold (item_with words) a parts) (fold (item_with words) b parts)
same_by_parts words a b [] s = s
same_by_parts words a b (p ∷ ps) s = same_by_parts words (item_with words a p) (item_with words b p) ps (same_by_value words a b p.from p.to p.value s)

node_by_value : (words : List Word) (a b : ItemParts) (from to : ℕ) (value : Value) → is_in (Some (family_of value)) node_families ≡ true → AreSameNodes (item_with_value words a from to value) (item_with_value words b from to value)
node_by_value words a b from to (V.Function function) i = (refl, refl)
node_by_value words a b from to (V.ItemNode node) i = (refl, refl)
node_by_value words a b from to (V.Shape S.Token) i = absurd (true≢false (sym i))
node_by_value words a b from to (V.Shape shape) i = absurd (true≢false (sym i))
node_by_value words a b from to value i = absurd (true≢false (sym i))

pub node_there : NodeIsThere
node_there words a b [] h = elim h [ ]
node_there words a b (p ∷ ps) (this i h) = same_by_parts words (item_with words a p) (item_with words b p) ps (node_by_value words a b p.from p.to p.value i)
node_there words a b (p ∷ ps) (further h) = node_there words (item_with words a p) (item_with words b p) ps h
