-- From the derivation of the words of a source to what the parser promises.
use Rattle.std.specs.Prelude.{◌≡◌, ℕ, List, ◌++◌, length, ◌≤◌, ◌<◌, IfOk, IfErr}
use Rattle.std.proofs.Common.{rules, refl, sym, ◌∙◌, ap, subst, arith, inl, inr, Result, Ok, Err, None}
use Rattle.std.proofs.lemmas.Grind.{common_steps}
use Rattle.text_core.specs.declared.fault.PassError.{PassError}
use Rattle.text_core.specs.declared.fault.PassError.TheVariants as P
use Rattle.text_core.specs.declared.refusal.Code.TheVariants.{E03, E04, E20}
use Rattle.text_core.specs.declared.refusal.Limit.{Limit}
use Rattle.text_core.specs.declared.refusal.LimitKind.TheVariants.{Functions}
use Rattle.text_core.specs.declared.refusal.SourceError.{SourceError}
use Rattle.text_core.specs.Names.{words, HaveOnePlace}
use Rattle.grammar_tables.specs.First.{depth_of}
use Rattle.grammar_tables.specs.Grammar.{Grammar, Derives}
use Rattle.grammar_tables.specs.Answers.{goal_of}
use Rattle.grammar_tables.specs.Limits.{PassesAt, limit_passed}
use Rattle.grammar_tables.specs.Trees.{Tree, IsTree, AreValues, preorder, size, values}
use Rattle.grammar_tables.specs.declared.symbol.Symbol.TheVariants.{Nonterminal}
use Rattle.grammar_tables.proofs.ParseTrees.{tree_of}
use Rattle.grammar_tables.proofs.Uniqueness.{one_derivation, one_tree}
use Rattle.source_grammar.specs.declared.fault.SyntaxFault.{SyntaxFault}
use Rattle.source_grammar.specs.declared.fault.SyntaxFault.TheVariants as fault
use Rattle.source_grammar.specs.Faults.{IsFault, IsSourceDerivation}
use Rattle.source_grammar.specs.SourceGrammar.{source_grammar, source_marks, source_goal}
use Rattle.source_grammar.proofs.Conditions.{source_is_ll1}
use Rattle.source_grammar.proofs.Firsts.{depths}
use Rattle.source_grammar.proofs.OneAnswer.{one_fault, derived_or_faulty}
use Rattle.source_words.specs.declared.word.Word.{Word}
use Rattle.source_words.specs.Faults.{kinds_in, error_of}
use Rattle.source_words.specs.Words.{AreWords, GivesNames, IsBadText, IsWordError}
use Rattle.source_words.proofs.WordLists.{no_words}
use Rattle.source_trees.specs.declared.item.Item.{Item}
use Rattle.rs_syntax.specs.declared.part.Part.{Part}
use Rattle.rs_syntax.specs.Gathered.{all_of, item_of}
use Rattle.rs_syntax.specs.Make.{trees}
use Rattle.rs_syntax.specs.Parsed.{AreWordsOfSource, IsTreeOf, items_of, AreItemsOf, SpellsItems, functions_among, most_functions, IsSyntaxError, IsParseError, IsItemsError, SpellsNone}
use Rattle.rs_syntax.proofs.Words.{same_kinds, same_span, one_list_of_words, words_alone, one_bad_text}

-- ---- the tree of words

pub one_tree_of : (ws : List Word) (one other : Tree) → IsTreeOf ws one → IsTreeOf ws other → one ≡ other
one_tree_of ws one other a b = one_tree source_grammar a.is_tree b.is_tree (one_derivation source_grammar (depth_of depths) source_is_ll1 a.derives b.derives)

-- which is a derivation within the limits
pub is_derivation : (ws : List Word) (tree : Tree) → IsTreeOf ws tree → IsSourceDerivation source_goal 0 (kinds_in ws) (preorder tree)
unfolding PassesAt
is_derivation ws tree h = (h.derives, λ other is e. subst (λ (t : Tree). limit_passed source_marks 0 0 0 t ≡ None) (sym (one_tree source_grammar is h.is_tree e)) h.within)

-- and the values of a derivation are those of its tree
pub items_made : (G : Grammar) (ws : List Word) (rs : List ℕ) (count : ℕ) (parts : List Part) → G ≡ source_grammar → count ≡ length ws → IsSourceDerivation source_goal 0 (kinds_in ws) rs → AreValues G (trees ws) source_goal rs count parts
    → AreItemsOf ws (all_of item_of parts)
unfolding PassesAt AreValues
items_made G ws rs count parts is all d v =
    let t = tree_of source_grammar source_goal (kinds_in ws) rs d.0 in
    let many : size t.0 ≡ count = t.3 ∙ kinds_many ws ∙ sym all in
    let at_tree = subst (λ (g : Grammar). IsTree g (Nonterminal source_goal) t.0) (sym is) t.1 in
    record {
      tree = t.0;
      is_tree_of = record {
        is_tree = t.1;
        derives = subst (λ (qs : List ℕ). Derives source_grammar (goal_of source_goal) (kinds_in ws) qs) (sym t.2) d.0;
        within = d.1 t.0 t.1 t.2;
      };
      are = ap (λ (ps : List Part). all_of item_of ps) (v t.0 at_tree t.2 many);
    }
  where
    kinds_many : (us : List Word) → length (kinds_in us) ≡ length us
    kinds_many us = search (rules, common_steps)

pub one_items : (ws : List Word) (one other : List Item) → AreItemsOf ws one → AreItemsOf ws other → one ≡ other
one_items ws one other a b = a.are ∙ ap (items_of ws) (one_tree_of ws a.tree b.tree a.is_tree_of b.is_tree_of) ∙ sym b.are

pub one_list : (old : List (List ℕ)) (bytes : List ℕ) (one other : List Item) → HaveOnePlace (words ++ old) → SpellsItems old bytes one → SpellsItems old bytes other → one ≡ other
one_list old bytes one other place a b =
    let same : a.words ≡ b.words = one_list_of_words old bytes a.words b.words place a.are_words b.are_words in
    one_items b.words one other (subst (λ (ws : List Word). AreItemsOf ws one) same a.are_items) b.are_items

-- where the words of the bytes are alone, so are their items
pub items_alone : (old new : List (List ℕ)) (bytes : List ℕ) (ws : List Word) (items : List Item) → GivesNames old bytes new → ((other : List Word) → AreWords new bytes other → other ≡ ws) → AreItemsOf ws items
    → (other : List Item) → SpellsItems old bytes other → other ≡ items
items_alone old new bytes ws items gives only are other s =
    let same : s.words ≡ ws = words_alone old new bytes ws gives only s.words s.are_words in
    one_items ws other items (subst (λ (us : List Word). AreItemsOf us other) same s.are_items) are

pub not_many : (old : List (List ℕ)) (bytes : List ℕ) (items : List Item) (limit : Limit) → HaveOnePlace (words ++ old) → SpellsItems old bytes items → functions_among items ≤ most_functions → IsParseError old bytes (P.Limit limit) → ⊥
not_many old bytes items limit place s few h = omega (arith, few, h.many, ap functions_among (one_list old bytes items h.items place s h.spelled))

-- ---- refusals

no_memory : (ws : List Word) (end : ℕ) (f : SyntaxFault) (error : SourceError) → error_of ws end f ≡ P.Source error → f ≡ fault.NoMemory → ⊥
no_memory ws end f error e is = (let k : error_of ws end fault.NoMemory ≡ P.Source error = ap (error_of ws end) (sym is) ∙ e in cc)

-- errors are told by the places of words alone
same_error : (table other : List (List ℕ)) (bytes : List ℕ) (a b : List Word) (end : ℕ) (f : SyntaxFault) → AreWords table bytes a → AreWords other bytes b → error_of a end f ≡ error_of b end f
same_error table other bytes a b end (fault.Stray position) v w = ap (λ s. P.Source (record { code = E03; span = s; other = None })) (same_span table other bytes a b position end v w)
same_error table other bytes a b end (fault.LeftOut position) v w = ap (λ s. P.Source (record { code = E20; span = s; other = None })) (same_span table other bytes a b position end v w)
same_error table other bytes a b end (fault.TooDeep position) v w = ap (λ s. P.Source (record { code = E04; span = s; other = None })) (same_span table other bytes a b position end v w)
same_error table other bytes a b end fault.NoMemory v w = refl

source_same : {one other : SourceError} → P.Source one ≡ P.Source other → one ≡ other
source_same e = cc

one_syntax_error : (table other : List (List ℕ)) (bytes : List ℕ) (a b : List Word) (end : ℕ) (x y : SourceError) → AreWords table bytes a → AreWords other bytes b → IsSyntaxError a end x → IsSyntaxError b end y → x ≡ y
one_syntax_error table other bytes a b end x y v w h g =
    let kinds : kinds_in b ≡ kinds_in a = same_kinds other table bytes b a w v in
    let again = subst (λ (ks : List ℕ). IsFault source_goal 0 ks g.fault) kinds g.is_fault in
    let same : h.fault ≡ g.fault = one_fault source_goal (kinds_in a) 0 h.fault g.fault (no_memory a end h.fault x h.is) (no_memory b end g.fault y g.is) h.is_fault again in
    source_same (sym h.is ∙ ap (error_of a end) same ∙ same_error table other bytes a b end g.fault v w ∙ g.is)

pub one_error : (old : List (List ℕ)) (bytes : List ℕ) (one other : SourceError) → IsParseError old bytes (P.Source one) → IsParseError old bytes (P.Source other) → one ≡ other
one_error old bytes one other (inl h) (inl g) = one_bad_text bytes one other h g
one_error old bytes one other (inl h) (inr g) = absurd (no_words g.are_words.table bytes one g.words h g.are_words.are_words)
one_error old bytes one other (inr h) (inl g) = absurd (no_words h.are_words.table bytes other h.words g h.are_words.are_words)
one_error old bytes one other (inr h) (inr g) = one_syntax_error h.are_words.table g.are_words.table bytes h.words g.words (length bytes) one other h.are_words.are_words g.are_words.are_words h.is_error g.is_error

not_derived : (table other : List (List ℕ)) (bytes : List ℕ) (a b : List Word) (end : ℕ) (items : List Item) (error : SourceError) → AreWords table bytes a → AreWords other bytes b → AreItemsOf a items → IsSyntaxError b end error → ⊥
not_derived table other bytes a b end items error v w s h =
    let kinds : kinds_in b ≡ kinds_in a = same_kinds other table bytes b a w v in
    let again = subst (λ (ks : List ℕ). IsFault source_goal 0 ks h.fault) kinds h.is_fault in
    derived_or_faulty source_goal (kinds_in a) 0 (preorder s.tree) h.fault (no_memory b end h.fault error h.is) (is_derivation a s.tree s.is_tree_of) again

-- what is refused spells nothing
pub no_items : (old : List (List ℕ)) (bytes : List ℕ) (items : List Item) (error : SourceError) → SpellsItems old bytes items → IsParseError old bytes (P.Source error) → ⊥
no_items old bytes items error s (inl h) = no_words s.are_words.table bytes error s.words h s.are_words.are_words
no_items old bytes items error s (inr h) = not_derived s.are_words.table h.are_words.table bytes s.words h.words (length bytes) items error s.are_words.are_words h.are_words.are_words s.are_items h.is_error

pub error_of_words : (old : List (List ℕ)) (bytes : List ℕ) (error : PassError) → IsWordError bytes error → IsParseError old bytes error
error_of_words old bytes (P.Source error) h = inl h
error_of_words old bytes (P.Limit limit) h = absurd h
error_of_words old bytes P.NoMemory h = tt

pub error_of_items : (old : List (List ℕ)) (bytes : List ℕ) (ws : List Word) (error : PassError) → AreWordsOfSource old bytes ws → IsItemsError ws (length bytes) error → IsParseError old bytes error
error_of_items old bytes ws (P.Source error) w h = inr (record { words = ws; are_words = w; is_error = h })
error_of_items old bytes ws (P.Limit limit) w h = absurd h
error_of_items old bytes ws P.NoMemory w h = tt

-- an error of this kind leaves nothing that is spelled
pub none_spelled : (old : List (List ℕ)) (bytes : List ℕ) (error : PassError) → IsParseError old bytes error → SpellsNone old bytes error
none_spelled old bytes (P.Source error) h = λ items s. no_items old bytes items error s h
none_spelled old bytes (P.Limit limit) h = tt
none_spelled old bytes P.NoMemory h = tt

-- ---- the fault of words

pub fault_error : (ws : List Word) (end : ℕ) (f : SyntaxFault) → IsFault source_goal 0 (kinds_in ws) f → IsItemsError ws end (error_of ws end f)
fault_error ws end (fault.Stray position) h = record { fault = fault.Stray position; is_fault = h; is = refl }
fault_error ws end (fault.LeftOut position) h = record { fault = fault.LeftOut position; is_fault = h; is = refl }
fault_error ws end (fault.TooDeep position) h = record { fault = fault.TooDeep position; is_fault = h; is = refl }
fault_error ws end fault.NoMemory h = tt

-- ---- the bound on functions

module _ (table : List (List ℕ)) (bytes : List ℕ) (items : List Item) (spelled : SpellsItems table bytes items) (alone : (other : List Item) → SpellsItems table bytes other → other ≡ items) where
  pub bounded : (r : Result (List Item) PassError) → IfOk r (λ them. (them ≡ items) × (functions_among items ≤ most_functions)) → IfOk r (λ them. SpellsItems table bytes them)
  bounded (Ok them) b = subst (λ (xs : List Item). SpellsItems table bytes xs) (sym b.0) spelled
  bounded (Err x) b = b

  pub bounded_alone : (r : Result (List Item) PassError) → IfOk r (λ them. (them ≡ items) × (functions_among items ≤ most_functions)) → IfOk r (λ them. (other : List Item) → SpellsItems table bytes other → other ≡ them)
  bounded_alone (Ok them) b = λ other s. alone other s ∙ sym b.0
  bounded_alone (Err x) b = b

  pub bounded_few : (r : Result (List Item) PassError) → IfOk r (λ them. (them ≡ items) × (functions_among items ≤ most_functions)) → IfOk r (λ them. functions_among them ≤ most_functions)
  bounded_few (Ok them) b = subst (λ (xs : List Item). functions_among xs ≤ most_functions) (sym b.0) b.1
  bounded_few (Err x) b = b

  pub too_many : (r : Result (List Item) PassError) → IfErr r (λ x. (most_functions < functions_among items) × (x ≡ P.Limit (record { kind = Functions; counted = 4097; bound = most_functions }))) → IfErr r (λ x. IsParseError table bytes x)
  too_many (Ok them) b = b
  too_many (Err x) b = subst (λ (y : PassError). IsParseError table bytes y) (sym b.1) (record { items = items; spelled = spelled; many = b.0; is = refl })

  pub none_bounded : (r : Result (List Item) PassError) → IfErr r (λ x. (most_functions < functions_among items) × (x ≡ P.Limit (record { kind = Functions; counted = 4097; bound = most_functions }))) → IfErr r (λ x. SpellsNone table bytes x)
  none_bounded (Ok them) b = b
  none_bounded (Err x) b = subst (λ (y : PassError). SpellsNone table bytes y) (sym b.1) tt
