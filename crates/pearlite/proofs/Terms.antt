-- From the derivation of a front to the term at a place of a source.
use Rattle.std.proofs.Common.{◌≡◌, ℕ, ◌+◌, ◌≤◌, inl, inr, List, length, take, drop, reverse, refl, sym, ap, subst, ◌∙◌, arith, length-drop}
use Rattle.std.proofs.lemmas.List.{length-map, length-take-le, reverse-reverse}
use Rattle.rs_tokens.specs.declared.token.Token.{Token}
use Rattle.rs_tokens.specs.Reading.{AreTokens}
use Rattle.grammar_tables.specs.declared.parsing.Front.{Front}
use Rattle.grammar_tables.specs.Grammar.{Grammar}
use Rattle.grammar_tables.specs.Trees.{Tree, AreValues, values}
use Rattle.grammar_tables.proofs.ParseTrees.{tree_of}
use Rattle.grammar_tables.proofs.Uniqueness.{one_tree}
use Rattle.source_grammar.specs.declared.fault.SyntaxFault.{SyntaxFault}
use Rattle.source_grammar.specs.declared.fault.SyntaxFault.TheVariants as fault
use Rattle.source_grammar.specs.Faults.{IsSourceFront, IsFrontFault}
use Rattle.source_grammar.specs.SourceGrammar.{source_grammar, term_goal}
use Rattle.source_grammar.proofs.OneAnswer.{one_front, front_or_fault}
use Rattle.source_words.specs.declared.word.Word.{Word}
use Rattle.source_words.specs.Faults.{kinds_in, error_of}
use Rattle.source_words.specs.Words.{AreWords, GivesNames}
use Rattle.source_words.proofs.WordLists.{one_table}
use Rattle.pearlite.specs.declared.part.Part.{Part}
use Rattle.pearlite.specs.Cursor.{Standing}
use Rattle.pearlite.specs.Meaning.{shape_actions}
use Rattle.pearlite.specs.Parsed.{IsMade, ReadsTerm, SpellsTerm, position_of, SpellsNoTerm}
use Rattle.pearlite.specs.Parts.{first_term}
use Rattle.source_trees.specs.Pterm.{Pterm}
use Rattle.source_words.proofs.TokenCounts.{as_many_words}

-- ---- what is made of a front

pub made_of : (G : Grammar) (words : List Word) (derivation : List ℕ) (count : ℕ) (parts new : List Part) (term : Pterm) → G ≡ source_grammar → AreValues G (shape_actions words) term_goal derivation count parts →
    new ≡ reverse parts → term ≡ first_term (reverse new) → IsMade words derivation count term
unfolding AreValues IsMade
made_of G words derivation count parts new term g are n e t is d s =
    let same : reverse new ≡ parts = ap reverse n ∙ reverse-reverse parts in
    let value : parts ≡ values (shape_actions words) 0 t = subst (λ (G' : Grammar). AreValues G' (shape_actions words) term_goal derivation count parts) g are t is d s in
    e ∙ ap first_term (same ∙ value)

pub reads : (levels : ℕ) (words : List Word) (kinds : List ℕ) (front : Front) (term : Pterm) → kinds ≡ kinds_in words → IsSourceFront term_goal levels kinds front →
    IsMade words front.derivation.items front.length term → ReadsTerm levels words term front.length
unfolding IsMade
reads levels words kinds front term k f m =
    let t = tree_of source_grammar term_goal (take front.length kinds) front.derivation.items f.derived in
    record {
      front = front;
      longest = subst (λ (ks : List ℕ). IsSourceFront term_goal levels ks front) k f;
      tree = t.0;
      is_tree = t.1;
      derives = t.2;
      made = m t.0 t.1 t.2 (t.3 ∙ length-take-le front.length kinds f.inside);
      all = refl;
    }

-- ---- places

pub front_inside : (levels : ℕ) (words : List Word) (is : Pterm) (taken : ℕ) → ReadsTerm levels words is taken → taken ≤ length words
front_inside levels words is taken r = omega (arith, r.all, r.longest.inside, length-map words (λ (w : Word). w.kind))

inside : (levels : ℕ) (kinds : List ℕ) (f : SyntaxFault) → IsFrontFault term_goal levels kinds f → position_of f ≤ length kinds
inside levels kinds (fault.Stray position) h = h.0.inside
inside levels kinds (fault.LeftOut position) (inl h) = h.0.inside
inside levels kinds (fault.LeftOut position) (inr h) = omega (arith, h.0.inside)
inside levels kinds (fault.TooDeep position) h = omega (arith, h.inside)
inside levels kinds fault.NoMemory h = omega arith

pub fault_inside : (levels : ℕ) (words : List Word) (f : SyntaxFault) → IsFrontFault term_goal levels (kinds_in words) f → position_of f ≤ length words
fault_inside levels words f h = omega (arith, inside levels (kinds_in words) f h, length-map words (λ (w : Word). w.kind))

-- a place so many words behind another is within the tokens
pub reaches : (table : List (List ℕ)) (bytes : List ℕ) (tokens : List Token) (words : List Word) (place taken : ℕ) → AreTokens bytes tokens → AreWords table bytes words → place ≤ length tokens →
    taken ≤ length (drop place words) → place + taken ≤ length tokens
reaches table bytes tokens words place taken are h place_in within =
    let many = as_many_words table bytes tokens words are h in omega (arith, many, place_in, within, length-drop place words)

-- ---- one term

pub one_reading : (levels : ℕ) (words : List Word) (is other : Pterm) (taken after : ℕ) → ReadsTerm levels words is taken → ReadsTerm levels words other after → (other ≡ is) × (after ≡ taken)
one_reading levels words is other taken after r s =
    let fronts = one_front term_goal (kinds_in words) levels r.front s.front r.longest s.longest in
    let tree : s.tree ≡ r.tree = one_tree source_grammar s.is_tree r.is_tree (s.derives ∙ sym fronts.1 ∙ sym r.derives) in
    (s.made ∙ ap (λ (t : Tree). first_term (values (shape_actions words) 0 t)) tree ∙ sym r.made, s.all ∙ sym fronts.0 ∙ sym r.all)

module _ (old table : List (List ℕ)) (standing : Standing) (ws : List Word) (gives : GivesNames old standing.bytes table)
    (only : (others : List Word) → AreWords table standing.bytes others → others ≡ ws) where
  -- the reading that makes a term, of these words
  there : (is : Pterm) (after : ℕ) → (s : SpellsTerm old standing is after) → ReadsTerm standing.levels (drop standing.place ws) is s.taken
  there is after s =
      let t : s.table ≡ table = one_table old standing.bytes s.table table s.gives gives in
      let w : s.words ≡ ws = only s.words (subst (λ (x : List (List ℕ)). AreWords x standing.bytes s.words) t s.are_words) in
      subst (λ (x : List Word). ReadsTerm standing.levels (drop standing.place x) is s.taken) w s.reads

  pub one_term : (term : Pterm) (taken : ℕ) → ReadsTerm standing.levels (drop standing.place ws) term taken →
      (other : Pterm) (after : ℕ) → SpellsTerm old standing other after → (other ≡ term) × (after ≡ standing.place + taken)
  one_term term taken r other after s =
      let e = one_reading standing.levels (drop standing.place ws) term other taken s.taken r (there other after s) in
      (e.0, s.behind ∙ ap (λ (n : ℕ). standing.place + n) e.1)

  none_where : (f : SyntaxFault) → (f ≡ fault.NoMemory → ⊥) → IsFrontFault term_goal standing.levels (kinds_in (drop standing.place ws)) f → (is : Pterm) (after : ℕ) → SpellsTerm old standing is after → ⊥
  none_where f n h is after s =
      let r = there is after s in front_or_fault term_goal (kinds_in (drop standing.place ws)) standing.levels r.front r.longest f n h

  pub no_term : (end : ℕ) (f : SyntaxFault) → IsFrontFault term_goal standing.levels (kinds_in (drop standing.place ws)) f → SpellsNoTerm old standing (error_of (drop standing.place ws) end f)
  no_term end (fault.Stray position) h = none_where (fault.Stray position) (λ e. cc) h
  no_term end (fault.LeftOut position) h = none_where (fault.LeftOut position) (λ e. cc) h
  no_term end (fault.TooDeep position) h = none_where (fault.TooDeep position) (λ e. cc) h
  no_term end fault.NoMemory h = tt
