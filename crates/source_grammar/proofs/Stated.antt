-- Tables that hold what the arrays hold state the grammar.
use Rattle.std.specs.Prelude.{◌≡◌, ℕ, Bool, true, List, ◌+◌, length, min, get_or}
use Rattle.std.proofs.Common.{refl, sym, ◌∙◌, ap, subst}
use Rattle.grammar_tables.specs.declared.symbol.Symbol.{Symbol}
use Rattle.grammar_tables.specs.declared.tables.BodyRange.{BodyRange}
use Rattle.grammar_tables.specs.Tables.{TableLists, grammar_of}
use Rattle.grammar_tables.specs.First.{each_from, all_of}
use Rattle.grammar_tables.specs.LL1.{IsLL1}
use Rattle.grammar_tables.specs.TableTest.{states_alternatives, flat_cells, flat_members, are_kinds}
use Rattle.grammar_tables.proofs.TableTest.{states, flat_length}
use Rattle.source_grammar.specs.SourceGrammar.{source_grammar}
use Rattle.source_grammar.proofs.Listed.{class_lists, listed}
use Rattle.source_grammar.proofs.Firsts.{firsts, depths}
use Rattle.source_grammar.proofs.Arrays.{symbols, bodies, offsets}
use Rattle.source_grammar.proofs.Conditions.{is_fixed, passes_ll1, is_source, source_is_ll1}

abbrev lists : List Bool → List Symbol → List BodyRange → List ℕ → List ℕ → TableLists
lists m s b o p = record { members = m; symbols = s; bodies = b; offsets = o; predictions = p }

-- the test does not look at the classes and the predictions
passes_tables : (m : List Bool) (p : List ℕ) → each_from (states_alternatives (lists m symbols bodies offsets p) firsts) 0 listed ≡ true
unfolding symbols bodies offsets listed firsts
passes_tables m p = refl

have_columns : all_of are_kinds class_lists ≡ true
unfolding class_lists
have_columns = refl

one_more : length offsets ≡ length listed + 1
unfolding offsets listed
one_more = refl

same_lists : (m : List Bool) (s t : List Symbol) (b c : List BodyRange) (o q p : List ℕ) → s ≡ t → b ≡ c → o ≡ q → lists m s b o p ≡ lists m t c q p
same_lists m s t b c o q p e f g = rw (e, f, g) refl

pub are_stated : (t : TableLists) → t.members ≡ flat_members class_lists → t.symbols ≡ symbols → t.bodies ≡ bodies → t.offsets ≡ offsets → t.predictions ≡ flat_cells class_lists firsts listed →
    grammar_of t ≡ source_grammar
are_stated t m e f g h =
    states class_lists firsts listed depths is_fixed passes_ll1 t have_columns m
    (subst (λ (u : TableLists). each_from (states_alternatives u firsts) 0 listed ≡ true) (sym (same_lists t.members t.symbols symbols t.bodies bodies t.offsets offsets t.predictions e f g))
    (passes_tables t.members t.predictions)) h (ap length g ∙ one_more) (ap length h ∙ flat_length class_lists firsts listed) ∙ sym is_source

pub are_ll1 : (t : TableLists) (ds : List ℕ) → grammar_of t ≡ source_grammar → ds ≡ depths → IsLL1 (grammar_of t) (λ n. min (get_or ds n 0) 255)
are_ll1 t ds e f = rw (e, f) source_is_ll1
