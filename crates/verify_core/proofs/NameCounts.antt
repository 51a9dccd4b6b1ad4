-- The table of an accepted source: it has no more names than the source has bytes, and no text twice.
use Rattle.std.proofs.Common.{◌≡◌, refl, sym, ap, subst, ℕ, ◌+◌, ◌≤◌, Bool, true, false, if◌then◌else◌, List, [], ◌∷◌, ◌++◌, length, arith}
use Rattle.std.proofs.lemmas.List.{length-append}
use Rattle.text_core.specs.Names.{words, HaveOnePlace}
use Rattle.name_tables.specs.NameTables.{is_named, with_name, with_names}
use Rattle.name_tables.proofs.Tables.{one_place_at_first, one_place_each, same_where_named, longer_where_unnamed}
use Rattle.rs_tokens.specs.declared.token.Token.{Token}
use Rattle.source_words.specs.Texts.{text_in}
use Rattle.source_words.specs.Words.{GivesNames, bears_name, with_identifier, identifiers_in}
use Rattle.source_words.proofs.TokenCounts.{few_tokens}
use Rattle.verify_core.specs.declared.program.Program.{Program}
use Rattle.verify_core.specs.Prepared.{IsPrepared, most_bytes}

-- ---- how a table grows

one_more_by : (given : List (List ℕ)) (text : List ℕ) (b : Bool) → is_named given text ≡ b → length (with_name given text) ≤ length given + 1
one_more_by given text true e = omega (arith, ap length (same_where_named given text e))
one_more_by given text false e = omega (arith, ap length (longer_where_unnamed given text e), length-append given (text ∷ []))

-- by no more names than texts
grown_by_texts : (given texts : List (List ℕ)) → length (with_names given texts) ≤ length given + length texts
grown_by_texts given [] = omega arith
grown_by_texts given (text ∷ texts) = omega (arith, one_more_by given text (is_named given text) refl, grown_by_texts (with_name given text) texts)

-- ---- the names of a source

one_identifier_by : (b : Bool) (text : List ℕ) (texts : List (List ℕ)) → length (if b then text ∷ texts else texts) ≤ length texts + 1
one_identifier_by true text texts = omega arith
one_identifier_by false text texts = omega arith

few_identifiers : (bytes : List ℕ) (tokens : List Token) → length (identifiers_in bytes tokens) ≤ length tokens
few_identifiers bytes [] = omega arith
few_identifiers bytes (token ∷ tokens) =
    omega (arith, one_identifier_by (bears_name token.kind) (text_in bytes token.span) (identifiers_in bytes tokens), few_identifiers bytes tokens)

-- a source gives no more names than it has bytes
pub names_of_bytes : (source : List ℕ) (table : List (List ℕ)) → GivesNames [] source table → length table ≤ length source
names_of_bytes source table gives =
    omega (arith, ap length gives.is, grown_by_texts [] (identifiers_in source gives.tokens), few_identifiers source gives.tokens, few_tokens source gives.tokens gives.are_tokens)

-- ---- accepted sources

pub few_names : (source : List ℕ) (p : Program) → length source ≤ most_bytes → IsPrepared source p → length p.names ≤ most_bytes
few_names source p short prepared = omega (arith, short, names_of_bytes source p.names prepared.is_typed.has.gives)

-- so a text has one name, and the bytes of a file of proofs spell one file by the table
pub one_place_of_names : (source : List ℕ) (p : Program) → IsPrepared source p → HaveOnePlace (words ++ p.names)
one_place_of_names source p prepared =
    let gives = prepared.is_typed.has.gives in
    subst (λ (table : List (List ℕ)). HaveOnePlace (words ++ table)) (sym gives.is) (one_place_each [] (identifiers_in source gives.tokens) one_place_at_first)
