-- Sources in which all forms are built, and where a source is refused that is none of them.
use Rattle.std.specs.Prelude.{◌≡◌, ℕ, ◌≤◌, ◌⊎◌, Bool, List, [], ◌∷◌, length, None, Some, nat_le, if◌then◌else◌}
use Rattle.text_core.specs.declared.fault.PassError.{PassError}
use Rattle.text_core.specs.declared.fault.PassError.TheVariants as P
use Rattle.text_core.specs.declared.refusal.Code.TheVariants.{E20}
use Rattle.text_core.specs.declared.refusal.SourceError.{SourceError}
use Rattle.text_core.specs.declared.span.Span.{Span}
use Rattle.rs_tokens.specs.declared.token.Token.{Token}
use Rattle.rs_tokens.specs.Reading.{AreTokens}
use Rattle.source_trees.specs.declared.item.Item.{Item}
use Rattle.rs_syntax.specs.Parsed.{SpellsItems, functions_among, most_functions, IsParseError}
use Rattle.source_forms.specs.declared.form.Form.{Form}
use Rattle.source_forms.specs.Forms.{is_among}
use Rattle.source_forms.specs.ItemForms.{first_unbuilt}
use Rattle.verify_core.specs.declared.built.TheConstants.{BUILT}

-- the forms that are built
unfoldable pub is_built : Form → Bool
is_built = is_among BUILT

-- the bytes spell these items, and nothing that is not built; names are those of the old table, and of identifiers that have none there, in
-- order of first use
pub record SpellsBuilt (old : List (List ℕ)) (bytes : List ℕ) (items : List Item) : Type 0 where
  pub spelled : SpellsItems old bytes items
  pub built : first_unbuilt is_built items ≡ None

-- ---- refusals

-- the first of the tokens that does not begin before the byte; else the end
abbrev pub first_token : List Token → ℕ → ℕ → Span
first_token [] end start = record { start = end; end = end }
first_token (token ∷ tokens) end start = if nat_le start token.span.start then token.span else first_token tokens end start

-- E20 at the first token of what begins at this byte
pub record IsUnbuiltAt (bytes : List ℕ) (start : ℕ) (error : SourceError) : Type 0 where
  pub tokens : List Token
  pub are_tokens : AreTokens bytes tokens
  pub is : error ≡ record { code = E20; span = first_token tokens (length bytes) start; other = None }

-- the bytes spell items, not too many, and this is the refusal of the first form in them that is not built
pub record IsNotBuilt (old : List (List ℕ)) (bytes : List ℕ) (error : SourceError) : Type 0 where
  pub items : List Item
  pub spelled : SpellsItems old bytes items
  pub few : functions_among items ≤ most_functions
  pub start : ℕ
  pub begins : first_unbuilt is_built items ≡ Some start
  pub place : IsUnbuiltAt bytes start error

-- why bytes spell no items of built forms: they are none of the whole grammar, or a form in them is not built, or there are too many functions
abbrev pub IsSourceError : List (List ℕ) → List ℕ → PassError → Type 0
IsSourceError old bytes (P.Source error) = IsParseError old bytes (P.Source error) ⊎ IsNotBuilt old bytes error
IsSourceError old bytes (P.Limit limit) = IsParseError old bytes (P.Limit limit)
IsSourceError old bytes P.NoMemory = Unit {0}

-- where a source is refused it spells no items of built forms
abbrev pub SpellsNoneBuilt : List (List ℕ) → List ℕ → PassError → Type 0
SpellsNoneBuilt old bytes (P.Source error) = (items : List Item) → SpellsBuilt old bytes items → ⊥
SpellsNoneBuilt old bytes (P.Limit limit) = Unit {0}
SpellsNoneBuilt old bytes P.NoMemory = Unit {0}
