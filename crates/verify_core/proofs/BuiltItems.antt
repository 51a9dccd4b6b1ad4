-- From the items that a source spells to those in which all forms are built.
use Rattle.std.proofs.Common.{◌≡◌, ◌≤◌, ◌∙◌, ap, sym, subst, inl, inr, ℕ, List, ◌++◌, length, Option, None, Some}
use Rattle.text_core.specs.Names.{words, HaveOnePlace}
use Rattle.text_core.specs.declared.fault.PassError.{PassError}
use Rattle.text_core.specs.declared.fault.PassError.TheVariants as P
use Rattle.text_core.specs.declared.refusal.Code.TheVariants.{E20}
use Rattle.text_core.specs.declared.refusal.Limit.{Limit}
use Rattle.text_core.specs.declared.refusal.SourceError.{SourceError}
use Rattle.rs_tokens.specs.declared.token.Token.{Token}
use Rattle.rs_tokens.proofs.OneReading.{one_list as one_token_list}
use Rattle.source_words.specs.Words.{IsWordError}
use Rattle.source_trees.specs.declared.item.Item.{Item}
use Rattle.rs_syntax.specs.Parsed.{SpellsItems, functions_among, most_functions, IsParseError, SpellsNone}
use Rattle.rs_syntax.proofs.Whole.{no_items, one_error as one_items_error, one_list, not_many as not_many_items, error_of_words, none_spelled}
use Rattle.source_forms.specs.ItemForms.{first_unbuilt}
use Rattle.verify_core.specs.Built.{is_built, SpellsBuilt, first_token, IsUnbuiltAt, IsNotBuilt, IsSourceError, SpellsNoneBuilt}

none_some : (n : ℕ) → ◌≡◌ {A = Option ℕ} None (Some n) → ⊥
none_some n e = cc

same_some : {m n : ℕ} → ◌≡◌ {A = Option ℕ} (Some m) (Some n) → m ≡ n
same_some e = cc

-- ---- refusals of what is no list of items

pub of_items : (table : List (List ℕ)) (bytes : List ℕ) (error : PassError) → IsParseError table bytes error → IsSourceError table bytes error
of_items table bytes (P.Source error) h = inl h
of_items table bytes (P.Limit limit) h = h
of_items table bytes P.NoMemory h = tt

pub none_of_items : (table : List (List ℕ)) (bytes : List ℕ) (error : PassError) → SpellsNone table bytes error → SpellsNoneBuilt table bytes error
none_of_items table bytes (P.Source error) h = λ items s. h items s.spelled
none_of_items table bytes (P.Limit limit) h = tt
none_of_items table bytes P.NoMemory h = tt

pub of_words : (table : List (List ℕ)) (bytes : List ℕ) (error : PassError) → IsWordError bytes error → IsSourceError table bytes error
of_words table bytes error h = of_items table bytes error (error_of_words table bytes error h)

pub none_of_words : (table : List (List ℕ)) (bytes : List ℕ) (error : PassError) → IsWordError bytes error → SpellsNoneBuilt table bytes error
none_of_words table bytes error h = none_of_items table bytes error (none_spelled table bytes error (error_of_words table bytes error h))

-- ---- items that are spelled

module _ (table : List (List ℕ)) (bytes : List ℕ) (items : List Item) (spelled : SpellsItems table bytes items) (alone : (other : List Item) → SpellsItems table bytes other → other ≡ items) where
  pub not_built : functions_among items ≤ most_functions → (start : ℕ) (error : SourceError) → first_unbuilt is_built items ≡ Some start → IsUnbuiltAt bytes start error
      → IsSourceError table bytes (P.Source error)
  not_built few start error is at = inr (record { items = items; spelled = spelled; few = few; start = start; begins = is; place = at })

  pub none_built : (start : ℕ) (error : SourceError) → first_unbuilt is_built items ≡ Some start → SpellsNoneBuilt table bytes (P.Source error)
  none_built start error is = λ other s. none_some start (sym s.built ∙ ap (first_unbuilt is_built) (alone other s.spelled) ∙ is)

-- ---- one refusal

one_place : (bytes : List ℕ) (start : ℕ) (one other : SourceError) → IsUnbuiltAt bytes start one → IsUnbuiltAt bytes start other → one ≡ other
one_place bytes start one other a b =
    let same = (one_token_list bytes 0 a.tokens b.tokens None None a.are_tokens.tokens_of b.are_tokens.tokens_of).0 in
    a.is ∙ ap (λ (ts : List Token). let e : SourceError = record { code = E20; span = first_token ts (length bytes) start; other = None } in e) same ∙ sym b.is

module _ (old : List (List ℕ)) (bytes : List ℕ) (place : HaveOnePlace (words ++ old)) where
  pub one_source : (one other : List Item) → SpellsBuilt old bytes one → SpellsBuilt old bytes other → one ≡ other
  one_source one other a b = one_list old bytes one other place a.spelled b.spelled

  -- two forms that are not built
  same_form : (one other : SourceError) → IsNotBuilt old bytes one → IsNotBuilt old bytes other → one ≡ other
  same_form one other h g =
      let start : h.start ≡ g.start = same_some (sym h.begins ∙ ap (first_unbuilt is_built) (one_list old bytes h.items g.items place h.spelled g.spelled) ∙ g.begins) in
      one_place bytes g.start one other (subst (λ n. IsUnbuiltAt bytes n one) start h.place) g.place

  pub one_error : (one other : SourceError) → IsSourceError old bytes (P.Source one) → IsSourceError old bytes (P.Source other) → one ≡ other
  one_error one other (inl h) (inl g) = one_items_error old bytes one other h g
  one_error one other (inl h) (inr g) = absurd (no_items old bytes g.items one g.spelled h)
  one_error one other (inr h) (inl g) = absurd (no_items old bytes h.items other h.spelled g)
  one_error one other (inr h) (inr g) = same_form one other h g

  -- what spells items of built forms is not refused
  pub not_refused : (items : List Item) (error : SourceError) → SpellsBuilt old bytes items → IsSourceError old bytes (P.Source error) → ⊥
  not_refused items error s (inl h) = no_items old bytes items error s.spelled h
  not_refused items error s (inr h) =
      none_some h.start (sym s.built ∙ ap (first_unbuilt is_built) (one_list old bytes items h.items place s.spelled h.spelled) ∙ h.begins)

  -- where there are too many functions, no few are spelled
  pub not_few : (items : List Item) (limit : Limit) → SpellsBuilt old bytes items → functions_among items ≤ most_functions → IsSourceError old bytes (P.Limit limit) → ⊥
  not_few items limit s few h = not_many_items old bytes items limit place s.spelled few h

  pub not_many : (error : SourceError) (limit : Limit) → IsSourceError old bytes (P.Source error) → IsSourceError old bytes (P.Limit limit) → ⊥
  not_many error limit (inl h) g = no_items old bytes g.items error g.spelled h
  not_many error limit (inr h) g = not_many_items old bytes h.items limit place h.spelled h.few g
