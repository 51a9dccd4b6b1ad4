-- What is known of the tokens of a text, and of names.
use Rattle.std.proofs.Common.{◌≡◌, ℕ, zero, suc, ◌+◌, ◌-◌, ◌^◌, ◌/◌, ◌%◌, ◌≤◌, ◌<◌, Bool, true, false, cond, ◌&&◌}
use Rattle.std.proofs.Common.{List, [], ◌∷◌, ◌++◌, length, take, drop, get_or, not, ◌⊎◌, inl, inr, Option, Some, None, Result, Ok, Err, refl, sym, ap, subst, ◌∙◌, append_assoc, true≢false, arith}
use Rattle.std.specs.Prelude.{nat_lt, encode_utf8, encode_utf8_all, slice_get, OnOk, OnErr, IfOk}
use Rattle.std.specs.List.{list_all}
use Rattle.std.specs.Str.{chars, IsUtf8, IsCharBoundary, bytes_eq}
use lib.Utf8.{encode, scalar, scalars}
use Rattle.std.proofs.lemmas.Bool.{ltb-true, ltb-false}
use Rattle.std.proofs.lemmas.List.{take-append-drop}
use Rattle.std.proofs.lemmas.Option.{slice_get_within}
use Rattle.std.proofs.lemmas.Str.{encodes-chars, scalars-chars, IsUtf8-drop}
use Rattle.text_core.specs.declared.name.Name.{Name}
use Rattle.text_core.specs.declared.fault.NoMemory.{NoMemory}
use Rattle.text_core.specs.Names.{words, text_of, HaveOnePlace}
use Rattle.text_core.proofs.NamesLemmas.{slice_get-append_cases}
use Rattle.name_tables.specs.NameTables.{with_name}
use Rattle.name_tables.proofs.Tables.{interned}
use Rattle.rs_tokens.specs.declared.token.Token.{Token}
use Rattle.rs_tokens.specs.declared.token.TokenKind.{TokenKind}
use Rattle.rs_tokens.specs.declared.token.TokenKind.TheVariants as T
use Rattle.rs_tokens.specs.Tables.{Row, marks, kind_in}
use Rattle.rs_tokens.specs.Tokens.{IsQuotedWord, IsToken, word, integer, string, lifetime, mark, integer_value, largest_integer, refused_of}
use Rattle.rs_tokens.specs.Reading.{Gives}
use Rattle.rs_tokens.proofs.WordLaws.{chars_front}
use Rattle.source_words.specs.Texts.{text_in}
use Rattle.source_words.specs.Words.{bears_name, IsLexeme, Keeps, NamesOnlyNew}

pub and_true : (a b : Bool) → (a && b) ≡ true → (a ≡ true) × (b ≡ true)
and_true true b h = (refl, h)
and_true false b h = absurd (true≢false (sym h))

not_true : (b : Bool) → not b ≡ true → b ≡ false
not_true true h = absurd (true≢false (sym h))
not_true false h = refl

none_some : {A : Type 0} (a : A) → None ≡ Some a → ⊥
none_some a e = cc

-- ---- identifiers and lifetimes are texts

abbrev bytes_by : ℕ → Bool → Bool → Bool → List ℕ
bytes_by c a b d = cond a (c ∷ []) (cond b ((192 + c / 64) ∷ (128 + c % 64) ∷ []) (cond d ((224 + c / 4096) ∷ (128 + (c / 64) % 64) ∷ (128 + c % 64) ∷ []) ((240 + c / 262144) ∷ (128 + (c / 4096) % 64) ∷ (128 + (c / 64) % 64) ∷ (128 + c % 64) ∷ [])))

lead_by : (c : ℕ) (rest : List ℕ) (a : Bool) → nat_lt c 128 ≡ a → (b d : Bool) → 128 ≤ get_or (bytes_by c a b d ++ rest) 0 0 → 192 ≤ get_or (bytes_by c a b d ++ rest) 0 0
lead_by c rest true e b d h = absurd (omega (arith, ltb-true c 128 e, h))
lead_by c rest false e true d h = omega arith
lead_by c rest false e false true h = omega arith
lead_by c rest false e false false h = omega arith

-- the first byte of a character is none that goes on with one
lead : (c : ℕ) (rest : List ℕ) → 128 ≤ get_or (encode_utf8 c ++ rest) 0 0 → 192 ≤ get_or (encode_utf8 c ++ rest) 0 0
unfolding encode
lead c rest h = lead_by c rest (nat_lt c 128) refl (nat_lt c 2048) (nat_lt c 65536) h

first_dropped : (xs : List ℕ) (i : ℕ) → get_or xs i 0 ≡ get_or (drop i xs) 0 0
first_dropped xs zero = refl
first_dropped [] (suc i) = refl
first_dropped (x ∷ xs) (suc i) = first_dropped xs i

both_true : (a b : Bool) → a ≡ true → b ≡ true → (a && b) ≡ true
both_true true b h k = k
both_true false b h k = absurd (true≢false (sym h))

scalars_front : (xs ys : List ℕ) → scalars (xs ++ ys) ≡ true → scalars xs ≡ true
scalars_front [] ys h = refl
scalars_front (x ∷ xs) ys h =
    let both = and_true (scalar x) (scalars (xs ++ ys)) h in
    both_true (scalar x) (scalars xs) both.0 (scalars_front xs ys both.1)

-- characters at a place of a text, from the first byte of one, are a text
spelled_utf8 : (bytes : List ℕ) (start len first : ℕ) (others : List ℕ) → IsUtf8 bytes → start ≤ length bytes → encode_utf8_all (first ∷ others) ≡ take len (drop start bytes) → IsUtf8 (take len (drop start bytes))
spelled_utf8 bytes start len first others utf8 within spells =
    let left : List ℕ = drop start bytes in
    let behind : List ℕ = drop len left in
    let whole : left ≡ encode_utf8_all (first ∷ others) ++ behind = sym (take-append-drop len left) ∙ ap (λ (x : List ℕ). x ++ behind) (sym spells) in
    let begins : left ≡ encode_utf8 first ++ (encode_utf8_all others ++ behind) = whole ∙ append_assoc (encode_utf8 first) (encode_utf8_all others) behind in
    let byte : get_or bytes start 0 ≡ get_or (encode_utf8 first ++ (encode_utf8_all others ++ behind)) 0 0 = first_dropped bytes start ∙ ap (λ (x : List ℕ). get_or x 0 0) begins in
    let boundary : IsCharBoundary bytes start = (within, λ lt high. (let led = lead first (encode_utf8_all others ++ behind) (omega (arith, byte, high)) in omega (arith, byte, led))) in
    let good : IsUtf8 left = IsUtf8-drop bytes start utf8 boundary in
    let front = chars_front (first ∷ others) (chars left) behind (encodes-chars left good ∙ whole) in
    (first ∷ others, (scalars_front (first ∷ others) front.0 (sym (ap scalars front.1) ∙ scalars-chars left good), spells))

kind_by_row : (p : TokenKind → Bool) (row : Row) (rest : Option TokenKind) (kind : TokenKind) (b : Bool) → p row.kind ≡ true → (rest ≡ Some kind → p kind ≡ true) → cond b (Some row.kind) rest ≡ Some kind → p kind ≡ true
kind_by_row p row rest kind true here later e = (let same : row.kind ≡ kind = cc in ap p (sym same) ∙ here)
kind_by_row p row rest kind false here later e = later e

-- what holds of the kinds of all rows holds of one that is found
kind_passes : (p : TokenKind → Bool) (rows : List Row) (text : List ℕ) (kind : TokenKind) → list_all (λ (row : Row). p row.kind) rows ≡ true → kind_in rows text ≡ Some kind → p kind ≡ true
kind_passes p [] text kind all h = absurd (none_some kind h)
kind_passes p (row ∷ rows) text kind all h =
    let both = and_true (p row.kind) (list_all (λ (r : Row). p r.kind) rows) all in
    kind_by_row p row (kind_in rows text) kind (bytes_eq row.text text) both.0 (kind_passes p rows text kind both.1) h

-- no mark has a name
no_mark : (text : List ℕ) (kind : TokenKind) → kind_in marks text ≡ Some kind → bears_name kind ≡ true → ⊥
unfolding marks bears_name
no_mark text kind h named = true≢false (sym named ∙ not_true (bears_name kind) (kind_passes (λ k. not (bears_name k)) marks text kind refl h))

quoted_utf8 : (bytes : List ℕ) (start len : ℕ) → IsUtf8 bytes → start ≤ length bytes → IsQuotedWord (take len (drop start bytes)) → IsUtf8 (take len (drop start bytes))
unfolding encode
quoted_utf8 bytes start len utf8 within q =
    let w = q.is_word in
    spelled_utf8 bytes start len 39 (w.first ∷ w.others) utf8 within (ap (λ (x : List ℕ). 39 ∷ x) w.spells ∙ sym q.opens)

named_utf8 : (bytes : List ℕ) (start len : ℕ) (kind : TokenKind) → IsUtf8 bytes → start ≤ length bytes → IsToken kind (take len (drop start bytes)) → bears_name kind ≡ true → IsUtf8 (take len (drop start bytes))
unfolding bears_name
named_utf8 bytes start len kind utf8 within (word w e) is = spelled_utf8 bytes start len w.first w.others utf8 within w.spells
named_utf8 bytes start len kind utf8 within (integer n e) is = absurd (true≢false (sym is ∙ ap bears_name e))
named_utf8 bytes start len kind utf8 within (string n e) is = absurd (true≢false (sym is ∙ ap bears_name e))
named_utf8 bytes start len kind utf8 within (lifetime q e) is = quoted_utf8 bytes start len utf8 within q
named_utf8 bytes start len kind utf8 within (mark e) is = absurd (no_mark (take len (drop start bytes)) kind e is)

-- ---- integers are within their bound

within_bound : (value bound len : ℕ) → cond (nat_lt bound value) (Some len) None ≡ None → value ≤ bound
within_bound value bound len h = by (nat_lt bound value) refl h
  where
    by : (b : Bool) → nat_lt bound value ≡ b → cond b (Some len) None ≡ None → value ≤ bound
    by true e k = absurd (none_some len (sym k))
    by false e k = ltb-false bound value e

int_small : (kind : TokenKind) (text : List ℕ) → refused_of kind text ≡ None → kind ≡ T.Int → integer_value text ≤ largest_integer
int_small kind text h is = within_bound (integer_value text) largest_integer (length text) (ap (λ (k : TokenKind). refused_of k text) (sym is) ∙ h)

text_is : (bytes : List ℕ) (at : ℕ) (token : Token) (g : Gives bytes at token) → text_in bytes token.span ≡ take g.len (drop token.span.start bytes)
text_is bytes at token g = (let e : token.span.end - token.span.start ≡ g.len = omega (arith, g.ends) in ap (λ (n : ℕ). take n (drop token.span.start bytes)) e)

pub lexeme_of : (bytes : List ℕ) (at : ℕ) (token : Token) → IsUtf8 bytes → Gives bytes at token → IsLexeme bytes token
lexeme_of bytes at token utf8 g =
    let e = text_is bytes at token g in
    record {
      ends = omega (arith, g.ends);
      inside = g.within;
      text = λ is. subst IsUtf8 (sym e) (named_utf8 bytes token.span.start g.len token.kind utf8 (omega (arith, g.ends, g.within)) g.stands.token is);
      small = λ is. subst (λ (text : List ℕ). integer_value text ≤ largest_integer) (sym e) (int_small token.kind (take g.len (drop token.span.start bytes)) g.admitted is);
    }

-- ---- names

chosen_some : {A : Type 0} (b : Bool) (x : Option A) (a : A) → cond b x None ≡ Some a → (b ≡ true) × (x ≡ Some a)
chosen_some true x a h = (refl, h)
chosen_some false x a h = absurd (none_some a h)

-- where the text stands that the name stands for
place_of : (table : List (List ℕ)) (name : Name) (text : List ℕ) → text_of table name ≡ Some text → slice_get (words ++ table) name.0 ≡ Some text
place_of table name text h = (chosen_some (nat_lt name.0 (2 ^ 63)) (slice_get (words ++ table) name.0) text h).1

in_old : (table : List (List ℕ)) (more : List (List ℕ)) (name : Name) (text : List ℕ) → text_of (table ++ more) name ≡ Some text
    → (text_of table name ≡ Some text) ⊎ ((k : ℕ) × (name.0 ≡ length (words ++ table) + k) × (slice_get more k ≡ Some text))
in_old table more name text h = by (nat_lt name.0 (2 ^ 63)) refl h
  where
    by : (b : Bool) → nat_lt name.0 (2 ^ 63) ≡ b → cond b (slice_get (words ++ (table ++ more)) name.0) None ≡ Some text
        → (text_of table name ≡ Some text) ⊎ ((k : ℕ) × (name.0 ≡ length (words ++ table) + k) × (slice_get more k ≡ Some text))
    by false e k = absurd (none_some text k)
    by true e k =
        elim (slice_get-append_cases (words ++ table) more name.0 text (ap (λ (x : List (List ℕ)). slice_get x name.0) (append_assoc words table more) ∙ k)) [
          | inl p ↦ inl (ap (λ (b : Bool). cond b (slice_get (words ++ table) name.0) None) e ∙ p)
          | inr p ↦ inr p
        ]

one_there : (text : List ℕ) (k : ℕ) (other : List ℕ) → slice_get (text ∷ []) k ≡ Some other → text ≡ other
one_there text zero other h = cc
one_there text (suc k) other h = absurd (none_some other h)

pub new_names : (old new : List (List ℕ)) (text : List ℕ) (r : Result Name NoMemory) → OnOk r ((new ≡ old) ⊎ (new ≡ old ++ text ∷ [])) → OnErr r (new ≡ old)
    → IfOk r (λ name. (other : Name) → text_of new other ≡ Some text → other ≡ name) → Keeps old new → NamesOnlyNew old new
new_names old new text (Err e) grown same one kept name t h = inl (ap (λ (x : List (List ℕ)). text_of x name) (sym same) ∙ h)
new_names old new text (Ok given) (inl same) err one kept name t h = inl (ap (λ (x : List (List ℕ)). text_of x name) (sym same) ∙ h)
new_names old new text (Ok given) (inr more) err one kept name t h =
    elim (in_old old (text ∷ []) name t (ap (λ (x : List (List ℕ)). text_of x name) (sym more) ∙ h)) [
      | inl p ↦ inl p
      | inr p ↦ inr (λ other stood. (
          let is : text ≡ t = one_there text p.0 t p.2 in
          let a : name ≡ given = one name (h ∙ ap Some (sym is)) in
          let b : other ≡ given = one other (kept other t stood ∙ ap Some (sym is)) in
          let low = slice_get_within (words ++ old) other.0 t (place_of old other t stood) in
          omega (arith, low, p.1, ap (λ (n : Name). n.0) a, ap (λ (n : Name). n.0) b)))
    ]

pub grown_by : (old new : List (List ℕ)) (text : List ℕ) (r : Result Name NoMemory) → OnOk r ((new ≡ old) ⊎ (new ≡ old ++ text ∷ [])) → OnErr r (new ≡ old)
    → (new ≡ old) ⊎ (new ≡ old ++ text ∷ [])
grown_by old new text (Err e) grown same = inl same
grown_by old new text (Ok given) grown same = grown

-- in a table in which no text stands at two places, two names of a text are one
pub same_name : (table : List (List ℕ)) (one other : Name) (text : List ℕ) → HaveOnePlace (words ++ table) → text_of table one ≡ Some text → text_of table other ≡ Some text → one ≡ other
same_name table one other text place a b = (let e = place one.0 other.0 text (place_of table one text a) (place_of table other text b) in λ i. record { 0 = e i })

-- what a table becomes by a name for the text
pub table_of : (old new : List (List ℕ)) (text : List ℕ) (r : Result Name NoMemory) → OnOk r ((new ≡ old) ⊎ (new ≡ old ++ text ∷ [])) → IfOk r (λ name. text_of new name ≡ Some text)
    → IfOk r (λ name. (other : Name) → text_of new other ≡ Some text → other ≡ name) → length old < 2 ^ 32 → OnOk r (new ≡ with_name old text)
table_of old new text (Err e) grown named one small = grown
table_of old new text (Ok given) grown named one small = interned old new text given named one grown small
