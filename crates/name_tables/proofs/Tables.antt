-- Tables that grow by one name, and by names for several texts.
use Rattle.std.proofs.Common.{◌≡◌, ◌≢◌, ℕ, zero, suc, ◌<◌, ◌≤◌, ◌^◌, Bool, true, false, if◌then◌else◌, List, [], ◌∷◌, ◌++◌, length, map, slice_get, Some, ◌⊎◌, inl, inr, refl, sym, ap, subst, ◌∙◌, append_assoc, true≢false, ◌||◌, arith}
use Rattle.std.specs.List.{list_any}
use Rattle.std.specs.Str.{bytes_eq}
use Rattle.std.proofs.lemmas.Option.{none-some, same_Some, slice_get_within}
use Rattle.std.proofs.lemmas.List.{length-append}
use Rattle.std.proofs.lemmas.Slice.Eq.{bytes_eq-Decides}
use Rattle.text_core.specs.declared.name.Name.{Name}
use Rattle.text_core.specs.Names.{words, text_of, HaveOnePlace}
use Rattle.text_core.proofs.NamesLemmas.{slice_get-append_left, slice_get-append_right, HaveOnePlace-push, HaveOnePlace-words, absent-list_any, list_any-absent, text_of-table, text_of-Some, text_of-one, text_of-push}
use Rattle.name_tables.specs.NameTables.{is_named, with_name, with_names}

map-id : (ts : List (List ℕ)) → map (λ u. u) ts ≡ ts
map-id [] = refl
map-id (t ∷ ts) = ap (λ us. t ∷ us) (map-id ts)

-- ---- one text

-- a text that is not named stands nowhere
pub absent_where_unnamed : (given : List (List ℕ)) (text : List ℕ) → is_named given text ≡ false → (k : ℕ) → slice_get (words ++ given) k ≢ Some text
absent_where_unnamed given text h k e = absent-list_any (λ u. u) text (words ++ given) h k (ap (λ us. slice_get us k) (map-id (words ++ given)) ∙ e)

pub unnamed_where_absent : (given : List (List ℕ)) (text : List ℕ) → ((k : ℕ) → slice_get (words ++ given) k ≢ Some text) → is_named given text ≡ false
unnamed_where_absent given text h = list_any-absent (λ u. u) text (words ++ given) (λ k e. h k (sym (ap (λ us. slice_get us k) (map-id (words ++ given))) ∙ e))

-- the table is the same where the text is named, and has it at its end where not
pub same_where_named : (given : List (List ℕ)) (text : List ℕ) → is_named given text ≡ true → with_name given text ≡ given
same_where_named given text h = ap (λ b. if b then given else given ++ text ∷ []) h

pub longer_where_unnamed : (given : List (List ℕ)) (text : List ℕ) → is_named given text ≡ false → with_name given text ≡ given ++ text ∷ []
longer_where_unnamed given text h = ap (λ b. if b then given else given ++ text ∷ []) h

-- ---- no text stands twice

one_by : (given : List (List ℕ)) (text : List ℕ) (b : Bool) → is_named given text ≡ b → HaveOnePlace (words ++ given) → HaveOnePlace (words ++ with_name given text)
one_by given text true e one = subst (λ (ts : List (List ℕ)). HaveOnePlace (words ++ ts)) (sym (same_where_named given text e)) one
one_by given text false e one =
    let pushed = HaveOnePlace-push (words ++ given) text one (absent_where_unnamed given text e) in
    subst HaveOnePlace (append_assoc words given (text ∷ []) ∙ ap (λ (ts : List (List ℕ)). words ++ ts) (sym (longer_where_unnamed given text e))) pushed

pub one_place : (given : List (List ℕ)) (text : List ℕ) → HaveOnePlace (words ++ given) → HaveOnePlace (words ++ with_name given text)
one_place given text one = one_by given text (is_named given text) refl one

pub one_place_each : (given texts : List (List ℕ)) → HaveOnePlace (words ++ given) → HaveOnePlace (words ++ with_names given texts)
one_place_each given [] one = one
one_place_each given (text ∷ texts) one = one_place_each (with_name given text) texts (one_place given text one)

pub one_place_at_first : HaveOnePlace (words ++ [])
one_place_at_first = HaveOnePlace-words

-- ---- names stay

kept_by : (given : List (List ℕ)) (text : List ℕ) (b : Bool) → is_named given text ≡ b → (name : Name) (t : List ℕ) → text_of given name ≡ Some t → text_of (with_name given text) name ≡ Some t
kept_by given text true e name t h = subst (λ (ts : List (List ℕ)). text_of ts name ≡ Some t) (sym (same_where_named given text e)) h
kept_by given text false e name t h = subst (λ (ts : List (List ℕ)). text_of ts name ≡ Some t) (sym (longer_where_unnamed given text e)) (text_of-push given text name t h)

pub kept_one : (given : List (List ℕ)) (text : List ℕ) (name : Name) (t : List ℕ) → text_of given name ≡ Some t → text_of (with_name given text) name ≡ Some t
kept_one given text name t h = kept_by given text (is_named given text) refl name t h

pub kept_all : (given texts : List (List ℕ)) (name : Name) (t : List ℕ) → text_of given name ≡ Some t → text_of (with_names given texts) name ≡ Some t
kept_all given [] name t h = h
kept_all given (text ∷ texts) name t h = kept_all (with_name given text) texts name t (kept_one given text name t h)

-- ---- more texts

pub names_append : (given xs ys : List (List ℕ)) → with_names given (xs ++ ys) ≡ with_names (with_names given xs) ys
names_append given [] ys = refl
names_append given (x ∷ xs) ys = names_append (with_name given x) xs ys

-- ---- what a table gives

-- a table that grew only where the text had no name, and names it, is the one with a name for it
pub interned : (old new : List (List ℕ)) (text : List ℕ) (given : Name) → text_of new given ≡ Some text → ((other : Name) → text_of new other ≡ Some text → other ≡ given)
    → (new ≡ old) ⊎ (new ≡ old ++ text ∷ []) → length old < 2 ^ 32 → new ≡ with_name old text
interned old new text given named one grown small = by (is_named old text) refl grown
  where
    grown_twice : new ≡ old ++ text ∷ [] → (k : ℕ) → slice_get (words ++ old) k ≡ Some text → ⊥
    grown_twice more k there =
        let inside : k < length (words ++ old) = slice_get_within (words ++ old) k text there in
        let whole : words ++ new ≡ (words ++ old) ++ text ∷ [] = ap (λ (ts : List (List ℕ)). words ++ ts) more ∙ sym (append_assoc words old (text ∷ [])) in
        let early : slice_get (words ++ new) k ≡ Some text = ap (λ (ts : List (List ℕ)). slice_get ts k) whole ∙ slice_get-append_left (words ++ old) (text ∷ []) k text there in
        let late : slice_get (words ++ new) (length (words ++ old)) ≡ Some text = ap (λ (ts : List (List ℕ)). slice_get ts (length (words ++ old))) whole ∙ slice_get-append_right (words ++ old) (text ∷ []) 0 (length (words ++ old)) (omega arith) in
        let low : length (words ++ old) < 2 ^ 63 = omega (arith, small) in
        let a = one (record { 0 = k }) (text_of-table new k (omega (arith, inside, low)) ∙ early) in
        let b = one (record { 0 = length (words ++ old) }) (text_of-table new (length (words ++ old)) low ∙ late) in
        omega (arith, inside, ap (λ (n : Name). n.0) a, ap (λ (n : Name). n.0) b)

    standing : is_named old text ≡ true → ((k : ℕ) → slice_get (words ++ old) k ≡ Some text → ⊥) → ⊥
    standing e none = true≢false (sym e ∙ unnamed_where_absent old text none)

    by : (b : Bool) → is_named old text ≡ b → (new ≡ old) ⊎ (new ≡ old ++ text ∷ []) → new ≡ with_name old text
    by true e (inl same) = same ∙ sym (same_where_named old text e)
    by true e (inr more) = absurd (standing e (grown_twice more))
    by false e (inl same) = absurd (absent_where_unnamed old text e given.0 (subst (λ (ts : List (List ℕ)). slice_get (words ++ ts) given.0 ≡ Some text) same (text_of-Some new given text named).1))
    by false e (inr more) = more ∙ sym (longer_where_unnamed old text e)

-- in a table in which no text stands twice, a text has one name
pub one_name : (given : List (List ℕ)) (one other : Name) (text : List ℕ) → HaveOnePlace (words ++ given) → text_of given one ≡ Some text → text_of given other ≡ Some text → one ≡ other
one_name given one other text place a b = text_of-one given other one text place b a

-- ---- each text has a name

place_by : (t u : List ℕ) (ts : List (List ℕ)) (b : Bool) → bytes_eq t u ≡ b → (b ≡ false → list_any (bytes_eq t) ts ≡ true) → ((list_any (bytes_eq t) ts ≡ true) → (k : ℕ) × (slice_get ts k ≡ Some t)) → (k : ℕ) × (slice_get (u ∷ ts) k ≡ Some t)
place_by t u ts true e rest later = (0, ap Some (sym ((bytes_eq-Decides t u).0 e)))
place_by t u ts false e rest later = let p = later (rest refl) in (suc p.0, p.1)

rest_any : (a b : Bool) → (a || b) ≡ true → a ≡ false → b ≡ true
rest_any true b h e = absurd (true≢false e)
rest_any false b h e = h

place_in : (t : List ℕ) (ts : List (List ℕ)) → list_any (bytes_eq t) ts ≡ true → (k : ℕ) × (slice_get ts k ≡ Some t)
place_in t [] h = absurd (true≢false (sym h))
place_in t (u ∷ ts) h = place_by t u ts (bytes_eq t u) refl (rest_any (bytes_eq t u) (list_any (bytes_eq t) ts) h) (place_in t ts)

place_of : (given : List (List ℕ)) (text : List ℕ) (b : Bool) → is_named given text ≡ b → (k : ℕ) × (slice_get (words ++ with_name given text) k ≡ Some text)
place_of given text true e =
    let p = place_in text (words ++ given) e in
    (p.0, ap (λ (ts : List (List ℕ)). slice_get (words ++ ts) p.0) (same_where_named given text e) ∙ p.1)
place_of given text false e =
    let whole : words ++ with_name given text ≡ (words ++ given) ++ text ∷ [] = ap (λ (ts : List (List ℕ)). words ++ ts) (longer_where_unnamed given text e) ∙ sym (append_assoc words given (text ∷ [])) in
    (length (words ++ given), ap (λ (ts : List (List ℕ)). slice_get ts (length (words ++ given))) whole ∙ slice_get-append_right (words ++ given) (text ∷ []) 0 (length (words ++ given)) (omega arith))

longer_by : (given : List (List ℕ)) (text : List ℕ) (b : Bool) → is_named given text ≡ b → length given ≤ length (with_name given text)
longer_by given text true e = omega (arith, ap length (same_where_named given text e))
longer_by given text false e = omega (arith, ap length (longer_where_unnamed given text e), length-append given (text ∷ []))

longer : (given texts : List (List ℕ)) → length given ≤ length (with_names given texts)
longer given [] = omega arith
longer given (text ∷ texts) = omega (arith, longer_by given text (is_named given text) refl, longer (with_name given text) texts)

pub named_each : (given texts : List (List ℕ)) (at : ℕ) (text : List ℕ) → slice_get texts at ≡ Some text → length (words ++ with_names given texts) < 2 ^ 63 → (name : Name) × (text_of (with_names given texts) name ≡ Some text)
named_each given [] at text h small = absurd (none-some text h)
named_each given (t ∷ texts) zero text h small =
    let is : t ≡ text = same_Some t text h in
    let p = place_of given t (is_named given t) refl in
    let low = slice_get_within (words ++ with_name given t) p.0 t p.1 in
    let name : Name = record { 0 = p.0 } in
    let there : text_of (with_name given t) name ≡ Some t = text_of-table (with_name given t) p.0 (omega (arith, low, longer (with_name given t) texts, small)) ∙ p.1 in
    (name, kept_all (with_name given t) texts name text (there ∙ ap Some is))
named_each given (t ∷ texts) (suc at) text h small = named_each (with_name given t) texts at text h small
