-- What follows from `text_of`, the texts of names in a table.
use Rattle.std.proofs.Common.{◌≡◌, ◌≢◌, ℕ, zero, suc, ◌+◌, ◌-◌, ◌<◌, ◌≤◌, ◌^◌, Bool, true, false, ◌&&◌, not, nat_lt, String, if◌then◌else◌, map, position, get_or, ◌||◌, List, [], ◌∷◌, ◌++◌, length, slice_get, Option, Some, None}
use Rattle.std.proofs.Common.{option_map, ◌⊎◌, inl, inr, refl, sym, ap, subst, ◌∙◌, arith, true≢false}
use Rattle.std.proofs.lemmas.Option.{none-some, same_Some, slice_get-map, slice_get-get_or}
use Rattle.std.proofs.lemmas.List.Quantifiers.{position-Some}
use Rattle.std.proofs.lemmas.Slice.Eq.{bytes_eq-Decides}
use Rattle.std.proofs.lemmas.List.{map-append}
use Rattle.std.proofs.lemmas.Bool.{not-true, ltb-true}
use Rattle.std.specs.List.{list_any}
use Rattle.std.specs.Str.{bytes_eq}
use Rattle.std.specs.HashSet.{HashSet}
use Rattle.std.specs.String.{string_bytes, string_eq}
use Rattle.indexmap.specs.IndexSet.{insert_key}
use Rattle.text_core.specs.Names.{words, texts, text_of, HaveOnePlace}
use Rattle.text_core.specs.declared.name.Name.{Name}

-- an element of the first list keeps its place
pub slice_get-append_left : {X : Type 0} (xs ys : List X) (i : ℕ) (x : X) → slice_get xs i ≡ Some x → slice_get (xs ++ ys) i ≡ Some x
slice_get-append_left [] ys i x h = absurd (none-some x h)
slice_get-append_left (y ∷ xs) ys zero x h = h
slice_get-append_left (y ∷ xs) ys (suc i) x h = slice_get-append_left xs ys i x h

-- the second list's elements follow the first's
pub slice_get-append_right : {X : Type 0} (xs ys : List X) (k i : ℕ) → i ≡ length xs + k → slice_get (xs ++ ys) i ≡ slice_get ys k
slice_get-append_right [] ys k i h = ap (slice_get ys) (omega arith)
slice_get-append_right (x ∷ xs) ys k zero h = absurd (omega arith)
slice_get-append_right (x ∷ xs) ys k (suc i) h = slice_get-append_right xs ys k i (omega arith)

-- an element of both lists together is one of the first or one of the second
pub slice_get-append_cases : {X : Type 0} (xs ys : List X) (i : ℕ) (x : X) → slice_get (xs ++ ys) i ≡ Some x
    → (slice_get xs i ≡ Some x) ⊎ ((k : ℕ) × (i ≡ length xs + k) × (slice_get ys k ≡ Some x))
slice_get-append_cases [] ys i x h = inr (i, omega arith, h)
slice_get-append_cases (y ∷ xs) ys zero x h = inl h
slice_get-append_cases (y ∷ xs) ys (suc i) x h =
    elim (slice_get-append_cases xs ys i x h) [ inl p ↦ inl p | inr p ↦ inr (p.0, omega (arith, p.1), p.2) ]

-- a text that stood nowhere has one place at the end
pub HaveOnePlace-push : (texts : List (List ℕ)) (text : List ℕ) → HaveOnePlace texts → ((k : ℕ) → slice_get texts k ≢ Some text) → HaveOnePlace (texts ++ text ∷ [])
HaveOnePlace-push texts text one absent i j t at_i at_j =
    elim (slice_get-append_cases texts (text ∷ []) i t at_i) [
      | inl p ↦ elim (slice_get-append_cases texts (text ∷ []) j t at_j) [
        | inl q ↦ one i j t p q
        | inr q ↦ absurd (absent i (p ∙ ap Some (sym (last q.0 t q.2).1)))
      ]
      | inr p ↦ elim (slice_get-append_cases texts (text ∷ []) j t at_j) [
        | inl q ↦ absurd (absent j (q ∙ ap Some (sym (last p.0 t p.2).1)))
        | inr q ↦ omega (arith, p.1, q.1, (last p.0 t p.2).0, (last q.0 t q.2).0)
      ]
    ]
  where
    last : (k : ℕ) (t : List ℕ) → slice_get (text ∷ []) k ≡ Some t → (k ≡ 0) × (text ≡ t)
    last zero t h = (refl, same_Some text t h)
    last (suc k) t h = absurd (none-some t h)

or_false : (a b : Bool) → (a || b) ≡ false → (a ≡ false) × (b ≡ false)
or_false true b h = absurd (true≢false h)
or_false false b h = (refl, h)

and_true : (a b : Bool) → (a && b) ≡ true → (a ≡ true) × (b ≡ true)
and_true true b h = (refl, h)
and_true false b h = absurd (true≢false (sym h))

-- texts by which things are known
module _ {X : Type 0} (text_in : X → List ℕ) (text : List ℕ) where
  -- the first place at which the text stands has the text
  pub slice_get-position : (xs : List X) (i : ℕ) → position (λ x. bytes_eq text (text_in x)) xs ≡ Some i → slice_get (map text_in xs) i ≡ Some text
  slice_get-position [] i h = absurd (none-some i h)
  slice_get-position (x ∷ xs) i h =
      let first = position-Some (λ x. bytes_eq text (text_in x)) (x ∷ xs) i x h in
      slice_get-map text_in (x ∷ xs) i
      ∙ ap (option_map text_in) (slice_get-get_or (x ∷ xs) i x first.0)
      ∙ ap Some (sym ((bytes_eq-Decides text (text_in (get_or (x ∷ xs) i x))).0 first.1))

  -- a text that no thing has stands nowhere
  pub absent-list_any : (xs : List X) → list_any (λ x. bytes_eq text (text_in x)) xs ≡ false → (k : ℕ) → slice_get (map text_in xs) k ≢ Some text
  absent-list_any [] h k e = none-some text e
  absent-list_any (x ∷ xs) h zero e =
      true≢false (sym ((bytes_eq-Decides text (text_in x)).1 (sym (same_Some (text_in x) text e))) ∙ (or_false (bytes_eq text (text_in x)) _ h).0)
  absent-list_any (x ∷ xs) h (suc k) e = absent-list_any xs (or_false (bytes_eq text (text_in x)) _ h).1 k e

  -- and the other way round
  pub list_any-absent : (xs : List X) → ((k : ℕ) → slice_get (map text_in xs) k ≢ Some text) → list_any (λ x. bytes_eq text (text_in x)) xs ≡ false
  list_any-absent [] h = refl
  list_any-absent (x ∷ xs) h = by (bytes_eq text (text_in x)) refl (list_any-absent xs (λ k. h (suc k)))
    where
      by : (b : Bool) → bytes_eq text (text_in x) ≡ b → list_any (λ x. bytes_eq text (text_in x)) xs ≡ false → (b || list_any (λ x. bytes_eq text (text_in x)) xs) ≡ false
      by true e rest = absurd (h 0 (ap Some (sym ((bytes_eq-Decides text (text_in x)).0 e))))
      by false e rest = rest

-- where a comparison answered at one place of a list
module _ {X : Type 0} (text_in : X → List ℕ) (text : List ℕ) (xs : List X) (i : ℕ) (d : X) (within : i < length xs) where
  at_place : slice_get (map text_in xs) i ≡ Some (text_in (get_or xs i d))
  at_place = slice_get-map text_in xs i ∙ ap (option_map text_in) (slice_get-get_or xs i d within)

  pub slice_get-equal : true ≡ bytes_eq text (text_in (get_or xs i d)) → slice_get (map text_in xs) i ≡ Some text
  slice_get-equal h = at_place ∙ ap Some (sym ((bytes_eq-Decides text (text_in (get_or xs i d))).0 (sym h)))

  pub slice_get-unequal : false ≡ bytes_eq text (text_in (get_or xs i d)) → slice_get (map text_in xs) i ≢ Some text
  slice_get-unequal h e =
      true≢false (sym ((bytes_eq-Decides text (text_in (get_or xs i d))).1 (sym (same_Some (text_in (get_or xs i d)) text (sym at_place ∙ e)))) ∙ sym h)

-- what has a text at a place reaches past the place
pub length-map_within : {X : Type 0} (text_in : X → List ℕ) (xs : List X) (i : ℕ) (text : List ℕ) → slice_get (map text_in xs) i ≡ Some text → i < length xs
length-map_within text_in [] i text e = absurd (none-some text e)
length-map_within text_in (x ∷ xs) zero text e = omega arith
length-map_within text_in (x ∷ xs) (suc i) text e = omega (arith, length-map_within text_in xs i text e)

-- a text that stands in neither list stands at no place
pub absent-append : (us vs : List (List ℕ)) (text : List ℕ) → ((k : ℕ) → slice_get us k ≢ Some text) → ((k : ℕ) → slice_get vs k ≢ Some text) → (k : ℕ) → slice_get (us ++ vs) k ≢ Some text
absent-append us vs text first second k e = elim (slice_get-append_cases us vs k text e) [ inl p ↦ first k p | inr p ↦ second p.0 p.2 ]

-- a test for texts of which no two are equal
abbrev differ : List (List ℕ) → Bool
differ [] = true
differ (t ∷ ts) = not (list_any (bytes_eq t) ts) && differ ts

apart : (t : List ℕ) (ts : List (List ℕ)) → differ (t ∷ ts) ≡ true → (k : ℕ) → slice_get ts k ≢ Some t
apart t ts h k e =
    absent-list_any (λ u. u) t ts (not-true (list_any (bytes_eq t) ts) (and_true (not (list_any (bytes_eq t) ts)) (differ ts) h).0) k (ap (λ us. slice_get us k) (map-id ts) ∙ e)
  where
    map-id : (us : List (List ℕ)) → map (λ u. u) us ≡ us
    map-id [] = refl
    map-id (u ∷ us) = ap (λ vs. u ∷ vs) (map-id us)

-- texts that pass the test have one place each
pub HaveOnePlace-differ : (ts : List (List ℕ)) → differ ts ≡ true → HaveOnePlace ts
HaveOnePlace-differ [] h i j t at_i at_j = absurd (none-some t at_i)
HaveOnePlace-differ (u ∷ ts) h zero zero t at_i at_j = refl
HaveOnePlace-differ (u ∷ ts) h zero (suc j) t at_i at_j = absurd (apart u ts h j (at_j ∙ sym at_i))
HaveOnePlace-differ (u ∷ ts) h (suc i) zero t at_i at_j = absurd (apart u ts h i (at_i ∙ sym at_j))
HaveOnePlace-differ (u ∷ ts) h (suc i) (suc j) t at_i at_j = ap suc (HaveOnePlace-differ ts (and_true (not (list_any (bytes_eq u) ts)) (differ ts) h).1 i j t at_i at_j)

pub HaveOnePlace-words : HaveOnePlace words
HaveOnePlace-words = HaveOnePlace-differ words refl

-- in a table that was given nothing each text has one place
pub HaveOnePlace-texts-empty : {A S : Type 0} (set : HashSet (String A) S) → set.keys ≡ [] → HaveOnePlace (words ++ texts set)
HaveOnePlace-texts-empty set e = subst (λ keys. HaveOnePlace (words ++ map string_bytes keys)) (sym e) HaveOnePlace-words

-- a name below 2 ^ 63 stands for what stands at its place
pub text_of-table : (given : List (List ℕ)) (n : ℕ) → n < 2 ^ 63 → text_of given (record { 0 = n }) ≡ slice_get (words ++ given) n
text_of-table given n h = grind arith

then_Some : {A : Type 0} (b : Bool) (o : Option A) (x : A) → (if b then o else None) ≡ Some x → (b ≡ true) × (o ≡ Some x)
then_Some true o x h = (refl, h)
then_Some false o x h = absurd (none-some x h)

-- a name with a text is below 2 ^ 63, and the text stands at its place
pub text_of-Some : (given : List (List ℕ)) (name : Name) (t : List ℕ) → text_of given name ≡ Some t → (name.0 < 2 ^ 63) × (slice_get (words ++ given) name.0 ≡ Some t)
text_of-Some given name t h =
    let taken = then_Some (nat_lt name.0 (2 ^ 63)) (slice_get (words ++ given) name.0) t h in
    (ltb-true name.0 (2 ^ 63) taken.0, taken.1)

-- in a table where each text has one place, a text has one name
pub text_of-one : (given : List (List ℕ)) (name other : Name) (t : List ℕ) → HaveOnePlace (words ++ given) → text_of given name ≡ Some t → text_of given other ≡ Some t → other ≡ name
text_of-one given name other t one h k =
    ap (λ n. record { 0 = n }) (one other.0 name.0 t (text_of-Some given other t k).1 (text_of-Some given name t h).1)

-- a name keeps its text where a text is added
pub text_of-push : (given : List (List ℕ)) (text : List ℕ) (name : Name) (t : List ℕ) → text_of given name ≡ Some t → text_of (given ++ text ∷ []) name ≡ Some t
text_of-push given text name t h =
    let before = text_of-Some given name t h in
    text_of-table (given ++ text ∷ []) name.0 before.0 ∙ slice_get-append_left (words ++ given) (text ∷ []) name.0 t before.1

-- a fresh name has no text in any table
pub text_of-fresh : (given : List (List ℕ)) (k : ℕ) → text_of given (record { 0 = 2 ^ 63 + k }) ≡ None
text_of-fresh given k = grind arith

-- the words' names have the same text in every table
pub text_of-word : (given : List (List ℕ)) (name : Name) → name.0 < 27 → text_of given name ≡ slice_get words name.0
text_of-word given name h = text_of-table given name.0 (omega arith) ∙ within (slice_get words name.0) refl
  where
    within : (o : Option (List ℕ)) → slice_get words name.0 ≡ o → slice_get (words ++ given) name.0 ≡ slice_get words name.0
    within None e = absurd (none-some _ (sym e ∙ slice_get-get_or words name.0 [] h))
    within (Some t) e = slice_get-append_left words given name.0 t e ∙ sym e

-- the names after the words' have the texts that the table was given, in order
pub text_of-given : (given : List (List ℕ)) (name : Name) → 27 ≤ name.0 → name.0 < 2 ^ 63 → text_of given name ≡ slice_get given (name.0 - 27)
text_of-given given name h k = text_of-table given name.0 k ∙ slice_get-append_right words given (name.0 - 27) name.0 (omega arith)

-- a set of texts, seen as what a table was given
module _ {A S : Type 0} (set : HashSet (String A) S) (given : List (List ℕ)) (view : texts set ≡ given) where
  -- what the set has at a place, a name after the words' has
  pub text_of-texts : (name : Name) → 27 ≤ name.0 → name.0 < 2 ^ 63 → (key : Option (String A)) → key ≡ slice_get set.keys (name.0 - 27) → text_of given name ≡ option_map string_bytes key
  text_of-texts name h k key at =
      text_of-given given name h k
      ∙ ap (λ ts. slice_get ts (name.0 - 27)) (sym view)
      ∙ slice_get-map string_bytes set.keys (name.0 - 27)
      ∙ ap (option_map string_bytes) (sym at)

  module _ (at : ℕ) (small : at < 2 ^ 63) (text : List ℕ) (found : slice_get (words ++ texts set) at ≡ Some text) where
    -- the name of a place has the text there
    pub text_of-place : text_of given (record { 0 = at }) ≡ Some text
    text_of-place = text_of-table given at small ∙ subst (λ ts. slice_get (words ++ ts) at ≡ Some text) view found

    -- and no other name has it, where the texts have one place each
    pub one_name : HaveOnePlace (words ++ texts set) → (other : Name) → text_of given other ≡ Some text → other ≡ record { 0 = at }
    one_name one other h = text_of-one given (record { 0 = at }) other text (subst (λ ts. HaveOnePlace (words ++ ts)) view one) text_of-place h

-- a set after a refused insertion
module _ {A S : Type 0} (old new : HashSet (String A) S) (same : new.keys ≡ old.keys) where
  pub HaveOnePlace-unchanged : HaveOnePlace (words ++ texts old) → HaveOnePlace (words ++ texts new)
  HaveOnePlace-unchanged one = subst (λ keys. HaveOnePlace (words ++ map string_bytes keys)) (sym same) one

  pub text_of-unchanged : (given : List (List ℕ)) → texts old ≡ given → (name : Name) (t : List ℕ) → text_of given name ≡ Some t → text_of (texts new) name ≡ Some t
  text_of-unchanged given view name t h = subst (λ ts. text_of ts name ≡ Some t) (sym view ∙ ap (map string_bytes) (sym same)) h

-- a set after the insertion of a text that it did not have
module _ {A S : Type 0} (old new : HashSet (String A) S) (value : String A) (text : List ℕ) (is : string_bytes value ≡ text)
    (absent : (k : ℕ) → slice_get (words ++ texts old) k ≢ Some text) (inserted : new.keys ≡ insert_key string_eq old.keys value) where
  absent-texts : (k : ℕ) → slice_get (map string_bytes old.keys) k ≢ Some (string_bytes value)
  absent-texts k e = absent (27 + k) (slice_get-append_right words (texts old) k (27 + k) refl ∙ e ∙ ap Some is)

  pub texts-inserted : texts new ≡ texts old ++ text ∷ []
  texts-inserted =
      ap (map string_bytes) (inserted ∙ ap (λ b. if b then old.keys else old.keys ++ value ∷ []) (list_any-absent string_bytes (string_bytes value) old.keys absent-texts))
      ∙ map-append string_bytes old.keys (value ∷ [])
      ∙ ap (λ t. texts old ++ t ∷ []) is

  pub HaveOnePlace-inserted : HaveOnePlace (words ++ texts old) → HaveOnePlace (words ++ texts new)
  HaveOnePlace-inserted one = subst (λ ts. HaveOnePlace (words ++ ts)) (sym texts-inserted) (HaveOnePlace-push (words ++ texts old) text one absent)

  pub text_of-inserted : (given : List (List ℕ)) → texts old ≡ given → (name : Name) (t : List ℕ) → text_of given name ≡ Some t → text_of (texts new) name ≡ Some t
  text_of-inserted given view name t h =
      subst (λ ts. text_of ts name ≡ Some t) (sym texts-inserted) (subst (λ ts. text_of (ts ++ text ∷ []) name ≡ Some t) (sym view) (text_of-push given text name t h))

  pub place-inserted : (at : ℕ) (key : String A) → slice_get new.keys at ≡ Some key → string_eq value key ≡ true → slice_get (words ++ texts new) (27 + at) ≡ Some text
  place-inserted at key stored same =
      slice_get-append_right words (texts new) at (27 + at) refl
      ∙ slice_get-map string_bytes new.keys at
      ∙ ap (option_map string_bytes) stored
      ∙ ap Some (sym ((bytes_eq-Decides (string_bytes value) (string_bytes key)).0 same) ∙ is)
