-- Lists of names behind a term, as they are read.
use Rattle.std.proofs.Common.{◌≡◌, ℕ, suc, ◌+◌, ◌<◌, ◌≤◌, Bool, true, false, cond, List, [], ◌∷◌, ◌++◌, length, map, take, drop, get_or, Option, Some, None, refl, sym, ◌∙◌, ap, ap₂, subst, arith, append_assoc, add-one, drop-cons, length-append, nat_eq, Bor, ◌≢◌}
use Rattle.std.specs.Prelude.{Ok}
use Rattle.std.specs.Global.{Vec}
use Rattle.std.specs.List.{list_all, slice_split, onto_first}
use Rattle.std.specs.Option.{option_map, MatchOption}
use Rattle.std.specs.Str.Pattern.{RFindsChar, SplitsAroundMatch}
use Rattle.std.proofs.lemmas.Bool.Decides.{nat_tests}
use Rattle.std.proofs.lemmas.List.{take_more, take-append-drop, map-append, append-nil, length-map}
use Rattle.std.proofs.lemmas.List.Splits.{length-slice_split}
use Rattle.std.proofs.lemmas.List.Sums.{count_by-le-length}
use Rattle.std.proofs.lemmas.Str.Pattern.{NoCharPasses-char, drop_at_char}
use Rattle.name_tables.specs.NameTables.{with_names}
use Rattle.name_tables.proofs.Tables.{names_append as tables_append}
use Rattle.text_core.specs.Names.{text_of}
use Rattle.text_core.specs.declared.name.Name.{Name}
use Rattle.proof_text.specs.ProofTextWords.{◌>>=◌, before_space, behind_space, cut_last, last_from, spaced_words, is_bar, is_listed, text_and_names, name_and_names, lists_of, joined}
use Rattle.proof_kernel.specs.declared.step.TermRule.{TermRule}
use Rattle.proof_kernel.specs.declared.step.TermRule.TheVariants.{Cut, On, Range, Witness, Eta}
use Rattle.rs_tokens.specs.Tokens.{is_identifier}
use Rattle.proof_text.specs.ProofTextRules.{lists_behind}
use Rattle.proof_text.specs.ProofTextLines.{text_at}
use Rattle.proof_text.specs.ProofTextReads.{Reads, KeepsNames}
use Rattle.proof_text.proofs.NumeralLemmas.{space_there, pairs}
use Rattle.proof_text.proofs.StageLemmas.{now}
use Rattle.proof_text.proofs.StepLemmas.{kept_map, all_at}

-- ---- the last byte

abbrev Lacks : ℕ → List ℕ → Type 0
Lacks c bs = (i : ℕ) → i < length bs → get_or bs i 0 ≢ c

other_byte : (b c : ℕ) → b ≢ c → nat_eq b c ≡ false
other_byte b c h = by (nat_eq b c) refl
  where
    by : (t : Bool) → nat_eq b c ≡ t → t ≡ false
    by true e = absurd (h (grind (arith, nat_tests, e)))
    by false e = refl

same_byte : (c : ℕ) → nat_eq c c ≡ true
same_byte c = grind (arith, nat_tests)

none_last : (c : ℕ) (bs : List ℕ) → Lacks c bs → cut_last c bs ≡ None
none_last c [] h = refl
none_last c (b ∷ bs) h =
    ap (last_from c b bs) (none_last c bs (λ i l. h (suc i) (omega arith))) ∙ ap (λ (t : Bool). cond t (Some ([], bs)) None) (other_byte b c (h 0 (omega arith)))

at_last : (c : ℕ) (front back : List ℕ) → Lacks c back → cut_last c (front ++ c ∷ back) ≡ Some (front, back)
at_last c [] back h = ap (last_from c c back) (none_last c back h) ∙ ap (λ (t : Bool). cond t (Some ([], back)) None) (same_byte c)
at_last c (b ∷ front) back h = ap (last_from c b (front ++ c ∷ back)) (at_last c front back h)

pub cut_last_is : (c : ℕ) (text : List ℕ) (r : Option (Bor (List ℕ) × Bor (List ℕ))) → MatchOption r (RFindsChar c text None) (λ x. SplitsAroundMatch (RFindsChar c) text x.0.now x.1.now) → c < 128 →
    option_map (λ parts. (parts.0.now, parts.1.now)) r ≡ cut_last c text
cut_last_is c text None h low = sym (none_last c text (λ i l. NoCharPasses-char c text i h low l))
cut_last_is c text (Some x) h low =
    let i : ℕ = h.0 in
    let j : ℕ = h.1 in
    let lacks : Lacks c (drop j text) = λ k l. NoCharPasses-char c (drop j text) k h.2.0 low l in
    let whole : text ≡ take i text ++ c ∷ drop j text = sym (take-append-drop i text) ∙ ap (λ (back : List ℕ). take i text ++ back) (drop_at_char c text i j h.2.1 low) in
    let found : cut_last c text ≡ Some (take i text, drop j text) = ap (cut_last c) whole ∙ at_last c (take i text) (drop j text) lacks in
    ap (λ (p : List ℕ × List ℕ). Some p) (pairs _ _ _ _ h.3 h.4) ∙ sym found

last_shorter : (c : ℕ) (bs : List ℕ) (p : List ℕ × List ℕ) → cut_last c bs ≡ Some p → length p.0 + 1 + length p.1 ≤ length bs
last_shorter c [] p e = absurd (cc)
last_shorter c (b ∷ bs) p e = by (cut_last c bs) (λ q is. last_shorter c bs q is) e
  where
    here : (t : Bool) → cond t (Some ([], bs)) None ≡ Some p → length p.0 + 1 + length p.1 ≤ length (b ∷ bs)
    here true f = let same : ([], bs) ≡ p = cc in subst (λ (q : List ℕ × List ℕ). length q.0 + 1 + length q.1 ≤ length (b ∷ bs)) same (omega arith)
    here false f = absurd (cc)

    by : (o : Option (List ℕ × List ℕ)) → ((q : List ℕ × List ℕ) → o ≡ Some q → length q.0 + 1 + length q.1 ≤ length bs) → last_from c b bs o ≡ Some p → length p.0 + 1 + length p.1 ≤ length (b ∷ bs)
    by (Some q) short f =
        let same : (b ∷ q.0, q.1) ≡ p = cc in
        let within = short q refl in
        subst (λ (r : List ℕ × List ℕ). length r.0 + 1 + length r.1 ≤ length (b ∷ bs)) same (omega (arith, within))
    by None short f = here (nat_eq b c) f

-- ---- names and bars

few_spaced : (bs : List ℕ) (words : List (List ℕ)) → spaced_words bs ≡ Some words → length words ≤ length bs
few_spaced [] words e = let same : [] ≡ words = cc in subst (λ (ws : List (List ℕ)). length ws ≤ 0) same (omega arith)
few_spaced (b ∷ bs) words e = by (nat_eq b 32) e
  where
    by : (t : Bool) → option_map (slice_split (λ c. nat_eq c 32)) (cond t (Some bs) None) ≡ Some words → length words ≤ length (b ∷ bs)
    by true f =
        let same : slice_split (λ c. nat_eq c 32) bs ≡ words = cc in
        subst (λ (ws : List (List ℕ)). length ws ≤ length (b ∷ bs)) same (omega (arith, length-slice_split (λ c. nat_eq c 32) bs, count_by-le-length (λ c. nat_eq c 32) bs))
    by false f = absurd (cc)

-- the words of a text that begins with a space
pub spaced_is : (text others : List ℕ) → behind_space text ≡ Some others → spaced_words text ≡ Some (slice_split (λ c. nat_eq c 32) others)
spaced_is [] others e = absurd (cc)
spaced_is (b ∷ bs) others e = ap (option_map (slice_split (λ c. nat_eq c 32))) e

pub not_spaced : (text : List ℕ) → length text ≢ 0 → behind_space text ≡ None → spaced_words text ≡ None
not_spaced [] some e = absurd (some refl)
not_spaced (b ∷ bs) some e = ap (option_map (slice_split (λ c. nat_eq c 32))) e

before_shorter : (bs front : List ℕ) → before_space bs ≡ Some front → length front + 1 ≤ length bs
before_shorter bs front e = omega (arith, ap length (space_there bs front e), length-append front (32 ∷ []))

abbrev listed : List ℕ → List (List ℕ) → Option (List ℕ × List (List ℕ))
listed text words = cond (list_all is_listed words) (Some (text, words)) None

-- the text and its words are shorter than the rest
pub names_shorter : (rest : List ℕ) (found : List ℕ × List (List ℕ)) → text_and_names rest ≡ Some found → length found.0 + 2 + length found.1 ≤ length rest
unfolding text_and_names
names_shorter rest found e = by_cut (cut_last 58 rest) refl e
  where
    by_test : (text : List ℕ) (words : List (List ℕ)) (t : Bool) → length text + 2 + length words ≤ length rest → cond t (Some (text, words)) None ≡ Some found → length found.0 + 2 + length found.1 ≤ length rest
    by_test text words true h f = let same : (text, words) ≡ found = cc in subst (λ (q : List ℕ × List (List ℕ)). length q.0 + 2 + length q.1 ≤ length rest) same h
    by_test text words false h f = absurd (cc)

    by_words : (parts : List ℕ × List ℕ) (text : List ℕ) (o : Option (List (List ℕ))) → length text + 2 + length parts.1 ≤ length rest → spaced_words parts.1 ≡ o → (o >>= listed text) ≡ Some found →
        length found.0 + 2 + length found.1 ≤ length rest
    by_words parts text None h is f = absurd (cc)
    by_words parts text (Some words) h is f = by_test text words (list_all is_listed words) (omega (arith, h, few_spaced parts.1 words is)) f

    by_text : (parts : List ℕ × List ℕ) (o : Option (List ℕ)) → length parts.0 + 1 + length parts.1 ≤ length rest → before_space parts.0 ≡ o → (o >>= (λ (text : List ℕ). spaced_words parts.1 >>= listed text)) ≡ Some found →
        length found.0 + 2 + length found.1 ≤ length rest
    by_text parts None h is f = absurd (cc)
    by_text parts (Some text) h is f = by_words parts text (spaced_words parts.1) (omega (arith, h, before_shorter parts.0 text is)) refl f

    by_cut : (o : Option (List ℕ × List ℕ)) → cut_last 58 rest ≡ o → (o >>= (λ (parts : List ℕ × List ℕ). before_space parts.0 >>= (λ (text : List ℕ). spaced_words parts.1 >>= listed text))) ≡ Some found →
        length found.0 + 2 + length found.1 ≤ length rest
    by_cut None is f = absurd (cc)
    by_cut (Some parts) is f = by_text parts (before_space parts.0) (last_shorter 58 rest parts is) refl f

-- ---- the lists between bars

onto_map : {A B : Type 0} (f : A → B) (x : A) (parts : List (List A)) → map (map f) (onto_first x parts) ≡ onto_first (f x) (map (map f) parts)
onto_map f x [] = refl
onto_map f x (part ∷ parts) = refl

pub split_map : {A B : Type 0} (f : A → B) (p : B → Bool) (xs : List A) → map (map f) (slice_split (λ x. p (f x)) xs) ≡ slice_split p (map f xs)
split_map f p [] = refl
split_map f p (x ∷ xs) = by (p (f x)) (split_map f p xs)
  where
    by : (t : Bool) → map (map f) (slice_split (λ y. p (f y)) xs) ≡ slice_split p (map f xs) →
        map (map f) (cond t ([] ∷ slice_split (λ y. p (f y)) xs) (onto_first x (slice_split (λ y. p (f y)) xs))) ≡ cond t ([] ∷ slice_split p (map f xs)) (onto_first (f x) (slice_split p (map f xs)))
    by true h = ap (λ ps. [] ∷ ps) h
    by false h = onto_map f x (slice_split (λ y. p (f y)) xs) ∙ ap (onto_first (f x)) h

onto_longer : (x : List ℕ) (lists : List (List (List ℕ))) → length (joined (onto_first x lists)) ≤ 1 + length (joined lists)
onto_longer x [] = omega arith
onto_longer x (texts ∷ lists) = omega arith

-- they have no more texts than there are words
pub few_listed : (words : List (List ℕ)) → length (joined (lists_of words)) ≤ length words
few_listed [] = omega arith
few_listed (word ∷ words) = by (is_bar word) (few_listed words)
  where
    by : (t : Bool) → length (joined (lists_of words)) ≤ length words → length (joined (cond t ([] ∷ lists_of words) (onto_first word (lists_of words)))) ≤ length (word ∷ words)
    by true h = omega (arith, h)
    by false h = omega (arith, h, onto_longer word (lists_of words))

joined_push : (lists : List (List (List ℕ))) (texts : List (List ℕ)) → joined (lists ++ texts ∷ []) ≡ joined lists ++ texts
joined_push [] texts = append-nil texts
joined_push (first ∷ lists) texts = ap (λ ts. first ++ ts) (joined_push lists texts) ∙ sym (append_assoc first (joined lists) texts)

-- ---- one more list

abbrev pub texts_now : Bor (List (Bor (List ℕ))) → List (List ℕ)
texts_now texts = map now texts.now

up_to_next : (lists : List (Bor (List (Bor (List ℕ))))) (i : ℕ) (d : Bor (List (Bor (List ℕ)))) → i < length lists → map texts_now (take i lists) ++ texts_now (get_or lists i d) ∷ [] ≡ map texts_now (take (i + 1) lists)
up_to_next lists i d h = sym (map-append texts_now (take i lists) (get_or lists i d ∷ [])) ∙ ap (map texts_now) (sym (take_more lists i d h))

lists_kept : (old new : List (List ℕ)) → KeepsNames old new → (lists : List (List Name)) (texts : List (List (List ℕ))) → map (map (text_of old)) lists ≡ map (map Some) texts → map (map (text_of new)) lists ≡ map (map Some) texts
lists_kept old new keeps [] [] h = refl
lists_kept old new keeps [] (ts ∷ texts) h = absurd (cc)
lists_kept old new keeps (ns ∷ lists) [] h = absurd (cc)
lists_kept old new keeps (ns ∷ lists) (ts ∷ texts) h =
    let here : map (text_of old) ns ≡ map Some ts = cc in
    let others : map (map (text_of old)) lists ≡ map (map Some) texts = cc in
    ap (λ os. os ∷ map (map (text_of new)) lists) (kept_map old new keeps ns ts here) ∙ ap (λ oss. map Some ts ∷ oss) (lists_kept old new keeps lists texts others)

pub list_more : (old new : List (List ℕ)) (given : List (List Name)) (lists : List (Bor (List (Bor (List ℕ))))) (i : ℕ) (d : Bor (List (Bor (List ℕ)))) (names : List Name) → i < length lists → KeepsNames old new →
    map (map (text_of old)) given ≡ map (map Some) (map texts_now (take i lists)) → map (text_of new) names ≡ map Some (texts_now (get_or lists i d)) →
    map (map (text_of new)) (given ++ names ∷ []) ≡ map (map Some) (map texts_now (take (i + 1) lists))
list_more old new given lists i d names h keeps e r =
    map-append (map (text_of new)) given (names ∷ [])
    ∙ ap (λ xs. xs ++ map (text_of new) names ∷ []) (lists_kept old new keeps given (map texts_now (take i lists)) e)
    ∙ ap (λ x. map (map Some) (map texts_now (take i lists)) ++ x ∷ []) r
    ∙ sym (map-append (map Some) (map texts_now (take i lists)) (texts_now (get_or lists i d) ∷ []))
    ∙ ap (map (map Some)) (up_to_next lists i d h)

pub list_named : (old before new : List (List ℕ)) (lists : List (Bor (List (Bor (List ℕ))))) (i : ℕ) (d : Bor (List (Bor (List ℕ)))) → i < length lists → before ≡ with_names old (joined (map texts_now (take i lists))) →
    new ≡ with_names before (texts_now (get_or lists i d)) → new ≡ with_names old (joined (map texts_now (take (i + 1) lists)))
list_named old before new lists i d h so_far more =
    more
    ∙ (ap (λ (ts : List (List ℕ)). with_names ts (texts_now (get_or lists i d))) so_far
    ∙ (sym (tables_append old (joined (map texts_now (take i lists))) (texts_now (get_or lists i d)))
    ∙ ap (with_names old) (sym (joined_push (map texts_now (take i lists)) (texts_now (get_or lists i d))) ∙ ap joined (up_to_next lists i d h))))

-- the texts of the other lists, of which the next is the first
pub joined_first : (lists : List (Bor (List (Bor (List ℕ))))) (i : ℕ) (d : Bor (List (Bor (List ℕ)))) → i < length lists →
    length (joined (map texts_now (drop i lists))) ≡ length (get_or lists i d).now + length (joined (map texts_now (drop (i + 1) lists)))
joined_first lists i d h =
    ap (λ ls. length (joined (map texts_now ls))) (drop-cons lists i d h)
    ∙ (length-append (texts_now (get_or lists i d)) (joined (map texts_now (drop (suc i) lists)))
    ∙ (ap (λ n. n + length (joined (map texts_now (drop (suc i) lists)))) (length-map (get_or lists i d).now now)
    ∙ ap (λ j. length (get_or lists i d).now + length (joined (map texts_now (drop j lists)))) (sym (add-one i))))

pub list_room : (lists : List (Bor (List (Bor (List ℕ))))) (i : ℕ) (d : Bor (List (Bor (List ℕ)))) (new old bound : ℕ) → i < length lists → new ≤ old + length (get_or lists i d).now → old + length (joined (map texts_now (drop i lists))) ≤ bound →
    new + length (joined (map texts_now (drop (i + 1) lists))) ≤ bound
list_room lists i d new old bound h grown room = omega (arith, joined_first lists i d h, grown, room)

-- ---- the lists that were read

maps_now : (lists : List (Bor (List (Bor (List ℕ))))) → map (map now) (map (λ (texts : Bor (List (Bor (List ℕ)))). texts.now) lists) ≡ map texts_now lists
maps_now [] = refl
maps_now (texts ∷ lists) = ap (λ ls. texts_now texts ∷ ls) (maps_now lists)

pub lists_read : (lists : List (Bor (List (Bor (List ℕ))))) (words : List (Bor (List ℕ))) → map (λ (texts : Bor (List (Bor (List ℕ)))). texts.now) lists ≡ slice_split (λ (word : Bor (List ℕ)). is_bar word.now) words →
    map texts_now lists ≡ lists_of (map now words)
lists_read lists words h = sym (maps_now lists) ∙ (ap (map (map now)) h ∙ split_map now is_bar words)

pub few_named : (lists read : List (Bor (List (Bor (List ℕ))))) (words : List (Bor (List ℕ))) → lists ≡ read → map texts_now read ≡ lists_of (map now words) → length (joined (map texts_now lists)) ≤ length words
few_named lists read words e h =
    let same : length (joined (map texts_now lists)) ≡ length (joined (lists_of (map now words))) = ap (λ ls. length (joined (map texts_now ls))) e ∙ ap (λ ls. length (joined ls)) h in
    omega (arith, same, few_listed (map now words), length-map words now)

-- ---- a text and the names behind it

pub read_names : (o : Option (List ℕ × List (List ℕ))) (text : Bor (List ℕ)) (words : Vec (Bor (List ℕ))) →
    Reads {X = Bor (List ℕ) × Vec (Bor (List ℕ))} (λ said found. (said.0 ≡ found.0.now) × (said.1 ≡ map now found.1.items)) (Ok (text, words)) o → o ≡ Some (text.now, map now words.items)
read_names None text words h = absurd h
read_names (Some parts) text words h = ap₂ (λ (a : List ℕ) (b : List (List ℕ)). let found : Option (List ℕ × List (List ℕ)) = Some (a, b) in found) h.0 h.1

pub named_shorter : (rest : List ℕ) (found : List ℕ × List (List ℕ)) → name_and_names rest ≡ Some found → length found.0 + 2 + length found.1 ≤ length rest
unfolding name_and_names
named_shorter rest found e = by (text_and_names rest) refl e
  where
    by_name : (parts : List ℕ × List (List ℕ)) (t : Bool) → text_and_names rest ≡ Some parts → cond t (Some parts) None ≡ Some found → length found.0 + 2 + length found.1 ≤ length rest
    by_name parts true is f = let same : parts ≡ found = cc in names_shorter rest found (is ∙ ap (λ (p : List ℕ × List (List ℕ)). Some p) same)
    by_name parts false is f = absurd (cc)

    by : (o : Option (List ℕ × List (List ℕ))) → text_and_names rest ≡ o → (o >>= (λ (parts : List ℕ × List (List ℕ)). cond (is_identifier parts.0) (Some parts) None)) ≡ Some found → length found.0 + 2 + length found.1 ≤ length rest
    by None is f = absurd (cc)
    by (Some parts) is f = by_name parts (is_identifier parts.0) is f

pub on_shorter : (rule : TermRule) (rest : List ℕ) (found : List ℕ × List (List ℕ)) → lists_behind rule rest ≡ Some found → length found.0 + 2 + length found.1 ≤ length rest
on_shorter On rest found e = names_shorter rest found e
on_shorter Cut rest found e = absurd (cc)
on_shorter Range rest found e = absurd (cc)
on_shorter Witness rest found e = absurd (cc)
on_shorter Eta rest found e = absurd (cc)

-- names that stand for texts are at their places
pub lists_at : (table : List (List ℕ)) (names : List (List Name)) (texts : List (List (List ℕ))) → map (map (text_of table)) names ≡ map (map Some) texts → map (map (text_at table)) names ≡ map (map Some) texts
lists_at table [] [] h = refl
lists_at table [] (ts ∷ texts) h = absurd (cc)
lists_at table (ns ∷ names) [] h = absurd (cc)
lists_at table (ns ∷ names) (ts ∷ texts) h =
    let here : map (text_of table) ns ≡ map Some ts = cc in
    let others : map (map (text_of table)) names ≡ map (map Some) texts = cc in
    ap (λ os. os ∷ map (map (text_at table)) names) (all_at table ns ts here) ∙ ap (λ oss. map Some ts ∷ oss) (lists_at table names texts others)
