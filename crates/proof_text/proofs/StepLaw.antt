-- What the line of a step spells, step by step.
use Rattle.std.proofs.Common.{◌≡◌, ℕ, Bool, true, false, ◌&&◌, cond, subst, List, [], ◌∷◌, ◌++◌, map, Option, Some, None, refl, sym, ◌∙◌, ap, ap₂, codes}
use Rattle.std.specs.Prelude.{is_some, is_none}
use Rattle.std.specs.List.{list_all}
use Rattle.std.specs.Option.{option_map}
use Rattle.std.specs.Str.{bytes_eq, is_utf8}
use Rattle.std.proofs.lemmas.Slice.Eq.{bytes_eq-Decides}
use Rattle.proof_kernel.specs.declared.step.Step.{Step}
use Rattle.proof_kernel.specs.declared.step.HypothesisRule.TheVariants.{Cases}
use Rattle.proof_kernel.specs.declared.step.Target.{Target}
use Rattle.proof_kernel.specs.declared.step.TermRule.{TermRule}
use Rattle.proof_kernel.specs.declared.step.TermRule.TheVariants.{Cut, On, Range, Witness, Eta}
use Rattle.proof_kernel.specs.declared.step.Step.TheVariants.{Intro, Hyp, Split, Lin, OnGoal, OnHypothesis, OnTwo, Rewrite, Decide, OnTerm, Divide, Instantiate, Unpack, ByVariants, Induct}
use Rattle.logic_term.specs.declared.kinds.Label2.{Label2}
use Rattle.source_trees.specs.Pterm.{Pterm}
use Rattle.term_texts.specs.TermTexts.{SpellsWholeTerm, IsTermText}
use Rattle.term_texts.proofs.TermLaw.{is_term_text, names_there as naming_there, one_naming, kept_term, one_term}
pub use Rattle.term_texts.proofs.TermLaw.{AreNamed, KeepsTexts}
use Rattle.text_core.specs.Names.{words, HaveOnePlace}
use Rattle.text_core.specs.declared.name.Name.{Name}
use Rattle.rs_tokens.specs.Tokens.{is_identifier}
use Rattle.proof_text.specs.declared.rule_words.TermLine.{TermLine}
use Rattle.proof_text.specs.declared.rule_words.TermLine.TheVariants.{Rule, Division, Instance}
use Rattle.proof_text.specs.ProofTextWords.{◌>>=◌, Each, label_of, two_texts, label_and_texts, text_and_names, name_and_names, lists_of, joined}
use Rattle.proof_text.specs.ProofTextRules.{rewriting_in, place_in, lists_behind, term_word, term_line_of}
use Rattle.proof_text.specs.ProofTextLines.{head_of, rest_of, words_of, text_at, case_in, name_listed, name_in_case, names_in_induct, multiples_in, word_of, SpellsRest, SpellsParts, SpellsStep}
use Rattle.proof_text.specs.ProofTextLines.{texts_by, terms_behind, NamesInTerm, NamesInRule, NamesInTerms, NamesInTwo, NamesByLine, NamesOfParts, NamesTexts}
use Rattle.proof_text.specs.ProofTextFile.{is_plain_step, is_term, is_term_rest, is_rule_rest, are_terms, are_all_terms, is_step_by, is_step, step, line_if, line_by_head, line_of, rule_step_of}
use Rattle.proof_text.specs.ProofTextLaws.{AlikeStep}
use Rattle.proof_text.proofs.LineLaw.{is_plain, text_line}
use Rattle.proof_text.proofs.TermLists.{term_told, told_term, and_parts, named_parts, term_here, each_map, all_told, terms_here, all_names, once_in_terms, alike_each, each_once}
use Rattle.proof_text.proofs.RuleLaw.{rule_there, to_labels, hypothesis_step, goal_head, hypothesis_head, pair_head, term_found, term_spelled, rule_part, rule_read}

-- ---- a spelled step has a line

term_rest : (table : List (List ℕ)) (rest : Option (List ℕ)) (rule : TermRule) (t : Pterm) → SpellsRest table rest (OnTerm rule t) → is_step (term_word rule) rest ≡ true
unfolding is_step
term_rest table rest rule t h =
    ap (λ o. is_step_by o (term_word rule) rest) (term_found (Rule rule))
    ∙ (ap (λ (r : Option (List ℕ)). is_rule_rest (r >>= lists_behind rule) r) h.1 ∙ (ap (λ o. is_rule_rest o (Some h.0)) h.3 ∙ term_told h.0 (is_term_text table h.0 t h.2)))

variants_rest : (table : List (List ℕ)) (rest : Option (List ℕ)) (t : Pterm) (names : List (List Name)) → SpellsRest table rest (ByVariants t names) → is_step (codes "on") rest ≡ true
unfolding is_step
variants_rest table rest t names h =
    ap (λ o. is_step_by o (codes "on") rest) (term_found (Rule On)) ∙ (ap (λ o. is_rule_rest o rest) h.1 ∙ term_told h.0.0 (is_term_text table h.0.0 t h.2))

both_told : (a b : List ℕ) → IsTermText a → IsTermText b → (is_term a && is_term b) ≡ true
both_told a b p q = ap₂ (λ x y. x && y) (term_told a p) (term_told b q)

two_rest : (table : List (List ℕ)) (rest : Option (List ℕ)) (t u : Pterm) → SpellsRest table rest (Divide t u) → is_step (codes "div") rest ≡ true
unfolding is_step
two_rest table rest t u h =
    ap (λ o. is_step_by o (codes "div") rest) (term_found Division)
    ∙ (ap are_terms h.1 ∙ both_told h.0.0 h.0.1 (is_term_text table h.0.0 t h.2) (is_term_text table h.0.1 u h.3))

instance_rest : (table : List (List ℕ)) (rest : Option (List ℕ)) (l : Label2) (ts : List Pterm) → SpellsRest table rest (Instantiate l ts) → is_step (codes "inst") rest ≡ true
unfolding is_step
instance_rest table rest l ts h =
    ap (λ o. is_step_by o (codes "inst") rest) (term_found Instance)
    ∙ (ap (λ (o : Option (Label2 × List (List ℕ))). are_all_terms (option_map (λ (p : Label2 × List (List ℕ)). p.1) o)) h.1 ∙ all_told table h.0 ts h.2)

rest_is : (table : List (List ℕ)) (rest : Option (List ℕ)) (s : Step) → SpellsRest table rest s → is_step (word_of s) rest ≡ true
unfolding is_step is_plain_step term_line_of
rest_is table rest (Intro names) h = h.0
rest_is table rest (Hyp l) h = ap is_some h
rest_is table rest Split h = ap is_none h
rest_is table rest (Lin ms) h = ap is_some h
rest_is table rest (Rewrite r) h = ap is_some h
rest_is table rest (OnGoal r) h = (goal_head r).2 rest ∙ ap is_some (rule_read table rest (OnGoal r) h)
rest_is table rest (OnHypothesis r l) h = hypothesis_step table r rest l h
rest_is table rest (Decide l to) h = ap is_some h
rest_is table rest (Unpack l x) h = ap is_some h.1
rest_is table rest (OnTerm r t) h = term_rest table rest r t h
rest_is table rest (Divide t u) h = two_rest table rest t u h
rest_is table rest (Instantiate l ts) h = instance_rest table rest l ts h
rest_is table rest (ByVariants t names) h = variants_rest table rest t names h
rest_is table rest (Induct x names) h = ap is_some h.1
rest_is table rest (OnTwo r l m) h = (pair_head r).2 rest ∙ ap is_some (rule_read table rest (OnTwo r l m) h)

by_word : (s : Step) (rest : Option (List ℕ)) → line_by_head (word_of s) rest ≡ line_if (is_step (word_of s) rest) step
unfolding line_by_head
by_word (OnGoal r) rest = (goal_head r).1 rest
by_word (OnHypothesis r l) rest = (hypothesis_head r).1 rest
by_word (OnTwo r l m) rest = (pair_head r).1 rest
by_word (OnTerm Cut t) rest = refl
by_word (OnTerm On t) rest = refl
by_word (OnTerm Range t) rest = refl
by_word (OnTerm Witness t) rest = refl
by_word (OnTerm Eta t) rest = refl
by_word _ rest = refl

word_plain : (s : Step) → is_plain (word_of s) ≡ true
word_plain (OnGoal r) = (goal_head r).0
word_plain (OnHypothesis r l) = (hypothesis_head r).0
word_plain (OnTwo r l m) = (pair_head r).0
word_plain (OnTerm Cut t) = refl
word_plain (OnTerm On t) = refl
word_plain (OnTerm Range t) = refl
word_plain (OnTerm Witness t) = refl
word_plain (OnTerm Eta t) = refl
word_plain _ = refl

pub parts_are : (table : List (List ℕ)) (head : List ℕ) (rest : Option (List ℕ)) (s : Step) → SpellsParts table head rest s → is_step head rest ≡ true
parts_are table head rest s h = ap (λ w. is_step w rest) h.0 ∙ rest_is table rest s h.1

pub step_line : (table : List (List ℕ)) (text : List ℕ) (s : Step) → SpellsStep table text s → line_of text ≡ Some step
step_line table text s h =
    text_line text (ap is_plain h.1.0 ∙ word_plain s) h.0
    ∙ (ap (λ w. line_by_head w (rest_of text)) h.1.0 ∙ by_word s (rest_of text) ∙ ap (λ b. line_if b step) (rest_is table (rest_of text) s h.1.1))

-- ---- such a line spells a step

names_there : (table texts : List (List ℕ)) → AreNamed table texts → (names : List Name) × (map (text_at table) names ≡ map Some texts)
names_there table [] h = ([], refl)
names_there table (text ∷ texts) h =
    let more = names_there table texts h.1 in
    let first : text_at table h.0.0 ≡ Some text = h.0.1 in
    let rest : map (text_at table) more.0 ≡ map Some texts = more.1 in
    (h.0.0 ∷ more.0, ap (λ o. o ∷ map (text_at table) more.0) first ∙ ap (λ os. Some text ∷ os) rest)

lists_there : (table : List (List ℕ)) (lists : List (List (List ℕ))) → AreNamed table (joined lists) → (names : List (List Name)) × (map (map (text_at table)) names ≡ map (map Some) lists)
lists_there table [] h = ([], refl)
lists_there table (texts ∷ lists) h =
    let have = named_parts table texts (joined lists) h in
    let first = names_there table texts have.0 in
    let others = lists_there table lists have.1 in
    (first.0 ∷ others.0, ap (λ o. o ∷ map (map (text_at table)) others.0) first.1 ∙ ap (λ os. map Some texts ∷ os) others.1)

some_of : {A : Type 0} (o : Option A) → is_some o ≡ true → (x : A) × (o ≡ Some x)
some_of None e = absurd (cc)
some_of (Some x) e = (x, refl)

none_of : {A : Type 0} (o : Option A) → is_none o ≡ true → o ≡ None
none_of None e = refl
none_of (Some x) e = absurd (cc)

same_head : (head word : List ℕ) → bytes_eq head word ≡ true → head ≡ word
same_head head word e = (bytes_eq-Decides head word).0 e

abbrev Spelled : List (List ℕ) → List ℕ → Option (List ℕ) → Type 0
Spelled table head rest = (s : Step) × SpellsParts table head rest s

-- behind `cases`
case_there : (table : List (List ℕ)) (head : List ℕ) (rest : Option (List ℕ)) (l : Label2) (o : Option (List ℕ)) → (rest >>= case_in) ≡ Some (l, o) → head ≡ codes "cases" → AreNamed table (name_listed o) → Spelled table head rest
case_there table head rest l None e w named = (OnHypothesis Cases l, (w, to_labels rest l e))
case_there table head rest l (Some text) e w named = (Unpack l named.0.0, (w, (text, e, named.0.1)))

induct_there : (table : List (List ℕ)) (head : List ℕ) (rest : Option (List ℕ)) (o : Option (List ℕ × List (List ℕ))) → (rest >>= name_and_names) ≡ o → is_some o ≡ true → head ≡ codes "induct" → AreNamed table (names_in_induct o) →
    Spelled table head rest
induct_there table head rest None e is w named = absurd (cc)
induct_there table head rest (Some parts) e is w named =
    let lists = lists_there table (lists_of parts.1) named.1 in
    (Induct named.0.0 lists.0, (w, (parts, e, named.0.1, lists.1)))

last_words : (table : List (List ℕ)) (head : List ℕ) (rest : Option (List ℕ)) (i : Bool) → bytes_eq head (codes "induct") ≡ i → cond i (is_some (rest >>= name_and_names)) (is_some (rule_step_of head rest)) ≡ true →
    AreNamed table (cond i (names_in_induct (rest >>= name_and_names)) []) → Spelled table head rest
last_words table head rest true w is named = induct_there table head rest (rest >>= name_and_names) refl is (same_head head (codes "induct") w) named
last_words table head rest false w is named = let found = some_of (rule_step_of head rest) is in (found.0, rule_there table head found.0 rest found.1)

by_words : (table : List (List ℕ)) (head : List ℕ) (rest : Option (List ℕ)) (a b c d e f g i : Bool) → bytes_eq head (codes "intro") ≡ a → bytes_eq head (codes "hyp") ≡ b → bytes_eq head (codes "split") ≡ c →
    bytes_eq head (codes "lin") ≡ d → bytes_eq head (codes "rewrite") ≡ e → bytes_eq head (codes "cond") ≡ f → bytes_eq head (codes "cases") ≡ g → bytes_eq head (codes "induct") ≡ i →
    cond a (list_all is_identifier (words_of rest)) (cond b (is_some (rest >>= label_of)) (cond c (is_none rest) (cond d (is_some (rest >>= multiples_in)) (cond e (is_some (rest >>= rewriting_in))
    (cond f (is_some (rest >>= place_in)) (cond g (is_some (rest >>= case_in)) (cond i (is_some (rest >>= name_and_names)) (is_some (rule_step_of head rest))))))))) ≡ true →
    AreNamed table (cond a (words_of rest) (cond g (name_in_case (rest >>= case_in)) (cond i (names_in_induct (rest >>= name_and_names)) []))) → Spelled table head rest
by_words table head rest true b c d e f g i p q r s t u v w is named =
    let names = names_there table (words_of rest) named in (Intro names.0, (same_head head (codes "intro") p, (is, names.1)))
by_words table head rest false true c d e f g i p q r s t u v w is named = let l = some_of (rest >>= label_of) is in (Hyp l.0, (same_head head (codes "hyp") q, l.1))
by_words table head rest false false true d e f g i p q r s t u v w is named = (Split, (same_head head (codes "split") r, none_of rest is))
by_words table head rest false false false true e f g i p q r s t u v w is named = let ms = some_of (rest >>= multiples_in) is in (Lin ms.0, (same_head head (codes "lin") s, ms.1))
by_words table head rest false false false false true f g i p q r s t u v w is named = let found = some_of (rest >>= rewriting_in) is in (Rewrite found.0, (same_head head (codes "rewrite") t, found.1))
by_words table head rest false false false false false true g i p q r s t u v w is named =
    let found = some_of (rest >>= place_in) is in (Decide found.0.0 found.0.1, (same_head head (codes "cond") u, found.1))
by_words table head rest false false false false false false true i p q r s t u v w is named =
    let found = some_of (rest >>= case_in) is in
    case_there table head rest found.0.0 found.0.1 found.1 (same_head head (codes "cases") v) (subst (λ (o : Option (Label2 × Option (List ℕ))). AreNamed table (name_in_case o)) found.1 named)
by_words table head rest false false false false false false false i p q r s t u v w is named = last_words table head rest i w is named

plain_there : (table : List (List ℕ)) (head : List ℕ) (rest : Option (List ℕ)) → is_plain_step head rest ≡ true → AreNamed table (texts_by head rest) → Spelled table head rest
unfolding is_plain_step texts_by
plain_there table head rest is named =
    by_words table head rest (bytes_eq head (codes "intro")) (bytes_eq head (codes "hyp")) (bytes_eq head (codes "split")) (bytes_eq head (codes "lin")) (bytes_eq head (codes "rewrite"))
    (bytes_eq head (codes "cond")) (bytes_eq head (codes "cases")) (bytes_eq head (codes "induct")) refl refl refl refl refl refl refl refl is named

-- lists of names stand behind terms of `on` alone
on_word : (rule : TermRule) (text : List ℕ) (parts : List ℕ × List (List ℕ)) → lists_behind rule text ≡ Some parts → (term_word rule ≡ codes "on") × (text_and_names text ≡ Some parts)
on_word On text parts e = (refl, e)
on_word Cut text parts e = absurd (cc)
on_word Range text parts e = absurd (cc)
on_word Witness text parts e = absurd (cc)
on_word Eta text parts e = absurd (cc)

term_line : (table : List (List ℕ)) (head text : List ℕ) (rule : TermRule) (o : Option (List ℕ × List (List ℕ))) (texts : List (List ℕ)) → lists_behind rule text ≡ o → head ≡ term_word rule → is_rule_rest o (Some text) ≡ true →
    NamesInRule o (Some text) texts → AreNamed table texts → Spelled table head (Some text)
term_line table head text rule None texts e w is names named =
    let t = term_here table text texts is names named in
    (OnTerm rule t.0, (w, (text, refl, t.1, e)))
term_line table head text rule (Some parts) texts e w is names named =
    let have = named_parts table names.0 (joined (lists_of parts.1)) (subst (AreNamed table) names.2 named) in
    let t = term_here table parts.0 names.0 is names.1 have.0 in
    let lists = lists_there table (lists_of parts.1) have.1 in
    let on = on_word rule text parts e in
    (ByVariants t.0 lists.0, (w ∙ on.0, (parts, on.1, t.1, lists.1)))

rule_line : (table : List (List ℕ)) (head : List ℕ) (rest : Option (List ℕ)) (rule : TermRule) (texts : List (List ℕ)) → head ≡ term_word rule → is_rule_rest (rest >>= lists_behind rule) rest ≡ true →
    NamesInRule (rest >>= lists_behind rule) rest texts → AreNamed table texts → Spelled table head rest
rule_line table head None rule texts w is names named = absurd (cc)
rule_line table head (Some text) rule texts w is names named = term_line table head text rule (lists_behind rule text) texts refl w is names named

two_line : (table : List (List ℕ)) (head : List ℕ) (rest : Option (List ℕ)) (o : Option (List ℕ × List ℕ)) (texts : List (List ℕ)) → (rest >>= two_texts) ≡ o → head ≡ codes "div" → are_terms o ≡ true → NamesInTwo o texts →
    AreNamed table texts → Spelled table head rest
two_line table head rest None texts e w is names named = absurd (cc)
two_line table head rest (Some both) texts e w is names named =
    let parts = and_parts (is_term both.0) (is_term both.1) is in
    let have = named_parts table names.0 names.1 (subst (AreNamed table) names.4 named) in
    let first = term_here table both.0 names.0 parts.0 names.2 have.0 in
    let second = term_here table both.1 names.1 parts.1 names.3 have.1 in
    (Divide first.0 second.0, (w, (both, e, first.1, second.1)))

instance_line : (table : List (List ℕ)) (head : List ℕ) (rest : Option (List ℕ)) (o : Option (Label2 × List (List ℕ))) (texts : List (List ℕ)) → (rest >>= label_and_texts) ≡ o → head ≡ codes "inst" →
    are_all_terms (option_map (λ (p : Label2 × List (List ℕ)). p.1) o) ≡ true → NamesInTerms (option_map (λ (p : Label2 × List (List ℕ)). p.1) o) texts → AreNamed table texts → Spelled table head rest
instance_line table head rest None texts e w is names named = absurd (cc)
instance_line table head rest (Some parts) texts e w is names named =
    let ts = terms_here table parts.1 texts is names named in
    (Instantiate parts.0 ts.0, (w, (parts.1, e, ts.1)))

by_line : (table : List (List ℕ)) (head : List ℕ) (rest : Option (List ℕ)) (texts : List (List ℕ)) (o : Option TermLine) → term_line_of head ≡ o → is_step_by o head rest ≡ true → NamesByLine o head rest texts → AreNamed table texts →
    Spelled table head rest
by_line table head rest texts None e is names named = plain_there table head rest is (subst (AreNamed table) names named)
by_line table head rest texts (Some (Rule rule)) e is names named = rule_line table head rest rule texts (term_spelled head (Rule rule) e) is names named
by_line table head rest texts (Some Division) e is names named = two_line table head rest (rest >>= two_texts) texts refl (term_spelled head Division e) is names named
by_line table head rest texts (Some Instance) e is names named = instance_line table head rest (rest >>= label_and_texts) texts refl (term_spelled head Instance e) is names named

parts_there : (table : List (List ℕ)) (head : List ℕ) (rest : Option (List ℕ)) (texts : List (List ℕ)) → is_step head rest ≡ true → NamesOfParts head rest texts → AreNamed table texts → Spelled table head rest
unfolding is_step NamesOfParts
parts_there table head rest texts is names named = by_line table head rest texts (term_line_of head) refl is names named

pub step_there : (table : List (List ℕ)) (text : List ℕ) (texts : List (List ℕ)) → is_utf8 text ≡ true → is_step (head_of text) (rest_of text) ≡ true → NamesTexts text texts → AreNamed table texts → (s : Step) × SpellsStep table text s
step_there table text texts u is names named = let s = parts_there table (head_of text) (rest_of text) texts is names named in (s.0, (u, s.1))

-- ---- what a line names

term_names : (rest : Option (List ℕ)) → is_term_rest rest ≡ true → (texts : List (List ℕ)) × NamesInTerm rest texts
term_names None is = absurd (cc)
term_names (Some text) is = let term : IsTermText text = told_term text is in (_, naming_there text term)

rule_names : (o : Option (List ℕ × List (List ℕ))) (rest : Option (List ℕ)) → is_rule_rest o rest ≡ true → (texts : List (List ℕ)) × NamesInRule o rest texts
rule_names None rest is = term_names rest is
rule_names (Some parts) rest is = (_, (_, naming_there parts.0 (told_term parts.0 is), refl))

two_names : (o : Option (List ℕ × List ℕ)) → are_terms o ≡ true → (texts : List (List ℕ)) × NamesInTwo o texts
two_names None is = absurd (cc)
two_names (Some both) is =
    let parts = and_parts (is_term both.0) (is_term both.1) is in
    (_, (_, _, naming_there both.0 (told_term both.0 parts.0), naming_there both.1 (told_term both.1 parts.1), refl))

names_by : (head : List ℕ) (rest : Option (List ℕ)) (o : Option TermLine) → is_step_by o head rest ≡ true → (texts : List (List ℕ)) × NamesByLine o head rest texts
names_by head rest None is = (texts_by head rest, refl)
names_by head rest (Some (Rule rule)) is = rule_names (rest >>= lists_behind rule) rest is
names_by head rest (Some Division) is = two_names (rest >>= two_texts) is
names_by head rest (Some Instance) is = all_names (terms_behind rest) is

pub step_names : (text : List ℕ) → is_step (head_of text) (rest_of text) ≡ true → (texts : List (List ℕ)) × NamesTexts text texts
unfolding is_step NamesOfParts
step_names text is = names_by (head_of text) (rest_of text) (term_line_of (head_of text)) is

once_in_term : (rest : Option (List ℕ)) (one other : List (List ℕ)) → NamesInTerm rest one → NamesInTerm rest other → one ≡ other
once_in_term None one other a b = a ∙ sym b
once_in_term (Some text) one other a b = one_naming text one other a b

once_in_rule : (o : Option (List ℕ × List (List ℕ))) (rest : Option (List ℕ)) (one other : List (List ℕ)) → NamesInRule o rest one → NamesInRule o rest other → one ≡ other
once_in_rule None rest one other a b = once_in_term rest one other a b
once_in_rule (Some parts) rest one other a b = a.2 ∙ (ap (λ (ts : List (List ℕ)). ts ++ joined (lists_of parts.1)) (one_naming parts.0 a.0 b.0 a.1 b.1) ∙ sym b.2)

once_in_two : (o : Option (List ℕ × List ℕ)) (one other : List (List ℕ)) → NamesInTwo o one → NamesInTwo o other → one ≡ other
once_in_two None one other a b = a ∙ sym b
once_in_two (Some both) one other a b =
    a.4 ∙ (ap₂ (λ (x y : List (List ℕ)). x ++ y) (one_naming both.0 a.0 b.0 a.2 b.2) (one_naming both.1 a.1 b.1 a.3 b.3) ∙ sym b.4)

once_by : (head : List ℕ) (rest : Option (List ℕ)) (o : Option TermLine) (one other : List (List ℕ)) → NamesByLine o head rest one → NamesByLine o head rest other → one ≡ other
once_by head rest None one other a b = a ∙ sym b
once_by head rest (Some (Rule rule)) one other a b = once_in_rule (rest >>= lists_behind rule) rest one other a b
once_by head rest (Some Division) one other a b = once_in_two (rest >>= two_texts) one other a b
once_by head rest (Some Instance) one other a b = once_in_terms (terms_behind rest) one other a b

-- a line names one list of texts
pub line_names_once : (text : List ℕ) (one other : List (List ℕ)) → NamesTexts text one → NamesTexts text other → one ≡ other
unfolding NamesOfParts
line_names_once text one other a b = once_by (head_of text) (rest_of text) (term_line_of (head_of text)) one other a b

-- ---- in a larger table the same step is spelled

module _ (old new : List (List ℕ)) (keeps : KeepsTexts old new) where
  kept_names : (names : List Name) (texts : List (List ℕ)) → map (text_at old) names ≡ map Some texts → map (text_at new) names ≡ map Some texts
  kept_names [] [] h = refl
  kept_names [] (t ∷ ts) h = cc
  kept_names (n ∷ ns) [] h = cc
  kept_names (n ∷ ns) (t ∷ ts) h =
      let here : text_at old n ≡ Some t = cc in
      let first : text_at new n ≡ Some t = keeps n.0 t here in
      let others : map (text_at new) ns ≡ map Some ts = kept_names ns ts (cc) in
      ap (λ o. o ∷ map (text_at new) ns) first ∙ ap (λ os. Some t ∷ os) others

  kept_lists : (names : List (List Name)) (lists : List (List (List ℕ))) → map (map (text_at old)) names ≡ map (map Some) lists → map (map (text_at new)) names ≡ map (map Some) lists
  kept_lists [] [] h = refl
  kept_lists [] (ts ∷ lists) h = absurd (cc)
  kept_lists (ns ∷ names) [] h = absurd (cc)
  kept_lists (ns ∷ names) (ts ∷ lists) h =
      let here : map (text_at old) ns ≡ map Some ts = cc in
      let others : map (map (text_at old)) names ≡ map (map Some) lists = cc in
      ap (λ os. os ∷ map (map (text_at new)) names) (kept_names ns ts here) ∙ ap (λ oss. map Some ts ∷ oss) (kept_lists names lists others)

  kept_rest : (rest : Option (List ℕ)) (s : Step) → SpellsRest old rest s → SpellsRest new rest s
  kept_rest rest (Intro names) h = (h.0, kept_names names (words_of rest) h.1)
  kept_rest rest (OnTerm r t) h = (h.0, h.1, kept_term old new keeps h.0 t h.2, h.3)
  kept_rest rest (Divide t u) h = (h.0, h.1, kept_term old new keeps h.0.0 t h.2, kept_term old new keeps h.0.1 u h.3)
  kept_rest rest (Instantiate l ts) h = (h.0, h.1, each_map (SpellsWholeTerm old) (SpellsWholeTerm new) (kept_term old new keeps) h.0 ts h.2)
  kept_rest rest (Unpack l x) h = (h.0, h.1, keeps x.0 h.0 h.2)
  kept_rest rest (ByVariants t names) h = (h.0, h.1, kept_term old new keeps h.0.0 t h.2, kept_lists names (lists_of h.0.1) h.3)
  kept_rest rest (Induct x names) h = (h.0, h.1, keeps x.0 h.0.0 h.2, kept_lists names (lists_of h.0.1) h.3)
  kept_rest rest _ h = h

  pub kept_step : (text : List ℕ) (s : Step) → SpellsStep old text s → SpellsStep new text s
  kept_step text s h = (h.0, (h.1.0, kept_rest (rest_of text) s h.1.1))

-- ---- a line spells one step

same_found : {A : Type 0} (p q : Label2 × A) → Some p ≡ Some q → p ≡ q
same_found p q e = cc

-- before lists of names no formula is spelled
no_formula : (table other : List (List ℕ)) (rest : Option (List ℕ)) (t u : Pterm) (names : List (List Name)) → SpellsRest table rest (ByVariants t names) → SpellsRest other rest (OnTerm On u) → ⊥
no_formula table other rest t u names h k =
    let none : (rest >>= text_and_names) ≡ None = ap (λ (r : Option (List ℕ)). r >>= text_and_names) k.1 ∙ k.3 in
    let both : None ≡ Some h.0 = sym none ∙ h.1 in
    absurd (cc)

module _ (table other : List (List ℕ)) (rest : Option (List ℕ)) where
  abbrev AlikeTerm : Pterm → Pterm → Type 0
  AlikeTerm t u = (text : List ℕ) × SpellsWholeTerm table text t × SpellsWholeTerm other text u

  alike_term : (r : TermRule) (t u : Pterm) → SpellsRest table rest (OnTerm r t) → SpellsRest other rest (OnTerm r u) → AlikeTerm t u
  alike_term r t u h k =
      let same : Some k.0 ≡ Some h.0 = sym k.1 ∙ h.1 in
      let text : k.0 ≡ h.0 = cc in
      (h.0, h.2, subst (λ (x : List ℕ). SpellsWholeTerm other x u) text k.2)

  alike_two : (t u v w : Pterm) → SpellsRest table rest (Divide t u) → SpellsRest other rest (Divide v w) → AlikeTerm t v × AlikeTerm u w
  alike_two t u v w h k =
      let same : Some k.0 ≡ Some h.0 = sym k.1 ∙ h.1 in
      let texts : k.0 ≡ h.0 = cc in (
        (h.0.0, h.2, subst (λ (x : List ℕ × List ℕ). SpellsWholeTerm other x.0 v) texts k.2),
        (h.0.1, h.3, subst (λ (x : List ℕ × List ℕ). SpellsWholeTerm other x.1 w) texts k.3),
      )

  alike_instance : (l m : Label2) (ts us : List Pterm) → SpellsRest table rest (Instantiate l ts) → SpellsRest other rest (Instantiate m us) → (l ≡ m) × Each AlikeTerm ts us
  alike_instance l m ts us h k =
      let pair : (l, h.0) ≡ (m, k.0) = same_found {A = List (List ℕ)} (l, h.0) (m, k.0) (sym h.1 ∙ k.1) in
      let label : l ≡ m = ap (λ (p : Label2 × List (List ℕ)). p.0) pair in
      let texts : k.0 ≡ h.0 = sym (ap (λ (p : Label2 × List (List ℕ)). p.1) pair) in
      (label, alike_each table other h.0 ts us h.2 (subst (λ (xs : List (List ℕ)). Each (SpellsWholeTerm other) xs us) texts k.2))

  alike_lists : (ms ns : List (List Name)) (p q : List ℕ × List (List ℕ)) → p ≡ q → map (map (text_at table)) ms ≡ map (map Some) (lists_of p.1) → map (map (text_at other)) ns ≡ map (map Some) (lists_of q.1) →
      map (map (text_at table)) ms ≡ map (map (text_at other)) ns
  alike_lists ms ns p q same h k = h ∙ (ap (λ (x : List ℕ × List (List ℕ)). map (map Some) (lists_of x.1)) same ∙ sym k)

  alike_variants : (t u : Pterm) (ms ns : List (List Name)) → SpellsRest table rest (ByVariants t ms) → SpellsRest other rest (ByVariants u ns) → AlikeTerm t u × (map (map (text_at table)) ms ≡ map (map (text_at other)) ns)
  alike_variants t u ms ns h k =
      let same : Some h.0 ≡ Some k.0 = sym h.1 ∙ k.1 in
      let parts : h.0 ≡ k.0 = cc in
      ((h.0.0, h.2, subst (λ (x : List ℕ × List (List ℕ)). SpellsWholeTerm other x.0 u) (sym parts) k.2), alike_lists ms ns h.0 k.0 parts h.3 k.3)

  alike_induct : (x y : Name) (ms ns : List (List Name)) → SpellsRest table rest (Induct x ms) → SpellsRest other rest (Induct y ns) → (text_at table x ≡ text_at other y) × (map (map (text_at table)) ms ≡ map (map (text_at other)) ns)
  alike_induct x y ms ns h k =
      let same : Some h.0 ≡ Some k.0 = sym h.1 ∙ k.1 in
      let parts : h.0 ≡ k.0 = cc in
      (h.2 ∙ (ap (λ (p : List ℕ × List (List ℕ)). Some p.0) parts ∙ sym k.2), alike_lists ms ns h.0 k.0 parts h.3 k.3)

  alike_rest : (s t : Step) → bytes_eq (word_of s) (word_of t) ≡ true → rule_part s ≡ rule_part t → SpellsRest table rest s → SpellsRest other rest t → AlikeStep table other s t
  alike_rest (Intro ms) (Intro ns) e r h k = h.1 ∙ sym k.1
  alike_rest (Hyp l) (Hyp m) e r h k = let same : Some l ≡ Some m = sym h ∙ k in cc
  alike_rest Split Split e r h k = tt
  alike_rest (Lin ms) (Lin ns) e r h k = let same : Some ms ≡ Some ns = sym h ∙ k in cc
  alike_rest (Rewrite a) (Rewrite b) e r h k = let same : Some a ≡ Some b = sym h ∙ k in cc
  alike_rest (Decide l to) (Decide m goal) e r h k =
      let same : (l, to) ≡ (m, goal) = same_found (l, to) (m, goal) (sym h ∙ k) in
      (ap (λ (p : Label2 × Target). p.0) same, ap (λ (p : Label2 × Target). p.1) same)
  alike_rest (Unpack l x) (Unpack m y) e r h k =
      let same : (l, Some h.0) ≡ (m, Some k.0) = same_found (l, Some h.0) (m, Some k.0) (sym h.1 ∙ k.1) in
      (ap (λ (p : Label2 × Option (List ℕ)). p.0) same, h.2 ∙ (ap (λ (p : Label2 × Option (List ℕ)). p.1) same ∙ sym k.2))
  alike_rest (OnGoal a) (OnGoal b) e r h k = cc
  alike_rest (OnHypothesis a l) (OnHypothesis b m) e r h k = (cc, cc)
  alike_rest (OnTwo a l m) (OnTwo b n o) e r h k = (cc, cc, cc)
  alike_rest (ByVariants t ms) (ByVariants u ns) e r h k = alike_variants t u ms ns h k
  alike_rest (Induct x ms) (Induct y ns) e r h k = alike_induct x y ms ns h k
  alike_rest (ByVariants t names) (OnTerm On u) e r h k = absurd (no_formula table other rest t u names h k)
  alike_rest (OnTerm On u) (ByVariants t names) e r h k = absurd (no_formula other table rest t u names k h)
  alike_rest (OnTerm Cut t) (OnTerm Cut u) e r h k = (refl, alike_term Cut t u h k)
  alike_rest (OnTerm On t) (OnTerm On u) e r h k = (refl, alike_term On t u h k)
  alike_rest (OnTerm Range t) (OnTerm Range u) e r h k = (refl, alike_term Range t u h k)
  alike_rest (OnTerm Witness t) (OnTerm Witness u) e r h k = (refl, alike_term Witness t u h k)
  alike_rest (OnTerm Eta t) (OnTerm Eta u) e r h k = (refl, alike_term Eta t u h k)
  alike_rest s (OnTerm Cut u) e r h k = absurd (cc)
  alike_rest s (OnTerm On u) e r h k = absurd (cc)
  alike_rest s (OnTerm Range u) e r h k = absurd (cc)
  alike_rest s (OnTerm Witness u) e r h k = absurd (cc)
  alike_rest s (OnTerm Eta u) e r h k = absurd (cc)
  alike_rest (OnTerm Cut t) s e r h k = absurd (cc)
  alike_rest (OnTerm On t) s e r h k = absurd (cc)
  alike_rest (OnTerm Range t) s e r h k = absurd (cc)
  alike_rest (OnTerm Witness t) s e r h k = absurd (cc)
  alike_rest (OnTerm Eta t) s e r h k = absurd (cc)
  alike_rest (Divide t u) (Divide v w) e r h k = alike_two t u v w h k
  alike_rest (Instantiate l ts) (Instantiate m us) e r h k = alike_instance l m ts us h k
  alike_rest _ _ e r h k = absurd (cc)

pub alike_step : (table other : List (List ℕ)) (text : List ℕ) (s t : Step) → SpellsStep table text s → SpellsStep other text t → AlikeStep table other s t
alike_step table other text s t h k =
    let same : word_of s ≡ word_of t = sym h.1.0 ∙ k.1.0 in
    alike_rest table other (rest_of text) s t ((bytes_eq-Decides (word_of s) (word_of t)).1 same)
    (sym (rule_read table (rest_of text) s h.1.1) ∙ (ap (λ w. rule_step_of w (rest_of text)) same ∙ rule_read other (rest_of text) t k.1.1)) h.1.1 k.1.1

module _ (table : List (List ℕ)) (place : HaveOnePlace (words ++ table)) where
  name_once : (m n : Name) (text : List ℕ) → text_at table m ≡ Some text → text_at table n ≡ Some text → m ≡ n
  name_once m n text h k = ap (λ (i : ℕ). let name : Name = record { 0 = i } in name) (place m.0 n.0 text h k)

  names_once : (xs ys : List Name) (texts : List (List ℕ)) → map (text_at table) xs ≡ map Some texts → map (text_at table) ys ≡ map Some texts → xs ≡ ys
  names_once [] [] texts h k = refl
  names_once [] (y ∷ ys) [] h k = absurd (cc)
  names_once [] (y ∷ ys) (t ∷ ts) h k = absurd (cc)
  names_once (x ∷ xs) [] [] h k = absurd (cc)
  names_once (x ∷ xs) [] (t ∷ ts) h k = absurd (cc)
  names_once (x ∷ xs) (y ∷ ys) [] h k = absurd (cc)
  names_once (x ∷ xs) (y ∷ ys) (t ∷ ts) h k =
      let first : text_at table x ≡ Some t = cc in
      let second : text_at table y ≡ Some t = cc in
      let rest_first : map (text_at table) xs ≡ map Some ts = cc in
      let rest_second : map (text_at table) ys ≡ map Some ts = cc in
      let here : x ≡ y = name_once x y t first second in
      let rest : xs ≡ ys = names_once xs ys ts rest_first rest_second in
      ap (λ z. z ∷ xs) here ∙ ap (λ zs. y ∷ zs) rest

  lists_once : (xs ys : List (List Name)) (lists : List (List (List ℕ))) → map (map (text_at table)) xs ≡ map (map Some) lists → map (map (text_at table)) ys ≡ map (map Some) lists → xs ≡ ys
  lists_once [] [] lists h k = refl
  lists_once [] (y ∷ ys) [] h k = absurd (cc)
  lists_once [] (y ∷ ys) (t ∷ ts) h k = absurd (cc)
  lists_once (x ∷ xs) [] [] h k = absurd (cc)
  lists_once (x ∷ xs) [] (t ∷ ts) h k = absurd (cc)
  lists_once (x ∷ xs) (y ∷ ys) [] h k = absurd (cc)
  lists_once (x ∷ xs) (y ∷ ys) (t ∷ ts) h k =
      let first : map (text_at table) x ≡ map Some t = cc in
      let second : map (text_at table) y ≡ map Some t = cc in
      let rest_first : map (map (text_at table)) xs ≡ map (map Some) ts = cc in
      let rest_second : map (map (text_at table)) ys ≡ map (map Some) ts = cc in
      ap₂ (λ (z : List Name) (zs : List (List Name)). z ∷ zs) (names_once x y t first second) (lists_once xs ys ts rest_first rest_second)

  rest_once : (rest : Option (List ℕ)) (s t : Step) → AlikeStep table table s t → SpellsRest table rest s → SpellsRest table rest t → s ≡ t
  rest_once rest (Intro ms) (Intro ns) e h k = ap Intro (names_once ms ns (words_of rest) h.1 k.1)
  rest_once rest (Hyp l) (Hyp m) e h k = ap Hyp e
  rest_once rest Split Split e h k = refl
  rest_once rest (Lin ms) (Lin ns) e h k = ap Lin e
  rest_once rest (OnGoal a) (OnGoal b) e h k = ap OnGoal e
  rest_once rest (Rewrite a) (Rewrite b) e h k = ap Rewrite e
  rest_once rest (OnHypothesis a l) (OnHypothesis b m) e h k = cc
  rest_once rest (Decide l to) (Decide m goal) e h k = let label : l ≡ m = e.0 in let target : to ≡ goal = e.1 in cc
  rest_once rest (Unpack l x) (Unpack m y) e h k =
      let label : l ≡ m = e.0 in
      let name : x ≡ y = name_once x y h.0 h.2 (sym e.1 ∙ h.2) in
      cc
  rest_once rest (OnTwo a l m) (OnTwo b n o) e h k = cc
  rest_once rest (OnTerm a t) (OnTerm b u) e h k =
      let rule : a ≡ b = e.0 in
      let term : t ≡ u = one_term table place e.1.0 t u e.1.1 e.1.2 in
      cc
  rest_once rest (Divide t u) (Divide v w) e h k =
      let first : t ≡ v = one_term table place e.0.0 t v e.0.1 e.0.2 in
      let second : u ≡ w = one_term table place e.1.0 u w e.1.1 e.1.2 in
      cc
  rest_once rest (Instantiate l ts) (Instantiate m us) e h k =
      let pair : (l, h.0) ≡ (m, k.0) = same_found {A = List (List ℕ)} (l, h.0) (m, k.0) (sym h.1 ∙ k.1) in
      let label : l ≡ m = ap (λ (p : Label2 × List (List ℕ)). p.0) pair in
      let texts : k.0 ≡ h.0 = sym (ap (λ (p : Label2 × List (List ℕ)). p.1) pair) in
      let terms : ts ≡ us = each_once table place h.0 ts us h.2 (subst (λ (xs : List (List ℕ)). Each (SpellsWholeTerm table) xs us) texts k.2) in
      cc
  rest_once rest (ByVariants t ms) (ByVariants u ns) e h k =
      let term : t ≡ u = one_term table place e.0.0 t u e.0.1 e.0.2 in
      let names : ms ≡ ns = lists_once ms ns (lists_of h.0.1) h.3 (sym e.1 ∙ h.3) in
      cc
  rest_once rest (Induct x ms) (Induct y ns) e h k =
      let name : x ≡ y = name_once x y h.0.0 h.2 (sym e.0 ∙ h.2) in
      let names : ms ≡ ns = lists_once ms ns (lists_of h.0.1) h.3 (sym e.1 ∙ h.3) in
      cc
  rest_once rest _ _ e h k = absurd e

  pub step_once : (text : List ℕ) (s t : Step) → SpellsStep table text s → SpellsStep table text t → s ≡ t
  step_once text s t h k = rest_once (rest_of text) s t (alike_step table table text s t h k) h.1.1 k.1.1
