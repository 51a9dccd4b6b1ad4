-- What two plain words, and four with `--proofs`, are found to hold.
use Rattle.std.proofs.Common.{◌≡◌, ◌∙◌, ap, refl, sym, true, false, Some, None, List, [], ◌∷◌, codes}
use Rattle.std.specs.Prelude.{option_and_then}
use Rattle.std.specs.List.{list_all}
use Rattle.clap.specs.Words.{Rule, Shape, Text, built, fault_of, matches_of}
use Rattle.clap.specs.Walk.{Held, Walk, finished, idle, nothing_held, option, pushed, settled, walk, walk_from, walked}
use Rattle.clap.specs.Faults.{defaults_fault, turn_fault, walk_fault}
use Rattle.call_words.specs.Asked.{asked_in, asked_of, asked_with, is_given, is_word, verb_of}
use Rattle.call_words.specs.Grammar.{command}
use Rattle.call_words.specs.Laws.{IsPlain, begins_with_hyphen}
use Rattle.call_words.proofs.AskedLemmas.{asked_of-taken}
use Rattle.call_words.proofs.PlainWords.{fault_at_end, faults_end, faults_more, standing, turn_fault-plain, walked-plain}

abbrev top : Shape
top = (built command).top

abbrev rules : List Rule
rules = top.rules

-- what is held after a verb, a source, `--proofs` and its value
abbrev with_verb : Text → Held
with_verb v = pushed (codes "verb") v nothing_held

abbrev with_source : Text → Text → Held
with_source v s = pushed (codes "source") s (settled rules (with_verb v))

abbrev with_option : Text → Text → Held
with_option v s = record (settled rules (with_source v s)) { pending = Some (codes "proofs", []) }

abbrev with_value : Text → Text → Text → Held
with_value v s p = pushed (codes "proofs") p (with_option v s)

abbrev start : Walk
start = walk_from nothing_held

abbrev after_verb : Text → Walk
after_verb v = standing (with_verb v) idle 2

abbrev after_source : Text → Text → Walk
after_source v s = standing (with_source v s) idle 3

abbrev after_option : Text → Text → Walk
after_option v s = standing (with_option v s) (option (codes "proofs")) 3

abbrev after_value : Text → Text → Text → Walk
after_value v s p = standing (with_value v s p) idle 3

verb_walked : (v : Text) → begins_with_hyphen v ≡ false → walked rules [] start v ≡ after_verb v
unfolding command
verb_walked v front = walked-plain rules nothing_held idle 1 v front

verb_faultless : (v : Text) → begins_with_hyphen v ≡ false → turn_fault top [] start v ≡ []
unfolding command
verb_faultless v front = turn_fault-plain top nothing_held idle 1 v front

source_walked : (v s : Text) → begins_with_hyphen s ≡ false → walked rules [] (after_verb v) s ≡ after_source v s
unfolding command
source_walked v s front = walked-plain rules (with_verb v) idle 2 s front

source_faultless : (v s : Text) → begins_with_hyphen s ≡ false → turn_fault top [] (after_verb v) s ≡ []
unfolding command
source_faultless v s front = turn_fault-plain top (with_verb v) idle 2 s front

option_walked : (v s : Text) → walked rules [] (after_source v s) (codes "--proofs") ≡ after_option v s
unfolding command walked
option_walked v s = refl

option_faultless : (v s : Text) → turn_fault top [] (after_source v s) (codes "--proofs") ≡ []
unfolding command
option_faultless v s = refl

value_walked : (v s p : Text) → begins_with_hyphen p ≡ false → walked rules [] (after_option v s) p ≡ after_value v s p
unfolding command
value_walked v s p front = walked-plain rules (with_option v s) (option (codes "proofs")) 3 p front

value_faultless : (v s p : Text) → begins_with_hyphen p ≡ false → turn_fault top [] (after_option v s) p ≡ []
unfolding command
value_faultless v s p front = turn_fault-plain top (with_option v s) (option (codes "proofs")) 3 p front

-- two words
two_walked : (v s : Text) → begins_with_hyphen v ≡ false → begins_with_hyphen s ≡ false → walk rules [] nothing_held (v ∷ s ∷ []) ≡ after_source v s
two_walked v s fv fs = ap (λ w. walked rules [] w s) (verb_walked v fv) ∙ source_walked v s fs

two_faultless : (v s : Text) → begins_with_hyphen v ≡ false → begins_with_hyphen s ≡ false → walk_fault top [] start (v ∷ s ∷ []) ≡ []
two_faultless v s fv fs = faults_more top start (after_verb v) v (s ∷ []) (verb_faultless v fv) (verb_walked v fv)
    (faults_more top (after_verb v) (after_source v s) s [] (source_faultless v s fs) (source_walked v s fs)
    (faults_end top (after_source v s)))

two_clean : (v s : Text) → begins_with_hyphen v ≡ false → begins_with_hyphen s ≡ false → fault_of command (v ∷ s ∷ []) ≡ []
unfolding command defaults_fault
two_clean v s fv fs = fault_at_end (built command) (v ∷ s ∷ []) (with_source v s) idle 3 refl (two_walked v s fv fs) (two_faultless v s fv fs)

two_found : (v s : Text) → begins_with_hyphen v ≡ false → begins_with_hyphen s ≡ false
    → finished rules (with_source v s) ≡ matches_of command (v ∷ s ∷ [])
unfolding command
two_found v s fv fs = ap (λ (w : Walk). finished rules w.held) (sym (two_walked v s fv fs))

two_asked : (v s : Text) → asked_in (finished rules (with_source v s)) ≡ option_and_then (λ x. asked_with x s None) (verb_of v)
unfolding command asked_in is_given
two_asked v s = refl

all_short : (v s : Text) → is_word v ≡ true → is_word s ≡ true → list_all is_word (v ∷ s ∷ []) ≡ true
all_short v s hv hs = rw (hv, hs) refl

pub asked_of-two : (v s : Text) → IsPlain v → IsPlain s → asked_of (v ∷ s ∷ []) ≡ option_and_then (λ x. asked_with x s None) (verb_of v)
asked_of-two v s hv hs =
    sym (asked_of-taken (v ∷ s ∷ []) (all_short v s hv.short hs.short) (two_clean v s hv.front hs.front) (finished rules (with_source v s))
    (two_found v s hv.front hs.front)) ∙ two_asked v s

-- two words, and the proofs
abbrev four : Text → Text → Text → List Text
four v s p = v ∷ s ∷ codes "--proofs" ∷ p ∷ []

four_walked : (v s p : Text) → begins_with_hyphen v ≡ false → begins_with_hyphen s ≡ false → begins_with_hyphen p ≡ false
    → walk rules [] nothing_held (four v s p) ≡ after_value v s p
four_walked v s p fv fs fp = ap (λ w. walked rules [] (walked rules [] w (codes "--proofs")) p) (two_walked v s fv fs)
    ∙ (ap (λ w. walked rules [] w p) (option_walked v s) ∙ value_walked v s p fp)

four_faultless : (v s p : Text) → begins_with_hyphen v ≡ false → begins_with_hyphen s ≡ false → begins_with_hyphen p ≡ false
    → walk_fault top [] start (four v s p) ≡ []
four_faultless v s p fv fs fp =
    faults_more top start (after_verb v) v (s ∷ codes "--proofs" ∷ p ∷ []) (verb_faultless v fv) (verb_walked v fv)
    (faults_more top (after_verb v) (after_source v s) s (codes "--proofs" ∷ p ∷ []) (source_faultless v s fs) (source_walked v s fs)
    (faults_more top (after_source v s) (after_option v s) (codes "--proofs") (p ∷ []) (option_faultless v s) (option_walked v s)
    (faults_more top (after_option v s) (after_value v s p) p [] (value_faultless v s p fp) (value_walked v s p fp)
    (faults_end top (after_value v s p)))))

four_clean : (v s p : Text) → begins_with_hyphen v ≡ false → begins_with_hyphen s ≡ false → begins_with_hyphen p ≡ false → fault_of command (four v s p) ≡ []
unfolding command defaults_fault
four_clean v s p fv fs fp =
    fault_at_end (built command) (four v s p) (with_value v s p) idle 3 refl (four_walked v s p fv fs fp) (four_faultless v s p fv fs fp)

four_found : (v s p : Text) → begins_with_hyphen v ≡ false → begins_with_hyphen s ≡ false → begins_with_hyphen p ≡ false
    → finished rules (with_value v s p) ≡ matches_of command (four v s p)
unfolding command
four_found v s p fv fs fp = ap (λ (w : Walk). finished rules w.held) (sym (four_walked v s p fv fs fp))

four_asked : (v s p : Text) → asked_in (finished rules (with_value v s p)) ≡ option_and_then (λ x. asked_with x s (Some p)) (verb_of v)
unfolding command asked_in is_given
four_asked v s p = refl

four_short : (v s p : Text) → is_word v ≡ true → is_word s ≡ true → is_word p ≡ true → list_all is_word (four v s p) ≡ true
four_short v s p hv hs hp = rw (hv, hs, hp) refl

pub asked_of-four : (v s p : Text) → IsPlain v → IsPlain s → IsPlain p
    → asked_of (four v s p) ≡ option_and_then (λ x. asked_with x s (Some p)) (verb_of v)
asked_of-four v s p hv hs hp =
    sym (asked_of-taken (four v s p) (four_short v s p hv.short hs.short hp.short) (four_clean v s p hv.front hs.front hp.front)
    (finished rules (with_value v s p)) (four_found v s p hv.front hs.front hp.front)) ∙ four_asked v s p
