-- A parse of words that begin with no hyphen.
use Rattle.std.proofs.Common.{◌≡◌, ◌∙◌, ap, refl, false, None, ℕ, List, [], ◌∷◌}
use Rattle.std.specs.Str.{bytes_eq}
use Rattle.clap.specs.Lexer.{strip_byte}
use Rattle.clap.specs.Words.{App, Rule, Shape, Text}
use Rattle.clap.specs.Kinds.{or_else}
use Rattle.clap.specs.Walk.{Held, Waiting, Walk, after_step, finished, idle, nothing_held, option, plain_word, positional, settled, walk, walk_from, walked, word_met}
use Rattle.clap.specs.Simple.{names_of}
use Rattle.clap.specs.Faults.{built_fault, check_fault, defaults_fault, settle_fault, step_fault, turn_fault, walk_fault, word_fault}
use Rattle.call_words.specs.Laws.{begins_with_hyphen}

-- where a walk stands that no `--` and no subcommand has changed
abbrev pub standing : Held → Waiting → ℕ → Walk
standing h waiting n = record { held = h; waiting = waiting; position = n; is_trailing = false; stopped = None }

no_hyphen : (word : Text) → begins_with_hyphen word ≡ false → strip_byte 45 word ≡ None
no_hyphen [] h = refl
no_hyphen (x ∷ xs) h = rw h refl

no_dashes : (word : Text) → begins_with_hyphen word ≡ false → bytes_eq word (45 ∷ 45 ∷ []) ≡ false
no_dashes [] h = refl
no_dashes (x ∷ xs) h = rw h refl

plain_met : (c : List Rule) (waiting : Waiting) (n : ℕ) (word : Text) (h : Held) → begins_with_hyphen word ≡ false
    → word_met c [] false waiting n word h ≡ plain_word c waiting word h
plain_met c idle n word h front = rw (no_dashes word front, no_hyphen word front, no_hyphen word front) refl
plain_met c (option id) n word h front = rw (no_dashes word front, no_hyphen word front, no_hyphen word front) refl
plain_met c positional n word h front = rw (no_dashes word front, no_hyphen word front, no_hyphen word front) refl

plain_faultless : (s : Shape) (waiting : Waiting) (word : Text) (h : Held) → begins_with_hyphen word ≡ false
    → word_fault s [] false waiting word h ≡ []
plain_faultless s idle word h front = rw (no_dashes word front, no_hyphen word front, no_hyphen word front) refl
plain_faultless s (option id) word h front = rw (no_dashes word front, no_hyphen word front, no_hyphen word front) refl
plain_faultless s positional word h front = rw (no_dashes word front, no_hyphen word front, no_hyphen word front) refl

-- such a word is a value of what waits
pub walked-plain : (c : List Rule) (h : Held) (waiting : Waiting) (n : ℕ) (word : Text) → begins_with_hyphen word ≡ false
    → walked c [] (standing h waiting n) word
    ≡ after_step c word (standing h waiting n) (plain_word c waiting word h).0 (plain_word c waiting word h).1
unfolding walked
walked-plain c h waiting n word front = ap (λ met. after_step c word (standing h waiting n) met.0 met.1) (plain_met c waiting n word h front)

pub turn_fault-plain : (s : Shape) (h : Held) (waiting : Waiting) (n : ℕ) (word : Text) → begins_with_hyphen word ≡ false
    → turn_fault s [] (standing h waiting n) word
    ≡ step_fault s n (plain_word s.rules waiting word h).0 (plain_word s.rules waiting word h).1
turn_fault-plain s h waiting n word front =
    ap (λ kinds. or_else kinds (step_fault s n (word_met s.rules [] false waiting n word h).0 (word_met s.rules [] false waiting n word h).1))
    (plain_faultless s waiting word h front)
    ∙ ap (λ met. step_fault s n met.0 met.1) (plain_met s.rules waiting n word h front)

-- one word more with no fault
pub faults_more : (s : Shape) (w after : Walk) (word : Text) (rest : List Text) → turn_fault s [] w word ≡ []
    → walked s.rules [] w word ≡ after → walk_fault s [] after rest ≡ [] → walk_fault s [] w (word ∷ rest) ≡ []
unfolding walk_fault
faults_more s w after word rest none step more =
    ap (λ kinds. or_else kinds (walk_fault s [] (walked s.rules [] w word) rest)) none
    ∙ (ap (λ next. walk_fault s [] next rest) step ∙ more)

pub faults_end : (s : Shape) (w : Walk) → walk_fault s [] w [] ≡ []
unfolding walk_fault
faults_end s w = refl

-- the kinds that are left where the walk has none
pub fault_at_end : (a : App) (words : List Text) (h : Held) (waiting : Waiting) (n : ℕ) → names_of a ≡ []
    → walk a.top.rules [] nothing_held words ≡ standing h waiting n → walk_fault a.top [] (walk_from nothing_held) words ≡ []
    → built_fault a nothing_held words ≡ or_else (settle_fault a.top.rules a.top.args_override_self h)
    (or_else (defaults_fault (settled a.top.rules h).rows a.top.rules) (check_fault a.top (finished a.top.rules h) false))
fault_at_end a words h waiting n names end none = rw (names, end, none) refl
