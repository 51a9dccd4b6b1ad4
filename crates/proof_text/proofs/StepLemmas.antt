-- Steps word by word.
use Rattle.std.proofs.Common.{◌≡◌, ℕ, ◌+◌, ◌<◌, List, [], ◌∷◌, ◌++◌, length, map, take, drop, get_or, Option, None, Some, refl, sym, ◌∙◌, ap, append_assoc, add-one, drop-cons, Bor, suc}
use Rattle.std.proofs.lemmas.List.{take_more, map-append}
use Rattle.text_core.specs.Names.{text_of}
use Rattle.text_core.specs.declared.name.Name.{Name}
use Rattle.proof_kernel.specs.declared.step.Multiple.{Multiple}
use Rattle.proof_text.specs.ProofTextWords.{◌>>=◌, multiple_of}
use Rattle.text_core.proofs.NamesLemmas.{text_of-Some}
use Rattle.proof_text.specs.ProofTextLines.{text_at, multiples_of}
use Rattle.proof_text.specs.ProofTextReads.{KeepsNames}
use Rattle.proof_text.proofs.StageLemmas.{now}

pub kept_map : (old new : List (List ℕ)) → KeepsNames old new → (names : List Name) (texts : List (List ℕ)) → map (text_of old) names ≡ map Some texts → map (text_of new) names ≡ map Some texts
kept_map old new k [] [] h = refl
kept_map old new k [] (t ∷ ts) h = cc
kept_map old new k (n ∷ ns) [] h = cc
kept_map old new k (n ∷ ns) (t ∷ ts) h =
    let first : text_of new n ≡ Some t = k n t (cc) in
    let others : map (text_of new) ns ≡ map Some ts = kept_map old new k ns ts (cc) in
    cc

-- names that stand for texts are at their places
pub one_at : (table : List (List ℕ)) (name : Name) (text : List ℕ) → text_of table name ≡ Some text → text_at table name ≡ Some text
one_at table name text h = (text_of-Some table name text h).1

pub all_at : (table : List (List ℕ)) (names : List Name) (texts : List (List ℕ)) → map (text_of table) names ≡ map Some texts → map (text_at table) names ≡ map Some texts
all_at table [] [] h = refl
all_at table [] (t ∷ ts) h = cc
all_at table (n ∷ ns) [] h = cc
all_at table (n ∷ ns) (t ∷ ts) h =
    let here : text_of table n ≡ Some t = cc in
    let others : map (text_at table) ns ≡ map Some ts = all_at table ns ts (cc) in
    ap (λ o. o ∷ map (text_at table) ns) (one_at table n t here) ∙ ap (λ os. Some t ∷ os) others

-- one more name
pub one_more : (old new : List (List ℕ)) (names : List Name) (texts : List (Bor (List ℕ))) (i : ℕ) (d : Bor (List ℕ)) (name : Name) → i < length texts → KeepsNames old new → map (text_of old) names ≡ map Some (map now (take i texts)) →
    text_of new name ≡ Some (now (get_or texts i d)) → map (text_of new) (names ++ name ∷ []) ≡ map Some (map now (take (i + 1) texts))
one_more old new names texts i d name h k e r =
    map-append (text_of new) names (name ∷ [])
    ∙ ap (λ xs. xs ++ text_of new name ∷ []) (kept_map old new k names (map now (take i texts)) e)
    ∙ ap (λ x. map Some (map now (take i texts)) ++ x ∷ []) r
    ∙ sym (map-append Some (map now (take i texts)) (now (get_or texts i d) ∷ []))
    ∙ ap (map Some) (sym (map-append now (take i texts) (get_or texts i d ∷ [])))
    ∙ ap (λ ts. map Some (map now ts)) (sym (take_more texts i d h))

abbrev pub with_front : {A : Type 0} → List A → Option (List A) → Option (List A)
with_front front None = None
with_front front (Some xs) = Some (front ++ xs)

pub front_of_none : {A : Type 0} (o : Option (List A)) → with_front [] o ≡ o
front_of_none None = refl
front_of_none (Some xs) = refl

next_one : {A : Type 0} (front : List A) (x : A) (o : Option (List A)) → with_front front (o >>= (λ xs. Some (x ∷ xs))) ≡ with_front (front ++ x ∷ []) o
next_one front x None = refl
next_one front x (Some xs) = ap Some (sym (append_assoc front (x ∷ []) xs))

pub multiples_go_on : (front : List Multiple) (words : List (Bor (List ℕ))) (i : ℕ) (d : Bor (List ℕ)) (m : Multiple) → i < length words → multiple_of (now (get_or words i d)) ≡ Some m →
    with_front front (multiples_of (map now (drop i words))) ≡ with_front (front ++ m ∷ []) (multiples_of (map now (drop (i + 1) words)))
multiples_go_on front words i d m h e =
    ap (λ ws. with_front front (multiples_of (map now ws))) (drop-cons words i d h)
    ∙ rw e (next_one front m (multiples_of (map now (drop (suc i) words))))
    ∙ ap (λ j. with_front (front ++ m ∷ []) (multiples_of (map now (drop j words)))) (sym (add-one i))

pub multiples_stop : (front : List Multiple) (words : List (Bor (List ℕ))) (i : ℕ) (d : Bor (List ℕ)) → i < length words → multiple_of (now (get_or words i d)) ≡ None → with_front front (multiples_of (map now (drop i words))) ≡ None
multiples_stop front words i d h e = ap (λ ws. with_front front (multiples_of (map now ws))) (drop-cons words i d h) ∙ rw e refl
