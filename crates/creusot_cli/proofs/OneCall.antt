-- Where the shelf tells its files, a call has one answer.
use Rattle.std.proofs.Common.{◌≡◌, ◌≢◌, ◌∙◌, refl, sym, ap, subst, ℕ, List, length, Option, Some, None, arith}
use Rattle.std.specs.Io.KnownBytes.{Appends}
use Rattle.io_edge.specs.Shelf.{Files}
use Rattle.call_words.specs.Asked.{Asked}
use Rattle.call_words.specs.declared.request.Verb.{Verb}
use Rattle.call_words.specs.declared.request.Verb.TheVariants.{Verify, List as Listing}
use Rattle.verify_core.specs.declared.program.Program.{Program}
use Rattle.verify_core.specs.Prepared.{most_bytes}
use Rattle.verify_core.specs.OnSource.{most_proof_bytes}
use Rattle.creusot_cli.specs.Answer.{Fetched, whole, longer, IsProgramOf, RefusesFetched, DoesVerb, AnswersOn}
use Rattle.creusot_cli.specs.Call.{HeldAs, IsFetched, AreFetched, AreFetchedFor, HasProgram, Answers, AnswersWords}
use Rattle.creusot_cli.proofs.OneAnswer.{Same, answers_are_one}

same_some : {A : Type 0} {a b : A} → Some a ≡ Some b → a ≡ b
same_some e = cc

-- ---- one program

-- of a source that is accepted, in what was fetched
pub is_program_of : (shelf : Option Files) (a : Asked) (source : Fetched) (bytes : List ℕ) (p : Program) → source ≡ whole bytes → HasProgram shelf a bytes p → IsProgramOf source bytes p
is_program_of shelf a source bytes p e has = record { is_whole = e; short = has.short; prepared = has.prepared }

fetched_source : (shelf : Option Files) (a : Asked) (bytes : List ℕ) (p : Program) → HasProgram shelf a bytes p → IsFetched shelf a.source most_bytes (whole bytes)
fetched_source shelf a bytes p has = record { held = has.held; within = has.short }

module _ (files : Files) where
  -- ---- one file of a name

  same_bytes : (name xs ys : List ℕ) → HeldAs (Some files) name (whole xs) → HeldAs (Some files) name (whole ys) → xs ≡ ys
  same_bytes name xs ys h g = same_some (sym h ∙ g)

  not_longer : (name xs : List ℕ) (most n : ℕ) → IsFetched (Some files) name most (whole xs) → IsFetched (Some files) name most (longer n) → ⊥
  not_longer name xs most n h g = omega (arith, h.within, g.within, g.held.2, ap length (same_bytes name g.held.0 xs g.held.1 h.held))

  same_fetched : (name : List ℕ) (most : ℕ) (f g : Fetched) → IsFetched (Some files) name most f → IsFetched (Some files) name most g → f ≡ g
  same_fetched name most (whole xs) (whole ys) h g = ap whole (same_bytes name xs ys h.held g.held)
  same_fetched name most (whole xs) (longer n) h g = absurd (not_longer name xs most n h g)
  same_fetched name most (longer m) (whole ys) h g = absurd (not_longer name ys most m g h)
  same_fetched name most (longer m) (longer n) h g =
      ap longer (sym h.held.2 ∙ ap length (same_bytes name h.held.0 g.held.0 h.held.1 g.held.1) ∙ g.held.2)

  same_files : (o : Option (List ℕ)) (f g : Option Fetched) → AreFetched (Some files) o f → AreFetched (Some files) o g → f ≡ g
  same_files None None None h g = refl
  same_files None None (Some f) h g = absurd g
  same_files None (Some f) _ h g = absurd h
  same_files (Some name) None _ h g = absurd h
  same_files (Some name) (Some f) None h g = absurd g
  same_files (Some name) (Some e) (Some f) h g = ap (λ (x : Fetched). Some x) (same_fetched name most_proof_bytes e f h g)

  same_read : (v : Verb) (o : Option (List ℕ)) (f g : Option Fetched) → AreFetchedFor v (Some files) o f → AreFetchedFor v (Some files) o g → f ≡ g
  same_read Verify o f g h k = same_files o f g h k
  same_read Listing o f g h k = h ∙ sym k

  -- ---- one answer

  module _ (a : Asked) where
    moved : {s : ℕ} {xs : List ℕ} (f g : Fetched) → f ≡ g → RefusesFetched f s xs → RefusesFetched g s xs
    moved {s} {xs} f g e h = subst (λ (x : Fetched). RefusesFetched x s xs) e h

    one_answer : {s t : ℕ} {xs ys : List ℕ} → Answers (Some files) a s xs → Answers (Some files) a t ys → Same s xs t ys
    one_answer {s} {t} {xs} {ys} (Answers.by_source f at h) (Answers.by_source k on g) =
        answers_are_one a.verb k None s t xs ys (AnswersOn.by_source (moved f k (same_fetched a.source most_bytes f k at on) h)) (AnswersOn.by_source g)
    one_answer {s} {t} {xs} {ys} (Answers.by_source f at h) (Answers.by_verb source p proofs has are g) =
        let e : f ≡ whole source = same_fetched a.source most_bytes f (whole source) at (fetched_source (Some files) a source p has) in
        answers_are_one a.verb (whole source) proofs s t xs ys (AnswersOn.by_source (moved f (whole source) e h)) (AnswersOn.by_verb source p (is_program_of (Some files) a (whole source) source p refl has) g)
    one_answer {s} {t} {xs} {ys} (Answers.by_verb source p proofs has are h) (Answers.by_source k on g) =
        let e : k ≡ whole source = same_fetched a.source most_bytes k (whole source) on (fetched_source (Some files) a source p has) in
        answers_are_one a.verb (whole source) proofs s t xs ys (AnswersOn.by_verb source p (is_program_of (Some files) a (whole source) source p refl has) h) (AnswersOn.by_source (moved k (whole source) e g))
    one_answer {s} {t} {xs} {ys} (Answers.by_verb source p proofs has are h) (Answers.by_verb other q others had had_read g) =
        let e : whole other ≡ whole source = ap whole (same_bytes a.source other source had.held has.held) in
        let o : proofs ≡ others = same_read a.verb a.proofs proofs others are had_read in
        answers_are_one a.verb (whole source) others s t xs ys
        (AnswersOn.by_verb source p (is_program_of (Some files) a (whole source) source p refl has) (subst (λ (x : Option Fetched). DoesVerb a.verb source p x s xs) o h))
        (AnswersOn.by_verb other q (is_program_of (Some files) a (whole source) other q (sym e) had) g)

-- where the words may ask for nothing
one_answer_to_words : (files : Files) (a : Option Asked) (s t : ℕ) (xs ys : List ℕ) → AnswersWords (Some files) a s xs → AnswersWords (Some files) a t ys → Same s xs t ys
one_answer_to_words files None s t xs ys h g = (h.0 ∙ sym g.0, h.1 ∙ sym g.1)
one_answer_to_words files (Some a) s t xs ys h g = one_answer files a h g

-- what is printed by one row is what is printed by each
pub exactly : (shelf : Option Files) (a : Option Asked) (planned result : ℕ) (told : List ℕ) (before after : Option (List ℕ)) → AnswersWords shelf a planned told → (result ≢ 6 → result ≢ 8 → (result ≡ planned) × Appends before after told)
    → (files : Files) → shelf ≡ Some files → (status : ℕ) (bytes : List ℕ) → AnswersWords (Some files) a status bytes → result ≢ 5 → result ≢ 6 → result ≢ 8 → (result ≡ status) × Appends before after bytes
exactly shelf a planned result told before after answers printed files is status bytes row no_shelf no_sink no_memory =
    let p = printed no_sink no_memory in
    let same = one_answer_to_words files a planned status told bytes (subst (λ (x : Option Files). AnswersWords x a planned told) is answers) row in
    (p.0 ∙ same.0, subst (λ (xs : List ℕ). Appends before after xs) same.1 p.1)
