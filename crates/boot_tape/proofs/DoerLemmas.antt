-- Who does each move of a script, one note after another.
use Rattle.std.proofs.Common.{◌≡◌, ℕ, ◌+◌, ◌-◌, ◌<◌, suc, List, [], ◌∷◌, ◌++◌, length, drop, get_or, replicate, sym, ap, ◌∙◌, arith, append_assoc, append-nil}
use Rattle.std.proofs.lemmas.List.{drop_more}
use Rattle.boot_tape.specs.declared.notes.Doer.{Doer}
use Rattle.boot_tape.specs.declared.notes.Doer.TheVariants.{Host}
use Rattle.boot_tape.specs.declared.notes.Note.{Note}
use Rattle.boot_tape.specs.Doers.{doers, doers_behind, note_doers}

-- one move more
pub add-more : (all items new : List Doer) (doer : Doer) (count k : ℕ) → k < count → new ≡ items ++ doer ∷ []
    → items ++ replicate (count - k) doer ≡ all → new ++ replicate (count - (k + 1)) doer ≡ all
add-more all items new doer count k lt more rest =
    let n = count - (k + 1) in
    let left : count - k ≡ suc n = omega (arith, lt) in
    ap (λ ds. ds ++ replicate n doer) more
    ∙ (append_assoc items (doer ∷ []) (replicate n doer)
    ∙ (ap (λ j. items ++ replicate j doer) (sym left) ∙ rest))

-- the last one
pub add-end : (all items : List Doer) (doer : Doer) (n : ℕ) → n ≡ 0 → items ++ replicate n doer ≡ all → items ≡ all
add-end all items doer n none rest =
    sym (append-nil items) ∙ (ap (λ j. items ++ replicate j doer) (sym none) ∙ rest)

-- the moves of a note
pub add-both : (old mid new : List Doer) (note : Note) (n : ℕ) → mid ≡ old ++ replicate note.own Host
    → n ≡ note.moves - note.own → new ≡ mid ++ doers_behind note.behind n → new ≡ old ++ note_doers note
add-both old mid new note n own others all =
    all
    ∙ (ap (λ ds. ds ++ doers_behind note.behind n) own
    ∙ (ap (λ j. (old ++ replicate note.own Host) ++ doers_behind note.behind j) others
    ∙ append_assoc old (replicate note.own Host) (doers_behind note.behind (note.moves - note.own))))

-- one note more
pub doers-more : (all found new : List Doer) (i : ℕ) (note : Note) (notes : List Note) → i < length notes
    → note ≡ get_or notes i note → new ≡ found ++ note_doers note → found ++ doers (drop i notes) ≡ all
    → new ++ doers (drop (i + 1) notes) ≡ all
doers-more all found new i note notes lt is more rest =
    ap (λ ds. ds ++ doers (drop (i + 1) notes)) more
    ∙ (append_assoc found (note_doers note) (doers (drop (i + 1) notes))
    ∙ (ap (λ x. found ++ (note_doers x ++ doers (drop (i + 1) notes))) is
    ∙ (ap (λ ns. found ++ doers ns) (sym (drop_more notes i note lt)) ∙ rest)))

pub doers-end : (all found : List Doer) (notes : List Note) → notes ≡ [] → found ++ doers notes ≡ all → found ≡ all
doers-end all found notes none rest = sym (append-nil found) ∙ (ap (λ ns. found ++ doers ns) (sym none) ∙ rest)
