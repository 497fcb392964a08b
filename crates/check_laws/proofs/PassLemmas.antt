-- The moves of a script, done one after another on a board, and the steps of a host among them: they lie
-- in the flash, and are no more than the script completes.
use Rattle.std.proofs.Common.{◌≡◌, Bool, ℕ, ◌+◌, ◌<◌, zero, suc, List, [], ◌∷◌, ◌++◌, length, take, drop, get_or, refl, sym, ap, ◌∙◌, subst, append_assoc, append-nil, ◌≤◌, arith, length-append}
use Rattle.std.specs.Prelude.{◌||◌}
use Rattle.std.specs.List.{list_any, AllByRecursion}
use Rattle.std.proofs.lemmas.List.{drop_more, take-append-drop}
use Rattle.pico_board.specs.declared.Step.{Step}
use Rattle.pico_board.specs.declared.boot.Cpu.{Cpu}
use Rattle.pico_board.specs.Content.{Content}
use Rattle.pico_board.specs.Cuts.{cut_by, cut_with}
use Rattle.pico_board.specs.Steps.{IsStepIn, after, after_all}
use Rattle.boot_script.specs.Events.{EventView}
use Rattle.boot_session.specs.Recordings.{step_limit}
use Rattle.boot_session.proofs.PlanStepLemmas.{all-append}
use Rattle.boot_sweep.specs.declared.moves.Move.{Move}
use Rattle.boot_tape.specs.declared.notes.Note.{Note}
use Rattle.boot_tape.specs.Moving.{AreMovesIn, Done, IsMoveIn, MoveView, Torn, after_moves, does_step, done_steps, move_from, moves_from, traced_by}
use Rattle.boot_tape.specs.declared.trace.Trace.{Trace}
use Rattle.boot_tape.specs.Playing.{IsTraceOf, flash_long}
use Rattle.boot_tape.specs.Traces.{Traced}
use Rattle.boot_tape.proofs.TraceLemmas.{after-append}
use Rattle.check_laws.specs.declared.made.WriteLaws.{WriteLaws}
use Rattle.check_laws.specs.Hosting.{host_done, host_writes}
use Rattle.check_laws.specs.Made.{laws_over, laws_with, made_by, made_of}

-- the first moves lie in the flash
pub front-in : (n k : ℕ) (ms : List Move) → AreMovesIn n ms → AreMovesIn n (take k ms)
front-in n zero ms all = tt
front-in n (suc k) [] all = tt
front-in n (suc k) (m ∷ ms) all = (all.0, front-in n k ms all.1)

-- they are the first moves as plain data
pub front-from : (k : ℕ) (ms : List Move) → moves_from (take k ms) ≡ take k (moves_from ms)
front-from zero ms = refl
front-from (suc k) [] = refl
front-from (suc k) (m ∷ ms) = ap (λ xs. move_from m ∷ xs) (front-from k ms)

pub rest-from : (k : ℕ) (ms : List Move) → moves_from (drop k ms) ≡ drop k (moves_from ms)
rest-from zero ms = refl
rest-from (suc k) [] = refl
rest-from (suc k) (m ∷ ms) = rest-from k ms

-- the steps that complete, of two lists of moves
pub done-append : (xs ys : List MoveView) → done_steps (xs ++ ys) ≡ done_steps xs ++ done_steps ys
done-append [] ys = refl
done-append (Done step ∷ xs) ys = ap (λ zs. step ∷ zs) (done-append xs ys)
done-append (Torn step within pattern ∷ xs) ys = done-append xs ys

-- one more was told
pub told-more : (all found new : List Step) (i : ℕ) (ms : List Move) (m : Move) → i < length ms
    → new ≡ found ++ done_steps (move_from (get_or ms i m) ∷ []) → found ++ done_steps (moves_from (drop i ms)) ≡ all
    → new ++ done_steps (moves_from (drop (i + 1) ms)) ≡ all
told-more all found new i ms m lt more rest =
    let later = moves_from (drop (i + 1) ms) in
    let one = move_from (get_or ms i m) ∷ [] in
    ap (λ xs. xs ++ done_steps later) more
    ∙ (append_assoc found (done_steps one) (done_steps later)
    ∙ (ap (λ xs. found ++ xs) (sym (done-append one later))
    ∙ (ap (λ xs. found ++ done_steps (moves_from xs)) (sym (drop_more ms i m lt)) ∙ rest)))

pub none-left : (all found left : List Step) → left ≡ [] → found ++ left ≡ all → found ≡ all
none-left all found left none rest = sym (append-nil found) ∙ (ap (λ xs. found ++ xs) (sym none) ∙ rest)

-- the own moves and those behind them are all
pub both-moved : (c d e : Content) (k : ℕ) (ms : List Move) → d ≡ after_moves c (moves_from (take k ms))
    → e ≡ after_moves d (moves_from (drop k ms)) → e ≡ after_moves c (moves_from ms)
both-moved c d e k ms one two =
    two
    ∙ (ap (λ x. after_moves x (moves_from (drop k ms))) one
    ∙ (ap (after_moves (after_moves c (moves_from (take k ms)))) (rest-from k ms)
    ∙ (ap (λ xs. after_moves (after_moves c xs) (drop k (moves_from ms))) (front-from k ms)
    ∙ (sym (after-append c (take k (moves_from ms)) (drop k (moves_from ms)))
    ∙ ap (after_moves c) (take-append-drop k (moves_from ms))))))

-- what was judged of an event is what its note and its moves tell
pub judged-as : (cpu : Cpu) (laws found : WriteLaws) (c d : Content) (note : Note) (ms : List Move) (done : List Step)
    → d ≡ after_moves c (moves_from (take note.own ms)) → done ≡ done_steps (moves_from (drop note.own ms))
    → found ≡ laws_with cpu laws (record { before = d; by = note.behind; done = done })
    → found ≡ laws_with cpu laws (made_of c note (moves_from ms))
judged-as cpu laws found c d note ms done own behind is =
    is
    ∙ (ap (λ x. laws_with cpu laws (record { before = x; by = note.behind; done = done }))
    (own ∙ ap (after_moves c) (front-from note.own ms))
    ∙ ap (λ xs. laws_with cpu laws (record {
      before = after_moves c (take note.own (moves_from ms));
      by = note.behind;
      done = xs;
    })) (behind ∙ ap done_steps (rest-from note.own ms)))

-- one event more
pub laws-more : (cpu : Cpu) (laws found all : WriteLaws) (c d : Content) (i : ℕ) (notes : List Note) (note : Note)
    (ms mine others : List Move) → i < length notes → note ≡ get_or notes i note → mine ≡ take note.moves ms
    → others ≡ drop note.moves ms → d ≡ after_moves c (moves_from mine)
    → found ≡ laws_with cpu laws (made_of c note (moves_from mine))
    → laws_over cpu laws (made_by c (drop i notes) (moves_from ms)) ≡ all
    → laws_over cpu found (made_by d (drop (i + 1) notes) (moves_from others)) ≡ all
laws-more cpu laws found all c d i notes note ms mine others lt at mine_is others_is moved judged rest =
    let first : moves_from mine ≡ take note.moves (moves_from ms) = ap moves_from mine_is ∙ front-from note.moves ms in
    let later : moves_from others ≡ drop note.moves (moves_from ms) = ap moves_from others_is ∙ rest-from note.moves ms in
    ap (λ x. laws_over cpu x (made_by d (drop (i + 1) notes) (moves_from others)))
    (judged ∙ ap (λ xs. laws_with cpu laws (made_of c note xs)) first)
    ∙ (ap (λ x. laws_over cpu (laws_with cpu laws (made_of c note (take note.moves (moves_from ms))))
    (made_by x (drop (i + 1) notes) (moves_from others))) (moved ∙ ap (after_moves c) first)
    ∙ (ap (λ xs. laws_over cpu (laws_with cpu laws (made_of c note (take note.moves (moves_from ms))))
    (made_by (after_moves c (take note.moves (moves_from ms))) (drop (i + 1) notes) xs)) later
    ∙ (ap (λ ns. laws_over cpu laws (made_by c ns (moves_from ms)))
    (ap (λ x. x ∷ drop (i + 1) notes) at ∙ sym (drop_more notes i note lt)) ∙ rest)))

pub laws-end : (cpu : Cpu) (found all : WriteLaws) (c : Content) (notes : List Note) (ms : List MoveView) → notes ≡ []
    → laws_over cpu found (made_by c notes ms) ≡ all → found ≡ all
laws-end cpu found all c notes ms none rest =
    ap (λ ns. laws_over cpu found (made_by c ns ms)) (sym none) ∙ rest

-- what is told of one event more of a host's moves
pub host-more : (notes : List Note) (i : ℕ) (note : Note) (left front own rest : List Move) → i < length notes
    → note ≡ get_or notes i note → front ≡ take note.moves left → own ≡ take note.own front
    → rest ≡ drop note.moves left → (b : Bool) → b ≡ list_any does_step (moves_from own)
    → host_writes (drop i notes) (moves_from left)
    ≡ (b || host_writes (drop (i + 1) notes) (moves_from rest))
host-more notes i note left front own rest lt at f o r b is =
    let later = host_writes (drop (i + 1) notes) (drop note.moves (moves_from left)) in
    ap (λ ns. host_writes ns (moves_from left)) (drop_more notes i note lt ∙ ap (λ n. n ∷ drop (i + 1) notes) (sym at))
    ∙ (ap (λ xs. list_any does_step (take note.own xs) || later) (sym (front-from note.moves left))
    ∙ (ap (λ xs. list_any does_step xs || later) (sym (front-from note.own (take note.moves left)))
    ∙ (ap (λ xs. list_any does_step (moves_from xs) || later) (ap (take note.own) (sym f) ∙ sym o)
    ∙ (ap (λ x. x || later) (sym is)
    ∙ ap (λ xs. b || host_writes (drop (i + 1) notes) xs) (sym (rest-from note.moves left) ∙ ap moves_from (sym r))))))

-- one event more of the steps of a host's own
pub hosted-more : (all found new : List Step) (notes : List Note) (i : ℕ) (note : Note) (left front own rest : List Move)
    → i < length notes → note ≡ get_or notes i note → front ≡ take note.moves left → own ≡ take note.own front
    → rest ≡ drop note.moves left → new ≡ found ++ done_steps (moves_from own)
    → found ++ host_done (drop i notes) (moves_from left) ≡ all
    → new ++ host_done (drop (i + 1) notes) (moves_from rest) ≡ all
hosted-more all found new notes i note left front own rest lt at f o r more is =
    let others = drop (i + 1) notes in
    let later = host_done others (moves_from rest) in
    let here : host_done (drop i notes) (moves_from left) ≡ done_steps (moves_from own) ++ later =
    ap (λ ns. host_done ns (moves_from left)) (drop_more notes i note lt ∙ ap (λ n. n ∷ others) (sym at))
    ∙ (ap (λ xs. done_steps (take note.own xs) ++ host_done others (drop note.moves (moves_from left)))
    (sym (front-from note.moves left) ∙ ap moves_from (sym f))
    ∙ (ap (λ xs. done_steps xs ++ host_done others (drop note.moves (moves_from left)))
    (sym (front-from note.own front) ∙ ap moves_from (sym o))
    ∙ ap (λ xs. done_steps (moves_from own) ++ host_done others xs)
    (sym (rest-from note.moves left) ∙ ap moves_from (sym r)))) in
    ap (λ xs. xs ++ later) more
    ∙ (append_assoc found (done_steps (moves_from own)) later ∙ (ap (λ xs. found ++ xs) (sym here) ∙ is))

take-all : {A : Type 0} (P : A → Type 0) (k : ℕ) (xs : List A) → AllByRecursion P xs → AllByRecursion P (take k xs)
take-all P zero xs all = tt
take-all P (suc k) [] all = tt
take-all P (suc k) (x ∷ xs) all = (all.0, take-all P k xs all.1)

drop-all : {A : Type 0} (P : A → Type 0) (k : ℕ) (xs : List A) → AllByRecursion P xs → AllByRecursion P (drop k xs)
drop-all P zero xs all = all
drop-all P (suc k) [] all = tt
drop-all P (suc k) (x ∷ xs) all = drop-all P k xs all.1

done-in : (n : ℕ) (moves : List MoveView) → AllByRecursion (IsMoveIn n) moves → AllByRecursion (IsStepIn n) (done_steps moves)
done-in n [] all = tt
done-in n (Done step ∷ moves) all = (all.0, done-in n moves all.1)
done-in n (Torn step within pattern ∷ moves) all = done-in n moves all.1

host-in : (n : ℕ) (notes : List Note) (moves : List MoveView) → AllByRecursion (IsMoveIn n) moves
    → AllByRecursion (IsStepIn n) (host_done notes moves)
host-in n [] moves all = tt
host-in n (note ∷ notes) moves all =
    let mine = take-all (IsMoveIn n) note.moves moves all in
    all-append (IsStepIn n) (done_steps (take note.own (take note.moves moves))) (host_done notes (drop note.moves moves))
    (done-in n (take note.own (take note.moves moves)) (take-all (IsMoveIn n) note.own (take note.moves moves) mine))
    (host-in n notes (drop note.moves moves) (drop-all (IsMoveIn n) note.moves moves all))

-- the step at a place, and one step more
pub step-in : (n i : ℕ) (steps : List Step) (step : Step) → i < length steps → AllByRecursion (IsStepIn n) steps
    → IsStepIn n (get_or steps i step)
step-in n i steps step lt all =
    (subst (λ xs. AllByRecursion (IsStepIn n) xs) (drop_more steps i step lt) (drop-all (IsStepIn n) i steps all)).0

pub step-more : (c d e : Content) (i : ℕ) (steps : List Step) (step : Step) → i < length steps
    → d ≡ after c (get_or steps i step) → after_all c (drop i steps) ≡ e → after_all d (drop (i + 1) steps) ≡ e
step-more c d e i steps step lt one rest =
    ap (λ x. after_all x (drop (i + 1) steps)) one ∙ (ap (after_all c) (sym (drop_more steps i step lt)) ∙ rest)

-- the first moves complete no more steps than all do
done-split : (k : ℕ) (moves : List MoveView)
    → length (done_steps moves) ≡ length (done_steps (take k moves)) + length (done_steps (drop k moves))
done-split k moves =
    ap (λ ms. length (done_steps ms)) (sym (take-append-drop k moves))
    ∙ (ap (λ (xs : List Step). length xs) (done-append (take k moves) (drop k moves))
    ∙ length-append (done_steps (take k moves)) (done_steps (drop k moves)))

host-few : (notes : List Note) (moves : List MoveView) → length (host_done notes moves) ≤ length (done_steps moves)
host-few [] moves = omega arith
host-few (note ∷ notes) moves =
    let mine = take note.moves moves in
    let sum = length-append (done_steps (take note.own mine)) (host_done notes (drop note.moves moves)) in
    let own = done-split note.own mine in
    let both = done-split note.moves moves in
    let rest = host-few notes (drop note.moves moves) in
    omega (arith, sum, own, both, rest)

done-traced : (c : Content) (moves : List MoveView) → length (done_steps moves) ≡ length (traced_by c moves)
done-traced c [] = refl
done-traced c (Done step ∷ moves) = ap (λ n. suc n) (done-traced (after c step) moves)
done-traced c (Torn step within pattern ∷ moves) = done-traced (cut_by (cut_with 0 within pattern) c step) moves

-- what the trace of a script tells of them
module _ (c : Content) (cpu : Cpu) (events : List EventView) (found : Trace) (is : IsTraceOf c cpu events found)
    (moves : List Move) (same : moves ≡ found.moves.items) where
  pub moves-in : (d : Content) → d ≡ c → AreMovesIn (length d.flash) moves
  moves-in d at =
      subst (λ (x : Content). AreMovesIn (length x.flash) moves) (sym at)
      (subst (λ n. AreMovesIn n moves) is.size (subst (AreMovesIn (flash_long found)) (sym same) is.ready.inside))

  module _ (notes : List Note) (steps : List Step) (told : steps ≡ host_done notes (moves_from moves)) where
    pub steps-in : (n : ℕ) → n ≡ length c.flash → AllByRecursion (IsStepIn n) steps
    steps-in n long =
        subst (λ k. AllByRecursion (IsStepIn k) steps) (sym long)
        (subst (AllByRecursion (IsStepIn (length c.flash))) (sym told)
        (host-in (length c.flash) notes (moves_from moves) (moves-in c refl)))

    pub steps-few : length steps ≤ step_limit
    unfolding step_limit
    steps-few =
        let all = ap (λ (xs : List Step). length xs) told in
        let few = host-few notes (moves_from moves) in
        let whole = done-traced c (moves_from moves)
        ∙ (ap (λ ms. length (traced_by c (moves_from ms))) same ∙ ap (λ (ts : List Traced). length ts) is.steps) in
        let short = is.short in
        omega (arith, all, few, whole, short)
