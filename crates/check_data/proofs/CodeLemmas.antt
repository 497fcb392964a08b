-- What the code finds is what the functions say.
use Rattle.std.proofs.Common.{◌≡◌, ◌∙◌, ℕ, zero, suc, ◌+◌, ◌-◌, ◌<◌, ◌≤◌, Bool, true, false, List, [], ◌∷◌, ◌++◌, length, take, drop, get_or, Option, Some, None, Result, Ok, Err, refl, sym, ap, arith, append_assoc, append-nil}
use Rattle.std.specs.Prelude.{◌↔◌, ◌&&◌, ◌||◌, bytes_eq, if◌then◌else◌, map, not, replicate, slice_get, slice_index}
use Rattle.std.specs.List.{list_any}
use Rattle.pico_board.specs.declared.Step.{Step}
use Rattle.pico_board.specs.declared.step.Step.TheVariants.{Erase, Program, Raise}
use Rattle.pico_board.specs.declared.window.Window.{Window}
use Rattle.pico_board.specs.Content.{Content, window_bytes}
use Rattle.std.proofs.lemmas.List.{drop_all, ext_get_or, length-map, take_all}
use Rattle.std.proofs.lemmas.List.Edits.{length-between}
use Rattle.std.proofs.lemmas.Slice.Eq.{bytes_eq-Decides}
use Rattle.block_codec.specs.Blocks.{BlockView, block_size}
use Rattle.block_loop.specs.declared.fault.LoopFault.{LoopFault}
use Rattle.block_loop.specs.Loop.{loop_of}
use Rattle.block_loop.specs.Offsets.{AreLoop}
use Rattle.block_loop.proofs.ChainLemmas.{loop_of-loop}
use Rattle.load_map.specs.declared.load.Load.{Load}
use Rattle.load_map.specs.declared.load.MapFault.{MapFault}
use Rattle.image_check.specs.declared.examining.Defined.{Defined}
use Rattle.image_check.specs.declared.why.Why.{Why}
use Rattle.image_check.specs.declared.why.Why.TheVariants.{Map}
use Rattle.image_check.specs.Addressing.{in_flash}
use Rattle.image_check.specs.Answers.{fault_as}
use Rattle.image_check.specs.Rules.{map_answer, map_loads}
use Rattle.image_check.specs.SameImage.{AgreeFrom}
use Rattle.boot_sweep.specs.Moving.{MoveView, Done, Torn}
use Rattle.boot_sweep.proofs.ResultLemmas.{bool-by}
use Rattle.boot_sweep.specs.declared.moves.Move.{Move}
use Rattle.boot_tape.specs.Moving.{done_steps, move_from, moves_from}
use Rattle.check_data.specs.Loose.{block_span, is_in_block, is_in_span, is_page, is_loose, is_program_of, loose_by, loose_of, offsets_where, programmed_page}

-- one offset more is looked at
pub offsets-step : (p : ℕ → Bool) (at n : ℕ) (found new all : List ℕ) (b : Bool) → b ≡ p at
    → new ≡ (if b then found ++ at ∷ [] else found) → found ++ offsets_where p at (suc n) ≡ all
    → new ++ offsets_where p (at + 1) n ≡ all
unfolding offsets_where
offsets-step p at n found new all true is more former =
    ap (λ xs. xs ++ offsets_where p (at + 1) n) more
    ∙ (append_assoc found (at ∷ []) (offsets_where p (at + 1) n)
    ∙ (ap (λ b. found ++ (if b then at ∷ offsets_where p (at + 1) n else offsets_where p (at + 1) n)) is ∙ former))
offsets-step p at n found new all false is more former =
    ap (λ xs. xs ++ offsets_where p (at + 1) n) more
    ∙ (ap (λ b. found ++ (if b then at ∷ offsets_where p (at + 1) n else offsets_where p (at + 1) n)) is ∙ former)

pub offsets-none : (p : ℕ → Bool) (at : ℕ) (found all : List ℕ) → found ++ offsets_where p at 0 ≡ all → found ≡ all
unfolding offsets_where
offsets-none p at found all former = sym (append-nil found) ∙ former

-- a list whose end was looked at
pub any-last : {X : Type 0} (p : X → Bool) (xs : List X) (i : ℕ) (d : X) → i < length xs
    → p (get_or xs i d) ≡ true → list_any p xs ≡ true
any-last p [] i d lt e = absurd (omega (arith, lt))
any-last p (x ∷ xs) zero d lt e = ap (λ b. b || list_any p xs) e
any-last p (x ∷ xs) (suc i) d lt e = go (p x) (any-last p xs i d (omega (arith, lt)) e)
  where
    go : (b : Bool) → list_any p xs ≡ true → (b || list_any p xs) ≡ true
    go true e = refl
    go false e = e

pub any-drop : {X : Type 0} (p : X → Bool) (xs : List X) (i : ℕ) (d : X) → i < length xs
    → p (get_or xs i d) ≡ false → list_any p (drop (i + 1) xs) ≡ false → list_any p (drop i xs) ≡ false
any-drop p [] i d lt here rest = absurd (omega (arith, lt))
any-drop p (x ∷ xs) zero d lt here rest = ap (λ b. b || list_any p xs) here ∙ rest
any-drop p (x ∷ xs) (suc i) d lt here rest =
    let one : suc i + 1 ≡ suc (i + 1) = omega arith in
    any-drop p xs i d (omega (arith, lt)) here (sym (ap (λ n. list_any p (drop n (x ∷ xs))) one) ∙ rest)

-- the same up to an end
pub offsets-next : (p : ℕ → Bool) (at end : ℕ) (found new all : List ℕ) (b : Bool) → at < end → b ≡ p at
    → new ≡ (if b then found ++ at ∷ [] else found) → found ++ offsets_where p at (end - at) ≡ all
    → new ++ offsets_where p (at + 1) (end - (at + 1)) ≡ all
offsets-next p at end found new all b lt is more former =
    let e : end - at ≡ suc (end - (at + 1)) = omega (arith, lt) in
    offsets-step p at (end - (at + 1)) found new all b is more (ap (λ n. found ++ offsets_where p at n) (sym e)
    ∙ former)

pub offsets-end : (p : ℕ → Bool) (at end : ℕ) (found all : List ℕ) → end ≤ at
    → found ++ offsets_where p at (end - at) ≡ all → found ≡ all
offsets-end p at end found all past former =
    let e : end - at ≡ 0 = omega (arith, past) in
    offsets-none p at found all (ap (λ n. found ++ offsets_where p at n) (sym e) ∙ former)

-- the blocks of a loop, by where they stand
pub spans-any : (loop : List BlockView) (i : ℕ)
    → list_any (is_in_span i) (map block_span loop) ≡ list_any (is_in_block i) loop
spans-any [] i = refl
spans-any (b ∷ loop) i = ap (λ x. is_in_block i b || x) (spans-any loop i)

pub spans-more : (loop : List BlockView) (i : ℕ) (b : BlockView) (p n : ℕ) → slice_get loop i ≡ Some b → p ≡ b.at
    → n ≡ block_size b → (spans new : List Window) → spans ≡ map block_span (take i loop)
    → new ≡ spans ++ record { start = p; len = n } ∷ [] → new ≡ map block_span (take (i + 1) loop)
spans-more loop i b p n at place size spans new former more =
    more
    ∙ (ap (λ q. spans ++ record { start = q; len = n } ∷ []) place
    ∙ (ap (λ q. spans ++ record { start = b.at; len = q } ∷ []) size
    ∙ (ap (λ (xs : List Window). xs ++ block_span b ∷ []) former ∙ sym (next loop i at))))
  where
    next : (bs : List BlockView) (k : ℕ) → slice_get bs k ≡ Some b
        → map block_span (take (k + 1) bs) ≡ map block_span (take k bs) ++ block_span b ∷ []
    next [] k is = cc
    next (x ∷ bs) zero is = let e : x ≡ b = cc in ap (λ y. block_span y ∷ []) e
    next (x ∷ bs) (suc k) is =
        let one : suc k + 1 ≡ suc (k + 1) = omega arith in
        ap (λ m. map block_span (take m (x ∷ bs))) one ∙ ap (λ ys. block_span x ∷ ys) (next bs k is)

-- two windows have the same bytes
pub bytes-differ : (c d : Content) (w : Window) (r : Bool) → w.start + w.len ≤ length c.flash
    → w.start + w.len ≤ length d.flash
    → (r ≡ true) ↔ AgreeFrom (window_bytes c w) (window_bytes d w) 0 (0 + w.len)
    → not r ≡ not (bytes_eq (window_bytes d w) (window_bytes c w))
bytes-differ c d w r one two is =
    let long : length (window_bytes c w) ≡ w.len =
    let e = length-between c.flash w.start (w.start + w.len) one in omega (arith, e) in
    let other : length (window_bytes d w) ≡ w.len =
    let e = length-between d.flash w.start (w.start + w.len) two in omega (arith, e) in
    let both = bytes_eq-Decides (window_bytes d w) (window_bytes c w) in
    ap not (bool-by r (bytes_eq (window_bytes d w) (window_bytes c w))
    (λ e. both.1 (ext_get_or 0 (window_bytes d w) (window_bytes c w) (other ∙ sym long)
    (λ k lt. is.0 e k (omega arith) (omega (arith, lt, other)))))
    (λ e. is.1 (λ i low high. ap (λ xs. slice_index xs i) (both.0 e))))

-- a place of a list has one value
pub some-same : (xs : List Bool) (i : ℕ) (a b : Bool) → slice_get xs i ≡ Some a → slice_get xs i ≡ Some b → a ≡ b
some-same xs i a b one two = cc

pub replicate-at : (n p : ℕ) → p < n → slice_get (replicate n false) p ≡ Some false
replicate-at zero p lt = absurd (omega (arith, lt))
replicate-at (suc n) zero lt = refl
replicate-at (suc n) (suc p) lt = replicate-at n p (omega (arith, lt))

-- a step that programs a page, and the others
pub programs-first : (p : ℕ) (moved : MoveView) (moves : List MoveView)
    → list_any (is_program_of p) (done_steps (moved ∷ moves))
    ≡ (is_page p (programmed_page moved) || list_any (is_program_of p) (done_steps moves))
programs-first p (Done (Program q bytes)) moves = refl
programs-first p (Done (Erase s)) moves = refl
programs-first p (Done (Raise r b)) moves = refl
programs-first p (Torn step within pattern) moves = refl

or-or : (a b c : Bool) → ((a || b) || c) ≡ (a || (b || c))
or-or true b c = refl
or-or false b c = refl

-- one move more is marked
pub marks-more : (p : ℕ) (moves : List Move) (i : ℕ) (d : Move) → i < length moves → (x b : Bool)
    → (x || list_any (is_program_of p) (done_steps (moves_from (drop i moves)))) ≡ b
    → ((x || is_page p (programmed_page (move_from (get_or moves i d))))
    || list_any (is_program_of p) (done_steps (moves_from (drop (i + 1) moves)))) ≡ b
marks-more p moves i d lt x b former =
    or-or x (is_page p (programmed_page (move_from (get_or moves i d)))) _
    ∙ (ap (λ y. x || y) (sym (next moves i lt)) ∙ former)
  where
    next : (ms : List Move) (k : ℕ) → k < length ms
        → list_any (is_program_of p) (done_steps (moves_from (drop k ms)))
        ≡ (is_page p (programmed_page (move_from (get_or ms k d)))
        || list_any (is_program_of p) (done_steps (moves_from (drop (k + 1) ms))))
    next [] k less = absurd (omega (arith, less))
    next (m ∷ ms) zero less = programs-first p (move_from m) (moves_from ms)
    next (m ∷ ms) (suc k) less =
        let one : suc k + 1 ≡ suc (k + 1) = omega arith in
        next ms k (omega (arith, less))
        ∙ ap (λ n. is_page p (programmed_page (move_from (get_or ms k d)))
        || list_any (is_program_of p) (done_steps (moves_from (drop n (m ∷ ms))))) (sym one)

or-false : (b : Bool) → (b || false) ≡ b
or-false true = refl
or-false false = refl

pub marks-end : (p : ℕ) (moves : List Move) (i : ℕ) → length moves ≤ i → (x b : Bool)
    → (x || list_any (is_program_of p) (done_steps (moves_from (drop i moves)))) ≡ b → x ≡ b
marks-end p moves i past x b former =
    sym (or-false x)
    ∙ (ap (λ ms. x || list_any (is_program_of p) (done_steps (moves_from ms))) (sym (drop_all i moves past)) ∙ former)

-- both tests hold, or the first one does not
pub and-then : (a b x : Bool) → a ≡ true → x ≡ b → x ≡ (a && b)
and-then a b x e is = is ∙ ap (λ y. y && b) (sym e)

pub and-else : (a b x : Bool) → x ≡ a → x ≡ false → x ≡ (a && b)
and-else a b x is e = e ∙ ap (λ y. y && b) (sym e ∙ is)

-- what was lent is written back
pub written-back : (new items : List Bool) (n : ℕ) → length new ≡ length items → n ≡ length items
    → take n (new ++ drop (length new) items) ≡ new
written-back new items n same is =
    ap (λ xs. take n (new ++ xs)) (drop_all (length new) items (omega (arith, same)))
    ∙ (ap (take n) (append-nil new) ∙ take_all n new (omega (arith, same, is)))

same_ok : (xs ys : List BlockView) → (let r : Result (List BlockView) LoopFault = Ok xs in
    let q : Result (List BlockView) LoopFault = Ok ys in r ≡ q) → xs ≡ ys
same_ok xs ys e = cc

-- the loop of a window, of which the offsets are found
pub found-loop : (bytes offsets : List ℕ) → AreLoop bytes offsets
    → (loop : List BlockView) × (loop_of bytes ≡ Ok loop)
found-loop bytes offsets are = (are.blocks.0, loop_of-loop bytes are.blocks.0 are.blocks.1)

pub loop-long : (bytes offsets : List ℕ) → AreLoop bytes offsets → (loop : List BlockView) → loop_of bytes ≡ Ok loop
    → length loop ≡ length offsets
loop-long bytes offsets are loop is =
    let bs = are.blocks.0 in
    let same : bs ≡ loop =
    same_ok bs loop (sym (loop_of-loop bytes bs are.blocks.1) ∙ is) in
    let long = ap (λ (ys : List BlockView). length ys) same in
    let sizes = ap (λ (ys : List ℕ). length ys) are.blocks.2 in
    let each = length-map bs (λ (b : BlockView). b.at) in omega (arith, long, sizes, each)

pub spans-all : (loop : List BlockView) (i : ℕ) (spans : List Window) → length loop ≤ i
    → spans ≡ map block_span (take i loop) → spans ≡ map block_span loop
spans-all loop i spans past is = is ∙ ap (map block_span) (take_all i loop past)

loads-fault : (why : Why) (m : Result (List Load) MapFault) → Err why ≡ fault_as Map m
    → (fault : MapFault) × (m ≡ Err fault)
loads-fault why (Ok xs) e = cc
loads-fault why (Err fault) e = (fault, refl)

loads-right : (xs : List Load) (m : Result (List Load) MapFault) → Ok xs ≡ fault_as Map m → m ≡ Ok xs
loads-right xs (Ok ys) e = cc
loads-right xs (Err fault) e = cc

-- without loads there are no loose bytes
pub loose-none : (flash : List ℕ) (steps : List Step) (w : Window) (bytes offsets : List ℕ) (r : Result Defined Why)
    (image : Defined) (why : Why) → Ok image ≡ r → AreLoop bytes offsets
    → Err why ≡ map_answer in_flash (length bytes) image.block image.def → (none : List ℕ) → none ≡ []
    → none ≡ loose_of flash steps w bytes r
loose-none flash steps w bytes offsets r image why is are fault none empty =
    let m = map_loads in_flash (length bytes) image.block image.def in
    let f = loads-fault why m fault in
    let loop = found-loop bytes offsets are in
    empty ∙ (go image.def.map_item loop.0 f.0
    ∙ (ap (λ q. loose_by flash steps w image.def.map_item q (Err f.0)) (sym loop.1)
    ∙ (ap (λ q. loose_by flash steps w image.def.map_item (loop_of bytes) q) (sym f.1)
    ∙ ap (loose_of flash steps w bytes) is)))
  where
    go : (o : Option ℕ) (loop : List BlockView) (fault : MapFault)
        → [] ≡ loose_by flash steps w o (Ok loop) (Err fault)
    go None loop fault = refl
    go (Some item) loop fault = refl

-- with them there are those that the test finds
pub loose-some : (flash : List ℕ) (steps : List Step) (w : Window) (bytes : List ℕ) (r : Result Defined Why)
    (image : Defined) (loads : List Load) (loop : List BlockView) → Ok image ≡ r → loop_of bytes ≡ Ok loop
    → Ok loads ≡ map_answer in_flash (length bytes) image.block image.def → (item : ℕ)
    → image.def.map_item ≡ Some item
    → (found : List ℕ) → found ≡ offsets_where (is_loose flash steps w.start loop loads) w.start w.len
    → found ≡ loose_of flash steps w bytes r
loose-some flash steps w bytes r image loads loop is closes right item mapped found are =
    let m = map_loads in_flash (length bytes) image.block image.def in
    are ∙ (ap (λ o. loose_by flash steps w o (Ok loop) (Ok loads)) (sym mapped)
    ∙ (ap (λ q. loose_by flash steps w image.def.map_item q (Ok loads)) (sym closes)
    ∙ (ap (λ q. loose_by flash steps w image.def.map_item (loop_of bytes) q) (sym (loads-right loads m right))
    ∙ ap (loose_of flash steps w bytes) is)))

-- one page more that is not marked
pub fill-more : (xs new : List Bool) (count counter : ℕ) → counter < count → new ≡ xs ++ false ∷ []
    → xs ++ replicate (count - counter) false ≡ replicate count false
    → new ++ replicate (count - (counter + 1)) false ≡ replicate count false
fill-more xs new count counter lt more former =
    let e : count - counter ≡ suc (count - (counter + 1)) = omega (arith, lt) in
    ap (λ ys. ys ++ replicate (count - (counter + 1)) false) more
    ∙ (append_assoc xs (false ∷ []) (replicate (count - (counter + 1)) false)
    ∙ (ap (λ n. xs ++ replicate n false) (sym e) ∙ former))
