-- What a recorder keeps, and what is done of steps where a cut is armed.
use Rattle.std.proofs.Common.{◌≡◌, ℕ, zero, suc, ◌+◌, ◌-◌, ◌<◌, ◌≤◌, Bool, true, false, List, [], ◌∷◌, ◌++◌, length, replicate, take, drop, get_or, Option, Some, None, refl, sym, ap, ◌∙◌, subst, arith, inl, inr, append_assoc, append-nil, length-append}
use Rattle.std.specs.Prelude.{◌==◌, ◌||◌, if◌then◌else◌, min, nat_lt, option_map}
use Rattle.std.specs.List.{AllByRecursion}
use Rattle.std.proofs.lemmas.Bool.{cases_lt, le-ltb, lt-ltb}
use Rattle.std.proofs.lemmas.Bool.Decides.{nat_tests}
use Rattle.std.proofs.lemmas.List.{drop_more, length-take, replicate-append-replicate, take_all}
use Rattle.pico_board.specs.declared.Step.{Step}
use Rattle.pico_board.specs.Content.{Content}
use Rattle.pico_board.specs.Cuts.{Cut, cut_by, cut_steps, cut_with, nearer, unless_cut}
use Rattle.pico_board.specs.Steps.{after, after_all}
use Rattle.boot_session.proofs.PlanStepLemmas.{all-append}
use Rattle.boot_tape.specs.declared.trace.Tape.{Tape}
use Rattle.boot_tape.specs.declared.trace.ArmedCut.{ArmedCut}
use Rattle.boot_sweep.specs.declared.moves.Move.{Move}
use Rattle.boot_tape.specs.Moving.{AreMovesIn, IsMoveIn, MoveView, Done, Torn, move_from, after_move, after_moves, done_count, moves_from, traced_by}
use Rattle.boot_tape.specs.Playing.{CutMoves, HasCompleted, HasLost, IsLeftBy, cut_from, cut_moves, move_first, told_of}
use Rattle.boot_tape.specs.Traces.{completed, traced_from}
use Rattle.boot_session.specs.Recordings.{first_steps}

pub first-all : (h : List Step) → length h ≤ 262145 → first_steps h ≡ h
unfolding first_steps
first-all h few = take_all 262145 h few

-- what follows, where all steps before it complete
abbrev pub then_moves : CutMoves → (Option Cut → CutMoves) → CutMoves
then_moves w rest =
    if w.whole then record {
      moves = w.moves ++ (rest w.armed).moves;
      whole = (rest w.armed).whole;
      armed = (rest w.armed).armed;
    }
    else w

pub cut-one : (cut : Option Cut) (step : Step) (steps : List Step)
    → cut_moves cut (step ∷ steps) ≡ then_moves (cut_moves cut (step ∷ [])) (λ a. cut_moves a steps)
cut-one None step steps = refl
cut-one (Some cut) step steps = go (cut.left == 0)
  where
    lost : CutMoves
    lost = record { moves = Torn step cut.within cut.pattern ∷ []; whole = false; armed = None }

    go : (b : Bool) → (if b then lost else move_first (Done step) (cut_moves (Some (nearer cut)) steps))
        ≡ then_moves (if b then lost else move_first (Done step) (cut_moves (Some (nearer cut)) []))
        (λ a. cut_moves a steps)
    go true = refl
    go false = refl

pub after-append : (c : Content) (xs ys : List MoveView) → after_moves c (xs ++ ys) ≡ after_moves (after_moves c xs) ys
after-append c [] ys = refl
after-append c (x ∷ xs) ys = after-append (after_move c x) xs ys

pub count-append : (xs ys : List MoveView) → done_count (xs ++ ys) ≡ done_count xs + done_count ys
count-append [] ys = let e : done_count ys ≡ 0 + done_count ys = omega arith in e
count-append (Done step ∷ xs) ys = let rest = count-append xs ys in omega (arith, rest)
count-append (Torn step within pattern ∷ xs) ys = count-append xs ys

pub traced-append : (c : Content) (xs ys : List MoveView)
    → traced_by c (xs ++ ys) ≡ traced_by c xs ++ traced_by (after_moves c xs) ys
traced-append c [] ys = refl
traced-append c (Done step ∷ xs) ys =
    ap (λ ts. record { before = c; step = step } ∷ ts) (traced-append (after c step) xs ys)
traced-append c (Torn step within pattern ∷ xs) ys =
    traced-append (cut_by (cut_with 0 within pattern) c step) xs ys

pub count-traced : (c : Content) (xs : List MoveView) → done_count xs ≡ length (traced_by c xs)
count-traced c [] = refl
count-traced c (Done step ∷ xs) = let rest = count-traced (after c step) xs in omega (arith, rest)
count-traced c (Torn step within pattern ∷ xs) = count-traced (cut_by (cut_with 0 within pattern) c step) xs

-- one step
pub taken-none : (old new : Tape) (step : Step) (number : ℕ) → told_of old ≡ None
    → HasCompleted old step number new → IsLeftBy old (cut_moves (told_of old) (step ∷ [])) number true new
taken-none old new step number none is =
    subst (λ cut. IsLeftBy old (cut_moves cut (step ∷ [])) number true new) (sym none) (record {
      numbers = is.numbers;
      moves = is.moves;
      whole_ = refl;
      armed = ap (option_map cut_from) is.armed ∙ none;
      done = let n = is.done in omega (arith, n);
      notes = is.notes;
    })

-- what is armed after one step, by whether the cut falls due in it
abbrev armed_by : Cut → Bool → Option Cut
armed_by cut b = if b then None else Some (nearer cut)

one-by : (cut : Cut) (step : Step) (b : Bool) → (cut.left == 0) ≡ b
    → cut_moves (Some cut) (step ∷ [])
    ≡ (if b then record { moves = Torn step cut.within cut.pattern ∷ []; whole = false; armed = None }
    else record { moves = Done step ∷ []; whole = true; armed = Some (nearer cut) })
one-by cut step b is =
    ap (λ (t : Bool). if t then record { moves = Torn step cut.within cut.pattern ∷ []; whole = false; armed = None }
    else record { moves = Done step ∷ []; whole = true; armed = Some (nearer cut) }) is

pub taken-some : (old mid new : Tape) (step : Step) (number : ℕ) (cut : Cut) (next : ArmedCut)
    → told_of old ≡ Some cut
    → Some (cut_from next) ≡ (if cut.left == 0 then None else Some (nearer cut))
    → mid.moves ≡ old.moves → mid.numbers ≡ old.numbers → mid.done ≡ old.done
    → mid.armed ≡ Some next → mid.notes ≡ old.notes → HasCompleted mid step number new
    → IsLeftBy old (cut_moves (told_of old) (step ∷ [])) number true new
taken-some old mid new step number cut next told near moves numbers done armed notes is = go (cut.left == 0) refl
  where
    go : (b : Bool) → (cut.left == 0) ≡ b → IsLeftBy old (cut_moves (told_of old) (step ∷ [])) number true new
    go true due = let no : Some (cut_from next) ≡ None = near ∙ ap (armed_by cut) due in cc
    go false due =
        subst (λ w. IsLeftBy old w number true new)
        (sym (ap (λ a. cut_moves a (step ∷ [])) told ∙ one-by cut step false due))
        (record {
          numbers = is.numbers ∙ ap (λ ns. ns.items ++ number ∷ []) numbers;
          moves = is.moves ∙ ap (λ ms. moves_from ms.items ++ Done step ∷ []) moves;
          whole_ = refl;
          armed = ap (option_map cut_from) (is.armed ∙ armed) ∙ (near ∙ ap (armed_by cut) due);
          done = let n = is.done in omega (arith, n, done);
          notes = is.notes ∙ notes;
        })

pub taken-lost : (old new : Tape) (step : Step) (number : ℕ) (cut : Cut) → told_of old ≡ Some cut
    → None ≡ (if cut.left == 0 then None else Some (nearer cut)) → HasLost old step cut new
    → IsLeftBy old (cut_moves (told_of old) (step ∷ [])) number false new
taken-lost old new step number cut told near is = go (cut.left == 0) refl
  where
    go : (b : Bool) → (cut.left == 0) ≡ b → IsLeftBy old (cut_moves (told_of old) (step ∷ [])) number false new
    go false due = let no : None ≡ Some (nearer cut) = near ∙ ap (armed_by cut) due in cc
    go true due =
        subst (λ w. IsLeftBy old w number false new)
        (sym (ap (λ a. cut_moves a (step ∷ [])) told ∙ one-by cut step true due))
        (record {
          numbers = is.numbers ∙ sym (append-nil old.numbers.items);
          moves = is.moves;
          whole_ = refl;
          armed = ap (option_map cut_from) is.armed;
          done = let n = is.done in omega (arith, n);
          notes = is.notes;
        })

-- more steps
pub left-then : (old mid new : Tape) (w : CutMoves) (rest : Option Cut → CutMoves) (number : ℕ) (whole : Bool)
    → IsLeftBy old w number true mid → IsLeftBy mid (rest (told_of mid)) number whole new
    → IsLeftBy old (then_moves w rest) number whole new
left-then old mid new w rest number whole first second =
    let r = rest w.armed in
    let next : IsLeftBy mid r number whole new =
    subst (λ a. IsLeftBy mid (rest a) number whole new) first.armed second in
    let both : CutMoves = record { moves = w.moves ++ r.moves; whole = r.whole; armed = r.armed } in
    subst (λ x. IsLeftBy old x number whole new) (ap (λ b. if b then both else w) first.whole_) (record {
      numbers = next.numbers ∙ (ap (λ ns. ns ++ replicate (done_count r.moves) number) first.numbers
          ∙ (append_assoc old.numbers.items (replicate (done_count w.moves) number)
          (replicate (done_count r.moves) number)
          ∙ ap (λ ns. old.numbers.items ++ ns) (replicate-append-replicate (done_count w.moves)
          (done_count r.moves) number
          ∙ ap (λ k. replicate k number) (sym (count-append w.moves r.moves)))));
      moves = next.moves ∙ (ap (λ ms. ms ++ r.moves) first.moves
          ∙ append_assoc (moves_from old.moves.items) w.moves r.moves);
      whole_ = next.whole_;
      armed = next.armed;
      done = let a = first.done in let b = next.done in let n = count-append w.moves r.moves in omega (arith, a, b, n);
      notes = next.notes ∙ first.notes;
    })

pub left-lost : (old new : Tape) (w : CutMoves) (rest : Option Cut → CutMoves) (number : ℕ)
    → IsLeftBy old w number false new → IsLeftBy old (then_moves w rest) number false new
left-lost old new w rest number is =
    let r = rest w.armed in
    let both : CutMoves = record { moves = w.moves ++ r.moves; whole = r.whole; armed = r.armed } in
    subst (λ x. IsLeftBy old x number false new) (ap (λ b. if b then both else w) is.whole_) is

pub left-none : (old : Tape) (number : ℕ) → IsLeftBy old (cut_moves (told_of old) []) number true old
left-none old number = record {
  numbers = sym (append-nil old.numbers.items);
  moves = sym (append-nil (moves_from old.moves.items));
  whole_ = refl;
  armed = refl;
  done = omega arith;
  notes = refl;
}

-- what a board that tells its cut does of steps
pub cut-steps : (steps : List Step) (cut : Option Cut) (c : Content)
    → cut_steps steps cut c ≡ (record {
      answer = (cut_moves cut steps).whole;
      content = after_moves c (cut_moves cut steps).moves;
      armed = (cut_moves cut steps).armed;
    })
cut-steps [] cut c = refl
cut-steps (step ∷ steps) None c = cut-steps steps None (after c step)
cut-steps (step ∷ steps) (Some cut) c = go (cut.left == 0) (cut-steps steps (Some (nearer cut)) (after c step))
  where
    go : (b : Bool)
        → cut_steps steps (Some (nearer cut)) (after c step) ≡ (record {
          answer = (cut_moves (Some (nearer cut)) steps).whole;
          content = after_moves (after c step) (cut_moves (Some (nearer cut)) steps).moves;
          armed = (cut_moves (Some (nearer cut)) steps).armed;
        })
        → unless_cut (if b then record { answer = false; content = cut_by cut c step; armed = None }
        else record { answer = true; content = after c step; armed = Some (nearer cut) }) (cut_steps steps)
        ≡ (let w = (if b then record { moves = Torn step cut.within cut.pattern ∷ []; whole = false; armed = None }
        else move_first (Done step) (cut_moves (Some (nearer cut)) steps)) in
        record { answer = w.whole; content = after_moves c w.moves; armed = w.armed })
    go true more = refl
    go false more = more

traced-left : (n : ℕ) (within : Bool) (pattern : List ℕ) (steps : List Step) (c : Content)
    → traced_by c (cut_moves (Some (cut_with n within pattern)) steps).moves ≡ traced_from c (take n steps)
traced-left zero within pattern [] c = refl
traced-left (suc n) within pattern [] c = refl
traced-left zero within pattern (step ∷ steps) c = refl
traced-left (suc n) within pattern (step ∷ steps) c =
    let some : (suc n == 0) ≡ false = grind (arith, nat_tests) in
    let less : suc n - 1 ≡ n = omega arith in
    ap (λ (b : Bool). traced_by c
    (if b then record { moves = Torn step within pattern ∷ []; whole = false; armed = None }
    else move_first (Done step) (cut_moves (Some (cut_with (suc n - 1) within pattern)) steps)).moves) some
    ∙ ap (λ ts. record { before = c; step = step } ∷ ts)
    (ap (λ k. traced_by (after c step) (cut_moves (Some (cut_with k within pattern)) steps).moves) less
    ∙ traced-left n within pattern steps (after c step))

or-more : (b : Bool) (n : ℕ) → (b || nat_lt 0 (suc n)) ≡ true
or-more true n = refl
or-more false n = lt-ltb 0 (suc n) (omega arith)

one-more : (b : Bool) (n k : ℕ) → (b || nat_lt (suc n) (suc k)) ≡ (b || nat_lt n k)
one-more b n k = ap (λ x. b || x) (elim (cases_lt n k) [
  | inl lt ↦ lt-ltb (suc n) (suc k) (omega (arith, lt)) ∙ sym (lt-ltb n k lt)
  | inr ge ↦ le-ltb (suc n) (suc k) (omega (arith, ge)) ∙ sym (le-ltb n k ge)
])

-- the steps that complete are those before the one that is cut
pub traced-steps : (steps : List Step) (cut : Option Cut) (c : Content)
    → traced_by c (cut_moves cut steps).moves ≡ traced_from c (completed cut steps)
traced-steps [] None c = refl
traced-steps (step ∷ steps) None c =
    ap (λ ts. record { before = c; step = step } ∷ ts) (traced-steps steps None (after c step))
traced-steps steps (Some cut) c = traced-left cut.left cut.within cut.pattern steps c

pub length-traced : (c : Content) (steps : List Step) → length (traced_from c steps) ≡ length steps
length-traced c [] = refl
length-traced c (step ∷ steps) = let rest = length-traced (after c step) steps in omega (arith, rest)

-- a cut that falls due in the first steps
pub prefix-lost : (xs ys : List Step) (cut : Option Cut) → (cut_moves cut xs).whole ≡ false
    → cut_moves cut (xs ++ ys) ≡ cut_moves cut xs
prefix-lost [] ys cut lost = cc
prefix-lost (x ∷ xs) ys None lost = ap (move_first (Done x)) (prefix-lost xs ys None lost)
prefix-lost (x ∷ xs) ys (Some cut) lost = go (cut.left == 0) lost (λ h. prefix-lost xs ys (Some (nearer cut)) h)
  where
    go : (b : Bool) → (if b then record { moves = Torn x cut.within cut.pattern ∷ []; whole = false; armed = None }
        else move_first (Done x) (cut_moves (Some (nearer cut)) xs)).whole ≡ false
        → ((cut_moves (Some (nearer cut)) xs).whole ≡ false
        → cut_moves (Some (nearer cut)) (xs ++ ys) ≡ cut_moves (Some (nearer cut)) xs)
        → (if b then record { moves = Torn x cut.within cut.pattern ∷ []; whole = false; armed = None }
        else move_first (Done x) (cut_moves (Some (nearer cut)) (xs ++ ys)))
        ≡ (if b then record { moves = Torn x cut.within cut.pattern ∷ []; whole = false; armed = None }
        else move_first (Done x) (cut_moves (Some (nearer cut)) xs))
    go true lost more = refl
    go false lost more = ap (move_first (Done x)) (more lost)

-- of the first steps as many moves come as of all, but no more than they are
pub first-moves : (xs ys : List Step) (cut : Option Cut)
    → length (cut_moves cut xs).moves ≡ min (length xs) (length (cut_moves cut (xs ++ ys)).moves)
first-moves [] ys cut = omega arith
first-moves (x ∷ xs) ys None = let rest = first-moves xs ys None in omega (arith, rest)
first-moves (x ∷ xs) ys (Some cut) = go (cut.left == 0) (first-moves xs ys (Some (nearer cut)))
  where
    go : (b : Bool)
        → length (cut_moves (Some (nearer cut)) xs).moves
        ≡ min (length xs) (length (cut_moves (Some (nearer cut)) (xs ++ ys)).moves)
        → length (if b then record { moves = Torn x cut.within cut.pattern ∷ []; whole = false; armed = None }
        else move_first (Done x) (cut_moves (Some (nearer cut)) xs)).moves
        ≡ min (length (x ∷ xs))
        (length (if b then record { moves = Torn x cut.within cut.pattern ∷ []; whole = false; armed = None }
        else move_first (Done x) (cut_moves (Some (nearer cut)) (xs ++ ys))).moves)
    go true rest = omega arith
    go false rest = omega (arith, rest)

-- what is done of the first steps is the first of what is done of all
pub front-moves : (xs ys : List Step) (cut : Option Cut)
    → take (length (cut_moves cut xs).moves) (cut_moves cut (xs ++ ys)).moves ≡ (cut_moves cut xs).moves
front-moves [] ys cut = refl
front-moves (x ∷ xs) ys None = ap (λ ms. Done x ∷ ms) (front-moves xs ys None)
front-moves (x ∷ xs) ys (Some cut) = go (cut.left == 0) (front-moves xs ys (Some (nearer cut)))
  where
    go : (b : Bool)
        → take (length (cut_moves (Some (nearer cut)) xs).moves) (cut_moves (Some (nearer cut)) (xs ++ ys)).moves
        ≡ (cut_moves (Some (nearer cut)) xs).moves
        → take (length (if b then record { moves = Torn x cut.within cut.pattern ∷ []; whole = false; armed = None }
        else move_first (Done x) (cut_moves (Some (nearer cut)) xs)).moves)
        (if b then record { moves = Torn x cut.within cut.pattern ∷ []; whole = false; armed = None }
        else move_first (Done x) (cut_moves (Some (nearer cut)) (xs ++ ys))).moves
        ≡ (if b then record { moves = Torn x cut.within cut.pattern ∷ []; whole = false; armed = None }
        else move_first (Done x) (cut_moves (Some (nearer cut)) xs)).moves
    go true rest = refl
    go false rest = ap (λ ms. Done x ∷ ms) rest

-- where some steps are done or cut, all complete or there is a move
none-whole : (ys : List Step) (cut : Option Cut)
    → ((cut_moves cut ys).whole || nat_lt 0 (length (cut_moves cut ys).moves)) ≡ true
none-whole [] cut = refl
none-whole (y ∷ ys) None = or-more (cut_moves None ys).whole (length (cut_moves None ys).moves)
none-whole (y ∷ ys) (Some cut) = go (cut.left == 0)
  where
    all : Bool → CutMoves
    all b =
        if b then record { moves = Torn y cut.within cut.pattern ∷ []; whole = false; armed = None }
        else move_first (Done y) (cut_moves (Some (nearer cut)) ys)

    go : (b : Bool) → ((all b).whole || nat_lt 0 (length (all b).moves)) ≡ true
    go true = lt-ltb 0 1 (omega arith)
    go false = or-more (cut_moves (Some (nearer cut)) ys).whole (length (cut_moves (Some (nearer cut)) ys).moves)

-- the first steps complete where all do, or where the one that is cut comes behind them
pub first-whole : (xs ys : List Step) (cut : Option Cut)
    → ((cut_moves cut (xs ++ ys)).whole
    || nat_lt (length (cut_moves cut xs).moves) (length (cut_moves cut (xs ++ ys)).moves))
    ≡ (cut_moves cut xs).whole
first-whole [] ys cut = none-whole ys cut
first-whole (x ∷ xs) ys None =
    one-more (cut_moves None (xs ++ ys)).whole (length (cut_moves None xs).moves)
    (length (cut_moves None (xs ++ ys)).moves) ∙ first-whole xs ys None
first-whole (x ∷ xs) ys (Some cut) = go (cut.left == 0) (first-whole xs ys (Some (nearer cut)))
  where
    all : Bool → List Step → CutMoves
    all b steps =
        if b then record { moves = Torn x cut.within cut.pattern ∷ []; whole = false; armed = None }
        else move_first (Done x) (cut_moves (Some (nearer cut)) steps)

    go : (b : Bool)
        → ((cut_moves (Some (nearer cut)) (xs ++ ys)).whole
        || nat_lt (length (cut_moves (Some (nearer cut)) xs).moves)
        (length (cut_moves (Some (nearer cut)) (xs ++ ys)).moves))
        ≡ (cut_moves (Some (nearer cut)) xs).whole
        → ((all b (xs ++ ys)).whole || nat_lt (length (all b xs).moves) (length (all b (xs ++ ys)).moves))
        ≡ (all b xs).whole
    go true rest = le-ltb 1 1 (omega arith)
    go false rest =
        one-more (cut_moves (Some (nearer cut)) (xs ++ ys)).whole (length (cut_moves (Some (nearer cut)) xs).moves)
        (length (cut_moves (Some (nearer cut)) (xs ++ ys)).moves) ∙ rest

-- where all steps complete
pub record IsWhole (c : Content) (steps : List Step) (w : CutMoves) : Type 0 where
  pub count : done_count w.moves ≡ length steps
  pub content : after_moves c w.moves ≡ after_all c steps

pub whole-is : (steps : List Step) (cut : Option Cut) (c : Content) → (cut_moves cut steps).whole ≡ true
    → IsWhole c steps (cut_moves cut steps)
whole-is [] cut c whole = record { count = refl; content = refl }
whole-is (step ∷ steps) None c whole =
    let rest = whole-is steps None (after c step) whole in
    let n = rest.count in record { count = omega (arith, n); content = rest.content }
whole-is (step ∷ steps) (Some cut) c whole =
    go (cut.left == 0) whole (λ h. whole-is steps (Some (nearer cut)) (after c step) h)
  where
    go : (b : Bool) → (if b then record { moves = Torn step cut.within cut.pattern ∷ []; whole = false; armed = None }
        else move_first (Done step) (cut_moves (Some (nearer cut)) steps)).whole ≡ true
        → ((cut_moves (Some (nearer cut)) steps).whole ≡ true
        → IsWhole (after c step) steps (cut_moves (Some (nearer cut)) steps))
        → IsWhole c (step ∷ steps)
        (if b then record { moves = Torn step cut.within cut.pattern ∷ []; whole = false; armed = None }
        else move_first (Done step) (cut_moves (Some (nearer cut)) steps))
    go true whole more = cc
    go false whole more =
        let rest = more whole in let n = rest.count in record { count = omega (arith, n); content = rest.content }

pub completed-more : (cut : Option Cut) (xs ys : List Step)
    → length (completed cut xs) ≤ length (completed cut (xs ++ ys))
completed-more None xs ys = let long = length-append xs ys in omega (arith, long)
completed-more (Some cut) xs ys =
    let long = length-append xs ys in
    let a = length-take cut.left xs in
    let b = length-take cut.left (xs ++ ys) in omega (arith, long, a, b)

-- one move more
moves-more : (old : List Move) (moved : Move) → moves_from (old ++ moved ∷ []) ≡ moves_from old ++ move_from moved ∷ []
moves-more [] moved = refl
moves-more (x ∷ old) moved = ap (λ ms. move_from x ∷ ms) (moves-more old moved)

pub ready-more : (n m : ℕ) (old new : List Move) (moved : Move) → m ≡ n → new ≡ old ++ moved ∷ [] → AreMovesIn n old
    → IsMoveIn n (move_from moved) → AreMovesIn m new
ready-more n m old new moved long more all one =
    subst (λ k. AreMovesIn k new) (sym long)
    (subst (λ ms. AllByRecursion (IsMoveIn n) ms) (sym (ap moves_from more ∙ moves-more old moved))
    (all-append (IsMoveIn n) (moves_from old) (move_from moved ∷ []) all (one, tt)))

-- one step of many
pub one-count : (cut : Option Cut) (step : Step) → done_count (cut_moves cut (step ∷ [])).moves ≤ 1
one-count None step = omega arith
one-count (Some cut) step = go (cut.left == 0)
  where
    go : (b : Bool)
        → done_count (if b then record { moves = Torn step cut.within cut.pattern ∷ []; whole = false; armed = None }
        else move_first (Done step) (cut_moves (Some (nearer cut)) [])).moves ≤ 1
    go true = omega arith
    go false = omega arith

pub loop-lost : (now next : Tape) (k : ℕ) (other : Step) (steps : List Step) (number : ℕ) (whole : Bool)
    → k < length steps
    → IsLeftBy now (cut_moves (told_of now) (get_or steps k other ∷ [])) number whole next → whole ≡ false
    → IsLeftBy now (cut_moves (told_of now) (drop k steps)) number false next
loop-lost now next k other steps number whole lt is fell =
    let step = get_or steps k other in
    let rest = drop (k + 1) steps in
    subst (λ w. IsLeftBy now w number false next)
    (sym (ap (cut_moves (told_of now)) (drop_more steps k other lt) ∙ cut-one (told_of now) step rest))
    (left-lost now next (cut_moves (told_of now) (step ∷ [])) (λ a. cut_moves a rest) number
    (subst (λ b. IsLeftBy now (cut_moves (told_of now) (step ∷ [])) number b next) fell is))

pub loop-more : (now next new : Tape) (k : ℕ) (other : Step) (steps : List Step) (number : ℕ) (whole w : Bool)
    → k < length steps
    → IsLeftBy now (cut_moves (told_of now) (get_or steps k other ∷ [])) number whole next → whole ≡ true
    → IsLeftBy next (cut_moves (told_of next) (drop (k + 1) steps)) number w new
    → IsLeftBy now (cut_moves (told_of now) (drop k steps)) number w new
loop-more now next new k other steps number whole w lt is held later =
    let step = get_or steps k other in
    let rest = drop (k + 1) steps in
    subst (λ x. IsLeftBy now x number w new)
    (sym (ap (cut_moves (told_of now)) (drop_more steps k other lt) ∙ cut-one (told_of now) step rest))
    (left-then now next new (cut_moves (told_of now) (step ∷ [])) (λ a. cut_moves a rest) number w
    (subst (λ b. IsLeftBy now (cut_moves (told_of now) (step ∷ [])) number b next) held is) later)

pub one-done : (now next : Tape) (step : Step) (number : ℕ) (whole : Bool)
    → IsLeftBy now (cut_moves (told_of now) (step ∷ [])) number whole next → next.done ≤ now.done + 1
one-done now next step number whole is =
    let most = one-count (told_of now) step in let done = is.done in omega (arith, most, done)
