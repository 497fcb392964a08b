-- The loop of a window up to its furthest block.
use Rattle.std.proofs.Common.{◌≡◌, ◌↔◌, ℕ, zero, suc, ◌+◌, ◌≤◌, ◌<◌, Bool, true, false, List, [], ◌∷◌, length, drop, Some, Ok, refl, sym, ap, ◌∙◌, arith}
use Rattle.std.specs.Prelude.{Result, if◌then◌else◌, max, nat_lt, slice_get}
use Rattle.std.proofs.lemmas.Bool.{ltb-false, ltb-true}
use Rattle.std.proofs.lemmas.List.{drop_all, length-map}
use Rattle.block_codec.specs.Blocks.{BlockView, block_size}
use Rattle.block_codec.proofs.AtLemmas.{BlockAt-room}
use Rattle.block_loop.specs.Loop.{loop_of}
use Rattle.block_loop.proofs.ChainLemmas.{loop_of-loop}
use Rattle.block_loop.specs.declared.fault.LoopFault.{LoopFault}
use Rattle.block_loop.specs.Offsets.{AreLoop}
use Rattle.image_check.specs.SameImage.{AgreeFrom}
use Rattle.boot_sweep.specs.Comparing.{agree_on}
use Rattle.boot_sweep.proofs.ResultLemmas.{agree-is, bool-by, is-agree}
use Rattle.boot_cuts.specs.Classes.{furthest}

pub drop-at : {X : Type 0} (xs : List X) (i : ℕ) (x : X) → slice_get xs i ≡ Some x → drop i xs ≡ x ∷ drop (i + 1) xs
drop-at [] i x at = cc
drop-at (y ∷ ys) zero x at = let e : y ≡ x = cc in ap (λ z. z ∷ ys) e
drop-at (y ∷ ys) (suc i) x at =
    let e : suc i + 1 ≡ suc (i + 1) = omega arith in
    drop-at ys i x at ∙ ap (λ n. x ∷ drop n (y ∷ ys)) (sym e)

same_ok : (xs ys : List BlockView) → (let r : Result (List BlockView) LoopFault = Ok xs in
    let q : Result (List BlockView) LoopFault = Ok ys in r ≡ q) → xs ≡ ys
same_ok xs ys e = cc

-- the bytes agree exactly where the function says so
pub front-exactly : (one two : List ℕ) (n : ℕ) (b : Bool) → (b ≡ true) ↔ AgreeFrom one two 0 (0 + n)
    → b ≡ agree_on one two 0 n
front-exactly one two n b is =
    bool-by b (agree_on one two 0 n)
    (λ e. is-agree one two 0 n (λ i low high. is.0 e i low high))
    (λ e. is.1 (λ i low high. agree-is one two 0 n e i low high))

max-within : (a b n : ℕ) → a ≤ n → b ≤ n → max a b ≤ n
max-within a b n first second = grind (arith, first, second)

further-is : (a b : ℕ) → (if nat_lt a b then b else a) ≡ max a b
further-is a b = go (nat_lt a b) refl
  where
    go : (t : Bool) → nat_lt a b ≡ t → (if t then b else a) ≡ max a b
    go true less = let lt = ltb-true a b less in grind (arith, lt)
    go false more = let le = ltb-false a b more in grind (arith, le)

-- one block more
pub record IsFurther (bytes : List ℕ) (end next i : ℕ) : Type 0 where
  pub rest : (loop : List BlockView) → loop_of bytes ≡ Ok loop → furthest end (drop i loop) ≡ furthest 0 loop
      → furthest next (drop (i + 1) loop) ≡ furthest 0 loop
  pub inside : next ≤ length bytes

pub further : (bytes offsets : List ℕ) (end next i p n : ℕ) (b : BlockView) → AreLoop bytes offsets
    → ((loop : List BlockView) → loop_of bytes ≡ Ok loop → slice_get loop i ≡ Some b)
    → p ≡ b.at → n ≡ block_size b → next ≡ (if nat_lt end (p + n) then p + n else end)
    → end ≤ length bytes → IsFurther bytes end next i
further bytes offsets end next i p n b are at place size is within =
    let bs = are.blocks.0 in
    let loop = are.blocks.1 in
    let room = BlockAt-room bytes b.at b (loop.chain.stand i b (at bs (loop_of-loop bytes bs loop))) in
    let here : next ≡ max end (b.at + block_size b) =
    is ∙ further-is end (p + n) ∙ ap (λ x. max end (x + n)) place ∙ ap (λ x. max end (b.at + x)) size in record {
      rest = λ xs found former.
          ap (λ e. furthest e (drop (i + 1) xs)) here
          ∙ (sym (ap (furthest end) (drop-at xs i b (at xs found))) ∙ former);
      inside =
          let most = max-within end (b.at + block_size b) (length bytes) within room in omega (arith, here, most);
    }

-- no block is left
pub none-further : (bytes offsets : List ℕ) (end i : ℕ) → AreLoop bytes offsets → length offsets ≤ i
    → (loop : List BlockView) → loop_of bytes ≡ Ok loop → furthest end (drop i loop) ≡ furthest 0 loop
    → end ≡ furthest 0 loop
none-further bytes offsets end i are past xs found former =
    let bs = are.blocks.0 in
    let same : bs ≡ xs =
    same_ok bs xs (sym (loop_of-loop bytes bs are.blocks.1) ∙ found) in
    let long = ap (λ (ys : List BlockView). length ys) same in
    let sizes = ap (λ (ys : List ℕ). length ys) are.blocks.2 in
    let each = length-map bs (λ (b : BlockView). b.at) in
    ap (furthest end) (sym (drop_all i xs (omega (arith, past, long, sizes, each)))) ∙ former
