-- Where the parts of a binary lie.
use Rattle.std.proofs.Common.{◌≡◌, ℕ, ◌+◌, ◌-◌, ◌<◌, ◌≤◌, List, [], ◌∷◌, ◌++◌, length, replicate, Some, Option, None, pos, slice_index_or, Result, Ok, Err, refl, sym, ap, subst, arith, IfOk, length-append}
use Rattle.std.specs.List.{slice_get}
use Rattle.std.proofs.lemmas.List.{length-replicate}
use Rattle.std.proofs.lemmas.Option.{slice_get-get_or}
use Rattle.pico_board.specs.declared.window.TheConstants.{MOST_FLASH_BYTES}
use Rattle.pico_board.specs.declared.boot.Cpu.{Cpu}
use Rattle.block_codec.specs.Blocks.{BlockView, block_size}
use Rattle.block_codec.proofs.AtLemmas.{AreErased-replicate, BlockAt-erased, BlockAt-room}
use Rattle.block_loop.specs.declared.fault.LoopFault.{LoopFault}
use Rattle.block_loop.specs.declared.fault.LoopFault.TheVariants.{NoBlock as NoFirst, Broken, TooMany, Overlap}
use Rattle.block_loop.specs.Loop.{loop_of}
use Rattle.block_loop.proofs.LoopBlockLemmas.{loop_count}
use Rattle.block_loop.proofs.SameLoopLemmas.{IsLoop-from_answer}
use Rattle.load_map.specs.declared.load.Load.{Load}
use Rattle.load_map.specs.declared.load.MapFault.{MapFault}
use Rattle.load_map.specs.Stored.{AreStoredIn, IsStoredIn}
use Rattle.image_check.specs.declared.examining.Defined.{Defined}
use Rattle.image_check.specs.declared.why.Why.{Why}
use Rattle.image_check.specs.declared.why.Why.TheVariants.{Map}
use Rattle.image_check.specs.Addressing.{in_flash}
use Rattle.image_check.specs.Answers.{and_then, fault_as}
use Rattle.image_check.specs.Image.{defined_in}
use Rattle.image_check.specs.Rules.{loop_answer, map_answer, map_loads}
use Rattle.image_check.proofs.MapLemmas.{map-stored}
use Rattle.image_pack.specs.declared.parts.Parts.{Parts}
use Rattle.image_pack.specs.Filling.{round_up, whole_sectors, whole_words}
use Rattle.image_pack.specs.Sealing.{link_offset_of, offset_of_block, parts_in, parts_taken_over}
use Rattle.image_pack.specs.Within.{IsWithin}

-- the loop that is answered
pub loop_answered : (r : Result (List BlockView) LoopFault) (loop : List BlockView) → loop_answer r ≡ Ok loop
    → r ≡ Ok loop
loop_answered (Ok bs) loop is = let same : bs ≡ loop = cc in ap Ok same
loop_answered (Err NoFirst) loop is = cc
loop_answered (Err (Broken x)) loop is = cc
loop_answered (Err TooMany) loop is = cc
loop_answered (Err (Overlap i j)) loop is = cc

-- the loads that are answered
loads_answered : (r : Result (List Load) MapFault) (loads : List Load) → fault_as Map r ≡ Ok loads → r ≡ Ok loads
loads_answered (Ok ls) loads is = let same : ls ≡ loads = cc in ap Ok same
loads_answered (Err fault) loads is = cc

-- what is true of the three answers before an answer that is no fault
record AreAnswered {A B C D F : Type 0} (r : Result A F) (q : Result B F) (s : B → Result C F) (make : A → B → C → D)
    (d : D) : Type 0 where
  a : A
  b : B
  c : C
  one : r ≡ Ok a
  two : q ≡ Ok b
  three : s b ≡ Ok c
  made : make a b c ≡ d

answered : {A B C D F : Type 0} (r : Result A F) (q : Result B F) (s : B → Result C F) (make : A → B → C → D) (d : D)
    → and_then r (λ x. and_then q (λ y. and_then (s y) (λ z. Ok (make x y z)))) ≡ Ok d → AreAnswered r q s make d
answered (Err e) q s make d is = cc
answered (Ok a) (Err e) s make d is = cc
answered {A} {B} {C} {D} {F} (Ok a) (Ok b) s make d is = third (s b) refl is where
  third : (t : Result C F) → s b ≡ t → and_then t (λ z. Ok (make a b z)) ≡ Ok d → AreAnswered (Ok a) (Ok b) s make d
  third (Err e) same done = cc
  third (Ok c) same done =
      record { a = a; b = b; c = c; one = refl; two = refl; three = same; made = (let is : make a b c ≡ d = cc in is) }

-- loads that are stored in fewer bytes are stored in more
pub stored-more : (n m : ℕ) (loads : List Load) → n ≤ m → AreStoredIn n loads → AreStoredIn m loads
stored-more n m [] le are = tt
stored-more n m (load ∷ loads) le are = (more load.storage are.0, stored-more n m loads le are.1) where
  more : (storage : Option ℕ) → IsStoredIn n storage load.size → IsStoredIn m storage load.size
  more None is = tt
  more (Some x) is = omega (arith, le, is)

-- a round number of bytes
pub round_up-most : (n : ℕ) → n ≤ MOST_FLASH_BYTES → round_up 4096 n ≤ MOST_FLASH_BYTES
round_up-most n le = omega (arith, le)

pub round_up-least : (n : ℕ) → n ≤ round_up 4 n
round_up-least n = omega arith

pub length-whole_sectors : (binary : List ℕ) → length binary ≤ MOST_FLASH_BYTES
    → length (whole_sectors binary) ≤ MOST_FLASH_BYTES
length-whole_sectors binary le =
    let long = length-append binary (replicate (round_up 4096 (length binary) - length binary) 255) in
    let fill = length-replicate {A = ℕ} (round_up 4096 (length binary) - length binary) 255 in
    omega (arith, long, fill, round_up-most (length binary) le)

-- a block of the binary's loop lies in the binary
record IsInside (loop : List BlockView) (n k : ℕ) : Type 0 where
  block : BlockView
  here : slice_get loop k ≡ Some block
  inside : block.at + block_size block ≤ n

block_inside : (binary : List ℕ) (fill : ℕ) (loop : List BlockView) (k : ℕ)
    → loop_of (binary ++ replicate fill 255) ≡ Ok loop
    → k < length loop → IsInside loop (length binary) k
block_inside binary fill loop k closed lt =
    let none : BlockView = record { at = 0; items = []; link = pos 0 } in
    let b = slice_index_or loop k none in
    let here = slice_get-get_or loop k none lt in
    let stands = (IsLoop-from_answer (binary ++ replicate fill 255) loop closed).chain.stand k b here in
    record {
      block = b;
      here = here;
      inside =
          BlockAt-room binary b.at b
          (BlockAt-erased binary (replicate fill 255) b.at b (AreErased-replicate fill) stands);
    }

-- the parts of a binary lie in it
pub IsWithin-parts : (binary : List ℕ) (cpu : Cpu) (p : Parts) → length binary ≤ MOST_FLASH_BYTES
    → parts_in cpu (whole_sectors binary) ≡ Ok p → IsWithin p (length (whole_words binary))
IsWithin-parts binary cpu p small is =
    let w = whole_sectors binary in
    let read = answered (loop_answer (loop_of w)) (defined_in cpu w)
    (λ (i : Defined). map_answer in_flash (length w) i.block i.def)
    (λ (bs : List BlockView) (i : Defined) (ls : List Load). parts_taken_over bs i.block ls) p is in
    let closed : loop_of w ≡ Ok read.a = loop_answered (loop_of w) read.a read.one in
    let some = loop_count w read.a closed in
    let fill = round_up 4096 (length binary) - length binary in
    let first = block_inside binary fill read.a 0 closed (omega (arith, some.0)) in
    let last = block_inside binary fill read.a (length read.a - 1) closed (omega (arith, some.0)) in
    let words = length-append binary (replicate (round_up 4 (length binary) - length binary) 255) in
    let filled = length-replicate {A = ℕ} (round_up 4 (length binary) - length binary) 255 in
    let least = round_up-least (length binary) in
    let begins : offset_of_block (slice_get read.a 0) ≡ first.block.at = ap offset_of_block first.here in
    let ends : offset_of_block (slice_get read.a (length read.a - 1)) ≡ last.block.at = ap offset_of_block last.here in
    let links : link_offset_of (slice_get read.a (length read.a - 1)) ≡ last.block.at + (block_size last.block - 8) =
    ap link_offset_of last.here in
    let mapped = loads_answered (map_loads in_flash (length w) read.b.block read.b.def) read.c read.three in
    let stored = map-stored in_flash (length w) read.b.block read.b.def read.c mapped in
    subst (λ (q : Parts). IsWithin q (length (whole_words binary))) read.made (record {
      first = omega (arith, begins, first.inside, words, filled, least);
      last = omega (arith, ends, last.inside, words, filled, least);
      link = omega (arith, links, last.inside, words, filled, least);
      small = omega (arith, small, words, filled);
      stored = stored-more (length w) MOST_FLASH_BYTES read.c (length-whole_sectors binary small) stored;
    })

-- the parts that are answered of a binary lie in it
pub IsWithin-answer : (binary : List ℕ) (cpu : Cpu) (r : Result Parts Why) → length binary ≤ MOST_FLASH_BYTES
    → r ≡ parts_in cpu (whole_sectors binary) → IfOk r (λ p. IsWithin p (length (whole_words binary)))
IsWithin-answer binary cpu (Ok p) small is = IsWithin-parts binary cpu p small (sym is)
IsWithin-answer binary cpu (Err why) small is = tt
