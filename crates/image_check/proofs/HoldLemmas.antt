-- Two windows whose loop, definition and loads are known hold the same image where these places agree.
use Rattle.std.proofs.Common.{◌≡◌, ℕ, ◌+◌, ◌≤◌, Bool, true, List, length, slice_range, Result, Ok, refl, sym, subst}
use Rattle.std.specs.Prelude.{bytes_eq}
use Rattle.pico_board.specs.declared.boot.Cpu.{Cpu}
use Rattle.block_codec.specs.Blocks.{BlockView}
use Rattle.block_loop.specs.Loop.{loop_of}
use Rattle.block_loop.specs.declared.fault.LoopFault.{LoopFault}
use Rattle.image_def.specs.declared.started.Started.{Started}
use Rattle.load_map.specs.declared.load.Load.{Load}
use Rattle.image_check.specs.declared.examining.Defined.{Defined}
use Rattle.image_check.specs.Addressing.{in_flash}
use Rattle.image_check.specs.Image.{defined_in, image_in}
use Rattle.image_check.specs.Rules.{map_answer}
use Rattle.image_check.specs.SameImage.{AgreeFrom, AgreeOnBlocks, AgreeOnStorage, HoldsImage, HoldSameImage}
use Rattle.image_check.proofs.LawLemmas.{answered-valid}
use Rattle.image_check.proofs.SameLemmas.{held-loop, pieces-agree, storage-held}

-- an image that is answered is held
pub answered-held : (cpu : Cpu) (trial : Bool) (otp bytes : List ℕ) (s : Started)
    → image_in in_flash s.window cpu trial otp bytes ≡ Ok s → HoldsImage cpu bytes s
answered-held cpu trial otp bytes s is =
    let v = answered-valid in_flash s.window cpu trial otp bytes s is in
    record { image = v.image; entry = v.entry; sound = v.sound; started = v.started }

-- ranges with the same bytes agree
pub same-range : (one two : List ℕ) (at n : ℕ) → at + n ≤ length one → at + n ≤ length two
    → bytes_eq (slice_range one at (at + n)) (slice_range two at (at + n)) ≡ true → AgreeFrom one two at (at + n)
same-range one two at n in_one in_two same =
    (pieces-agree one two _ _ at n refl refl in_one in_two true (sym same)).0 refl

pub hold-same : (cpu : Cpu) (one two : List ℕ) (s : Started) (loop : List BlockView) (image : Defined)
    (loads : List Load)
    → HoldsImage cpu one s → loop_of one ≡ Ok loop → defined_in cpu one ≡ Ok image
    → map_answer in_flash (length one) image.block image.def ≡ Ok loads → length two ≡ length one
    → AgreeOnBlocks one two loop → AgreeOnStorage one two image.def.map_item loads → HoldSameImage cpu one two s
hold-same cpu one two s loop image loads held closes defined loaded long blocks storage = record {
  held = held;
  long = long;
  blocks =
      subst (AgreeOnBlocks one two) (same loop held.sound.loop (loop_of one) closes (held-loop cpu one s held)) blocks;
  storage = storage-held cpu one two s image defined loads loaded held storage;
}
  where
    same : (x y : List BlockView) (r : Result (List BlockView) LoopFault) → r ≡ Ok x → r ≡ Ok y → x ≡ y
    same x y r e f = cc
