-- What a sealed image takes over from its binary, from what was read of it.
use Rattle.std.proofs.Common.{◌≡◌, ℕ, ◌+◌, ◌-◌, List, length, Some, Result, Ok, refl, sym, ap, subst, ◌∙◌}
use Rattle.std.specs.List.{slice_get}
use Rattle.arrayvec.specs.ArrayVec.{ArrayVec}
use Rattle.pico_board.specs.declared.boot.Cpu.{Cpu}
use Rattle.block_codec.specs.Blocks.{BlockView, block_size}
use Rattle.block_loop.specs.Loop.{loop_of}
use Rattle.block_loop.specs.Offsets.{loop_offsets, offsets_of}
use Rattle.block_loop.proofs.LoopBlockLemmas.{length-offsets_of, loop_block, loop_of-offsets}
use Rattle.load_map.specs.declared.load.Load.{Load}
use Rattle.image_check.specs.declared.examining.Defined.{Defined}
use Rattle.image_check.specs.declared.why.Why.{Why}
use Rattle.image_check.specs.Addressing.{in_flash}
use Rattle.image_check.specs.Answers.{and_then}
use Rattle.image_check.specs.Image.{defined_in}
use Rattle.image_check.specs.Rules.{loop_answer, map_answer}
use Rattle.image_pack.specs.declared.parts.Parts.{Parts}
use Rattle.image_pack.specs.Sealing.{copied_words, offset_of_block, parts_in, parts_taken_over}

-- three answers one after another, none of which is a fault
chained : {A B C D F : Type 0} (r : Result A F) (q : Result B F) (s : B → Result C F) (make : A → B → C → D)
    (a : A) (b : B) (c : C) → r ≡ Ok a → q ≡ Ok b → s b ≡ Ok c
    → and_then r (λ x. and_then q (λ y. and_then (s y) (λ z. Ok (make x y z)))) ≡ Ok (make a b c)
chained r q s make a b c one two three = rw (one, two, three) refl

-- the parts are those of the loop, the definition and the loads
pub parts_in-loop : (w : List ℕ) (cpu : Cpu) (loop : List BlockView) (image : Defined) (loads : List Load)
    → loop_of w ≡ Ok loop → defined_in cpu w ≡ Ok image
    → map_answer in_flash (length w) image.block image.def ≡ Ok loads
    → parts_in cpu w ≡ Ok (parts_taken_over loop image.block loads)
parts_in-loop w cpu loop image loads closed defined mapped =
    chained (loop_answer (loop_of w)) (defined_in cpu w)
    (λ (i : Defined). map_answer in_flash (length w) i.block i.def)
    (λ (bs : List BlockView) (i : Defined) (ls : List Load). parts_taken_over bs i.block ls)
    loop image loads (ap loop_answer closed) defined mapped

-- the first offset is that of the first block
offset_of-first : (w offsets : List ℕ) (loop : List BlockView) (first : ℕ) → loop_of w ≡ Ok loop
    → offsets ≡ offsets_of loop → slice_get offsets 0 ≡ Some first → offset_of_block (slice_get loop 0) ≡ first
offset_of-first w offsets loop first closed are at =
    let (b, here, is, found) = loop_block w loop 0 first closed (sym (ap (λ (xs : List ℕ). slice_get xs 0) are) ∙ at) in
    ap offset_of_block here ∙ is

-- the parts that were read are those of the binary
pub parts_in-read : (w : List ℕ) (cpu : Cpu) (offsets : List ℕ) (image : Defined) (loads : List Load) (n first : ℕ)
    (last : BlockView) → Ok offsets ≡ loop_offsets (loop_of w) → Ok image ≡ defined_in cpu w → n ≡ length w
    → Ok loads ≡ map_answer in_flash n image.block image.def → slice_get offsets 0 ≡ Some first
    → ((loop : List BlockView) → loop_of w ≡ Ok loop → slice_get loop (length offsets - 1) ≡ Some last)
    → Ok (record {
      first = first;
      last = last.at;
      link_at = last.at + (block_size last - 8);
      entry = record { items = copied_words image.block };
      loads = record { items = loads };
    }) ≡ parts_in cpu w
parts_in-read w cpu offsets image loads n first last walked defined long mapped at ends =
    let (loop, closed, are) = loop_of-offsets w offsets walked in
    let begins = offset_of-first w offsets loop first closed are at in
    let count : length offsets ≡ length loop = ap length are ∙ length-offsets_of loop in
    let ended : slice_get loop (length loop - 1) ≡ Some last =
    subst (λ (k : ℕ). slice_get loop (k - 1) ≡ Some last) count (ends loop closed) in
    sym (parts_in-loop w cpu loop image loads closed (sym defined)
    (subst (λ (k : ℕ). map_answer in_flash k image.block image.def ≡ Ok loads) long (sym mapped))
    ∙ rw (ended, begins) refl)

-- the parts that the code has read are those of the binary
pub parts_in-kept : (w : List ℕ) (cpu : Cpu) (offsets : List ℕ) (image : Defined) (n count first at place size : ℕ)
    (last : BlockView) (entry : ArrayVec ℕ) (loads : ArrayVec Load) → Ok offsets ≡ loop_offsets (loop_of w)
    → Ok image ≡ defined_in cpu w → n ≡ length w → Ok loads.items ≡ map_answer in_flash n image.block image.def
    → slice_get offsets 0 ≡ Some first → count ≡ length offsets
    → ((loop : List BlockView) → loop_of w ≡ Ok loop → slice_get loop (count - 1) ≡ Some last)
    → at ≡ last.at → place ≡ last.at → size ≡ block_size last → entry.items ≡ copied_words image.block
    → Ok (record { first = first; last = at; link_at = place + (size - 8); entry = entry; loads = loads })
    ≡ parts_in cpu w
parts_in-kept w cpu offsets image n count first at place size last entry loads walked defined long mapped begins counted
    ends at_is place_is size_is entry_is =
    let ended : (loop : List BlockView) → loop_of w ≡ Ok loop → slice_get loop (length offsets - 1) ≡ Some last =
    λ loop closed. subst (λ (k : ℕ). slice_get loop (k - 1) ≡ Some last) counted (ends loop closed) in
    let with_entry : List ℕ → Result Parts Why = λ xs. Ok (record {
      first = first;
      last = last.at;
      link_at = last.at + (block_size last - 8);
      entry = record { items = xs };
      loads = loads;
    }) in
    rw (at_is, place_is, size_is) (ap with_entry entry_is)
    ∙ parts_in-read w cpu offsets image loads.items n first last walked defined long mapped begins ended
