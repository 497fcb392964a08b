-- What callers of a walk get from its answer: the blocks of the loop, by their offsets.
use Rattle.std.proofs.Common.{◌≡◌, ℕ, zero, suc, ◌≤◌, List, [], ◌∷◌, length, Some, Result, Ok, Err, refl, sym, ap, ◌∙◌}
use Rattle.std.proofs.lemmas.List.{length-map}
use Rattle.std.proofs.lemmas.Option.{none-some, same_Some}
use Rattle.std.specs.List.{slice_get}
use Rattle.block_codec.specs.Blocks.{BlockView}
use Rattle.block_codec.specs.Reading.{block_at}
use Rattle.block_codec.proofs.AtLemmas.{block_at-stands}
use Rattle.block_loop.specs.Loop.{loop_of}
use Rattle.block_loop.specs.Offsets.{offsets_of, loop_offsets}
use Rattle.block_loop.specs.declared.fault.LoopFault.{LoopFault}
use Rattle.block_loop.proofs.SameLoopLemmas.{IsLoop-from_answer}

loop_by : (w offsets : List ℕ) (r : Result (List BlockView) LoopFault) → loop_of w ≡ r → Ok offsets ≡ loop_offsets r
    → (bs : List BlockView) × (loop_of w ≡ Ok bs) × (offsets ≡ offsets_of bs)
loop_by w offsets (Ok bs) e is = (bs, e, cc)
loop_by w offsets (Err f) e is = cc

-- the loop whose offsets a walk answered
pub loop_of-offsets : (w offsets : List ℕ) → Ok offsets ≡ loop_offsets (loop_of w)
    → (bs : List BlockView) × (loop_of w ≡ Ok bs) × (offsets ≡ offsets_of bs)
loop_of-offsets w offsets is = loop_by w offsets (loop_of w) refl is

fault_by : (w : List ℕ) (f : LoopFault) (r : Result (List BlockView) LoopFault) → loop_of w ≡ r
    → Err f ≡ loop_offsets r → loop_of w ≡ Err f
fault_by w f (Ok bs) e is = cc
fault_by w f (Err g) e is = e ∙ (let same : g ≡ f = cc in ap Err same)

-- the fault that a walk answered
pub loop_of-answer : (w : List ℕ) (f : LoopFault) → Err f ≡ loop_offsets (loop_of w) → loop_of w ≡ Err f
loop_of-answer w f is = fault_by w f (loop_of w) refl is

block_of_offset : (bs : List BlockView) (i x : ℕ) → slice_get (offsets_of bs) i ≡ Some x
    → (b : BlockView) × (slice_get bs i ≡ Some b) × (b.at ≡ x)
block_of_offset [] i x at = absurd (none-some x at)
block_of_offset (b ∷ bs) zero x at = (b, refl, same_Some b.at x at)
block_of_offset (b ∷ bs) (suc i) x at = block_of_offset bs i x at

-- the block at an offset of the loop is found there
pub loop_block : (w : List ℕ) (bs : List BlockView) (i x : ℕ) → loop_of w ≡ Ok bs
    → slice_get (offsets_of bs) i ≡ Some x →
    (b : BlockView) × (slice_get bs i ≡ Some b) × (b.at ≡ x) × (block_at w x ≡ Some b)
loop_block w bs i x answer at =
    let (b, here, is) = block_of_offset bs i x at in
    let stands = (IsLoop-from_answer w bs answer).chain.stand i b here in
    (b, here, is, ap (block_at w) (sym is) ∙ block_at-stands w b.at b stands)

-- there are as many offsets as blocks
pub length-offsets_of : (bs : List BlockView) → length (offsets_of bs) ≡ length bs
length-offsets_of bs = length-map bs (λ (b : BlockView). b.at)

-- a loop has 1 to 32 blocks
pub loop_count : (w : List ℕ) (bs : List BlockView) → loop_of w ≡ Ok bs → (1 ≤ length bs) × (length bs ≤ 32)
loop_count w bs answer = let chain = (IsLoop-from_answer w bs answer).chain in (chain.some, chain.few)
