-- The blocks of a loop, by the offsets at which they stand.
use Rattle.std.proofs.Common.{◌≡◌, ℕ, List, length, slice_get, Option, Some, None, Result, Ok, refl, sym, ap, ◌∙◌, subst}
use Rattle.std.specs.Option.{option_map}
use Rattle.std.proofs.lemmas.List.{length-map}
use Rattle.std.proofs.lemmas.Option.{slice_get-map}
use Rattle.block_codec.specs.Blocks.{BlockView}
use Rattle.block_codec.specs.Reading.{block_at}
use Rattle.block_codec.proofs.AtLemmas.{block_at-stands}
use Rattle.block_loop.specs.declared.fault.LoopFault.{LoopFault}
use Rattle.block_loop.specs.Loop.{IsLoop, loop_of}
use Rattle.block_loop.specs.Offsets.{AreLoop, offsets_of}
use Rattle.block_loop.proofs.ChainLemmas.{Says, loop_of-loop, loop_of-says}

is-loop : (w : List ℕ) (bs : List BlockView) → loop_of w ≡ Ok bs → IsLoop w bs
is-loop w bs h = subst (Says w) h (loop_of-says w)

abbrev found-loop : List BlockView → Result (List BlockView) LoopFault
found-loop bs = Ok bs

-- the offsets are those of the one loop
the-loop : (w offsets : List ℕ) → AreLoop w offsets → (loop : List BlockView) → loop_of w ≡ Ok loop
    → offsets_of loop ≡ offsets
the-loop w offsets are loop is =
    let found = are.blocks in
    let same : loop ≡ found.0 = same-loop loop found.0 (sym is ∙ loop_of-loop w found.0 found.1) in
    ap offsets_of same ∙ found.2
  where
    same-loop : (xs ys : List BlockView) → found-loop xs ≡ found-loop ys → xs ≡ ys
    same-loop xs ys h = cc

mapped : (o : Option BlockView) (x : ℕ) → option_map (λ (b : BlockView). b.at) o ≡ Some x
    → (b : BlockView) × (o ≡ Some b) × (b.at ≡ x)
mapped None x h = cc
mapped (Some b) x h = (b, refl, cc)

-- the block at a place of the loop stands at the offset there
pub at-place : (w offsets : List ℕ) (i x : ℕ) → AreLoop w offsets → slice_get offsets i ≡ Some x
    → (loop : List BlockView) → loop_of w ≡ Ok loop
    → (b : BlockView) × (slice_get loop i ≡ Some b) × (block_at w x ≡ Some b)
at-place w offsets i x are at loop is =
    let same = the-loop w offsets are loop is in
    let here : option_map (λ (b : BlockView). b.at) (slice_get loop i) ≡ Some x =
    sym (slice_get-map (λ (b : BlockView). b.at) loop i) ∙ ap (λ (xs : List ℕ). slice_get xs i) same ∙ at in
    let b = mapped (slice_get loop i) x here in
    let stands = (is-loop w loop is).chain.stand i b.0 b.1 in
    (b.0, b.1, ap (block_at w) (sym b.2) ∙ block_at-stands w b.0.at b.0 stands)

-- some block stands at each offset of the loop
pub stands-at : (w offsets : List ℕ) (i x : ℕ) → AreLoop w offsets → slice_get offsets i ≡ Some x
    → (b : BlockView) × (block_at w x ≡ Some b)
stands-at w offsets i x are at =
    let found = are.blocks in
    let b = at-place w offsets i x are at found.0 (loop_of-loop w found.0 found.1) in
    (b.0, b.2)

-- the loop has as many blocks as offsets
pub as-many : (w offsets : List ℕ) → AreLoop w offsets → (loop : List BlockView) → loop_of w ≡ Ok loop
    → length loop ≡ length offsets
as-many w offsets are loop is = sym (length-map loop (λ (b : BlockView). b.at))
    ∙ ap length (the-loop w offsets are loop is)
