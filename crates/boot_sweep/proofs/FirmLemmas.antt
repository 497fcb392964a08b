-- What the parts of the question say of a firm image.
use Rattle.std.proofs.Common.{◌≡◌, inl, inr, ℕ, ◌+◌, ◌*◌, ◌<◌, ◌≤◌, List, length, map, slice_get, Ok, Some, option_map, sym, ap, ◌∙◌, subst, arith}
use Rattle.std.specs.Prelude.{Contains, IsSome, Result}
use Rattle.std.proofs.lemmas.Bool.{cases_lt}
use Rattle.std.proofs.lemmas.Option.{get_or_from_slice_get, same_Some, slice_get-get_or, slice_get-map, slice_get_within}
use Rattle.block_codec.specs.Blocks.{BlockAt, BlockView}
use Rattle.block_codec.proofs.AtLemmas.{block_at-stands}
use Rattle.block_loop.specs.declared.fault.LoopFault.{LoopFault}
use Rattle.block_loop.specs.Loop.{loop_of}
use Rattle.block_loop.specs.Offsets.{AreLoop}
use Rattle.block_loop.proofs.ChainLemmas.{loop_of-loop}
use Rattle.block_loop.proofs.PlaceLemmas.{at-place}
use Rattle.load_map.specs.declared.load.Load.{Load}
use Rattle.pico_board.specs.declared.boot.Cpu.{Cpu}
use Rattle.image_def.specs.declared.started.Started.{Started}
use Rattle.image_check.specs.declared.examining.Defined.{Defined}
use Rattle.image_check.specs.Addressing.{in_flash}
use Rattle.image_check.specs.Image.{defined_in}
use Rattle.image_check.specs.Rules.{map_answer}
use Rattle.image_check.specs.SameImage.{HoldsImage}
use Rattle.image_check.proofs.SameLemmas.{held-loop, the-image, the-loads}
use Rattle.boot_sweep.specs.Firms.{HasNoOtherBlock, IsFirm, LoadsFront}

same-loop : (x y : List BlockView) (r : Result (List BlockView) LoopFault) → r ≡ Ok x → r ≡ Ok y → x ≡ y
same-loop x y r e f = cc

module _ (cpu : Cpu) (bytes : List ℕ) (s : Started) (image : Defined) (loads : List Load)
    (is : defined_in cpu bytes ≡ Ok image)
    (loaded : map_answer in_flash (length bytes) image.block image.def ≡ Ok loads)
  where
    -- each loop of the window has all blocks of its first sector
    abbrev pub Alone : Type 0
    Alone = (loop : List BlockView) → loop_of bytes ≡ Ok loop → HasNoOtherBlock bytes loop

    pub firm-is : HoldsImage cpu bytes s → 4096 ≤ s.block → IsSome image.def.digest → LoadsFront s.block loads → Alone
        → IsFirm cpu bytes s
    firm-is h late hashed front alone = record {
      held = h;
      late = late;
      hashed = subst (λ (i : Defined). IsSome i.def.digest) (sym (the-image cpu bytes s h image is)) hashed;
      front = subst (λ ls. LoadsFront s.block ls) (sym (the-loads cpu bytes s h image is loads loaded)) front;
      alone = alone h.sound.loop (held-loop cpu bytes s h);
    }

    pub is-firm : IsFirm cpu bytes s → (4096 ≤ s.block) × IsSome image.def.digest × LoadsFront s.block loads × Alone
    is-firm f = (
      f.late,
      subst (λ (i : Defined). IsSome i.def.digest) (the-image cpu bytes s f.held image is) f.hashed,
      subst (λ ls. LoadsFront s.block ls) (the-loads cpu bytes s f.held image is loads loaded) f.front,
      λ loop closes. subst (λ bs. HasNoOtherBlock bytes bs)
          (same-loop f.held.sound.loop loop (loop_of bytes) (held-loop cpu bytes s f.held) closes) f.alone,
    )

-- an element, by its place
pub contains-at : {X : Type 0} (xs : List X) (i : ℕ) (x : X) → slice_get xs i ≡ Some x → Contains xs x
contains-at xs i x at = (i, slice_get_within xs i x at, get_or_from_slice_get xs i x x at)

pub contains-place : {X : Type 0} (xs : List X) (x : X) → Contains xs x → (k : ℕ) × (slice_get xs k ≡ Some x)
contains-place xs x has = (has.0, slice_get-get_or xs has.0 x has.1 ∙ ap Some has.2)

module _ (w offsets : List ℕ) (are : AreLoop w offsets) (loop : List BlockView) (closes : loop_of w ≡ Ok loop) where
  -- a block of the loop, by its offset
  pub block-in-loop : (x : ℕ) (b : BlockView) → BlockAt w x b → Contains offsets x → Contains loop b
  block-in-loop x b stands has =
      let place = contains-place offsets x has in
      let found = at-place w offsets place.0 x are place.1 loop closes in
      let same : found.0 ≡ b = same_Some found.0 b (sym found.2 ∙ block_at-stands w x b stands) in
      contains-at loop place.0 b (found.1 ∙ ap Some same)

  pub place-in-loop : (x : ℕ) (b : BlockView) → BlockAt w x b → Contains loop b → Contains offsets x
  place-in-loop x b stands has =
      let place = contains-place loop b has in
      let blocks = are.blocks in
      let same : blocks.0 ≡ loop = same-loop blocks.0 loop (loop_of w) (loop_of-loop w blocks.0 blocks.1) closes in
      let offsets-are : map (λ (b : BlockView). b.at) loop ≡ offsets =
      sym (ap (map (λ (b : BlockView). b.at)) same) ∙ blocks.2 in
      contains-at offsets place.0 x
      (sym (ap (λ xs. slice_get xs place.0) offsets-are)
      ∙ (slice_get-map (λ (b : BlockView). b.at) loop place.0
      ∙ (ap (option_map (λ (b : BlockView). b.at)) place.1 ∙ ap Some stands.placed)))

  pub none-other : ((x : ℕ) (b : BlockView) → x < 4096 → BlockAt w x b → Contains offsets x) → HasNoOtherBlock w loop
  none-other all = λ x b low stands. block-in-loop x b stands (all x b low stands)

-- one offset more
pub others-more : (w offsets : List ℕ) (i : ℕ)
    → ((x : ℕ) (b : BlockView) → x < 4 * i → BlockAt w x b → Contains offsets x)
    → ((b : BlockView) → BlockAt w (4 * i) b → Contains offsets (4 * i))
    → (x : ℕ) (b : BlockView) → x < 4 * (i + 1) → BlockAt w x b → Contains offsets x
others-more w offsets i all here x b low stands = elim (cases_lt x (4 * i)) [
  | inl lt ↦ all x b lt stands
  | inr ge ↦
      let aligned = stands.aligned in
      let same : 4 * i ≡ x = omega (arith, aligned, ge, low) in
      subst (Contains offsets) same (here b (subst (λ y. BlockAt w y b) (sym same) stands))
]
