-- Where the first block's page is erased, no loop closes.
use Rattle.std.proofs.Common.{◌≡◌, ℕ, zero, suc, ◌<◌, List, [], ◌∷◌, length, slice_index, get_or, Some, sym, ap, ◌∙◌, subst, arith}
use Rattle.std.specs.Prelude.{slice_get}
use Rattle.block_codec.specs.Blocks.{BlockAt, BlockView}
use Rattle.block_codec.proofs.AtLemmas.{BlockAt-unique, no_block_at_erased}
use Rattle.block_loop.specs.Cycles.{BeginsAmong, IsSameCycle, KeepsLinks}
use Rattle.block_loop.specs.Loop.{IsFirstBlock, IsLoop}
use Rattle.block_loop.proofs.ChainLemmas.{first_block-stands, some_at}
use Rattle.block_loop.proofs.CycleLemmas.{IsSameCycle-from_links}
use Rattle.boot_sweep.specs.Firms.{HasNoOtherBlock}

-- an element of a list stands at a place of it
stands-at : (xs : List BlockView) (x : BlockView) (k : ℕ) → k < length xs → get_or xs k x ≡ x → slice_get xs k ≡ Some x
stands-at [] x k lt is = absurd (omega (arith, lt))
stands-at (y ∷ xs) x zero lt is = ap Some is
stands-at (y ∷ xs) x (suc k) lt is = stands-at xs x k (omega (arith, lt)) is

-- u is the finished window; where a block stands in v, one with its link stands in u
module _ (u v : List ℕ)
    (like : (x : ℕ) (b : BlockView) → BlockAt v x b → (a : BlockView) × BlockAt u x a × (a.link ≡ b.link)) where
  -- the block of u at a place has the link of the one of v
  link-at : (a b : BlockView) (x : ℕ) → BlockAt u x a → BlockAt v x b → b.link ≡ a.link
  link-at a b x one two =
      let found = like x b two in
      let same : found.0 ≡ a = BlockAt-unique u x found.0 a found.1 one in
      sym found.2 ∙ ap (λ (y : BlockView). y.link) same

  module _ (loop cs : List BlockView) (closes : IsLoop u loop) (other : IsLoop v cs) (alone : HasNoOtherBlock u loop) where
    begins-among : BeginsAmong loop cs
    begins-among = record {
      begins = λ c first.
          let is = other.chain.first c first in
          let found = like c.at c is.stands in
          let held = alone c.at found.0 is.low found.1 in (
            held.0,
            found.0,
            stands-at loop found.0 held.0 held.1 held.2,
            sym found.1.placed,
          );
    }

    keeps : KeepsLinks loop v
    keeps = record { links = λ i b c here there. link-at b c b.at (closes.chain.stand i b here) there }

    cycle : IsSameCycle loop cs
    cycle = IsSameCycle-from_links u v loop cs closes other begins-among keeps

    -- so the first block of v stands where that of u does
    same-first : (first : BlockView) → IsFirstBlock u first → (c : BlockView) × BlockAt v first.at c
    same-first first begins =
        let one = some_at loop 0 (let some = closes.chain.some in omega (arith, some)) in
        let two = some_at cs 0 (let some = other.chain.some in omega (arith, some)) in
        let place = (cycle.each 0 one.0 two.0 one.1 two.1).place in
        let same : Some one.0 ≡ Some first =
        sym (first_block-stands u one.0 (closes.chain.first one.0 one.1)) ∙ first_block-stands u first begins in
        let is : one.0 ≡ first = cc in (
          two.0,
          subst (λ y. BlockAt v y two.0) (place ∙ ap (λ (y : BlockView). y.at) is)
              (other.chain.stand 0 two.0 two.1),
        )

    pub no-loop : (first : BlockView) → IsFirstBlock u first → slice_index v first.at ≡ 255 → ⊥
    no-loop first begins erased =
        let there = same-first first begins in no_block_at_erased v first.at there.0 erased there.1
