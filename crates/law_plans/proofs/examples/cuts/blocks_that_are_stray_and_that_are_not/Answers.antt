use Rattle.std.proofs.Common.{◌≡◌, refl, ap, subst, arith, length}
use Rattle.std.proofs.Math.Dec.{lit<}
use Rattle.block_codec.specs.Blocks.{BlockView}
use Rattle.block_codec.specs.Items.{size_of}
use Rattle.block_codec.proofs.AtLemmas.{BlockAt-unique, no_block_at_erased}
use Rattle.pico_board.specs.Content.{window_bytes}
use Rattle.worked_flashes.specs.Flashes.{arm_slot, bare_slot}
use Rattle.worked_flashes.specs.Flashes.{beside_small}
use Rattle.worked_flashes.specs.Choices.{small_slot}
use Rattle.boot_sweep.specs.Firms.{IsStray}
use Rattle.law_plans.proofs.ExampleLemmas.{bare-byte, lone-block, mapped-stands, mapped_block, mapped_bytes, older-stands, plain_block, stands}
use Rattle.law_plans.proofs.examples.cuts.blocks_that_are_stray_and_that_are_not.Goals as goal

pub returns-clause-new : goal.returns-clause-new
returns-clause-new c = (
  plain_block 0x0001000a,
  record {
    low = lit< tt;
    stands = stands;
    new = λ a at like.
        no_block_at_erased (window_bytes (beside_small bare_slot) small_slot) 0x100 a bare-byte at;
  },
)

pub returns-clause-other_items : goal.returns-clause-other_items
returns-clause-other_items c = (
  plain_block 0x0001000a,
  record {
    low = lit< tt;
    stands = stands;
    new = λ a at like.
        let e : length a.items ≡ 4 =
        ap (λ (b : BlockView). length b.items) (BlockAt-unique mapped_bytes 0x100 a mapped_block at mapped-stands) in
        let count : length a.items ≡ 3 = like.count in
        absurd (omega (arith, e, count));
  },
)

never : IsStray (beside_small (arm_slot 0x00010009)) (beside_small (arm_slot 0x0001000a)) small_slot
    (plain_block 0x0001000a) → ⊥
unfolding size_of
never is =
    is.new (plain_block 0x00010009) older-stands (record { place = refl; count = refl; headers = refl; link = refl })

pub returns-clause-other_version : goal.returns-clause-other_version
returns-clause-other_version c = λ stray.
    let e = lone-block stray.0.at stray.0 stray.1.low stray.1.stands in
    never
    (subst (IsStray (beside_small (arm_slot 0x00010009)) (beside_small (arm_slot 0x0001000a)) small_slot) e stray.1)
