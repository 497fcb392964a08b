use Rattle.std.proofs.Common.{◌*◌, ◌/◌, ◌≤◌, subst}
use Rattle.pico_board.specs.MemBoard.{state_of}
use Rattle.check_images.proofs.FlashLemmas.{differs, is-end, sector-more, whole-same}
use Rattle.check_images.proofs.comparing.has_other_flash.Goals as goal

pub loop-sector-preserved : goal.loop-sector-preserved
loop-sector-preserved c =
    let inv = c.loop-sector.invariant in record {
      long = inv.long;
      same = sector-more (state_of c.args.end.now).content.flash (state_of c.args.start.now).content.flash
          c.loop-sector.sector inv.same (c.is_same_sector.ensures.0 c.if-not-is_same_sector.false);
    }

pub returns-then-not-is_same_sector : goal.returns-then-not-is_same_sector
returns-then-not-is_same_sector c =
    differs (state_of c.args.end.now).content.flash (state_of c.args.start.now).content.flash
    (4096 * c.loop-sector.sector) 4096 c.is_same_sector.result c.is_same_sector.ensures c.if-not-is_same_sector.true

pub returns : goal.returns
returns c =
    let inv = c.loop-sector.invariant in
    whole-same (state_of c.args.end.now).content.flash (state_of c.args.start.now).content.flash
    c.loop-sector.sector inv.long inv.same
    (is-end (state_of c.args.start.now).content c.loop-sector.sector c.args.start.now.sizes
    (subst (λ n. n / 4096 ≤ c.loop-sector.sector) c.flash_len-sector-end.ensures c.loop-sector-test.false))
