use Rattle.std.proofs.Common.{◌≡◌, length, arith}
use Rattle.script_plan.specs.Loads.{sector_count}
use Rattle.script_plan.proofs.LoadLemmas.{bytes-rest}
use Rattle.script_plan.proofs.loading.send_writes.Goals as goal

pub returns : goal.returns
returns c =
    let all : c.div_ceil-count.result ≡ sector_count (length c.args.image.now) =
    omega (arith, c.div_ceil-count.ensures) in
    bytes-rest c.args.at c.args.image.now c.send_boot.result c.div_ceil-count.result c.args.out.now.items _ _
    all c.in_ok-send_sectors.ensures c.send_boot.ensures
