use Rattle.std.proofs.Common.{◌/◌, length}
use Rattle.cli_scripts.specs.Copies.{blocks_in}
use Rattle.cli_scripts.proofs.BlockLemmas.{copied-whole}
use Rattle.cli_scripts.proofs.copying.copy_script.Goals as goal

pub returns : goal.returns
returns c =
    copied-whole (blocks_in (length c.args.uf2.now / 512) c.args.uf2.now) _ _ _ _ _ c.new-script.ensures.items
    c.in_ok-write_event.ensures.ok c.in_ok-write_event-2.ensures.ok c.in_ok-push_blocks.ensures
    c.in_ok-write_event-3.ensures.ok
