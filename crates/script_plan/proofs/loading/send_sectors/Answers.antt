use Rattle.std.proofs.Common.{◌≡◌, ◌++◌, ◌∙◌, length, ap, arith, subst}
use Rattle.std.specs.List.{flat_map, range_with_len}
use Rattle.boot_script.specs.Written.{written_event}
use Rattle.script_plan.specs.Loads.{sector_commands, sector_count, sector_events}
use Rattle.script_plan.proofs.LoadLemmas.{bytes-more}
use Rattle.script_plan.proofs.loading.send_sectors.Goals as goal

pub loop-k-preserved : goal.loop-k-preserved
loop-k-preserved c =
    bytes-more c.args.at c.args.image.now c.loop-k.k c.args.out.now.items c.loop-k.out.items _ c.loop-k.invariant
    (c.in_ok-send_sector.ensures
    ∙ ap (λ bytes. c.loop-k.out.items ++ flat_map written_event (sector_commands c.args.at c.loop-k.k bytes))
    (c.deref.ensures.value ∙ c.in_ok-sector.ensures.bytes))

pub returns : goal.returns
returns c =
    let last : c.loop-k.k ≡ sector_count (length c.args.image.now) =
    omega (arith, c.loop-k-test.false, c.loop-k.auto.k-end, c.requires.count) in
    subst (λ n. c.loop-k.out.items ≡ c.args.out.now.items
    ++ flat_map written_event (flat_map (sector_events c.args.at c.args.image.now) (range_with_len 0 n))) last
    c.loop-k.invariant
