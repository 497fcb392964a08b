use Rattle.std.proofs.Common.{List, length, ap, sym, ◌∙◌, arith}
use Rattle.boot_script.specs.Events.{EventView}
use Rattle.boot_script.proofs.JudgingLemmas.{script-formed}
use Rattle.boot_script.proofs.WalkLemmas.{few-records}
use Rattle.check_records.specs.Caveats.{skipped_from}
use Rattle.check_records.proofs.caveats.skipped_in.Goals as goal

pub loop-event-init : goal.loop-event-init
loop-event-init c =
    let bytes = c.args.script.now.bytes.now in
    let all = sym (c.into_iter-event-iterator.ensures.into_iter_gives ∙ c.events-event-items.ensures) in
    let few = few-records bytes (script-formed bytes c.args.script.now.whole) in
    let size = ap (λ (es : List EventView). length es) all in record {
      few = omega (arith, few, size);
      rest = ap (λ (es : List EventView). skipped_from c.args.len 0 es c.args.notes.now) (sym all);
    }
