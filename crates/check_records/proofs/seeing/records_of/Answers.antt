use Rattle.boot_script.specs.Scripts.{script_events}
use Rattle.check_records.proofs.SightLemmas.{found-told}
use Rattle.check_records.proofs.seeing.records_of.Goals as goal

pub returns : goal.returns
returns g =
    found-told g.records_seen.result (script_events g.args.script.now.bytes.now) g.deref.result.now g.args.trace.now
    g.records_seen.ensures g.deref.ensures.value
