use Rattle.std.proofs.Common.{◌∙◌}
use Rattle.boot_session.specs.Scripts.{content_of, script_session}
use Rattle.boot_sweep.proofs.ToldLemmas.{as-many-cuts, text-of-results}
use Rattle.boot_sweep.proofs.script.swept_text.Goals as goal

pub results_text-requires : goal.results_text-requires
results_text-requires c =
    let start = content_of c.args.flash.now.items c.args.otp.now.items in record {
      same = as-many-cuts start c.args.cpu c.args.pattern.now (script_session start c.args.cpu c.args.script.now)
          c.in-Ok.found c.in-Ok.ensures.found;
    }

pub returns-in-Ok-results_text-clause-text : goal.returns-in-Ok-results_text-clause-text
returns-in-Ok-results_text-clause-text c =
    let start = content_of c.args.flash.now.items c.args.otp.now.items in
    c.in-Ok-results_text.ensures
    ∙ text-of-results start c.args.cpu c.args.pattern.now (script_session start c.args.cpu c.args.script.now)
    c.in-Ok.found c.in-Ok.ensures.found
