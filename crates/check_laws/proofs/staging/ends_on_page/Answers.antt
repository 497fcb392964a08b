use Rattle.check_laws.proofs.StagingLemmas.{ends-by}
use Rattle.check_laws.proofs.staging.ends_on_page.Goals as goal

pub returns-in-Some : goal.returns-in-Some
returns-in-Some c =
    ends-by c.args.page c.args.steps.now c.in-Some.before.now c.in-Some.last.now c.in-Some.ensures.cases
    c.ends_with.result c.ends_with.ensures
