use Rattle.std.proofs.Common.{◌≡◌, ap, sym, ◌∙◌}
use Rattle.serde_json.specs.View.{view}
use Rattle.check_require.specs.Requires.{require_answer, require_of_value}
use Rattle.check_require.proofs.RuleLemmas.{require_judged}
use Rattle.check_require.proofs.reading.read_require.Goals as goal

pub returns-clause-not_json : goal.returns-clause-not_json
returns-clause-not_json c =
    λ is d text.
    let answered : require_answer c.require_in.result ≡ require_of_value (view c.in_ok-value.value) =
    c.require_in.ensures (λ memory. cc) in
    (require_judged (view c.in_ok-value.value)).plain.json (sym answered ∙ ap require_answer is)
