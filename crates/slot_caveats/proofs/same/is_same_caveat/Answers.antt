use Rattle.std.proofs.Common.{◌≡◌, ap, sym, true, ◌∙◌}
use Rattle.slot_caveats.specs.Same.{caveat_code, is_same_code}
use Rattle.slot_caveats.proofs.SameLemmas.{same-decides}
use Rattle.slot_caveats.proofs.same.is_same_caveat.Goals as goal

pub returns-clause-same : goal.returns-clause-same
returns-clause-same c =
    let same = same-decides c.args.one.now c.args.other.now in
    let is = c.is_same_code.ensures
    ∙ (ap (λ x. is_same_code x c.caveat_code-2.result) c.caveat_code.ensures
    ∙ ap (λ x. is_same_code (caveat_code c.args.one.now) x) c.caveat_code-2.ensures) in
    (λ e. same.0 (sym is ∙ e), λ e. is ∙ same.1 e)
