use Rattle.std.proofs.Common.{◌∙◌, ap}
use Rattle.std.specs.Prelude.{◌||◌}
use Rattle.std.specs.List.{list_any}
use Rattle.check_data.specs.Loose.{is_in_load, is_in_span}
use Rattle.check_data.proofs.CodeLemmas.{spans-any}
use Rattle.check_data.proofs.loose.Covering.covers.Goals as goal

pub returns : goal.returns
returns c = λ loop is.
    let loads = c.args.self.now.loads.items in
    c.has.ensures
    ∙ ap (λ x. x || list_any (is_in_load c.args.place) loads)
    (ap (λ spans. list_any (is_in_span c.args.place) spans) is ∙ spans-any loop c.args.place)
