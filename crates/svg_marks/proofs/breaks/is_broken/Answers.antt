use Rattle.std.proofs.Common.{◌+◌, ◌∙◌, ap}
use Rattle.std.specs.Prelude.{nat_lt}
use Rattle.std.proofs.lemmas.List.{take_rest}
use Rattle.svg_marks.specs.Breaks.{is_broken, needed}
use Rattle.svg_marks.proofs.breaks.is_broken.Goals as goal

pub returns : goal.returns
unfolding is_broken
returns c =
    ap (λ n. nat_lt 80 (c.args.column + n))
    (c.needed.ensures.exact ∙ ap (λ z. needed c.args.blank z) (take_rest c.args.bytes.now c.args.number))
