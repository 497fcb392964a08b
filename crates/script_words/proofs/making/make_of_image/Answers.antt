use Rattle.std.proofs.Common.{◌∙◌, List, ℕ, ap, map, sym}
use Rattle.script_words.specs.Made.{made_command}
use Rattle.script_words.specs.Values.{value_from}
use Rattle.script_words.proofs.ListLemmas.{image-other}
use Rattle.script_words.proofs.making.make_of_image.Goals as goal

pub returns-in_ok-payload-in_default : goal.returns-in_ok-payload-in_default
returns-in_ok-payload-in_default c =
    let values = map value_from c.args.values.now in
    c.make_command.ensures
    ∙ ap (λ (p : List ℕ). made_command c.args.row values c.args.token p) c.in_ok-payload-in_default.ensures
    ∙ sym (image-other c.args.row values c.args.token c.args.bytes.now c.in_default.not-ImageBlock)
