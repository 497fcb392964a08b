use Rattle.std.proofs.Common.{◌∙◌, map, sym}
use Rattle.script_words.specs.Values.{value_from}
use Rattle.script_words.proofs.SaidLemmas.{named-other, named-said}
use Rattle.script_words.proofs.naming.named_command.Goals as goal

pub returns-then-branch : goal.returns-then-branch
returns-then-branch c =
    named-said c.args.next c.args.command.now c.args.payload.now c.in-Ok.cmd c.in-Some.row
    (map value_from c.in_ok-values.values.items) c.told_token-token.result c.in-Ok.ensures c.in-Some.ensures
    c.in_ok-values.ensures c.told_token-token.ensures (sym c.in_ok-is_said.ensures ∙ c.if-branch.true)

pub returns-else-branch : goal.returns-else-branch
returns-else-branch c =
    named-other c.args.next c.args.command.now c.args.payload.now c.in-Ok.cmd c.in-Some.row
    (map value_from c.in_ok-values.values.items) c.told_token-token.result c.in-Ok.ensures c.in-Some.ensures
    c.in_ok-values.ensures c.told_token-token.ensures (sym c.in_ok-is_said.ensures ∙ c.if-branch.false)
