use Rattle.std.proofs.Common.{◌++◌, ◌∙◌, sym, ap, arith}
use Rattle.info_reply.proofs.NameLemmas.{name-back}
use Rattle.info_reply.proofs.bytes.put_name.Goals as goal

pub returns : goal.returns
returns c =
    c.put_padded.ensures
    ∙ ap (λ name. c.args.bytes.now.items ++ name)
    (sym (name-back c.args.name.now c.requires.short (λ i. omega (arith, c.type_inv.name i))))
