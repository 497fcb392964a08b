use Rattle.std.proofs.Common.{arith}
use Rattle.std.specs.Option.{option_map}
use Rattle.info_reply.specs.Infos.{info_of}
use Rattle.info_reply.proofs.FittingLemmas.{status-longer, status-fits}
use Rattle.info_reply.proofs.replying.info_put.Goals as goal

pub returns-then-len-from-clause-status : goal.returns-then-len-from-clause-status
returns-then-len-from-clause-status g c =
    status-longer _
    (info_of c.args.device.now c.args.table_slot (option_map (λ t. t.now) c.args.table)
    (option_map (λ t. t.now) c.args.target) c.args.ask.now)
    c.in-Some.bytes.items c.args.cmd.now.transfer c.in-Some.ensures.some c.in-Some.ensures.value
    (omega (arith, c.if-len-from.true, c.len.ensures.value, c.from.ensures))

pub returns-clause-status : goal.returns-clause-status
returns-clause-status g c =
    status-fits _
    (info_of c.args.device.now c.args.table_slot (option_map (λ t. t.now) c.args.table)
    (option_map (λ t. t.now) c.args.target) c.args.ask.now)
    c.in-Some.bytes.items c.args.cmd.now.transfer c.in-Some.ensures.some c.in-Some.ensures.value
    (omega (arith, c.if-len-from.false, c.len.ensures.value, c.from.ensures))
