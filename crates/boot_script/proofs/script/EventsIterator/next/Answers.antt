use Rattle.std.proofs.Common.{List, length, sym, ◌∙◌, ap, arith, rules}
use Rattle.boot_script.specs.Events.{EventView, event_from}
use Rattle.boot_script.proofs.WalkLemmas.{goes-on}
use Rattle.boot_script.proofs.script.EventsIterator.next.Goals as goal

pub invariant_of-self : goal.invariant_of-self
invariant_of-self c =
    (goes-on c.self.inside.bytes.now c.self.inside.at (event_from c.in-Ok.read.0) c.in-Ok.read.1
    (sym c.in-Ok.ensures.exact) (sym c.is_end.ensures ∙ c.if-is_end.false) c.in-Ok.ensures.inside
    c.self.invariant).walk

pub returns-clause-steps : goal.returns-clause-steps
returns-clause-steps c =
    let on = goes-on c.self.inside.bytes.now c.self.inside.at (event_from c.in-Ok.read.0) c.in-Ok.read.1
    (sym c.in-Ok.ensures.exact) (sym c.is_end.ensures ∙ c.if-is_end.false) c.in-Ok.ensures.inside
    c.self.invariant in
    (sym c.self.view_is ∙ on.first, c.in-Ok.ensures.writable c.self.invariant.short)

pub returns-clause-goes : goal.returns-clause-goes
returns-clause-goes c =
    let on = goes-on c.self.inside.bytes.now c.self.inside.at (event_from c.in-Ok.read.0) c.in-Ok.read.1
    (sym c.in-Ok.ensures.exact) (sym c.is_end.ensures ∙ c.if-is_end.false) c.in-Ok.ensures.inside
    c.self.invariant in
    let size = ap (λ (es : List EventView). length es) c.self.view_is in
    record { on = λ ends. (tt, tt, omega (arith, on.fewer, size)); keeps = tt; rests = search rules }
