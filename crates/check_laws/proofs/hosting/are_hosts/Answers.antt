use Rattle.std.proofs.Common.{◌∙◌, ap, drop, false, refl, sym, true}
use Rattle.std.proofs.lemmas.List.{drop_all}
use Rattle.boot_script.specs.Events.{event_from}
use Rattle.check_laws.specs.Hosting.{are_hosts, ends}
use Rattle.check_laws.proofs.NotedLemmas.{hosts-end, hosts-more}
use Rattle.check_laws.proofs.hosting.are_hosts.Goals as goal

pub returns-then-not-fits : goal.returns-then-not-fits
returns-then-not-fits c =
    hosts-more c.loop-note.over (ends (event_from c.in-Some.event) c.note-item.result) false
    (are_hosts false c.args.events c.args.notes.now) c.loop-note.left c.next.new.self (event_from c.in-Some.event)
    c.args.notes.now c.loop-note.note-index c.note-item.result c.loop-note-test.true c.note-item.is
    c.in-Some.ensures.steps.0 (sym c.fits.ensures ∙ c.if-not-fits.true) refl c.loop-note.invariant

pub loop-note-preserved : goal.loop-note-preserved
loop-note-preserved c =
    hosts-more c.loop-note.over c.ends-over.result true (are_hosts false c.args.events c.args.notes.now) c.loop-note.left
    c.next.new.self (event_from c.in-Some.event) c.args.notes.now c.loop-note.note-index c.note-item.result
    c.loop-note-test.true c.note-item.is c.in-Some.ensures.steps.0 (sym c.fits.ensures ∙ c.if-not-fits.false)
    c.ends-over.ensures c.loop-note.invariant

pub returns-in-None : goal.returns-in-None
returns-in-None c =
    sym (ap (λ es. are_hosts c.loop-note.over es (drop c.loop-note.note-index c.args.notes.now)) c.in-None.ensures.steps.0)
    ∙ c.loop-note.invariant

pub returns : goal.returns
returns c =
    hosts-end c.loop-note.over c.loop-note.left
    ∙ (sym (ap (are_hosts c.loop-note.over c.loop-note.left)
    (drop_all c.loop-note.note-index c.args.notes.now c.loop-note-test.false)) ∙ c.loop-note.invariant)
