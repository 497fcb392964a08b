use Rattle.std.proofs.Common.{◌∙◌, ◌==◌, ℕ, ap, map, refl, subst, sym}
use Rattle.std.specs.Prelude.{Ok}
use Rattle.boot_script.specs.Events.{EventView, event_from}
use Rattle.script_words.specs.Made.{HasPattern, record_from}
use Rattle.script_words.specs.Splitting.{first_words, word_bytes}
use Rattle.script_text.specs.Reading.{state_from, words_step}
use Rattle.script_text.proofs.LineLemmas.{few-words, some-words, words-pattern}
use Rattle.script_text.proofs.ProgressLemmas.{reads-added, reads-end}
use Rattle.script_text.proofs.ReadLemmas.{step-end, step-event}
use Rattle.script_text.proofs.reading.add_line.Goals as goal

pub read_words-requires : goal.read_words-requires
read_words-requires c =
    few-words c.deref.result.now c.args.line.now (ap (map word_bytes) c.deref.ensures.value ∙ c.in-Ok.ensures)

pub returns-then-is_end-clause-ok : goal.returns-then-is_end-clause-ok
returns-then-is_end-clause-ok c =
    let image = c.args.image.now in
    let line = c.args.line.now in
    let is = ap (map word_bytes) c.deref.ensures.value ∙ c.in-Ok.ensures in
    let says = rw c.in-Ok-Ok.field-0-is at c.in-Ok-Ok.ensures in
    let gives = ap (words_step image c.args.begun.now.next) (sym is) ∙ sym says ∙ ap Ok (sym c.event-event.ensures) in
    reads-end image c.args.number c.args.begun.now line _
    (step-end image (state_from c.args.begun.now) (first_words line) (event_from c.event-event.result)
    (some-words c.deref.result.now line is
    (ap (λ (n : ℕ). n == 0) c.deref.ensures.len ∙ sym c.is_empty.ensures ∙ c.if-is_empty.false)) c.if-begun.false
    gives (sym c.is_end.ensures ∙ c.if-is_end.true)) refl refl

pub add_event-requires-clause-pattern : goal.add_event-requires-clause-pattern
add_event-requires-clause-pattern c =
    let says = rw c.in-Ok-Ok.field-0-is at c.in-Ok-Ok.ensures in
    subst (λ (e : EventView). HasPattern e) (sym c.event-event.ensures)
    (words-pattern c.args.image.now c.args.begun.now.next (map word_bytes c.deref.result.now)
    (record_from c.in-Ok-Ok.record) (sym says))

pub returns-clause-ok : goal.returns-clause-ok
returns-clause-ok c =
    let image = c.args.image.now in
    let line = c.args.line.now in
    let is = ap (map word_bytes) c.deref.ensures.value ∙ c.in-Ok.ensures in
    let says = rw c.in-Ok-Ok.field-0-is at c.in-Ok-Ok.ensures in
    let gives = ap (words_step image c.args.begun.now.next) (sym is) ∙ sym says ∙ ap Ok (sym c.event-event.ensures) in
    reads-added c.add_event.result image c.args.number c.args.begun.now line c.add_event.new.begun
    (event_from c.event-event.result)
    (step-event image (state_from c.args.begun.now) (first_words line) (event_from c.event-event.result)
    (some-words c.deref.result.now line is
    (ap (λ (n : ℕ). n == 0) c.deref.ensures.len ∙ sym c.is_empty.ensures ∙ c.if-is_empty.false)) c.if-begun.false
    gives (sym c.is_end.ensures ∙ c.if-is_end.false))
    c.add_event.ensures.fits c.add_event.ensures.adds c.add_event.ensures.inside c.add_event.ensures.state
