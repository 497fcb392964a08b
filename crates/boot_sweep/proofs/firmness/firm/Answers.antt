use Rattle.std.proofs.Common.{ap, subst, sym, ◌∙◌}
use Rattle.image_check.specs.Addressing.{in_flash}
use Rattle.image_check.specs.Rules.{map_answer}
use Rattle.image_check.proofs.SameLemmas.{held-loop, answered-err, answered-ok, no-loop-fault, no-map-fault, not-undefined}
use Rattle.boot_sweep.specs.Firms.{LoadsFront}
use Rattle.boot_sweep.proofs.FirmLemmas.{firm-is, is-firm}
use Rattle.boot_sweep.proofs.firmness.firm.Goals as goal

pub unreachable-requires : goal.unreachable-requires
unreachable-requires g c =
    let bytes = g.V.View.bytes c.args.view.now in
    no-loop-fault bytes c.requires.held.sound.loop c.walk.result c.in-Err.field-0
    (held-loop c.args.cpu bytes c.args.started.now c.requires.held) c.walk.ensures.exact c.in-Err.is

pub unreachable-requires-in-Err-defined_in : goal.unreachable-requires-in-Err-defined_in
unreachable-requires-in-Err-defined_in g c =
    not-undefined c.args.cpu (g.V.View.bytes c.args.view.now) c.args.started.now c.requires.held c.defined_in.result
    c.in-Err-defined_in.field-0 c.defined_in.ensures.exact c.in-Err-defined_in.is

pub unreachable-requires-in-Err-loads_of : goal.unreachable-requires-in-Err-loads_of
unreachable-requires-in-Err-loads_of g c =
    let bytes = g.V.View.bytes c.args.view.now in
    let image = c.in-Ok-defined_in.image in
    let answered = c.loads_of.ensures.exact ∙ ap (λ n. map_answer in_flash n image.block image.def) c.len.ensures in
    no-map-fault c.args.cpu bytes c.args.started.now c.requires.held image
    (sym c.defined_in.ensures.exact ∙ c.in-Ok-defined_in.is) c.in-Err-loads_of.field-0
    (answered-err c.loads_of.result _ c.in-Err-loads_of.field-0 answered c.in-Err-loads_of.is)

pub returns-then-is_none : goal.returns-then-is_none
returns-then-is_none g c =
    let bytes = g.V.View.bytes c.args.view.now in
    let image = c.in-Ok-defined_in.image in
    let answered = c.loads_of.ensures.exact ∙ ap (λ n. map_answer in_flash n image.block image.def) c.len.ensures in
    let loaded = answered-ok c.loads_of.result _ c.in-Ok-loads_of.loads answered c.in-Ok-loads_of.is in (
      λ e. cc,
      λ f.
          let parts = is-firm c.args.cpu bytes c.args.started.now image c.in-Ok-loads_of.loads.items
          (sym c.defined_in.ensures.exact ∙ c.in-Ok-defined_in.is) loaded f in
          let hashed = parts.1 in
          let none = c.if-is_none.ensures in
          cc,
    )

pub returns-then-not-loads_front : goal.returns-then-not-loads_front
returns-then-not-loads_front g c =
    let bytes = g.V.View.bytes c.args.view.now in
    let image = c.in-Ok-defined_in.image in
    let answered = c.loads_of.ensures.exact ∙ ap (λ n. map_answer in_flash n image.block image.def) c.len.ensures in
    let loaded = answered-ok c.loads_of.result _ c.in-Ok-loads_of.loads answered c.in-Ok-loads_of.is in (
      λ e. cc,
      λ f.
          let parts = is-firm c.args.cpu bytes c.args.started.now image c.in-Ok-loads_of.loads.items
          (sym c.defined_in.ensures.exact ∙ c.in-Ok-defined_in.is) loaded f in
          let yes = c.loads_front.ensures.1
          (subst (LoadsFront c.args.started.now.block) (sym c.as_slice.ensures.value) parts.2) in
          cc,
    )

pub returns : goal.returns
returns g c =
    let bytes = g.V.View.bytes c.args.view.now in
    let image = c.in-Ok-defined_in.image in
    let answered = c.loads_of.ensures.exact ∙ ap (λ n. map_answer in_flash n image.block image.def) c.len.ensures in
    let loaded = answered-ok c.loads_of.result _ c.in-Ok-loads_of.loads answered c.in-Ok-loads_of.is in
    let is = sym c.defined_in.ensures.exact ∙ c.in-Ok-defined_in.is in
    let loop = c.requires.held.sound.loop in (
      λ e. firm-is c.args.cpu bytes c.args.started.now image c.in-Ok-loads_of.loads.items is loaded c.requires.held
          c.if-started-lt-SECTOR.false c.if-is_none.ensures
          (subst (LoadsFront c.args.started.now.block) c.as_slice.ensures.value
          (c.loads_front.ensures.0 c.if-not-loads_front.false))
          (λ found closes. (c.has_no_other_block.ensures found closes).0 e),
      λ f.
          let closes = held-loop c.args.cpu bytes c.args.started.now c.requires.held in
          let parts = is-firm c.args.cpu bytes c.args.started.now image c.in-Ok-loads_of.loads.items is loaded f in
          (c.has_no_other_block.ensures loop closes).1 (parts.3 loop closes),
    )
