use Rattle.std.proofs.Common.{ap, sym, ◌∙◌}
use Rattle.image_check.specs.Addressing.{in_flash}
use Rattle.image_check.specs.Rules.{map_answer}
use Rattle.image_check.proofs.SameLemmas.{held-loop, answered-err, answered-ok, no-loop-fault, no-map-fault, not-undefined, same-else, same-then}
use Rattle.image_check.proofs.same.same_content.Goals as goal

pub unreachable-requires : goal.unreachable-requires
unreachable-requires g c =
    let one = g.V.View.bytes c.args.one.now in
    no-loop-fault one c.requires.held.sound.loop c.walk.result c.in-Err.field-0
    (held-loop c.args.cpu one c.args.started.now c.requires.held)
    c.walk.ensures.exact c.in-Err.is

pub unreachable-requires-in-Err-defined_in : goal.unreachable-requires-in-Err-defined_in
unreachable-requires-in-Err-defined_in g c =
    not-undefined c.args.cpu (g.V.View.bytes c.args.one.now) c.args.started.now c.requires.held c.defined_in.result
    c.in-Err-defined_in.field-0
    c.defined_in.ensures.exact c.in-Err-defined_in.is

pub unreachable-requires-in-Err-loads_of : goal.unreachable-requires-in-Err-loads_of
unreachable-requires-in-Err-loads_of g c =
    let one = g.V.View.bytes c.args.one.now in
    let image = c.in-Ok-defined_in.image in
    let answered = c.loads_of.ensures.exact ∙ ap (λ n. map_answer in_flash n image.block image.def) c.len.ensures in
    no-map-fault c.args.cpu one c.args.started.now c.requires.held image (sym c.defined_in.ensures.exact
    ∙ c.in-Ok-defined_in.is)
    c.in-Err-loads_of.field-0 (answered-err c.loads_of.result _ c.in-Err-loads_of.field-0 answered c.in-Err-loads_of.is)

pub returns-then-blocks : goal.returns-then-blocks
returns-then-blocks g c =
    let one = g.V.View.bytes c.args.one.now in
    let image = c.in-Ok-defined_in.image in
    let answered = c.loads_of.ensures.exact ∙ ap (λ n. map_answer in_flash n image.block image.def) c.len.ensures in
    same-then c.args.cpu one (g.W.View.bytes c.args.two.now) c.args.started.now image (sym c.defined_in.ensures.exact
    ∙ c.in-Ok-defined_in.is)
    c.in-Ok-loads_of.loads.items (answered-ok c.loads_of.result _ c.in-Ok-loads_of.loads answered c.in-Ok-loads_of.is)
    c.requires.held c.requires.long
    c.same_blocks-blocks.result c.same_storage-storage.result c.same_blocks-blocks.ensures
    c.same_storage-storage.ensures c.if-blocks.true

pub returns-else-blocks : goal.returns-else-blocks
returns-else-blocks g c =
    let one = g.V.View.bytes c.args.one.now in
    let image = c.in-Ok-defined_in.image in
    let answered = c.loads_of.ensures.exact ∙ ap (λ n. map_answer in_flash n image.block image.def) c.len.ensures in
    same-else c.args.cpu one (g.W.View.bytes c.args.two.now) c.args.started.now image (sym c.defined_in.ensures.exact
    ∙ c.in-Ok-defined_in.is)
    c.in-Ok-loads_of.loads.items (answered-ok c.loads_of.result _ c.in-Ok-loads_of.loads answered c.in-Ok-loads_of.is)
    c.requires.held c.requires.long
    c.same_blocks-blocks.result c.same_storage-storage.result c.same_blocks-blocks.ensures
    c.same_storage-storage.ensures c.if-blocks.false
