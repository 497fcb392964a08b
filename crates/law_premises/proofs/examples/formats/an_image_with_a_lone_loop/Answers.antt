use Rattle.std.proofs.Common.{◌≡◌, ℕ, List, refl, sym, subst}
use Rattle.block_codec.specs.Blocks.{BlockView}
use Rattle.block_codec.specs.Words.{word_bytes}
use Rattle.block_loop.specs.Loop.{IsLoop}
use Rattle.block_loop.proofs.SameLoopLemmas.{IsLoop-unique}
use Rattle.image_pack.specs.Filling.{whole_sectors}
use Rattle.boot_sweep.specs.Firms.{HasNoOtherBlock}
use Rattle.law_plans.specs.Examples.{crowded, firm}
use Rattle.law_premises.proofs.examples.formats.an_image_with_a_lone_loop.Goals as goal

firm-whole : firm ≡ whole_sectors firm
unfolding word_bytes
firm-whole = refl

crowded-whole : crowded ≡ whole_sectors crowded
unfolding word_bytes
crowded-whole = refl

pub returns-clause-lone : goal.returns-clause-lone
returns-clause-lone c =
    let f = c.a_firm_image.ensures in
    subst (λ (bytes : List ℕ). (loop : List BlockView) → IsLoop bytes loop → HasNoOtherBlock bytes loop) firm-whole
    (λ loop closes. subst (HasNoOtherBlock firm)
    (IsLoop-unique firm f.held.sound.loop loop f.held.sound.defined.closes closes)
    f.alone)

pub returns-clause-crowded : goal.returns-clause-crowded
returns-clause-crowded c = λ lone.
    let p = c.an_image_with_another_block.ensures in
    let here = subst (λ (bytes : List ℕ). (loop : List BlockView) → IsLoop bytes loop → HasNoOtherBlock bytes loop)
    (sym crowded-whole) lone in
    p.3 (here p.0.sound.loop p.0.sound.defined.closes)
