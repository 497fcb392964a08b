use Rattle.std.proofs.Common.{ap, ◌∙◌}
use Rattle.uf2_place.specs.Blocks.{uf2_of}
use Rattle.uf2_place.specs.Files.{file_block}
use Rattle.uf2_place.proofs.FileLemmas.{file-piece, file_block-is}
use Rattle.uf2_place.proofs.ReadBackLemmas.{written-read}
use Rattle.uf2_place.proofs.laws.files_are_read.Goals as goal

pub returns : goal.returns
returns c = λ image family i few low inside.
    ap uf2_of (file-piece image family i few low inside)
    ∙ written-read (file_block image family i) (file_block-is image family i few low inside)
