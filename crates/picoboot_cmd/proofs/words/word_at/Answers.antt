use Rattle.std.proofs.Common.{◌*◌, ◌∙◌, ap, sym}
use Rattle.std.proofs.lemmas.List.{take_rest}
use Rattle.byteorder.specs.Endian.{little_number}
use Rattle.block_codec.specs.Words.{word_of}
use Rattle.block_codec.proofs.WordLemmas.{get_or-words_of}
use Rattle.picoboot_cmd.proofs.words.word_at.Goals as goal

pub returns : goal.returns
unfolding word_of
returns c =
    c.read_u32.ensures ∙ ap (little_number 4) (take_rest c.args.bytes.now (4 * c.args.k))
    ∙ sym (get_or-words_of c.args.bytes.now c.args.k c.requires)
