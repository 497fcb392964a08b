use Rattle.std.proofs.Common.{◌≡◌, ◌/◌, ◌∙◌, ap, sym, arith, length}
use Rattle.block_codec.proofs.WordLemmas.{length-words_of}
use Rattle.part_table.specs.Written.{written_name, padded_name}
use Rattle.part_table.proofs.writing.put_name.Goals as goal

pub put_bytes-requires : goal.put_bytes-requires
put_bytes-requires c =
    let bytes : c.as_slice-in-Some.result.now ≡ padded_name c.in-Some.name.items =
    c.as_slice-in-Some.ensures.value ∙ c.padded_name.ensures ∙ ap padded_name c.as_slice.ensures.value in
    let size : length (written_name c.args.name.now) ≡ length c.as_slice-in-Some.result.now / 4 =
    ap (λ o. length (written_name o)) c.in-Some.is ∙ length-words_of (padded_name c.in-Some.name.items)
    ∙ ap (λ bs. length bs / 4) (sym bytes) in
    omega (arith, size, c.requires)
