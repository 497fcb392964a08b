use Rattle.std.proofs.Common.{◌≡◌, ◌++◌, map, length, arith, subst}
use Rattle.std.proofs.lemmas.Result.{err_from_is_err_and}
use Rattle.std.specs.List.{flat_map, range_with_len}
use Rattle.uf2_place.specs.Blocks.{written_block}
use Rattle.uf2_place.specs.Files.{file_block, page_count}
use Rattle.uf2_place.proofs.FileLemmas.{kept-more, file-more}
use Rattle.uf2_place.proofs.writing.append_blocks.Goals as goal

pub loop-number-preserved : goal.loop-number-preserved
loop-number-preserved c =
    file-more written_block (file_block c.args.image.now c.args.family) c.args.out.now.items c.loop-number.out.items _
    c.loop-number.number c.file_block.result c.loop-number.invariant c.file_block.ensures
    c.in_ok-append_block.ensures.ok

pub returns-clause-ok : goal.returns-clause-ok
returns-clause-ok c =
    let last : c.loop-number.number ≡ page_count (length c.args.image.now) =
    omega (arith, c.loop-number-test.false, c.loop-number.auto.number-end, c.div_ceil-count.ensures) in
    subst (λ k. c.loop-number.out.items ≡ c.args.out.now.items
    ++ flat_map written_block (map (file_block c.args.image.now c.args.family)
    (range_with_len 0 k))) last c.loop-number.invariant

pub returns-in_err-append_block-clause-err : goal.returns-in_err-append_block-clause-err
returns-in_err-append_block-clause-err c =
    let lost = err_from_is_err_and c.from_residual.result c.from_residual.ensures.1 in
    let files = flat_map written_block (map (file_block c.args.image.now c.args.family)
    (range_with_len 0 c.loop-number.number)) in
    rw (lost.1) (kept-more c.args.out.now.items files c.loop-number.out.items c.append_block.new.out.items
    c.loop-number.invariant c.in_err-append_block.ensures.err)
