use Rattle.std.proofs.Common.{◌∙◌, ap, subst, sym}
use Rattle.std.specs.Prelude.{map}
use Rattle.image_check.specs.Digests.{Knows}
use Rattle.pico_board.specs.declared.mem_board.MemBoard.{MemBoard}
use Rattle.pico_board.specs.Content.{Content}
use Rattle.pico_board.specs.MemBoard.{state_of}
use Rattle.boot_tape.specs.Moving.{moves_from, traced_by}
use Rattle.boot_cuts.specs.Contents.{cut_contents}
use Rattle.check_counts.specs.Judging.{sides_by, told}
use Rattle.check_counts.specs.Tallies.{Tally, tally_before, with_all}
use Rattle.check_counts.proofs.TallyLemmas.{facts-taken}
use Rattle.check_counts.proofs.counting.counts_by.Goals as goal

pub each_cut-requires-clause-slot : goal.each_cut-requires-clause-slot
each_cut-requires-clause-slot c = c.slot_beside-slot.ensures.lies

pub give_digests-requires : goal.give_digests-requires
give_digests-requires c = record {
  knows = subst (λ d. Knows c.counts_before.new.digests.before d)
      (sym (ap (λ (b : MemBoard). (state_of b).content) c.new-beside.ensures ∙ c.in_ok-copy.ensures.same))
      c.in_ok-counts.ensures.before;
}

pub returns-clause-told : goal.returns-clause-told
returns-clause-told c =
    let counting = c.args.counting.now in
    let pattern = c.args.pattern.now in
    let moves = moves_from c.args.moves.now in
    let beside = (state_of c.give_digests.new.self).content in
    facts-taken (told counting) pattern c.in_ok-counts.counts beside moves c.each_cut.new.found
    c.in_ok-each_cut.ensures.taken
    ∙ (ap (λ (t : Tally). with_all t (map (told counting) (cut_contents pattern (traced_by beside moves))))
    c.in_ok-counts.ensures.exact
    ∙ ap (λ (x : Content). with_all (tally_before (sides_by counting))
    (map (told counting) (cut_contents pattern (traced_by x moves))))
    (ap (λ (b : MemBoard). (state_of b).content) (c.give_digests.ensures.same ∙ c.new-beside.ensures)
    ∙ c.in_ok-copy.ensures.same))
