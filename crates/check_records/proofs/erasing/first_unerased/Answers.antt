use Rattle.std.proofs.Common.{◌∙◌, get_or, refl, subst, sym, take}
use Rattle.std.proofs.lemmas.List.{take_more}
use Rattle.pico_board.specs.declared.Step.TheVariants.{Erase}
use Rattle.check_records.specs.Erased.{HasErased}
use Rattle.check_records.proofs.EraseLemmas.{unerased-more}
use Rattle.check_records.proofs.erasing.first_unerased.Goals as goal

pub loop-number-preserved : goal.loop-number-preserved
loop-number-preserved c =
    let steps = c.args.steps.now in
    let k = c.loop-number.number in record {
      erased = subst (HasErased c.note.new.erased) (sym (take_more steps k (Erase 0) c.loop-number-test.true))
          (c.in_ok-note.ensures (take k steps) c.loop-number.invariant.erased);
      rest = unerased-more steps k (get_or steps k (Erase 0)) (Erase 0) c.loop-number-test.true refl
          (sym (c.is_unerased.ensures (take k steps) c.loop-number.invariant.erased) ∙ c.if-is_unerased.false)
          ∙ c.loop-number.invariant.rest;
    }
