use Rattle.std.proofs.Common.{◌∙◌, ◌-◌, [], sym, ap, subst, length}
use Rattle.std.specs.List.{AllByRecursion}
use Rattle.pico_board.specs.Content.{flash_base}
use Rattle.elf_pack.specs.Binaries.{FitsIn, flash_bytes}
use Rattle.elf_pack.proofs.PlacingLemmas.{none-placed}
use Rattle.elf_pack.proofs.TogetherLemmas.{all-placed-in}
use Rattle.elf_pack.proofs.placing.flash_binary.Goals as goal

pub put_segments-requires-clause-erased : goal.put_segments-requires-clause-erased
put_segments-requires-clause-erased c =
    let same = c.as_mut_slice.ensures.value ∙ c.in_ok-bytes.ensures.value in
    same ∙ none-placed c.args.elf.now _
    ∙ ap (flash_bytes c.args.elf.now []) (sym (ap length c.as_mut_slice.ensures.value ∙ c.in_ok-bytes.ensures.len))

pub put_segments-requires-clause-placed : goal.put_segments-requires-clause-placed
put_segments-requires-clause-placed c =
    let long = ap length c.as_mut_slice.ensures.value ∙ c.in_ok-bytes.ensures.len in
    subst (λ m. AllByRecursion (FitsIn (length c.args.elf.now) m) c.args.segments.now)
    (ap (λ n. n - flash_base) (sym c.greatest_end.ensures.value) ∙ sym long)
    (all-placed-in (length c.args.elf.now) c.args.segments.now c.requires.in_flash c.requires.inside)
