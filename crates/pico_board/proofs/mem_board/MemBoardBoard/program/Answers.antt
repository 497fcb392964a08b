-- The flash is changed as the step says, or as the cut that falls due says.
use Rattle.std.proofs.Common.{◌*◌, Option, slice_index, bit_and, bit_or, refl, sym, ◌∙◌, ap, subst, Some}
use Rattle.pico_board.specs.Content.{IsContent}
use Rattle.pico_board.specs.Steps.{Program, changed}
use Rattle.pico_board.specs.Cuts.{Cut, pattern_at}
use Rattle.pico_board.specs.Supply.{armed_of}
use Rattle.pico_board.specs.MemBoard.{state_of}
use Rattle.pico_board.proofs.ContentLemmas.{IsContent-after, IsContent-cut_by, length-cut_by}
use Rattle.pico_board.proofs.TornStepLemmas.{Torn-cut_by}
use Rattle.pico_board.proofs.TellLemmas.{Does-done, Does-lost, IsDue, IsDue-from, due_cut, flash_cut, flash_done}
use Rattle.pico_board.proofs.mem_board.MemBoardBoard.program.Goals as goal

pub invariant_of-self-in-Some : goal.invariant_of-self-in-Some
invariant_of-self-in-Some c =
    let left = flash_cut c.args.self.now.flash c.args.self.now.otp.items c.deref_mut.result.now c.cut_program.new.flash
    c.deref.result.now c.args.self.now.supply c.in-Some.within (Program c.args.page c.args.bytes.now)
    (λ p xs. changed (λ i b. bit_and b (bit_or (slice_index c.args.bytes.now i) (pattern_at p i)))
    (256 * c.args.page) 256 xs) c.deref_mut.ensures.value c.deref_mut.ensures.len c.cut_program.auto.flash
    c.deref.ensures.value
    (IsDue-from c.args.self.now.supply c.in-Some.within (sym c.in-Some.ensures)) refl c.cut_program.ensures in
    record {
      sizes = subst IsContent (sym left)
          (IsContent-cut_by (due_cut c.args.self.now.supply) (state_of c.args.self.now).content
          (Program c.args.page c.args.bytes.now) c.args.self.now.supply.small c.args.self.now.sizes c.requires.range);
    }

pub invariant_of-self-in-None : goal.invariant_of-self-in-None
invariant_of-self-in-None c =
    let done = flash_done c.args.self.now.flash c.args.self.now.otp.items c.deref_mut-in-None.result.now
    c.program_page.new.flash (λ xs. changed (λ i b. bit_and b (slice_index c.args.bytes.now i))
    (256 * c.args.page) 256 xs)
    c.deref_mut-in-None.ensures.value c.deref_mut-in-None.ensures.len c.program_page.auto.flash c.program_page.ensures
    in
    record {
      sizes = subst IsContent (sym done)
          (IsContent-after (state_of c.args.self.now).content
          (Program c.args.page c.args.bytes.now) c.args.self.now.sizes c.requires.range);
    }

pub returns-in-Some-clause-does : goal.returns-in-Some-clause-does
returns-in-Some-clause-does c =
    let left = flash_cut c.args.self.now.flash c.args.self.now.otp.items c.deref_mut.result.now c.cut_program.new.flash
    c.deref.result.now c.args.self.now.supply c.in-Some.within (Program c.args.page c.args.bytes.now)
    (λ p xs. changed (λ i b. bit_and b (bit_or (slice_index c.args.bytes.now i) (pattern_at p i)))
    (256 * c.args.page) 256 xs) c.deref_mut.ensures.value c.deref_mut.ensures.len c.cut_program.auto.flash
    c.deref.ensures.value
    (IsDue-from c.args.self.now.supply c.in-Some.within (sym c.in-Some.ensures)) refl c.cut_program.ensures in
    let due : IsDue c.args.self.now.supply (due_cut c.args.self.now.supply) c.in-Some.within =
    IsDue-from c.args.self.now.supply c.in-Some.within (sym c.in-Some.ensures) in
    Does-lost (due_cut c.args.self.now.supply) (ap (λ (a : Option Cut). Some a) due.armed) due.now left
    (Torn-cut_by (due_cut c.args.self.now.supply) (state_of c.args.self.now).content
    (Program c.args.page c.args.bytes.now) c.args.self.now.supply.small c.args.self.now.sizes.flash_bytes)
    (length-cut_by (due_cut c.args.self.now.supply) (state_of c.args.self.now).content
    (Program c.args.page c.args.bytes.now))
    c.lose.ensures.powered c.lose.ensures.later c.lose.ensures.cuts
    (ap (λ (a : Option Cut). Some a) c.lose.ensures.armed)

pub returns-in-None-clause-does : goal.returns-in-None-clause-does
returns-in-None-clause-does c =
    let done = flash_done c.args.self.now.flash c.args.self.now.otp.items c.deref_mut-in-None.result.now
    c.program_page.new.flash (λ xs. changed (λ i b. bit_and b (slice_index c.args.bytes.now i))
    (256 * c.args.page) 256 xs)
    c.deref_mut-in-None.ensures.value c.deref_mut-in-None.ensures.len c.program_page.auto.flash c.program_page.ensures
    in
    Does-done (armed_of c.args.self.now.supply) refl (sym c.in-None.ensures) done
    (c.complete.ensures.powered ∙ c.requires.power) c.complete.ensures.cuts
    (ap (λ (a : Option Cut). Some a) c.complete.ensures.armed) (λ h held. tt)
