-- The flash is changed as the step says, or as the cut that falls due says.
use Rattle.std.proofs.Common.{◌*◌, Option, refl, sym, ◌∙◌, ap, subst, Some}
use Rattle.pico_board.specs.Content.{IsContent}
use Rattle.pico_board.specs.Steps.{Erase, changed}
use Rattle.pico_board.specs.Cuts.{Cut, pattern_at}
use Rattle.pico_board.specs.Supply.{armed_of}
use Rattle.pico_board.specs.MemBoard.{state_of}
use Rattle.pico_board.proofs.ContentLemmas.{IsContent-after, IsContent-cut_by, length-cut_by}
use Rattle.pico_board.proofs.TornStepLemmas.{Torn-cut_by}
use Rattle.pico_board.proofs.TellLemmas.{Does-done, Does-lost, IsDue, IsDue-from, due_cut, flash_cut, flash_done}
use Rattle.pico_board.proofs.mem_board.MemBoardBoard.erase.Goals as goal

pub invariant_of-self-in-Some : goal.invariant_of-self-in-Some
invariant_of-self-in-Some c =
    let left = flash_cut c.args.self.now.flash c.args.self.now.otp.items c.deref_mut.result.now c.cut_erase.new.flash
    c.deref.result.now c.args.self.now.supply c.in-Some.within (Erase c.args.sector)
    (λ p xs. changed (λ i b. pattern_at p i) (4096 * c.args.sector) 4096 xs) c.deref_mut.ensures.value
    c.deref_mut.ensures.len c.cut_erase.auto.flash c.deref.ensures.value
    (IsDue-from c.args.self.now.supply c.in-Some.within (sym c.in-Some.ensures)) refl c.cut_erase.ensures in
    record {
      sizes = subst IsContent (sym left)
          (IsContent-cut_by (due_cut c.args.self.now.supply) (state_of c.args.self.now).content
          (Erase c.args.sector) c.args.self.now.supply.small c.args.self.now.sizes c.requires.range);
    }

pub invariant_of-self-in-None : goal.invariant_of-self-in-None
invariant_of-self-in-None c =
    let done = flash_done c.args.self.now.flash c.args.self.now.otp.items c.deref_mut-in-None.result.now
    c.erase_sector.new.flash (λ xs. changed (λ i b. 255) (4096 * c.args.sector) 4096 xs)
    c.deref_mut-in-None.ensures.value c.deref_mut-in-None.ensures.len c.erase_sector.auto.flash c.erase_sector.ensures
    in
    record {
      sizes = subst IsContent (sym done)
          (IsContent-after (state_of c.args.self.now).content
          (Erase c.args.sector) c.args.self.now.sizes c.requires.range);
    }

pub returns-in-Some-clause-does : goal.returns-in-Some-clause-does
returns-in-Some-clause-does c =
    let left = flash_cut c.args.self.now.flash c.args.self.now.otp.items c.deref_mut.result.now c.cut_erase.new.flash
    c.deref.result.now c.args.self.now.supply c.in-Some.within (Erase c.args.sector)
    (λ p xs. changed (λ i b. pattern_at p i) (4096 * c.args.sector) 4096 xs) c.deref_mut.ensures.value
    c.deref_mut.ensures.len c.cut_erase.auto.flash c.deref.ensures.value
    (IsDue-from c.args.self.now.supply c.in-Some.within (sym c.in-Some.ensures)) refl c.cut_erase.ensures in
    let due : IsDue c.args.self.now.supply (due_cut c.args.self.now.supply) c.in-Some.within =
    IsDue-from c.args.self.now.supply c.in-Some.within (sym c.in-Some.ensures) in
    Does-lost (due_cut c.args.self.now.supply) (ap (λ (a : Option Cut). Some a) due.armed) due.now left
    (Torn-cut_by (due_cut c.args.self.now.supply) (state_of c.args.self.now).content
    (Erase c.args.sector) c.args.self.now.supply.small c.args.self.now.sizes.flash_bytes)
    (length-cut_by (due_cut c.args.self.now.supply) (state_of c.args.self.now).content (Erase c.args.sector))
    c.lose.ensures.powered c.lose.ensures.later c.lose.ensures.cuts
    (ap (λ (a : Option Cut). Some a) c.lose.ensures.armed)

pub returns-in-None-clause-does : goal.returns-in-None-clause-does
returns-in-None-clause-does c =
    let done = flash_done c.args.self.now.flash c.args.self.now.otp.items c.deref_mut-in-None.result.now
    c.erase_sector.new.flash (λ xs. changed (λ i b. 255) (4096 * c.args.sector) 4096 xs)
    c.deref_mut-in-None.ensures.value c.deref_mut-in-None.ensures.len c.erase_sector.auto.flash c.erase_sector.ensures
    in
    Does-done (armed_of c.args.self.now.supply) refl (sym c.in-None.ensures) done
    (c.complete.ensures.powered ∙ c.requires.power) c.complete.ensures.cuts
    (ap (λ (a : Option Cut). Some a) c.complete.ensures.armed) (λ h held. tt)
