-- The row is raised as the step says, or as the cut that falls due says.
use Rattle.std.proofs.Common.{◌≡◌, ℕ, ◌<◌, Option, get_or, slice_index, slice_set, bit_and, bit_or, bit_xor, refl, sym, ◌∙◌, ap, subst, Some, arith}
use Rattle.std.proofs.lemmas.List.{get_or_read}
use Rattle.pico_board.specs.Content.{Content, IsContent}
use Rattle.pico_board.specs.Steps.{Raise, after}
use Rattle.pico_board.specs.Cuts.{Cut, pattern_row}
use Rattle.pico_board.specs.Supply.{armed_of}
use Rattle.pico_board.specs.MemBoard.{state_of}
use Rattle.pico_board.proofs.ContentLemmas.{IsContent-after, IsContent-cut_by, length-cut_by}
use Rattle.pico_board.proofs.TornStepLemmas.{Torn-cut_by}
use Rattle.pico_board.proofs.TellLemmas.{Does-done, Does-lost, IsDue, IsDue-from, due_cut, otp_cut}
use Rattle.pico_board.proofs.mem_board.MemBoardBoard.raise.Goals as goal

-- the content after the row was read and written
row_done : (c : Content) (r b read : ℕ) → IsContent c → r < 4096 → read ≡ get_or c.otp r read
    → record { flash = c.flash; otp = slice_set c.otp r (bit_or read b) } ≡ after c (Raise r b)
row_done c r b read is lt e =
    ap (λ (v : ℕ). record { flash = c.flash; otp = slice_set c.otp r (bit_or v b) })
    (get_or_read c.otp r read (omega (arith, lt, is.otp_length)) e 0)

pub invariant_of-self-in-Some : goal.invariant_of-self-in-Some
invariant_of-self-in-Some c =
    let left = otp_cut c.args.self.now.otp c.args.self.now.flash.items c.deref_mut.result.now c.cut_raise.new.otp
    c.deref.result.now c.args.self.now.supply c.in-Some.within (Raise c.args.row c.args.bits)
    (λ p xs. slice_set xs c.args.row
    (bit_or (slice_index xs c.args.row) (bit_and c.args.bits (bit_xor (pattern_row p) 0xff_ffff))))
    c.deref_mut.ensures.value c.deref_mut.ensures.len c.cut_raise.auto.otp c.deref.ensures.value
    (IsDue-from c.args.self.now.supply c.in-Some.within (sym c.in-Some.ensures)) refl c.cut_raise.ensures in
    record {
      sizes = subst IsContent (sym left)
          (IsContent-cut_by (due_cut c.args.self.now.supply) (state_of c.args.self.now).content
          (Raise c.args.row c.args.bits) c.args.self.now.supply.small c.args.self.now.sizes
          (c.requires.range, c.requires.bits));
    }

pub invariant_of-self-in-None : goal.invariant_of-self-in-None
invariant_of-self-in-None c =
    let done = row_done (state_of c.args.self.now).content c.args.row c.args.bits c.index_mut.result.now
    c.args.self.now.sizes c.requires.range c.index_mut.ensures.value in
    record {
      sizes = subst IsContent (sym done)
          (IsContent-after (state_of c.args.self.now).content (Raise c.args.row c.args.bits) c.args.self.now.sizes
          (c.requires.range, c.requires.bits));
    }

pub returns-in-Some-clause-does : goal.returns-in-Some-clause-does
returns-in-Some-clause-does c =
    let left = otp_cut c.args.self.now.otp c.args.self.now.flash.items c.deref_mut.result.now c.cut_raise.new.otp
    c.deref.result.now c.args.self.now.supply c.in-Some.within (Raise c.args.row c.args.bits)
    (λ p xs. slice_set xs c.args.row
    (bit_or (slice_index xs c.args.row) (bit_and c.args.bits (bit_xor (pattern_row p) 0xff_ffff))))
    c.deref_mut.ensures.value c.deref_mut.ensures.len c.cut_raise.auto.otp c.deref.ensures.value
    (IsDue-from c.args.self.now.supply c.in-Some.within (sym c.in-Some.ensures)) refl c.cut_raise.ensures in
    let due : IsDue c.args.self.now.supply (due_cut c.args.self.now.supply) c.in-Some.within =
    IsDue-from c.args.self.now.supply c.in-Some.within (sym c.in-Some.ensures) in
    Does-lost (due_cut c.args.self.now.supply) (ap (λ (a : Option Cut). Some a) due.armed) due.now left
    (Torn-cut_by (due_cut c.args.self.now.supply) (state_of c.args.self.now).content
    (Raise c.args.row c.args.bits) c.args.self.now.supply.small c.args.self.now.sizes.flash_bytes)
    (length-cut_by (due_cut c.args.self.now.supply) (state_of c.args.self.now).content (Raise c.args.row c.args.bits))
    c.lose.ensures.powered c.lose.ensures.later c.lose.ensures.cuts
    (ap (λ (a : Option Cut). Some a) c.lose.ensures.armed)

pub returns-in-None-clause-does : goal.returns-in-None-clause-does
returns-in-None-clause-does c =
    let done = row_done (state_of c.args.self.now).content c.args.row c.args.bits c.index_mut.result.now
    c.args.self.now.sizes c.requires.range c.index_mut.ensures.value in
    Does-done (armed_of c.args.self.now.supply) refl (sym c.in-None.ensures) done
    (c.complete.ensures.powered ∙ c.requires.power) c.complete.ensures.cuts
    (ap (λ (a : Option Cut). Some a) c.complete.ensures.armed) (λ h held. tt)
