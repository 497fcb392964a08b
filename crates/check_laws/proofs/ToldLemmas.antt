-- The law of a session by the function is the one that the rules name.
use Rattle.std.proofs.Common.{◌≡◌, ◌∙◌, ℕ, ◌+◌, ◌/◌, Bool, true, false, List, [], ◌∷◌, ◌++◌, Option, Some, None, Result, Ok, Err, refl, sym, ap, subst, arith}
use Rattle.std.specs.Prelude.{◌↔◌, ◌&&◌, if◌then◌else◌, is_err}
use Rattle.std.specs.List.{AllByRecursion}
use Rattle.std.proofs.lemmas.Bool.{and_from, and_parts}
use Rattle.pico_board.specs.declared.Step.{Step}
use Rattle.pico_board.specs.declared.step.Step.TheVariants.{Program}
use Rattle.pico_board.specs.declared.boot.Cpu.{Cpu}
use Rattle.pico_board.specs.declared.window.Window.{Window}
use Rattle.pico_board.specs.Content.{Content, IsContent, window_bytes}
use Rattle.pico_board.specs.Sessions.{Gated}
use Rattle.pico_board.specs.Steps.{after_all}
use Rattle.block_codec.specs.Blocks.{BlockView}
use Rattle.block_loop.specs.declared.fault.LoopFault.{LoopFault}
use Rattle.block_loop.specs.Loop.{IsFirstBlock, IsLoop, loop_of}
use Rattle.block_loop.specs.Offsets.{AreLoop, offsets_of}
use Rattle.block_loop.proofs.ChainLemmas.{loop_of-loop}
use Rattle.block_loop.proofs.SameLoopLemmas.{IsLoop-from_answer}
use Rattle.image_def.specs.declared.started.Started.{Started}
use Rattle.image_check.specs.declared.why.Why.{Why}
use Rattle.image_check.specs.Image.{image_at}
use Rattle.image_check.proofs.LawLemmas.{at-valid, valid-at}
use Rattle.boot_firm.specs.Firmness.{has_no_other}
use Rattle.boot_firm.proofs.FirmnessLemmas.{alone-is, is-alone}
use Rattle.boot_script.specs.Events.{EventView}
use Rattle.boot_machine.specs.Plays.{powerless}
use Rattle.boot_session.specs.Slots.{session_slot}
use Rattle.boot_sweep.specs.Firms.{HasNoOtherBlock}
use Rattle.boot_tape.specs.Traces.{moves_in, noted}
use Rattle.check_laws.specs.declared.found.SessionFound.{SessionFound}
use Rattle.check_laws.specs.declared.found.SessionFound.TheVariants as found
use Rattle.check_laws.specs.Hosting.{host_writes, hosted_events, is_hosted_on}
use Rattle.check_laws.specs.Hosts.{HostWrites, first_content}
use Rattle.check_laws.specs.SessionLaws.{IsSessionLaw, IsStepsLaw, IsWritten, host_steps}
use Rattle.check_laws.specs.Staged.{EndsOn, IsOffPage, Staged, is_off_page}
use Rattle.check_laws.specs.Told.{ends_on, first_at, hosts_told, is_staged, is_staged_by, session_told, steps_told}
use Rattle.check_laws.proofs.FirstLemmas.{first-content, one-session-of}
use Rattle.check_laws.proofs.LawLemmas.{none-kept, slot-is-law}
use Rattle.check_laws.proofs.MadeLemmas.{host-writes}
use Rattle.check_laws.proofs.NotedLemmas.{law-told, law-written, no-host, none-written}
use Rattle.check_laws.proofs.StagingLemmas.{end-staged, ends-is, no-ends, off-is, one-first, other-end, unlooped, unstaged}

-- the last step programs the page, and none before it does, by one step more
ends-more : (page : ℕ) (step next : Step) (steps : List Step) → EndsOn page (step ∷ (next ∷ steps))
    → IsOffPage page step × EndsOn page (next ∷ steps)
ends-more page step next steps ends = go ends.0 ends.2 ends.3
  where
    go : (before : List Step) → step ∷ (next ∷ steps) ≡ before ++ Program page ends.1 ∷ []
        → AllByRecursion (IsOffPage page) before → IsOffPage page step × EndsOn page (next ∷ steps)
    go [] e off = cc
    go (first ∷ before) e off =
        let same : step ≡ first = cc in
        let rest : next ∷ steps ≡ before ++ Program page ends.1 ∷ [] = cc in
        (subst (IsOffPage page) (sym same) off.0, (before, ends.1, rest, off.1))

one-more : (page : ℕ) (step next : Step) (steps : List Step) → IsOffPage page step
    → EndsOn page (next ∷ steps) → EndsOn page (step ∷ (next ∷ steps))
one-more page step next steps off ends =
    (step ∷ ends.0, ends.1, ap (λ (xs : List Step). step ∷ xs) ends.2, (off, ends.3))

ends-on : (page : ℕ) (steps : List Step) → (ends_on page steps ≡ true) ↔ EndsOn page steps
ends-on page [] = (λ e. cc, λ ends. absurd (no-ends page [] refl ends))
ends-on page (step ∷ []) =
    let ends = ends-is page (step ∷ []) [] step refl in (
      λ e. ends.0 (and_from _ _ e refl),
      λ on. (and_parts _ _ (ends.1 on)).0,
    )
ends-on page (step ∷ (next ∷ steps)) =
    let rest = ends-on page (next ∷ steps) in (
      λ e.
          let p = and_parts (is_off_page page step) (ends_on page (next ∷ steps)) e in
          one-more page step next steps ((off-is page step).0 p.0) (rest.0 p.1),
      λ on.
          let m = ends-more page step next steps on in
          and_from (is_off_page page step) (ends_on page (next ∷ steps)) ((off-is page step).1 m.0) (rest.1 m.1),
    )

-- a loop that a window answers is its loop
loop-is : (bytes : List ℕ) (loop : List BlockView) → loop_of bytes ≡ Ok loop → IsLoop bytes loop
loop-is bytes loop is = IsLoop-from_answer bytes loop is

-- where the loop begins, as the function says
begins-at : (bytes : List ℕ) (loop : List BlockView) → IsLoop bytes loop → (first : BlockView)
    → IsFirstBlock bytes first → first_at loop ≡ first.at
begins-at bytes [] closes first is = let some = closes.chain.some in absurd (omega (arith, some))
begins-at bytes (b ∷ loop) closes first is = one-first bytes b first (closes.chain.first b refl) is

module _ (c : Content) (cpu : Cpu) (steps : List Step) (w : Window) where
  abbrev z : Content
  z = after_all c steps

  abbrev bytes : List ℕ
  bytes = window_bytes z w

  abbrev Answers : Bool → Type 0
  Answers b = (b ≡ true) ↔ Staged c steps w cpu

  module _ (gated : Gated steps w) where
    alone : (loop : List BlockView) → IsLoop bytes loop → loop_of bytes ≡ Ok loop → (other : List BlockView)
        → loop_of bytes ≡ Ok other → (has_no_other bytes loop 1024 ≡ true) ↔ HasNoOtherBlock bytes other
    alone loop closes is other too =
        let same : loop ≡ other = one loop other (loop_of bytes) is too in
        subst (λ (x : List BlockView). (has_no_other bytes loop 1024 ≡ true) ↔ HasNoOtherBlock bytes x) same
        (alone-is bytes loop closes, is-alone bytes loop)
      where
        one : (x y : List BlockView) (r : Result (List BlockView) LoopFault) → r ≡ Ok x → r ≡ Ok y → x ≡ y
        one x y r e f = cc

    -- by the loop of an image that is valid
    looped : (image : Started) → image_at z w cpu true ≡ Ok image → (loop : List BlockView) → loop_of bytes ≡ Ok loop
        → (b : Bool) → ends_on ((w.start + first_at loop) / 256) steps ≡ b
        → Answers (ends_on ((w.start + first_at loop) / 256) steps && has_no_other bytes loop 1024)
    looped image valid loop is b ends =
        let closes = loop-is bytes loop is in
        let are : AreLoop bytes (offsets_of loop) = record { blocks = (loop, closes, refl) } in
        let page = (w.start + first_at loop) / 256 in
        let page_is = λ (first : BlockView) (one : IsFirstBlock bytes first).
        ap (λ x. (w.start + x) / 256) (begins-at bytes loop closes first one) in
        subst (λ t. Answers (t && has_no_other bytes loop 1024)) (sym ends) (go b ends closes are page page_is)
      where
        go : (b : Bool) → ends_on ((w.start + first_at loop) / 256) steps ≡ b → IsLoop bytes loop
            → AreLoop bytes (offsets_of loop) → (page : ℕ)
            → ((first : BlockView) → IsFirstBlock bytes first → (w.start + first_at loop) / 256 ≡ (w.start + first.at) / 256)
            → Answers (b && has_no_other bytes loop 1024)
        go true ends closes are page page_is =
            end-staged c z steps w cpu refl gated (image_at z w cpu true) (valid-at z w cpu true)
            (ap (λ r. is_err r) valid) (offsets_of loop) are ((w.start + first_at loop) / 256) page_is
            ((ends-on ((w.start + first_at loop) / 256) steps).0 ends) (has_no_other bytes loop 1024)
            (alone loop closes is)
        go false ends closes are page page_is =
            other-end c z steps w cpu refl gated (offsets_of loop) are ((w.start + first_at loop) / 256) page_is false refl
            (λ on. sym ends ∙ (ends-on ((w.start + first_at loop) / 256) steps).1 on)

    by-loop : (image : Started) → image_at z w cpu true ≡ Ok image → (r : Result (List BlockView) LoopFault)
        → loop_of bytes ≡ r → Answers (is_staged_by w bytes steps (Ok image) r)
    by-loop image valid (Ok loop) is =
        looped image valid loop is (ends_on ((w.start + first_at loop) / 256) steps) refl
    by-loop image valid (Err fault) is =
        unlooped c z steps w cpu refl gated (Err fault) fault refl
        (λ offsets are.
        let blocks = are.blocks in
        let closes = loop_of-loop bytes blocks.0 blocks.1 in
        no-loop blocks.0 fault offsets (loop_of bytes) is closes)
      where
        no-loop : (x : List BlockView) (f : LoopFault) (offsets : List ℕ) (r : Result (List BlockView) LoopFault)
            → r ≡ Err f → r ≡ Ok x → (let e : Result (List ℕ) LoopFault = Err f in e ≡ Ok offsets)
        no-loop x f offsets r e g = cc

    by-image : (r : Result Started Why) → image_at z w cpu true ≡ r
        → Answers (is_staged_by w bytes steps r (loop_of bytes))
    by-image (Ok image) is = by-loop image is (loop_of bytes) refl
    by-image (Err why) is =
        unstaged c z steps w cpu refl gated (image_at z w cpu true) (at-valid z w cpu true) (ap (λ r. is_err r) is)

    staged-told : Answers (is_staged z cpu w steps)
    staged-told = by-image (image_at z w cpu true) refl

-- the law of steps
steps-told : (c : Content) (cpu : Cpu) (steps : List Step) → IsContent c → (o : Option Window)
    → session_slot c cpu steps ≡ o → IsStepsLaw c cpu steps (steps_told c cpu steps o)
steps-told c cpu steps right None at = none-kept c cpu steps right at
steps-told c cpu steps right (Some w) at =
    slot-is-law c cpu steps right (after_all c steps) w (is_staged (after_all c steps) cpu w steps) refl at
    (staged-told c cpu steps w)

-- the law of a script in which a host writes
hosts-told : (c : Content) (cpu : Cpu) (events : List EventView) → IsContent c → (hosts : Bool)
    → is_hosted_on (first_content c cpu) cpu (hosted_events events) ≡ hosts
    → IsWritten c cpu events (hosts_told c cpu events hosts)
hosts-told c cpu events right true is =
    law-written c cpu events true (sym is) refl
    (hosts_told c cpu events true)
    (steps-told (first_content c cpu) cpu (host_steps c cpu events) (first-content c cpu right)
    (session_slot (first_content c cpu) cpu (host_steps c cpu events)) refl)
hosts-told c cpu events right false is = no-host c cpu events false (sym is) refl

-- whether a host writes, and the law where it does
abbrev writes : Content → Cpu → List EventView → Bool
writes c cpu events = host_writes (noted (powerless c cpu) events) (moves_in (powerless c cpu) events)

abbrev by_hosts : Content → Cpu → List EventView → SessionFound
by_hosts c cpu events =
    hosts_told c cpu events (is_hosted_on (first_content c cpu) cpu (hosted_events events))

pub session-told : (c : Content) (cpu : Cpu) (events : List EventView) → IsContent c
    → IsSessionLaw c cpu events (session_told c cpu events)
session-told c cpu events right = go (writes c cpu events) refl
  where
    exactly : (writes c cpu events ≡ true) ↔ HostWrites c cpu events
    exactly =
        host-writes c cpu events (noted (powerless c cpu) events) (moves_in (powerless c cpu) events)
        (writes c cpu events) refl refl refl

    go : (b : Bool) → writes c cpu events ≡ b
        → IsSessionLaw c cpu events (if b then by_hosts c cpu events else found.Silent)
    go true is =
        law-told c cpu events (writes c cpu events) exactly is (by_hosts c cpu events)
        (hosts-told c cpu events right (is_hosted_on (first_content c cpu) cpu (hosted_events events)) refl)
    go false is = none-written c cpu events (writes c cpu events) exactly is

-- a law that is found is that of the function
pub session-once : (c : Content) (cpu : Cpu) (events : List EventView) → IsContent c → (law : SessionFound)
    → IsSessionLaw c cpu events law → law ≡ session_told c cpu events
session-once c cpu events right law is =
    one-session-of c cpu events law (session_told c cpu events) right is (session-told c cpu events right)
