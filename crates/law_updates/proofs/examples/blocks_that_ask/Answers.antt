use Rattle.std.proofs.Common.{◌≡◌, ℕ, true, false, List, [], ◌∷◌, length, Ok, refl, sym, subst, inl, arith}
use Rattle.std.specs.Prelude.{slice_range}
use Rattle.pico_board.specs.declared.boot.Cpu.TheVariants.{Arm}
use Rattle.pico_board.specs.Steps.{after_all}
use Rattle.uf2_place.specs.Blocks.{uf2_of, word_bytes}
use Rattle.uf2_place.specs.declared.block.Uf2.{Uf2}
use Rattle.uf2_place.specs.Examples.{arm_uf2_block, uf2_bytes}
use Rattle.boot_machine.specs.Machines.{Host}
use Rattle.boot_machine.specs.Serving.{served_event}
use Rattle.boot_script.specs.Events.{End}
use Rattle.boot_session.specs.Sessions.{entered_host}
use Rattle.law_updates.specs.Examples.{begun_host, first_block}
use Rattle.law_updates.specs.Targets.{AsksFor, IsAsked, NoneAsks}
use Rattle.law_updates.proofs.TargetLemmas.{then-all}
use Rattle.law_updates.proofs.examples.blocks_that_ask.Goals as goal

bytes : List ℕ
bytes = uf2_bytes 256 0x10000000 0 3

abbrev block : Uf2
block = arm_uf2_block 0 0x10000000 (slice_range bytes 32 288)

reads : uf2_of bytes ≡ Ok block
unfolding word_bytes bytes
reads = refl

asks : (n family : ℕ) (host : Host) → IsAsked n host family (Ok block) → AsksFor n host family first_block
unfolding word_bytes bytes
asks n family host is = subst (λ r. IsAsked n host family r) (sym reads) is

asked : (n family : ℕ) (host : Host) → AsksFor n host family first_block → IsAsked n host family (Ok block)
unfolding word_bytes bytes
asked n family host is = subst (λ r. IsAsked n host family r) reads is

pub returns-clause-first : goal.returns-clause-first
returns-clause-first k = λ n c.
    asks n 0xe48bff59 (entered_host c) (record { kept = refl; begins = refl }, refl)

pub returns-clause-once : goal.returns-clause-once
returns-clause-once k = λ c d.
    (let s = served_event c Arm (entered_host c) first_block in
    inl (
      asks (length c.flash) 0xe48bff59 (entered_host c) (record { kept = refl; begins = refl }, refl),
      then-all (λ next. NoneAsks (after_all c s.steps) Arm next (End ∷ [])) (λ next. tt) s.boot s.place,
    ))

pub returns-clause-further : goal.returns-clause-further
returns-clause-further k = λ n c is. no (asked n 0xe48bff59 (begun_host c) is).0.begins
  where
    no : {P : Type 0} → true ≡ false → P
    no e = cc

pub returns-clause-other : goal.returns-clause-other
returns-clause-other k = λ n c is. no (asked n 0xe48bff5a (entered_host c) is).1
  where
    no : {P : Type 0} → (let arm : ℕ = 0xe48bff59 in arm ≡ 0xe48bff5a) → P
    no e = absurd (omega (arith, e))
