-- By computing.
use Rattle.std.proofs.Common.{◌≡◌, List, Some, slice_get, refl, sym, ap, ◌∙◌, subst}
use Rattle.pico_board.specs.declared.Step.{Step}
use Rattle.pico_board.specs.declared.boot.Cpu.TheVariants.{Arm}
use Rattle.pico_board.specs.Content.{Content}
use Rattle.pico_board.specs.Sessions.{Confined, Gated}
use Rattle.pico_board.specs.Steps.{after_all}
use Rattle.boot_rules.specs.Tables.{table_in}
use Rattle.boot_session.specs.CutSessions.{StartsFinished}
use Rattle.boot_session.specs.Slots.{IsSlot}
use Rattle.cut_class.specs.declared.class.Class.{Class}
use Rattle.cut_class.specs.declared.class.Class.TheVariants.{Former, Finished, Whole, Tail, Mixed, Bootsel}
use Rattle.boot_cuts.specs.Classes.{IsClass}
use Rattle.boot_cuts.specs.Classing.{class_of}
use Rattle.boot_cuts.specs.Contents.{cut_contents}
use Rattle.boot_cuts.specs.Tears.{left_torn}
use Rattle.boot_tape.specs.Traces.{Traced, trace, trace_steps, traced_from}
use Rattle.worked_flashes.specs.Choices.{small_slot}
use Rattle.worked_flashes.specs.Writes.{longer_steps}
use Rattle.boot_cuts.proofs.ClassLemmas.{class-exactly}
use Rattle.law_cuts.specs.Cases.{IsOther}
use Rattle.law_cuts.specs.Examples.{small_script}
use Rattle.law_cuts.proofs.AccidentLemmas.{steps-of}
use Rattle.law_cuts.proofs.CaseLemmas.{finished-starts}
use Rattle.law_cuts.proofs.ExampleLemmas.{confined, elsewhere, first-three, gated, never-former, one, same-table, session-is, short, slot, small}
use Rattle.law_cuts.proofs.SessionTraceLemmas.{last-is, trace-is}
use Rattle.law_cuts.proofs.examples.a_gated_script_with_an_accidental_image.Goals as goal

-- the trace of the script
done-is : (trace small Arm small_script).done ≡ traced_from small longer_steps
done-is = trace-is small Arm small_script one ∙ ap (λ (xs : List Step). traced_from small xs) session-is

steps-are : trace_steps (trace small Arm small_script).done ≡ longer_steps
steps-are = ap (λ (ts : List Traced). trace_steps ts) done-is ∙ steps-of small longer_steps

last-are : (trace small Arm small_script).last ≡ after_all small longer_steps
last-are = last-is small Arm small_script one ∙ ap (λ (xs : List Step). after_all small xs) session-is

pub returns-clause-gated : goal.returns-clause-gated
returns-clause-gated c =
    let session = c.a_cut_behind_the_image.ensures.session in record {
      right = session.right;
      session = one;
      holds = record {
        keeps = record {
          slot = subst (λ (xs : List Step). IsSlot small Arm xs small_slot) (sym steps-are) (slot session.boot_member);
          confined = subst (λ (xs : List Step). Confined xs small_slot) (sym steps-are) confined;
        };
        elsewhere = elsewhere session.former;
        table = ap (λ (xs : List Step). table_in (after_all small xs)) steps-are
            ∙ same-table session.right session.boot_member;
      };
      gated = subst (λ (xs : List Step). Gated xs small_slot) (sym steps-are) gated;
    }

pub returns-clause-cut : goal.returns-clause-cut
returns-clause-cut c = λ pattern.
    ap (λ (ts : List Traced). slice_get (cut_contents pattern ts) 6) done-is
    ∙ ap (λ (d : Content). Some d) first-three

pub returns-clause-other : goal.returns-clause-other
returns-clause-other c =
    let t = trace small Arm small_script in
    let class = class_of small t.last (left_torn t.moves) Arm short in
    let found : IsClass small t.last t.moves short Arm class = (class-exactly small t.last t.moves short Arm class).1 refl in
    (class, found, other class found)
  where
    other : (k : Class) → IsClass small (trace small Arm small_script).last (trace small Arm small_script).moves short Arm k
        → IsOther k
    other Former former =
        absurd (never-former c.a_cut_behind_the_image.ensures.session.former c.a_cut_within_the_image.ensures.here
        former.decision former.first former.here)
    other Finished finished =
        absurd (c.a_cut_within_the_image.ensures.not_finished
        (subst (λ (z : Content). StartsFinished z short Arm) last-are
        (finished-starts (trace small Arm small_script).last (trace small Arm small_script).moves short Arm finished.1)))
    other Whole found = tt
    other Tail found = tt
    other Mixed found = tt
    other Bootsel found = tt
