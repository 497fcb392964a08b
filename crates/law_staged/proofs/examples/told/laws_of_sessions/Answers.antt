-- By computing.
use Rattle.std.proofs.Common.{◌≡◌, ◌≢◌, ◌∙◌, ℕ, true, List, [], ◌∷◌, ◌++◌, Some, None, refl, sym, subst, inl, inr}
use Rattle.std.specs.List.{list_any}
use Rattle.std.proofs.Math.Dec.{lit≤}
use Rattle.block_codec.specs.Blocks.{frame}
use Rattle.block_codec.specs.Items.{size_of}
use Rattle.block_codec.specs.Reading.{block_at, front_block, item_words}
use Rattle.block_codec.specs.Words.{word_bytes, word_of}
use Rattle.block_loop.specs.Loop.{block_from, follow, loop_of}
use Rattle.image_def.specs.Definition.{def_of}
use Rattle.image_check.specs.Image.{image_in}
use Rattle.pico_board.specs.declared.Step.{Step}
use Rattle.pico_board.specs.declared.Step.TheVariants.{Erase, Program}
use Rattle.pico_board.specs.declared.boot.BootKind.TheVariants.{Normal, Bootsel}
use Rattle.pico_board.specs.declared.boot.Cpu.TheVariants.{Arm}
use Rattle.pico_board.specs.Content.{Content, IsContent}
use Rattle.pico_board.specs.Sessions.{Confined, Gated}
use Rattle.pico_board.specs.Steps.{after_all}
use Rattle.pico_board.proofs.ConfinementLemmas.{confined-after_all}
use Rattle.pico_board.proofs.GateLemmas.{IsDistinct-none}
use Rattle.picoboot_cmd.specs.Pages.{padded_page}
use Rattle.slot_choice.specs.declared.choice.Choice.{Choice}
use Rattle.boot_rules.specs.declared.decision.Decision.TheVariants.{Start}
use Rattle.boot_rules.specs.declared.tables.Found.{Found}
use Rattle.boot_rules.specs.Choosing.{decision_in}
use Rattle.boot_rules.specs.Chosen.{Chosen, IsBootMember}
use Rattle.boot_rules.specs.Tables.{table_in}
use Rattle.boot_rules.proofs.DecisionLemmas.{chosen-once}
use Rattle.boot_script.specs.Events.{EventView, PowerOn, Reset}
use Rattle.boot_machine.specs.Machines.{MachineView}
use Rattle.boot_machine.specs.Plays.{moved_machine, powerless}
use Rattle.boot_session.specs.CutSessions.{StartsOutside}
use Rattle.boot_session.specs.Examples.{update_block}
use Rattle.boot_session.specs.Sessions.{session}
use Rattle.boot_session.proofs.ConfinedLaws.{table-stays}
use Rattle.boot_sweep.specs.Refusals.{StartsIn}
use Rattle.boot_tape.specs.Moving.{does_step}
use Rattle.boot_tape.specs.Traces.{own_moves}
use Rattle.uf2_place.specs.Blocks.{written_block, word_bytes as uf2_bytes}
use Rattle.uf2_place.specs.Placement.{programs_in}
use Rattle.worked_flashes.specs.Choices.{former_start}
use Rattle.worked_flashes.specs.Flashes.{bare, beside_former, block_page, data_page, vector_page}
use Rattle.worked_flashes.specs.Writes.{plain_steps, slot}
use Rattle.check_laws.specs.declared.found.SessionFound.{SessionFound}
use Rattle.check_laws.specs.declared.found.SessionFound.TheVariants as found
use Rattle.check_laws.specs.Hosts.{IsHosts, Writes, first_content}
use Rattle.check_laws.specs.SessionLaws.{Holds, IsSessionLaw, IsStepsLaw}
use Rattle.law_staged.specs.Examples.{hosts_script, page_write}
use Rattle.law_staged.proofs.examples.told.laws_of_sessions.Goals as goal

abbrev c : Content
c = beside_former bare

-- the first boot writes nothing
nothing-first : first_content c Arm ≡ c
unfolding moved_machine decision_in written_block uf2_bytes programs_in padded_page table_in image_in def_of loop_of follow
    block_from block_at front_block item_words frame size_of word_of word_bytes
nothing-first = refl

-- the machine as the host's first event comes
abbrev entered_machine : MachineView
entered_machine = (moved_machine (moved_machine (powerless c Arm) PowerOn).next (Reset Bootsel)).next

block-writes : list_any does_step (own_moves entered_machine (update_block 0 vector_page)) ≡ true
unfolding moved_machine decision_in written_block uf2_bytes programs_in padded_page table_in image_in def_of loop_of follow
    block_from block_at front_block item_words frame size_of word_of word_bytes
block-writes = refl

page-writes : list_any does_step (own_moves entered_machine page_write) ≡ true
unfolding moved_machine decision_in written_block uf2_bytes programs_in padded_page table_in image_in def_of loop_of follow
    block_from block_at front_block item_words frame size_of word_of word_bytes
page-writes = refl

writes-there : (event : EventView) (events : List EventView) → Writes entered_machine (event ∷ events)
    → Writes (powerless c Arm) (hosts_script (event ∷ events))
writes-there event events here = inr (inr here)

two-hosts : IsHosts c Arm (hosts_script (update_block 0 vector_page ∷ update_block 1 (block_page 0x0001000a) ∷ []))
unfolding moved_machine decision_in written_block uf2_bytes programs_in padded_page table_in image_in def_of loop_of follow
    block_from block_at front_block item_words frame size_of word_of word_bytes
two-hosts = record {
  hosted = update_block 0 vector_page ∷ update_block 1 (block_page 0x0001000a) ∷ [];
  own = [];
  whole = refl;
  served = (refl, refl, (refl, refl, tt));
  rest = tt;
}

one-hosts : IsHosts c Arm (hosts_script (update_block 0 vector_page ∷ []))
one-hosts = record {
  hosted = update_block 0 vector_page ∷ [];
  own = [];
  whole = refl;
  served = (refl, refl, tt);
  rest = tt;
}

page-hosts : IsHosts c Arm (hosts_script (page_write ∷ []))
page-hosts = record {
  hosted = page_write ∷ [];
  own = [];
  whole = refl;
  served = (refl, refl, tt);
  rest = tt;
}

page-steps : session c Arm (page_write ∷ []) ≡ Program 512 data_page ∷ []
unfolding moved_machine decision_in written_block uf2_bytes programs_in padded_page table_in image_in def_of loop_of follow
    block_from block_at front_block item_words frame size_of word_of word_bytes
page-steps = refl

-- the law of a script is that of its steps on c
told : (events : List EventView) (steps : List Step) (law : SessionFound) → Writes (powerless c Arm) events
    → IsHosts c Arm events → session c Arm events ≡ steps → IsStepsLaw c Arm steps law → IsSessionLaw c Arm events law
told events steps law writes hosts is of =
    let there : IsStepsLaw c Arm (session c Arm events) law = subst (λ xs. IsStepsLaw c Arm xs law) (sym is) of in
    inr (writes, inr (hosts, subst (λ x. IsStepsLaw x Arm (session x Arm events) law) (sym nothing-first) there))

-- no image of the slot is started
none-starts : Chosen c Arm Normal (Start former_start) → StartsOutside slot (Start former_start) → StartsIn c Arm slot → ⊥
none-starts former outside (choice, chosen, there) =
    outside (subst (λ (x : Choice). x.image.window ≡ slot) (same (chosen-once c Arm Normal (Start choice) (Start former_start) chosen former)) there)
  where
    same : Start choice ≡ Start former_start → choice ≡ former_start
    same e = cc

a-table : (f : Found) × (table_in c ≡ Some f)
unfolding moved_machine decision_in written_block uf2_bytes programs_in padded_page table_in image_in def_of loop_of follow
    block_from block_at front_block item_words frame size_of word_of word_bytes
a-table = (_, refl)

some-table : table_in c ≢ None
some-table none = not-none a-table.0 (sym a-table.1 ∙ none)
  where
    not-none : (f : Found) → Some f ≡ None → ⊥
    not-none f e = cc

holds-one : (step : Step) → IsContent c → IsBootMember c slot Arm → Chosen c Arm Normal (Start former_start)
    → StartsOutside slot (Start former_start) → Confined (step ∷ []) slot → Holds c Arm (step ∷ []) slot
holds-one step right member former outside confined = record {
  keeps = record {
    slot = record { boot_member = member; first = step; others = []; whole = refl; holds = confined.0 };
    confined = confined;
  };
  elsewhere = none-starts former outside;
  table = table-stays c slot Arm right member (after_all c (step ∷ [])) (confined-after_all c slot (step ∷ []) confined)
      a-table.0 a-table.1 ∙ sym a-table.1;
}

ends-otherwise : (s : ℕ) (before : List Step) (page : ℕ) (bytes : List ℕ)
    → Erase s ∷ [] ≡ before ++ Program page bytes ∷ [] → ⊥
ends-otherwise s [] page bytes e = cc
ends-otherwise s (x ∷ []) page bytes e = cc
ends-otherwise s (x ∷ (y ∷ before)) page bytes e = cc

pub returns-clause-staged : goal.returns-clause-staged
returns-clause-staged g =
    let cut = g.a_cut_between_two_pages.ensures.session in
    let session_is = g.sessions_of_a_plan_and_a_download.ensures.download in
    told (hosts_script (update_block 0 vector_page ∷ update_block 1 (block_page 0x0001000a) ∷ [])) plain_steps
    (found.Staged slot)
    (writes-there (update_block 0 vector_page) (update_block 1 (block_page 0x0001000a) ∷ []) (inl (refl, block-writes)))
    two-hosts session_is (
      record {
        keeps = record {
          slot = record {
            boot_member = cut.boot_member;
            first = Erase 32;
            others = _;
            whole = refl;
            holds = (lit≤ tt, lit≤ tt);
          };
          confined = ((lit≤ tt, lit≤ tt), ((lit≤ tt, lit≤ tt), ((lit≤ tt, lit≤ tt), tt)));
        };
        elsewhere = none-starts cut.former cut.elsewhere;
        table = cut.table;
      },
      g.a_staged_session.ensures.session.staged,
    )

pub returns-clause-gated : goal.returns-clause-gated
returns-clause-gated g =
    let cut = g.a_cut_between_two_pages.ensures.session in
    let confined : Confined (Erase 32 ∷ []) slot = ((lit≤ tt, lit≤ tt), tt) in
    told (hosts_script (update_block 0 vector_page ∷ [])) (Erase 32 ∷ []) (found.Gated slot)
    (writes-there (update_block 0 vector_page) [] (inl (refl, block-writes))) one-hosts
    g.sessions_of_a_plan_and_a_download.ensures.first (
      holds-one (Erase 32) cut.right cut.boot_member cut.former cut.elsewhere confined,
      inr (
        32,
        [],
        [],
        record {
          whole = refl;
          first = refl;
          confined = confined;
          apart = tt;
          final = tt;
          distinct = IsDistinct-none;
        },
      ),
      λ staged. ends-otherwise 32 staged.before _ staged.bytes staged.last,
    )

ungated : Gated (Program 512 data_page ∷ []) slot → ⊥
ungated (inl none) = cc
ungated (inr (s, others, last, is)) = let first = is.whole in cc

pub returns-clause-confined : goal.returns-clause-confined
returns-clause-confined g =
    let cut = g.a_cut_between_two_pages.ensures.session in
    told (hosts_script (page_write ∷ [])) (Program 512 data_page ∷ []) (found.Confined slot)
    (writes-there page_write [] (inl (refl, page-writes))) page-hosts page-steps (
      holds-one (Program 512 data_page) cut.right cut.boot_member cut.former cut.elsewhere ((lit≤ tt, lit≤ tt), tt),
      some-table,
      ungated,
      λ staged. ungated staged.gated,
    )
