-- The caveats of a boot's answer, by the function and in the words of the rules.
use Rattle.std.proofs.Common.{◌≡◌, List, [], ◌++◌, length, Vec, Global, Ok, Err, append_assoc, sym, ap, ◌∙◌, subst}
use Rattle.std.specs.Prelude.{IfOk, Result}
use Rattle.std.specs.declared.alloc.AllocError.{AllocError}
use Rattle.pico_board.specs.declared.boot.Cpu.{Cpu}
use Rattle.pico_board.specs.declared.boot.BootKind.{BootKind}
use Rattle.pico_board.specs.Content.{Content}
use Rattle.boot_rules.specs.Choosing.{boot_units_in}
use Rattle.boot_reasons.specs.declared.reasons.Reasons.{Reasons}
use Rattle.boot_reasons.specs.Reasons.{reasons_in, table_of_reasons}
use Rattle.boot_reasons.specs.Rules.{IsExplained}
use Rattle.boot_reasons.proofs.ReasonLemmas.{reasons-only, reasons-right}
use Rattle.slot_caveats.specs.declared.caveat.Caveat.{Caveat}
use Rattle.slot_caveats.specs.Listing.{AreBoth}
use Rattle.boot_caveats.specs.Caveats.{board_caveats, caveats_by, caveats_in, choice_caveats, last_caveats, window_caveats}
use Rattle.boot_caveats.specs.Rules.{AreBoardCaveats, AreCaveats, AreChoiceCaveats, AreLastCaveats, AreWindowCaveats}
use Rattle.slot_caveats.proofs.ListingLemmas.{IsJust, both-just}
use Rattle.slot_caveats.proofs.OtpLemmas.{critical-just, otp-just, slots-short-just}
use Rattle.slot_caveats.proofs.TableCaveatLemmas.{short-just, tie-just as table-tie-just, unread-just}
use Rattle.boot_caveats.proofs.ChoiceCaveatLemmas.{moves-just, nothing-just, slot-update-just, slots-just, tie-just}
use Rattle.boot_caveats.proofs.MemberLemmas.{members-just}
use Rattle.boot_caveats.proofs.PartLemmas.{ignores-just, reads-just}
use Rattle.boot_caveats.specs.ProcessorCaveats.{looked_members, updated_in}
use Rattle.boot_caveats.proofs.ProcessorLemmas.{processors-just}
use Rattle.slot_caveats.proofs.SlotLemmas.{in-slots-just}
use Rattle.boot_caveats.proofs.StartCaveatLemmas.{rows-just, table-just}
use Rattle.boot_caveats.proofs.ImageCaveatLemmas.{late-just, orders-just, owned-just, starts-just}

pub all-just : (c : Content) (cpu : Cpu) (kind : BootKind) (r : Reasons) → IsExplained c cpu kind r
    → IsJust (AreBoth (AreBoardCaveats c r) (AreBoth (AreChoiceCaveats c cpu kind r)
    (AreBoth (AreWindowCaveats c cpu kind r) (AreLastCaveats c cpu kind r))))
    (caveats_by c cpu kind r)
unfolding caveats_by
all-just c cpu kind r is =
    both-just _ _
    (both-just _ _ (otp-just c.otp)
    (both-just _ _ (short-just (length c.flash) 0 r.first)
    (both-just _ _ (short-just (length c.flash) 1 r.second)
    (both-just _ _ (slots-short-just c.otp (length c.flash)) (table-just c r.decision)))))
    (both-just _ _
    (both-just _ _ (processors-just c cpu kind r.decision (looked_members r.looks.items (updated_in c cpu kind)))
    (both-just _ _ (slots-just c cpu r.decision r.size r.table is.table is.size)
    (both-just _ _ (tie-just r.looks.items)
    (both-just _ _ (slot-update-just c r.size is.size kind r.table is.table)
    (both-just _ _ (moves-just (boot_units_in c cpu) kind) (rows-just c.otp r.decision))))))
    (both-just _ _
    (both-just _ _ (late-just c r.decision r.size r.looks.items)
    (both-just _ _ (orders-just c cpu r.looks.items)
    (both-just _ _ (starts-just c cpu kind r.looks.items)
    (both-just _ _ (owned-just c cpu (table_of_reasons r))
    (both-just _ _ (unread-just (table_of_reasons r)) (table-tie-just r.first r.second))))))
    (both-just _ _ (in-slots-just c r.size r.table r.first r.second is.table)
    (both-just _ _ (critical-just c.otp)
    (both-just _ _ (members-just c cpu r.looks.items)
    (both-just _ _ (ignores-just (table_of_reasons r))
    (both-just _ _ (reads-just r.decision (table_of_reasons r))
    (nothing-just c (boot_units_in c cpu) r.size is.size kind r.table is.table))))))))

pub caveats-right : (c : Content) (cpu : Cpu) (kind : BootKind) → AreCaveats c cpu kind (caveats_in c cpu kind)
caveats-right c cpu kind = record {
  reasons = reasons_in c cpu kind;
  explained = reasons-right c cpu kind;
  listed = (all-just c cpu kind (reasons_in c cpu kind) (reasons-right c cpu kind)).right;
}

pub caveats-only : (c : Content) (cpu : Cpu) (kind : BootKind) (list : List Caveat) → AreCaveats c cpu kind list
    → list ≡ caveats_in c cpu kind
caveats-only c cpu kind list is =
    (all-just c cpu kind is.reasons is.explained).only list is.listed
    ∙ ap (caveats_by c cpu kind) (reasons-only c cpu kind is.reasons is.explained)

-- the four lists, one behind the other
pub gathered : (c : Content) (cpu : Cpu) (kind : BootKind) (r : Reasons) (none one two three four : List Caveat)
    → r ≡ reasons_in c cpu kind → none ≡ [] → one ≡ none ++ board_caveats c r → two ≡ one ++ choice_caveats c cpu kind r
    → three ≡ two ++ window_caveats c cpu kind r → four ≡ three ++ last_caveats c cpu kind r
    → four ≡ caveats_in c cpu kind
unfolding caveats_by
gathered c cpu kind r none one two three four is e0 e1 e2 e3 e4 =
    e4 ∙ (ap (λ l. l ++ last_caveats c cpu kind r) (e3 ∙ ap (λ l. l ++ window_caveats c cpu kind r)
    (e2 ∙ ap (λ l. l ++ choice_caveats c cpu kind r) (e1 ∙ ap (λ l. l ++ board_caveats c r) e0)))
    ∙ (append_assoc (board_caveats c r ++ choice_caveats c cpu kind r) (window_caveats c cpu kind r)
    (last_caveats c cpu kind r)
    ∙ (append_assoc (board_caveats c r) (choice_caveats c cpu kind r)
    (window_caveats c cpu kind r ++ last_caveats c cpu kind r)
    ∙ ap (caveats_by c cpu kind) is)))

-- what was gathered is right by the rules
pub answered-right : (c : Content) (cpu : Cpu) (kind : BootKind) (r : Result (Vec Caveat Global) AllocError)
    → IfOk r (λ list. list.items ≡ caveats_in c cpu kind) → IfOk r (λ list. AreCaveats c cpu kind list.items)
answered-right c cpu kind (Ok list) is =
    subst (λ (xs : List Caveat). AreCaveats c cpu kind xs) (sym is) (caveats-right c cpu kind)
answered-right c cpu kind (Err e) is = tt
