-- The caveats of a boot's answer, in their order, as a function of the content.
use Rattle.std.specs.Prelude.{List, ◌++◌, length, option_to_list}
use Rattle.std.specs.List.{filter_map, flat_map}
use Rattle.pico_board.specs.declared.boot.Cpu.{Cpu}
use Rattle.pico_board.specs.declared.boot.BootKind.{BootKind}
use Rattle.pico_board.specs.Content.{Content}
use Rattle.boot_rules.specs.Choosing.{boot_units_in}
use Rattle.boot_reasons.specs.declared.reasons.Reasons.{Reasons}
use Rattle.boot_reasons.specs.Reasons.{reasons_in, table_of_reasons}
use Rattle.slot_caveats.specs.declared.caveat.Caveat.{Caveat}
use Rattle.slot_caveats.specs.OtpCaveats.{critical_caveats, otp_caveats, short_slots}
use Rattle.slot_caveats.specs.TableCaveats.{short_flash, table_tie, unread_caveats}
use Rattle.boot_caveats.specs.ChoiceCaveats.{first_tie, slot_images, update_moves, update_of_nothing, update_of_slot}
use Rattle.boot_caveats.specs.MemberCaveats.{member_caveats}
use Rattle.boot_caveats.specs.PartCaveats.{ignore_flags, no_read, of_parts}
use Rattle.boot_caveats.specs.ProcessorCaveats.{looked_members, other_processors, updated_in}
use Rattle.slot_caveats.specs.SlotCaveats.{slot_caveats}
use Rattle.boot_caveats.specs.Unread.{unread_window}
use Rattle.boot_caveats.specs.StartCaveats.{started_rows, table_in_image}
use Rattle.boot_caveats.specs.ImageCaveats.{item_order, late_firsts, look_may_start, looked_windows, owned_images}

-- the OTP, the tables of the slots, the slot size, and the table of the image that starts
abbrev pub board_caveats : Content → Reasons → List Caveat
board_caveats c r =
    otp_caveats c.otp
    ++ (option_to_list (short_flash (length c.flash) 0 r.first)
    ++ (option_to_list (short_flash (length c.flash) 1 r.second)
    ++ (option_to_list (short_slots c.otp (length c.flash))
    ++ option_to_list (table_in_image c r.decision))))

-- the choice, and the rows of the image that starts
abbrev pub choice_caveats : Content → Cpu → BootKind → Reasons → List Caveat
choice_caveats c cpu kind r =
    other_processors c cpu kind r.decision (looked_members r.looks.items (updated_in c cpu kind))
    ++ (slot_images c cpu r.decision r.size r.table
    ++ (option_to_list (first_tie r.looks.items)
    ++ (option_to_list (update_of_slot kind r.size r.table)
    ++ (option_to_list (update_moves kind (boot_units_in c cpu))
    ++ started_rows c.otp r.decision))))

-- the windows that are looked at, owned partitions, and what is not read of tables
abbrev pub window_caveats : Content → Cpu → BootKind → Reasons → List Caveat
window_caveats c cpu kind r =
    late_firsts c r.decision r.size r.looks.items
    ++ (filter_map (item_order c cpu) (looked_windows r.looks.items)
    ++ (flat_map (look_may_start (unread_window c cpu kind)) r.looks.items
    ++ (owned_images c cpu (table_of_reasons r)
    ++ (unread_caveats (table_of_reasons r) ++ option_to_list (table_tie r.first r.second)))))

-- what stands in the slots, critical flags, the definitions that are looked at, flags and rights
-- of partitions, and an update of nothing
abbrev pub last_caveats : Content → Cpu → BootKind → Reasons → List Caveat
last_caveats c cpu kind r =
    slot_caveats c r.size r.table r.first r.second
    ++ (critical_caveats c.otp
    ++ (member_caveats c cpu r.looks.items
    ++ (of_parts ignore_flags (table_of_reasons r)
    ++ (of_parts (no_read r.decision) (table_of_reasons r)
    ++ option_to_list (update_of_nothing kind r.size r.table (boot_units_in c cpu))))))

-- the caveats of an answer with these reasons
unfoldable pub caveats_by : Content → Cpu → BootKind → Reasons → List Caveat
caveats_by c cpu kind r =
    board_caveats c r
    ++ (choice_caveats c cpu kind r ++ (window_caveats c cpu kind r ++ last_caveats c cpu kind r))

-- the caveats of the answer of a boot
abbrev pub caveats_in : Content → Cpu → BootKind → List Caveat
caveats_in c cpu kind = caveats_by c cpu kind (reasons_in c cpu kind)
