-- Decisions by other rules than those of Chosen. The chip may have each of these rules
-- instead.
use Rattle.std.specs.Prelude.{◌≢◌, ◌⊎◌, ℕ, zero, suc, ◌+◌, ◌-◌, ◌/◌, ◌*◌, ◌&&◌, nat_le, Bool, false, if◌then◌else◌, List, [], ◌∷◌, length, drop, find, reverse, slice_get, Option, Some, None, option_map, Result, Ok, Err}
use Rattle.std.specs.List.{list_any}
use Rattle.std.specs.Option.{option_map_or, option_or}
use Rattle.std.specs.Result.{result_ok}
use Rattle.pico_board.specs.declared.boot.Cpu.{Cpu}
use Rattle.pico_board.specs.declared.boot.BootKind.{BootKind}
use Rattle.pico_board.specs.declared.boot.BootKind.TheVariants.{Normal, Update, Bootsel as AskBootsel}
use Rattle.pico_board.specs.declared.window.Window.{Window}
use Rattle.pico_board.specs.declared.window.TheConstants.{SMALLEST_SLOT}
use Rattle.pico_board.specs.Content.{Content, flash_base, window_bytes}
use Rattle.block_codec.specs.declared.kinds.TheConstants.{IMAGE_TYPE}
use Rattle.block_codec.specs.declared.versions.Version.{Version}
use Rattle.block_codec.specs.Blocks.{BlockView}
use Rattle.block_codec.specs.Items.{items_of}
use Rattle.block_codec.specs.Kinds.{is_of_kind}
use Rattle.block_codec.specs.Reading.{front_block}
use Rattle.block_loop.specs.declared.fault.LoopFault.{LoopFault}
use Rattle.block_loop.specs.declared.fault.LoopFault.TheVariants.{NoBlock as NoFirst}
use Rattle.block_loop.specs.Loop.{follow, loop_of}
use Rattle.image_def.specs.declared.started.Started.{Started}
use Rattle.image_def.specs.Suits.{does_suit, has_image_type}
use Rattle.image_check.specs.declared.examining.Defined.{Defined}
use Rattle.image_check.specs.declared.why.Why.{Why}
use Rattle.image_check.specs.declared.why.Why.TheVariants.{NoDefinition, NotForProcessor}
use Rattle.image_check.specs.Addressing.{in_flash}
use Rattle.image_check.specs.Answers.{and_then, and_unless, or_fault}
use Rattle.image_check.specs.Image.{entered_in, started_of}
use Rattle.image_check.specs.Rules.{items_answer, loop_answer, rollback_fault, trial_fault}
use Rattle.otp_roll.specs.Flags.{flash_off, slot_size}
use Rattle.part_table.specs.declared.table.Table.{Table}
use Rattle.slot_choice.specs.declared.unit.Member.{Member}
use Rattle.slot_choice.specs.declared.unit.Member.TheVariants.{A, B}
use Rattle.slot_choice.specs.declared.unit.SlotUnit.{SlotUnit}
use Rattle.slot_choice.specs.declared.choice.Choice.{Choice}
use Rattle.slot_choice.specs.Units.{slot_pair, units}
use Rattle.slot_choice.specs.Updates.{has_member_at, member_at}
use Rattle.slot_choice.specs.Versions.{is_below}
use Rattle.boot_rules.specs.declared.decision.Decision.{Decision}
use Rattle.boot_rules.specs.declared.decision.Decision.TheVariants.{Bootsel}
use Rattle.boot_rules.specs.declared.decision.Fall.TheVariants.{NoImage}
use Rattle.boot_rules.specs.declared.slots.SlotFault.{SlotFault}
use Rattle.boot_rules.specs.declared.tables.Found.{Found}
use Rattle.boot_rules.specs.Choosing.{Order, boot_units_in, choose, decision_in, images_in, member_image, of_better, order_of, ordered_choice, unit_choice, version_of_image}
use Rattle.boot_rules.specs.Chosen.{Chosen, ChosenFrom}
use Rattle.boot_rules.specs.declared.slots.SlotFault.TheVariants.{Loop}
use Rattle.boot_rules.specs.Tables.{answer_in_block, answer_in_loop, found_of, slot_window, table_of_content}
use Rattle.boot_reasons.specs.Reasons.{reported_decision}
use Rattle.boot_caveats.specs.ChoiceCaveats.{other_cpu}
use Rattle.boot_caveats.specs.ChoiceRules.{IsTableless}
use Rattle.boot_caveats.specs.ImageCaveats.{ends_late}
use Rattle.slot_caveats.specs.SlotCaveats.{begins_table}
use Rattle.boot_caveats.specs.Unread.{unread_content}

-- ---- other-processor: where no image starts, the boot decides again for the other processor,
-- with the same kind and that processor's units

abbrev pub ChosenOfBoth : Content → Cpu → BootKind → Decision → Type 0
ChosenOfBoth c cpu kind d =
    (Chosen c cpu kind d × (d ≢ Bootsel NoImage))
    ⊎ (Chosen c cpu kind (Bootsel NoImage) × Chosen c (other_cpu cpu) kind d)

-- ---- slot-1-image: the two slots are a pair, with trial not allowed, where no image starts,
-- there is no table and the slot size is the smallest

abbrev pub slots_alone : Order
slots_alone = record { units = slot_pair SMALLEST_SLOT ∷ []; updated = None }

abbrev pub ChosenWithSlots : Content → Cpu → BootKind → Decision → Type 0
ChosenWithSlots c cpu kind d =
    (Chosen c cpu kind d × ((d ≢ Bootsel NoImage) ⊎ (IsTableless c → ⊥)))
    ⊎ (Chosen c cpu kind (Bootsel NoImage) × IsTableless c × ChosenFrom c cpu slots_alone d)

-- ---- tie: of two images of one version that of B is taken

abbrev pub better_last : Option Version → Option Version → Option Member
better_last None None = None
better_last None (Some w) = Some B
better_last (Some v) None = Some A
better_last (Some v) (Some w) = Some (if is_below w v then A else B)

abbrev pub unit_choice_last : (Window → Bool → Option Started) → SlotUnit → Option Member
    → Option Choice
unit_choice_last images u (Some m) = unit_choice images u (Some m)
unit_choice_last images u None =
    let a = member_image images u A false in
    let b = member_image images u B false in
    of_better u (better_last (version_of_image a) (version_of_image b)) a b

abbrev pub ordered_choice_last : (Window → Bool → Option Started) → List SlotUnit → Option Member
    → Option Choice
ordered_choice_last images [] updated = None
ordered_choice_last images (u ∷ us) updated =
    option_or (unit_choice_last images u updated) (ordered_choice_last images us None)

abbrev pub choose_last : (Window → Bool → Option Started) → Order → Option Choice
choose_last images order = ordered_choice_last images order.units order.updated

abbrev pub decision_last : Content → Cpu → BootKind → Decision
decision_last c cpu kind =
    reported_decision kind (flash_off c.otp)
    (choose_last (images_in c cpu) (order_of kind (boot_units_in c cpu)))

-- ---- update-moves-unit: an update boot leaves the units in table order; the updated member's
-- image is still taken before the other image of its unit, and it alone may be a trial

abbrev pub unmoved_from : (Window → Bool → Option Started) → ℕ → List SlotUnit → Option Choice
unmoved_from images start [] = None
unmoved_from images start (u ∷ us) =
    if has_member_at start u
    then option_or (unit_choice images u (member_at start u)) (ordered_choice images us None)
    else option_or (unit_choice images u None) (unmoved_from images start us)

abbrev pub choose_unmoved : (Window → Bool → Option Started) → BootKind → List SlotUnit
    → Option Choice
choose_unmoved images Normal us = ordered_choice images us None
choose_unmoved images AskBootsel us = ordered_choice images us None
choose_unmoved images (Update base) us =
    if nat_le flash_base base then unmoved_from images (base - flash_base) us
    else ordered_choice images us None

abbrev pub decision_unmoved : Content → Cpu → BootKind → Decision
decision_unmoved c cpu kind =
    reported_decision kind (flash_off c.otp)
    (choose_unmoved (images_in c cpu) kind (boot_units_in c cpu))

-- ---- the image of a window by other loops and other definitions: as `image_in`, but for the loop
-- of the bytes and for which blocks suit

abbrev pub definition_by : (BlockView → Bool) → List BlockView → Result BlockView Why
definition_by suits loop =
    if list_any has_image_type loop then or_fault (find suits (reverse loop)) NotForProcessor
    else Err NoDefinition

abbrev pub defined_by : (List ℕ → Result (List BlockView) LoopFault) → (BlockView → Bool) → List ℕ
    → Result Defined Why
defined_by loops suits bytes =
    and_then (loop_answer (loops bytes)) (λ loop.
    and_then (definition_by suits loop) (λ block.
    and_then (items_answer block) (λ def.
    Ok (record { block = block; def = def }))))

abbrev pub image_of : Window → Cpu → Bool → List ℕ → List ℕ → Result Defined Why
    → Result Started Why
image_of window cpu trial otp bytes defined =
    and_then defined (λ image.
    and_unless (trial_fault trial image.def)
    (and_unless (rollback_fault otp image.def)
    (and_then (entered_in in_flash cpu bytes image) (λ entry.
    Ok (started_of window image entry)))))

abbrev pub images_by : (List ℕ → Result (List BlockView) LoopFault) → (BlockView → Bool) → Content
    → Cpu → Window → Bool → Option Started
images_by loops suits c cpu w trial =
    let bytes = window_bytes c w in
    result_ok (image_of w cpu trial c.otp bytes (defined_by loops suits bytes))

-- ---- item-order: a block suits only where its first item is the IMAGE_TYPE

abbrev pub begins_typed : BlockView → Bool
begins_typed b = option_map_or (is_of_kind IMAGE_TYPE) (slice_get (items_of b.items) 0) false

abbrev pub suits_first : Cpu → BlockView → Bool
suits_first cpu b = does_suit cpu b && begins_typed b

abbrev pub decision_typed : Content → Cpu → BootKind → Decision
decision_typed c cpu kind =
    reported_decision kind (flash_off c.otp)
    (choose (images_by loop_of (suits_first cpu) c cpu) (order_of kind (boot_units_in c cpu)))

-- ---- first-block: a first block counts only where it ends within 4096 bytes, so a later block
-- may be the first; this holds for the table slots too

unfoldable pub early_from : ℕ → ℕ → List ℕ → Option BlockView
early_from zero x bytes = None
early_from (suc n) x bytes =
    elim (front_block x bytes) [
      | Some b ↦ if ends_late b then early_from n (x + 4) (drop 4 bytes) else Some b
      | None ↦ early_from n (x + 4) (drop 4 bytes)
    ]

abbrev pub early_first : List ℕ → Option BlockView
early_first w = early_from 1024 0 w

-- the loop that begins at a first block, or none
abbrev pub loop_from : List ℕ → Option BlockView → Result (List BlockView) LoopFault
loop_from w None = Err NoFirst
loop_from w (Some b) = follow 31 w b.at (b ∷ []) b

abbrev pub early_loop : List ℕ → Result (List BlockView) LoopFault
early_loop w = loop_from w (early_first w)

abbrev pub early_slot_answer : Content → ℕ → Result Table SlotFault
early_slot_answer c number =
    let size = slot_size c.otp (length c.flash) in
    answer_in_loop (length c.flash / 4096) (2 * size / 4096)
    (early_loop (window_bytes c (slot_window size number)))

abbrev pub early_table : Content → Option Table
early_table c =
    option_map (λ (found : Found). found.table)
    (found_of (result_ok (early_slot_answer c 0)) (result_ok (early_slot_answer c 1)))

abbrev pub early_units : Content → Cpu → List SlotUnit
early_units c cpu =
    units (early_table c) (length c.flash) (slot_size c.otp (length c.flash)) cpu

abbrev pub decision_early : Content → Cpu → BootKind → Decision
decision_early c cpu kind =
    reported_decision kind (flash_off c.otp)
    (choose (images_by early_loop (does_suit cpu) c cpu) (order_of kind (early_units c cpu)))

-- ---- slot-image: where there is a table, slot 0 and then slot 1, as windows of one slot size, are
-- units alone before all others, with trial not allowed

abbrev pub slot_unit : ℕ → ℕ → SlotUnit
slot_unit size number =
    record { a = slot_window size number; b = None; a_part = None; b_part = None }

abbrev pub slots_before : Option Table → (Window → Bool → Option Started) → ℕ → Order
    → Option Choice
slots_before None images size order = choose images order
slots_before (Some t) images size order =
    option_or (unit_choice images (slot_unit size 0) None)
    (option_or (unit_choice images (slot_unit size 1) None) (choose images order))

abbrev pub decision_slots : Content → Cpu → BootKind → Decision
decision_slots c cpu kind =
    reported_decision kind (flash_off c.otp)
    (slots_before (table_of_content c) (images_in c cpu) (slot_size c.otp (length c.flash))
    (order_of kind (boot_units_in c cpu)))

-- ---- table-order: a block is a table's only where PARTITION_TABLE is its first item, so that an
-- earlier one of the loop may be it

abbrev pub ordered_answer_in_loop : ℕ → ℕ → Result (List BlockView) LoopFault
    → Result Table SlotFault
ordered_answer_in_loop sectors first (Ok blocks) =
    answer_in_block sectors first (find begins_table (reverse blocks))
ordered_answer_in_loop sectors first (Err fault) = Err (Loop fault)

abbrev pub ordered_slot_answer : Content → ℕ → Result Table SlotFault
ordered_slot_answer c number =
    let size = slot_size c.otp (length c.flash) in
    ordered_answer_in_loop (length c.flash / 4096) (2 * size / 4096)
    (loop_of (window_bytes c (slot_window size number)))

abbrev pub ordered_table : Content → Option Table
ordered_table c =
    option_map (λ (found : Found). found.table)
    (found_of (result_ok (ordered_slot_answer c 0)) (result_ok (ordered_slot_answer c 1)))

abbrev pub ordered_units : Content → Cpu → List SlotUnit
ordered_units c cpu =
    units (ordered_table c) (length c.flash) (slot_size c.otp (length c.flash)) cpu

abbrev pub decision_ordered : Content → Cpu → BootKind → Decision
decision_ordered c cpu kind =
    reported_decision kind (flash_off c.otp)
    (choose (images_in c cpu) (order_of kind (ordered_units c cpu)))

-- ---- other-processor-first: each member that has no image that counts is judged for the other
-- processor too, before the next unit is looked at

abbrev pub images_of_both : Content → Cpu → Window → Bool → Option Started
images_of_both c cpu w trial =
    option_or (images_in c cpu w trial) (images_in c (other_cpu cpu) w trial)

abbrev pub decision_of_both : Content → Cpu → BootKind → Decision
decision_of_both c cpu kind =
    reported_decision kind (flash_off c.otp)
    (choose (images_of_both c cpu) (order_of kind (boot_units_in c cpu)))

-- ---- rollback-unread: the rule on rollback rows is not applied at all, which is the decision with
-- an OTP that has 0 in every row but row 0x055 and bit 1 of row 0x048

abbrev pub decision_unread : Content → Cpu → BootKind → Decision
decision_unread c cpu kind = decision_in (unread_content c) cpu kind
