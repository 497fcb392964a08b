-- No caveat, no doubt: images in the slots beside a table, and the order of a table's items.
use Rattle.std.proofs.Common.{◌≡◌, ◌⊎◌, arith, ℕ, ◌*◌, ◌/◌, ◌==◌, ◌&&◌, ◌||◌, not, Bool, true, false, cond, List, [], ◌∷◌, length, slice_get, Option, Some, None, Result, Ok, Err, is_some, option_map, option_and_then, refl, sym, ap, ◌∙◌, subst, inl, inr}
use Rattle.std.specs.Prelude.{Contains, find, reverse, option_to_list}
use Rattle.std.specs.Option.{option_map_or, option_or}
use Rattle.std.specs.Result.{result_ok}
use Rattle.std.proofs.lemmas.List.Elements.{Contains-append_left, Contains-append_right}
use Rattle.pico_board.specs.declared.boot.Cpu.{Cpu}
use Rattle.pico_board.specs.declared.boot.Cpu.TheVariants.{Arm, Riscv}
use Rattle.pico_board.specs.declared.boot.BootKind.{BootKind}
use Rattle.pico_board.specs.declared.window.Window.{Window}
use Rattle.pico_board.specs.Content.{Content, window_bytes}
use Rattle.block_codec.specs.declared.kinds.TheConstants.{PARTITION_TABLE}
use Rattle.block_codec.specs.declared.items.Item.{Item}
use Rattle.block_codec.specs.Blocks.{BlockView}
use Rattle.block_codec.specs.Items.{items_of}
use Rattle.block_codec.specs.Kinds.{is_of_kind}
use Rattle.block_loop.specs.declared.fault.LoopFault.{LoopFault}
use Rattle.block_loop.specs.Loop.{loop_of}
use Rattle.image_def.specs.declared.started.Started.{Started}
use Rattle.image_def.specs.Flags.{image_kind}
use Rattle.image_def.specs.Suits.{does_suit, image_flags_of, suits_flags}
use Rattle.image_check.specs.declared.why.Why.{Why}
use Rattle.image_check.specs.Image.{image_at}
use Rattle.image_check.specs.Valid.{Valid}
use Rattle.image_check.proofs.LawLemmas.{valid-at}
use Rattle.otp_roll.specs.Flags.{slot_size}
use Rattle.part_table.specs.declared.table.Table.{Table}
use Rattle.part_table.specs.TableOf.{has_table}
use Rattle.slot_choice.specs.Units.{units}
use Rattle.slot_choice.specs.Versions.{better}
use Rattle.boot_rules.specs.declared.slots.SlotFault.{SlotFault}
use Rattle.boot_rules.specs.declared.tables.Found.{Found}
use Rattle.boot_rules.specs.Choosing.{boot_units_in, choose, images_in, of_better, order_of, unit_choice, version_of_image}
use Rattle.boot_rules.specs.Chosen.{Chosen}
use Rattle.boot_rules.specs.TableRules.{IsTableIn}
use Rattle.boot_rules.specs.Tables.{answer_in_block, answer_in_loop, found_of, slot_answer_in, slot_window, table_in, table_of_content}
use Rattle.boot_rules.proofs.SlotLemmas.{table-found}
use Rattle.boot_rules.proofs.TableRuleLemmas.{table-words}
use Rattle.boot_reasons.specs.declared.slots.TableInForce.{TableInForce}
use Rattle.boot_reasons.specs.Reasons.{reasons_in}
use Rattle.boot_reasons.specs.SlotRules.{IsTableInForce}
use Rattle.boot_reasons.proofs.ReasonLemmas.{reasons-right}
use Rattle.slot_caveats.specs.declared.caveat.Caveat.{Caveat}
use Rattle.slot_caveats.specs.declared.caveat.Caveat.TheVariants.{ImageInSlot, TableOrder}
use Rattle.slot_caveats.specs.Listing.{caveat_if}
use Rattle.boot_caveats.specs.Rules.{AreCaveats}
use Rattle.slot_caveats.specs.SlotCaveats.{begins_table, has_executable, has_other_order, has_slot_image, image_in_slot, is_executable, of_slots, slot_caveats, slot_end, table_fault, table_order}
use Rattle.law_caveats.specs.Alternatives.{decision_ordered, decision_slots, ordered_answer_in_loop, ordered_slot_answer, ordered_table, ordered_units, slot_unit, slots_before}
use Rattle.boot_caveats.proofs.CaveatLemmas.{caveats-only}
use Rattle.law_caveats.proofs.DoubtLemmas.{contains-one, in-last, same-chosen}
use Rattle.slot_caveats.proofs.SlotLemmas.{runs-decides}
use Rattle.law_caveats.proofs.WindowLaws.{find-none, find-same}

-- a definition is executable
suits-executable : (cpu : Cpu) (b : BlockView) → does_suit cpu b ≡ true → is_executable b ≡ true
suits-executable cpu b e = go cpu (image_flags_of b) (right-part _ _ e)
  where
    left-part : (a b : Bool) → (a && b) ≡ true → a ≡ true
    left-part true b h = refl
    left-part false b h = cc

    right-part : (a b : Bool) → (a && b) ≡ true → b ≡ true
    right-part true b h = h
    right-part false b h = cc

    go : (p : Cpu) (o : Option ℕ) → option_map_or (suits_flags p) o false ≡ true
        → option_map_or (λ flags. image_kind flags == 1) o false ≡ true
    go p None h = cc
    go Arm (Some flags) h = left-part _ _ (left-part _ _ (left-part _ _ h))
    go Riscv (Some flags) h = left-part _ _ (left-part _ _ h)

-- a window with an image has an executable block
image-runs : (c : Content) (w : Window) (cpu : Cpu) (trial : Bool) (s : Started) → Valid c w cpu trial s
    → has_executable (window_bytes c w) ≡ true
image-runs c w cpu trial s v =
    let d = v.sound.defined in
    (runs-decides (window_bytes c w)).1 (record {
      loop = v.sound.loop;
      block = v.image.block;
      closes = d.closes;
      among = subst (λ (xs : List BlockView). Contains xs v.image.block) (sym d.defines.whole)
          (Contains-append_right d.defines.before (v.image.block ∷ d.defines.behind) v.image.block
          (0, omega arith, refl));
      runs = suits-executable cpu v.image.block d.defines.here;
    })

left-one : (a b : Bool) → a ≡ true → (a || b) ≡ true
left-one true b e = refl
left-one false b e = cc

both : (a b : Bool) → a ≡ true → b ≡ true → (a && b) ≡ true
both true true e f = refl
both true false e f = cc
both false b e f = cc

bool-or : (b : Bool) → (b ≡ true → ⊥) → b ≡ false
bool-or true never = absurd (never refl)
bool-or false never = refl

module _ (c : Content) (cpu : Cpu) (kind : BootKind) (list : List Caveat) (are : AreCaveats c cpu kind list) where
  abbrev size_of_slots : ℕ
  size_of_slots = slot_size c.otp (length c.flash)

  listed : (x : Caveat)
      → Contains (slot_caveats c (reasons_in c cpu kind).size (reasons_in c cpu kind).table
      (reasons_in c cpu kind).first (reasons_in c cpu kind).second) x
      → Contains list x
  listed x is =
      subst (λ (xs : List Caveat). Contains xs x) (sym (caveats-only c cpu kind list are))
      (in-last c cpu kind x (Contains-append_left _ _ x is))

  -- what is told of one of the slots
  of-slot : (told : ℕ → Window → Option Caveat) (number : ℕ) (x : Caveat) → (number ≡ 0) ⊎ (number ≡ 1)
      → told number (slot_window (reasons_in c cpu kind).size number) ≡ Some x
      → Contains (of_slots (reasons_in c cpu kind).size told) x
  of-slot told number x (inl e) is =
      Contains-append_left _ _ x (contains-one _ x
      (subst (λ n. told n (slot_window (reasons_in c cpu kind).size n) ≡ Some x) e is))
  of-slot told number x (inr e) is =
      Contains-append_right (option_to_list (told 0 (slot_window (reasons_in c cpu kind).size 0))) _ x
      (contains-one _ x (subst (λ n. told n (slot_window (reasons_in c cpu kind).size n) ≡ Some x) e is))

  -- ---- images in the slots

  module _ (never : (number : ℕ) → Contains list (ImageInSlot number) → ⊥) where
    has-table : (t : Table) → table_of_content c ≡ Some t → is_some (reasons_in c cpu kind).table ≡ true
    has-table t e = go (reasons_in c cpu kind).table (reasons-right c cpu kind).table
      where
        found : (o : Option Found) → table_in c ≡ o → option_map (λ (f : Found). f.table) o ≡ Some t
            → (f : Found) × IsTableIn c f
        found None is h = cc
        found (Some f) is h = (f, (table-words c f).0 is)

        go : (o : Option TableInForce) → IsTableInForce c o → is_some o ≡ true
        go None is = let f = found (table_in c) refl e in absurd (is f.0 f.1)
        go (Some taken) is = refl

    no-image : (t : Table) → table_of_content c ≡ Some t → (number : ℕ) → (number ≡ 0) ⊎ (number ≡ 1)
        → images_in c cpu (slot_window size_of_slots number) false ≡ None
    no-image t e number slot = go (image_at c (slot_window size_of_slots number) cpu false) refl
      where
        told : (s : Started) → image_at c (slot_window size_of_slots number) cpu false ≡ Ok s
            → Contains list (ImageInSlot number)
        told s is =
            let runs = image-runs c (slot_window size_of_slots number) cpu false s
            (valid-at c (slot_window size_of_slots number) cpu false s is) in
            listed (ImageInSlot number) (Contains-append_left _ _ _
            (of-slot (image_in_slot c (reasons_in c cpu kind).table) number (ImageInSlot number) slot
            (ap (λ b. caveat_if b (ImageInSlot number))
            (both (is_some (reasons_in c cpu kind).table)
            (has_slot_image c (slot_window (reasons_in c cpu kind).size number)) (has-table t e)
            (left-one _ _ (subst (λ n. has_executable (window_bytes c (slot_window n number)) ≡ true)
            (sym (reasons-right c cpu kind).size) runs))))))

        go : (r : Result Started Why) → image_at c (slot_window size_of_slots number) cpu false ≡ r
            → result_ok r ≡ None
        go (Ok s) is = absurd (never number (told s is))
        go (Err why) is = refl

    no-choice : (number : ℕ) → images_in c cpu (slot_window size_of_slots number) false ≡ None
        → unit_choice (images_in c cpu) (slot_unit size_of_slots number) None ≡ None
    no-choice number e =
        ap (λ a. of_better (slot_unit size_of_slots number) (better (version_of_image a) None) a None) e

    without : (o : Option Table) → table_of_content c ≡ o
        → slots_before o (images_in c cpu) size_of_slots (order_of kind (boot_units_in c cpu))
        ≡ choose (images_in c cpu) (order_of kind (boot_units_in c cpu))
    without None e = refl
    without (Some t) e =
        ap (λ x. option_or x (option_or (unit_choice (images_in c cpu) (slot_unit size_of_slots 1) None)
        (choose (images_in c cpu) (order_of kind (boot_units_in c cpu)))))
        (no-choice 0 (no-image t e 0 (inl refl)))
        ∙ ap (λ x. option_or x (choose (images_in c cpu) (order_of kind (boot_units_in c cpu))))
        (no-choice 1 (no-image t e 1 (inr refl)))

    pub slots-before-doubt : Chosen c cpu kind (decision_slots c cpu kind)
    slots-before-doubt =
        same-chosen c cpu kind
        (slots_before (table_of_content c) (images_in c cpu) size_of_slots (order_of kind (boot_units_in c cpu)))
        (λ does. without (table_of_content c) refl)

  -- ---- the order of a table's items

  module _ (never : (number : ℕ) → Contains list (TableOrder number) → ⊥) where
    in-order : (number : ℕ) → (number ≡ 0) ⊎ (number ≡ 1)
        → has_other_order (window_bytes c (slot_window size_of_slots number)) ≡ false
    in-order number slot =
        bool-or (has_other_order (window_bytes c (slot_window size_of_slots number))) (λ e.
        never number (listed (TableOrder number) (behind
        (of-slot (table_order c) number (TableOrder number) slot
        (ap (λ b. caveat_if b (TableOrder number))
        (subst (λ n. has_other_order (window_bytes c (slot_window n number)) ≡ true)
        (sym (reasons-right c cpu kind).size) e))))))
      where
        behind : Contains (of_slots (reasons_in c cpu kind).size (table_order c)) (TableOrder number)
            → Contains (slot_caveats c (reasons_in c cpu kind).size (reasons_in c cpu kind).table
            (reasons_in c cpu kind).first (reasons_in c cpu kind).second) (TableOrder number)
        behind is =
            let r = reasons_in c cpu kind in
            Contains-append_right (of_slots r.size (image_in_slot c r.table)) _ _
            (Contains-append_right (of_slots r.size (λ n. slot_end c r.table)) _ _
            (Contains-append_right (option_to_list (table_fault (length c.flash) 0 r.first)) _ _
            (Contains-append_right (option_to_list (table_fault (length c.flash) 1 r.second)) _ _ is)))

    table-weaker : (b : BlockView) → has_table b ≡ false → begins_table b ≡ false
    table-weaker b e = bool-or (begins_table b) (λ begins. by (items_of b.items) begins e)
      where
        by : (items : List Item) → option_map_or (is_of_kind PARTITION_TABLE) (slice_get items 0) false ≡ true
            → is_some (find (is_of_kind PARTITION_TABLE) items) ≡ false → ⊥
        by [] begins none = cc
        by (item ∷ items) begins none =
            let some : is_some (find (is_of_kind PARTITION_TABLE) (item ∷ items)) ≡ true =
            ap (λ t. is_some (cond t (Some item) (find (is_of_kind PARTITION_TABLE) items))) begins in
            apart _ some none
          where
            apart : (b : Bool) → b ≡ true → b ≡ false → ⊥
            apart b x y = cc

    table-block : (loop : List BlockView)
        → option_map_or (λ b. not (begins_table b)) (find has_table (reverse loop)) false ≡ false
        → find begins_table (reverse loop) ≡ find has_table (reverse loop)
    table-block loop e = go (find has_table (reverse loop)) refl e
      where
        not-false : (b : Bool) → not b ≡ false → b ≡ true
        not-false true h = refl
        not-false false h = cc

        go : (o : Option BlockView) → find has_table (reverse loop) ≡ o
            → option_map_or (λ b. not (begins_table b)) o false ≡ false → find begins_table (reverse loop) ≡ o
        go None is h = find-none has_table begins_table table-weaker (reverse loop) is
        go (Some b) is h =
            find-same has_table begins_table table-weaker (reverse loop) b is (not-false (begins_table b) h)

    answer-same : (sectors first : ℕ) (bytes : List ℕ) → has_other_order bytes ≡ false
        → ordered_answer_in_loop sectors first (loop_of bytes) ≡ answer_in_loop sectors first (loop_of bytes)
    answer-same sectors first bytes e = go (loop_of bytes) e
      where
        go : (r : Result (List BlockView) LoopFault)
            → option_map_or (λ b. not (begins_table b))
            (option_and_then (λ loop. find has_table (reverse loop)) (result_ok r)) false ≡ false
            → ordered_answer_in_loop sectors first r ≡ answer_in_loop sectors first r
        go (Ok loop) h = ap (answer_in_block sectors first) (table-block loop h)
        go (Err fault) h = refl

    slot-same : (number : ℕ) → (number ≡ 0) ⊎ (number ≡ 1) → ordered_slot_answer c number ≡ slot_answer_in c number
    slot-same number slot =
        answer-same (length c.flash / 4096) (2 * size_of_slots / 4096)
        (window_bytes c (slot_window size_of_slots number)) (in-order number slot)

    table-same : ordered_table c ≡ table_of_content c
    table-same =
        ap (λ o. option_map (λ (found : Found). found.table) o)
        (ap (λ (r : Result Table SlotFault). found_of (result_ok r) (result_ok (ordered_slot_answer c 1)))
        (slot-same 0 (inl refl))
        ∙ (ap (λ (r : Result Table SlotFault). found_of (result_ok (slot_answer_in c 0)) (result_ok r))
        (slot-same 1 (inr refl))
        ∙ sym (table-found c)))

    pub table-order-doubt : Chosen c cpu kind (decision_ordered c cpu kind)
    table-order-doubt =
        same-chosen c cpu kind (choose (images_in c cpu) (order_of kind (ordered_units c cpu)))
        (λ does. ap (λ (t : Option Table). choose (images_in c cpu)
        (order_of kind (units t (length c.flash) size_of_slots cpu))) table-same)
