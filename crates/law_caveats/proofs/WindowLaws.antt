-- No caveat, no doubt: the order of a definition's items, and first blocks.
use Rattle.std.proofs.Common.{◌≡◌, ◌⊎◌, ℕ, zero, suc, ◌+◌, ◌*◌, ◌/◌, ◌&&◌, not, Bool, true, false, cond, if◌then◌else◌, List, [], ◌∷◌, ◌++◌, length, drop, Option, Some, None, Result, Ok, Err, option_map, option_and_then, refl, sym, ap, ◌∙◌, subst, inl, inr, arith}
use Rattle.std.specs.Prelude.{Contains, find, reverse}
use Rattle.std.specs.List.{filter_map, list_any}
use Rattle.std.specs.Option.{option_map_or}
use Rattle.std.specs.Result.{result_ok}
use Rattle.std.proofs.lemmas.List.Elements.{Contains-append_cases, Contains-append_left, Contains-append_right}
use Rattle.pico_board.specs.declared.boot.Cpu.{Cpu}
use Rattle.pico_board.specs.declared.boot.BootKind.{BootKind}
use Rattle.pico_board.specs.declared.boot.BootKind.TheVariants.{Normal, Update, Bootsel as AskBootsel}
use Rattle.pico_board.specs.declared.window.Window.{Window}
use Rattle.pico_board.specs.Content.{Content, window_bytes}
use Rattle.block_codec.specs.Blocks.{BlockView}
use Rattle.block_codec.specs.Reading.{front_block}
use Rattle.block_loop.specs.declared.fault.LoopFault.{LoopFault}
use Rattle.block_loop.specs.declared.fault.LoopFault.TheVariants.{NoBlock as NoFirst, Broken, TooMany, Overlap}
use Rattle.block_loop.specs.Loop.{block_from, first_block, loop_of}
use Rattle.block_loop.proofs.FollowLemmas.{first_from-end, first_from-here, first_from-later, loop_of-first, loop_of-none}
use Rattle.image_def.specs.Suits.{does_suit, has_image_type, last_suiting}
use Rattle.image_check.specs.declared.examining.Defined.{Defined}
use Rattle.image_check.specs.declared.why.Why.{Why}
use Rattle.image_check.specs.declared.why.Why.TheVariants.{NoDefinition, NotForProcessor}
use Rattle.image_check.specs.Answers.{and_then, or_fault}
use Rattle.image_check.specs.Image.{defined_in, image_in}
use Rattle.image_check.specs.Rules.{definition_answer, items_answer, loop_answer}
use Rattle.otp_roll.specs.Flags.{flash_off, slot_size}
use Rattle.part_table.specs.declared.table.Table.{Table}
use Rattle.slot_choice.specs.declared.choice.Choice.{Choice}
use Rattle.slot_choice.specs.Units.{units}
use Rattle.boot_rules.specs.declared.slots.SlotFault.{SlotFault}
use Rattle.boot_rules.specs.declared.tables.Found.{Found}
use Rattle.boot_rules.specs.Choosing.{boot_units_in, choose, images_in, order_of}
use Rattle.boot_rules.specs.Chosen.{Chosen}
use Rattle.boot_rules.specs.Tables.{answer_in_loop, found_of, slot_answer_in, slot_window, table_of_content}
use Rattle.boot_rules.proofs.SlotLemmas.{table-found}
use Rattle.boot_reasons.specs.declared.looks.UnitReport.{UnitReport}
use Rattle.boot_reasons.specs.Reasons.{does_report, reasons_in, reported_decision, reports_in}
use Rattle.slot_caveats.specs.declared.caveat.Caveat.{Caveat}
use Rattle.slot_caveats.specs.declared.caveat.Caveat.TheVariants.{FirstBlock, ItemOrder}
use Rattle.slot_caveats.specs.Listing.{caveat_if}
use Rattle.boot_caveats.specs.Caveats.{window_caveats}
use Rattle.boot_caveats.specs.Rules.{AreCaveats}
use Rattle.boot_caveats.specs.ImageCaveats.{begins_otherwise, definition_in, ends_late, first_places, is_window, item_order, late_first, late_firsts, looked_windows, read_windows, reads_blocks}
use Rattle.law_caveats.specs.Alternatives.{begins_typed, decision_early, decision_typed, defined_by, definition_by, early_from, early_loop, early_slot_answer, early_table, early_units, image_of, images_by, loop_from, suits_first}
use Rattle.boot_caveats.proofs.CaveatLemmas.{caveats-only}
use Rattle.boot_caveats.proofs.WindowLemmas.{among-decides}
use Rattle.law_caveats.proofs.DoubtLemmas.{IsIn, choice-agrees, decided, in-filtered, in-windows, reasons-decide, reports-when, same-chosen}

-- ---- the image of a window by another loop and another definition

image-same : (loops : List ℕ → Result (List BlockView) LoopFault) (suits : BlockView → Bool) (c : Content) (cpu : Cpu)
    (w : Window) (trial : Bool) → defined_by loops suits (window_bytes c w) ≡ defined_in cpu (window_bytes c w)
    → images_by loops suits c cpu w trial ≡ images_in c cpu w trial
unfolding image_in
image-same loops suits c cpu w trial e =
    ap (λ d. result_ok (image_of w cpu trial c.otp (window_bytes c w) d)) e

-- ---- the order of items

module _ {X : Type 0} (p q : X → Bool) (weaker : (x : X) → p x ≡ false → q x ≡ false) where
  pub find-none : (xs : List X) → find p xs ≡ None → find q xs ≡ None
  find-none [] e = refl
  find-none (x ∷ xs) e = go (p x) refl e (find-none xs)
    where
      go : (b : Bool) → p x ≡ b → cond b (Some x) (find p xs) ≡ None → (find p xs ≡ None → find q xs ≡ None)
          → cond (q x) (Some x) (find q xs) ≡ None
      go true is none rest = cc
      go false is none rest = ap (λ b. cond b (Some x) (find q xs)) (weaker x is) ∙ rest none

  pub find-same : (xs : List X) (y : X) → find p xs ≡ Some y → q y ≡ true → find q xs ≡ Some y
  find-same [] y e is = cc
  find-same (x ∷ xs) y e is = go (p x) refl e (λ h. find-same xs y h is)
    where
      go : (b : Bool) → p x ≡ b → cond b (Some x) (find p xs) ≡ Some y → (find p xs ≡ Some y → find q xs ≡ Some y)
          → cond (q x) (Some x) (find q xs) ≡ Some y
      go true here some rest =
          let same : x ≡ y = cc in
          ap (λ b. cond b (Some x) (find q xs)) (ap q same ∙ is) ∙ ap Some same
      go false here some rest = ap (λ b. cond b (Some x) (find q xs)) (weaker x here) ∙ rest some

suits-weaker : (cpu : Cpu) (b : BlockView) → does_suit cpu b ≡ false → suits_first cpu b ≡ false
suits-weaker cpu b e = ap (λ t. t && begins_typed b) e

both : (a b : Bool) → a ≡ true → b ≡ true → (a && b) ≡ true
both true true e f = refl
both true false e f = cc
both false b e f = cc

not-false : (b : Bool) → not b ≡ false → b ≡ true
not-false true e = refl
not-false false e = cc

-- where a definition begins with its IMAGE_TYPE item it is the same one
definition-same : (cpu : Cpu) (loop : List BlockView)
    → option_map_or begins_otherwise (last_suiting cpu loop) false ≡ false
    → find (suits_first cpu) (reverse loop) ≡ last_suiting cpu loop
definition-same cpu loop e = go (last_suiting cpu loop) refl e
  where
    suiting : (xs : List BlockView) (b : BlockView) → find (does_suit cpu) xs ≡ Some b → does_suit cpu b ≡ true
    suiting [] b e = cc
    suiting (x ∷ xs) b e = step (does_suit cpu x) refl e (suiting xs b)
      where
        step : (t : Bool) → does_suit cpu x ≡ t → cond t (Some x) (find (does_suit cpu) xs) ≡ Some b
            → (find (does_suit cpu) xs ≡ Some b → does_suit cpu b ≡ true) → does_suit cpu b ≡ true
        step true is same rest = let one : x ≡ b = cc in ap (does_suit cpu) (sym one) ∙ is
        step false is same rest = rest same

    go : (o : Option BlockView) → last_suiting cpu loop ≡ o → option_map_or begins_otherwise o false ≡ false
        → find (suits_first cpu) (reverse loop) ≡ o
    go None is typed = find-none (does_suit cpu) (suits_first cpu) (suits-weaker cpu) (reverse loop) is
    go (Some b) is typed =
        find-same (does_suit cpu) (suits_first cpu) (suits-weaker cpu) (reverse loop) b is
        (both (does_suit cpu b) (begins_typed b) (suiting (reverse loop) b is) (not-false (begins_typed b) typed))

typed-defined : (cpu : Cpu) (bytes : List ℕ)
    → option_map_or begins_otherwise (definition_in cpu bytes) false ≡ false
    → defined_by loop_of (suits_first cpu) bytes ≡ defined_in cpu bytes
typed-defined cpu bytes e = go (loop_of bytes) e
  where
    go : (r : Result (List BlockView) LoopFault)
        → option_map_or begins_otherwise (option_and_then (last_suiting cpu) (result_ok r)) false ≡ false
        → (let one : Result Defined Why = and_then (loop_answer r) (λ loop.
        and_then (definition_by (suits_first cpu) loop) (λ block.
        and_then (items_answer block) (λ def. Ok (record { block = block; def = def })))) in
        let two : Result Defined Why = and_then (loop_answer r) (λ loop.
        and_then (definition_answer cpu loop) (λ block.
        and_then (items_answer block) (λ def. Ok (record { block = block; def = def })))) in one ≡ two)
    go (Ok loop) typed =
        ap (λ (o : Option BlockView). let d : Result Defined Why =
        and_then (if list_any has_image_type loop then or_fault o NotForProcessor else Err NoDefinition) (λ block.
        and_then (items_answer block) (λ def. Ok (record { block = block; def = def }))) in d)
        (definition-same cpu loop typed)
    go (Err NoFirst) typed = refl
    go (Err (Broken at)) typed = refl
    go (Err TooMany) typed = refl
    go (Err (Overlap i j)) typed = refl

bool-or : (b : Bool) → (b ≡ true → ⊥) → b ≡ false
bool-or true never = absurd (never refl)
bool-or false never = refl

-- ---- first blocks

module _ (n x : ℕ) (bytes : List ℕ) where
  early-here : (b : BlockView) → front_block x bytes ≡ Some b → ends_late b ≡ false
      → early_from (suc n) x bytes ≡ Some b
  unfolding early_from
  early-here b e late = rw (e, early_from) (rw late refl)

  early-later : front_block x bytes ≡ None → early_from (suc n) x bytes ≡ early_from n (x + 4) (drop 4 bytes)
  unfolding early_from
  early-later e = rw (e, early_from) refl

early-end : (x : ℕ) (bytes : List ℕ) → early_from 0 x bytes ≡ None
unfolding early_from
early-end x bytes = refl

early-same : (n x : ℕ) (bytes : List ℕ) → option_map_or ends_late (block_from n x bytes) false ≡ false
    → early_from n x bytes ≡ block_from n x bytes
early-same zero x bytes e = early-end x bytes ∙ sym (first_from-end x bytes)
early-same (suc n) x bytes e = go (front_block x bytes) refl (early-same n (x + 4) (drop 4 bytes))
  where
    go : (o : Option BlockView) → front_block x bytes ≡ o
        → (option_map_or ends_late (block_from n (x + 4) (drop 4 bytes)) false ≡ false
        → early_from n (x + 4) (drop 4 bytes) ≡ block_from n (x + 4) (drop 4 bytes))
        → early_from (suc n) x bytes ≡ block_from (suc n) x bytes
    go (Some b) is rest =
        early-here n x bytes b is (sym (ap (λ o. option_map_or ends_late o false) (first_from-here n x bytes b is)) ∙ e)
        ∙ sym (first_from-here n x bytes b is)
    go None is rest =
        early-later n x bytes is
        ∙ (rest (sym (ap (λ o. option_map_or ends_late o false) (first_from-later n x bytes is)) ∙ e)
        ∙ sym (first_from-later n x bytes is))

loop-first : (bytes : List ℕ) → loop_from bytes (first_block bytes) ≡ loop_of bytes
loop-first bytes = go (first_block bytes) refl
  where
    go : (o : Option BlockView) → first_block bytes ≡ o → loop_from bytes o ≡ loop_of bytes
    go None is = sym (loop_of-none bytes is)
    go (Some b) is = sym (loop_of-first bytes b is)

early-loop : (bytes : List ℕ) → option_map_or ends_late (first_block bytes) false ≡ false → early_loop bytes
    ≡ loop_of bytes
early-loop bytes e = ap (loop_from bytes) (early-same 1024 0 bytes e) ∙ loop-first bytes

early-defined : (cpu : Cpu) (bytes : List ℕ) → option_map_or ends_late (first_block bytes) false ≡ false
    → defined_by early_loop (does_suit cpu) bytes ≡ defined_in cpu bytes
early-defined cpu bytes e =
    ap (λ (r : Result (List BlockView) LoopFault). let d : Result Defined Why =
    and_then (loop_answer r) (λ loop.
    and_then (definition_answer cpu loop) (λ block.
    and_then (items_answer block) (λ def. Ok (record { block = block; def = def })))) in d)
    (early-loop bytes e)

-- a window that is read is one of those that are read once
places-in : (before ws : List Window) (w : Window) → IsIn w ws → Contains before w ⊎ IsIn w (first_places before ws)
places-in before [] w is = absurd is
places-in before (y ∷ ws) w is =
    go (list_any (is_window y) before) refl is (places-in before ws w) (places-in (before ++ y ∷ []) ws w)
  where
    lone : Contains (y ∷ []) w → y ≡ w
    lone (zero, lt, e) = e
    lone (suc k, lt, e) = absurd (omega (arith, lt))

    go : (b : Bool) → list_any (is_window y) before ≡ b → (y ≡ w) ⊎ IsIn w ws
        → (IsIn w ws → Contains before w ⊎ IsIn w (first_places before ws))
        → (IsIn w ws → Contains (before ++ y ∷ []) w ⊎ IsIn w (first_places (before ++ y ∷ []) ws))
        → Contains before w ⊎ IsIn w (cond b (first_places before ws) (y ∷ first_places (before ++ y ∷ []) ws))
    go true there (inl e) rest more =
        inl (subst (λ (v : Window). Contains before v) e ((among-decides y before).0 there))
    go true there (inr h) rest more = rest h
    go false there (inl e) rest more = inr (inl e)
    go false there (inr h) rest more = elim (more h) [
      | inl among ↦ elim (Contains-append_cases before (y ∷ []) w among) [
        | inl early ↦ inl early
        | inr one ↦ inr (inl (lone one))
      ]
      | inr later ↦ inr (inr later)
    ]

-- a boot that looks at units reads blocks
reads-when : (kind : BootKind) (off : Bool) (o : Option Choice) → does_report kind off ≡ true
    → reads_blocks (reported_decision kind off o) ≡ true
reads-when AskBootsel off o e = cc
reads-when Normal true o e = cc
reads-when Normal false None e = refl
reads-when Normal false (Some choice) e = refl
reads-when (Update base) true o e = cc
reads-when (Update base) false None e = refl
reads-when (Update base) false (Some choice) e = refl

module _ (c : Content) (cpu : Cpu) (kind : BootKind) (list : List Caveat) (are : AreCaveats c cpu kind list) where
  listed : (x : Caveat) → Contains (window_caveats c cpu kind (reasons_in c cpu kind)) x → Contains list x
  listed x is =
      subst (λ (xs : List Caveat). Contains xs x) (sym (caveats-only c cpu kind list are)) (in-windows c cpu kind x is)

  pub typed-doubt : ((w : Window) → Contains list (ItemOrder w) → ⊥) → Chosen c cpu kind (decision_typed c cpu kind)
  unfolding reasons_in
  typed-doubt never =
      same-chosen c cpu kind
      (choose (images_by loop_of (suits_first cpu) c cpu) (order_of kind (boot_units_in c cpu)))
      (λ does. choice-agrees c cpu (images_by loop_of (suits_first cpu) c cpu)
      (order_of kind (boot_units_in c cpu)).units (order_of kind (boot_units_in c cpu)).updated
      (λ w is trial. image-same loop_of (suits_first cpu) c cpu w trial (typed-defined cpu (window_bytes c w)
      (bool-or (option_map_or begins_otherwise (definition_in cpu (window_bytes c w)) false)
      (λ e. never w (listed (ItemOrder w) (there w e
      (subst (λ (looks : List UnitReport). IsIn w (looked_windows looks)) (sym (reports-when c cpu kind does))
      is))))))))
    where
      there : (w : Window) → option_map_or begins_otherwise (definition_in cpu (window_bytes c w)) false ≡ true
          → IsIn w (looked_windows (reports_in c cpu kind))
          → Contains (window_caveats c cpu kind (reasons_in c cpu kind)) (ItemOrder w)
      there w e is =
          Contains-append_right (late_firsts c (reasons_in c cpu kind).decision (reasons_in c cpu kind).size
          (reasons_in c cpu kind).looks.items) _ _
          (Contains-append_left _ _ _ (in-filtered (item_order c cpu) w (ItemOrder w)
          (looked_windows (reports_in c cpu kind)) is (ap (λ b. caveat_if b (ItemOrder w)) e)))

  module _ (never : (w : Window) → Contains list (FirstBlock w) → ⊥)
      (does : does_report kind (flash_off c.otp) ≡ true) where
    -- no window that is read has a first block that ends late
    early-read : (w : Window) → IsIn w (read_windows (slot_size c.otp (length c.flash)) (reports_in c cpu kind))
        → option_map_or ends_late (first_block (window_bytes c w)) false ≡ false
    unfolding reasons_in
    early-read w is =
        bool-or (option_map_or ends_late (first_block (window_bytes c w)) false) (λ e.
        never w (listed (FirstBlock w) (Contains-append_left (late_firsts c (reasons_in c cpu kind).decision
        (reasons_in c cpu kind).size (reasons_in c cpu kind).looks.items) _ (FirstBlock w) (there e (place
        (places-in [] (read_windows (slot_size c.otp (length c.flash)) (reports_in c cpu kind)) w is))))))
      where
        place : Contains [] w
            ⊎ IsIn w (first_places [] (read_windows (slot_size c.otp (length c.flash)) (reports_in c cpu kind)))
            → IsIn w (first_places [] (read_windows (slot_size c.otp (length c.flash)) (reports_in c cpu kind)))
        place (inl among) = absurd (omega (arith, among.1))
        place (inr there) = there

        reads : reads_blocks (reasons_in c cpu kind).decision ≡ true
        reads = ap reads_blocks (reasons-decide c cpu kind ∙ decided c cpu kind)
            ∙ reads-when kind (flash_off c.otp) (choose (images_in c cpu) (order_of kind (boot_units_in c cpu))) does

        there : option_map_or ends_late (first_block (window_bytes c w)) false ≡ true
            → IsIn w (first_places [] (read_windows (slot_size c.otp (length c.flash)) (reports_in c cpu kind)))
            → Contains (late_firsts c (reasons_in c cpu kind).decision (reasons_in c cpu kind).size
            (reasons_in c cpu kind).looks.items) (FirstBlock w)
        there e among =
            subst (λ (b : Bool). Contains (cond b (filter_map (late_first c)
            (first_places [] (read_windows (slot_size c.otp (length c.flash)) (reports_in c cpu kind)))) [])
            (FirstBlock w))
            (sym reads) (in-filtered (late_first c) w (FirstBlock w)
            (first_places [] (read_windows (slot_size c.otp (length c.flash)) (reports_in c cpu kind))) among
            (ap (λ b. caveat_if b (FirstBlock w)) e))

    slot-same : (number : ℕ)
        → IsIn (slot_window (slot_size c.otp (length c.flash)) number)
        (read_windows (slot_size c.otp (length c.flash)) (reports_in c cpu kind))
        → early_slot_answer c number ≡ slot_answer_in c number
    slot-same number is =
        ap (answer_in_loop (length c.flash / 4096) (2 * slot_size c.otp (length c.flash) / 4096))
        (early-loop (window_bytes c (slot_window (slot_size c.otp (length c.flash)) number))
        (early-read (slot_window (slot_size c.otp (length c.flash)) number) is))

    early-table : early_table c ≡ table_of_content c
    early-table =
        ap (λ o. option_map (λ (found : Found). found.table) o)
        (ap (λ (r : Result Table SlotFault). found_of (result_ok r) (result_ok (early_slot_answer c 1)))
        (slot-same 0 (inl refl))
        ∙ (ap (λ (r : Result Table SlotFault). found_of (result_ok (slot_answer_in c 0)) (result_ok r))
        (slot-same 1 (inr (inl refl)))
        ∙ sym (table-found c)))

    early-choice : choose (images_by early_loop (does_suit cpu) c cpu) (order_of kind (early_units c cpu))
        ≡ choose (images_in c cpu) (order_of kind (boot_units_in c cpu))
    early-choice =
        ap (λ (t : Option Table). choose (images_by early_loop (does_suit cpu) c cpu)
        (order_of kind (units t (length c.flash) (slot_size c.otp (length c.flash)) cpu))) early-table
        ∙ choice-agrees c cpu (images_by early_loop (does_suit cpu) c cpu)
        (order_of kind (boot_units_in c cpu)).units (order_of kind (boot_units_in c cpu)).updated
        (λ w is trial. image-same early_loop (does_suit cpu) c cpu w trial (early-defined cpu (window_bytes c w)
        (early-read w (inr (inr (subst (λ (looks : List UnitReport). IsIn w (looked_windows looks))
        (sym (reports-when c cpu kind does)) is))))))

  pub early-doubt : ((w : Window) → Contains list (FirstBlock w) → ⊥) → Chosen c cpu kind (decision_early c cpu kind)
  early-doubt never =
      same-chosen c cpu kind (choose (images_by early_loop (does_suit cpu) c cpu) (order_of kind (early_units c cpu)))
      (λ does. early-choice never does)
