-- What stands in the table slots, by the functions and in the words of the rules.
use Rattle.std.proofs.Common.{◌≡◌, ◌≢◌, ℕ, zero, suc, ◌<◌, ◌&&◌, not, nat_lt, Bool, true, false, cond, List, [], ◌∷◌, ◌++◌, length, slice_get, Option, Some, None, Result, Ok, Err, is_some, option_map, option_and_then, refl, sym, ap, ◌∙◌, subst, arith, append_assoc}
use Rattle.std.specs.Prelude.{Contains, find, reverse, option_to_list}
use Rattle.std.specs.Bool.{Decides}
use Rattle.std.specs.List.{AllByRecursion}
use Rattle.std.specs.Option.{option_map_or}
use Rattle.std.specs.Result.{result_ok}
use Rattle.std.proofs.lemmas.Bool.Decides.{nat_tests}
use Rattle.std.proofs.lemmas.List.Elements.{Contains-append_right}
use Rattle.std.proofs.lemmas.Option.{same_Some}
use Rattle.pico_board.specs.declared.window.Window.{Window}
use Rattle.pico_board.specs.declared.window.TheConstants.{MOST_FLASH_BYTES, SMALLEST_SLOT}
use Rattle.pico_board.specs.Content.{Content, window_bytes}
use Rattle.block_codec.specs.declared.items.Item.{Item}
use Rattle.block_codec.specs.declared.kinds.TheConstants.{PARTITION_TABLE}
use Rattle.block_codec.specs.Blocks.{BlockView}
use Rattle.block_codec.specs.Items.{items_of}
use Rattle.block_codec.specs.Kinds.{is_of_kind}
use Rattle.block_codec.specs.Reading.{block_at}
use Rattle.block_codec.proofs.AtLemmas.{BlockAt-from_found, block_at-stands}
use Rattle.block_loop.specs.declared.fault.LoopFault.{LoopFault}
use Rattle.block_loop.specs.declared.fault.LoopFault.TheVariants.{NoBlock as NoFirst, Broken, TooMany, Overlap}
use Rattle.block_loop.specs.Loop.{block_at_offset, loop_of, target}
use Rattle.block_loop.proofs.ChainLemmas.{loop_of-fault, loop_of-loop}
use Rattle.block_loop.proofs.FollowLemmas.{block_at_offset-found, block_at_offset-stands}
use Rattle.block_loop.proofs.SameLoopLemmas.{IsFault-from_answer, IsLoop-from_answer}
use Rattle.image_check.proofs.LastLemmas.{found-last, last-found, none-passes}
use Rattle.part_table.specs.declared.table.Table.{Table}
use Rattle.part_table.specs.declared.table.TableFault.{TableFault}
use Rattle.part_table.specs.declared.table.TableFault.TheVariants.{BadItem, Permissions, Range, Overlap as SharedSector, Link, Hash}
use Rattle.part_table.specs.TableOf.{has_table}
use Rattle.boot_rules.specs.declared.slots.SlotFault.{SlotFault}
use Rattle.boot_rules.specs.declared.slots.SlotFault.TheVariants.{Loop, NoTable, Table as Faulty}
use Rattle.boot_rules.specs.Tables.{slot_window}
use Rattle.boot_reasons.specs.declared.slots.TableInForce.{TableInForce}
use Rattle.boot_reasons.specs.SlotRules.{IsTableInForce}
use Rattle.slot_caveats.specs.declared.caveat.Caveat.{Caveat}
use Rattle.slot_caveats.specs.declared.caveat.Caveat.TheVariants.{FaultyTable, SlotEnd}
use Rattle.slot_caveats.specs.SlotCaveats.{begins_table, broken_place, fault_of_table, flash_from, has_executable, has_other_order, image_in_slot, is_executable, is_hash, last_where, leads_on, of_slots, place_behind, slot_caveats, slot_end, table_fault, table_order}
use Rattle.slot_caveats.specs.SlotRules.{AreOfSlots, AreSlotCaveats, GoesOnBehind, HasExecutable, HasOtherOrder, HasTable, IsImageInSlot, IsLastWhere, IsSlotEnd, IsTableFault, IsTableOrder}
use Rattle.slot_caveats.specs.TableCaveats.{range_in, short_flash}
use Rattle.slot_caveats.proofs.ListingLemmas.{IsJust, and-decides, both-just, not-decides, one-just, or-decides, where-just}

-- ---- the last block that passes a test

module _ (passes : BlockView → Bool) (bytes : List ℕ) where
  pub last-says : (b : BlockView) → last_where passes bytes ≡ Some b → IsLastWhere passes bytes b
  last-says b e = go (loop_of bytes) refl e
    where
      go : (r : Result (List BlockView) LoopFault) → loop_of bytes ≡ r
          → option_and_then (λ loop. find passes (reverse loop)) (result_ok r) ≡ Some b → IsLastWhere passes bytes b
      go (Ok loop) closes e = record {
        loop = loop;
        closes = IsLoop-from_answer bytes loop closes;
        last = last-found passes loop b e;
      }
      go (Err fault) closes e = cc

  pub says-last : (b : BlockView) → IsLastWhere passes bytes b → last_where passes bytes ≡ Some b
  says-last b is =
      ap (λ (r : Result (List BlockView) LoopFault). option_and_then (λ loop. find passes (reverse loop)) (result_ok r))
      (loop_of-loop bytes is.loop is.closes)
      ∙ found-last passes is.loop b is.last

-- ---- an image in a slot

at-split : {X : Type 0} (before behind : List X) (x : X) → Contains (before ++ x ∷ behind) x
at-split before behind x = Contains-append_right before (x ∷ behind) x (0, omega arith, refl)

pub runs-decides : (bytes : List ℕ) → Decides (has_executable bytes) (HasExecutable bytes)
runs-decides bytes = (to (last_where is_executable bytes) refl, from)
  where
    to : (o : Option BlockView) → last_where is_executable bytes ≡ o → is_some o ≡ true → HasExecutable bytes
    to None is e = cc
    to (Some b) is e =
        let l = last-says is_executable bytes b is in record {
          loop = l.loop;
          block = b;
          closes = l.closes;
          among = subst (λ (xs : List BlockView). Contains xs b) (sym l.last.whole)
              (at-split l.last.before l.last.behind b);
          runs = l.last.here;
        }

    from : HasExecutable bytes → has_executable bytes ≡ true
    from is =
        ap (λ (r : Result (List BlockView) LoopFault).
        is_some (option_and_then (λ loop. find is_executable (reverse loop)) (result_ok r)))
        (loop_of-loop bytes is.loop is.closes)
        ∙ go (find is_executable (reverse is.loop)) refl
      where
        none-of : (xs : List BlockView) → AllByRecursion (λ y. is_executable y ≡ false) xs → Contains xs is.block → ⊥
        none-of [] all (k, lt, e) = absurd (omega (arith, lt))
        none-of (x ∷ xs) all (zero, lt, e) =
            let one : is_executable is.block ≡ false = ap is_executable (sym e) ∙ all.0 in cc
        none-of (x ∷ xs) all (suc k, lt, e) = none-of xs all.1 (k, omega (arith, lt), e)

        go : (o : Option BlockView) → find is_executable (reverse is.loop) ≡ o → is_some o ≡ true
        go (Some b) e = refl
        go None e = absurd (none-of is.loop (none-passes is_executable is.loop e) is.among)

-- there is a table
table-decides : (c : Content) (table : Option TableInForce) → IsTableInForce c table
    → Decides (is_some table) (HasTable c)
table-decides c None is = (λ e. cc, λ has. absurd (is has.0 has.1))
table-decides c (Some taken) is = (λ e. (_, is.0.1), λ has. refl)

module _ (c : Content) (table : Option TableInForce) (is : IsTableInForce c table) where
  image-just : (number : ℕ) (w : Window)
      → IsJust (IsImageInSlot c number w) (option_to_list (image_in_slot c table number w))
  image-just number w =
      where-just _ _ _ (and-decides _ _ _ _ (table-decides c table is)
      (or-decides _ _ _ _ (runs-decides (window_bytes c w)) (runs-decides (window_bytes c (flash_from c w.start)))))

-- ---- a flash that goes on behind a slot

broken-says : (r : Result (List BlockView) LoopFault) (at : ℕ) → broken_place r ≡ Some at → r ≡ Err (Broken at)
broken-says (Ok loop) at e = cc
broken-says (Err NoFirst) at e = cc
broken-says (Err (Broken x)) at e = cc
broken-says (Err TooMany) at e = cc
broken-says (Err (Overlap i j)) at e = cc

module _ (bytes more : List ℕ) where
  abbrev next_of : BlockView → Option BlockView
  next_of b = block_at_offset more (target b)

  behind-says : (at : ℕ) → place_behind bytes more ≡ Some at → GoesOnBehind bytes more at
  behind-says at e = go (broken_place (loop_of bytes)) refl e
    where
      made : (x : ℕ) → broken_place (loop_of bytes) ≡ Some x → (o : Option BlockView) → block_at bytes x ≡ o
          → (n : Option BlockView) → option_and_then next_of o ≡ n → is_some n ≡ true → GoesOnBehind bytes more x
      made x broken None here n leads some = let none : None ≡ n = leads in cc
      made x broken (Some b) here None leads some = cc
      made x broken (Some b) here (Some next) leads some =
          let stands = block_at_offset-found more (target b) next leads in record {
            last = b;
            next = next;
            broken = IsFault-from_answer bytes (Broken x) (broken-says (loop_of bytes) x broken);
            here = BlockAt-from_found bytes x b here;
            leads = stands.1;
            stands = stands.0;
          }

      by : (x : ℕ) → broken_place (loop_of bytes) ≡ Some x → (t : Bool) → leads_on bytes more x ≡ t
          → (cond t (Some x) None) ≡ Some at → GoesOnBehind bytes more at
      by x broken true leads same =
          subst (GoesOnBehind bytes more) (same_Some x at same)
          (made x broken (block_at bytes x) refl (option_and_then next_of (block_at bytes x)) refl leads)
      by x broken false leads same = cc

      go : (o : Option ℕ) → broken_place (loop_of bytes) ≡ o
          → option_and_then (λ x. cond (leads_on bytes more x) (Some x) None) o ≡ Some at → GoesOnBehind bytes more at
      go None broken same = cc
      go (Some x) broken same = by x broken (leads_on bytes more x) refl same

  says-behind : (at : ℕ) → GoesOnBehind bytes more at → place_behind bytes more ≡ Some at
  says-behind at is =
      ap (λ (r : Result (List BlockView) LoopFault).
      option_and_then (λ x. cond (leads_on bytes more x) (Some x) None) (broken_place r))
      (loop_of-fault bytes (Broken at) is.broken)
      ∙ ap (λ t. cond t (Some at) None)
      (ap (λ o. is_some (option_and_then next_of o)) (block_at-stands bytes at is.last is.here)
      ∙ ap is_some (block_at_offset-stands more (target is.last) is.next is.leads is.stands))

is-below : (m n : ℕ) → Decides (nat_lt m n) (m < n)
is-below m n = (λ e. grind (arith, nat_tests), λ lt. grind (arith, nat_tests))

module _ (c : Content) (table : Option TableInForce) (is : IsTableInForce c table) where
  abbrev IsEnd : Window → ℕ → Type 0
  IsEnd w at = (HasTable c → ⊥) × (SMALLEST_SLOT < w.len)
      × GoesOnBehind (window_bytes c w) (window_bytes c (flash_from c w.start)) at

  first-test : (w : Window) → Decides (not (is_some table) && nat_lt SMALLEST_SLOT w.len)
      ((HasTable c → ⊥) × (SMALLEST_SLOT < w.len))
  first-test w = and-decides _ _ _ _ (not-decides _ _ (table-decides c table is)) (is-below SMALLEST_SLOT w.len)

  end-just : (w : Window) → IsJust (IsSlotEnd c w) (option_to_list (slot_end c table w))
  end-just w =
      one-just (IsEnd w) (SlotEnd w) (slot_end c table w)
      (to (not (is_some table) && nat_lt SMALLEST_SLOT w.len) refl) from
    where
      told : (HasTable c → ⊥) × (SMALLEST_SLOT < w.len) → (o : Option ℕ)
          → place_behind (window_bytes c w) (window_bytes c (flash_from c w.start)) ≡ o → (caveat : Caveat)
          → option_map (SlotEnd w) o ≡ Some caveat → (at : ℕ) × IsEnd w at × (caveat ≡ SlotEnd w at)
      told both None at caveat e = cc
      told both (Some x) at caveat e = (
        x,
        (both.0, both.1, behind-says (window_bytes c w) (window_bytes c (flash_from c w.start)) x at),
        sym (same_Some _ _ e),
      )

      to : (t : Bool) → (not (is_some table) && nat_lt SMALLEST_SLOT w.len) ≡ t → (caveat : Caveat)
          → (cond t (option_map (SlotEnd w)
          (place_behind (window_bytes c w) (window_bytes c (flash_from c w.start)))) None) ≡ Some caveat
          → (at : ℕ) × IsEnd w at × (caveat ≡ SlotEnd w at)
      to true test caveat e =
          told ((first-test w).0 test) (place_behind (window_bytes c w) (window_bytes c (flash_from c w.start))) refl
          caveat e
      to false test caveat e = cc

      from : (at : ℕ) → IsEnd w at → slot_end c table w ≡ Some (SlotEnd w at)
      from at e =
          ap (λ t. cond t (option_map (SlotEnd w)
          (place_behind (window_bytes c w) (window_bytes c (flash_from c w.start)))) None)
          ((first-test w).1 (e.0, e.1))
          ∙ ap (option_map (SlotEnd w))
          (says-behind (window_bytes c w) (window_bytes c (flash_from c w.start)) at e.2)

-- ---- faults of tables

hash-decides : (fault : TableFault) → Decides (is_hash fault) (fault ≡ Hash)
hash-decides BadItem = (λ e. cc, λ e. cc)
hash-decides (Permissions i) = (λ e. cc, λ e. cc)
hash-decides (Range i) = (λ e. cc, λ e. cc)
hash-decides (SharedSector i j) = (λ e. cc, λ e. cc)
hash-decides (Link i) = (λ e. cc, λ e. cc)
hash-decides Hash = (λ e. refl, λ e. refl)

-- a fault of the range of a partition in a flash that is too short
abbrev IsShort : ℕ → TableFault → Type 0
IsShort n fault = (i : ℕ) × (fault ≡ Range i) × (n < MOST_FLASH_BYTES)

short-decides : (n number : ℕ) (fault : TableFault)
    → Decides (is_some (short_flash n number (Err (Faulty fault)))) (IsShort n fault)
short-decides n number fault = (to (nat_lt n MOST_FLASH_BYTES) refl fault, from)
  where
    to : (t : Bool) → nat_lt n MOST_FLASH_BYTES ≡ t → (f : TableFault)
        → is_some (cond t (option_map (Caveat.ShortFlash number) (range_in f)) None) ≡ true → IsShort n f
    to true lt BadItem e = cc
    to true lt (Permissions i) e = cc
    to true lt (Range i) e = (i, refl, (is-below n MOST_FLASH_BYTES).0 lt)
    to true lt (SharedSector i j) e = cc
    to true lt (Link i) e = cc
    to true lt Hash e = cc
    to false lt f e = cc

    from : IsShort n fault → is_some (short_flash n number (Err (Faulty fault))) ≡ true
    from is =
        ap (λ t. is_some (cond t (option_map (Caveat.ShortFlash number) (range_in fault)) None))
        ((is-below n MOST_FLASH_BYTES).1 is.2)
        ∙ ap (λ f. is_some (option_map (Caveat.ShortFlash number) (range_in f))) is.1

abbrev IsOtherFault : ℕ → Result Table SlotFault → TableFault → Type 0
IsOtherFault n answer fault = (answer ≡ Err (Faulty fault)) × (fault ≢ Hash)
    × ((i : ℕ) → fault ≡ Range i → n < MOST_FLASH_BYTES → ⊥)

fault-says : (answer : Result Table SlotFault) (fault : TableFault) → fault_of_table answer ≡ Some fault
    → (answer ≡ Err (Faulty fault)) × (fault ≢ Hash)
fault-says (Ok t) fault e = cc
fault-says (Err (Loop f)) fault e = cc
fault-says (Err NoTable) fault e = cc
fault-says (Err (Faulty f)) fault e = go (is_hash f) refl e
  where
    apart : (b : Bool) → b ≡ false → b ≡ true → ⊥
    apart b e g = cc

    go : (t : Bool) → is_hash f ≡ t → (cond t None (Some f)) ≡ Some fault
        → (let told : Result Table SlotFault = Err (Faulty f) in told ≡ Err (Faulty fault)) × (fault ≢ Hash)
    go true is same = cc
    go false is same =
        let one : f ≡ fault = same_Some f fault same in (
          ap (λ x. Err (Faulty x)) one,
          λ hash. apart (is_hash f) is ((hash-decides f).1 (one ∙ hash)),
        )

fault-just : (n number : ℕ) (answer : Result Table SlotFault)
    → IsJust (IsTableFault n number answer) (option_to_list (table_fault n number answer))
fault-just n number answer =
    one-just (IsOtherFault n answer) (FaultyTable number) (table_fault n number answer)
    (to (is_some (short_flash n number answer)) refl) from
  where
    told : is_some (short_flash n number answer) ≡ false → (o : Option TableFault) → fault_of_table answer ≡ o
        → (caveat : Caveat) → option_map (FaultyTable number) o ≡ Some caveat
        → (fault : TableFault) × IsOtherFault n answer fault × (caveat ≡ FaultyTable number fault)
    told long None is caveat e = cc
    told long (Some fault) is caveat e =
        let says = fault-says answer fault is in (
          fault,
          (
            says.0,
            says.1,
            λ i range lt. apart (is_some (short_flash n number answer)) long
                (ap (λ (a : Result Table SlotFault). is_some (short_flash n number a)) says.0
                ∙ (short-decides n number fault).1 (i, range, lt)),
          ),
          sym (same_Some _ _ e),
        )
      where
        apart : (b : Bool) → b ≡ false → b ≡ true → ⊥
        apart b e g = cc

    to : (t : Bool) → is_some (short_flash n number answer) ≡ t → (caveat : Caveat)
        → (cond t None (option_map (FaultyTable number) (fault_of_table answer))) ≡ Some caveat
        → (fault : TableFault) × IsOtherFault n answer fault × (caveat ≡ FaultyTable number fault)
    to true short caveat e = cc
    to false long caveat e = told long (fault_of_table answer) refl caveat e

    from : (fault : TableFault) → IsOtherFault n answer fault
        → table_fault n number answer ≡ Some (FaultyTable number fault)
    from fault is =
        ap (λ (a : Result Table SlotFault). table_fault n number a) is.0
        ∙ (ap (λ t. cond t None (option_map (FaultyTable number) (fault_of_table (Err (Faulty fault)))))
        (bool-or (is_some (short_flash n number (Err (Faulty fault)))) (λ e.
        let short = (short-decides n number fault).0 e in is.2 short.0 short.1 short.2))
        ∙ ap (λ t. option_map (FaultyTable number) (cond t None (Some fault)))
        (bool-or (is_hash fault) (λ e. is.1 ((hash-decides fault).0 e))))
      where
        bool-or : (b : Bool) → (b ≡ true → ⊥) → b ≡ false
        bool-or true never = absurd (never refl)
        bool-or false never = refl

-- ---- the order of a table's items

other-decides : (b : BlockView) → Decides (not (begins_table b))
    ((item : Item) → slice_get (items_of b.items) 0 ≡ Some item → is_of_kind PARTITION_TABLE item ≡ false)
other-decides b = go (slice_get (items_of b.items) 0) refl
  where
    go : (o : Option Item) → slice_get (items_of b.items) 0 ≡ o
        → Decides (not (option_map_or (is_of_kind PARTITION_TABLE) o false))
        ((item : Item) → slice_get (items_of b.items) 0 ≡ Some item → is_of_kind PARTITION_TABLE item ≡ false)
    go None at = (λ e item same. (let none : None ≡ Some item = sym at ∙ same in cc), λ never. refl)
    go (Some first) at = (
      λ e item same. ap (is_of_kind PARTITION_TABLE) (same_Some item first (sym same ∙ at))
          ∙ not-says (is_of_kind PARTITION_TABLE first) e,
      λ never. says-not (is_of_kind PARTITION_TABLE first) (never first at),
    )
      where
        not-says : (b : Bool) → not b ≡ true → b ≡ false
        not-says true e = cc
        not-says false e = refl

        says-not : (b : Bool) → b ≡ false → not b ≡ true
        says-not true e = cc
        says-not false e = refl

order-decides : (bytes : List ℕ) → Decides (has_other_order bytes) (HasOtherOrder bytes)
order-decides bytes = (to (last_where has_table bytes) refl, from)
  where
    to : (o : Option BlockView) → last_where has_table bytes ≡ o
        → option_map_or (λ b. not (begins_table b)) o false ≡ true → HasOtherOrder bytes
    to None is e = cc
    to (Some b) is e =
        record { block = b; table = last-says has_table bytes b is; order = (other-decides b).0 e }

    from : HasOtherOrder bytes → has_other_order bytes ≡ true
    from is =
        ap (λ o. option_map_or (λ b. not (begins_table b)) o false) (says-last has_table bytes is.block is.table)
        ∙ (other-decides is.block).1 is.order

-- ---- what stands in the slots

-- the lists of the slots, one behind the other
pub slot-lists : (l images ends first second orders one two three four : List Caveat) → one ≡ l ++ images
    → two ≡ one ++ ends → three ≡ two ++ (first ++ second) → four ≡ three ++ orders
    → four ≡ l ++ (images ++ (ends ++ (first ++ (second ++ orders))))
slot-lists l images ends first second orders one two three four e1 e2 e3 e4 =
    e4 ∙ (ap (λ x. x ++ orders) (e3 ∙ ap (λ x. x ++ (first ++ second)) (e2 ∙ ap (λ x. x ++ ends) e1))
    ∙ (append_assoc ((l ++ images) ++ ends) (first ++ second) orders
    ∙ (ap (λ x. ((l ++ images) ++ ends) ++ x) (append_assoc first second orders)
    ∙ (append_assoc (l ++ images) ends (first ++ (second ++ orders))
    ∙ append_assoc l images (ends ++ (first ++ (second ++ orders)))))))

of-slots : (size : ℕ) (Is : ℕ → Window → List Caveat → Type 0) (told : ℕ → Window → Option Caveat)
    → ((number : ℕ) (w : Window) → IsJust (Is number w) (option_to_list (told number w)))
    → IsJust (AreOfSlots size Is) (of_slots size told)
of-slots size Is told just = both-just _ _ (just 0 (slot_window size 0)) (just 1 (slot_window size 1))

pub in-slots-just : (c : Content) (size : ℕ) (table : Option TableInForce) (first second : Result Table SlotFault)
    → IsTableInForce c table
    → IsJust (AreSlotCaveats c size first second) (slot_caveats c size table first second)
in-slots-just c size table first second is =
    both-just _ _ (of-slots size (IsImageInSlot c) (image_in_slot c table) (image-just c table is))
    (both-just _ _ (of-slots size (λ number. IsSlotEnd c) (λ number. slot_end c table) (λ number. end-just c table is))
    (both-just _ _ (fault-just (length c.flash) 0 first)
    (both-just _ _ (fault-just (length c.flash) 1 second)
    (of-slots size (IsTableOrder c) (table_order c)
    (λ number w. where-just _ _ _ (order-decides (window_bytes c w)))))))
