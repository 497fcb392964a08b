-- The map of a content, by the function and in the words of the rules.
use Rattle.std.proofs.Common.{◌≡◌, ℕ, zero, suc, ◌+◌, ◌*◌, ◌/◌, ◌%◌, ◌<◌, ◌≤◌, List, [], ◌∷◌, length, map, Option, Some, None, Result, option_map, refl, sym, ◌∙◌, ap, subst, arith}
use Rattle.std.specs.Prelude.{All, get_or}
use Rattle.std.specs.List.{AllByRecursion}
use Rattle.std.specs.Result.{result_ok}
use Rattle.std.proofs.lemmas.List.{get_or_default}
use Rattle.arrayvec.specs.ArrayVec.{ArrayVec}
use Rattle.pico_board.specs.declared.boot.Cpu.{Cpu}
use Rattle.pico_board.specs.declared.boot.BootKind.TheVariants.{Normal}
use Rattle.pico_board.specs.declared.window.Window.{Window}
use Rattle.pico_board.specs.Content.{Content, IsContent}
use Rattle.otp_roll.specs.Flags.{slot_size}
use Rattle.part_table.specs.declared.table.Table.{Table}
use Rattle.part_table.specs.Fields.{first_sector}
use Rattle.part_table.specs.Partitions.{no_partition, part_at}
use Rattle.part_table.specs.declared.partition.Partition.{Partition}
use Rattle.part_table.specs.Sound.{IsSoundFor}
use Rattle.part_table.proofs.TableLemmas.{sectors_in}
use Rattle.boot_rules.specs.declared.decision.Decision.{Decision}
use Rattle.boot_rules.specs.declared.tables.Found.{Found}
use Rattle.boot_rules.specs.Choosing.{decision_in}
use Rattle.boot_rules.specs.Tables.{slot_answer_in, table_of_content}
use Rattle.boot_rules.specs.Tables.{table_in}
use Rattle.boot_rules.proofs.DecisionLemmas.{chosen-decision, decision-chosen}
use Rattle.boot_rules.proofs.PlaceLemmas.{slot-size, table-sound}
use Rattle.boot_rules.proofs.TableLemmas.{found-in, found-sound}
use Rattle.boot_rules.specs.declared.slots.SlotFault.{SlotFault}
use Rattle.boot_reasons.specs.declared.slots.TableInForce.{TableInForce}
use Rattle.boot_reasons.specs.Reasons.{table_in_force_in}
use Rattle.boot_reasons.specs.Slots.{taken_table, table_in_force}
use Rattle.boot_rules.proofs.SlotLemmas.{answer-only, answer-right}
use Rattle.boot_reasons.proofs.TableReasonLemmas.{taken-in, told-only, told-right}
use Rattle.boot_map.specs.declared.maps.FlashMap.{FlashMap}
use Rattle.boot_map.specs.declared.maps.MapRow.{MapRow}
use Rattle.boot_map.specs.declared.places.MapWindow.{MapWindow}
use Rattle.boot_map.specs.declared.places.MapPlace.{MapPlace}
use Rattle.boot_map.specs.declared.places.MapPlace.TheVariants.{Slot, Partition as Part, Whole, Free}
use Rattle.boot_map.specs.Windows.{parts_of}
use Rattle.boot_map.specs.WindowRules.{AreMapWindows, AreSideBySide, IsListed, IsMappable, IsRead, IsWindowOf}
use Rattle.boot_map.specs.Maps.{map_in, row_of, map_rows_in, table_of_map, map_windows_in}
use Rattle.boot_map.specs.MapRules.{IsMap, IsReadableMap, IsRow}
use Rattle.boot_map.proofs.LaidLemmas.{sectors-of}
use Rattle.boot_map.proofs.OnlyLemmas.{windows-only}
use Rattle.boot_map.proofs.PairLemmas.{AreLinked}
use Rattle.boot_map.proofs.RowLemmas.{row-windows, rows-only, rows-right, shell, shell-windows, shells-right}
use Rattle.boot_map.proofs.SharedLemmas.{right-placed}
use Rattle.boot_map.proofs.WindowLemmas.{windows-right}

-- a content can be mapped with its own table
behind-of : (c : Content) (o : Option Found) → table_in c ≡ o → IsContent c
    → All (λ p. 2 * slot_size c.otp (length c.flash) ≤ 4096 * first_sector p)
    (parts_of (option_map (λ (found : Found). found.table) o))
behind-of c None e right = λ k d lt. absurd (omega (arith, lt))
behind-of c (Some found) e right = λ k d lt.
    low (slot_size c.otp (length c.flash)) (first_sector (get_or found.table.parts.items k d))
    (slot-size c.otp (length c.flash) right.flash_length.least).whole
    (subst (λ p. 2 * slot_size c.otp (length c.flash) / 4096 ≤ first_sector p) (same k d lt)
    (sectors_in found.table (length c.flash / 4096) (2 * slot_size c.otp (length c.flash) / 4096) (found-in c found e).1
    k lt).0)
  where
    low : (z f : ℕ) → z % 4096 ≡ 0 → 2 * z / 4096 ≤ f → 2 * z ≤ 4096 * f
    low z f whole le = omega arith

    same : (k : ℕ) (d : Partition) → k < length found.table.parts.items
        → part_at found.table.parts.items k ≡ get_or found.table.parts.items k d
    same k d lt = get_or_default found.table.parts.items k no_partition d lt

pub mappable : (c : Content) → IsContent c
    → IsMappable (table_of_content c) (length c.flash) (slot_size c.otp (length c.flash))
mappable c right =
    let slot = slot-size c.otp (length c.flash) right.flash_length.least in
    record {
      whole = right.flash_length.whole;
      slots = slot.whole;
      least = slot.least;
      fits = slot.fits;
      sound = table-sound c (table_in c) refl;
      behind = behind-of c (table_in c) refl right;
    }

pub linked : (c : Content) → AreLinked (table_of_content c)
linked c = by (table_in c) refl
  where
    by : (o : Option Found) → table_in c ≡ o → AreLinked (option_map (λ (found : Found). found.table) o)
    by None e = tt
    by (Some found) e = (found-sound c found e).links

-- the map of the function is right by the rules
pub map-right : (c : Content) (cpu : Cpu) → IsContent c → IsMap c cpu (map_in c cpu)
unfolding map_in
map-right c cpu right =
    let t = table_of_content c in
    let d = decision_in c cpu Normal in
    let windows = windows-right t (length c.flash) (slot_size c.otp (length c.flash)) (mappable c right) in
    record {
      decision = decision-chosen c cpu Normal;
      first = answer-right c 0;
      second = answer-right c 1;
      table = told-right c;
      side_by_side = subst (AreSideBySide 0 (length c.flash)) (row-windows c cpu t (linked c) d (map_windows_in c))
          windows.side_by_side;
      rows = rows-right c cpu t (linked c) d (map_windows_in c) windows.right;
    }

-- the windows of a map
pub map-windows : (c : Content) (cpu : Cpu) (m : FlashMap) → IsMap c cpu m
    → AreMapWindows (table_of_content c) (length c.flash) (slot_size c.otp (length c.flash))
    (map shell m.rows.items)
map-windows c cpu m is = record {
  side_by_side = subst (AreSideBySide 0 (length c.flash))
      (shell-windows c cpu (table_of_content c) (linked c) m.decision m.rows.items) is.side_by_side;
  right = shells-right c cpu (table_of_content c) (linked c) m.decision m.rows.items is.rows;
}

same-map : (a b : FlashMap) → a.decision ≡ b.decision → a.first ≡ b.first → a.second ≡ b.second → a.table ≡ b.table
    → a.rows ≡ b.rows → a ≡ b
same-map a b e1 e2 e3 e4 e5 = joined _ _ _ _ _ _ _ _ _ _ e1 e2 e3 e4 e5
  where
    joined : (d d' : Decision) (f f' g g' : Result Table SlotFault) (t t' : Option TableInForce)
        (r r' : ArrayVec MapRow)
        → d ≡ d' → f ≡ f' → g ≡ g' → t ≡ t' → r ≡ r'
        → (let x : FlashMap = record { decision = d; first = f; second = g; table = t; rows = r } in
        let y : FlashMap = record { decision = d'; first = f'; second = g'; table = t'; rows = r' } in x ≡ y)
    joined d d' f f' g g' t t' r r' e1 e2 e3 e4 e5 = cc

same-rows : (a : ArrayVec MapRow) (rs : List MapRow) → a.items ≡ rs → a ≡ record { items = rs }
same-rows a rs e = ap (λ xs. record { items = xs }) e

-- no other map than that of the function is right by the rules
pub map-only : (c : Content) (cpu : Cpu) (m : FlashMap) → IsContent c → IsMap c cpu m → m ≡ map_in c cpu
unfolding map_in
map-only c cpu m right is =
    let t = table_of_content c in
    let decision = chosen-decision c cpu Normal m.decision is.decision in
    let windows = windows-only t (length c.flash) (slot_size c.otp (length c.flash)) (mappable c right)
    (map shell m.rows.items) (map-windows c cpu m is) in
    same-map m (map_in c cpu) decision (answer-only c 0 m.first is.first) (answer-only c 1 m.second is.second)
    (told-only c m.table is.table)
    (same-rows m.rows (map_rows_in c cpu)
    (rows-only c cpu t (linked c) m.decision m.rows.items is.rows
    ∙ (ap (map (row_of c cpu t m.decision)) windows
    ∙ ap (λ d. map (row_of c cpu t d) (map_windows_in c)) decision)))

-- the map by what the parts of the code answer
pub map-from : (c : Content) (cpu : Cpu) (d : Decision) (f g : Result Table SlotFault) (k : Option TableInForce)
    (r : ArrayVec MapRow) → d ≡ decision_in c cpu Normal → f ≡ slot_answer_in c 0 → g ≡ slot_answer_in c 1
    → k ≡ table_in_force_in c
    → r.items ≡ map (row_of c cpu (table_of_content c) d) (map_windows_in c)
    → (let m : FlashMap = record { decision = d; first = f; second = g; table = k; rows = r } in m ≡ map_in c cpu)
unfolding map_in
map-from c cpu d f g k r e1 e2 e3 e4 e5 =
    let m : FlashMap = record { decision = d; first = f; second = g; table = k; rows = r } in
    same-map m (map_in c cpu) e1 e2 e3 e4
    (same-rows r (map_rows_in c cpu)
    (e5 ∙ ap (λ x. map (row_of c cpu (table_of_content c) x) (map_windows_in c)) e1))

-- each window that is right is read: it stands inside, and it is listed
module _ (t : Option Table) (n z : ℕ) (able : IsMappable t n z) where
  listed : (p : MapPlace) (w : Window) → IsWindowOf t n z p w → IsListed t p
  listed (Slot number) w is = is.1
  listed (Part i) w is = is.0
  listed Whole w is = tt
  listed Free w is = tt

  pub window-read : (p : MapPlace) (w : Window) → IsWindowOf t n z p w → IsRead t n p w
  window-read p w is =
      let placed = right-placed t n z able p w is in
      record {
        some = some w.len placed.some;
        inside = subst (λ x. w.start + w.len ≤ x) (sectors-of n able.whole) placed.inside;
        listed = listed p w is;
      }
    where
      some : (x : ℕ) → 4096 ≤ x → 1 ≤ x
      some x le = omega arith

  pub all-read : (ms : List MapWindow) → AllByRecursion (λ m. IsWindowOf t n z m.place m.window) ms
      → All (λ m. IsRead t n m.place m.window) ms
  all-read [] all = λ k d lt. absurd (omega (arith, lt))
  all-read (m ∷ ms) all = λ k d lt. by (all-read ms all.1) k d lt
    where
      by : All (λ m. IsRead t n m.place m.window) ms → (k : ℕ) (d : MapWindow) → k < length (m ∷ ms)
          → IsRead t n (get_or (m ∷ ms) k d).place (get_or (m ∷ ms) k d).window
      by rest zero d lt = window-read m.place m.window all.0
      by rest (suc k) d lt = rest k d (omega (arith, lt))

  pub rows-read : (P : MapRow → Type 0) → ((r : MapRow) → P r → IsWindowOf t n z r.place r.window)
      → (rs : List MapRow) → AllByRecursion P rs → All (λ r. IsRead t n r.place r.window) rs
  rows-read P has [] all = λ k d lt. absurd (omega (arith, lt))
  rows-read P has (r ∷ rs) all = λ k d lt. by (rows-read P has rs all.1) k d lt
    where
      by : All (λ x. IsRead t n x.place x.window) rs → (k : ℕ) (d : MapRow) → k < length (r ∷ rs)
          → IsRead t n (get_or (r ∷ rs) k d).place (get_or (r ∷ rs) k d).window
      by rest zero d lt = window-read r.place r.window (has r all.0)
      by rest (suc k) d lt = rest k d (omega (arith, lt))

-- the table that a map tells is that of the flash
pub table-told : (c : Content) (cpu : Cpu) (m : FlashMap) → IsMap c cpu m → table_of_map m ≡ table_of_content c
table-told c cpu m is =
    let told = table_in_force (result_ok (slot_answer_in c 0)) (result_ok (slot_answer_in c 1)) in
    ap (λ (k : Option TableInForce). taken_table k (result_ok m.first) (result_ok m.second))
    (told-only c m.table is.table)
    ∙ (ap (λ (a : Result Table SlotFault). taken_table told (result_ok a) (result_ok m.second))
    (answer-only c 0 m.first is.first)
    ∙ (ap (λ (b : Result Table SlotFault). taken_table told (result_ok (slot_answer_in c 0)) (result_ok b))
    (answer-only c 1 m.second is.second)
    ∙ taken-in c))

-- what can be read of a map
pub map-readable : (c : Content) (cpu : Cpu) (m : FlashMap) → IsContent c → IsMap c cpu m → length m.rows.items ≤ 33
    → IsReadableMap m (length c.flash)
map-readable c cpu m right is few =
    let t = table_of_content c in
    let n = length c.flash in
    let able = mappable c right in
    record {
      sound = subst (λ (o : Option Table). IsSoundFor o n) (sym (table-told c cpu m is)) able.sound;
      rows = subst (λ (o : Option Table). All (λ r. IsRead o n r.place r.window) m.rows.items)
          (sym (table-told c cpu m is))
          (rows-read t n (slot_size c.otp n) able (IsRow c cpu t m.decision) (λ r row. row.window)
          m.rows.items is.rows);
      few = few;
    }

-- the table of a content can be mapped by the length and the slot size that were read
pub mappable-read : (c : Content) (t : Option Table) (n z : ℕ) → IsContent c → t ≡ table_of_content c
    → n ≡ length c.flash → z ≡ slot_size c.otp (length c.flash) → IsMappable t n z
mappable-read c t n z right table long size =
    subst (λ k. IsMappable t k z) (sym long)
    (subst (λ y. IsMappable t (length c.flash) y) (sym size)
    (subst (λ (x : Option Table). IsMappable x (length c.flash) (slot_size c.otp (length c.flash))) (sym table)
    (mappable c right)))
