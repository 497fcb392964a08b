use Rattle.std.proofs.Common.{◌≡◌, ◌∙◌, ℕ, suc, ◌+◌, ◌-◌, ◌*◌, ◌≤◌, ◌<◌, List, [], ◌∷◌, ◌++◌, length, sym, ap, arith, Option, Some, Bool, true, false, length-append, append_assoc}
use Rattle.std.specs.Prelude.{if◌then◌else◌, nat_lt}
use Rattle.std.specs.Option.{option_map_or}
use Rattle.part_table.specs.declared.partition.Partition.{Partition}
use Rattle.part_table.specs.Partitions.{part_at}
use Rattle.part_table.specs.Windows.{part_window}
use Rattle.boot_map.specs.declared.places.MapWindow.{MapWindow}
use Rattle.boot_map.specs.Windows.{free_between, free_place, next_part, next_start, part_place, part_windows, window_end}
use Rattle.boot_map.proofs.windows.add_parts.Goals as goal

-- one more partition, with what is free before it
part-step : (xs ys zs : List MapWindow) (parts : List Partition) (end m at i past next : ℕ)
    → Some i ≡ next_part at parts end → next ≡ next_start at parts end
    → past ≡ window_end (part_window (part_at parts i)) → ys ≡ xs ++ free_between at next
    → zs ≡ ys ++ part_place parts i ∷ []
    → zs ++ part_windows parts end m past ≡ xs ++ part_windows parts end (suc m) at
part-step xs ys zs parts end m at i past next found nearest ends one two =
    ap (λ l. l ++ part_windows parts end m past) two
    ∙ (append_assoc ys (part_place parts i ∷ []) (part_windows parts end m past)
    ∙ (ap (λ l. l ++ (part_place parts i ∷ part_windows parts end m past)) one
    ∙ (append_assoc xs (free_between at next) (part_place parts i ∷ part_windows parts end m past)
    ∙ (ap (λ k. xs ++ (free_between at k ++ (part_place parts i ∷ part_windows parts end m past))) nearest
    ∙ (ap (λ k. xs ++ (free_between at (next_start at parts end)
    ++ (part_place parts i ∷ part_windows parts end m k))) ends
    ∙ ap (λ (o : Option ℕ). xs ++ (free_between at (next_start at parts end)
    ++ option_map_or
    (λ k. part_place parts k ∷ part_windows parts end m (window_end (part_window (part_at parts k)))) o []))
    found)))))

free-room : (at next : ℕ) → length (free_between at next) ≤ 1
free-room at next = go (nat_lt at next)
  where
    go : (yes : Bool) → length (if yes then free_place at next ∷ [] else []) ≤ 1
    go true = omega arith
    go false = omega arith

room-more : (xs ys zs : List MapWindow) (x : MapWindow) (at next count : ℕ) → ys ≡ xs ++ free_between at next
    → zs ≡ ys ++ x ∷ [] → length xs ≤ 2 + 2 * count → length zs ≤ 2 + 2 * (count + 1)
room-more xs ys zs x at next count one two room =
    let a : length ys ≡ length xs + length (free_between at next) =
    ap length one ∙ length-append xs (free_between at next) in
    let b : length zs ≡ length ys + 1 = ap length two ∙ length-append ys (x ∷ []) in
    let f : length (free_between at next) ≤ 1 = free-room at next in
    fits (length xs) (length ys) (length zs) (length (free_between at next)) a b f room
  where
    fits : (p q r f : ℕ) → q ≡ p + f → r ≡ q + 1 → f ≤ 1 → p ≤ 2 + 2 * count → r ≤ 2 + 2 * (count + 1)
    fits p q r f e1 e2 e3 e4 = omega arith

fewer : (l k : ℕ) → k < l → l - k ≡ suc (l - (k + 1))
fewer l k lt = omega arith

pub loop-count-preserved : goal.loop-count-preserved
loop-count-preserved c =
    let parts = c.args.parts.now in
    let left : length c.args.parts.now - c.loop-count.count ≡ suc (length c.args.parts.now - (c.loop-count.count + 1)) =
    fewer (length c.args.parts.now) c.loop-count.count (omega (arith, c.loop-count-test.true)) in
    record {
      room = room-more c.loop-count.windows.items c.add_free.new.windows.items c.add_part-at.new.windows.items
          (part_place parts c.in-Some.i) c.loop-count.at c.next_start.result c.loop-count.count c.add_free.ensures
          c.add_part-at.ensures.added c.loop-count.invariant.room;
      left = part-step c.loop-count.windows.items c.add_free.new.windows.items c.add_part-at.new.windows.items parts
          c.args.end (length parts - (c.loop-count.count + 1)) c.loop-count.at c.in-Some.i c.add_part-at.result
          c.next_start.result c.in-Some.ensures.value c.next_start.ensures c.add_part-at.ensures.ends
          c.add_free.ensures c.add_part-at.ensures.added
          ∙ (ap (λ m. c.loop-count.windows.items ++ part_windows parts c.args.end m c.loop-count.at) (sym left)
          ∙ c.loop-count.invariant.left);
    }
