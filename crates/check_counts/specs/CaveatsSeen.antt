-- The caveats of the contents that the cuts of a script leave, with those of its two ends, as a
-- function: each once, in the order in which they come first.
use Rattle.std.specs.Prelude.{Bool, if◌then◌else◌, List, [], ◌∷◌, ◌++◌, map, count_by}
use Rattle.std.specs.List.{flat_map, list_any}
use Rattle.pico_board.specs.Content.{Content}
use Rattle.slot_caveats.specs.declared.caveat.Caveat.{Caveat}
use Rattle.slot_caveats.specs.Same.{is_same_caveat}
use Rattle.check_counts.specs.declared.seen.CaveatSeen.{CaveatSeen}
use Rattle.check_counts.specs.Facts.{Sides, caveats_on}

-- the caveat is in the list
abbrev pub has_caveat : List Caveat → Caveat → Bool
has_caveat list x = list_any (is_same_caveat x) list

-- the list with a further caveat, where it is not there yet
abbrev pub with_first : List Caveat → Caveat → List Caveat
with_first list x = if has_caveat list x then list else list ++ x ∷ []

-- the list with those of other ones that are not there yet, in their order
abbrev pub with_firsts : List Caveat → List Caveat → List Caveat
with_firsts list [] = list
with_firsts list (x ∷ xs) = with_firsts (with_first list x) xs

-- each caveat of a list once, in the order in which they come first
abbrev pub firsts : List Caveat → List Caveat
firsts xs = with_firsts [] xs

-- on which of the two ends a caveat holds, and at how many of the cuts that leave these contents
abbrev pub seen_on : Sides → List Content → Caveat → CaveatSeen
seen_on s contents x = record {
  caveat = x;
  former = has_caveat (caveats_on s.cpu s.first) x;
  end = has_caveat (caveats_on s.cpu s.last) x;
  cuts = count_by (λ d. has_caveat (caveats_on s.cpu d) x) contents;
}

-- the caveats of c, those of z, and those of each cut
abbrev pub all_caveats : Sides → List Content → List Caveat
all_caveats s contents =
    caveats_on s.cpu s.first ++ (caveats_on s.cpu s.last ++ flat_map (caveats_on s.cpu) contents)

-- each caveat that holds, where, and at how many cuts
abbrev pub caveats_seen : Sides → List Content → List CaveatSeen
caveats_seen s contents = map (seen_on s contents) (firsts (all_caveats s contents))
