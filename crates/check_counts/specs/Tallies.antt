-- The counts over cuts, taken one cut after another, as a function. A count stays at its greatest
-- value, which no script reaches.
use Rattle.std.specs.Prelude.{ℕ, ◌+◌, Bool, false, if◌then◌else◌, ◌||◌, not, min, List, [], replicate, length, ◌∷◌, ◌++◌, map}
use Rattle.std.specs.List.{list_any}
use Rattle.cut_class.specs.declared.class.Class.TheVariants.{Former, Finished, Whole, Tail, Mixed, Bootsel}
use Rattle.boot_cuts.specs.Classing.{is_start}
use Rattle.boot_cuts.specs.Counts.{has_class}
use Rattle.slot_caveats.specs.declared.caveat.Caveat.{Caveat}
use Rattle.slot_caveats.specs.Same.{is_same_caveat}
use Rattle.check_counts.specs.declared.counts.Counts.{Counts}
use Rattle.check_counts.specs.declared.seen.CaveatSeen.{CaveatSeen}
use Rattle.check_counts.specs.CaveatsSeen.{has_caveat}
use Rattle.check_counts.specs.Facts.{Facts, Sides, caveats_on}

-- the counts as plain data
pub record Tally : Type 0 where
  pub former : ℕ
  pub finished : ℕ
  pub whole : ℕ
  pub tail : ℕ
  pub mixed : ℕ
  pub bootsel : ℕ
  pub falls : ℕ
  pub early : ℕ
  pub other_data : List ℕ
  pub by_mixed : ℕ
  pub other_table : Bool
  pub other_class : Bool
  pub caveats : List CaveatSeen

abbrev pub tally_of : Counts → Tally
tally_of counts = record {
  former = counts.former;
  finished = counts.finished;
  whole = counts.whole;
  tail = counts.tail;
  mixed = counts.mixed;
  bootsel = counts.bootsel;
  falls = counts.falls;
  early = counts.early;
  other_data = counts.other_data.items;
  by_mixed = counts.by_mixed;
  other_table = counts.other_table;
  other_class = counts.other_class;
  caveats = counts.caveats.items;
}

-- a count after one thing more, which is counted where a test says so
abbrev pub counted : ℕ → Bool → ℕ
counted n holds = if holds then min (n + 1) 0xffff_ffff else n

-- each of the counts after one thing more
abbrev pub counted_each : List ℕ → List Bool → List ℕ
counted_each [] each = []
counted_each (n ∷ counts) [] = n ∷ counts
counted_each (n ∷ counts) (holds ∷ each) = counted n holds ∷ counted_each counts each

-- a caveat is among those that are seen
abbrev pub is_seen : List CaveatSeen → Caveat → Bool
is_seen seen x = list_any (λ (s : CaveatSeen). is_same_caveat x s.caveat) seen

-- a caveat that is seen for the first time: by the caveats of the two ends, at so many cuts
abbrev pub first_seen : List Caveat → List Caveat → ℕ → Caveat → CaveatSeen
first_seen former end_ cuts x = record {
  caveat = x;
  former = has_caveat former x;
  end = has_caveat end_ x;
  cuts = cuts;
}

-- those that are seen with those of a list that are not seen yet
abbrev pub with_seen : (Caveat → CaveatSeen) → List CaveatSeen → List Caveat → List CaveatSeen
with_seen make seen [] = seen
with_seen make seen (x ∷ xs) =
    with_seen make (if is_seen seen x then seen else seen ++ make x ∷ []) xs

-- a caveat that is seen, after a cut with these caveats
abbrev pub seen_again : List Caveat → CaveatSeen → CaveatSeen
seen_again list s = record {
  caveat = s.caveat;
  former = s.former;
  end = s.end;
  cuts = counted s.cuts (has_caveat list s.caveat);
}

-- those that are seen, after a cut with these caveats
abbrev pub seen_with : List CaveatSeen → List Caveat → List CaveatSeen
seen_with seen list = with_seen (first_seen [] [] 1) (map (seen_again list) seen) list

-- those that are seen before any cut, by the caveats of the two ends
abbrev pub seen_first : List Caveat → List Caveat → List CaveatSeen
seen_first former end_ = with_seen (first_seen former end_ 0) [] (former ++ end_)

-- the counts over no cut, for so many windows with data, with what is seen of caveats
abbrev pub begun : ℕ → List CaveatSeen → Tally
begun windows caveats = record {
  former = 0;
  finished = 0;
  whole = 0;
  tail = 0;
  mixed = 0;
  bootsel = 0;
  falls = 0;
  early = 0;
  other_data = replicate windows 0;
  by_mixed = 0;
  other_table = false;
  other_class = false;
  caveats = caveats;
}

-- the counts of classes and of falls after a cut that leaves what these facts tell of
abbrev pub with_class : Tally → Facts → Tally
with_class t f = record t {
  former = counted t.former (has_class Former f.answer);
  finished = counted t.finished (has_class Finished f.answer);
  whole = counted t.whole (has_class Whole f.answer);
  tail = counted t.tail (has_class Tail f.answer);
  mixed = counted t.mixed (has_class Mixed f.answer);
  bootsel = counted t.bootsel (has_class Bootsel f.answer);
  falls = counted t.falls (not (is_start f.answer.decision));
  other_class = t.other_class
      || not (has_class Former f.answer || has_class Bootsel f.answer);
}

-- the counts after that cut
abbrev pub with_facts : Tally → Facts → Tally
with_facts t f = record (with_class t f) {
  early = counted t.early f.early;
  other_data = counted_each t.other_data f.other_data;
  by_mixed = counted t.by_mixed f.raises;
  other_table = t.other_table || f.other_table;
  caveats = seen_with t.caveats f.caveats;
}

-- the counts after cuts that leave what these facts tell of, one after another
abbrev pub with_all : Tally → List Facts → Tally
with_all t [] = t
with_all t (f ∷ fs) = with_all (with_facts t f) fs

-- the counts over no cut, by the caveats of the two ends
abbrev pub tally_before : Sides → Tally
tally_before s =
    begun (length s.windows) (seen_first (caveats_on s.cpu s.first) (caveats_on s.cpu s.last))
