-- The downloads that a script begins and that are not done, by what its events have to do with
-- them.
use Rattle.std.specs.Prelude.{ℕ, ◌+◌, ◌&&◌, ◌||◌, Bool, true, false, not, if◌then◌else◌, List, [], ◌∷◌, ◌++◌, Option, Some, None}
use Rattle.check_records.specs.declared.downloads.Kind.{Kind}
use Rattle.check_records.specs.declared.downloads.Beginning.{Beginning}
use Rattle.check_records.specs.declared.downloads.Stage.{Stage}
use Rattle.check_records.specs.declared.downloads.Stage.TheVariants.{Taken, Done, Lost}
use Rattle.check_records.specs.declared.downloads.Share.{Share}
use Rattle.check_records.specs.declared.downloads.Share.TheVariants.{Begins, Continues, Keeps, Drops}
use Rattle.check_records.specs.declared.noting.Open.{Open}
use Rattle.check_records.specs.Shares.{counts, is_like}

-- the event begins a download
abbrev pub is_beginning : Share → Bool
is_beginning (Begins b stage) = counts b
is_beginning (Continues stage) = false
is_beginning Keeps = false
is_beginning Drops = false

-- a block came so far, and what the events behind it do makes the download done or does not
abbrev pub done_by : Stage → Bool → Bool
done_by Taken later = later
done_by Done later = true
done_by Lost later = false

-- the current download is done in these events: they keep it until the block for which it waits
abbrev pub is_done_in : List Share → Bool
is_done_in [] = false
is_done_in (Begins b stage ∷ behind) = false
is_done_in (Continues stage ∷ behind) = done_by stage (is_done_in behind)
is_done_in (Keeps ∷ behind) = is_done_in behind
is_done_in (Drops ∷ behind) = false

-- a download whose last block came so far is done, with that block or in the events behind it
abbrev pub is_done : Stage → List Share → Bool
is_done stage behind = done_by stage (is_done_in behind)

-- one of the events begins a download of this kind that is done
abbrev pub is_made_good : Kind → List Share → Bool
is_made_good k [] = false
is_made_good k (Begins b stage ∷ behind) =
    (counts b && (is_like b.kind k && is_done stage behind)) || is_made_good k behind
is_made_good k (Continues stage ∷ behind) = is_made_good k behind
is_made_good k (Keeps ∷ behind) = is_made_good k behind
is_made_good k (Drops ∷ behind) = is_made_good k behind

-- the download is not done, and none of its kind that a later event begins
abbrev pub is_open : Beginning → Stage → List Share → Bool
is_open b stage behind =
    counts b && (not (is_done stage behind) && not (is_made_good b.kind behind))

abbrev pub open_here : ℕ → Share → List Share → List Open
open_here n (Begins b stage) behind =
    if is_open b stage behind then record { number = n; kind = b.kind } ∷ [] else []
open_here n (Continues stage) behind = []
open_here n Keeps behind = []
open_here n Drops behind = []

-- these downloads, each with the number of the event that begins it, where the first of the events
-- has the number n
abbrev pub open_from : ℕ → List Share → List Open
open_from n [] = []
open_from n (share ∷ behind) = open_here n share behind ++ open_from (n + 1) behind

-- the number of the first of them
abbrev pub first_number : List Open → Option ℕ
first_number [] = None
first_number (download ∷ others) = Some download.number
