-- What is kept of the events on the way through a script.
use Rattle.std.specs.Prelude.{◌≡◌, ℕ, ◌+◌, ◌&&◌, ◌||◌, Bool, false, not, filter, if◌then◌else◌, List, [], ◌∷◌, ◌++◌, length, Option, Some, None}
use Rattle.text_lines.specs.declared.outcome.EventOutcome.{EventOutcome}
use Rattle.check_records.specs.declared.downloads.Kind.{Kind}
use Rattle.check_records.specs.declared.downloads.Beginning.{Beginning}
use Rattle.check_records.specs.declared.downloads.Stage.{Stage}
use Rattle.check_records.specs.declared.downloads.Stage.TheVariants.{Taken, Done, Lost}
use Rattle.check_records.specs.declared.downloads.Share.{Share}
use Rattle.check_records.specs.declared.downloads.Share.TheVariants.{Begins, Continues, Keeps, Drops}
use Rattle.check_records.specs.declared.found.Refused.{Refused}
use Rattle.check_records.specs.declared.noting.Downloads.{Downloads}
use Rattle.check_records.specs.declared.noting.Open.{Open}
use Rattle.check_records.specs.declared.refusals.Refusals.{Refusals}
use Rattle.check_records.specs.Idle.{Idle, idle_here, is_lost, refused_of}
use Rattle.check_records.specs.Shares.{counts, is_like}
use Rattle.check_records.specs.Unfinished.{is_beginning}

-- those that did nothing, with further ones behind them
abbrev pub refused_with : Option Refused → List Idle → Option Refused
refused_with None idle = refused_of idle
refused_with (Some r) idle =
    Some (record { count = r.count + length idle; first = r.first; outcome = r.outcome })

abbrev pub count_in : Option Refused → ℕ
count_in None = 0
count_in (Some r) = r.count

-- the outcome of a further event was noted
pub record HasNotedOutcome (old : Refusals) (outcome : EventOutcome) (number : ℕ) (new : Refusals)
    : Type 0 where
  pub found : new.found ≡ refused_with old.found (idle_here old.lost number outcome)
  pub lost : new.lost ≡ (old.lost || is_lost outcome)

-- the first block of the download that is current behind a block that came so far
abbrev pub kept_by : Stage → Option Beginning → Option Beginning
kept_by Taken current = current
kept_by Done current = None
kept_by Lost current = None

-- the first block of the download that is done with a block that came so far
abbrev pub ended_at : Stage → Option Beginning → Option Beginning
ended_at Taken current = None
ended_at Done current = current
ended_at Lost current = None

-- the same for what an event has to do with downloads, where this one is current before it
abbrev pub current_after : Option Beginning → Share → Option Beginning
current_after current (Begins b stage) = kept_by stage (Some b)
current_after current (Continues stage) = kept_by stage current
current_after current Keeps = current
current_after current Drops = None

abbrev pub ended_by : Option Beginning → Share → Option Beginning
ended_by current (Begins b stage) = ended_at stage (Some b)
ended_by current (Continues stage) = ended_at stage current
ended_by current Keeps = None
ended_by current Drops = None

-- the download that an event begins
abbrev pub opened : ℕ → Share → List Open
opened n (Begins b stage) =
    if counts b then record { number = n; kind = b.kind } ∷ [] else []
opened n (Continues stage) = []
opened n Keeps = []
opened n Drops = []

-- a download with this first block is of that kind
abbrev pub ends_kind : Option Beginning → Kind → Bool
ends_kind None k = false
ends_kind (Some b) k = counts b && is_like b.kind k

-- the downloads of which none of its kind is done with this one
abbrev pub still_open : Option Beginning → List Open → List Open
still_open ended waiting = filter (λ (o : Open). not (ends_kind ended o.kind)) waiting

-- what a further event has to do with downloads was noted
pub record HasNotedShare (old : Downloads) (share : Share) (number : ℕ) (new : Downloads)
    : Type 0 where
  pub current : new.current ≡ current_after old.current share
  pub begun : new.begun ≡ (old.begun || is_beginning share)
  pub waiting : new.waiting.items
      ≡ still_open (ended_by old.current share) (old.waiting.items ++ opened number share)
