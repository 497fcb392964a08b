-- The script that replays a cut.
use Rattle.std.specs.Prelude.{ℕ, Bool, List, [], ◌∷◌, ◌++◌}
use Rattle.boot_script.specs.Events.{EventView}

-- the events before the one in which power is lost, and a Cut event that is due in its step k.
-- Then come that event, and power that comes back.
abbrev pub replay_of : List EventView → EventView → ℕ → Bool → List ℕ → List EventView
replay_of before event k within pattern =
    before ++ EventView.Cut k within pattern ∷ event ∷ EventView.PowerOn ∷ []
