-- The cuts of a trace, and the content that each leaves.
use Rattle.std.specs.Prelude.{ℕ, Bool, true, false, List, [], ◌∷◌}
use Rattle.pico_board.specs.Content.{Content}
use Rattle.pico_board.specs.Cuts.{cut_by, cut_with}
use Rattle.boot_tape.specs.Traces.{Traced}

-- what the loss of power in the step leaves on a board in memory. Before the step it is the
-- content before it, and within it what the pattern says.
abbrev pub cut_content : List ℕ → Traced → Bool → Content
cut_content pattern t within = cut_by (cut_with 0 within pattern) t.before t.step

-- the contents that the cuts leave, in their order: before and within each step
abbrev pub cut_contents : List ℕ → List Traced → List Content
cut_contents pattern [] = []
cut_contents pattern (t ∷ done) =
    cut_content pattern t false ∷ cut_content pattern t true ∷ cut_contents pattern done
