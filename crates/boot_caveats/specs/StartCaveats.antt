-- What is to be looked up of the image that a boot starts, as functions.
use Rattle.std.specs.Prelude.{ℕ, ◌+◌, ◌-◌, ◌*◌, ◌^◌, ◌==◌, not, Bool, false, List, [], ◌∷◌, ◌++◌, find, length, Option, Some, None, option_map, option_and_then, option_to_list}
use Rattle.std.specs.Result.{result_ok}
use Rattle.std.specs.List.{list_any, range_with_len}
use Rattle.pico_board.specs.declared.window.Window.{Window}
use Rattle.pico_board.specs.Content.{Content, window_bytes}
use Rattle.block_codec.specs.Blocks.{BlockView}
use Rattle.block_loop.specs.Loop.{loop_of}
use Rattle.otp_roll.specs.Rows.{majority}
use Rattle.part_table.specs.TableOf.{has_table}
use Rattle.boot_rules.specs.declared.decision.Decision.{Decision}
use Rattle.boot_rules.specs.declared.decision.Decision.TheVariants.{Start, Bootsel}
use Rattle.slot_caveats.specs.declared.caveat.Caveat.{Caveat}
use Rattle.slot_caveats.specs.declared.caveat.Caveat.TheVariants.{TableInImage, RollbackRows, RollbackFull, RollbackGap}
use Rattle.slot_caveats.specs.Listing.{caveat_if}

-- the offset of the first block with a PARTITION_TABLE item of a window's loop
abbrev pub table_place : List ℕ → Option ℕ
table_place bytes =
    option_map (λ (b : BlockView). b.at)
    (option_and_then (find has_table) (result_ok (loop_of bytes)))

-- the loop of the image that starts has a table
abbrev pub table_in_image : Content → Decision → Option Caveat
table_in_image c (Bootsel fall) = None
table_in_image c (Start choice) =
    option_map (TableInImage choice.image.window) (table_place (window_bytes c choice.image.window))

-- a rollback version raises every bit of so many rows, which have 24 bits each
abbrev pub is_full : Option ℕ → ℕ → Bool
is_full None count = false
is_full (Some version) count = version == 24 * count

-- a value of a row, which has 24 bits, is one less than a power of two; the exponent is at least
-- `first`
unfoldable pub is_filled_from : ℕ → ℕ → Bool
is_filled_from value first = list_any (λ k. value + 1 == 2 ^ k) (range_with_len first (25 - first))

abbrev pub is_filled : ℕ → Bool
is_filled value = is_filled_from value 0

-- the majority of a listed row is not one less than a power of two
abbrev pub has_gap : List ℕ → ℕ → Bool
has_gap otp row = not (is_filled (majority otp row))

-- the caveats of the rollback rows of an image, where it lists some
abbrev pub row_caveats : List ℕ → Window → Option ℕ → List ℕ → List Caveat
row_caveats otp w rollback [] = []
row_caveats otp w rollback (row ∷ rows) =
    option_to_list (Some (RollbackRows w))
    ++ (option_to_list (caveat_if (is_full rollback (length (row ∷ rows))) (RollbackFull w))
    ++ option_to_list (option_map RollbackGap (find (has_gap otp) (row ∷ rows))))

abbrev pub started_rows : List ℕ → Decision → List Caveat
started_rows otp (Bootsel fall) = []
started_rows otp (Start choice) =
    row_caveats otp choice.image.window choice.image.rollback choice.image.rows.items
