-- The scripts by which a host writes an image, by the order of the image's sectors.
use Rattle.std.specs.Prelude.{ℕ, List}
use Rattle.script_plan.specs.declared.writing.WriteOrder.{WriteOrder}
use Rattle.script_plan.specs.declared.writing.WriteOrder.TheVariants.{FirstLast, Ascending}
use Rattle.script_plan.specs.Plans.{plan_text}
use Rattle.script_plan.specs.Loads.{load_text}

-- the script that writes an image at a flash offset in this order
abbrev pub script_text : WriteOrder → ℕ → List ℕ → List ℕ
script_text FirstLast at image = plan_text at image
script_text Ascending at image = load_text at image
