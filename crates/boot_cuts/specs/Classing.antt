-- The class of a cut as a function, by comparing decisions and images. `torn` are the steps that
-- the script leaves torn.
use Rattle.std.specs.Prelude.{ℕ, ◌&&◌, ◌||◌, Bool, true, false, not, is_none, nat_lt, if◌then◌else◌, List, length, Option, Some, None, Result, Ok, Err}
use Rattle.pico_board.specs.declared.Step.{Step}
use Rattle.pico_board.specs.declared.boot.Cpu.{Cpu}
use Rattle.pico_board.specs.declared.boot.BootKind.TheVariants.{Normal}
use Rattle.pico_board.specs.Content.{Content, window_bytes}
use Rattle.block_codec.specs.Blocks.{BlockView}
use Rattle.block_loop.specs.declared.fault.LoopFault.{LoopFault}
use Rattle.block_loop.specs.Loop.{loop_of}
use Rattle.image_def.specs.declared.started.Started.{Started}
use Rattle.image_check.specs.declared.examining.Defined.{Defined}
use Rattle.image_check.specs.declared.why.Why.{Why}
use Rattle.image_check.specs.Image.{defined_in}
use Rattle.boot_rules.specs.declared.decision.Decision.{Decision}
use Rattle.boot_rules.specs.declared.decision.Decision.TheVariants as decisions
use Rattle.boot_rules.specs.Choosing.{decision_in, images_in}
use Rattle.boot_sweep.specs.Comparing.{agree_on, is_same_decision, is_same_image, is_same_started}
use Rattle.cut_class.specs.declared.class.Class.{Class}
use Rattle.cut_class.specs.declared.class.Class.TheVariants.{Former, Finished, Whole, Tail, Mixed, Bootsel}
use Rattle.boot_cuts.specs.Classes.{furthest}
use Rattle.boot_cuts.specs.Tears.{is_left_torn}

abbrev pub is_start : Decision → Bool
is_start (decisions.Start choice) = true
is_start (decisions.Bootsel fall) = false

-- where the decision on b is a start of an image, d has that image's bytes
abbrev pub has_image_of : Cpu → Content → Content → Decision → Bool
has_image_of cpu b d (decisions.Start choice) =
    is_same_image cpu (window_bytes b choice.image.window) (window_bytes d choice.image.window)
has_image_of cpu b d (decisions.Bootsel fall) = true

-- the decision e on d is that on b, and d has the bytes of its image
abbrev pub is_as_on : Decision → Cpu → Content → Content → Decision → Bool
is_as_on decided cpu b d e = is_same_decision e decided && has_image_of cpu b d decided

-- the decision is a start in a window that is not left torn
abbrev pub is_mended : List Step → Decision → Bool
is_mended torn (decisions.Start choice) = not (is_left_torn torn choice.image.window)
is_mended torn (decisions.Bootsel fall) = false

-- what stands in a window is this image
abbrev pub is_image : Started → Option Started → Bool
is_image s None = false
is_image s (Some t) = is_same_started t s

-- the image stands in x, where no trial image is allowed
abbrev pub stands_in : Cpu → Content → Started → Bool
stands_in cpu x s = is_image s (images_in x cpu s.window false)

-- it does, and d has its bytes
abbrev pub stood_in : Cpu → Content → Content → Started → Bool
stood_in cpu x d s =
    stands_in cpu x s && is_same_image cpu (window_bytes x s.window) (window_bytes d s.window)

-- the definition has no load map
abbrev pub is_unmapped : Result Defined Why → Bool
is_unmapped (Ok image) = is_none image.def.map_item
is_unmapped (Err why) = false

-- the loop of the first window has more than one block, and the second one has the same bytes up to
-- the end of the furthest of them
abbrev pub agrees_to_end : List ℕ → List ℕ → Result (List BlockView) LoopFault → Bool
agrees_to_end one two (Ok loop) =
    nat_lt 1 (length loop) && agree_on one two 0 (furthest 0 loop)
agrees_to_end one two (Err fault) = false

-- the image stands in z without a load map, and d has its window up to its furthest block
abbrev pub is_tail : Cpu → Content → Content → Started → Bool
is_tail cpu z d s =
    stands_in cpu z s && (is_unmapped (defined_in cpu (window_bytes z s.window))
    && agrees_to_end (window_bytes z s.window) (window_bytes d s.window)
    (loop_of (window_bytes z s.window)))

-- the class of a start of the image s, which is not that of c or z, by whether its window is left
-- torn
abbrev pub start_class : Cpu → Content → Content → Bool → Content → Started → Class
start_class cpu c z torn d s =
    if stood_in cpu c d s || (not torn && stood_in cpu z d s) then Whole
    else if not torn && is_tail cpu z d s then Tail
    else Mixed

-- the class of a decision that is not that of c or z
abbrev pub other_class : Cpu → Content → Content → List Step → Content → Decision → Class
other_class cpu c z torn d (decisions.Start choice) =
    start_class cpu c z (is_left_torn torn choice.image.window) d choice.image
other_class cpu c z torn d (decisions.Bootsel fall) = Bootsel

-- the class of a cut that leaves d, on which a normal boot decides e, where it decides so on c and
-- on z
abbrev pub class_by : Decision → Decision → Cpu → Content → Content → List Step → Content
    → Decision → Class
class_by former finished cpu c z torn d e =
    if is_as_on former cpu c d e then Former
    else if is_mended torn finished && is_as_on finished cpu z d e then Finished
    else other_class cpu c z torn d e

-- the class of a cut that leaves d, in a script that leads from c to z
abbrev pub class_of : Content → Content → List Step → Cpu → Content → Class
class_of c z torn cpu d =
    class_by (decision_in c cpu Normal) (decision_in z cpu Normal) cpu c z torn d
    (decision_in d cpu Normal)
