-- What is right for the picture of a flash, by the rules.
use Rattle.std.specs.Prelude.{◌≡◌, ℕ, List, length}
use Rattle.pico_board.specs.declared.boot.Cpu.{Cpu}
use Rattle.pico_board.specs.Content.{Content, IsContent}
use Rattle.boot_map.specs.declared.maps.FlashMap.{FlashMap}
use Rattle.boot_map.specs.MapRules.{IsMap}
use Rattle.cli_course.specs.declared.status.Status.TheVariants.{Done}
use Rattle.cli_course.specs.Outcomes.{AnswerView, one_file}
use Rattle.cli_map.specs.Works.{map_file, map_line}

-- `map`: there is a map of the flash that the rules name; the outcome prints how many windows the
-- map has, and writes the picture of the flash; the picture has these windows, each with what the
-- map says of it as a text, and the decision of a normal boot
pub record IsMapOf (c : Content) (cpu : Cpu) (out : List ℕ) (o : AnswerView) : Type 0 where
  pub right : IsContent c
  pub shown : FlashMap
  pub mapped : IsMap c cpu shown
  pub status : o.status ≡ Done
  pub text : o.text ≡ map_line shown
  pub files : o.files ≡ one_file out (map_file (length c.flash) shown)
