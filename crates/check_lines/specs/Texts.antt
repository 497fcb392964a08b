-- The lines of what an update does to the images.
use Rattle.std.specs.Prelude.{ℕ, Bool, List, ◌++◌, Option, Some, None, Result, Ok, Err, codes, decimal}
use Rattle.text_words.specs.Writing.{line, yes_or_no}
use Rattle.image_check.specs.declared.why.Why.{Why}
use Rattle.text_lines.specs.Faults.{why_text}
use Rattle.text_lines.specs.Texts.{rollback_text, version_text, window_text}
use Rattle.check_require.specs.declared.report.ImageEffect.{ImageEffect}
use Rattle.check_require.specs.declared.report.ImageEffect.TheVariants as effects
use Rattle.check_require.specs.declared.report.Writer.{Writer}
use Rattle.check_require.specs.declared.report.Writer.TheVariants.{Script, Boot, Buy}
use Rattle.check_images.specs.declared.found.Hashed.{Hashed}
use Rattle.check_images.specs.declared.found.Hashed.TheVariants as hashes
use Rattle.check_images.specs.declared.found.ImageFacts.{ImageFacts}
use Rattle.check_images.specs.declared.found.JudgedWindow.{JudgedWindow}
use Rattle.check_images.specs.declared.found.Loss.{Loss}
use Rattle.check_images.specs.declared.found.Loss.TheVariants.{NoUnit, Fault}
use Rattle.check_images.specs.declared.found.LostWindow.{LostWindow}
use Rattle.check_images.specs.declared.found.WrittenWindow.{WrittenWindow}

abbrev pub effect_word : ImageEffect → List ℕ
effect_word effects.Unchanged = codes "none"
effect_word effects.New = codes "new"
effect_word effects.Up = codes "up"
effect_word effects.Same = codes "same"
effect_word effects.Down = codes "down"

abbrev pub hash_word : Hashed → List ℕ
hash_word hashes.Yes = codes "yes"
hash_word hashes.Bare = codes "bare"
hash_word hashes.No = codes "no"

abbrev pub writer_word : Writer → List ℕ
writer_word Script = codes "script"
writer_word Boot = codes "boot"
writer_word Buy = codes "buy"

-- what is told of a valid image
unfoldable pub facts_text : ImageFacts → List ℕ
facts_text f =
    codes "ok "
    ++ (version_text f.version ++ (codes " rollback=" ++ (rollback_text f.rollback
    ++ (codes " trial=" ++ (yes_or_no f.trial ++ (codes " hash=" ++ (hash_word f.hash
    ++ (codes " firm=" ++ yes_or_no f.firm))))))))

-- an image, or the first rule that it fails
unfoldable pub image_text : Result ImageFacts Why → List ℕ
image_text (Ok f) = facts_text f
image_text (Err why) = codes "fault=" ++ why_text why

unfoldable pub effect_line : ImageEffect → Bool → Bool → List ℕ
effect_line e table flash =
    codes "effect image="
    ++ (effect_word e ++ (codes " table=" ++ (yes_or_no table
    ++ (codes " flash=" ++ line (yes_or_no flash)))))

unfoldable pub written_line : WrittenWindow → List ℕ
written_line w =
    codes "written "
    ++ (window_text w.window ++ (codes " by=" ++ (writer_word w.by
    ++ (codes " " ++ line (image_text w.image)))))

-- the image that starts, with so many cuts at which it starts before loose bytes are there
unfoldable pub starts_line : Option ImageFacts → ℕ → List ℕ
starts_line None loose = codes "starts none\n"
starts_line (Some f) loose =
    codes "starts " ++ (facts_text f ++ (codes " loose=" ++ line (decimal loose)))

unfoldable pub fallback_line : Option JudgedWindow → List ℕ
fallback_line None = codes "fallback none\n"
fallback_line (Some w) =
    codes "fallback " ++ (window_text w.window ++ (codes " " ++ line (image_text w.image)))

unfoldable pub loss_text : Loss → List ℕ
loss_text NoUnit = codes "no-unit"
loss_text (Fault why) = codes "fault=" ++ why_text why

unfoldable pub lost_line : LostWindow → List ℕ
lost_line w = codes "lost " ++ (window_text w.window ++ (codes " " ++ line (loss_text w.loss)))
