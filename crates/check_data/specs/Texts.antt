-- The line of a window with data.
use Rattle.std.specs.Prelude.{ℕ, List, ◌++◌, codes, decimal}
use Rattle.text_words.specs.Writing.{line}
use Rattle.text_lines.specs.Texts.{window_text}
use Rattle.check_require.specs.declared.report.DataOwner.{DataOwner}
use Rattle.check_require.specs.declared.report.DataOwner.TheVariants.{Both, Former, End}
use Rattle.check_require.specs.declared.report.DataWritten.{DataWritten}
use Rattle.check_require.specs.declared.report.DataWritten.TheVariants.{Yes, No, Torn}
use Rattle.check_data.specs.declared.found.DataWindow.{DataWindow}

abbrev pub owner_word : DataOwner → List ℕ
owner_word Both = codes "both"
owner_word Former = codes "former"
owner_word End = codes "end"

abbrev pub written_word : DataWritten → List ℕ
written_word Yes = codes "yes"
written_word No = codes "no"
written_word Torn = codes "torn"

-- the window, with so many cuts at which an image runs on other data than its own
unfoldable pub data_line : DataWindow → ℕ → List ℕ
data_line w torn =
    codes "data "
    ++ (window_text w.window ++ (codes " of=" ++ (owner_word w.of ++ (codes " written="
    ++ (written_word w.written ++ (codes " torn=" ++ line (decimal torn)))))))
