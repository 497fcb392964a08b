-- The script of a text that was read.
use Rattle.std.proofs.Common.{◌≡◌, ℕ, ◌+◌, ◌≤◌, List, [], ◌∷◌, ◌++◌, length, sym, ap, ◌∙◌, arith, append-nil, length-append}
use Rattle.std.specs.Prelude.{Err}
use Rattle.std.specs.List.{AllByRecursion, flat_map}
use Rattle.boot_script.specs.Events.{EventView, End}
use Rattle.boot_script.specs.Written.{written_event}
use Rattle.boot_script.specs.Scripts.{IsBeforeEnd, events}
use Rattle.boot_script.specs.Judging.{IsScript}
use Rattle.boot_script.specs.declared.limits.TheConstants.{SCRIPT_LIMIT}
use Rattle.boot_script.proofs.FollowingLemmas.{whole-script}
use Rattle.boot_script.proofs.WalkLemmas.{few-events}
use Rattle.script_text.specs.declared.reading.Begun.{Begun}
use Rattle.script_text.specs.declared.script.TextError.{TextError}
use Rattle.script_text.specs.declared.script.TextScript.{TextScript}
use Rattle.script_text.specs.declared.script.TheConstants.{MOST_RECORDS}
use Rattle.script_text.specs.Reading.{Adds, HasRoom, IsRead, lines_of, read_lines, script_of, start, state_from}
use Rattle.script_text.specs.Meaning.{IsScriptTextFault, IsScriptOf}
use Rattle.script_text.proofs.MeaningLemmas.{text-fails, text-means}

pub whole-fault : (image text : List ℕ) (begun : Begun) (error : TextError) → state_from begun ≡ start
    → read_lines image 1 (state_from begun) (lines_of text) ≡ Err error → IsScriptTextFault image text error
whole-fault image text begun error first is =
    text-fails image text error (ap (λ s. read_lines image 1 s (lines_of text)) (sym first) ∙ is)

pub whole-text : (image text : List ℕ) (begun done : Begun) (s : TextScript) → state_from begun ≡ start
    → begun.script.bytes.items ≡ [] → begun.script.records ≡ 0
    → IsRead image begun text done → Adds done.script s (End ∷ []) → IsScriptOf image text s
whole-text image text begun done s first none zero read last = record {
  es = read.es;
  text_is = text-means image text read.es
      (ap (λ t. read_lines image 1 t (lines_of text)) (sym first) ∙ read.reads);
  bytes = last.bytes
      ∙ ap (λ bs. bs ++ written_event End)
      (read.adds.bytes ∙ ap (λ bs. bs ++ flat_map written_event read.es) none);
  records = omega (arith, read.adds.records, last.records, zero);
}

pub script-whole : (es : List EventView) (bytes : List ℕ) → AllByRecursion IsBeforeEnd es
    → bytes ≡ script_of es → length es ≤ MOST_RECORDS → length bytes ≤ SCRIPT_LIMIT → IsScript bytes
script-whole es bytes inside is few short =
    few-events bytes es short
    (ap events (is ∙ ap (λ bs. flat_map written_event es ++ bs) (sym (append-nil (written_event End))))
    ∙ whole-script es [] inside)
    (omega (arith, few))

-- the script that was read is one
pub script-read : (image text : List ℕ) (begun done : Begun) (s : TextScript) → begun.script.bytes.items ≡ []
    → begun.script.records ≡ 0 → HasRoom done → IsRead image begun text done → Adds done.script s (End ∷ [])
    → IsScript s.bytes.items
script-read image text begun done s none zero room read last =
    let long : length s.bytes.items ≡ length done.script.bytes.items + 1 =
    ap (λ (bs : List ℕ). length bs) last.bytes ∙ length-append done.script.bytes.items (written_event End) in
    script-whole read.es s.bytes.items read.inside
    (last.bytes
    ∙ ap (λ bs. bs ++ written_event End)
    (read.adds.bytes ∙ ap (λ bs. bs ++ flat_map written_event read.es) none))
    (omega (arith, read.adds.records, room.few, zero))
    (omega (arith, long, room.short))
