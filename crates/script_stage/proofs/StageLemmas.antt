-- The script of a stage, command by command.
use Rattle.std.proofs.Common.{◌≡◌, ℕ, OnOk, Result, subst, ◌+◌, ◌*◌, List, [], ◌∷◌, ◌++◌, length, sym, ap, ◌∙◌, append_assoc, append-nil}
use Rattle.std.specs.Prelude.{slice_range}
use Rattle.std.specs.List.{flat_map}
use Rattle.boot_script.specs.Written.{written_event}
use Rattle.script_stage.specs.Stages.{Call, Sends, erase_call, last_calls, part_calls, rest_calls, stage_calls, with_tokens}

-- where the second call succeeds, both texts stand behind the former one
pub two-sent : {T E : Type 0} (r : Result T E) (old mid new one two : List ℕ) → mid ≡ old ++ one
    → OnOk r (new ≡ mid ++ two) → OnOk r (new ≡ old ++ (one ++ (two ++ [])))
two-sent r old mid new one two former done =
    let joined : mid ++ two ≡ old ++ (one ++ (two ++ [])) =
    ap (λ (m : List ℕ). m ++ two) former ∙ append_assoc old one two
    ∙ ap (λ (t : List ℕ). old ++ (one ++ t)) (sym (append-nil two)) in
    subst (λ (whole : List ℕ). OnOk r (new ≡ whole)) joined done

-- the text of commands with tokens from this one on
abbrev text : ℕ → List Call → List ℕ
text token calls = flat_map written_event (with_tokens token calls)

-- the commands of a stage whose parts are these bytes
abbrev calls_of : ℕ → ℕ → List ℕ → List ℕ → List ℕ → List ℕ → List Call
calls_of at page rest before behind last =
    erase_call at 4096
    ∷ (rest_calls (at + 4096) rest
    ++ (part_calls at before
    ++ (part_calls (at + 256 * (page + 1)) behind ++ last_calls at (at + 256 * page) last)))

-- the parts are those of the image
parts-are : (at page : ℕ) (image rest before behind last : List ℕ)
    → rest ≡ slice_range image 4096 (length image)
    → before ≡ slice_range image 0 (256 * page)
    → behind ≡ slice_range image (256 * (page + 1)) 4096
    → last ≡ slice_range image (256 * page) (256 * (page + 1))
    → calls_of at page rest before behind last ≡ stage_calls at page image
parts-are at page image rest before behind last r b h l =
    ap (λ (x : List ℕ). calls_of at page x before behind last) r
    ∙ ap (λ (x : List ℕ). calls_of at page (slice_range image 4096 (length image)) x behind last) b
    ∙ ap (λ (x : List ℕ). calls_of at page (slice_range image 4096 (length image))
    (slice_range image 0 (256 * page)) x last) h
    ∙ ap (λ (x : List ℕ). calls_of at page (slice_range image 4096 (length image))
    (slice_range image 0 (256 * page)) (slice_range image (256 * (page + 1)) 4096) x) l

-- where the last call succeeds, the texts of all parts stand behind the former one
pub stage-sent : {T E : Type 0} (r : Result T E) (at page : ℕ)
    (image rest before behind last old one two three four new : List ℕ) (second third fourth : ℕ)
    → rest ≡ slice_range image 4096 (length image)
    → before ≡ slice_range image 0 (256 * page)
    → behind ≡ slice_range image (256 * (page + 1)) 4096
    → last ≡ slice_range image (256 * page) (256 * (page + 1))
    → one ≡ old ++ written_event (erase_call at 4096 1)
    → Sends (rest_calls (at + 4096) rest) 2 one second two
    → Sends (part_calls at before) second two third three
    → Sends (part_calls (at + 256 * (page + 1)) behind) third three fourth four
    → OnOk r (new ≡ four ++ text fourth (last_calls at (at + 256 * page) last))
    → OnOk r (new ≡ old ++ text 1 (stage_calls at page image))
stage-sent r at page image rest before behind last old one two three four new second third fourth is_rest is_before
    is_behind is_last erased sent_rest sent_before sent_behind done =
    let final : List Call = last_calls at (at + 256 * page) last in
    let behind_calls : List Call = part_calls (at + 256 * (page + 1)) behind ++ final in
    let before_calls : List Call = part_calls at before ++ behind_calls in
    let erase : List ℕ = written_event (erase_call at 4096 1) in
    let joined : four ++ text fourth final ≡ old ++ text 1 (stage_calls at page image) =
    sent_behind final ∙ sent_before behind_calls ∙ sent_rest before_calls
    ∙ ap (λ (m : List ℕ). m ++ text 2 (rest_calls (at + 4096) rest ++ before_calls)) erased
    ∙ append_assoc old erase (text 2 (rest_calls (at + 4096) rest ++ before_calls))
    ∙ ap (λ (calls : List Call). old ++ text 1 calls)
    (parts-are at page image rest before behind last is_rest is_before is_behind is_last) in
    subst (λ (whole : List ℕ). OnOk r (new ≡ whole)) joined done
