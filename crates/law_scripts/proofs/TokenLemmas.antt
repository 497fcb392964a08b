-- Which lines depend on the commands before them.
use Rattle.std.proofs.Common.{◌≡◌, ℕ, ◌+◌, Bool, true, false, List, [], ◌∷◌, ◌++◌, length, Option, Some, None, refl, sym, ap, subst, ◌∙◌, arith, append_assoc, inl, inr}
use Rattle.std.specs.Prelude.{◌⊎◌, ◌≢◌, ◌==◌, bytes_eq, if◌then◌else◌, unwrap_or}
use Rattle.std.proofs.lemmas.Bool.{eq-eqb}
use Rattle.pico_board.specs.declared.boot.BootKind.TheVariants.{Bootsel, Normal, Update}
use Rattle.uf2_place.specs.Blocks.{written_block}
use Rattle.std.specs.List.{AllByRecursion}
use Rattle.boot_script.specs.Events.{EventView, End, Command, Uf2, Cut, PowerOn, Reset, Buy}
use Rattle.script_words.specs.declared.rows.Row.{Row}
use Rattle.script_words.specs.declared.rows.Row.TheVariants as rows
use Rattle.script_words.specs.Rows.{is_command}
use Rattle.script_words.specs.Values.{LineView, ValueView, Bytes, said}
use Rattle.script_words.specs.Finding.{line_in}
use Rattle.script_words.specs.Splitting.{words_in}
use Rattle.script_words.specs.Made.{command_of, made, made_command, made_own, made_plain, own_payload, size_of}
use Rattle.script_words.specs.Naming.{block_fields, block_values, line_of, named_command, or_line, raw_command, told_token}
use Rattle.script_words.specs.Saying.{IsEvent}
use Rattle.script_words.specs.Spelling.{line_text}
use Rattle.script_text.specs.Listing.{listed_event, listed_from}
use Rattle.script_text.specs.Reading.{token_behind}
use Rattle.law_scripts.specs.Listed.{is_listed}
use Rattle.law_scripts.specs.Tokens.{DifferInToken, HasParts, IsNoCommand}
use Rattle.law_scripts.proofs.BackLemmas.{same-line, same-some}
use Rattle.law_scripts.proofs.LineOfLemmas.{line-says}
use Rattle.law_scripts.proofs.LineTextLemmas.{line-read}
use Rattle.law_scripts.proofs.NamedBackLemmas.{named-of}

-- ---- the records of one line behind different tokens

made-own : (row : Row) (values : List ValueView) (token : ℕ) (image : List ℕ) → is_listed row ≡ true
    → made row values token image ≡ Some (made_own row values token)
made-own rows.Power values token image listed = refl
made-own rows.ResetNormal values token image listed = refl
made-own rows.ResetBootsel values token image listed = refl
made-own rows.ResetUpdate values token image listed = refl
made-own rows.CutBefore values token image listed = refl
made-own rows.CutWithin values token image listed = refl
made-own rows.Buy values token image listed = refl
made-own rows.Exclusive values token image listed = refl
made-own rows.Erase values token image listed = refl
made-own rows.Read values token image listed = refl
made-own rows.Write values token image listed = refl
made-own rows.WriteRange values token image listed = absurd (cc listed)
made-own rows.WriteRest values token image listed = absurd (cc listed)
made-own rows.ExitXip values token image listed = refl
made-own rows.EnterXip values token image listed = refl
made-own rows.RebootNormal values token image listed = refl
made-own rows.RebootBootsel values token image listed = refl
made-own rows.RebootUpdate values token image listed = refl
made-own rows.RebootRam values token image listed = refl
made-own rows.OtpRead values token image listed = refl
made-own rows.OtpWrite values token image listed = refl
made-own rows.InfoTable values token image listed = refl
made-own rows.InfoTarget values token image listed = refl
made-own rows.InfoDevice values token image listed = refl
made-own rows.InfoPartition values token image listed = refl
made-own rows.Block values token image listed = refl
made-own rows.ImageBlock values token image listed = absurd (cc listed)
made-own rows.RawCommand values token image listed = refl
made-own rows.RawPayload values token image listed = refl
made-own rows.RawBlock values token image listed = refl
made-own rows.End values token image listed = refl

own-differ : (row : Row) (values : List ValueView) (next other : ℕ) (c : Bool) → is_command row ≡ c
    → (made_own row values next ≡ made_own row values other)
    ⊎ DifferInToken next other (made_own row values next) (made_own row values other)
own-differ row values next other true command =
    let chosen = λ (token : ℕ).
    ap (λ (t : Bool). if t then made_command row values token (own_payload row values) else made_plain row values)
    command in
    inr (record {
      cmd = command_of row values next (size_of (own_payload row values));
      payload = own_payload row values;
      first = chosen next;
      second = chosen other;
    })
own-differ row values next other false command =
    let chosen = λ (token : ℕ).
    ap (λ (t : Bool). if t then made_command row values token (own_payload row values) else made_plain row values)
    command in
    inl (chosen next ∙ sym (chosen other))

line-differ : (line : LineView) (next other : ℕ) (e f : EventView) → is_listed line.row ≡ true
    → made line.row line.values (unwrap_or line.token next) [] ≡ Some e
    → made line.row line.values (unwrap_or line.token other) [] ≡ Some f
    → (e ≡ f) ⊎ DifferInToken next other e f
line-differ line next other e f listed first second = by_token line.token first second
  where
    is : (token : ℕ) (g : EventView) → made line.row line.values token [] ≡ Some g
        → made_own line.row line.values token ≡ g
    is token g gives = same-some (made_own line.row line.values token) g
        (sym (made-own line.row line.values token [] listed) ∙ gives)

    by_token : (o : Option ℕ) → made line.row line.values (unwrap_or o next) [] ≡ Some e
        → made line.row line.values (unwrap_or o other) [] ≡ Some f → (e ≡ f) ⊎ DifferInToken next other e f
    by_token (Some t) one two = inl (sym (is t e one) ∙ is t f two)
    by_token None one two =
        subst (λ (x : EventView). (x ≡ f) ⊎ DifferInToken next other x f) (is next e one)
        (subst (λ (x : EventView). (made_own line.row line.values next ≡ x)
        ⊎ DifferInToken next other (made_own line.row line.values next) x) (is other f two)
        (own-differ line.row line.values next other (is_command line.row) refl))

-- events with one line, each behind its own token, are the same but for that token
pub lines-differ : (next other : ℕ) (e f : EventView) → IsEvent e → IsEvent f
    → line_text (line_of next e) ≡ line_text (line_of other f) → (e ≡ f) ⊎ DifferInToken next other e f
lines-differ next other e f first second same =
    let says = line-says next e first in
    let says_other = line-says other f second in
    let lines : line_of next e ≡ line_of other f =
    same-line (line_of next e) (line_of other f)
    (sym (line-read (line_of next e) says.listed says.is)
    ∙ ap (λ t. line_in (words_in t)) same
    ∙ line-read (line_of other f) says_other.listed says_other.is) in
    line-differ (line_of next e) next other e f says.listed (says.gives [])
    (ap (λ (l : LineView). made l.row l.values (unwrap_or l.token other) []) lines ∙ says_other.gives [])

-- ---- what does not depend on them

made-whatever : (row : Row) (values : List ValueView) (next other : ℕ) (image : List ℕ) → is_command row ≡ false
    → made row values next image ≡ made row values other image
made-whatever rows.Power values next other image command = refl
made-whatever rows.ResetNormal values next other image command = refl
made-whatever rows.ResetBootsel values next other image command = refl
made-whatever rows.ResetUpdate values next other image command = refl
made-whatever rows.CutBefore values next other image command = refl
made-whatever rows.CutWithin values next other image command = refl
made-whatever rows.Buy values next other image command = refl
made-whatever rows.Exclusive values next other image command = absurd (cc command)
made-whatever rows.Erase values next other image command = absurd (cc command)
made-whatever rows.Read values next other image command = absurd (cc command)
made-whatever rows.Write values next other image command = absurd (cc command)
made-whatever rows.WriteRange values next other image command = absurd (cc command)
made-whatever rows.WriteRest values next other image command = absurd (cc command)
made-whatever rows.ExitXip values next other image command = absurd (cc command)
made-whatever rows.EnterXip values next other image command = absurd (cc command)
made-whatever rows.RebootNormal values next other image command = absurd (cc command)
made-whatever rows.RebootBootsel values next other image command = absurd (cc command)
made-whatever rows.RebootUpdate values next other image command = absurd (cc command)
made-whatever rows.RebootRam values next other image command = absurd (cc command)
made-whatever rows.OtpRead values next other image command = absurd (cc command)
made-whatever rows.OtpWrite values next other image command = absurd (cc command)
made-whatever rows.InfoTable values next other image command = absurd (cc command)
made-whatever rows.InfoTarget values next other image command = absurd (cc command)
made-whatever rows.InfoDevice values next other image command = absurd (cc command)
made-whatever rows.InfoPartition values next other image command = absurd (cc command)
made-whatever rows.Block values next other image command = refl
made-whatever rows.ImageBlock values next other image command = refl
made-whatever rows.RawCommand values next other image command = refl
made-whatever rows.RawPayload values next other image command = refl
made-whatever rows.RawBlock values next other image command = refl
made-whatever rows.End values next other image command = refl

pub told-whatever : (next other : ℕ) (line : LineView) (image : List ℕ)
    → (line.token ≢ None) ⊎ (is_command line.row ≡ false)
    → made line.row line.values (unwrap_or line.token next) image
    ≡ made line.row line.values (unwrap_or line.token other) image
told-whatever next other line image (inl told) = by_token line.token told
  where
    by_token : (o : Option ℕ) → o ≢ None
        → made line.row line.values (unwrap_or o next) image ≡ made line.row line.values (unwrap_or o other) image
    by_token None told = absurd (told refl)
    by_token (Some t) told = refl
told-whatever next other line image (inr command) =
    made-whatever line.row line.values (unwrap_or line.token next) (unwrap_or line.token other) image command

-- ---- what is listed

no-command : (n next other : ℕ) (e : EventView) → IsNoCommand e
    → (listed_event n next e ≡ listed_event n other e) × (token_behind next e ≡ next)
no-command n next other End none = (refl, refl)
no-command n next other (Command command payload) none = absurd none
no-command n next other (Uf2 block) none = (refl, refl)
no-command n next other (Cut left within pattern) none = (refl, refl)
no-command n next other PowerOn none = (refl, refl)
no-command n next other (Reset kind) none = (refl, refl)
no-command n next other Buy none = (refl, refl)

pub has-parts : (n : ℕ) (es fs : List EventView) (command payload : List ℕ) → AllByRecursion IsNoCommand es
    → HasParts n es fs command payload
has-parts n [] fs command payload none = record {
  front = [];
  rest = listed_from (n + 1) (token_behind 0 (Command command payload)) fs;
  lines = λ next.
      let e : n ≡ n + 0 = omega arith in
      ap (λ k. listed_event k next (Command command payload)
      ++ listed_from (n + 1) (token_behind 0 (Command command payload)) fs) e;
}
has-parts n (e ∷ es) fs command payload none =
    let more = has-parts (n + 1) es fs command payload none.1 in record {
      front = listed_event n 0 e ++ more.front;
      rest = more.rest;
      lines = λ next.
          let is = no-command n next 0 e none.0 in
          let at : n + 1 + length es ≡ n + length (e ∷ es) = omega arith in
          ap (λ t. t ++ listed_from (n + 1) (token_behind next e) (es ++ (Command command payload ∷ fs))) is.0
          ∙ ap (λ k. listed_event n 0 e ++ listed_from (n + 1) k (es ++ (Command command payload ∷ fs))) is.1
          ∙ ap (λ t. listed_event n 0 e ++ t) (more.lines next)
          ∙ sym (append_assoc (listed_event n 0 e) more.front
          (listed_event (n + 1 + length es) next (Command command payload) ++ more.rest))
          ∙ ap (λ k. (listed_event n 0 e ++ more.front)
          ++ (listed_event k next (Command command payload) ++ more.rest)) at;
    }

-- ---- the token of a line that is listed

told-other : (next token : ℕ) → told_token next token ≢ Some next
told-other next token = by_same (token == next) refl
  where
    by_same : (t : Bool) → (token == next) ≡ t → (if t then None else Some token) ≢ Some next
    by_same true is same = absurd (cc same)
    by_same false is same =
        let e : token ≡ next = cc same in absurd (cc (sym is ∙ eq-eqb token next e))

-- a line has no token that it would have without it
pub token-told : (next : ℕ) (e : EventView) → (line_of next e).token ≢ Some next
token-told next End same = absurd (cc same)
token-told next (Command command payload) same = by_named (named_command next command payload) refl same
  where
    raw : (bytes : List ℕ) → (raw_command command bytes).token ≢ Some next
    raw [] is = absurd (cc is)
    raw (b ∷ bytes) is = absurd (cc is)

    by_named : (o : Option LineView) → named_command next command payload ≡ o
        → (or_line o (raw_command command payload)).token ≢ Some next
    by_named None is = raw payload
    by_named (Some line) is =
        let n = named-of next command payload line is in
        subst (λ (l : LineView). l.token ≢ Some next) (sym n.is) (told-other next n.cmd.token)
token-told next (Uf2 block) same = by_line (bytes_eq (written_block (block_fields block)) block) same
  where
    by_line : (t : Bool)
        → (if t then said rows.Block (block_values (block_fields block)) None
        else said rows.RawBlock (Bytes block ∷ []) None).token ≢ Some next
    by_line true is = absurd (cc is)
    by_line false is = absurd (cc is)
token-told next (Cut left false pattern) same = absurd (cc same)
token-told next (Cut left true pattern) same = absurd (cc same)
token-told next PowerOn same = absurd (cc same)
token-told next (Reset Normal) same = absurd (cc same)
token-told next (Reset Bootsel) same = absurd (cc same)
token-told next (Reset (Update base)) same = absurd (cc same)
token-told next Buy same = absurd (cc same)
