-- The result that a sweep tells of a cut is the class of that cut.
use Rattle.std.proofs.Common.{◌≡◌, inl, inr, ℕ, zero, suc, ◌+◌, ◌*◌, Bool, true, false, List, [], ◌∷◌, length, Option, Some, None, refl, sym, ap, ◌∙◌, subst, bit_and, arith}
use Rattle.std.specs.Prelude.{bit_or, if◌then◌else◌, nat_lt, option_map, slice_get, slice_index}
use Rattle.std.specs.Option.{option_or}
use Rattle.std.proofs.lemmas.Option.{same_Some}
use Rattle.pico_board.specs.declared.Step.{Step}
use Rattle.pico_board.specs.declared.step.Step.TheVariants.{Erase, Program, Raise}
use Rattle.pico_board.specs.declared.boot.Cpu.{Cpu}
use Rattle.pico_board.specs.declared.boot.BootKind.TheVariants.{Normal}
use Rattle.pico_board.specs.declared.window.Window.{Window}
use Rattle.pico_board.specs.Content.{AreApart, Content, IsContent, window_bytes}
use Rattle.pico_board.specs.Cuts.{pattern_at, torn_by}
use Rattle.pico_board.specs.Sessions.{Confined, IsConfined, SameButWindow}
use Rattle.pico_board.specs.Steps.{after, after_all}
use Rattle.pico_board.proofs.ChangedLemmas.{changed-same}
use Rattle.pico_board.proofs.ConfinementLemmas.{SameButWindow-refl, SameButWindow-then, SameOutside-wider, confined-after, confined-after_all, window_bytes-apart}
use Rattle.image_check.proofs.LawLemmas.{same-image, valid-window}
use Rattle.slot_choice.specs.declared.choice.Choice.{Choice}
use Rattle.boot_rules.specs.declared.decision.Decision.{Decision}
use Rattle.boot_rules.specs.declared.decision.Decision.TheVariants.{Start, Bootsel}
use Rattle.boot_rules.specs.Choosing.{decision_in, order_of, boot_units_in}
use Rattle.boot_rules.specs.Chosen.{Chosen, IsBootMember, is_updated}
use Rattle.boot_rules.specs.Tables.{table_in}
use Rattle.boot_rules.proofs.DecisionLemmas.{chosen-decision}
use Rattle.boot_rules.proofs.StartLemmas.{chosen-start}
use Rattle.boot_script.specs.Events.{EventView}
use Rattle.boot_session.specs.CutSessions.{StartsFinished}
use Rattle.boot_session.specs.Recordings.{kept_steps, step_limit}
use Rattle.boot_session.specs.Sessions.{session}
use Rattle.boot_session.specs.Slots.{is_confined, outside_from, session_slot}
use Rattle.boot_session.proofs.NeighbourLemmas.{here-or-apart}
use Rattle.boot_session.proofs.SlotLemmas.{confined-is, slot-found}
use Rattle.boot_sweep.specs.declared.error.SweepError.{SweepError}
use Rattle.boot_sweep.specs.declared.error.SweepError.TheVariants.{FormerInSlot, NotConfined, NotGated, TableChanged, TooManySteps}
use Rattle.boot_sweep.specs.declared.results.CutResult.{CutResult}
use Rattle.boot_sweep.specs.declared.results.CutResult.TheVariants.{Former, Finished, Chance}
use Rattle.boot_sweep.specs.Comparing.{result_of}
use Rattle.boot_sweep.specs.Refusals.{StartsIn, gains_table, is_start_in, starts_in_slot, sweep_refusal, ungated, where_}
use Rattle.boot_sweep.specs.Results.{IsCutResult, DecidesAsBefore}
use Rattle.boot_sweep.specs.Sweeps.{Line, lines_from, sweep_lines}
use Rattle.boot_sweep.proofs.RefusalCaseLemmas.{in-start, refused-exactly}
use Rattle.boot_sweep.proofs.ResultLemmas.{judged-exactly, start-holds}
use Rattle.boot_sweep.specs.Moving.{MoveView}
use Rattle.cut_class.specs.declared.class.Class.{Class}
use Rattle.cut_class.specs.declared.class.Class.TheVariants as classes
use Rattle.boot_cuts.specs.Classes.{HasImageOf, IsClass, IsFinished, IsFormer}
use Rattle.boot_cuts.specs.Classing.{class_of}
use Rattle.boot_cuts.specs.Tears.{IsLeftTorn, left_torn}
use Rattle.boot_cuts.proofs.ClassLemmas.{class-exactly}
use Rattle.boot_cuts.specs.Contents.{cut_contents}
use Rattle.boot_tape.specs.Traces.{traced_from}
use Rattle.law_cuts.specs.Cases.{IsClassFor, IsOther, IsSweptScript}
use Rattle.law_cuts.proofs.SameImageLemmas.{same-back}

-- d has the bytes of the image that a normal boot on c starts, where it starts one
abbrev pub KeepsFormer : Content → Content → Cpu → Type 0
KeepsFormer c d cpu = (choice : Choice) → Chosen c cpu Normal (Start choice)
    → window_bytes c choice.image.window ≡ window_bytes d choice.image.window

-- so it has where it differs from c in a window alone, in which that image does not stand
pub keeps-former : (c : Content) (w : Window) (cpu : Cpu) (d : Content) → IsContent c → IsBootMember c w cpu
    → (StartsIn c cpu w → ⊥) → SameButWindow w c d → KeepsFormer c d cpu
keeps-former c w cpu d right boot_member elsewhere same choice chosen =
    let start = chosen-start c cpu Normal choice chosen in
    let counts = start.counts in
    let there = valid-window c counts.window cpu (is_updated (order_of Normal (boot_units_in c cpu)) start.place choice.member)
    choice.image counts.valid in
    let apart : AreApart w choice.image.window =
    elim (here-or-apart c w cpu right boot_member start.place start.unit choice.member counts.window counts.tried counts.stands) [
      | inl here ↦ absurd (elsewhere (choice, chosen, there ∙ here))
      | inr away ↦ subst (AreApart w) (sym there) away
    ] in
    sym (window_bytes-apart c d w choice.image.window same.outside apart)

has-image : (c d : Content) (cpu : Cpu) (e : Decision) → KeepsFormer c d cpu → Chosen c cpu Normal e
    → HasImageOf c d e cpu
has-image c d cpu (Start choice) keeps chosen =
    same-image c d choice.image cpu (start-holds c cpu choice chosen) (keeps choice chosen)
has-image c d cpu (Bootsel fall) keeps chosen = tt

-- to decide as before is to be former, and to be former is to decide as before
pub decides-former : (c d : Content) (cpu : Cpu) → KeepsFormer c d cpu → DecidesAsBefore c d cpu → IsFormer c d cpu
decides-former c d cpu keeps so = record {
  decision = so.0;
  first = so.1;
  here = so.2;
  image = has-image c d cpu so.0 keeps so.1;
}

former-decides : (c d : Content) (cpu : Cpu) → IsFormer c d cpu → DecidesAsBefore c d cpu
former-decides c d cpu is = (is.decision, is.first, is.here)

-- an image that starts on both has the same bytes from either side
pub starts-finished : (z : Content) (moves : List MoveView) (d : Content) (cpu : Cpu)
    → ((w : Window) → IsLeftTorn moves w → ⊥) → StartsFinished z d cpu → IsFinished z moves d cpu
starts-finished z moves d cpu mended is = record {
  choice = is.choice;
  last = is.after;
  here = is.here;
  mended = mended is.choice.image.window;
  image = same-back cpu (window_bytes d is.choice.image.window) (window_bytes z is.choice.image.window) is.choice.image
      is.same (start-holds z cpu is.choice is.after);
}

pub finished-starts : (z : Content) (moves : List MoveView) (d : Content) (cpu : Cpu) → IsFinished z moves d cpu
    → StartsFinished z d cpu
finished-starts z moves d cpu is = record {
  choice = is.choice;
  here = is.here;
  after = is.last;
  same = same-back cpu (window_bytes z is.choice.image.window) (window_bytes d is.choice.image.window) is.choice.image
      is.image (start-holds d cpu is.choice is.here);
}

-- the class of a result
pub record ClassFor (c z : Content) (moves : List MoveView) (d : Content) (cpu : Cpu) (result : CutResult)
    : Type 0 where
  pub class : Class
  pub class_is : IsClass c z moves d cpu class
  pub told : IsClassFor result class

pub class-of-result : (c z : Content) (moves : List MoveView) (d : Content) (cpu : Cpu) (result : CutResult)
    → KeepsFormer c d cpu → ((w : Window) → IsLeftTorn moves w → ⊥) → IsCutResult c z d cpu result
    → ClassFor c z moves d cpu result
class-of-result c z moves d cpu Former keeps mended is =
    record { class = classes.Former; class_is = decides-former c d cpu keeps is; told = refl }
class-of-result c z moves d cpu Finished keeps mended is = record {
  class = classes.Finished;
  class_is = (λ former. is.0 (former-decides c d cpu former), starts-finished z moves d cpu mended is.1);
  told = refl;
}
class-of-result c z moves d cpu Chance keeps mended is =
    let class = class_of c z (left_torn moves) cpu d in
    let found : IsClass c z moves d cpu class = (class-exactly c z moves d cpu class).1 refl in
    record { class = class; class_is = found; told = other class found }
  where
    other : (k : Class) → IsClass c z moves d cpu k → IsOther k
    other classes.Former former = absurd (is.0 (former-decides c d cpu former))
    other classes.Finished finished = absurd (is.1 (finished-starts z moves d cpu finished.1))
    other classes.Whole found = tt
    other classes.Tail found = tt
    other classes.Mixed found = tt
    other classes.Bootsel found = tt

-- a torn step of a window
torn-inside : (pattern : List ℕ) (c : Content) (w : Window) (step : Step) → IsConfined w step
    → SameButWindow w c (torn_by pattern c step)
torn-inside pattern c w (Erase s) inside = record {
  outside = SameOutside-wider inside.0 inside.1 (changed-same (λ i b. pattern_at pattern i) (4096 * s) 4096 c.flash);
  rows = refl;
}
torn-inside pattern c w (Program p d) inside = record {
  outside = SameOutside-wider inside.0 inside.1
      (changed-same (λ i b. bit_and b (bit_or (slice_index d i) (pattern_at pattern i))) (256 * p) 256 c.flash);
  rows = refl;
}
torn-inside pattern c w (Raise r b) inside = absurd inside

-- the cut of a line of a sweep
pub record IsCutOfLine (judge : Content → CutResult) (b : Content) (w : Window) (contents : List Content) (n : ℕ)
    (line : Line) : Type 0 where
  pub content : Content
  pub stands : slice_get contents n ≡ Some content
  pub result : line.result ≡ judge content
  pub same : SameButWindow w b content

pub line-cut : (judge : Content → CutResult) (pattern : List ℕ) (w : Window) (k : ℕ) (b : Content) (steps : List Step)
    (n : ℕ) (line : Line) → Confined steps w → slice_get (lines_from judge pattern k b steps) n ≡ Some line
    → IsCutOfLine judge b w (cut_contents pattern (traced_from b steps)) n line
line-cut judge pattern w k b [] zero line all is = cc
line-cut judge pattern w k b [] (suc n) line all is = cc
line-cut judge pattern w k b (step ∷ steps) zero line all is =
    let same = same_Some _ line is in record {
      content = b;
      stands = refl;
      result = sym (ap (λ (l : Line). l.result) same);
      same = SameButWindow-refl w b;
    }
line-cut judge pattern w k b (step ∷ steps) (suc zero) line all is =
    let same = same_Some _ line is in record {
      content = torn_by pattern b step;
      stands = refl;
      result = sym (ap (λ (l : Line). l.result) same);
      same = torn-inside pattern b w step all.0;
    }
line-cut judge pattern w k b (step ∷ steps) (suc (suc n)) line all is =
    let rest = line-cut judge pattern w (k + 1) (after b step) steps n line all.1 is in record {
      content = rest.content;
      stands = rest.stands;
      result = rest.result;
      same = SameButWindow-then (confined-after b w step all.0) rest.same;
    }

pub two-cuts : (judge : Content → CutResult) (pattern : List ℕ) (k : ℕ) (b : Content) (steps : List Step)
    → length (cut_contents pattern (traced_from b steps)) ≡ length (lines_from judge pattern k b steps)
two-cuts judge pattern k b [] = refl
two-cuts judge pattern k b (step ∷ steps) =
    let rest = two-cuts judge pattern (k + 1) (after b step) steps in omega (arith, rest)

-- what is known of a session that is not refused
quiet-parts : (a b : Option ℕ) (m s : Bool) (t : Option SweepError)
    → option_or (option_map NotConfined a) (option_or (option_map NotGated b)
    (option_or (where_ m TooManySteps) (option_or (where_ s FormerInSlot) t))) ≡ None
    → (a ≡ None) × (s ≡ false)
quiet-parts None None false false t is = (refl, refl)
quiet-parts None None false true t is = cc
quiet-parts None None true s t is = cc
quiet-parts None (Some k) m s t is = cc
quiet-parts (Some k) b m s t is = cc

swept-parts : (c : Content) (cpu : Cpu) (steps : List Step) → sweep_refusal c cpu steps ≡ None
    → (outside_from 0 (session_slot c cpu steps) steps ≡ None)
    × (starts_in_slot (session_slot c cpu steps) (decision_in c cpu Normal) ≡ false)
unfolding sweep_refusal
swept-parts c cpu steps none =
    quiet-parts (outside_from 0 (session_slot c cpu steps) steps) (ungated (session_slot c cpu steps) (kept_steps steps))
    (nat_lt step_limit (length steps)) (starts_in_slot (session_slot c cpu steps) (decision_in c cpu Normal))
    (where_ (gains_table (table_in c) (table_in (after_all c steps))) TableChanged) none

inside-all : (w : Window) (k : ℕ) (steps : List Step) → outside_from k (Some w) steps ≡ None → Confined steps w
inside-all w k [] is = tt
inside-all w k (step ∷ steps) is = go (λ more. inside-all w (k + 1) steps more) (is_confined w step) refl is
  where
    go : (outside_from (k + 1) (Some w) steps ≡ None → Confined steps w) → (b : Bool) → is_confined w step ≡ b
        → (if b then outside_from (k + 1) (Some w) steps else Some k) ≡ None → Confined (step ∷ steps) w
    go more true here is = (confined-is w step here, more is)
    go more false here is = cc

-- a session that is swept keeps to a slot in which no boot on c starts an image, or has no steps
pub record IsSweptIn (c : Content) (cpu : Cpu) (steps : List Step) (w : Window) : Type 0 where
  pub boot_member : IsBootMember c w cpu
  pub confined : Confined steps w
  pub elsewhere : StartsIn c cpu w → ⊥

slot-keeps : (c : Content) (cpu : Cpu) (steps : List Step) (w : Window) → sweep_refusal c cpu steps ≡ None
    → session_slot c cpu steps ≡ Some w → IsSweptIn c cpu steps w
slot-keeps c cpu steps w none slot =
    let parts = swept-parts c cpu steps none in record {
      boot_member = (slot-found c cpu steps w slot).boot_member;
      confined = inside-all w 0 steps (ap (λ o. outside_from 0 o steps) (sym slot) ∙ parts.0);
      elsewhere = λ starts.
          let d = chosen-decision c cpu Normal (Start starts.0) starts.1 in
          let there : is_start_in w (decision_in c cpu Normal) ≡ true =
          in-start w (decision_in c cpu Normal) starts.0 (sym d) starts.2 in
          let away : is_start_in w (decision_in c cpu Normal) ≡ false =
          ap (λ o. starts_in_slot o (decision_in c cpu Normal)) (sym slot) ∙ parts.1 in
          let no_ : true ≡ false = sym there ∙ away in cc;
    }

abbrev none_found : Option ℕ
none_found = None

pub slot-of-swept : (c : Content) (cpu : Cpu) (first : Step) (steps : List Step)
    → sweep_refusal c cpu (first ∷ steps) ≡ None → (w : Window) × IsSweptIn c cpu (first ∷ steps) w
slot-of-swept c cpu first steps none = go (session_slot c cpu (first ∷ steps)) refl
  where
    go : (o : Option Window) → session_slot c cpu (first ∷ steps) ≡ o → (w : Window) × IsSweptIn c cpu (first ∷ steps) w
    go (Some w) slot = (w, slot-keeps c cpu (first ∷ steps) w none slot)
    go None slot =
        let parts = swept-parts c cpu (first ∷ steps) none in
        let no_ : Some 0 ≡ none_found = ap (λ o. outside_from 0 o (first ∷ steps)) (sym slot) ∙ parts.0 in cc

pub not-refused : (c : Content) (cpu : Cpu) (events : List EventView) → IsSweptScript c cpu events
    → sweep_refusal c cpu (session c cpu events) ≡ None
not-refused c cpu events is = go (sweep_refusal c cpu (session c cpu events)) refl
  where
    go : (o : Option SweepError) → sweep_refusal c cpu (session c cpu events) ≡ o
        → sweep_refusal c cpu (session c cpu events) ≡ None
    go None none = none
    go (Some why) refused =
        absurd (is.swept why ((refused-exactly c cpu (session c cpu events) is.right why).0 refused))

-- each line of a sweep that refuses nothing
pub record IsCaseOf (c z : Content) (moves : List MoveView) (cpu : Cpu) (contents : List Content) (n : ℕ) (line : Line)
    : Type 0 where
  pub content : Content
  pub stands : slice_get contents n ≡ Some content
  pub found : ClassFor c z moves content cpu line.result

pub line-case : (c : Content) (cpu : Cpu) (moves : List MoveView) (pattern : List ℕ) (steps : List Step) (n : ℕ)
    (line : Line) → IsContent c → ((w : Window) → IsLeftTorn moves w → ⊥) → sweep_refusal c cpu steps ≡ None
    → slice_get (sweep_lines c cpu pattern steps) n ≡ Some line
    → IsCaseOf c (after_all c steps) moves cpu (cut_contents pattern (traced_from c steps)) n line
line-case c cpu moves pattern [] zero line right mended none is = cc
line-case c cpu moves pattern [] (suc n) line right mended none is = cc
line-case c cpu moves pattern (first ∷ steps) n line right mended none is =
    let z = after_all c (first ∷ steps) in
    let slot = slot-of-swept c cpu first steps none in
    let w = slot.0 in
    let cut = line-cut (λ d. result_of c z d cpu) pattern w 0 c (first ∷ steps) n line slot.1.confined is in
    record {
      content = cut.content;
      stands = cut.stands;
      found = class-of-result c z moves cut.content cpu line.result
          (keeps-former c w cpu cut.content right slot.1.boot_member slot.1.elsewhere cut.same) mended
          ((judged-exactly c z cut.content cpu line.result).1 cut.result);
    }

-- what the whole session leaves
pub last-keeps : (c : Content) (cpu : Cpu) (steps : List Step) → IsContent c → sweep_refusal c cpu steps ≡ None
    → KeepsFormer c (after_all c steps) cpu
last-keeps c cpu [] right none = λ choice chosen. refl
last-keeps c cpu (first ∷ steps) right none =
    let slot = slot-of-swept c cpu first steps none in
    keeps-former c slot.0 cpu (after_all c (first ∷ steps)) right slot.1.boot_member slot.1.elsewhere
    (confined-after_all c slot.0 (first ∷ steps) slot.1.confined)
