-- The target that an info command answers is that by which the next block is taken or refused.
use Rattle.std.proofs.Common.{◌≡◌, ℕ, ◌+◌, ◌*◌, Bool, true, false, cond, List, [], ◌∷◌, append-nil, length, Option, Some, None, Ok, Err, refl, sym, ap, ◌∙◌, subst, inl, inr, eq-eqb}
use Rattle.std.specs.Prelude.{◌==◌, not, if◌then◌else◌}
use Rattle.pico_board.specs.declared.boot.Cpu.{Cpu}
use Rattle.pico_board.specs.Content.{Content}
use Rattle.pico_board.specs.Cuts.{Cut}
use Rattle.block_codec.specs.Words.{AreWords, bytes_of, words_of}
use Rattle.block_codec.proofs.WordLemmas.{words_of-append}
use Rattle.part_table.specs.declared.Table.{Table}
use Rattle.part_table.specs.declared.Target.{Target}
use Rattle.part_table.specs.declared.Right.TheVariants.{BootWrite}
use Rattle.part_table.specs.Rights.{allowed_by}
use Rattle.uf2_place.specs.declared.block.Uf2.{Uf2}
use Rattle.uf2_place.specs.declared.answer.Ruling.{Ruling}
use Rattle.uf2_place.specs.declared.answer.Ruling.TheVariants.{Answered, Begins}
use Rattle.uf2_place.specs.declared.answer.PlaceFault.{PlaceFault}
use Rattle.uf2_place.specs.declared.answer.PlaceFault.TheVariants.{NotPermitted, Outside}
use Rattle.uf2_place.specs.declared.answer.Accepted.TheVariants.{Skipped}
use Rattle.uf2_place.specs.Placement.{grown, sector_in}
use Rattle.uf2_place.specs.Rulings.{begun, is_skipped, is_page_within}
use Rattle.info_reply.specs.declared.kinds.TheConstants.{INFO}
use Rattle.info_reply.specs.Infos.{bit, target_words}
use Rattle.picoboot_cmd.specs.declared.cmd.Cmd.{Cmd}
use Rattle.picoboot_cmd.specs.Commands.{command_in}
use Rattle.ram_start.specs.Serving.{is_ram_command}
use Rattle.boot_rules.specs.Targets.{target_of}
use Rattle.boot_script.specs.Events.{EventView}
use Rattle.text_lines.specs.declared.outcome.EventOutcome.{EventOutcome}
use Rattle.text_lines.specs.Outcomes.{command_outcome, refused_outcome}
use Rattle.boot_machine.specs.Machines.{Host, InBootsel, MachineView, Placing, StateView}
use Rattle.boot_machine.specs.Moves.{Moves, MovesBy, Decides, effect_in}
use Rattle.boot_machine.specs.Runs.{AnswersTarget, BeginsDownload, IsNewDownload, served_by}
use Rattle.boot_machine.specs.Serving.{info_reply, ServedEvent, carried_on, uf2_served, command_served, serves_ram, serves_host, taken_in, block_served, followed, info_words, is_like, ruled_on, ruling_on, served_event, serves_info, info_outcome, table_of_found, only_told}

-- two flags are told apart by their number
flags-apart : (a b c d : Bool) → bit a + 2 * bit b ≡ bit c + 2 * bit d → (a ≡ c) × (b ≡ d)
flags-apart true true true true e = (refl, refl)
flags-apart true true true false e = cc
flags-apart true true false true e = cc
flags-apart true true false false e = cc
flags-apart true false true true e = cc
flags-apart true false true false e = (refl, refl)
flags-apart true false false true e = cc
flags-apart true false false false e = cc
flags-apart false true true true e = cc
flags-apart false true true false e = cc
flags-apart false true false true e = (refl, refl)
flags-apart false true false false e = cc
flags-apart false false true true e = cc
flags-apart false false true false e = cc
flags-apart false false false true e = cc
flags-apart false false false false e = (refl, refl)

abbrev second : List ℕ → ℕ
second (a ∷ b ∷ xs) = b
second xs = 0

abbrev third : List ℕ → ℕ
third (a ∷ b ∷ c ∷ xs) = c
third xs = 0

abbrev fourth : List ℕ → ℕ
fourth (a ∷ b ∷ c ∷ d ∷ xs) = d
fourth xs = 0

abbrev target : ℕ → ℕ → Bool → Bool → Target
target start len gated stay = record { window = record { start = start; len = len }; gated = gated; stay = stay }

same-target : (a b : Target) → a.window.start ≡ b.window.start → a.window.len ≡ b.window.len
    → (a.gated ≡ b.gated) × (a.stay ≡ b.stay) → a ≡ b
same-target a b start len flags =
    ap (λ x. target x a.window.len a.gated a.stay) start ∙ ap (λ x. target b.window.start x a.gated a.stay) len
    ∙ ap (λ x. target b.window.start b.window.len x a.stay) (flags.0)
    ∙ ap (λ x. target b.window.start b.window.len b.gated x) (flags.1)

-- the words of two targets are the same only where the targets are
pub words-apart : (a b : Option Target) → target_words a ≡ target_words b → a ≡ b
words-apart None None e = refl
words-apart None (Some b) e = cc
words-apart (Some a) None e = cc
words-apart (Some a) (Some b) e =
    ap Some (same-target a b (ap second e) (ap third e) (flags-apart a.gated a.stay b.gated b.stay (ap fourth e)))

-- the bytes of two targets' words are the same only where the targets are, where the words fit
pub bytes-apart : (a b : Option Target) → AreWords (target_words a) → AreWords (target_words b)
    → bytes_of (target_words a) ≡ bytes_of (target_words b) → a ≡ b
bytes-apart a b fits others same =
    words-apart a b (sym (read (target_words a) fits) ∙ ap words_of same ∙ read (target_words b) others)
  where
    read : (ws : List ℕ) → AreWords ws → words_of (bytes_of ws) ≡ ws
    read ws fits =
        ap words_of (sym (append-nil (bytes_of ws))) ∙ words_of-append ws [] fits ∙ append-nil ws

if-false : {A : Type 0} (t : Bool) (a b : A) → t ≡ false → cond t a b ≡ b
if-false t a b e = ap (λ x. cond x a b) e

if-true : {A : Type 0} (t : Bool) (a b : A) → t ≡ true → cond t a b ≡ a
if-true t a b e = ap (λ x. cond x a b) e

module _ (c : Content) (cpu : Cpu) (host : Host) (command payload : List ℕ) (family : ℕ) (answer : Option Target)
    (is : AnswersTarget c cpu host command payload family answer) where
  -- what is answered is the family's target
  pub target-answered : target_of c (table_of_found host.found) cpu family ≡ answer
  target-answered =
      words-apart (target_of c (table_of_found host.found) cpu family) answer
      (sym (ap (info_words c cpu host.found) is.asked) ∙ is.words)

  module _ (bytes : List ℕ) (b : Uf2) (begins : BeginsDownload (length c.flash) host family bytes b) where
    rule : (given : Option Target) (placing : Option Placing) → IsNewDownload placing b
        → ruled_on (table_of_found host.found) given placing b ≡ begun (table_of_found host.found) b given
    rule given None new = refl
    rule given (Some placing) new =
        if-false (is_like placing.blocks b) (carried_on (table_of_found host.found) placing b)
        (begun (table_of_found host.found) b given) new

    pub ruling-answered : ruling_on (length c.flash) (table_of_found host.found)
        (target_of c (table_of_found host.found) cpu b.family) host.placing b
        ≡ begun (table_of_found host.found) b answer
    ruling-answered =
        let given = target_of c (table_of_found host.found) cpu b.family in
        if-false (is_skipped (length c.flash) b) (Answered (Ok Skipped))
        (ruled_on (table_of_found host.found) given host.placing b) begins.kept
        ∙ rule given host.placing begins.new
        ∙ ap (begun (table_of_found host.found) b)
        (ap (λ f. target_of c (table_of_found host.found) cpu f) begins.same ∙ target-answered)

    pub served-answered : served_event c cpu host (EventView.Uf2 bytes) ≡ served_by host answer b
    served-answered = ap (uf2_served c cpu host) begins.is ∙ ap (block_served host b) ruling-answered

abbrev machine : Content → Option (Option Cut) → Cpu → StateView → MachineView
machine c armed cpu place = record { content = c; armed = armed; cpu = cpu; place = place }

-- a move that does no step and leaves the place leaves the machine
pub still-moves : (m n : MachineView) (place : StateView) (told outcome : EventOutcome) → m.place ≡ place
    → MovesBy m m.armed (record { steps = []; place = place; outcome = told }) n outcome → (n ≡ m) × (outcome ≡ told)
still-moves m n place told outcome at (inr lost) = absurd lost.content
still-moves m n place told outcome at (inl done) = (
  same m n done.content (armed m.armed n.armed m.content n.content done.armed_cut) done.cpu (done.place ∙ sym at),
  done.told,
)
  where
    armed : (a b : Option (Option Cut)) (c d : Content) → Decides a c [] true d b → b ≡ a
    armed None b c d is = is
    armed (Some cut) b c d is = is.next

    same : (m n : MachineView) → n.content ≡ m.content → n.armed ≡ m.armed → n.cpu ≡ m.cpu → n.place ≡ m.place → n ≡ m
    same m n e f g h =
        ap (λ x. machine x n.armed n.cpu n.place) e ∙ ap (λ x. machine m.content x n.cpu n.place) f
        ∙ ap (λ x. machine m.content m.armed x n.place) g ∙ ap (λ x. machine m.content m.armed m.cpu x) h

-- what moves is what is served, in BOOTSEL
pub hosted-moves : (m n : MachineView) (host : Host) (bytes : List ℕ) (outcome : EventOutcome) (s : ServedEvent) → m.place ≡ InBootsel host
    → served_event m.content m.cpu host (EventView.Uf2 bytes) ≡ s → Moves m (EventView.Uf2 bytes) n outcome
    → MovesBy m m.armed (followed m.content m.cpu s) n outcome
hosted-moves m n host bytes outcome s at is moves =
    subst (λ (x : ServedEvent). MovesBy m m.armed (followed m.content m.cpu x) n outcome) is
    (subst (λ (p : StateView). MovesBy m m.armed (effect_in m.content m.cpu p (EventView.Uf2 bytes)) n outcome) at moves)

module _ (m n : MachineView) (host : Host) (command payload : List ℕ) (outcome : EventOutcome) (family : ℕ) (answer : Option Target)
    (at : m.place ≡ InBootsel host) (is : AnswersTarget m.content m.cpu host command payload family answer)
    (moves : Moves m (EventView.Command command payload) n outcome) where
  info-served : served_event m.content m.cpu host (EventView.Command command payload)
      ≡ only_told host (command_outcome is.cmd 0 (bytes_of (target_words answer)))
  unfolding info_reply
  info-served =
      ap (λ r. command_served m.content m.cpu host r payload) is.is
      ∙ if-true (is.cmd.id == INFO) (serves_info m.content m.cpu host is.cmd payload)
      (if is_ram_command is.cmd then serves_ram m.content m.cpu host is.cmd payload
      else serves_host m.content host is.cmd payload) (eq-eqb is.cmd.id INFO is.id)
      ∙ ap (λ status. only_told host (info_outcome status m.content m.cpu host.found is.cmd)) is.status
      ∙ ap (λ words. only_told host (command_outcome is.cmd 0 (bytes_of words))) is.words

  info-moves : MovesBy m m.armed (followed m.content m.cpu
      (only_told host (command_outcome is.cmd 0 (bytes_of (target_words answer))))) n outcome
  info-moves =
      subst (λ (x : ServedEvent). MovesBy m m.armed (followed m.content m.cpu x) n outcome) info-served
      (subst (λ (p : StateView). MovesBy m m.armed
      (effect_in m.content m.cpu p (EventView.Command command payload)) n outcome) at moves)

  info-still : (n ≡ m) × (outcome ≡ command_outcome is.cmd 0 (bytes_of (target_words answer)))
  info-still =
      still-moves m n (InBootsel host) (command_outcome is.cmd 0 (bytes_of (target_words answer))) outcome at info-moves

  pub info-told : (n ≡ m) × ((cmd : Cmd) × (command_in command ≡ Ok cmd)
      × (outcome ≡ command_outcome cmd 0 (bytes_of (target_words answer))))
  info-told = (info-still.0, (is.cmd, is.is, info-still.1))

  module _ (o : MachineView) (bytes : List ℕ) (told : EventOutcome) (b : Uf2)
      (begins : BeginsDownload (length m.content.flash) host family bytes b)
      (next : Moves n (EventView.Uf2 bytes) o told) where
    pub block-moves : MovesBy m m.armed (followed m.content m.cpu (served_by host answer b)) o told
    block-moves =
        hosted-moves m o host bytes told (served_by host answer b) at
        (served-answered m.content m.cpu host command payload family answer is bytes b begins)
        (subst (λ (x : MachineView). Moves x (EventView.Uf2 bytes) o told) (info-still.0) next)

    -- where the ruling is a refusal, nothing is done but an answer
    pub block-refused : (fault : PlaceFault) → begun (table_of_found host.found) b answer ≡ Answered (Err fault)
        → (o ≡ m) × (told ≡ refused_outcome fault)
    block-refused fault rules =
        still-moves m o (InBootsel host) (refused_outcome fault) told at
        (subst (λ (r : Ruling). MovesBy m m.armed (followed m.content m.cpu (block_served host b r)) o told) rules
        block-moves)

    pub block-begins : (t : Target) → begun (table_of_found host.found) b answer ≡ Begins t
        → MovesBy m m.armed (followed m.content m.cpu (taken_in host t (b ∷ []) b (grown t [] (b ∷ [])))) o told
    block-begins t rules =
        subst (λ (r : Ruling). MovesBy m m.armed (followed m.content m.cpu (block_served host b r)) o told) rules
        block-moves

-- the rulings on a block with a target
module _ (table : Option Table) (b : Uf2) (t : Target) where
  abbrev by_right : Bool → Ruling
  by_right may = if not may then Answered (Err NotPermitted) else Begins t

  abbrev by_place : Bool → Bool → Ruling
  by_place inside may = if not inside then Answered (Err Outside) else by_right may

  pub begun-outside : is_page_within t.window.len b ≡ false → begun table b (Some t) ≡ Answered (Err Outside)
  begun-outside out = ap (λ x. by_place x (allowed_by table (sector_in t.window b) BootWrite)) out

  pub begun-forbidden : is_page_within t.window.len b ≡ true → allowed_by table (sector_in t.window b) BootWrite ≡ false
      → begun table b (Some t) ≡ Answered (Err NotPermitted)
  begun-forbidden inside may =
      ap (λ x. by_place x (allowed_by table (sector_in t.window b) BootWrite)) inside ∙ ap by_right may

  pub begun-taken : is_page_within t.window.len b ≡ true → allowed_by table (sector_in t.window b) BootWrite ≡ true
      → begun table b (Some t) ≡ Begins t
  begun-taken inside may =
      ap (λ x. by_place x (allowed_by table (sector_in t.window b) BootWrite)) inside ∙ ap by_right may
