-- A script within its limits does fewer than 2^32 - 1 steps: an event does at most as many as a
-- flash has sectors, and one for each of its bytes.
use Rattle.std.proofs.Common.{◌≡◌, inl, inr, ℕ, zero, suc, ◌+◌, ◌-◌, ◌*◌, ◌/◌, ◌^◌, ◌<◌, ◌≤◌, Bool, true, false, cond, List, [], ◌∷◌, ◌++◌, length, drop, Option, Some, None, Ok, Err, refl, sym, ap, ◌∙◌, subst, arith, length-append, length-drop}
use Rattle.std.specs.Prelude.{Result, ◌==◌, if◌then◌else◌, is_some, nat_le}
use Rattle.std.specs.Int.{bytes_low_first}
use Rattle.std.specs.List.{flat_map, list_any, range_with_len}
use Rattle.std.proofs.lemmas.Bool.{and_parts, cases_eq, eqb-true, leb-true}
use Rattle.std.proofs.lemmas.Bool.Decides.{nat_tests}
use Rattle.std.proofs.lemmas.List.Concat.{flat_map-cons}
use Rattle.std.proofs.lemmas.List.FromFn.{length-range_with_len}
use Rattle.pico_board.specs.declared.Step.{Step}
use Rattle.pico_board.specs.declared.boot.Cpu.{Cpu}
use Rattle.pico_board.specs.declared.boot.BootKind.{BootKind}
use Rattle.pico_board.specs.declared.window.Window.{Window}
use Rattle.pico_board.specs.Content.{Content, flash_base}
use Rattle.pico_board.specs.Steps.{after_all}
use Rattle.pico_board.proofs.CuttingLemmas.{length-after_all}
use Rattle.block_codec.specs.Words.{words_of}
use Rattle.block_codec.proofs.WordLemmas.{length-words_of}
use Rattle.part_table.specs.declared.table.Table.{Table}
use Rattle.part_table.specs.declared.Target.{Target}
use Rattle.uf2_place.specs.declared.block.Uf2.{Uf2}
use Rattle.uf2_place.specs.Blocks.{uf2_of}
use Rattle.uf2_place.specs.Placement.{final_steps, first_in, fresh_steps, gated_steps, grown, in_turn, is_whole_download, last_for, later_steps, lies_in, own_steps, page_in, download_steps, program_of, programs_in, sector_in}
use Rattle.uf2_place.proofs.GrowingLemmas.{in_turn-append}
use Rattle.picoboot_cmd.specs.declared.cmd.Cmd.{Cmd}
use Rattle.picoboot_cmd.specs.declared.kinds.TheConstants.{ERASE, WRITE, OTP_WRITE, INVALID_STATE, UNKNOWN_COMMAND, COMMAND_LENGTH, TRANSFER_LENGTH, ALIGNMENT, ADDRESS}
use Rattle.picoboot_cmd.specs.Arguments.{address, first_row, offset, size}
use Rattle.picoboot_cmd.specs.Checks.{Check, check, checks, first_failing, has_arg_size, has_transfer, is_aligned, is_served_while_busy, is_inside, is_known, status_of}
use Rattle.picoboot_cmd.specs.Commands.{command_in}
use Rattle.picoboot_cmd.specs.Pages.{programs_of}
use Rattle.picoboot_cmd.specs.Rows.{word_raises}
use Rattle.picoboot_cmd.specs.Sectors.{erases}
use Rattle.picoboot_cmd.specs.Served.{command_steps}
use Rattle.picoboot_cmd.specs.declared.cmd.CmdFault.{CmdFault}
use Rattle.ram_start.specs.Serving.{is_ram_command}
use Rattle.uf2_place.specs.declared.block.Uf2Fault.{Uf2Fault}
use Rattle.uf2_place.specs.declared.answer.Ruling.{Ruling}
use Rattle.uf2_place.specs.declared.answer.Ruling.TheVariants.{Answered, Begins, Continues}
use Rattle.boot_rules.specs.Targets.{target_of}
use Rattle.boot_script.specs.Events.{EventView, End, Command, Uf2 as Block, Cut, PowerOn, Reset, Buy}
use Rattle.boot_script.specs.Written.{written_event}
use Rattle.boot_script.specs.Scripts.{events, script_events}
use Rattle.boot_script.specs.Judging.{IsScript}
use Rattle.boot_script.proofs.WalkLemmas.{events-read, few-records}
use Rattle.boot_script.proofs.NumberLemmas.{AreBytes}
use Rattle.boot_script.proofs.FollowingLemmas.{script-spelled}
use Rattle.boot_machine.specs.Machines.{Host, StateView, Off, InBootsel, Running}
use Rattle.boot_machine.specs.Serving.{ServedEvent, block_served, blocks_of, command_served, is_hosted, ruling_on, served_event, serves_host, serves_info, serves_ram, table_of_found, taken_in, uf2_served}
use Rattle.boot_session.specs.Sessions.{entered_host, going_on, session, session_from}

length-erases : (first n : ℕ) → length (erases first n) ≡ n
length-erases first zero = refl
length-erases first (suc n) = ap (λ k. suc k) (length-erases (first + 1) n)

length-programs : (n page : ℕ) (bytes : List ℕ) → length (programs_of n page bytes) ≡ n
length-programs zero page bytes = refl
length-programs (suc n) page bytes = ap (λ k. suc k) (length-programs n (page + 1) (drop 256 bytes))

length-raises : (row : ℕ) (words : List ℕ) → length (word_raises row words) ≡ length words
length-raises row [] = refl
length-raises row (w ∷ words) = ap (λ k. suc k) (length-raises (row + 1) words)

-- where none fails, the first passes, and none of the others fails
passes-next : (k : Check) (ks : List Check) → 0 < k.status → first_failing (k ∷ ks) ≡ 0
    → (k.passes ≡ true) × (first_failing ks ≡ 0)
passes-next k ks some none = by_test k.passes refl none
  where
    by_test : (b : Bool) → k.passes ≡ b → cond b (first_failing ks) k.status ≡ 0
        → (k.passes ≡ true) × (first_failing ks ≡ 0)
    by_test true is rest = (is, rest)
    by_test false is rest = absurd (omega arith)

abbrev with_id : Cmd → ℕ → Cmd
with_id cmd id =
    record { token = cmd.token; id = id; arg_size = cmd.arg_size; transfer = cmd.transfer; args = cmd.args }

module _ (n : ℕ) (otp : List ℕ) (t : Option Table) (busy : Bool) (cmd : Cmd) (payload : List ℕ) where
  inside-of : status_of n otp t busy cmd payload ≡ 0 → is_inside cmd n ≡ true
  inside-of none =
      let all = checks n otp t busy cmd payload in
      let a = passes-next (check INVALID_STATE (is_served_while_busy busy cmd)) (drop 1 all) (omega arith) none in
      let b = passes-next (check UNKNOWN_COMMAND (is_known cmd)) (drop 2 all) (omega arith) a.1 in
      let c = passes-next (check COMMAND_LENGTH (has_arg_size cmd)) (drop 3 all) (omega arith) b.1 in
      let d = passes-next (check TRANSFER_LENGTH (has_transfer cmd payload)) (drop 4 all) (omega arith) c.1 in
      let e = passes-next (check ALIGNMENT (is_aligned cmd)) (drop 5 all) (omega arith) d.1 in
      (passes-next (check ADDRESS (is_inside cmd n)) (drop 6 all) (omega arith) e.1).0

  few-sectors : cmd.id ≡ ERASE → is_inside cmd n ≡ true → n ≤ 2 ^ 24 → size cmd / 4096 ≤ 4096
  few-sectors id inside short =
      let test = subst (λ id. is_inside (with_id cmd id) n ≡ true) id inside in
      let p = and_parts (nat_le flash_base (address cmd)) (nat_le (address cmd + size cmd) (flash_base + n)) test in
      let low = leb-true flash_base (address cmd) p.0 in
      let high = leb-true (address cmd + size cmd) (flash_base + n) p.1 in omega (arith, low, high, short)

  -- the steps of a command that passes its checks
  few-steps_of : is_inside cmd n ≡ true → n ≤ 2 ^ 24 → length (command_steps cmd payload) ≤ 4096 + length payload
  few-steps_of inside short = elim (cases_eq cmd.id ERASE) [
    | inl erase ↦
        let k = few-sectors erase inside short in
        let long = length-erases (offset cmd / 4096) (size cmd / 4096) in
        subst (λ id. length (command_steps (with_id cmd id) payload) ≤ 4096 + length payload) (sym erase)
        (omega (arith, k, long))
    | inr no_erase ↦ elim (cases_eq cmd.id WRITE) [
      | inl write ↦
          let long = length-programs ((length payload + 255) / 256) (offset cmd / 256) payload in
          subst (λ id. length (command_steps (with_id cmd id) payload) ≤ 4096 + length payload) (sym write)
          (omega (arith, long))
      | inr no_write ↦ elim (cases_eq cmd.id OTP_WRITE) [
        | inl otp_write ↦
            let long = length-raises (first_row cmd) (words_of payload) in
            let words = length-words_of payload in
            subst (λ id. length (command_steps (with_id cmd id) payload) ≤ 4096 + length payload) (sym otp_write)
            (omega (arith, long, words))
        | inr no_otp_write ↦
            let none : command_steps cmd payload ≡ [] = grind (arith, nat_tests, no_erase, no_write, no_otp_write) in
            subst (λ (steps : List Step). length steps ≤ 4096 + length payload) (sym none) (omega arith)
      ]
    ]
  ]

program-few : (page : ℕ) (o : Option (List ℕ)) → length (program_of page o) ≤ 1
program-few page None = omega arith
program-few page (Some bytes) = omega arith

flat-few : (f : ℕ → List Step) → ((i : ℕ) → length (f i) ≤ 1) → (xs : List ℕ) → length (flat_map f xs) ≤ length xs
flat-few f one [] = omega arith
flat-few f one (x ∷ xs) =
    let here = one x in
    let rest = flat-few f one xs in
    let whole = ap (λ (ys : List Step). length ys) (flat_map-cons f x xs) in
    let long = length-append (f x) (flat_map f xs) in omega (arith, here, rest, whole, long)

programs-few : (sector : ℕ) (bytes_of : ℕ → Option (List ℕ)) → length (programs_in sector bytes_of) ≤ 16
unfolding programs_in
programs-few sector bytes_of =
    let all = flat-few (λ i. program_of (16 * sector + i) (bytes_of i))
    (λ i. program-few (16 * sector + i) (bytes_of i))
    (range_with_len 0 16) in
    let long = length-range_with_len 0 16 in omega (arith, all, long)

own-few : (w : Window) (before : List Uf2) (b : Uf2) → length (own_steps w before b) ≤ 2
own-few w before b = go (list_any (lies_in w (sector_in w b)) before)
  where
    go : (erased : Bool) → length (fresh_steps erased (sector_in w b) (page_in w b) b.page) ≤ 2
    go true = omega arith
    go false = omega arith

later-few : (w : Window) (before : List Uf2) (b : Uf2) → length (later_steps w before b) ≤ 2
later-few w before b = go (lies_in w (first_in w) b)
  where
    go : (first : Bool) → (let none : List Step = [] in length (if first then none else own_steps w before b) ≤ 2)
    go true = omega arith
    go false = own-few w before b

-- one more block behind others
turn-more : (steps : List Uf2 → Uf2 → List Step) → ((bs : List Uf2) (b : Uf2) → length (steps bs b) ≤ 2)
    → (xs : List Uf2) (b : Uf2) → length (in_turn steps [] (xs ++ b ∷ [])) ≤ length (in_turn steps [] xs) + 2
turn-more steps few xs b =
    let whole = ap (λ (ys : List Step). length ys) (in_turn-append steps [] xs (b ∷ [])) in
    let long = length-append (in_turn steps [] xs) (in_turn steps ([] ++ xs) (b ∷ [])) in
    let last = length-append (steps ([] ++ xs) b) [] in
    let two = few ([] ++ xs) b in omega (arith, whole, long, last, two)

final-few : (w : Window) (blocks : List Uf2) (whole : Bool)
    → (let none : List Step = [] in length (if whole then final_steps w blocks else none) ≤ 16)
final-few w blocks true = programs-few (first_in w) (λ i. last_for w (16 * first_in w + i) blocks)
final-few w blocks false = omega arith

gated-more : (w : Window) (xs : List Uf2) (b : Uf2)
    → length (gated_steps w (xs ++ b ∷ [])) ≤ 1 + (length (in_turn (later_steps w) [] xs) + 18)
gated-more w xs b =
    let turn = turn-more (later_steps w) (later-few w) xs b in
    let last = final-few w (xs ++ b ∷ []) (is_whole_download (xs ++ b ∷ [])) in
    let long = length-append (in_turn (later_steps w) [] (xs ++ b ∷ []))
    (if is_whole_download (xs ++ b ∷ []) then final_steps w (xs ++ b ∷ []) else []) in omega (arith, turn, last, long)

gated-least : (w : Window) (xs : List Uf2) → 1 + length (in_turn (later_steps w) [] xs) ≤ length (gated_steps w xs)
gated-least w xs =
    let long = length-append (in_turn (later_steps w) [] xs) (if is_whole_download xs then final_steps w xs else []) in
    omega (arith, long)

-- a block that is taken does few steps
grown-by : (gated : Bool) (w : Window) (xs : List Uf2) (b : Uf2)
    → length (if gated then gated_steps w (xs ++ b ∷ []) else in_turn (own_steps w) [] (xs ++ b ∷ []))
    ≤ length (if gated then gated_steps w xs else in_turn (own_steps w) [] xs) + 18
grown-by true w xs b = let a = gated-more w xs b in let c = gated-least w xs in omega (arith, a, c)
grown-by false w xs b = let a = turn-more (own_steps w) (own-few w) xs b in omega (arith, a)

grown-few : (t : Target) (former : List Uf2) (b : Uf2) → length (grown t former (former ++ b ∷ [])) ≤ 19
grown-few t [] b =
    let by = grown-by t.gated t.window [] b in
    let none = none-few t.gated in
    let long = length-drop 0 (download_steps t (b ∷ [])) in omega (arith, by, none, long)
  where
    none-few : (gated : Bool)
        → length (if gated then gated_steps t.window [] else in_turn (own_steps t.window) [] []) ≤ 1
    none-few true = omega arith
    none-few false = omega arith
grown-few t (x ∷ xs) b =
    let by = grown-by t.gated t.window (x ∷ xs) b in
    let long = length-drop (length (download_steps t (x ∷ xs))) (download_steps t ((x ∷ xs) ++ b ∷ [])) in omega
    (arith, by, long)

taken-steps : (host : Host) (t : Target) (blocks : List Uf2) (b : Uf2) (steps : List Step)
    → (taken_in host t blocks b steps).steps ≡ steps
taken-steps host t blocks b steps = go (is_whole_download blocks) refl
  where
    go : (whole : Bool) → is_whole_download blocks ≡ whole → (taken_in host t blocks b steps).steps ≡ steps
    go true is = rw is refl
    go false is = rw is refl

few-block : (host : Host) (b : Uf2) (ruling : Ruling) → length (block_served host b ruling).steps ≤ 19
few-block host b (Answered answer) = omega arith
few-block host b (Begins target) =
    subst (λ (steps : List Step). length steps ≤ 19)
    (sym (taken-steps host target (b ∷ []) b (grown target [] (b ∷ [])))) (grown-few target [] b)
few-block host b (Continues target) =
    subst (λ (steps : List Step). length steps ≤ 19)
    (sym (taken-steps host target (blocks_of host.placing ++ b ∷ []) b
    (grown target (blocks_of host.placing) (blocks_of host.placing ++ b ∷ []))))
    (grown-few target (blocks_of host.placing) b)

few-uf2 : (c : Content) (cpu : Cpu) (host : Host) (r : Result Uf2 Uf2Fault)
    → length (uf2_served c cpu host r).steps ≤ 19
few-uf2 c cpu host (Err fault) = omega arith
few-uf2 c cpu host (Ok b) =
    few-block host b (ruling_on (length c.flash) (table_of_found host.found)
    (target_of c (table_of_found host.found) cpu b.family)
    host.placing b)

few-host : (c : Content) (host : Host) (cmd : Cmd) (payload : List ℕ) → length c.flash ≤ 2 ^ 24
    → length (serves_host c host cmd payload).steps ≤ 4096 + length payload
few-host c host cmd payload short = go (status == 0) refl
  where
    busy : Bool
    busy = is_some host.placing

    status : ℕ
    status = status_of (length c.flash) c.otp (table_of_found host.found) (is_some host.placing) cmd payload

    go : (b : Bool) → (status == 0) ≡ b → length (serves_host c host cmd payload).steps ≤ 4096 + length payload
    go true is =
        let inside = inside-of (length c.flash) c.otp (table_of_found host.found) (is_some host.placing) cmd payload
        (eqb-true status 0 is) in
        rw is (few-steps_of (length c.flash) c.otp (table_of_found host.found) (is_some host.placing) cmd payload
        inside short)
    go false is = rw is (omega arith)

one-of : (b d : Bool) (x y z : ServedEvent) (n : ℕ) → length x.steps ≤ n → length y.steps ≤ n → length z.steps ≤ n
    → length (if b then x else if d then y else z).steps ≤ n
one-of true d x y z n first second third = first
one-of false true x y z n first second third = second
one-of false false x y z n first second third = third

few-command : (c : Content) (cpu : Cpu) (host : Host) (r : Result Cmd CmdFault) (payload : List ℕ)
    → length c.flash ≤ 2 ^ 24 → length (command_served c cpu host r payload).steps ≤ 4096 + length payload
few-command c cpu host (Err fault) payload short = omega arith
few-command c cpu host (Ok cmd) payload short =
    one-of _ (is_ram_command cmd) (serves_info c cpu host cmd payload) (serves_ram c cpu host cmd payload)
    (serves_host c host cmd payload) (4096 + length payload) (omega arith) (omega arith)
    (few-host c host cmd payload short)

behind : (kind : ℕ) (command middle payload whole : List ℕ) → whole ≡ (kind ∷ (command ++ (middle ++ payload)))
    → length payload ≤ length whole
behind kind command middle payload whole is =
    let same = ap (λ (xs : List ℕ). length xs) is in
    let a = length-append command (middle ++ payload) in
    let b = length-append middle payload in omega (arith, same, a, b)

-- an event does at most 4096 steps, and one for each of its bytes
few-served : (c : Content) (cpu : Cpu) (host : Host) (e : EventView) → length c.flash ≤ 2 ^ 24
    → length (served_event c cpu host e).steps ≤ 4096 + length (written_event e)
few-served c cpu host (Command command payload) short =
    let few = few-command c cpu host (command_in command) payload short in
    let long = behind 1 command (bytes_low_first 0 4 (length payload)) payload
    (written_event (Command command payload)) refl in
    omega (arith, few, long)
few-served c cpu host (Block block) short = let few = few-uf2 c cpu host (uf2_of block) in omega (arith, few)
few-served c cpu host End short = omega arith
few-served c cpu host (Cut left within pattern) short = omega arith
few-served c cpu host PowerOn short = omega arith
few-served c cpu host (Reset kind) short = omega arith
few-served c cpu host Buy short = omega arith

going-few : (rest : Host → List Step) (boot : Option BootKind) (place : StateView) (n : ℕ)
    → ((host : Host) → length (rest host) ≤ n) → length (going_on rest boot place) ≤ n
going-few rest (Some kind) place n few = omega arith
going-few rest None Off n few = omega arith
going-few rest None (Running program) n few = omega arith
going-few rest None (InBootsel host) n few = few host

few-session : (c : Content) (cpu : Cpu) (host : Host) (es : List EventView) → length c.flash ≤ 2 ^ 24
    → length (session_from c cpu host es) ≤ 4096 * length es + length (flat_map written_event es)
few-session c cpu host [] short = omega arith
few-session c cpu host (e ∷ es) short =
    go (λ d next few. few-session d cpu next es few) (is_hosted e)
  where
    bound : ℕ
    bound = 4096 * length es + length (flat_map written_event es)

    s : ServedEvent
    s = served_event c cpu host e

    whole : length (flat_map written_event (e ∷ es)) ≡ length (written_event e) + length (flat_map written_event es)
    whole =
        ap (λ (xs : List ℕ). length xs) (flat_map-cons written_event e es)
        ∙ length-append (written_event e) (flat_map written_event es)

    go : ((d : Content) (next : Host) → length d.flash ≤ 2 ^ 24
        → length (session_from d cpu next es) ≤ 4096 * length es + length (flat_map written_event es)) → (hosted : Bool)
        → length (if hosted then (s.steps
        ++ going_on (λ next. session_from (after_all c s.steps) cpu next es) s.boot s.place)
        else session_from c cpu host es) ≤ 4096 * length (e ∷ es) + length (flat_map written_event (e ∷ es))
    go ih false = let rest = ih c host short in omega (arith, rest, whole)
    go ih true =
        let same = length-after_all c s.steps in
        let here = few-served c cpu host e short in
        let rest = going-few (λ next. session_from (after_all c s.steps) cpu next es) s.boot s.place
        (4096 * length es + length (flat_map written_event es))
        (λ next. ih (after_all c s.steps) next (omega (arith, same, short))) in
        let long = length-append s.steps
        (going_on (λ next. session_from (after_all c s.steps) cpu next es) s.boot s.place) in
        omega (arith, here, rest, long, whole)

few-bytes : (script : List ℕ) (es : List EventView) → AreBytes script → events script ≡ Ok es
    → length (flat_map written_event es) ≤ length script
few-bytes script es bytes read =
    let is = script-spelled (suc (length script - 0)) 0 script es bytes read in
    let whole = ap (λ (xs : List ℕ). length xs) is.bytes in
    let long = length-append (flat_map written_event es) (written_event End ++ is.rest) in omega (arith, whole, long)

-- a script within its limits does fewer steps than a u32 counts
pub few-steps : (c : Content) (cpu : Cpu) (script : List ℕ) → length c.flash ≤ 2 ^ 24 → AreBytes script
    → IsScript script → length (session c cpu (script_events script)) < 2 ^ 32 - 1
few-steps c cpu script short bytes is =
    let count = few-records script is in
    let size = is.short in
    let some = few-bytes script (script_events script) bytes (events-read script is) in
    let few = few-session c cpu (entered_host c) (script_events script) short in
    omega (arith, count, size, some, few)
