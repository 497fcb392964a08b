-- A command is served by those of its argument bytes that its argument size counts.
use Rattle.std.proofs.Common.{◌≡◌, ◌⊎◌, inl, inr, ℕ, suc, ◌+◌, ◌-◌, ◌*◌, ◌/◌, ◌%◌, ◌==◌, ◌&&◌, not, nat_le, if◌then◌else◌, Bool, true, false, List, [], ◌∷◌, length, get_or, take, drop, Option, None, Some, refl, sym, ap, subst, ◌∙◌, arith}
use Rattle.std.specs.Prelude.{slice_range}
use Rattle.std.specs.List.{list_any}
use Rattle.std.proofs.lemmas.Bool.{cases_eq, eqb-true, ne_eqb}
use Rattle.std.proofs.lemmas.List.{drop-take, get_or-take}
use Rattle.byteorder.specs.Endian.{little_number}
use Rattle.block_codec.specs.Words.{bytes_of, words_of}
use Rattle.pico_board.specs.declared.boot.BootKind.{BootKind}
use Rattle.pico_board.specs.declared.Step.{Step}
use Rattle.pico_board.specs.Content.{Content, flash_base}
use Rattle.part_table.specs.declared.table.Right.TheVariants.{BootRead, BootWrite}
use Rattle.part_table.specs.declared.table.Table.{Table}
use Rattle.picoboot_cmd.specs.declared.cmd.Cmd.{Cmd}
use Rattle.picoboot_cmd.specs.declared.kinds.TheConstants.{ENTER_XIP, ERASE, EXCLUSIVE, EXIT_XIP, OTP_READ, OTP_WRITE, READ, REBOOT, WRITE}
use Rattle.picoboot_cmd.specs.Arguments.{with_args}
use Rattle.picoboot_cmd.specs.Checks.{Check, are_reboot_flags, arg_size_of, check, checks, first_failing, has_arg_size, is_served_while_busy, is_known}
use Rattle.picoboot_cmd.specs.Pages.{programs}
use Rattle.picoboot_cmd.specs.Rows.{are_row_words, keeps_raised, word_raises}
use Rattle.picoboot_cmd.specs.Sectors.{erases, range_allowed}
use Rattle.picoboot_cmd.specs.Served.{ServedCommand, boot_by, served_on, served_by_status}

-- a word is read of four bytes, and a half word of two
four-read : (m : ℕ) (xs : List ℕ) → little_number 4 (take (suc (suc (suc (suc m)))) xs) ≡ little_number 4 xs
four-read m [] = refl
four-read m (a ∷ []) = refl
four-read m (a ∷ b ∷ []) = refl
four-read m (a ∷ b ∷ c ∷ []) = refl
four-read m (a ∷ b ∷ c ∷ d ∷ xs) = refl

two-read : (m : ℕ) (xs : List ℕ) → little_number 2 (take (suc (suc m)) xs) ≡ little_number 2 xs
two-read m [] = refl
two-read m (a ∷ []) = refl
two-read m (a ∷ b ∷ xs) = refl

module _ (n : ℕ) (one other : List ℕ) (same : take n one ≡ take n other) where
  part : (at m : ℕ) → at + m ≡ n → take m (drop at one) ≡ take m (drop at other)
  part at m e =
      sym (drop-take at m one) ∙ ap (λ k. drop at (take k one)) e ∙ ap (drop at) same
      ∙ sym (ap (λ k. drop at (take k other)) e) ∙ drop-take at m other

  word : (at m : ℕ) → at + suc (suc (suc (suc m))) ≡ n
      → little_number 4 (drop at one) ≡ little_number 4 (drop at other)
  word at m e =
      sym (four-read m (drop at one)) ∙ ap (little_number 4) (part at (suc (suc (suc (suc m)))) e)
      ∙ four-read m (drop at other)

  half : (at m : ℕ) → at + suc (suc m) ≡ n → little_number 2 (drop at one) ≡ little_number 2 (drop at other)
  half at m e =
      sym (two-read m (drop at one)) ∙ ap (little_number 2) (part at (suc (suc m)) e) ∙ two-read m (drop at other)

  byte : (k m : ℕ) → k + suc m ≡ n → get_or one k 0 ≡ get_or other k 0
  byte k m e =
      sym (get_or-take n one k 0 (omega (arith, e))) ∙ ap (λ xs. get_or xs k 0) same
      ∙ get_or-take n other k 0 (omega (arith, e))

-- another argument size than that of the id, or an id that is none, is answered before any argument is read
early : (c : Content) (a b : Cmd) (payload : List ℕ) (free known sized : Bool) (rest other : List Check)
    → known ≡ false ⊎ (sized ≡ false)
    → served_by_status (first_failing (check 9 free ∷ check 1 known ∷ check 2 sized ∷ rest)) c a payload
    ≡ served_by_status (first_failing (check 9 free ∷ check 1 known ∷ check 2 sized ∷ other)) c b payload
early c a b payload false known sized rest other is = refl
early c a b payload true false sized rest other is = refl
early c a b payload true true false rest other is = refl
early c a b payload true true true rest other (inl is) = cc
early c a b payload true true true rest other (inr is) = cc

unknown : (id : ℕ) → (id ≡ EXCLUSIVE → ⊥) → (id ≡ ERASE → ⊥) → (id ≡ READ → ⊥) → (id ≡ WRITE → ⊥)
    → (id ≡ EXIT_XIP → ⊥) → (id ≡ ENTER_XIP → ⊥) → (id ≡ REBOOT → ⊥) → (id ≡ OTP_READ → ⊥) → (id ≡ OTP_WRITE → ⊥)
    → list_any (λ k. k == id)
    (EXCLUSIVE ∷ ERASE ∷ READ ∷ WRITE ∷ EXIT_XIP ∷ ENTER_XIP ∷ REBOOT ∷ OTP_READ ∷ OTP_WRITE ∷ []) ≡ false
unknown id a b d e f g h i j =
    rw (
      ne_eqb EXCLUSIVE id (λ is. a (sym is)),
      ne_eqb ERASE id (λ is. b (sym is)),
      ne_eqb READ id (λ is. d (sym is)),
      ne_eqb WRITE id (λ is. e (sym is)),
      ne_eqb EXIT_XIP id (λ is. f (sym is)),
      ne_eqb ENTER_XIP id (λ is. g (sym is)),
      ne_eqb REBOOT id (λ is. h (sym is)),
      ne_eqb OTP_READ id (λ is. i (sym is)),
      ne_eqb OTP_WRITE id (λ is. j (sym is)),
    ) refl

-- what is done with this status
abbrev done : ℕ → List Step → List ℕ → Option BootKind → ServedCommand
done status steps reply boot =
    if status == 0 then record { status = 0; steps = steps; reply = reply; boot = boot }
    else record { status = status; steps = []; reply = []; boot = None }

module _ (c : Content) (t : Option Table) (busy : Bool) (cmd : Cmd) (args payload : List ℕ) where
  -- the command with this id and these arguments
  abbrev as_id : ℕ → List ℕ → Cmd
  as_id id xs =
      record { token = cmd.token; id = id; arg_size = cmd.arg_size; transfer = cmd.transfer; args = xs }

  abbrev Same : ℕ → Type 0
  Same id = served_on c t busy (as_id id args) payload ≡ served_on c t busy (as_id id cmd.args) payload

  -- the checks behind that of the argument size
  abbrev others : Cmd → List Check
  others x = drop 3 (checks (length c.flash) c.otp t busy x payload)

  abbrev sized : ℕ → Check
  sized n = check 2 (cmd.arg_size == n)

  abbrev lengths : ℕ → ℕ → Check
  lengths transfer long = check 3 (cmd.transfer == transfer && length payload == long)

  abbrev inside : ℕ → ℕ → Check
  inside a s = check 4 (nat_le flash_base a && nat_le (a + s) (flash_base + length c.flash))

  at-exclusive : take 1 args ≡ take 1 cmd.args → Same EXCLUSIVE
  at-exclusive same =
      let b = byte 1 args cmd.args same 0 0 refl in
      λ u. done (first_failing (sized 1 ∷ lengths 0 0 ∷ check 11 (nat_le (b u) 2) ∷ [])) [] [] None

  at-erase : take 8 args ≡ take 8 cmd.args → Same ERASE
  at-erase same =
      let a = word 8 args cmd.args same 0 4 refl in
      let s = word 8 args cmd.args same 4 0 refl in
      λ u. done (first_failing (check 9 (not busy) ∷ sized 8 ∷ lengths 0 0
      ∷ check 5 (a u % 4096 == 0 && s u % 4096 == 0) ∷ inside (a u) (s u)
      ∷ check 10 (range_allowed t BootWrite (a u - flash_base) (s u)) ∷ []))
      (erases ((a u - flash_base) / 4096) (s u / 4096)) [] None

  at-read : take 8 args ≡ take 8 cmd.args → Same READ
  at-read same =
      let a = word 8 args cmd.args same 0 4 refl in
      let s = word 8 args cmd.args same 4 0 refl in
      λ u. done (first_failing (sized 8 ∷ lengths (s u) 0 ∷ inside (a u) (s u)
      ∷ check 10 (range_allowed t BootRead (a u - flash_base) (s u)) ∷ []))
      [] (slice_range c.flash (a u - flash_base) (a u - flash_base + s u)) None

  at-write : take 8 args ≡ take 8 cmd.args → Same WRITE
  at-write same =
      let a = word 8 args cmd.args same 0 4 refl in
      let s = word 8 args cmd.args same 4 0 refl in
      λ u. done (first_failing (check 9 (not busy) ∷ sized 8 ∷ lengths (s u) cmd.transfer
      ∷ check 5 (a u % 256 == 0) ∷ inside (a u) (s u)
      ∷ check 10 (range_allowed t BootWrite (a u - flash_base) (s u)) ∷ []))
      (programs ((a u - flash_base) / 256) payload) [] None

  at-reboot : take 16 args ≡ take 16 cmd.args → Same REBOOT
  at-reboot same =
      let f = word 16 args cmd.args same 0 12 refl in
      let p = word 16 args cmd.args same 8 4 refl in
      λ u. done (first_failing (sized 16 ∷ lengths 0 0 ∷ check 11 (are_reboot_flags (f u)) ∷ []))
      [] [] (Some (boot_by (f u) (p u)))

  at-otp_read : take 5 args ≡ take 5 cmd.args → Same OTP_READ
  at-otp_read same =
      let r = half 5 args cmd.args same 0 3 refl in
      let k = half 5 args cmd.args same 2 1 refl in
      let e = byte 5 args cmd.args same 4 0 refl in
      λ u. done (first_failing (sized 5 ∷ lengths (4 * k u) 0 ∷ check 4 (nat_le (r u + k u) 4096)
      ∷ check 11 (e u == 0) ∷ []))
      [] (bytes_of (slice_range c.otp (r u) (r u + k u))) None

  at-otp_write : take 5 args ≡ take 5 cmd.args → Same OTP_WRITE
  at-otp_write same =
      let r = half 5 args cmd.args same 0 3 refl in
      let k = half 5 args cmd.args same 2 1 refl in
      let e = byte 5 args cmd.args same 4 0 refl in
      λ u. done (first_failing (check 9 (not busy) ∷ sized 5 ∷ lengths (4 * k u) cmd.transfer
      ∷ check 4 (nat_le (r u + k u) 4096) ∷ check 11 (e u == 0 && are_row_words (words_of payload))
      ∷ check 17 (keeps_raised c.otp (r u) (words_of payload)) ∷ []))
      (word_raises (r u) (words_of payload)) [] None

  -- the argument size is that of the id
  module _ (size_is : cmd.arg_size ≡ arg_size_of cmd.id) (same : take cmd.arg_size args ≡ take cmd.arg_size cmd.args)
    where
      taken : (id n : ℕ) → cmd.id ≡ id → arg_size_of id ≡ n → take n args ≡ take n cmd.args
      taken id n is e = subst (λ k. take k args ≡ take k cmd.args) (size_is ∙ ap arg_size_of is ∙ e) same

      abbrev Goal : Type 0
      Goal = served_on c t busy (with_args cmd args) payload ≡ served_on c t busy cmd payload

      here : (id : ℕ) → cmd.id ≡ id → Same id → Goal
      here id is proved = subst Same (sym is) proved

      by-id : Goal
      by-id = elim (cases_eq cmd.id EXCLUSIVE) [
        | inl is ↦ here EXCLUSIVE is (at-exclusive (taken EXCLUSIVE 1 is refl))
        | inr a ↦ elim (cases_eq cmd.id ERASE) [
          | inl is ↦ here ERASE is (at-erase (taken ERASE 8 is refl))
          | inr b ↦ elim (cases_eq cmd.id READ) [
            | inl is ↦ here READ is (at-read (taken READ 8 is refl))
            | inr d ↦ elim (cases_eq cmd.id WRITE) [
              | inl is ↦ here WRITE is (at-write (taken WRITE 8 is refl))
              | inr e ↦ elim (cases_eq cmd.id EXIT_XIP) [
                | inl is ↦ here EXIT_XIP is refl
                | inr f ↦ elim (cases_eq cmd.id ENTER_XIP) [
                  | inl is ↦ here ENTER_XIP is refl
                  | inr g ↦ elim (cases_eq cmd.id REBOOT) [
                    | inl is ↦ here REBOOT is (at-reboot (taken REBOOT 16 is refl))
                    | inr h ↦ elim (cases_eq cmd.id OTP_READ) [
                      | inl is ↦ here OTP_READ is (at-otp_read (taken OTP_READ 5 is refl))
                      | inr i ↦ elim (cases_eq cmd.id OTP_WRITE) [
                        | inl is ↦ here OTP_WRITE is (at-otp_write (taken OTP_WRITE 5 is refl))
                        | inr j ↦ early c (with_args cmd args) cmd payload (is_served_while_busy busy cmd)
                            (is_known cmd)
                            (has_arg_size cmd) (others (with_args cmd args)) (others cmd)
                            (inl (unknown cmd.id a b d e f g h i j))
                      ]
                    ]
                  ]
                ]
              ]
            ]
          ]
        ]
      ]

  pub read-alone : take cmd.arg_size args ≡ take cmd.arg_size cmd.args
      → served_on c t busy (with_args cmd args) payload ≡ served_on c t busy cmd payload
  read-alone same = go (has_arg_size cmd) refl
    where
      go : (right : Bool) → has_arg_size cmd ≡ right
          → served_on c t busy (with_args cmd args) payload ≡ served_on c t busy cmd payload
      go true is = by-id (eqb-true cmd.arg_size (arg_size_of cmd.id) is) same
      go false is =
          early c (with_args cmd args) cmd payload (is_served_while_busy busy cmd) (is_known cmd) (has_arg_size cmd)
          (others (with_args cmd args)) (others cmd) (inr is)
