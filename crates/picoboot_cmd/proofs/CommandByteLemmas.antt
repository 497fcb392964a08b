-- What is written for a command is read as it again.
use Rattle.std.proofs.Common.{◌≡◌, ℕ, zero, suc, ◌+◌, ◌^◌, ◌<◌, Bool, true, false, cond, List, [], ◌∷◌, ◌++◌, Ok, Err, All, length, drop, get_or, sym, subst, ◌∙◌, arith, inl, inr, length-drop}
use Rattle.std.proofs.lemmas.Bool.{cases_lt}
use Rattle.std.proofs.lemmas.List.{get_or_past, get_or-drop}
use Rattle.std.specs.Prelude.{Result}
use Rattle.byteorder.specs.Endian.{little_bytes}
use Rattle.byteorder.specs.Numbers.{little_from-lt, little_number-reads_back}
use Rattle.picoboot_cmd.specs.declared.cmd.Cmd.{Cmd}
use Rattle.picoboot_cmd.specs.declared.cmd.CmdFault.{CmdFault}
use Rattle.picoboot_cmd.specs.declared.cmd.CmdFault.TheVariants.{Magic}
use Rattle.picoboot_cmd.specs.declared.kinds.TheConstants.{MAGIC}
use Rattle.picoboot_cmd.specs.Commands.{IsCommand, command_in, command_fields, written_command}

same_fields : (t u i a n m : ℕ) (args : List ℕ) → t ≡ u → n ≡ m
    → ◌≡◌ {A = Result Cmd CmdFault} (Ok (record { token = t; id = i; arg_size = a; transfer = n; args = args }))
    (Ok (record { token = u; id = i; arg_size = a; transfer = m; args = args }))
same_fields t u i a n m args e f = cc

pub read-back : (cmd : Cmd) → cmd.token < 2 ^ 32 → cmd.transfer < 2 ^ 32 → command_in (written_command cmd) ≡ Ok cmd
read-back cmd token transfer =
    same_fields _ _ cmd.id cmd.arg_size _ _ cmd.args
    (little_number-reads_back 4 cmd.token [] token) (little_number-reads_back 4 cmd.transfer [] transfer)

-- what is written has 32 bytes
pub written-long : (cmd : Cmd) → length cmd.args ≡ 16 → length (written_command cmd) ≡ 32
written-long cmd long = omega (arith, long)

-- the four bytes of a word, and bytes behind them
word_small : (w : ℕ) (rest : List ℕ) → All (λ b. b < 256) rest → All (λ b. b < 256) (little_bytes 4 w ++ rest)
word_small w rest all zero d lt = omega arith
word_small w rest all (suc zero) d lt = omega arith
word_small w rest all (suc (suc zero)) d lt = omega arith
word_small w rest all (suc (suc (suc zero))) d lt = omega arith
word_small w rest all (suc (suc (suc (suc i)))) d lt = all i d (omega (arith, lt))

-- four bytes, and bytes behind them
four_small : (a b : ℕ) (rest : List ℕ) → a < 256 → b < 256 → All (λ x. x < 256) rest
    → All (λ x. x < 256) (a ∷ b ∷ 0 ∷ 0 ∷ rest)
four_small a b rest a_low b_low all zero d lt = a_low
four_small a b rest a_low b_low all (suc zero) d lt = b_low
four_small a b rest a_low b_low all (suc (suc zero)) d lt = omega arith
four_small a b rest a_low b_low all (suc (suc (suc zero))) d lt = omega arith
four_small a b rest a_low b_low all (suc (suc (suc (suc i)))) d lt = all i d (omega (arith, lt))

-- what is written is bytes
pub written-bytes : (cmd : Cmd) → cmd.id < 256 → cmd.arg_size < 256 → All (λ b. b < 256) cmd.args
    → All (λ b. b < 256) (written_command cmd)
written-bytes cmd id size args =
    let last : List ℕ = little_bytes 4 cmd.transfer ++ cmd.args in
    word_small MAGIC (little_bytes 4 cmd.token ++ (cmd.id ∷ cmd.arg_size ∷ 0 ∷ 0 ∷ last))
    (word_small cmd.token (cmd.id ∷ cmd.arg_size ∷ 0 ∷ 0 ∷ last)
    (four_small cmd.id cmd.arg_size last id size (word_small cmd.transfer cmd.args args)))

-- the fields of a command that is read are in their ranges
small : (bytes : List ℕ) → All (λ b. b < 256) bytes → (i : ℕ) → get_or bytes i 0 < 256
small bytes all i = elim (cases_lt i (length bytes)) [
  | inl inside ↦ all i 0 inside
  | inr past ↦ subst (λ (b : ℕ). b < 256) (sym (get_or_past bytes i 0 past)) (omega arith)
]

small_behind : (bytes : List ℕ) (n : ℕ) → All (λ b. b < 256) bytes → (i : ℕ) → get_or (drop n bytes) i 0 < 256
small_behind bytes n all i = subst (λ (b : ℕ). b < 256) (sym (get_or-drop n bytes i 0)) (small bytes all (n + i))

fields-are : (bytes : List ℕ) → length bytes ≡ 32 → All (λ b. b < 256) bytes → IsCommand (command_fields bytes)
fields-are bytes long all = record {
  token = little_from-lt 0 4 (drop 4 bytes) (small_behind bytes 4 all);
  id = small bytes all 8;
  arg_size = small bytes all 9;
  transfer = little_from-lt 0 4 (drop 12 bytes) (small_behind bytes 12 all);
  args = length-drop 16 bytes ∙ omega arith;
  bytes = λ k d lt. subst (λ (b : ℕ). b < 256) (sym (get_or-drop 16 bytes k d))
      (all (16 + k) d (let rest = length-drop 16 bytes in omega (arith, rest)));
}

by_test : (b : Bool) (fields cmd : Cmd) → ◌≡◌ {A = Result Cmd CmdFault} (cond b (Ok fields) (Err Magic)) (Ok cmd)
    → fields ≡ cmd
by_test true fields cmd e = cc
by_test false fields cmd e = cc

pub read-is : (bytes : List ℕ) (cmd : Cmd) → length bytes ≡ 32 → All (λ b. b < 256) bytes → command_in bytes ≡ Ok cmd
    → IsCommand cmd
read-is bytes cmd long all read = subst IsCommand (by_test _ (command_fields bytes) cmd read)
    (fields-are bytes long all)
