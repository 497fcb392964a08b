use Rattle.std.proofs.Common.{◌≡◌, ℕ, List, ◌++◌, codes, decimal, ◌∙◌, append_assoc}
use Rattle.text_lines.specs.Texts.{version_text}
use Rattle.text_lines.proofs.windows.put_found.Goals as goal
use Rattle.std.specs.Prelude.{length}

six : (o a b d v t n : List ℕ)
    → (((((o ++ a) ++ b) ++ d) ++ v) ++ t) ++ n ≡ o ++ (a ++ (b ++ (d ++ (v ++ (t ++ n)))))
six o a b d v t n =
    append_assoc ((((o ++ a) ++ b) ++ d) ++ v) t n ∙ append_assoc (((o ++ a) ++ b) ++ d) v (t ++ n)
    ∙ append_assoc ((o ++ a) ++ b) d (v ++ (t ++ n)) ∙ append_assoc (o ++ a) b (d ++ (v ++ (t ++ n)))
    ∙ append_assoc o a (b ++ (d ++ (v ++ (t ++ n))))

pub returns-clause-bytes : goal.returns-clause-bytes
returns-clause-bytes c =
    let found = c.args.found.now in
    rw (
      c.put_number-2.ensures.bytes,
      c.put_text-3.ensures.bytes,
      c.put_version.ensures.bytes,
      c.put_text-2.ensures.bytes,
      c.put_number.ensures.bytes,
      c.put_text.ensures.bytes,
      c.part_count.ensures,
    )
    (six c.args.line.now.bytes (codes "table slot=") (decimal found.slot) (codes " ") (version_text found.table.version)
    (codes " partitions=") (decimal (length found.table.parts.items)))
