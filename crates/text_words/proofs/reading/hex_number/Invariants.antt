use Rattle.std.proofs.Common.{◌≡◌, ◌<◌, ◌^◌, drop}
use Rattle.text_words.specs.Reading.{hex_value}
use Rattle.text_words.proofs.reading.hex_number.Given as goal

abbrev pub invariant-loop-code : goal.invariant-loop-code
invariant-loop-code l = record {
  same : hex_value 0 l.digits ≡ hex_value l.number (drop l.code-index l.digits);
  small : l.number < 16 ^ l.code-index;
}
