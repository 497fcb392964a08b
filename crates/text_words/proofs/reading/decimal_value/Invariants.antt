use Rattle.std.proofs.Common.{◌≡◌, ◌<◌, ◌^◌, drop}
use Rattle.text_words.specs.Reading.{decimal_value}
use Rattle.text_words.proofs.reading.decimal_value.Given as goal

abbrev pub invariant-loop-code : goal.invariant-loop-code
invariant-loop-code l = record {
  same : decimal_value 0 l.digits ≡ decimal_value l.number (drop l.code-index l.digits);
  small : l.number < 10 ^ l.code-index;
}
