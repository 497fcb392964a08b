use Rattle.std.proofs.Common.{◌≡◌, ◌++◌, map, take}
use Rattle.block_codec.specs.Words.{words_of}
use Rattle.script_words.specs.Values.{Number, value_from}
use Rattle.script_words.proofs.naming.push_words.Given as goal

abbrev pub invariant-loop-place : goal.invariant-loop-place
invariant-loop-place l =
    map value_from l.values.items
    ≡ map value_from l.fn.values.items ++ map Number (take l.place (words_of l.payload))
