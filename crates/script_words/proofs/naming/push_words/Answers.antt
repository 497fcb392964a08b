use Rattle.std.proofs.Common.{◌∙◌, ◌*◌, ◌++◌, ap, arith, map}
use Rattle.std.proofs.lemmas.List.{take_all, take_rest}
use Rattle.byteorder.specs.Endian.{little_number}
use Rattle.block_codec.specs.Words.{words_of}
use Rattle.block_codec.proofs.WordLemmas.{length-words_of}
use Rattle.script_words.specs.Values.{Number, value_from}
use Rattle.script_words.proofs.ListLemmas.{words-step}
use Rattle.script_words.proofs.naming.push_words.Goals as goal

pub loop-place-preserved : goal.loop-place-preserved
loop-place-preserved c =
    words-step c.loop-place.values.items (map value_from c.args.values.now.items) c.args.payload.now
    c.loop-place.place c.read_u32.result c.push.new.self.items (omega (arith, c.loop-place-test.true))
    (c.read_u32.ensures ∙ ap (little_number 4) (take_rest c.args.payload.now (4 * c.loop-place.place)))
    c.in_ok-push.ensures.items c.loop-place.invariant

pub returns : goal.returns
returns c =
    c.loop-place.invariant
    ∙ ap (λ ws. map value_from c.args.values.now.items ++ map Number ws)
    (take_all c.loop-place.place (words_of c.args.payload.now)
    (omega (arith, length-words_of c.args.payload.now, c.loop-place-test.false)))
