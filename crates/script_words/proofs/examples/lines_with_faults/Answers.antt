use Rattle.std.proofs.Common.{refl}
use Rattle.std.specs.Fmt.{padded_integral, digits, char_count}
use Rattle.hex.specs.Hex.{decode_pairs, encode_with}
use Rattle.block_codec.specs.Words.{word_bytes, word_of}
use Rattle.script_words.proofs.examples.lines_with_faults.Goals as goal

pub returns-clause-word : goal.returns-clause-word
unfolding encode_with decode_pairs padded_integral digits char_count word_bytes word_of
returns-clause-word c = refl

pub returns-clause-words : goal.returns-clause-words
unfolding encode_with decode_pairs padded_integral digits char_count word_bytes word_of
returns-clause-words c = refl

pub returns-clause-value : goal.returns-clause-value
unfolding encode_with decode_pairs padded_integral digits char_count word_bytes word_of
returns-clause-value c = refl

pub returns-clause-word_before_words : goal.returns-clause-word_before_words
unfolding encode_with decode_pairs padded_integral digits char_count word_bytes word_of
returns-clause-word_before_words c = refl

pub returns-clause-words_before_value : goal.returns-clause-words_before_value
unfolding encode_with decode_pairs padded_integral digits char_count word_bytes word_of
returns-clause-words_before_value c = refl

pub returns-clause-first_value : goal.returns-clause-first_value
unfolding encode_with decode_pairs padded_integral digits char_count word_bytes word_of
returns-clause-first_value c = refl

pub returns-clause-value_before_token : goal.returns-clause-value_before_token
unfolding encode_with decode_pairs padded_integral digits char_count word_bytes word_of
returns-clause-value_before_token c = refl

pub returns-clause-token : goal.returns-clause-token
unfolding encode_with decode_pairs padded_integral digits char_count word_bytes word_of
returns-clause-token c = refl

pub returns-clause-empty_token : goal.returns-clause-empty_token
unfolding encode_with decode_pairs padded_integral digits char_count word_bytes word_of
returns-clause-empty_token c = refl

pub returns-clause-two_tokens : goal.returns-clause-two_tokens
unfolding encode_with decode_pairs padded_integral digits char_count word_bytes word_of
returns-clause-two_tokens c = refl

pub returns-clause-token_in_place : goal.returns-clause-token_in_place
unfolding encode_with decode_pairs padded_integral digits char_count word_bytes word_of
returns-clause-token_in_place c = refl

pub returns-clause-token_of_reset : goal.returns-clause-token_of_reset
unfolding encode_with decode_pairs padded_integral digits char_count word_bytes word_of
returns-clause-token_of_reset c = refl

pub returns-clause-kind : goal.returns-clause-kind
unfolding encode_with decode_pairs padded_integral digits char_count word_bytes word_of
returns-clause-kind c = refl

pub returns-clause-rest : goal.returns-clause-rest
unfolding encode_with decode_pairs padded_integral digits char_count word_bytes word_of
returns-clause-rest c = refl

pub returns-clause-image : goal.returns-clause-image
unfolding encode_with decode_pairs padded_integral digits char_count word_bytes word_of
returns-clause-image c = refl
