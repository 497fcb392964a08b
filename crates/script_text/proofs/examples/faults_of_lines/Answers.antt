use Rattle.std.proofs.Common.{refl}
use Rattle.std.specs.Fmt.{padded_integral, digits, char_count}
use Rattle.hex.specs.Hex.{decode_pairs, encode_with}
use Rattle.block_codec.specs.Words.{word_bytes, word_of}
use Rattle.script_text.specs.Comments.{command_text, uf2_counts, uf2_target, uf2_text}
use Rattle.script_text.proofs.examples.faults_of_lines.Goals as goal

pub returns-clause-passed : goal.returns-clause-passed
unfolding encode_with command_text uf2_text padded_integral digits char_count decode_pairs uf2_counts uf2_target word_bytes word_of
returns-clause-passed c = refl

pub returns-clause-end : goal.returns-clause-end
unfolding encode_with command_text uf2_text padded_integral digits char_count decode_pairs uf2_counts uf2_target word_bytes word_of
returns-clause-end c = refl

pub returns-clause-last_record : goal.returns-clause-last_record
unfolding encode_with command_text uf2_text padded_integral digits char_count decode_pairs uf2_counts uf2_target word_bytes word_of
returns-clause-last_record c = refl

pub returns-clause-too_many : goal.returns-clause-too_many
unfolding encode_with command_text uf2_text padded_integral digits char_count decode_pairs uf2_counts uf2_target word_bytes word_of
returns-clause-too_many c = refl

pub returns-clause-last_byte : goal.returns-clause-last_byte
unfolding encode_with command_text uf2_text padded_integral digits char_count decode_pairs uf2_counts uf2_target word_bytes word_of
returns-clause-last_byte c = refl

pub returns-clause-too_long : goal.returns-clause-too_long
unfolding encode_with command_text uf2_text padded_integral digits char_count decode_pairs uf2_counts uf2_target word_bytes word_of
returns-clause-too_long c = refl

pub returns-clause-behind_before_word : goal.returns-clause-behind_before_word
unfolding encode_with command_text uf2_text padded_integral digits char_count decode_pairs uf2_counts uf2_target word_bytes word_of
returns-clause-behind_before_word c = refl

pub returns-clause-word_before_words : goal.returns-clause-word_before_words
unfolding encode_with command_text uf2_text padded_integral digits char_count decode_pairs uf2_counts uf2_target word_bytes word_of
returns-clause-word_before_words c = refl

pub returns-clause-words_before_value : goal.returns-clause-words_before_value
unfolding encode_with command_text uf2_text padded_integral digits char_count decode_pairs uf2_counts uf2_target word_bytes word_of
returns-clause-words_before_value c = refl

pub returns-clause-value_before_image : goal.returns-clause-value_before_image
unfolding encode_with command_text uf2_text padded_integral digits char_count decode_pairs uf2_counts uf2_target word_bytes word_of
returns-clause-value_before_image c = refl

pub returns-clause-image_before_many : goal.returns-clause-image_before_many
unfolding encode_with command_text uf2_text padded_integral digits char_count decode_pairs uf2_counts uf2_target word_bytes word_of
returns-clause-image_before_many c = refl

pub returns-clause-many_before_long : goal.returns-clause-many_before_long
unfolding encode_with command_text uf2_text padded_integral digits char_count decode_pairs uf2_counts uf2_target word_bytes word_of
returns-clause-many_before_long c = refl
