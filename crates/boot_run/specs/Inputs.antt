-- The inputs of a command: the arguments of its row that name an input file, in their order.
use Rattle.std.specs.Prelude.{List, [], ◌∷◌, Option, Some, None}
use Rattle.cli_inputs.specs.declared.forms.Form.TheVariants as forms
use Rattle.cli_inputs.specs.Inputs.{FormInputView}
use Rattle.cli_words.specs.Rows.{CommandLineView, row_of}
use Rattle.cli_words.specs.Values.{ValuesView}
use Rattle.cli_words.specs.declared.arguments.Word.{Word}
use Rattle.cli_words.specs.declared.arguments.Word.TheVariants as kinds

-- the input that an argument names, with the form of its file
abbrev pub word_input : Word → ValuesView → Option FormInputView
word_input kinds.Flash v = Some (record { name = v.flash; form = forms.Flash })
word_input kinds.Otp v = Some (record { name = v.otp; form = forms.Otp })
word_input kinds.Script v = Some (record { name = v.file; form = forms.Script })
word_input kinds.Pattern v = Some (record { name = v.pattern; form = forms.Pattern })
word_input kinds.Require v = Some (record { name = v.require; form = forms.Require })
word_input kinds.Binary v = Some (record { name = v.file; form = forms.Binary })
word_input kinds.Elf v = Some (record { name = v.file; form = forms.Elf })
word_input kinds.Spec v = Some (record { name = v.spec; form = forms.Spec })
word_input kinds.Json v = Some (record { name = v.file; form = forms.Json })
word_input kinds.OtpJson v = Some (record { name = v.file; form = forms.OtpText })
word_input kinds.Image v = Some (record { name = v.file; form = forms.Image })
word_input kinds.SourceImage v = Some (record { name = v.image; form = forms.SourceImage })
word_input kinds.Uf2 v = Some (record { name = v.file; form = forms.Uf2 })
word_input kinds.Text v = Some (record { name = v.file; form = forms.Text })
word_input _ v = None

-- one input more, where an argument names one
abbrev pub with_input : Option FormInputView → List FormInputView → List FormInputView
with_input None inputs = inputs
with_input (Some input) inputs = input ∷ inputs

-- the inputs of a row of these arguments, in their order
abbrev pub row_inputs : List Word → ValuesView → List FormInputView
row_inputs [] v = []
row_inputs (word ∷ words) v = with_input (word_input word v) (row_inputs words v)

-- the inputs of a command are those of its row
abbrev pub inputs_of : CommandLineView → List FormInputView
inputs_of command = row_inputs (row_of command.verb).words command.values
