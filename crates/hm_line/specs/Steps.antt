-- The form read token by token, as the code does it.
use Rattle.std.specs.Prelude.{Bool, true, false, Option, Some, None, option_map, if◌then◌else◌}
use Rattle.hm_tokens.specs.declared.marks.Mark.TheVariants.{Colon, Comma, Hash, OpenBracket, CloseBracket, OpenBrace, CloseBrace, Bang, Minus, Plus}
use Rattle.hm_line.specs.declared.form.Form.{Form}
use Rattle.hm_line.specs.declared.form.Form.TheVariants as forms
use Rattle.hm_line.specs.declared.form.Depth.{Depth}
use Rattle.hm_line.specs.declared.form.Depth.TheVariants.{Outside, Inside}
use Rattle.hm_line.specs.declared.form.Operands.{Operands}
use Rattle.hm_line.specs.declared.form.Operands.TheVariants as ops
use Rattle.hm_line.specs.declared.form.State.{State}
use Rattle.hm_line.specs.declared.form.State.TheVariants as states
use Rattle.hm_line.specs.Kinds.{Kind, word, number, mark}

-- OPERANDS
-- what an operand's first token leads to
abbrev pub first_operand : Depth → Kind → Option Operands
first_operand d word = Some (ops.Word d)
first_operand d number = Some (ops.Done d)
first_operand d (mark Hash) = Some (ops.Hash d)
first_operand d (mark Minus) = Some (ops.Number d)
first_operand Outside (mark OpenBracket) = Some (ops.Operand Inside)
first_operand Outside (mark OpenBrace) = Some ops.List
first_operand d k = None

-- what a token behind a whole operand leads to
abbrev pub behind_operand : Depth → Kind → Option Operands
behind_operand d (mark Comma) = Some (ops.Operand d)
behind_operand Inside (mark CloseBracket) = Some ops.Address
behind_operand d k = None

-- what a token behind an operand's first word leads to
abbrev pub behind_word : Depth → Kind → Option Operands
behind_word d (mark Bang) = Some (ops.Done d)
behind_word d (mark Hash) = Some (ops.Number d)
behind_word d (mark Plus) = Some (ops.Number d)
behind_word d (mark OpenBracket) = Some (ops.LaneNumber d)
behind_word d k = behind_operand d k

-- what a token behind the `#` of an immediate leads to
abbrev pub behind_hash : Depth → Kind → Option Operands
behind_hash d number = Some (ops.Done d)
behind_hash d (mark Minus) = Some (ops.Number d)
behind_hash d k = None

-- what a token behind the number of a lane leads to
abbrev pub behind_lane : Depth → Kind → Option Operands
behind_lane d (mark CloseBracket) = Some (ops.Done d)
behind_lane d k = None

-- what a token behind the `]` of an address leads to
abbrev pub behind_address : Kind → Option Operands
behind_address (mark Bang) = Some (ops.Done Outside)
behind_address k = behind_operand Outside k

-- what a token behind a whole item of a list leads to
abbrev pub behind_item : Kind → Option Operands
behind_item (mark Comma) = Some ops.List
behind_item (mark CloseBrace) = Some (ops.Done Outside)
behind_item k = None

-- what a token behind the first word of an item of a list leads to
abbrev pub behind_item_word : Kind → Option Operands
behind_item_word (mark Minus) = Some ops.ListTo
behind_item_word k = behind_item k

-- whether a token is a word
abbrev pub is_word : Kind → Bool
is_word word = true
is_word number = false
is_word (mark m) = false

-- whether a token is a number
abbrev pub is_number : Kind → Bool
is_number word = false
is_number number = true
is_number (mark m) = false

-- what a token of the operands leads to, by what was read last of them; None where it may not stand there
abbrev pub operand_step : Operands → Kind → Option Operands
operand_step (ops.Operand d) k = first_operand d k
operand_step (ops.Word d) k = behind_word d k
operand_step (ops.Hash d) k = behind_hash d k
operand_step (ops.Number d) k = if is_number k then Some (ops.Done d) else None
operand_step (ops.LaneNumber d) k = if is_number k then Some (ops.LaneEnd d) else None
operand_step (ops.LaneEnd d) k = behind_lane d k
operand_step (ops.Done d) k = behind_operand d k
operand_step ops.Address k = behind_address k
operand_step ops.List k = if is_word k then Some ops.ListWord else None
operand_step ops.ListWord k = behind_item_word k
operand_step ops.ListTo k = if is_word k then Some ops.ListDone else None
operand_step ops.ListDone k = behind_item k

-- whether the operands may end behind what was read last of them
abbrev pub is_operand_end : Operands → Bool
is_operand_end (ops.Word Outside) = true
is_operand_end (ops.Done Outside) = true
is_operand_end ops.Address = true
is_operand_end s = false

-- LINES, by tokens and whether a space stands before them
-- what a token behind the first word of an instruction or directive leads to, which a space is to stand before
abbrev pub behind_first_word : Bool → Kind → Option State
behind_first_word true k = option_map states.Operands (first_operand Outside k)
behind_first_word false k = None

-- what a token behind the first word of a line leads to: in a line of a source, a `:` makes that word a label
abbrev pub behind_label_or_word : Form → Bool → Kind → Option State
behind_label_or_word forms.Line apart (mark Colon) = Some states.Label
behind_label_or_word form apart k = behind_first_word apart k

-- what a token of a line leads to, by what was read last of it; None where it may not stand there
abbrev pub line_step : Form → State → Bool → Kind → Option State
line_step form states.Start apart k = if is_word k then Some states.LabelOrWord else None
line_step form states.LabelOrWord apart k = behind_label_or_word form apart k
line_step form states.Label apart k = if is_word k then Some states.FirstWord else None
line_step form states.FirstWord apart k = behind_first_word apart k
line_step form (states.Operands last) apart k = option_map states.Operands (operand_step last k)

-- a line without tokens is fine, and a text without is not
abbrev pub may_be_empty : Form → Bool
may_be_empty forms.Instruction = false
may_be_empty forms.Line = true

-- whether a text of the form may end behind what was read last of it
abbrev pub is_line_end : Form → State → Bool
is_line_end form states.Start = may_be_empty form
is_line_end form states.LabelOrWord = true
is_line_end form states.Label = true
is_line_end form states.FirstWord = true
is_line_end form (states.Operands last) = is_operand_end last
