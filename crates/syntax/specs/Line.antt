-- What is read of a line: the request of the step that it is, and the message beside it.
use Rattle.std.proofs.Math.Option.{Option}
use Rattle.rules.specs.Step.{Step}
use Rattle.words.specs.Reading.{reading_for, message_on, message_with}
use Rattle.syntax.specs.declared.Line.{Line}  -- keep

-- a line that is no step is malformed and has no message
abbrev pub line_read : Option Step → Line
line_read o = record { reading = reading_for o; message = message_with (message_on o) }
