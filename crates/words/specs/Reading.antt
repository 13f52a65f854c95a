-- What reading answers: the request of the step that was read and the message beside it, or that there is none.
use Rattle.std.specs.Prelude.{List, [], ℕ, length, take, drop, Some, None, Option as RustOption}
use Rattle.std.proofs.Math.Option.{Option, none, some}
use Rattle.lists.specs.Table.{pad}
use Rattle.rules.specs.Step.{Step}
use Rattle.rules.specs.Sizes.{held_words}
use Rattle.record.specs.StepRecord.{step_for}
use Rattle.record.specs.DemandRecord.{request_for, message_for}
use Rattle.words.specs.Form.{words, made_by}
use Rattle.words.specs.declared.Message.{Message}  -- keep
use Rattle.record.specs.declared.Request.{Request}  -- keep

unfoldable pub reading_for : Option Step → RustOption Request
reading_for none = None
reading_for (some x) = Some (request_for x)

-- the same of a name and its numbers
unfoldable pub reading : List ℕ → List ℕ → RustOption Request
reading n l = reading_for (made_by words n l)

-- numbers that are few: at most one
abbrev pub few_numbers : ℕ
few_numbers = 1

-- the message of the step that was read: no words where there is no step
unfoldable pub message_on : Option Step → List ℕ
message_on none = []
message_on (some x) = message_for x

-- the words behind the two numbers of a send: "`send q t` and w words", at most eight
abbrev pub words_in : List ℕ → List ℕ
words_in l = take held_words (drop 2 l)

-- which of the numbers are the message of what was read: a request other than a send has none
unfoldable pub message_in : RustOption Request → List ℕ → List ℕ
message_in None l = []
message_in (Some x) l = message_for (step_for x (words_in l))

-- a message of at most eight words as it is handed on: filled up with zeros, and how many words it has
abbrev pub message_with : List ℕ → Message
message_with m = record { words = pad held_words 0 m; n = length m }
