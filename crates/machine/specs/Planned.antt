-- The rules' answer as a plan, and what comes of a plan once its words are moved.
use Rattle.std.specs.Prelude.{List, ℕ}
use Rattle.record.specs.Record.{pack}
use Rattle.record.specs.StepRecord.{answer_for, After}
use Rattle.record.specs.Whole.{Whole, whole}
use Rattle.moves.specs.Moves.{words_after, block_after}
use Rattle.record.specs.declared.Plan.{Plan}  -- keep
use Rattle.moves.specs.declared.Move.{Move}  -- keep
use Rattle.rules.specs.Answer.{Answer as Ruled}  -- keep

-- the packed next state, with where the oldest messages stand, its answer, and what is to be moved
unfoldable pub plan_for : List ℕ → Move → Ruled → Plan
plan_for o m a = record { state = pack o a.state; answer = answer_for a.number a.value a.run; moves = m }

-- the record of the plan, and the words and the block after what is to be moved was moved: m is the message beside the request
unfoldable pub carried : Whole → List ℕ → Plan → After
carried h m p = record { whole = whole p.state (words_after p.moves h.words m h.block) (block_after p.moves h.words m h.block); answer = p.answer }
