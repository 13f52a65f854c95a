-- `sound_words::words_tidy` meets its contract. Assumes nothing.
use borrow.Author.Tests.{eq-eqb, ne_eqb}
use Rattle.lists.specs.Test.{◌and◌}
use Rattle.record.specs.SoundRecord.{words_tidyb}
use Rattle.sound_words.proofs.words_tidy.Goals as goal

pub returns-then-words-eq-WORDS : goal.returns-then-words-eq-WORDS
unfolding words_tidyb ◌and◌
returns-then-words-eq-WORDS c = rw (eq-eqb _ _ c.if-words-eq-WORDS.true) c.zero_from.ensures

pub returns-else-words-eq-WORDS : goal.returns-else-words-eq-WORDS
unfolding words_tidyb ◌and◌
returns-else-words-eq-WORDS c = rw (ne_eqb _ _ c.if-words-eq-WORDS.false)
