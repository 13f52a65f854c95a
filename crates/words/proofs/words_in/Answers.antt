-- `words_in`: as many words as there are behind the first two numbers, at most eight, laid over zeros.
use Rattle.std.proofs.Common.{◌-◌, ◌≤◌, length, drop, take_all, length-drop, arith}
use Rattle.words.specs.MessageLaws.{words_laid}
use Rattle.words.proofs.words_in.Goals as goal

pub returns : goal.returns
returns c =
    let l = c.args.numbers.now in
    let rest : length (drop 2 l) ≤ length l - 2 = omega (arith, length-drop 2 l) in
    rw (take_all (length l - 2) (drop 2 l) rest) at (words_laid _ _ _ c.min-n.ensures c.copy_from_slice.ensures.after)
