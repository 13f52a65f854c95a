-- `arrive`: what is left to do of the piece, from where it stands now, comes to what the whole piece comes to, and what the test said of the first
-- record holds of each.
use mathlib.Core.Path.{◌≡◌}
use mathlib.Core.Bool.{false}
use Prim.Native.Nat.{◌-◌, ◌≤◌}
use lib.ListN.{length}
use Rattle.record.specs.Whole.{whole}
use Rattle.kernel.specs.Planning.{Known}
use Rattle.script.specs.Session.{script_of, stand_for, through}
use Rattle.script.proofs.session.arrive.Given as goal

abbrev pub invariant-loop-moved : goal.invariant-loop-moved
invariant-loop-moved l =
    (l.moved.written ≤ length l.log) × (length l.log ≡ length l.initial.log) × (length l.carry ≡ length l.initial.carry) × (length l.words ≡ length l.initial.words) × (length l.block ≡ length l.initial.block)
    × (l.moved.full ≡ false) × Known l.sound (whole l.moved.session.state l.words l.block)
    × (through (length l.bytes) l.bytes (record { session = script_of l.moved.session l.words l.block; carry = l.carry; memory = l.log; next = l.moved.next; written = l.moved.written })
    ≡ through (length l.bytes) l.bytes (stand_for (script_of l.initial.moved.session l.initial.words l.initial.block) l.initial.carry l.initial.log))

abbrev pub decreases-loop-moved : goal.decreases-loop-moved
decreases-loop-moved l = length l.bytes - l.moved.next
