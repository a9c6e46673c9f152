use Rattle.std.proofs.Common.{◌<◌, ◌≤◌, ◌≡◌, length}
use Rattle.test_replay.proofs.replay_all.Given as goal

abbrev pub invariant-loop-place : goal.invariant-loop-place
invariant-loop-place l =
    (l.differ ≤ l.replayed)
    × (l.replayed < l.place)
    × (l.place ≤ 1000001)
    × (length l.out ≡ length l.initial.out)
    × (length l.first ≡ length l.initial.first)
    × (length l.second ≡ length l.initial.second)
