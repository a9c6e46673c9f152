-- The numbers that go with n variables from v on in all blocks of an object: m blocks before the last hold `rest` of them, `each` a block; the kinds of those from `first` on
-- are in so many bytes.
use Rattle.std.specs.Prelude.{ℕ, ◌+◌, ◌*◌, ◌-◌, ◌≤◌, ◌<◌, ◌≡◌}
use Rattle.layout.specs.declared.config.Shape.{Shape}
use Rattle.layout.specs.Config.{Supported, positions}
use Rattle.memory.specs.Objects.{chunks}

pub record AllBlocks (g : Shape) (first v n bytes each m rest : ℕ) : Type 0 where
  pub from_first : first ≤ v
  pub known : 8 * (v + n - first) ≤ bytes
  pub placed : 2 * (v + n) < positions g
  pub linked_by_last : each + 1 ≡ g.fields
  pub before_last : rest ≡ n - g.fields
  pub blocks : m ≡ chunks (g.fields - 1) rest
  pub supported : Supported g
