-- How many bindings the context has after an order on k variables.
use Rattle.std.specs.Prelude.{ℕ, ◌+◌, ◌-◌}
use Rattle.records.specs.declared.order.Order.{Order}
use Rattle.records.specs.declared.order.Order.TheVariants.{Put, Compute, Copy, Drop, Store, Load, Print}

abbrev pub count_after : ℕ → Order → ℕ
count_after k (Put value) = k + 1
count_after k (Compute operation a b) = k + 1
count_after k (Copy a n) = k + n
count_after k Drop = k - 1
count_after k (Store n tag) = k - n + 1
count_after k (Load n) = k - 1 + n
count_after k (Print newline a) = k
