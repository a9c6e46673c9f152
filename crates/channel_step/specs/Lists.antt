-- A list of orders as bytes: each order's 24 bytes, and after a load the bytes of its n bindings. From the scope, 'Order record'.
use Rattle.records.specs.declared.order.Order.{Order}
use Rattle.records.specs.declared.check.Malformed.{Malformed}
use Rattle.std.specs.Prelude.{ℕ, ◌+◌, ◌*◌, ◌≤◌, ◌<◌, ◌≡◌, List, length, take, drop, Err, Ok, Result}
use Rattle.records.specs.Orders.{order_read, wanted}
use Rattle.channel_step.specs.declared.list.ItemEnds.{ItemEnds}

-- how many bytes of bindings follow an order; none follow one that does not read
abbrev pub bytes_after : Result Order Malformed → ℕ
bytes_after (Ok order) = 8 * wanted order
bytes_after (Err bad) = 0

-- the order at a byte of a list: 24 bytes, or what is left
abbrev pub order_at : List ℕ → ℕ → List ℕ
order_at list at = take 24 (drop at list)

-- the bytes of its bindings, or what is left of them
abbrev pub bindings_at : List ℕ → ℕ → List ℕ
bindings_at list at = take (bytes_after (order_read (order_at list at))) (drop (at + length (order_at list at)) list)

-- where the order ends, and where its bindings do
unfoldable pub item_at : List ℕ → ℕ → ItemEnds
item_at list at = record { order_end = at + length (order_at list at); end = at + length (order_at list at) + length (bindings_at list at) }

-- that item, and where it stands: each item of a list ends after it starts, and within the list
pub record FindsItem (list : List ℕ) (at : ℕ) (item : ItemEnds) : Type 0 where
  pub item_is : item ≡ item_at list at
  pub order_after : at ≤ item.order_end
  pub bindings_after : item.order_end ≤ item.end
  pub within : at ≤ length list → item.end ≤ length list
  pub goes_on : at < length list → at < item.end
