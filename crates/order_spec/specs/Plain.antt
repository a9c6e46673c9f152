-- The plain machine that never frees, fed the orders that were accepted. From the scope, 'Plain machine of demand 3'.
use Rattle.std.specs.Prelude.{ℕ, ◌-◌, ◌≡◌, true, List}
use Rattle.records.specs.declared.order.Order.{Order}
use Rattle.records.specs.declared.order.Order.TheVariants.{Put, Compute, Copy, Drop, Store, Load, Print}
use Rattle.records.specs.Contexts.{ext_at}
use Rattle.word.specs.Results.{result, result_defined}
use Rattle.heap.specs.Orders.{list_of}
use Rattle.heap.specs.Values.{Value, integer, object, Values, nil, cons, count_of, appended, first_of, rest_of, value_at, copies, KindsFrom}

-- a value's integer
abbrev pub integer_of : Value → ℕ
integer_of (integer w) = w
integer_of (object tag vs) = 0

unfoldable pub plainly : Order → Values → Values
plainly (Put value) vs = appended vs (cons (integer value) nil)
plainly (Compute operation a b) vs = appended vs (cons (integer (result operation (integer_of (value_at a vs)) (integer_of (value_at b vs)))) nil)
plainly (Copy a n) vs = appended vs (copies n (value_at a vs))
plainly Drop vs = first_of (count_of vs - 1) vs
plainly (Store n tag) vs = appended (first_of (count_of vs - n) vs) (cons (object tag (rest_of (count_of vs - n) vs)) nil)
plainly (Load n) vs = appended (first_of (count_of vs - 1) vs) (list_of (value_at (count_of vs - 1) vs))
plainly (Print newline a) vs = vs

-- n bindings name the kinds that an object was stored with
abbrev pub AsStored : List ℕ → ℕ → Value → Type 0
AsStored bindings n (integer w) = ⊥
AsStored bindings n (object tag ws) = (count_of ws ≡ n) × KindsFrom (ext_at bindings) 0 ws

-- what the user owes an order of its kinds: a load names those that its object was stored with
abbrev pub OwedKinds : List ℕ → Order → Values → Type 0
OwedKinds bindings (Put value) vs = Unit {0}
OwedKinds bindings (Compute operation a b) vs = Unit {0}
OwedKinds bindings (Copy a n) vs = Unit {0}
OwedKinds bindings Drop vs = Unit {0}
OwedKinds bindings (Store n tag) vs = Unit {0}
OwedKinds bindings (Load n) vs = AsStored bindings n (value_at (count_of vs - 1) vs)
OwedKinds bindings (Print newline a) vs = Unit {0}

-- and of its result: no division fault
abbrev pub OwedResult : Order → Values → Type 0
OwedResult (Put value) vs = Unit {0}
OwedResult (Compute operation a b) vs = result_defined operation (integer_of (value_at a vs)) (integer_of (value_at b vs)) ≡ true
OwedResult (Copy a n) vs = Unit {0}
OwedResult Drop vs = Unit {0}
OwedResult (Store n tag) vs = Unit {0}
OwedResult (Load n) vs = Unit {0}
OwedResult (Print newline a) vs = Unit {0}
