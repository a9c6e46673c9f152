-- The claim speaks of something: a list of orders that meets its premises, and what it then says.
-- put 7; store 1 with tag 5; copy 0; load (shared); drop; an order of no bytes, refused; load (released); print; put 120; store 2 with tag 9.
use Rattle.std.specs.Prelude.{Bool, true, ◌&&◌, false, List, [], ◌∷◌, ◌++◌, ◌≡◌, refl, ℕ, ◌*◌, ◌<◌, ltb, ◌≢◌}
use Rattle.std.proofs.Common.{ltb-true}
use Rattle.records.specs.declared.binding.Kind.TheVariants.{Ext}
use Rattle.records.specs.declared.order.Order.TheVariants.{Put, Copy, Drop, Store, Load, Print}
use Rattle.records.specs.Bytes.{le}
use Rattle.records.specs.Contexts.{binding_bytes}
use Rattle.records.specs.Orders.{order_bytes, record_of}
use Rattle.records.specs.ReadBack.{Bytes}
use Rattle.heap.specs.Values.{integer, object, Values, nil, cons}
use Rattle.heap.specs.Blocks.{Cell, cell}
use Rattle.order_spec.specs.Answered.{Asked}
use Rattle.order_spec.specs.Writes.{made}
use Rattle.soundness.specs.Claims.{Item, values, acquired, state_after, After}
use Rattle.layout.specs.Config.{base}

-- a list of bytes, by a test of each
unfoldable pub below : List ℕ → Bool
below [] = true
below (b ∷ s) = ltb b 256 && below s

pub bytes : (s : List ℕ) → below s ≡ true → Bytes s
unfolding below
bytes [] e = tt
bytes (b ∷ s) e = both (ltb b 256) (below s) (ltb-true b 256) (bytes s) e
  where
    both : (x y : Bool) → (x ≡ true → b < 256) → (y ≡ true → Bytes s) → x && y ≡ true → (b < 256) × Bytes s
    both true true first rest e = (first refl, rest refl)
    both true false first rest e = (first refl, rest e)
    both false true first rest e = (first e, rest refl)
    both false false first rest e = (first e, rest e)

abbrev pub ask : List ℕ → List ℕ → Asked
ask order bindings = record { order = order; bindings = bindings; counter = 0; records_room = 24 * 65536; context_room = 8 * 4096 }

abbrev pub item : (order bindings : List ℕ) → below order ≡ true → below bindings ≡ true → Item
item order bindings p q = record { asked = ask order bindings; bytes_of_order = bytes order p; bindings_bytes = bytes bindings q; words = λ i. 7 * i }

unfoldable pub put_seven : Item
unfolding below order_bytes binding_bytes le
put_seven = item (record_of (Put 7)) ([]) refl refl

unfoldable pub store_one : Item
unfolding below order_bytes binding_bytes le
store_one = item (record_of (Store 1 5)) ([]) refl refl

unfoldable pub copy_it : Item
unfolding below order_bytes binding_bytes le
copy_it = item (record_of (Copy 0 1)) ([]) refl refl

unfoldable pub load_shared : Item
unfolding below order_bytes binding_bytes le
load_shared = item (record_of (Load 1)) (made Ext 0) refl refl

unfoldable pub drop_it : Item
unfolding below order_bytes binding_bytes le
drop_it = item (record_of (Drop)) ([]) refl refl

unfoldable pub load_released : Item
unfolding below order_bytes binding_bytes le
load_released = item (record_of (Load 1)) (made Ext 0) refl refl

unfoldable pub print_it : Item
unfolding below order_bytes binding_bytes le
print_it = item (record_of (Print true 0)) ([]) refl refl

unfoldable pub put_more : Item
unfolding below order_bytes binding_bytes le
put_more = item (record_of (Put 120)) ([]) refl refl

unfoldable pub store_two : Item
unfolding below order_bytes binding_bytes le
store_two = item (record_of (Store 2 9)) ([]) refl refl

-- refused: it has no bytes
unfoldable pub nothing : Item
unfolding below
nothing = item [] [] refl refl

-- newest first
abbrev pub worked_list : List Item
worked_list = store_two ∷ put_more ∷ print_it ∷ load_released ∷ nothing ∷ drop_it ∷ load_shared ∷ copy_it ∷ store_one ∷ put_seven ∷ []

abbrev pub worked_values : Values
worked_values = cons (object 9 (cons (integer 7) (cons (integer 120) nil))) nil

-- on four blocks: two are acquired
pub record WorkedListIsSound : Type 0 where
  pub acquires_two : acquired base 4 worked_list ≡ 2
  pub plain_values : values base 4 worked_list ≡ worked_values
  pub after : After base 4 worked_list
  -- what it says of the variables: one, linked, with tag 9, whose block holds 7 and 120 in its last two fields
  pub shown : (c : Cell) × ((state_after base 4 worked_list).variables ≡ c ∷ []) × (c.snd ≡ 9) × (c.fst ≢ 0)
      × (unused : List Cell) × ((state_after base 4 worked_list).memory.fields c.fst ≡ unused ++ (cell 0 7 ∷ cell 0 120 ∷ []))
