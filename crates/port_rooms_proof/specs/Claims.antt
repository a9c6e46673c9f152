-- No order on as many variables as have positions, no listing and no routine is refused for want of room where the buffers have the sizes that
-- include/axcut.h recommends; and with a byte less an order and a listing are. In the answers that the contracts of `order`, `list_records` and
-- `into_x86_64_routine` cite.
use Rattle.std.specs.Prelude.{ℕ, ◌*◌, ◌-◌, ◌^◌, ◌≤◌, ◌<◌, ◌≡◌, ◌≢◌, Bool, true, List, [], length, replicate, Err}
use Rattle.records.specs.declared.binding.Kind.TheVariants.{Linked, Ext}
use Rattle.records.specs.declared.code.Code.{Code}
use Rattle.records.specs.declared.code.Code.TheVariants.{MOVIM}
use Rattle.records.specs.declared.order.Order.{Order}
use Rattle.records.specs.declared.order.Order.TheVariants.{Put, Store, Load}
use Rattle.records.specs.Orders.{record_of}
use Rattle.records.specs.ReadBack.{Bytes, joined, code_bytes}
use Rattle.trees.specs.Tree.{size}
use Rattle.layout.specs.declared.config.Shape.{Shape}
use Rattle.layout.specs.Config.{Supported, base, second, shape_of, in_shape, positions, most_variables}
use Rattle.operations.specs.declared.operation.Operation.{Operation}
use Rattle.operations.specs.Operations.{operation_records}
use Rattle.memory.specs.Blocks.{erase_block, share_block}
use Rattle.memory.specs.Objects.{store_object, load_object}
use Rattle.memory_bounds.specs.Bounds.{stored_within, loaded_within}
use Rattle.print_i64.specs.Print.{print_i64}
use Rattle.emit.specs.declared.answer.Refusal.TheVariants as emission
use Rattle.routine.specs.Routine.{routine_answer}
use Rattle.order_spec.specs.declared.answer.OrderRefusal.TheVariants.{Room}
use Rattle.order_spec.specs.Writes.{tree_of, present, asked}
use Rattle.order_spec.specs.Answered.{Asked, order_accepted, answer_to, places_in, order_context}
use Rattle.order_emit.specs.Bounds.{operation_within, erase_within, share_within, print_within, most_records}
use Rattle.listing.specs.declared.NotListed.TheVariants.{Short}
use Rattle.listing.specs.Names.{code_names}
use Rattle.listing.specs.Listing.{listed_text, listed}
use Rattle.port_rooms_proof.specs.Sizes.{records_within, variables, room_for_records, room_for_context, room_for_text, room_for_routine}

pub record OrdersFit : Type 0 where
  -- an order's records are no more than the bound for its variables
  pub within_records :
      (g : Shape) → Supported g → (context : List ℕ) (k : ℕ) (bindings : List ℕ) (order : Order) → size (tree_of g context k bindings order) ≤ records_within g order
  -- number 10 is not answered
  pub enough_room :
      (g : Shape) → Supported g → (context : List ℕ) (q : Asked) → places_in context ≤ most_variables g → room_for_records g ≤ q.records_room → room_for_context g ≤ q.context_room
      → (bytes : ℕ) → answer_to g context q ≢ Err (Room bytes)
  -- an accepted order leaves no more variables, so that the next one finds the same
  pub variables_stay :
      (g : Shape) → Supported g → (context : List ℕ) (q : Asked) → places_in context ≤ most_variables g → order_accepted (answer_to g context q) ≡ true
      → places_in (order_context context q) ≤ most_variables g

-- An order is written in one pass where the output has room for its bound (`order_ample` in order_emit). Every order that is not refused before 9 has it in the room that the header recommends.
pub record OrdersAtOnce : Type 0 where
  pub records_bounded :
      (g : Shape) → Supported g → (context : List ℕ) (k : ℕ) (bindings : List ℕ) (order : Order) → size (tree_of g context k bindings order) ≤ most_records g k order
  -- a store of linked variables has as many
  pub bound_reached : (g : Shape) → Supported g → (k n tag : ℕ) → size (tree_of g (variables Linked k) k [] (Store n tag)) ≡ most_records g k (Store n tag)
  pub bound_within :
      (g : Shape) → Supported g → (context : List ℕ) (k : ℕ) (bindings : List ℕ) (order : Order) → present context k bindings order ≡ true → asked context k bindings order ≤ positions g
      → 24 * most_records g k order ≤ room_for_records g

-- The records of operations are no more than their bounds, AXCUT_ROOM_FOR_OPERATION and the others of the header: with such a room they are written in one pass.
pub record OperationsFit : Type 0 where
  pub operation : (g : Shape) (o : Operation) → length (operation_records g o) ≤ operation_within
  pub erased : (g : Shape) (w : ℕ) → size (erase_block g w) ≤ erase_within
  pub shared : (g : Shape) (w n : ℕ) → size (share_block g w n) ≤ share_within
  pub printed : (g : Shape) (newline : Bool) (w : ℕ) (ext : ℕ → Bool) (n : ℕ) → size (print_i64 g newline w ext n) ≤ print_within
  pub stored : (g : Shape) → Supported g → (ext : ℕ → Bool) (v n : ℕ) → size (store_object g ext v n) ≤ stored_within g n
  pub loaded : (g : Shape) → Supported g → (ext : ℕ → Bool) (v n : ℕ) → size (load_object g ext v n) ≤ loaded_within g n

-- what a shape decides, by the numbers of an edition and a frame
abbrev pub size_in : ℕ → ℕ → (Shape → ℕ) → ℕ
size_in edition frame size = in_shape (shape_of edition frame) size 0 0

-- The sizes by these numbers: AXCUT_MOST_VARIABLES, AXCUT_ROOM_FOR_RECORDS and AXCUT_ROOM_FOR_CONTEXT of the header. Seven-field blocks take fewer records.
pub record RoomsByShape : Type 0 where
  pub variables_256 : (size_in 1 256 most_variables ≡ 133) × (size_in 2 256 most_variables ≡ 133)
  pub variables_512 : (size_in 1 512 most_variables ≡ 261) × (size_in 2 512 most_variables ≡ 261)
  pub context_256 : (size_in 1 256 room_for_context ≡ 1064) × (size_in 2 256 room_for_context ≡ 1064)
  pub context_512 : (size_in 1 512 room_for_context ≡ 2088) × (size_in 2 512 room_for_context ≡ 2088)
  pub records_256 : size_in 1 256 room_for_records ≡ 102624
  pub records_512 : size_in 1 512 room_for_records ≡ 202464
  pub second_records_256 : size_in 2 256 room_for_records ≡ 67872
  pub second_records_512 : size_in 2 512 room_for_records ≡ 135648

-- an order alone, with so many bytes for its records and the context after it
abbrev pub asked_with : Order → ℕ → ℕ → Asked
asked_with order records after =
    record { order = record_of order; bindings = []; counter = 0; records_room = records; context_room = after }

-- blocks of the first edition, and of the second, in a frame of so many spills
abbrev pub of_spills : ℕ → Shape
of_spills n = record { fields = base.fields; spills = n }

abbrev pub second_of_spills : ℕ → Shape
second_of_spills n = record { fields = second.fields; spills = n }

pub record OrdersFill : Type 0 where
  -- five linked variables in spills reach the bounds for a store and a load of five
  pub store_reaches : (n : ℕ) → size (tree_of (of_spills n) (variables Linked 11) 11 [] (Store 5 0)) ≡ records_within (of_spills n) (Store 5 0)
  pub load_reaches : (n : ℕ) → size (tree_of (of_spills n) (variables Linked 7) 7 (variables Linked 5) (Load 5)) ≡ records_within (of_spills n) (Load 5)
  -- and thirteen in the second edition those of thirteen
  pub second_store_reaches :
      (n : ℕ) → size (tree_of (second_of_spills n) (variables Linked 19) 19 [] (Store 13 0)) ≡ records_within (second_of_spills n) (Store 13 0)
  pub second_load_reaches :
      (n : ℕ) → size (tree_of (second_of_spills n) (variables Linked 7) 7 (variables Linked 13) (Load 13)) ≡ records_within (second_of_spills n) (Load 13)
  -- a store of all variables, all linked, needs the whole room for records
  pub records_needed :
      (g : Shape) → Supported g → (room : ℕ) → room < room_for_records g
      → answer_to g (variables Linked (most_variables g)) (asked_with (Store (most_variables g) 0) room (room_for_context g)) ≡ Err (Room (room_for_records g))
  -- the last variable that has positions needs the whole room for the context
  pub context_needed :
      (g : Shape) → Supported g → (room : ℕ) → room < room_for_context g
      → answer_to g (variables Ext (most_variables g - 1)) (asked_with (Put 0) (room_for_records g) room) ≡ Err (Room (room_for_context g))

pub record ListingsFit : Type 0 where
  pub text_fits : (s : List ℕ) → Bytes s → length (listed_text code_names s) ≤ room_for_text
  -- number 10 is not answered
  pub enough_room : (s : List ℕ) → Bytes s → (room : ℕ) → room_for_text ≤ room → (needed : ℕ) → listed code_names s room ≢ Err (Short needed)

-- a record with the longest line, but for its place: two digits of a register, and twice −2^63
abbrev pub longest_record : Code
longest_record = MOVIM 15 (2 ^ 63) (2 ^ 63)

-- n of them
abbrev pub longest_records : ℕ → List ℕ
longest_records n = joined code_bytes (replicate n longest_record)

-- the most that are listed need the whole room
abbrev pub ListingsFill : Type 0
ListingsFill = (room : ℕ) → room < room_for_text → listed code_names (longest_records 2730) room ≡ Err (Short room_for_text)

-- no routine needs more than the most records that a list has
abbrev pub RoutinesFit : Type 0
RoutinesFit = (g : Shape) (room arguments : ℕ) → room_for_routine ≤ room → (bytes : ℕ) (body : List ℕ) → routine_answer g room arguments body ≢ Err (emission.Room bytes)
