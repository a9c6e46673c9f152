-- The scope, 'Worked numbers': the starred ones, line by line, by the definitions that the contracts cite; and
-- the same lines in the frame of 512 spills, 'Job 8', and in blocks of seven fields, 'Job 11'.
-- Outputs hold 65,536 records, counters start at 0, and contexts are of integers.
use Rattle.std.specs.Prelude.{ℕ, ◌*◌, ◌≤◌, ◌<◌, ◌≡◌, List, [], ◌∷◌, length, replicate, Err, Ok, None, Some}
use Rattle.records.specs.declared.binding.Kind.TheVariants.{Ext}
use Rattle.records.specs.declared.code.Code.TheVariants.{MOVI, MOVIM}
use Rattle.records.specs.declared.order.Order.{Order}
use Rattle.records.specs.declared.order.Order.TheVariants.{Put, Store}
use Rattle.records.specs.Contexts.{binding_bytes}
use Rattle.records.specs.Orders.{record_of}
use Rattle.records.specs.ReadBack.{joined}
use Rattle.trees.specs.Tree.{Tree, flat}
use Rattle.emit.specs.Answers.{cause_of, written_with, Answer}
use Rattle.layout.specs.declared.config.Shape.{Shape}
use Rattle.layout.specs.declared.config.Unshaped.TheVariants.{NoFrame, NoEdition}
use Rattle.layout.specs.declared.utils.TemporaryNumber.TheVariants.{Fst, Snd}
use Rattle.layout.specs.Config.{base, larger, second, second_larger, frame_of, shape_of, block_bytes, link_word, STACK, spill, stack_offset}
use Rattle.layout.specs.Queries.{field_offset, offset_cause}
use Rattle.layout.specs.Positions.{position_answer, temporary_cause}
use Rattle.memory.specs.Blocks.{erase_block}
use Rattle.memory.specs.Answered.{store_in, erase_answer, store_tree, store_answer}
use Rattle.memory.specs.LoadAnswered.{load_tree, load_answer}
use Rattle.order_spec.specs.Answered as order
use Rattle.order_spec.specs.Answered.{Asked, answer_to, order_tree, accepted_with}

abbrev pub room_enough : ℕ
room_enough = 1572864

-- the bytes of a context of n integers
abbrev pub integers : ℕ → List ℕ
integers n = joined binding_bytes (replicate n (record { kind = Ext; id = 0 }))

-- an order alone
abbrev pub asked_amply : Order → Asked
asked_amply order = record { order = record_of order; bindings = []; counter = 0; records_room = room_enough; context_room = room_enough }

-- the order to store no variable, and one that makes a variable
abbrev pub store_none : Asked
store_none = asked_amply (Store 0 0)

abbrev pub put_seven_asked : Asked
put_seven_asked = asked_amply (Put 7)

-- an operation answers with so many records and labels, and the records of its tree are so many
pub record Writes (answer : Answer) (tree : Tree) (records labels : ℕ) : Type 0 where
  pub answered : answer ≡ Ok (written_with records labels)
  pub written : length (flat tree 0) ≡ records

-- a store of the last n of k integers; a load of n after v
abbrev pub StoreWrites : Shape → ℕ → ℕ → ℕ → ℕ → Type 0
StoreWrites g n k records labels = Writes (store_answer g 0 room_enough (integers k) n) (store_tree g (integers k) n) records labels

abbrev pub LoadWrites : Shape → ℕ → ℕ → ℕ → ℕ → Type 0
LoadWrites g n v records labels =
    Writes (load_answer g 0 room_enough (integers n) (integers v)) (load_tree g (integers n) (integers v)) records labels

-- erase_block of each register that a caller may name, and of each such spill
abbrev pub EraseRegisterWrites : Shape → ℕ → ℕ → Type 0
EraseRegisterWrites g records labels = (r : ℕ) → 4 ≤ r → r < 16 → Writes (erase_answer g 0 room_enough r) (erase_block g r) records labels

abbrev pub EraseSpillWrites : Shape → ℕ → ℕ → Type 0
EraseSpillWrites g records labels = (p : ℕ) → 1 ≤ p → p < g.spills → Writes (erase_answer g 0 room_enough (spill p)) (erase_block g (spill p)) records labels

pub record WorkedNumbers : Type 0 where
  -- 'position 11: register 15. 12: spill 1, offset 2032. 266: spill 255, offset 0. 267: 8.'
  pub position_11 : position_answer base 11 ≡ Ok 15
  pub position_12 : position_answer base 12 ≡ Ok (spill 1)
  pub offset_12 : stack_offset base (spill 1) ≡ 2032
  pub position_266 : position_answer base 266 ≡ Ok (spill 255)
  pub offset_266 : stack_offset base (spill 255) ≡ 0
  pub position_267 : temporary_cause (position_answer base 267) ≡ 8 ∷ []
  -- 'store none after 0 variables: MOVI 4, 0. After 133: MOVIM at offset 0. 134: 8.'
  pub none_after_0 : store_answer base 0 room_enough (integers 0) 0 ≡ Ok (written_with 1 0)
  pub record_after_0 : flat (store_tree base (integers 0) 0) 0 ≡ MOVI 4 0 ∷ []
  pub none_after_133 : store_answer base 0 room_enough (integers 133) 0 ≡ Ok (written_with 1 0)
  pub record_after_133 : flat (store_tree base (integers 133) 0) 0 ≡ MOVIM STACK 0 0 ∷ []
  pub none_after_134 : cause_of (store_answer base 0 room_enough (integers 134) 0) ≡ 8 ∷ []
  -- '(as an order: 8, for the tag)'
  pub order_after_133 : order.order_answer_cause (answer_to base (integers 133) store_none) ≡ 8 ∷ []
  -- 'Store one after 132 works; after 133: 8.' (k variables in all: those before, and the one stored)
  pub one_after_132 : StoreWrites base 1 133 60 13
  pub one_after_133 : cause_of (store_answer base 0 room_enough (integers 134) 1) ≡ 8 ∷ []
  -- 'erase register: 11 records, 3 labels; spill: 12.'
  pub erases_register : EraseRegisterWrites base 11 3
  pub erase_spill : EraseSpillWrites base 12 3
  -- 'store one Ext after none: 58 records, 13 labels; four Ext: 118 and 26.'
  pub stores_one : StoreWrites base 1 1 58 13
  pub store_four : StoreWrites base 4 4 118 26
  -- 'load one Ext after none: 10 records, 2 labels.'
  pub load_one : LoadWrites base 1 0 10 2

-- 'The frame may be 256 or 512 spills, chosen for a whole routine (another number is 3).'
pub record WorkedNumbersOfLarger : Type 0 where
  pub frame_256 : frame_of 256 ≡ Some base
  pub frame_512 : frame_of 512 ≡ Some larger
  pub frame_511 : frame_of 511 ≡ None
  -- 'spill p is at 4096 − 8(p+1), positions run to 522'
  pub position_11 : position_answer larger 11 ≡ Ok 15
  pub position_12 : position_answer larger 12 ≡ Ok (spill 1)
  pub offset_12 : stack_offset larger (spill 1) ≡ 4080
  pub position_522 : position_answer larger 522 ≡ Ok (spill 511)
  pub offset_522 : stack_offset larger (spill 511) ≡ 0
  pub position_523 : temporary_cause (position_answer larger 523) ≡ 8 ∷ []
  -- 'a store of none works after 261'
  pub none_after_0 : store_answer larger 0 room_enough (integers 0) 0 ≡ Ok (written_with 1 0)
  pub record_after_0 : flat (store_tree larger (integers 0) 0) 0 ≡ MOVI 4 0 ∷ []
  pub none_after_260 : store_answer larger 0 room_enough (integers 260) 0 ≡ Ok (written_with 1 0)
  pub record_after_260 : flat (store_tree larger (integers 260) 0) 0 ≡ MOVIM STACK 16 0 ∷ []
  pub none_after_261 : store_answer larger 0 room_enough (integers 261) 0 ≡ Ok (written_with 1 0)
  pub record_after_261 : flat (store_tree larger (integers 261) 0) 0 ≡ MOVIM STACK 0 0 ∷ []
  pub none_after_262 : cause_of (store_answer larger 0 room_enough (integers 262) 0) ≡ 8 ∷ []
  -- as an order after 260: the object's word and the tag; after 261: 8, for the tag
  pub order_after_260 : answer_to larger (integers 260) store_none ≡ Ok (accepted_with 2 0 261)
  pub order_after_261 : order.order_answer_cause (answer_to larger (integers 261) store_none) ≡ 8 ∷ []
  -- 'a store or load of some variables needs at most 261 in all' (a store: those before, and the one stored)
  pub one_after_260 : StoreWrites larger 1 261 60 13
  pub one_after_261 : cause_of (store_answer larger 0 room_enough (integers 262) 1) ≡ 8 ∷ []
  pub loaded_after_260 : LoadWrites larger 1 260 19 2
  pub loaded_after_261 : cause_of (load_answer larger 0 room_enough (integers 1) (integers 261)) ≡ 8 ∷ []
  -- 'The limits behind 3 and 8 move with the frame': spill 511 is erased, and 512 is 3, as 256 is in the smaller frame
  pub erases_register : EraseRegisterWrites larger 11 3
  pub erase_spill : EraseSpillWrites larger 12 3
  pub erase_511 : Writes (erase_answer larger 0 room_enough (spill 511)) (erase_block larger (spill 511)) 12 3
  pub erase_512 : cause_of (erase_answer larger 0 room_enough (spill 512)) ≡ 3 ∷ []
  pub erase_256 : cause_of (erase_answer base 0 room_enough (spill 256)) ≡ 3 ∷ []
  -- a put on 200 variables is 8 in the smaller frame, and is written in this one: position 401 is spill 390
  pub put_in_smaller : order.order_answer_cause (answer_to base (integers 200) put_seven_asked) ≡ 8 ∷ []
  pub put_after_200 : answer_to larger (integers 200) put_seven_asked ≡ Ok (accepted_with 1 0 201)
  pub record_after_200 : flat (order_tree larger (integers 200) put_seven_asked) 0 ≡ MOVIM STACK 968 7 ∷ []
  -- variables in registers are stored and loaded as in the smaller frame
  pub stores_one : StoreWrites larger 1 1 58 13
  pub store_four : StoreWrites larger 4 4 118 26
  pub load_one : LoadWrites larger 1 0 10 2

-- 'In the second edition a block is 128 bytes with 7 fields': records and labels as the Rust with FIELDS_PER_BLOCK at 7 writes them
pub record WorkedNumbersOfSecond : Type 0 where
  pub first_256 : shape_of 1 256 ≡ Ok base
  pub first_512 : shape_of 1 512 ≡ Ok larger
  pub second_256 : shape_of 2 256 ≡ Ok second
  pub second_512 : shape_of 2 512 ≡ Ok second_larger
  -- '23 for an edition other than 1 or 2, checked first of all'
  pub second_511 : shape_of 2 511 ≡ Err NoFrame
  pub third_511 : shape_of 3 511 ≡ Err NoEdition
  pub no_third : cause_of (store_in 3 511 0 0 (0 ∷ []) 1) ≡ 23 ∷ []
  pub second_frame : cause_of (store_in 2 511 0 0 (integers 1) 2) ≡ 3 ∷ []
  -- '128 bytes with 7 fields, its link in field 6'
  pub block_128 : block_bytes second ≡ 128
  pub link_in_6 : 8 * link_word second ≡ 112
  pub fst_6 : field_offset second Fst 6 ≡ Ok 112
  pub snd_6 : field_offset second Snd 6 ≡ Ok 120
  pub fst_7 : offset_cause (field_offset second Fst 7) ≡ 3 ∷ []
  -- 'The last block of an object holds 7 variables and the others 6': a block more from 8 on, and from 14 on
  pub store_1 : StoreWrites second 1 1 110 25
  pub store_7 : StoreWrites second 7 7 117 25
  pub store_8 : StoreWrites second 8 8 228 50
  pub store_13 : StoreWrites second 13 13 240 50
  pub store_14 : StoreWrites second 14 14 351 75
  pub load_1 : LoadWrites second 1 0 10 2
  pub load_7 : LoadWrites second 7 0 24 2
  pub load_8 : LoadWrites second 8 0 32 2
  pub load_13 : LoadWrites second 13 0 60 2
  pub load_14 : LoadWrites second 14 0 68 2
  pub none_after_0 : store_answer second 0 room_enough (integers 0) 0 ≡ Ok (written_with 1 0)
  -- blocks are erased as in the first edition
  pub erases_register : EraseRegisterWrites second 11 3
  pub erase_spill : EraseSpillWrites second 12 3
  -- and variables in registers are stored and loaded alike in both frames
  pub larger_store_14 : StoreWrites second_larger 14 14 351 75
  pub larger_load_14 : LoadWrites second_larger 14 0 68 2
