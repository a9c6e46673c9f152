-- Records that are written are read back the same, at every place; and what is read, written again, gives the same bytes.
-- One claim over the three kinds of records, in terms of what the contracts of reading, checking and writing cite.
use Rattle.std.specs.Prelude.{ℕ, zero, suc, ◌*◌, ◌^◌, ◌≤◌, ◌<◌, min, ◌≡◌, true, List, [], ◌∷◌, ◌++◌, length, get_or, drop, Ok, Some}
use Rattle.records.specs.declared.code.Code.{Code}
use Rattle.records.specs.declared.code.Code.TheVariants.{RET}
use Rattle.records.specs.declared.binding.Binding.{Binding}
use Rattle.records.specs.declared.order.Order.{Order}
use Rattle.records.specs.Codes.{fields_of, code_of}
use Rattle.records.specs.Instructions.{fields_bytes, fields_in, fields_ok, checked_codes, code_at}
use Rattle.records.specs.Contexts.{binding_bytes, binding_in, binding_starts, checked_context}
use Rattle.records.specs.Orders.{order_fields_of, order_bytes, order_ok, order_read}

-- P holds of each element
abbrev pub Each : {A : Type 0} → (A → Type 0) → List A → Type 0
Each P [] = Unit {0}
Each P (x ∷ xs) = P x × Each P xs

-- a list of bytes
abbrev pub Bytes : List ℕ → Type 0
Bytes s = Each (λ b. b < 256) s

-- the records of the items one after the other
abbrev pub joined : {A : Type 0} → (A → List ℕ) → List A → List ℕ
joined bytes [] = []
joined bytes (x ∷ xs) = bytes x ++ joined bytes xs

-- the items of the first n records of the given size
abbrev pub items : {A : Type 0} → ℕ → (List ℕ → A) → ℕ → List ℕ → List A
items size item zero s = []
items size item (suc n) s = item s ∷ items size item n (drop size s)

-- an instruction's operands fit their fields, and are what its code asks
pub record WellFormedCode (c : Code) : Type 0 where
  pub label_fits : (fields_of c).label < 2 ^ 32
  pub offset_fits : (fields_of c).offset < 2 ^ 64
  pub value_fits : (fields_of c).value < 2 ^ 64
  pub ok : fields_ok (fields_of c) ≡ true

pub record WellFormedOrder (o : Order) : Type 0 where
  pub a_fits : (order_fields_of o).a < 2 ^ 32
  pub b_fits : (order_fields_of o).b < 2 ^ 32
  pub n_fits : (order_fields_of o).n < 2 ^ 32
  pub value_fits : (order_fields_of o).value < 2 ^ 64
  pub ok : order_ok (order_fields_of o) ≡ true

abbrev pub WellFormedBinding : Binding → Type 0
WellFormedBinding b = b.id < 2 ^ 32

abbrev pub code_bytes : Code → List ℕ
code_bytes c = fields_bytes (fields_of c)

abbrev pub code_in : List ℕ → Code
code_in s = code_of (fields_in s)

pub record RecordsReadBack : Type 0 where
  -- each instruction of a list that is written is read at its place, whatever follows the list
  pub codes_read :
      (cs : List Code) → Each WellFormedCode cs → (rest : List ℕ) (k : ℕ) → k < length cs
      → code_at (joined code_bytes cs ++ rest) k ≡ Some (get_or cs k RET)
  -- the list is accepted, within the limit
  pub codes_accepted :
      (cs : List Code) → Each WellFormedCode cs → (most : ℕ) → length cs ≤ min most 65536
      → checked_codes most (joined code_bytes cs) ≡ Ok (length cs)
  -- a list that is accepted, read and written again, is the same bytes
  pub codes_written :
      (most n : ℕ) (s : List ℕ) → Bytes s → checked_codes most s ≡ Ok n
      → joined code_bytes (items 24 code_in n s) ≡ s
  -- of bindings, each that is written starts a record at its place, and is read from it
  pub bindings_start :
      (bs : List Binding) → Each WellFormedBinding bs → (rest : List ℕ) (k : ℕ) → k < length bs
      → binding_starts (drop (8 * k) (joined binding_bytes bs ++ rest)) ≡ true
  pub bindings_read :
      (bs : List Binding) → Each WellFormedBinding bs → (rest : List ℕ) (k : ℕ) (d : Binding) → k < length bs
      → binding_in (drop (8 * k) (joined binding_bytes bs ++ rest)) ≡ get_or bs k d
  pub context_accepted :
      (bs : List Binding) → Each WellFormedBinding bs → length bs ≤ 4096
      → checked_context (joined binding_bytes bs) ≡ Ok (length bs)
  pub context_written :
      (n : ℕ) (s : List ℕ) → Bytes s → checked_context s ≡ Ok n
      → joined binding_bytes (items 8 binding_in n s) ≡ s
  pub order_reads : (o : Order) → WellFormedOrder o → order_read (order_bytes (order_fields_of o)) ≡ Ok o
  pub order_written : (s : List ℕ) (o : Order) → Bytes s → order_read s ≡ Ok o → order_bytes (order_fields_of o) ≡ s
