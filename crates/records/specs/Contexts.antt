-- Binding records: their 8 bytes, which are well formed, and contexts of them. From the scope, 'Binding record', and 'Job 2': what is bad in a context, and where.
use Rattle.std.specs.Prelude.{ℕ, zero, suc, ◌+◌, ◌*◌, ◌/◌, ◌%◌, Bool, ◌&&◌, cond, List, [], ◌∷◌, leb, eqb, length, get_or, drop, Ok, Err, Result}
use Rattle.records.specs.Causes.{ACCEPTED, CONTEXT_LENGTH, BINDING_MARK, BINDING_KIND}
use Rattle.records.specs.declared.binding.Kind.{Kind}
use Rattle.records.specs.declared.binding.Kind.TheVariants.{Linked, Ext}
use Rattle.records.specs.declared.binding.Binding.{Binding}
use Rattle.records.specs.declared.context.Flaw.{Flaw}
use Rattle.records.specs.declared.context.Flaw.TheVariants as flaw
use Rattle.records.specs.Bytes.{le, number}

abbrev pub kind_byte : Kind → ℕ
kind_byte Linked = 0
kind_byte Ext = 1

abbrev pub kind_of : ℕ → Kind
kind_of k = cond (eqb k 0) Linked Ext

-- whether variable v of the context s is an integer
abbrev pub ext_at : List ℕ → ℕ → Bool
ext_at s v = eqb (get_or s (8 * v + 2) 0) 1

-- by the number of a context's bindings where it is good, or by its flaw
abbrev pub on_context : {A : Type 0} → Result ℕ Flaw → (ℕ → A) → (Flaw → A) → A
on_context (Ok k) good bad = good k
on_context (Err flaw) good bad = bad flaw

-- how many bindings it has, none where it is bad
abbrev pub bindings_in : Result ℕ Flaw → ℕ
bindings_in read = on_context read (λ k. k) (λ flaw. 0)

-- the 8 bytes of a binding
unfoldable pub binding_bytes : Binding → List ℕ
binding_bytes b = 0xA7 ∷ 0x01 ∷ kind_byte b.kind ∷ 0 ∷ le 4 b.id

-- the binding in the 8 bytes that start a list
unfoldable pub binding_in : List ℕ → Binding
binding_in s = record { kind = kind_of (get_or s 2 0); id = number 4 s 4 }

-- the two bytes that mark a binding
abbrev pub marked : List ℕ → Bool
marked s = eqb (get_or s 0 0) 0xA7 && eqb (get_or s 1 0) 0x01

-- its kind is 0 or 1, and its zero byte 0
abbrev pub kind_ok : List ℕ → Bool
kind_ok s = leb (get_or s 2 0) 1 && eqb (get_or s 3 0) 0

-- whether a list starts with a whole, well-formed binding
unfoldable pub binding_starts : List ℕ → Bool
binding_starts s = leb 8 (length s) && (marked s && kind_ok s)

-- of the n bindings of s, which come after k good ones, the earliest that is bad: its mark before its kind and zero byte. Places count from 1
unfoldable pub first_flaw : ℕ → ℕ → List ℕ → Result ℕ Flaw
first_flaw k zero s = Ok k
first_flaw k (suc n) s =
    cond (marked s) (cond (kind_ok s) (first_flaw (suc k) n (drop 8 s)) (Err (flaw.Kind (suc k)))) (Err (flaw.Mark (suc k)))

-- whole bindings, 0 to 4,096
abbrev pub length_ok : List ℕ → Bool
length_ok s = eqb (length s % 8) 0 && leb (length s) (8 * 4096)

-- a context is checked for its length, then binding by binding
unfoldable pub checked_context : List ℕ → Result ℕ Flaw
checked_context s = cond (length_ok s) (first_flaw 0 (length s / 8) s) (Err flaw.Length)

-- of bindings that come after k others, as an order's come after its context: their places count on; a bad length has none
abbrev pub counted_on : ℕ → Result ℕ Flaw → Result ℕ Flaw
counted_on k (Ok n) = Ok n
counted_on k (Err flaw.Length) = Err flaw.Length
counted_on k (Err (flaw.Mark place)) = Err (flaw.Mark (k + place))
counted_on k (Err (flaw.Kind place)) = Err (flaw.Kind (k + place))

-- the scope's number for what is bad, and its place: 0 for the length
abbrev pub flaw_number : Flaw → ℕ
flaw_number flaw.Length = CONTEXT_LENGTH
flaw_number (flaw.Mark place) = BINDING_MARK
flaw_number (flaw.Kind place) = BINDING_KIND

abbrev pub flaw_place : Flaw → ℕ
flaw_place flaw.Length = 0
flaw_place (flaw.Mark place) = place
flaw_place (flaw.Kind place) = place

abbrev pub flaw_cause : Flaw → List ℕ
flaw_cause f = flaw_number f ∷ flaw_place f ∷ []

-- the number and place for each answer: 0 where the context is accepted
abbrev pub context_cause : Result ℕ Flaw → List ℕ
context_cause (Ok n) = ACCEPTED ∷ []
context_cause (Err f) = flaw_cause f
