-- The order of a line is well formed, and a load has as many kinds as its n says.
use Rattle.plan_line.specs.declared.wrong.Wrong.{Wrong}
use Rattle.std.specs.Prelude.{Err, Ok, None, Some, Option, Result}
use Prim.Native.Nat.{ℕ, suc, ◌+◌, ◌^◌, ◌≤◌, ◌<◌}
use mathlib.Core.Path.{◌≡◌, refl}
use mathlib.Core.Bool.{Bool, true, false, cond}
use mathlib.Core.List.{List, [], ◌∷◌}
use native.Mathlib.Omega.{arith}
use borrow.Author.Tests.{leb-true, ltb-true}
use lib.Dec.{leb, ltb, eqb}
use lib.ListN.{length, drop}
use Rattle.records.specs.declared.order.Calculation.{Calculation}
use Rattle.records.specs.declared.order.Calculation.TheVariants.{Add, Sub, Mul, Div, Rem}
use Rattle.records.specs.declared.order.Order.{Order}
use Rattle.records.specs.declared.order.Order.TheVariants.{Put, Compute, Copy, Drop, Store, Load, Print}
use Rattle.records.specs.Orders.{order_fields_of, order_readers, order_of, used_by_order, order_operands_ok, order_ok, wanted}
use Rattle.records.specs.ReadBack.{WellFormedOrder}
use Rattle.records.proofs.Conditions.{both_ways}
use Rattle.plan_line.specs.declared.wrong.Wrong.TheVariants.{OutOfRange, NotTag, NotNewline, NotKind, TooManyKinds, MissingWord}
use Rattle.plan_line.specs.declared.orders.Named.{Named}
use Rattle.plan_line.specs.declared.orders.Named.TheVariants.{Yes, Other, Missing}
use Rattle.plan_line.specs.declared.orders.Name.{Name}
use Rattle.plan_line.specs.declared.orders.Name.TheVariants.{PutName, ComputeName, CopyName, DropName, StoreName, LoadName, PrintName}
use Rattle.plan_line.specs.Numbers.{all_digits, digits_value, within, natural_of, negated_number, integer_in}
use Rattle.plan_line.specs.Orders.{Words, name_of, place_at, integer_at, operator_at, named_first, is_kind, ended, on_number, operator, name, put_line, second_line, operands_line, compute_line, times_line, copy_line, tag_line, tagged_line, store_line, load_line, newline_line, print_line, line_for, line_of, Line}
use Rattle.text.specs.Text.{ascii}

-- numbers of words are below a bound
abbrev Below : ℕ → Result ℕ Wrong → Type 0
Below bound (Ok v) = v < bound
Below bound (Err wrong) = Unit {0}

within_by : (limit bound v : ℕ) → limit < bound → (x : Bool) → leb v limit ≡ x → Below bound (cond x (Ok v) (Err OutOfRange))
within_by limit bound v h true e = omega (arith, leb-true v limit e)
within_by limit bound v h false e = tt

natural_below : (limit bound : ℕ) → limit < bound → (w : List ℕ) → Below bound (natural_of limit w)
unfolding natural_of within
natural_below limit bound h [] = tt
natural_below limit bound h (b ∷ w) =
    both_ways (Below bound) (all_digits (b ∷ w)) (within_by limit bound (digits_value 0 (b ∷ w)) h (leb (digits_value 0 (b ∷ w)) limit) refl) tt

negated_below : (n : Result ℕ Wrong) → Below (2 ^ 64) (negated_number n)
negated_below (Ok v) = omega arith
negated_below (Err wrong) = tt

place_below : (ws : Words) → Below (2 ^ 32) (place_at ws)
unfolding place_at
place_below [] = tt
place_below (w ∷ ws) = natural_below 0xFFFF_FFFF (2 ^ 32) (omega arith) w

integer_below : (ws : Words) → Below (2 ^ 64) (integer_at ws)
unfolding integer_at integer_in
integer_below [] = tt
integer_below ([] ∷ ws) = tt
integer_below ((b ∷ w) ∷ ws) =
    both_ways (Below (2 ^ 64)) (eqb b 45)
    (negated_below (natural_of 0x8000_0000_0000_0000 w)) (natural_below 0x7FFF_FFFF_FFFF_FFFF (2 ^ 64) (omega arith) (b ∷ w))

-- an order that is well formed and has its kinds
pub record Sound (ws : Words) (o : Order) : Type 0 where
  pub formed : WellFormedOrder o
  pub enough : wanted o ≤ length (drop 1 ws)
  pub few : wanted o ≤ 4096

abbrev pub SoundLine : Words → Line → Type 0
SoundLine ws (Ok None) = Unit {0}
SoundLine ws (Ok (Some o)) = Sound ws o
SoundLine ws (Err wrong) = Unit {0}

plain : (ws : Words) (o : Order) → wanted o ≡ 0 → WellFormedOrder o → Sound ws o
plain ws o e w = record { formed = w; enough = omega arith; few = omega arith }

compute_ok : (operation : Calculation) (a b : ℕ) → order_ok (order_fields_of (Compute operation a b)) ≡ true
unfolding order_ok order_operands_ok used_by_order order_of order_readers
compute_ok Add a b = refl
compute_ok Sub a b = refl
compute_ok Mul a b = refl
compute_ok Div a b = refl
compute_ok Rem a b = refl

print_ok : (newline : Bool) (a : ℕ) → order_ok (order_fields_of (Print newline a)) ≡ true
unfolding order_ok order_operands_ok used_by_order order_of order_readers
print_ok true a = refl
print_ok false a = refl

module _ (ws : Words) where
  sound_put : (v : ℕ) → v < 2 ^ 64 → Sound ws (Put v)
  unfolding order_ok order_operands_ok used_by_order order_of order_readers
  sound_put v h = plain ws (Put v) refl (record { a_fits = omega arith; b_fits = omega arith; n_fits = omega arith; value_fits = h; ok = refl })

  sound_compute : (operation : Calculation) (a b : ℕ) → a < 2 ^ 32 → b < 2 ^ 32 → Sound ws (Compute operation a b)
  sound_compute operation a b h g =
      plain ws (Compute operation a b) refl (record { a_fits = h; b_fits = g; n_fits = omega arith; value_fits = omega arith; ok = compute_ok operation a b })

  sound_copy : (a n : ℕ) → a < 2 ^ 32 → n < 2 ^ 32 → Sound ws (Copy a n)
  unfolding order_ok order_operands_ok used_by_order order_of order_readers
  sound_copy a n h g = plain ws (Copy a n) refl (record { a_fits = h; b_fits = omega arith; n_fits = g; value_fits = omega arith; ok = refl })

  sound_drop : Sound ws Drop
  unfolding order_ok order_operands_ok used_by_order order_of order_readers
  sound_drop = plain ws Drop refl (record { a_fits = omega arith; b_fits = omega arith; n_fits = omega arith; value_fits = omega arith; ok = refl })

  sound_store : (n v : ℕ) → n < 2 ^ 32 → v < 2 ^ 64 → Sound ws (Store n v)
  unfolding order_ok order_operands_ok used_by_order order_of order_readers
  sound_store n v h g = plain ws (Store n v) refl (record { a_fits = omega arith; b_fits = omega arith; n_fits = h; value_fits = g; ok = refl })

  sound_print : (newline : Bool) (a : ℕ) → a < 2 ^ 32 → Sound ws (Print newline a)
  sound_print newline a h =
      plain ws (Print newline a) refl (record { a_fits = h; b_fits = omega arith; n_fits = omega arith; value_fits = omega arith; ok = print_ok newline a })

  sound_load : (n : ℕ) → n ≤ length (drop 1 ws) → n ≤ 4096 → Sound ws (Load n)
  unfolding order_ok order_operands_ok used_by_order order_of order_readers
  sound_load n h g =
      record {
        formed = record { a_fits = omega arith; b_fits = omega arith; n_fits = omega arith; value_fits = omega arith; ok = refl };
        enough = h;
        few = g;
      }

  -- through the words of a line
  when_ended : (o : Order) (rest : Words) → Sound ws o → SoundLine ws (ended o rest)
  unfolding ended
  when_ended o [] s = s
  when_ended o (w ∷ rest) s = tt

  with_number : (bound : ℕ) (n : Result ℕ Wrong) (then : ℕ → Line) → Below bound n → ((v : ℕ) → v < bound → SoundLine ws (then v)) → SoundLine ws (on_number n then)
  with_number bound (Ok v) then h f = f v h
  with_number bound (Err wrong) then h f = tt

  with_operator : (x : Result Calculation Wrong) (then : Calculation → Line) → ((operation : Calculation) → SoundLine ws (then operation)) → SoundLine ws (operator x then)
  with_operator (Ok operation) then f = f operation
  with_operator (Err wrong) then f = tt

  with_name : (x : Named) (a b c : Line) → SoundLine ws a → SoundLine ws b → SoundLine ws c → SoundLine ws (name x a b c)
  with_name Yes a b c p q r = p
  with_name Other a b c p q r = q
  with_name Missing a b c p q r = r

  put_sound : SoundLine ws (put_line ws)
  unfolding put_line
  put_sound = with_number (2 ^ 64) (integer_at (drop 1 ws)) (λ v. ended (Put v) (drop 2 ws)) (integer_below (drop 1 ws)) (λ v h. when_ended (Put v) (drop 2 ws) (sound_put v h))

  second_sound : (operation : Calculation) (a : ℕ) → a < 2 ^ 32 → SoundLine ws (second_line operation a ws)
  unfolding second_line
  second_sound operation a g =
      with_number (2 ^ 32) (place_at (drop 3 ws)) (λ b. ended (Compute operation a b) (drop 4 ws)) (place_below (drop 3 ws))
      (λ b h. when_ended (Compute operation a b) (drop 4 ws) (sound_compute operation a b g h))

  operands_sound : (operation : Calculation) → SoundLine ws (operands_line operation ws)
  unfolding operands_line
  operands_sound operation = with_number (2 ^ 32) (place_at (drop 2 ws)) (λ a. second_line operation a ws) (place_below (drop 2 ws)) (λ a h. second_sound operation a h)

  compute_sound : SoundLine ws (compute_line ws)
  unfolding compute_line
  compute_sound = with_operator (operator_at (drop 1 ws)) (λ operation. operands_line operation ws) (λ operation. operands_sound operation)

  times_sound : (a : ℕ) → a < 2 ^ 32 → SoundLine ws (times_line a ws)
  unfolding times_line
  times_sound a g =
      with_number (2 ^ 32) (place_at (drop 2 ws)) (λ n. ended (Copy a n) (drop 3 ws)) (place_below (drop 2 ws)) (λ n h. when_ended (Copy a n) (drop 3 ws) (sound_copy a n g h))

  copy_sound : SoundLine ws (copy_line ws)
  unfolding copy_line
  copy_sound = with_number (2 ^ 32) (place_at (drop 1 ws)) (λ a. times_line a ws) (place_below (drop 1 ws)) (λ a h. times_sound a h)

  tag_sound : (n : ℕ) → n < 2 ^ 32 → SoundLine ws (tag_line n ws)
  unfolding tag_line
  tag_sound n g =
      with_number (2 ^ 64) (integer_at (drop 3 ws)) (λ v. ended (Store n v) (drop 4 ws)) (integer_below (drop 3 ws)) (λ v h. when_ended (Store n v) (drop 4 ws) (sound_store n v g h))

  tagged_sound : (n : ℕ) → n < 2 ^ 32 → SoundLine ws (tagged_line n ws)
  unfolding tagged_line
  tagged_sound n g = with_name (named_first (ascii "tag") (drop 2 ws)) (tag_line n ws) (Err NotTag) (Err MissingWord) (tag_sound n g) tt tt

  store_sound : SoundLine ws (store_line ws)
  unfolding store_line
  store_sound = with_number (2 ^ 32) (place_at (drop 1 ws)) (λ n. tagged_line n ws) (place_below (drop 1 ws)) (λ n h. tagged_sound n h)

  newline_sound : (a : ℕ) → a < 2 ^ 32 → SoundLine ws (newline_line a ws)
  unfolding newline_line
  newline_sound a g =
      with_name (named_first (ascii "newline") (drop 2 ws)) (ended (Print true a) (drop 3 ws)) (Err NotNewline) (Ok (Some (Print false a)))
      (when_ended (Print true a) (drop 3 ws) (sound_print true a g)) tt (sound_print false a g)

  print_sound : SoundLine ws (print_line ws)
  unfolding print_line
  print_sound = with_number (2 ^ 32) (place_at (drop 1 ws)) (λ a. newline_line a ws) (place_below (drop 1 ws)) (λ a h. newline_sound a h)

  kind_by : (n : ℕ) (on : Line) (x y : Bool) → ltb n 4096 ≡ x → (n < 4096 → SoundLine ws on)
      → SoundLine ws (cond x (cond y on (Err NotKind)) (Err TooManyKinds))
  kind_by n on true true e f = f (ltb-true n 4096 e)
  kind_by n on true false e f = tt
  kind_by n on false y e f = tt

  load_sound : (n : ℕ) (rest : Words) → n + length rest ≡ length (drop 1 ws) → n ≤ 4096 → SoundLine ws (load_line n rest)
  unfolding load_line
  load_sound n [] e h = sound_load n (omega arith) h
  load_sound n (w ∷ rest) e h =
      kind_by n (load_line (suc n) rest) (ltb n 4096) (is_kind w) refl (λ g. load_sound (suc n) rest (omega arith) (omega arith))

named_sound : (x : Option Name) (w : List ℕ) (ws : Words) → SoundLine (w ∷ ws) (line_for x (w ∷ ws) ws)
named_sound (Some PutName) w ws = put_sound (w ∷ ws)
named_sound (Some ComputeName) w ws = compute_sound (w ∷ ws)
named_sound (Some CopyName) w ws = copy_sound (w ∷ ws)
named_sound (Some DropName) w ws = when_ended (w ∷ ws) Drop ws (sound_drop (w ∷ ws))
named_sound (Some StoreName) w ws = store_sound (w ∷ ws)
named_sound (Some LoadName) w ws = load_sound (w ∷ ws) 0 ws (omega arith) (omega arith)
named_sound (Some PrintName) w ws = print_sound (w ∷ ws)
named_sound None w ws = tt

pub line_sound : (ws : Words) → SoundLine ws (line_of ws)
unfolding line_of
line_sound [] = tt
line_sound (w ∷ ws) = named_sound (name_of w) w ws
