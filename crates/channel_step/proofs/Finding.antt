-- The item at a byte of a list, from where its parts end.
use Rattle.records.specs.declared.order.Order.{Order}
use Rattle.records.specs.declared.check.Malformed.{Malformed}
use Rattle.std.specs.Prelude.{Result}
use Prim.Native.Nat.{ℕ, ◌+◌, ◌-◌, ◌≤◌, ◌<◌, min}
use mathlib.Core.Path.{◌≡◌, sym, ap, ◌∙◌}
use mathlib.Core.List.{List}
use native.Mathlib.Nat.{min-le_right, min-eq_left, min-eq_right, add-zero}
use native.Mathlib.Decide.{dec_lt}
use native.Mathlib.Omega.{arith}
use lib.ListN.{length, take, drop, length-take, length-drop}
use Rattle.std.proofs.lemmas.List.{take_min}
use Rattle.records.specs.Orders.{order_read}
use Rattle.channel_step.specs.declared.list.ItemEnds.{ItemEnds}
use Rattle.channel_step.specs.Lists.{bytes_after, order_at, bindings_at, item_at, FindsItem}

-- how much is taken where a list has that much, else what is left
taken : (n k : ℕ) (s : List ℕ) → length (take n (drop k s)) ≡ min n (length s - k)
taken n k s = length-take n (drop k s) ∙ ap (min n) (length-drop k s)

module _ (list : List ℕ) (at : ℕ) where
  abbrev item_of : ℕ → ℕ → ItemEnds
  item_of x y = record { order_end = at + x; end = at + x + y }

  item_of_lem : (x y : ℕ) → x ≡ length (order_at list at) → y ≡ length (bindings_at list at) → item_of x y ≡ item_at list at
  unfolding item_at
  item_of_lem x y p q = ap (λ (i : ℕ). item_of x i) q ∙ ap (λ (i : ℕ). item_of i (length (bindings_at list at))) p

  pub finds_none : length list ≤ at → FindsItem list at (record { order_end = at; end = at })
  finds_none h =
      let x : 0 ≡ length (order_at list at) = let w = min-le_right 24 (length list - at) in omega (arith, taken 24 at list) in
      let n = bytes_after (order_read (order_at list at)) in
      let k = at + length (order_at list at) in
      let y : 0 ≡ length (bindings_at list at) = let w = min-le_right n (length list - k) in omega (arith, taken n k list) in
      let z : at + 0 ≡ at = add-zero at in
      record {
        item_is = rw (z, z) at (item_of_lem 0 0 x y);
        order_after = omega arith;
        bindings_after = omega arith;
        within = λ l. l;
        goes_on = λ l. absurd (omega arith);
      }

  pub finds : {x y bytes : ℕ} {read : Result Order Malformed} → at < length list → x ≡ min 24 (length list - at) → read ≡ order_read (take (at + x - at) (drop at list)) → bytes ≡ bytes_after read
      → y ≡ min bytes (length list - (at + x)) → FindsItem list at (record { order_end = at + x; end = at + x + y })
  finds {x} {y} {bytes} h p r b q =
      let a : at + x - at ≡ x = omega arith in
      let l = length-drop at list in
      let o : take (at + x - at) (drop at list) ≡ order_at list at =
      ap (λ (i : ℕ). take i (drop at list)) a ∙ ap (λ (i : ℕ). take i (drop at list)) (p ∙ ap (min 24) (sym l)) ∙ take_min 24 (drop at list) in
      let p' : x ≡ length (order_at list at) = p ∙ sym (taken 24 at list) in
      let n : bytes ≡ bytes_after (order_read (order_at list at)) = b ∙ ap bytes_after (r ∙ ap order_read o) in
      let q' : y ≡ length (bindings_at list at) =
      q ∙ ap (λ (i : ℕ). min i (length list - (at + x))) n ∙ ap (λ (i : ℕ). min (bytes_after (order_read (order_at list at))) (length list - (at + i))) p'
      ∙ sym (taken (bytes_after (order_read (order_at list at))) (at + length (order_at list at)) list) in
      let few = min-le_right bytes (length list - (at + x)) in
      let w = min-le_right 24 (length list - at) in
      let some : 0 < x = some_taken in
      record {
        item_is = item_of_lem x y p' q';
        order_after = omega arith;
        bindings_after = omega arith;
        within = λ l. omega arith;
        goes_on = λ l. omega arith;
      }
    where
      some_taken : 0 < x
      some_taken = by (dec_lt 24 (length list - at))
        where
          by : Dec (24 < length list - at) → 0 < x
          by (yes k) = let e : x ≡ 24 = p ∙ min-eq_left (omega arith) in omega arith
          by (no k) = let e : x ≡ length list - at = p ∙ min-eq_right (omega arith) in omega arith
