-- After each accepted order the context is accepted again, with a binding for each of the plain machine's values, of its kind.
use Rattle.std.specs.Prelude.{Ok}
use Prim.Native.Nat.{ℕ, zero, suc, ◌+◌, ◌*◌, ◌-◌, ◌≤◌}
use mathlib.Core.Path.{◌≡◌, refl, ◌∙◌}
use mathlib.Core.Bool.{true, cond}
use mathlib.Core.List.{List, ◌++◌}
use native.Mathlib.Omega.{arith}
use lib.Dec.{eqb}
use lib.ListN.{take}
use borrow.Author.Tests.{ltb-true, leb-true, ne_eqb}
use Rattle.records.specs.declared.binding.Kind.{Kind}
use Rattle.records.specs.declared.binding.Kind.TheVariants.{Linked, Ext}
use Rattle.records.specs.declared.order.Order.{Order}
use Rattle.records.specs.declared.order.Order.TheVariants.{Put, Compute, Copy, Drop, Store, Load, Print}
use Rattle.records.specs.Contexts.{checked_context, ext_at}
use Rattle.records.specs.Orders.{wanted}
use Rattle.heap.specs.Values.{Value, integer, object, Values, nil, cons, count_of, appended, first_of, rest_of, value_at, copies, KindsFrom}
use Rattle.heap.specs.Orders.{list_of}
use Rattle.order_spec.specs.Writes.{made, made_all, kind_at, context_after, present, asked}
use Rattle.order_spec.specs.Plain.{integer_of, plainly, AsStored, OwedKinds}
use Rattle.word.specs.Results.{result}
use Rattle.order_context_proof.proofs.Bindings.{good_length, good_append, good_take, good_made, good_made_all}
use Rattle.order_context_proof.proofs.KindsAfter.{ext_left, ext_right, ext_take, is_ext, ext_made, ext_made_all, kind_at_lem}
use Rattle.order_context_proof.proofs.ValueKinds.{count_joined, count_first, count_copies, is_integer, kinds_at, kinds_joined, kinds_first, kinds_copies, kinds_cons, kinds_moved}

-- an accepted context with a binding for each value, of its kind
abbrev pub ContextOf : List ℕ → Values → Type 0
ContextOf s vs = (checked_context s ≡ Ok (count_of vs)) × KindsFrom (ext_at s) 0 vs

-- ---- the parts of which contexts are made

pub context_joined : (s t : List ℕ) (vs ws : Values) → ContextOf s vs → ContextOf t ws → count_of vs + count_of ws ≤ 4096 → ContextOf (s ++ t) (appended vs ws)
context_joined s t vs ws a b h =
    let long = (good_length s a.0).0 in
    let e : 0 + count_of vs ≡ count_of vs = omega arith in
    let left : KindsFrom (ext_at (s ++ t)) 0 vs =
    kinds_moved (ext_at s) (ext_at (s ++ t)) 0 0 vs (λ x l. ext_left s t (count_of vs) long (0 + x) (omega arith)) a.1 in
    let right : KindsFrom (ext_at (s ++ t)) (count_of vs) ws =
    kinds_moved (ext_at t) (ext_at (s ++ t)) 0 (count_of vs) ws (λ x l. let z : 0 + x ≡ x = omega arith in rw z (ext_right s t (count_of vs) long x)) b.1 in
    (rw (count_joined vs ws) (good_append s t a.0 b.0 h), kinds_joined (ext_at (s ++ t)) 0 vs ws left (rw e right))

pub context_first : (s : List ℕ) (vs : Values) (n : ℕ) → ContextOf s vs → n ≤ count_of vs → ContextOf (take (8 * n) s) (first_of n vs)
context_first s vs n a h =
    let c = count_first n vs h in (
      rw c (good_take s n a.0 h),
      kinds_moved (ext_at s) (ext_at (take (8 * n) s)) 0 0 (first_of n vs) (λ x l. ext_take s n (0 + x) (omega arith)) (kinds_first (ext_at s) 0 n vs a.1),
    )

pub context_copies : (kind : Kind) (place n : ℕ) (v : Value) → is_ext kind ≡ is_integer v → n ≤ 4096 → ContextOf (made_all kind place n) (copies n v)
context_copies kind place n v e h = (
  rw (count_copies n v) (good_made_all kind place n h),
  kinds_copies (ext_at (made_all kind place n)) 0 n v (λ x l. ext_made_all kind place n (0 + x) (omega arith) ∙ e),
)

pub context_one : (kind : Kind) (place : ℕ) (v : Value) → is_ext kind ≡ is_integer v → ContextOf (made kind place) (cons v nil)
context_one kind place v e = (good_made kind place, kinds_cons (ext_at (made kind place)) 0 v nil (ext_made kind place ∙ e) tt)

-- ---- each order

as_stored : (bindings : List ℕ) (n : ℕ) (v : Value) → AsStored bindings n v → (count_of (list_of v) ≡ n) × KindsFrom (ext_at bindings) 0 (list_of v)
as_stored bindings n (integer w) a = absurd a
as_stored bindings n (object tag ws) a = a

-- variables that are copied or loaded, and one that is stored, stay below a limit
module _ (most limit k : ℕ) (h : most ≤ 2 * limit + 1) (l : k ≤ limit) where
  room_for : (n none : ℕ) → cond (eqb n 0) none (2 * (k + n)) ≤ most → k + n ≤ limit
  room_for zero none a = omega arith
  room_for (suc n) none a = let b = rw (ne_eqb (suc n) 0 (λ e. omega arith)) at a in omega arith

  room_for_one : (n : ℕ) → cond (eqb n 0) (2 * k + 2) (2 * k) ≤ most → n ≤ k → (k - n) + 1 ≤ limit
  room_for_one zero a m = omega arith
  room_for_one (suc n) a m = omega arith

module _ (context bindings : List ℕ) (k : ℕ) (vs : Values) (count : count_of vs ≡ k) where
  -- how many values there are after it: within a limit, which the positions fit, where there were before
  pub count_within : (most limit : ℕ) (o : Order) → most ≤ 2 * limit + 1 → k ≤ limit → present context k bindings o ≡ true → asked context k bindings o ≤ most → OwedKinds bindings o vs
      → count_of (plainly o vs) ≤ limit
  unfolding plainly present asked
  count_within most limit (Put value) h l p a q = omega (arith, count_joined vs (cons (integer value) nil))
  count_within most limit (Compute operation x y) h l p a q = rw (count_joined vs) (omega arith)
  count_within most limit (Copy x n) h l p a q = rw (count_joined vs (copies n (value_at x vs)), count_copies n, count) (room_for most limit k h l n _ a)
  count_within most limit Drop h l p a q = omega (arith, count_first (count_of vs - 1) vs (omega arith))
  count_within most limit (Store n tag) h l p a q =
      let m = leb-true n k p in
      let r = room_for_one most limit k h l n a m in
      rw (count_joined (first_of (count_of vs - n) vs), count_first (count_of vs - n) vs (omega arith)) (omega arith)
  count_within most limit (Load n) h l p a q =
      let r = room_for most limit (k - 1) h (omega arith) n 0 a in
      let c = (as_stored bindings n (value_at (count_of vs - 1) vs) q).0 in
      rw (count_joined (first_of (count_of vs - 1) vs), count_first (count_of vs - 1) vs (omega arith), c) (omega arith)
  count_within most limit (Print newline x) h l p a q = omega arith

  module _ (good : checked_context context ≡ Ok k) (kinds : KindsFrom (ext_at context) 0 vs) where
    before : ContextOf context vs
    before = (rw count good, kinds)

    -- the first n variables kept, and those of ws after them
    kept_then : (n : ℕ) (t : List ℕ) (ws : Values) → n ≤ k → ContextOf t ws → n + count_of ws ≤ 4096 → ContextOf (take (8 * n) context ++ t) (appended (first_of n vs) ws)
    kept_then n t ws l b h =
        context_joined (take (8 * n) context) t (first_of n vs) ws (context_first context vs n before (omega arith)) b (omega (arith, count_first n vs (omega arith)))

    pub context_after_lem : (most : ℕ) (o : Order) → most ≤ 2 * 4096 + 1 → checked_context bindings ≡ Ok (wanted o) → present context k bindings o ≡ true
        → asked context k bindings o ≤ most → OwedKinds bindings o vs
        → ContextOf (context_after context k bindings o) (plainly o vs)
    unfolding context_after plainly present asked
    context_after_lem most (Put value) within b p a q =
        context_joined context (made Ext k) vs (cons (integer value) nil) before (context_one Ext k (integer value) refl) (omega arith)
    context_after_lem most (Compute operation x y) within b p a q =
        let w = result operation (integer_of (value_at x vs)) (integer_of (value_at y vs)) in
        context_joined context (made Ext k) vs (cons (integer w) nil) before (context_one Ext k (integer w) refl) (omega arith)
    context_after_lem most (Copy x n) within b p a q =
        let r = room_for most 4096 k (omega arith) (good_length context good).1 n _ a in
        let z : 0 + x ≡ x = omega arith in
        let s : is_ext (kind_at context x) ≡ is_integer (value_at x vs) =
        kind_at_lem context x ∙ (rw z at (kinds_at (ext_at context) 0 vs x kinds (omega (arith, ltb-true x k p)))) in
        context_joined context (made_all (kind_at context x) k n) vs (copies n (value_at x vs)) before (context_copies (kind_at context x) k n (value_at x vs) s (omega arith))
        (omega (arith, count_copies n (value_at x vs)))
    context_after_lem most Drop within b p a q = rw (← count) (context_first context vs (count_of vs - 1) before (omega arith))
    context_after_lem most (Store n tag) within b p a q =
        let r = room_for_one most 4096 k (omega arith) (good_length context good).1 n a (leb-true n k p) in
        let v = object tag (rest_of (count_of vs - n) vs) in
        rw (← count) (kept_then (count_of vs - n) (made Linked (count_of vs - n)) (cons v nil) (omega arith) (context_one Linked (count_of vs - n) v refl) (omega arith))
    context_after_lem most (Load n) within b p a q =
        let w = (good_length context good).1 in
        let r = room_for most 4096 (k - 1) (omega arith) (omega arith) n 0 a in
        let s = as_stored bindings n (value_at (count_of vs - 1) vs) q in
        rw (← count) (kept_then (count_of vs - 1) bindings (list_of (value_at (count_of vs - 1) vs)) (omega arith) (rw s.0 b, s.1) (omega (arith, s.0)))
    context_after_lem most (Print newline x) within b p a q = before
