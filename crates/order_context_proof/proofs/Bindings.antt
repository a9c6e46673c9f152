-- Accepted contexts joined, shortened and made are accepted again.
use Rattle.std.specs.Prelude.{Ok}
use Prim.Native.Nat.{ℕ, zero, suc, ◌+◌, ◌*◌, ◌-◌, ◌≤◌, ◌<◌}
use mathlib.Core.Path.{◌≡◌, refl, sym, ◌∙◌}
use mathlib.Core.Bool.{true}
use mathlib.Core.List.{List, [], ◌++◌}
use native.Mathlib.Omega.{arith}
use native.Mathlib.Decide.{dec_lt}
use lib.ListN.{length, get_or, take, drop, length-append, length-drop, take-append-drop, get_or-append}
use lib.Seq.{length-take-le, drop-append-le, drop-append-add}
use borrow.Author.Tests.{le-leb}
use Rattle.records.specs.declared.binding.Kind.{Kind}
use Rattle.records.specs.declared.binding.Kind.TheVariants.{Linked, Ext}
use Rattle.records.specs.Bytes.{le}
use Rattle.records.specs.Contexts.{binding_bytes, first_flaw, binding_starts, checked_context}
use Rattle.records.proofs.ContextsRead.{Bindings, whole, is_accepted_lem}
use Rattle.order_spec.specs.Writes.{made, made_all}

pub good_length : (s : List ℕ) {n : ℕ} → checked_context s ≡ Ok n → (length s ≡ 8 * n) × (n ≤ 4096)
good_length s e = let b = whole s e in (b.long, b.within)

-- a binding at the start is not changed by what follows it
starts_more : (s t : List ℕ) → 8 ≤ length s → binding_starts (s ++ t) ≡ binding_starts s
unfolding binding_starts
starts_more s t h =
    let at : (i : ℕ) → i < 8 → get_or (s ++ t) i 0 ≡ get_or s i 0 = λ i l. get_or-append s t 0 i (omega arith) in
    let n : 8 ≤ length (s ++ t) = simp length-append (omega arith) in
    rw (le-leb 8 (length (s ++ t)) n, le-leb 8 (length s) h, at 0 (omega arith), at 1 (omega arith), at 2 (omega arith), at 3 (omega arith))

module _ (s t : List ℕ) (k : ℕ) (long : length s ≡ 8 * k) where
  starts_left : (i : ℕ) → i < k → binding_starts (drop (8 * i) (s ++ t)) ≡ binding_starts (drop (8 * i) s)
  starts_left i h = rw (drop-append-le (8 * i) s t (omega arith)) (starts_more (drop (8 * i) s) t (simp length-drop (omega arith)))

  starts_right : (i : ℕ) → k ≤ i → binding_starts (drop (8 * i) (s ++ t)) ≡ binding_starts (drop (8 * (i - k)) t)
  starts_right i h = let e : 8 * i ≡ length s + 8 * (i - k) = omega arith in rw (e, drop-append-add s t (8 * (i - k)))

module _ (s t : List ℕ) {k m : ℕ} (a : Bindings s k) (b : Bindings t m) (h : k + m ≤ 4096) where
  bindings_append : Bindings (s ++ t) (k + m)
  bindings_append = record {
    long = simp length-append (omega (arith, a.long, b.long));
    within = h;
    each = λ i l. by i l (dec_lt i k);
  }
    where
      by : (i : ℕ) → i < k + m → Dec (i < k) → binding_starts (drop (8 * i) (s ++ t)) ≡ true
      by i l (yes q) = starts_left s t k a.long i q ∙ a.each i q
      by i l (no q) = starts_right s t k a.long i (omega arith) ∙ b.each (i - k) (omega arith)

pub good_append : (s t : List ℕ) {k m : ℕ} → checked_context s ≡ Ok k → checked_context t ≡ Ok m → k + m ≤ 4096 → checked_context (s ++ t) ≡ Ok (k + m)
good_append s t a b h = is_accepted_lem (s ++ t) (bindings_append s t (whole s a) (whole t b) h)

-- the first n of k
bindings_take : (s : List ℕ) (n : ℕ) {k : ℕ} → Bindings s k → n ≤ k → Bindings (take (8 * n) s) n
bindings_take s n b h =
    let l : length (take (8 * n) s) ≡ 8 * n = length-take-le (8 * n) s (omega (arith, b.long)) in
    let e : take (8 * n) s ++ drop (8 * n) s ≡ s = take-append-drop (8 * n) s in
    record {
      long = l;
      within = omega (arith, b.within);
      each = λ i q. sym (starts_left (take (8 * n) s) (drop (8 * n) s) n l i q) ∙ rw e (b.each i (omega arith));
    }

pub good_take : (s : List ℕ) (n : ℕ) {k : ℕ} → checked_context s ≡ Ok k → n ≤ k → checked_context (take (8 * n) s) ≡ Ok n
good_take s n a h = is_accepted_lem (take (8 * n) s) (bindings_take s n (whole s a) h)

pub good_none : checked_context [] ≡ Ok 0
unfolding checked_context first_flaw
good_none = refl

pub good_made : (kind : Kind) (place : ℕ) → checked_context (made kind place) ≡ Ok 1
unfolding checked_context first_flaw binding_bytes le
good_made Linked place = refl
good_made Ext place = refl

pub good_made_all : (kind : Kind) (place n : ℕ) → n ≤ 4096 → checked_context (made_all kind place n) ≡ Ok n
good_made_all kind place zero h = good_none
good_made_all kind place (suc n) h =
    let e : 1 + n ≡ suc n = omega arith in
    rw e at (good_append (made kind place) (made_all kind (suc place) n) (good_made kind place) (good_made_all kind (suc place) n (omega arith)) (omega arith))
