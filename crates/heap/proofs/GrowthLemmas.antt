-- The frontier after an order stays below a bound that leaves room for the blocks reachable before it and those it acquires.
use mathlib.Core.Path.{◌≡◌, refl, sym, ap, ◌∙◌}
use mathlib.Core.Logic.{◌≢◌}
use mathlib.Core.List.{List, [], ◌∷◌, ◌++◌}
use Prim.Native.Nat.{ℕ, suc, ◌+◌, ◌-◌, ◌≤◌, ◌<◌}
use native.Mathlib.Decide.{ℕ_discrete}
use native.Mathlib.Omega.{arith}
use lib.ListN.{length, length-append}
use Rattle.heap.specs.Counting.{occ}
use Rattle.heap.specs.Blocks.{Layout, Cell, cell, pointers, Memory}
use Rattle.heap.specs.Reachability.{Reachable, start, follow, ReachableFrom, ReachableCount}
use Rattle.heap.specs.Values.{Values, count_of, concat, lengths}
use Rattle.heap.specs.Orders.{HeapOrder, plain, Legal, Performs, puts, makes_copies, drops, stores_none, stores_some, loads_none, loads_last, loads_shared}
use Rattle.heap.proofs.Invariant.{Consistent, Represents}
use Rattle.heap.proofs.CountingLemmas.{same_self, occ_pointers, length_le}
use Rattle.heap.proofs.ValueLemmas.{hold_count}
use Rattle.heap.proofs.ReachabilityLemmas.{reachable_count_same}
use Rattle.heap.proofs.ConsistencyLemmas.{reachable_held}
use Rattle.heap.proofs.RoomLemmas.{reachable_counted, store_count}
use Rattle.heap.proofs.OrderLemmas.{stored_roots, stored_by, represents_same, represents_store, store_below}

-- HEAP's own block is not reachable: fewer blocks are than lie below the frontier
pub reachable_below : {L : Layout} {M : Memory} {linked : ℕ → ℕ} {n k : ℕ} {roots : List ℕ} → Consistent L M linked n roots → ReachableCount M.fields roots k → k < n
reachable_below {k = k} g r =
    omega (arith, r.size, g.invariant.size, length_le r.list g.live (λ b. by b))
  where
    by : (b : ℕ) → occ b r.list ≤ occ b g.live
    by b = at b (ℕ_discrete (occ b r.list) 0)
      where
        at : (b : ℕ) → Dec (occ b r.list ≡ 0) → occ b r.list ≤ occ b g.live
        at b (yes z) = omega arith
        at b (no z) = omega (arith, r.once b, (reachable_held g (r.listed b z)).is_live)

-- roots that are null lead nowhere
null_led : {children : ℕ → List ℕ} {starts : ℕ → ℕ} {b : ℕ} → ((x : ℕ) → x ≢ 0 → starts x ≡ 0) → Reachable children starts b → ⊥
null_led n (start {b} nz m) = m (n b nz)
null_led n (follow y r nz m) = null_led n r

pub nothing_led : (fields : ℕ → List Cell) (roots : List ℕ) → ((b : ℕ) → b ≢ 0 → occ b roots ≡ 0) → (count : ℕ) → ReachableCount fields roots count → count ≡ 0
nothing_led fields roots n count k = sym k.size ∙ by k.list k.listed
  where
    by : (bs : List ℕ) → ((b : ℕ) → occ b bs ≢ 0 → ReachableFrom fields roots b) → length bs ≡ 0
    by [] l = refl
    by (b ∷ bs) l = absurd (null_led n (l b (omega (arith, same_self b))))

pub none_reached : (fields : ℕ → List Cell) → ReachableCount fields [] 0
none_reached fields = record { list = []; size = refl; once = λ b. omega arith; listed = λ b m. absurd (m refl); complete = λ b r. absurd (null_led (λ x nz. refl) r) }

pub lengths_length : (chunks : List (List Cell)) → length (lengths chunks) ≡ length chunks
lengths_length [] = refl
lengths_length (c ∷ chunks) = ap suc (lengths_length chunks)

-- what holds after an order: the variables hold the plain machine's values, and the frontier is below the bound
pub record Bounded (sizes : ℕ → List ℕ) (L : Layout) (bound : ℕ) (M : Memory) (variables : List Cell) (values : Values) : Type 0 where
  pub frontier : ℕ
  pub below : frontier < bound
  pub represents : Represents sizes L M frontier variables values

module _ {sizes : ℕ → List ℕ} {L : Layout} {M : Memory} {m : ℕ} {values : Values} (none : [] ≡ sizes 0) (bound : ℕ) (low : m < bound) where
  same : {o : HeapOrder} {variables variables' : List Cell} {M' : Memory} → Performs sizes L M o variables M' variables' → Legal o values → stored_by o ≡ 0
      → Represents sizes L M m variables values → Bounded sizes L bound M' variables' (plain o values)
  same p l z s = record { frontier = m; below = low; represents = represents_same none p l z s }

  pub represents_bounded : {o : HeapOrder} {variables variables' : List Cell} {M' : Memory} → Performs sizes L M o variables M' variables' → Legal o values
      → Represents sizes L M m variables values → ((count : ℕ) → ReachableCount M.fields (pointers variables) count → suc (count + length (sizes (stored_by o))) < bound)
      → Bounded sizes L bound M' variables' (plain o values)
  unfolding plain
  represents_bounded (puts w xs) l s room = same (puts w xs) l refl s
  represents_bounded (makes_copies xs ys c n header' e) l s room = same (makes_copies xs ys c n header' e) l refl s
  represents_bounded (drops xs c header' lazy-head' e) l s room = same (drops xs c header' lazy-head' e) l refl s
  represents_bounded (stores_none xs tag) l s room = same (stores_none xs tag) l refl s
  represents_bounded (stores_some xs c chunks M' p tag e st) l s room =
      let ys = c ++ concat chunks in
      let q : count_of values - length ys ≡ length xs = omega (arith, hold_count sizes M.fields s.linked values (xs ++ ys) s.holds, length-append xs ys) in
      let r = reachable_counted s.consistent in
      rw q (record {
        frontier = (represents_store xs c chunks p tag e st s).frontier;
        below = store_below M' xs c chunks p tag e st s r.1 bound low (omega (arith, room r.0 r.1, ap length (sym e) ∙ lengths_length (c ∷ chunks)));
        represents = (represents_store xs c chunks p tag e st s).represents;
      })
  represents_bounded (loads_none xs c) l s room = same (loads_none xs c) l refl s
  represents_bounded (loads_last xs c n d chunks M' e rd z rl) l s room = same (loads_last xs c n d chunks M' e rd z rl) l refl s
  represents_bounded (loads_shared xs c n d chunks header' e rd q) l s room = same (loads_shared xs c n d chunks header' e rd q) l refl s

-- a store leaves the variables with the blocks that they led to before it and those it acquires
pub store_reaches : {sizes : ℕ → List ℕ} {L : Layout} {M M' : Memory} {m k k' : ℕ} {values : Values} {o : HeapOrder} {variables variables' : List Cell} → Performs sizes L M o variables M' variables' → stored_by o ≢ 0
    → Represents sizes L M m variables values → ReachableCount M.fields (pointers variables) k → ReachableCount M'.fields (pointers variables') k' → k' ≡ k + length (sizes (stored_by o))
store_reaches (puts w xs) z s r r' = absurd (z refl)
store_reaches (makes_copies xs ys c n header' e) z s r r' = absurd (z refl)
store_reaches (drops xs c header' lazy-head' e) z s r r' = absurd (z refl)
store_reaches (stores_none xs tag) z s r r' = absurd (z refl)
store_reaches {L} {M} {k'} (stores_some xs c chunks M' p tag e st) z s r r' =
    let after = reachable_count_same {roots' = p ∷ pointers xs} (λ b. omega (arith, occ_pointers b xs (cell p tag ∷ []))) r' in
    omega (arith, store_count M' p (pointers xs) c chunks st (stored_roots xs (concat (c ∷ chunks))) s.consistent r after, ap length (sym e) ∙ lengths_length (c ∷ chunks))
store_reaches (loads_none xs c) z s r r' = absurd (z refl)
store_reaches (loads_last xs c n d chunks M' e rd q rl) z s r r' = absurd (z refl)
store_reaches (loads_shared xs c n d chunks header' e rd q) z s r r' = absurd (z refl)
