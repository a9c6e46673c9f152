-- Bytes put at an index, one after the other, are put together.
use Prim.Native.Nat.{ℕ, ◌+◌, ◌≤◌, ◌<◌}
use mathlib.Core.Path.{◌≡◌, refl, sym, ap, ◌∙◌, subst}
use mathlib.Core.List.{List, [], ◌∷◌, ◌++◌}
use native.Mathlib.Nat.{add-zero}
use native.Mathlib.Numerals.{add-one}
use native.Mathlib.Omega.{arith}
use lib.ListN.{length, get_or, set, take, length-append}
use lib.Seq.{length-sets, set_out, take-suc, take_all}
use Rattle.records.proofs.Storing.{sets_then}
use Rattle.text.specs.Putting.{Puts}

pub nothing : (o : List ℕ) (i : ℕ) → Puts 0 o i o i []
nothing o i = record { bytes = refl; next = sym (add-zero i); few = omega arith }

-- a byte that fits, and one that does not
module _ (o : List ℕ) (i b : ℕ) {o' : List ℕ} where
  pub stored_one : o' ≡ set o i b → Puts 1 o i o' (i + 1) (b ∷ [])
  stored_one e = record { bytes = e; next = refl; few = omega arith }

  pub passed_one : o' ≡ o → length o ≤ i → Puts 1 o i o' (i + 1) (b ∷ [])
  passed_one e h = record { bytes = e ∙ sym (set_out o i b h); next = refl; few = omega arith }

pub same_length : {m i j : ℕ} {o o' bs : List ℕ} → Puts m o i o' j bs → length o' ≡ length o
same_length p = ap length p.bytes ∙ simp length-sets

pub at_most : {m n i j : ℕ} {o o' bs : List ℕ} → Puts m o i o' j bs → m ≤ n → Puts n o i o' j bs
at_most p h = record { bytes = p.bytes; next = p.next; few = omega arith }

infixl 40 ◌⨟◌
pub ◌⨟◌ : {m n i j k : ℕ} {o o' o'' bs cs : List ℕ} → Puts m o i o' j bs → Puts n o' j o'' k cs → Puts (m + n) o i o'' k (bs ++ cs)
◌⨟◌ {i = i} {j = j} {o = o} {bs = bs} {cs = cs} p q =
    record {
      bytes = q.bytes ∙ (rw p.bytes (sets_then bs cs o i j (sym p.next)));
      next = simp length-append (omega arith);
      few = omega arith;
    }

-- a list put byte by byte
module _ (s : List ℕ) (k : ℕ) {i j : ℕ} {o o' : List ℕ} (so_far : Puts k o i o' j (take k s)) where
  pub one_more : {o'' : List ℕ} {n : ℕ} → k < length s → Puts 1 o' j o'' n (get_or s k 0 ∷ []) → Puts (k + 1) o i o'' n (take (k + 1) s)
  one_more h p = let e : take (k + 1) s ≡ take k s ++ (get_or s k 0 ∷ []) = rw add-one (take-suc s k 0 h) in rw e (so_far ⨟ p)

  pub all_put : k ≤ length s → length s ≤ k → Puts (length s) o i o' j s
  all_put g h = at_most (subst (λ (l : List ℕ). Puts k o i o' j l) (take_all k s h) so_far) g
