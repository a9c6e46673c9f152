-- The kinds of values joined, split, copied and taken one by one, and how many there are.
use Prim.Native.Nat.{ℕ, zero, suc, ◌+◌, ◌≤◌, ◌<◌}
use mathlib.Core.Path.{◌≡◌, refl, sym, ap, ◌∙◌}
use mathlib.Core.Bool.{Bool, true, false}
use native.Mathlib.Omega.{arith}
use Rattle.records.proofs.Conditions.{never}
use Rattle.heap.specs.Values.{Value, integer, object, Values, nil, cons, count_of, appended, first_of, value_at, copies, KindsFrom}

-- ---- how many

pub count_joined : (vs ws : Values) → count_of (appended vs ws) ≡ count_of vs + count_of ws
count_joined nil ws = omega arith
count_joined (cons v vs) ws = omega (arith, count_joined vs ws)

pub count_first : (n : ℕ) (vs : Values) → n ≤ count_of vs → count_of (first_of n vs) ≡ n
count_first zero vs h = refl
count_first (suc n) nil h = absurd (omega arith)
count_first (suc n) (cons v vs) h = ap suc (count_first n vs (omega arith))

pub count_copies : (n : ℕ) (v : Value) → count_of (copies n v) ≡ n
count_copies zero v = refl
count_copies (suc n) v = ap suc (count_copies n v)

-- ---- of which kinds

abbrev pub is_integer : Value → Bool
is_integer (integer w) = true
is_integer (object tag vs) = false

module _ (ext : ℕ → Bool) where
  -- one value before others
  pub kinds_cons : (v : ℕ) (w : Value) (vs : Values) → ext v ≡ is_integer w → KindsFrom ext (suc v) vs → KindsFrom ext v (cons w vs)
  kinds_cons v (integer w) vs e k = (e, k)
  kinds_cons v (object tag ws) vs e k = (e, k)

  pub kinds_head : (v : ℕ) (w : Value) (vs : Values) → KindsFrom ext v (cons w vs) → (ext v ≡ is_integer w) × KindsFrom ext (suc v) vs
  kinds_head v (integer w) vs k = k
  kinds_head v (object tag ws) vs k = k

  pub kinds_at : (v : ℕ) (vs : Values) (a : ℕ) → KindsFrom ext v vs → a < count_of vs → ext (v + a) ≡ is_integer (value_at a vs)
  kinds_at v nil a k h = absurd (omega arith)
  kinds_at v (cons w vs) zero k h = let e : v + 0 ≡ v = omega arith in rw e (kinds_head v w vs k).0
  kinds_at v (cons w vs) (suc a) k h = let e : v + suc a ≡ suc v + a = omega arith in rw e (kinds_at (suc v) vs a (kinds_head v w vs k).1 (omega arith))

  pub kinds_joined : (v : ℕ) (vs ws : Values) → KindsFrom ext v vs → KindsFrom ext (v + count_of vs) ws → KindsFrom ext v (appended vs ws)
  kinds_joined v nil ws k l = let e : v + 0 ≡ v = omega arith in rw e at l
  kinds_joined v (cons w vs) ws k l =
      let e : v + suc (count_of vs) ≡ suc v + count_of vs = omega arith in
      let p = kinds_head v w vs k in
      kinds_cons v w (appended vs ws) p.0 (kinds_joined (suc v) vs ws p.1 (rw e at l))

  pub kinds_first : (v n : ℕ) (vs : Values) → KindsFrom ext v vs → KindsFrom ext v (first_of n vs)
  kinds_first v zero vs k = tt
  kinds_first v (suc n) nil k = tt
  kinds_first v (suc n) (cons w vs) k = let p = kinds_head v w vs k in kinds_cons v w (first_of n vs) p.0 (kinds_first (suc v) n vs p.1)

  pub kinds_copies : (v n : ℕ) (w : Value) → ((x : ℕ) → x < n → ext (v + x) ≡ is_integer w) → KindsFrom ext v (copies n w)
  kinds_copies v zero w f = tt
  kinds_copies v (suc n) w f =
      let e : v + 0 ≡ v = omega arith in
      kinds_cons v w (copies n w) (rw e at (f 0 (omega arith))) (kinds_copies (suc v) n w (λ x h. let q : v + suc x ≡ suc v + x = omega arith in rw q at (f (suc x) (omega arith))))

  -- a variable that is an integer has one for its value
  pub integer_at_lem : (v : ℕ) (vs : Values) (a : ℕ) → KindsFrom ext v vs → a < count_of vs → ext (v + a) ≡ true → (w : ℕ) × (value_at a vs ≡ integer w)
  integer_at_lem v vs a k h e = by (value_at a vs) refl (sym e ∙ kinds_at v vs a k h)
    where
      by : (w : Value) → value_at a vs ≡ w → true ≡ is_integer (value_at a vs) → (n : ℕ) × (value_at a vs ≡ integer n)
      by (integer w) q t = (w, q)
      by (object tag ws) q t = never (sym (rw q at t))

-- the same values from another variable on, where the kinds are the same
pub kinds_moved : (ext ext' : ℕ → Bool) (v v' : ℕ) (vs : Values) → ((x : ℕ) → x < count_of vs → ext' (v' + x) ≡ ext (v + x)) → KindsFrom ext v vs → KindsFrom ext' v' vs
kinds_moved ext ext' v v' nil f k = tt
kinds_moved ext ext' v v' (cons w vs) f k =
    let p = kinds_head ext v w vs k in
    let e : v + 0 ≡ v = omega arith in
    let e' : v' + 0 ≡ v' = omega arith in
    kinds_cons ext' v' w vs (rw (e, e') at (f 0 (omega arith)) ∙ p.0) (kinds_moved ext ext' (suc v) (suc v') vs (λ x h. later x (f (suc x) (omega arith))) p.1)
  where
    later : (x : ℕ) → ext' (v' + suc x) ≡ ext (v + suc x) → ext' (suc v' + x) ≡ ext (suc v + x)
    later x q =
        let e : v + suc x ≡ suc v + x = omega arith in
        let e' : v' + suc x ≡ suc v' + x = omega arith in
        rw (e, e') at q
