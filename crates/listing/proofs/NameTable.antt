-- The table of names, as the code has it, holds each code's name: one computed test over its 44 entries.
use Prim.Native.Nat.{ℕ, ◌+◌, ◌*◌, ◌-◌, ◌≤◌}
use mathlib.Core.Path.{◌≡◌, refl, ◌∙◌, subst}
use mathlib.Core.Bool.{Bool, true, false, ◌&&◌}
use mathlib.Core.List.{List, [], ◌∷◌, ◌++◌, map}
use native.Mathlib.Omega.{arith}
use lib.Dec.{T, leb, leb→le, eqb, eqb→eq}
use lib.ListN.{length, get_or, take, drop, replicate, length-take}
use Rattle.records.proofs.Table.{both_left, both_right, at}
use Rattle.listing.specs.Names.{code_names}
use Rattle.listing.specs.Listing.{code_name}
use Rattle.text.specs.Putting.{Puts}
use Rattle.text.proofs.Putting.{at_most}

-- twelve bytes for each name: its length, then the name, filled up by spaces
abbrev pub entries : List (List ℕ) → List ℕ
entries [] = []
entries (name ∷ names) = (length name ∷ name) ++ replicate (11 - length name) 32 ++ entries names

abbrev pub table : List ℕ
table = entries code_names

same : List ℕ → List ℕ → Bool
same [] [] = true
same [] (y ∷ ys) = false
same (x ∷ xs) [] = false
same (x ∷ xs) (y ∷ ys) = eqb x y && same xs ys

same_list : (xs ys : List ℕ) → T (same xs ys) → xs ≡ ys
unfolding same
same_list [] [] t = refl
same_list [] (y ∷ ys) t = absurd t
same_list (x ∷ xs) [] t = absurd t
same_list (x ∷ xs) (y ∷ ys) t = rw (eqb→eq x y (both_left (eqb x y) (same xs ys) t), same_list xs ys (both_right (eqb x y) (same xs ys) t))

-- entry k, whose name has n bytes
right : ℕ → ℕ → Bool
right k n = leb n 11 && (eqb (get_or table (12 * k) 0) n && same (take n (drop (12 * k + 1) table)) (get_or code_names k []))

lengths : List ℕ
lengths = map length code_names

-- what `put_spaced_name` reads of the table: w is the code, b the byte where its entry starts
module _ (code : ℕ) (l : 1 ≤ code) (h : code ≤ 44) {w b : ℕ} (e : w ≡ code) (f : b ≡ get_or table (12 * (w - 1)) 0) where
  tested : T (right (code - 1) (get_or lengths (code - 1) 0))
  unfolding right same lengths code_names
  tested = at right lengths tt (code - 1) (omega arith)

  name_length : (b ≡ get_or lengths (code - 1) 0) × (b ≤ 11)
  unfolding right
  name_length =
      let n = get_or lengths (code - 1) 0 in
      let d : b ≡ n = f ∙ rw e (eqb→eq _ n (both_left (eqb (get_or table (12 * (code - 1)) 0) n) _ (both_right (leb n 11) _ tested))) in
      (d, rw d (leb→le n 11 (both_left (leb n 11) _ tested)))

  pub name_short : b ≤ 11
  name_short = name_length.1

  abbrev part : List ℕ
  part = take (12 * (w - 1) + 1 + b - (12 * (w - 1) + 1)) (drop (12 * (w - 1) + 1) table)

  pub part_short : length part ≤ 11
  part_short = let s = name_short in simp length-take (omega arith)

  part_name : part ≡ code_name code_names code
  unfolding right
  part_name =
      let n = get_or lengths (code - 1) 0 in
      let d : 12 * (code - 1) + 1 + n - (12 * (code - 1) + 1) ≡ n = omega arith in
      rw (name_length.0, e, d) (same_list _ _ (both_right (eqb (get_or table (12 * (code - 1)) 0) n) _ (both_right (leb n 11) _ tested)))

  pub puts_name : {i j : ℕ} {o o' : List ℕ} → Puts (length part) o i o' j part → Puts 11 o i o' j (code_name code_names code)
  puts_name {i} {j} {o} {o'} p = subst (λ (bs : List ℕ). Puts 11 o i o' j bs) part_name (at_most p part_short)
