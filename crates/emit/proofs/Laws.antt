-- Laws of emission: parts in a row, a part whose labels go on from the last, labels drawn late, a choice of two parts.
use Prim.Native.Nat.{ℕ, ◌+◌, ◌*◌}
use mathlib.Core.Bool.{true}
use mathlib.Core.Path.{◌≡◌, refl, ap, sym, ◌∙◌, subst}
use mathlib.Core.List.{List, [], ◌∷◌, ◌++◌, append_assoc}
use native.Mathlib.Nat.{add-zero, zero-add}
use native.Mathlib.Omega.{arith}
use lib.ListN.{length, length-append}
use Rattle.records.specs.declared.code.Code.{Code}
use Rattle.records.specs.declared.code.Code.TheVariants.{JEL, JMPL, LAB}
use Rattle.records.specs.declared.code.Fields.{Fields}
use Rattle.records.specs.Bytes.{stored}
use Rattle.records.specs.Instructions.{fields_bytes}
use Rattle.trees.specs.Tree.{Tree, straight, nop, seq, if_zero, labels, flat_at, flat}
use Rattle.trees.proofs.Flat.{flat_from, length_flat}
use Rattle.emit.specs.declared.cursor.Cursor.{Cursor}
use Rattle.emit.specs.Emitted.{written, fields_list, Emitted, Emits}

written_append : (xs ys : List Fields) (o : List ℕ) (i : ℕ) → written (written o i xs) (i + 24 * length xs) ys ≡ written o i (xs ++ ys)
written_append [] ys o i = rw add-zero
written_append (x ∷ xs) ys o i =
    let e : i + 24 * length (x ∷ xs) ≡ i + 24 + 24 * length xs = omega arith in
    rw e (written_append xs ys (stored o i (fields_bytes x)) (i + 24))

infixl 5 ◌⨾◌
-- lists in a row
pub ◌⨾◌ : {o o₁ o₂ : List ℕ} {p p₁ p₂ : Cursor} {xs ys : List Fields} {m n : ℕ} → Emitted o p o₁ p₁ xs m → Emitted o₁ p₁ o₂ p₂ ys n → Emitted o p o₂ p₂ (xs ++ ys) (m + n)
◌⨾◌ {o} {p = p} {xs = xs} {ys} d e =
    record {
      bytes = rw (e.bytes, d.bytes, d.place) (written_append xs ys o p.at);
      place = omega (arith, d.place, e.place, length-append xs ys);
      drawn = omega (arith, d.drawn, e.drawn);
    }

-- n labels drawn at the end
pub counted : {o o₁ : List ℕ} {p p₁ q : Cursor} {xs : List Fields} {m : ℕ} (n : ℕ) → Emitted o p o₁ p₁ xs m → q ≡ record { at = p₁.at; counter = p₁.counter + n } → Emitted o p o₁ q xs (m + n)
counted n d e = rw e (record { bytes = d.bytes; place = d.place; drawn = omega (arith, d.drawn) })

-- the second part's labels go on from where the first left the counter
then : (F : ℕ → List Fields) {o o₁ o₂ : List ℕ} {p p₁ p₂ : Cursor} {xs : List Fields} {m n : ℕ} → Emitted o p o₁ p₁ xs m → Emitted o₁ p₁ o₂ p₂ (F p₁.counter) n → Emitted o p o₂ p₂ (xs ++ F (p.counter + m)) (m + n)
then F {o₁ = o₁} {o₂} {p₁ = p₁} {p₂} {n = n} d e = d ⨾ subst (λ (k : ℕ). Emitted o₁ p₁ o₂ p₂ (F k) n) d.drawn e

-- the same after records that draw none
pub then₀ : (F : ℕ → List Fields) {o o₁ o₂ : List ℕ} {p p₁ p₂ : Cursor} {xs : List Fields} {n : ℕ} → Emitted o p o₁ p₁ xs 0 → Emitted o₁ p₁ o₂ p₂ (F p₁.counter) n → Emitted o p o₂ p₂ (xs ++ F p.counter) (0 + n)
then₀ F {o₁ = o₁} {o₂} {p} {p₁} {p₂} {n = n} d e = d ⨾ subst (λ (k : ℕ). Emitted o₁ p₁ o₂ p₂ (F k) n) (d.drawn ∙ add-zero p.counter) e

pub fields_append : (xs ys : List Code) → fields_list (xs ++ ys) ≡ fields_list xs ++ fields_list ys
fields_append [] ys = refl
fields_append (x ∷ xs) ys = rw (fields_append xs ys)

pub length_fields : (xs : List Code) → length (fields_list xs) ≡ length xs
length_fields [] = refl
length_fields (x ∷ xs) = rw (length_fields xs)

-- a list of records that are a tree's
pub grown : {o o' : List ℕ} {p q : Cursor} (t : Tree) {xs : List Fields} {n : ℕ} → Emitted o p o' q xs n → xs ≡ fields_list (flat t p.counter) → n ≡ labels t → Emits o p o' q t
grown {p = p} t d e k =
    record {
      bytes = rw (← e) d.bytes;
      place = omega (arith, d.place, ap length e, length_fields (flat t p.counter), length_flat t p.counter 0);
      drawn = omega (arith, d.drawn);
    }

-- a tree's records as a list
pub listed : {o o' : List ℕ} {p q : Cursor} {t : Tree} → Emits o p o' q t → Emitted o p o' q (fields_list (flat t p.counter)) (labels t)
listed {p = p} {t = t} d =
    record {
      bytes = d.bytes;
      place = omega (arith, d.place, length_fields (flat t p.counter), length_flat t p.counter 0);
      drawn = d.drawn;
    }

pub emits_nop : {o : List ℕ} {p : Cursor} → Emits o p o p nop
emits_nop = record { bytes = refl; place = omega arith; drawn = omega arith }

infixr 5 ◌⨟◌
-- trees in a row
pub ◌⨟◌ : {o o₁ o₂ : List ℕ} {p p₁ p₂ : Cursor} {t u : Tree} → Emits o p o₁ p₁ t → Emits o₁ p₁ o₂ p₂ u → Emits o p o₂ p₂ (seq t u)
◌⨟◌ {p = p} {t = t} {u} d e =
    let k : flat u (p.counter + labels t) ≡ flat_at u p.counter (0 + labels t) = flat_from u p.counter (labels t) ∙ ap (flat_at u p.counter) (sym (zero-add (labels t))) in
    grown (seq t u) (then (λ c. fields_list (flat u c)) (listed d) (listed e)) (rw (fields_append (flat t p.counter) (flat_at u p.counter (0 + labels t)), ← k)) refl

-- the same records from a cursor at the same byte with another counter
moved : {o o' : List ℕ} {p p' q : Cursor} {xs : List Fields} {n : ℕ} (m : ℕ) → Emitted o p o' q xs n → p'.at ≡ p.at → Emitted o p' o' (record { at = q.at; counter = p'.counter + m }) xs m
moved m d e = record { bytes = rw e d.bytes; place = rw e d.place; drawn = refl }

-- a choice: the second part stands first, and its labels come after the first part's
pub chosen : {x : Code} (f : straight x ≡ true) (l l' : ℕ) {t e : Tree} {o o₁ o₂ o₃ o₄ o₅ : List ℕ} {p p₁ q₁ p₂ p₃ q₃ p₄ p₅ : Cursor}
    → Emitted o p o₁ p₁ (fields_list (x ∷ JEL l ∷ [])) 0
    → q₁.at ≡ p₁.at
    → q₁.counter ≡ p.counter + labels t
    → Emits o₁ q₁ o₂ p₂ e
    → Emitted o₂ p₂ o₃ p₃ (fields_list (JMPL l' ∷ LAB l ∷ [])) 0
    → q₃.at ≡ p₃.at
    → q₃.counter ≡ p.counter
    → Emits o₃ q₃ o₄ p₄ t
    → Emitted o₄ p₄ o₅ p₅ (fields_list (LAB l' ∷ [])) (labels e + 2)
    → l ≡ p.counter + labels t + labels e + 1
    → l' ≡ p.counter + labels t + labels e + 2
    → Emits o p o₅ p₅ (if_zero x f t e)
chosen {x} f l l' {t} {e} {p = p} {p₁ = p₁} a ia ca b m im cm d z k k' =
    let c = p.counter in
    let k₁ : c + (0 + labels t + labels e + 1) ≡ l = omega arith in
    let k₂ : c + (0 + labels t + labels e + 2) ≡ l' = omega arith in
    let k₃ : flat_at e c (0 + labels t) ≡ flat e (c + labels t) = ap (flat_at e c) (zero-add (labels t)) ∙ sym (flat_from e c (labels t)) in
    let w = a ⨾ moved {p' = p₁} 0 (listed b) (sym ia) ⨾ moved 0 m refl ⨾ moved 0 (listed d) (sym im) ⨾ moved 0 z refl in
    let y : fields_list (flat (if_zero x f t e) c)
    ≡ fields_list (x ∷ JEL l ∷ []) ++ fields_list (flat e (c + labels t)) ++ fields_list (JMPL l' ∷ LAB l ∷ []) ++ fields_list (flat t c) ++ fields_list (LAB l' ∷ [])
    = simp (k₁, k₂, k₃, fields_append, append_assoc) in
    let v = rw (ca, cm, ← y) at w in
    record {
      bytes = v.bytes;
      place = omega (arith, v.place, length_fields (flat (if_zero x f t e) c), length_flat (if_zero x f t e) c 0);
      drawn = omega (arith, z.drawn, d.drawn);
    }
